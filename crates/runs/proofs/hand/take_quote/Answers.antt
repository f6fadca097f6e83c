use Rattle.std.proofs.Common.{sym}
use Rattle.std.proofs.lemmas.List.{get_or_past, set_past}
use Rattle.runs.proofs.hand.take_quote.Goals as goal

pub returns-then-slot-hand : goal.returns-then-slot-hand
returns-then-slot-hand c = record { quote = sym (get_or_past c.args.hand.now c.args.slot _ c.if-slot-hand.true); hand = sym (set_past c.args.hand.now c.args.slot _ c.if-slot-hand.true) }

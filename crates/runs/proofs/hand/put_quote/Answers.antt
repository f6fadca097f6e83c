use Rattle.std.proofs.Common.{sym}
use Rattle.std.proofs.lemmas.List.{set_past}
use Rattle.runs.proofs.hand.put_quote.Goals as goal

pub returns-else-slot-hand : goal.returns-else-slot-hand
returns-else-slot-hand c = sym (set_past c.args.hand.now c.args.slot _ c.if-slot-hand.false)

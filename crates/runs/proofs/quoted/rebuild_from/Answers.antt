use Rattle.std.proofs.Common.{Ok, Err, sym, ◌∙◌, ap₂}
use Rattle.runs.specs.Hands.{holding}
use Rattle.runs.proofs.Hands.{untouched, put_back}
use Rattle.runs.proofs.Steps.{unspent, spent_as}
use Rattle.runs.proofs.quoted.rebuild_from.Goals as goal

pub returns-in_default : goal.returns-in_default
returns-in_default g c =
    let hand = c.args.hand.now in
    let e = sym c.in_default.ensures.quote in
    record { made = unspent g.S.ColumnStore.view g.X.Symbol.zero g.X.Symbol.plus c.args.array.now.shape c.args.slot c.args.store.now hand c.take_quote.new.hand c.args.work.now e (c.take_quote.ensures.hand ∙ untouched hand c.args.slot e); book = λ b A. A }

pub returns-in-Ok : goal.returns-in-Ok
returns-in-Ok g c =
    let (made, book) = spent_as g.S.ColumnStore.view g.X.Symbol.zero g.X.Symbol.plus c.args.array.now.shape c.args.slot c.args.store.now c.rebuild.new.store c.args.hand.now c.take_quote.new.hand c.args.work.now c.rebuild.new.work c.in-Some.quote (Ok c.in-Ok.count) (sym c.in-Some.ensures.quote) c.take_quote.ensures.hand c.in-Ok.ensures.answer c.in-Ok.ensures.book in
    record { made = made; book = book }

pub returns-in-Err : goal.returns-in-Err
returns-in-Err g c =
    let hand = c.args.hand.now in
    let slot = c.args.slot in
    let e = sym c.in-Some.ensures.quote in
    let back = c.put_quote.ensures ∙ ap₂ (λ h q. holding h slot q) c.take_quote.ensures.hand c.in-Err.ensures.answer.1 ∙ put_back hand slot c.in-Some.quote e in
    let (made, book) = spent_as g.S.ColumnStore.view g.X.Symbol.zero g.X.Symbol.plus c.args.array.now.shape slot c.args.store.now c.rebuild.new.store hand c.put_quote.new.hand c.args.work.now c.rebuild.new.work c.in-Some.quote (Err c.in-Err.rejected) e back c.in-Err.ensures.answer c.in-Err.ensures.book in
    record { made = made; book = book }

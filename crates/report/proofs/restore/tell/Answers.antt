use Rattle.std.proofs.Common.{◌≡◌, ℕ, List, ◌++◌, Some, sym, ap, ◌∙◌, rules}
use Rattle.report.specs.Printed.{restored, refused, summary, told}
use Rattle.report.proofs.Marks.{none_told, rebuilt_told, refused_told}
use Rattle.report.proofs.restore.tell.Goals as goal

pub returns-in_default : goal.returns-in_default
returns-in_default g c =
    let v = g.S.ColumnStore.view c.args.store.now in
    c.in_ok-put_summary.ensures ∙ ap (λ (out : List ℕ). out ++ summary 0 0) c.new-out.ensures.bytes ∙ none_told c.args.array.now.shape v c.requires (sym c.in_default.ensures.answer)

pub returns-in_err-quote : goal.returns-in_err-quote
returns-in_err-quote g c =
    let s = c.args.array.now.shape in
    let v = g.S.ColumnStore.view c.args.store.now in
    let h : refused c.in_err-quote.field-0.0 ≡ told s v.lost v.at = refused_told s v c.requires c.in-Some.column c.in_err-quote.field-0.0 (sym c.in-Some.ensures.answer) c.in_err-quote.ensures.answer in
    search rules

pub returns : goal.returns
returns g c =
    let s = c.args.array.now.shape in
    let v = g.S.ColumnStore.view c.args.store.now in
    let (quoted, column, count) = c.in_ok-quote.ensures.answer in
    c.in_ok-out.ensures ∙ ap (λ f. restored s v.at (Some f)) column ∙ rebuilt_told s v c.requires c.in-Some.column (sym c.in-Some.ensures.answer) quoted

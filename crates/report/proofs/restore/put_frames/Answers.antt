use Rattle.std.proofs.Common.{ℕ, ◌++◌, string_bytes, ap, ◌∙◌}
use Rattle.symbol.specs.declared.byte.Byte.{Byte}
use Rattle.report.specs.Printed.{present}
use Rattle.report.proofs.Kept.{read_more}
use Rattle.report.proofs.Rows.{lines_more}
use Rattle.report.proofs.restore.put_frames.Goals as goal

pub loop-row-preserved : goal.loop-row-preserved
loop-row-preserved g c =
    let v = g.S.ColumnStore.view in
    let f = c.args.column in
    let i = c.loop-row.row in
    let same = c.loop-row.invariant.1 in
    let here = c.symbol-symbol.ensures.is ∙ ap (λ (at : ℕ → ℕ → Byte). at f i) same.at in (
      lines_more (λ r. present f r ((v c.args.store.now).at f r)) (string_bytes c.args.out.now) (string_bytes c.loop-row.out) (string_bytes c.put_frame.new.out) i c.loop-row.invariant.0 (c.in_ok-put_frame.ensures ∙ ap (λ x. string_bytes c.loop-row.out ++ present f i x) here),
      read_more (v c.args.store.now) (v c.loop-row.store) (v c.symbol-symbol.new.store) same c.symbol-symbol.ensures.view,
    )

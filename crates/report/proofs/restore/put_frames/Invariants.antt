use Rattle.std.proofs.Common.{◌≡◌, ◌++◌, string_bytes}
use Rattle.frames.specs.Format.{lines}
use Rattle.report.specs.Printed.{present}
use Rattle.report.proofs.Kept.{Same}
use Rattle.report.proofs.restore.put_frames.Given as goal

abbrev pub invariant-loop-row : goal.invariant-loop-row
invariant-loop-row g l =
    let v = g.S.ColumnStore.view in
    (string_bytes l.out ≡ string_bytes l.initial.out ++ lines l.row (λ row. present l.column row ((v l.initial.store).at l.column row))) ×
    Same (v l.initial.store) (v l.store)

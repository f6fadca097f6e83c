use Rattle.std.proofs.Common.{◌+◌}
use Rattle.code.specs.Parities.{parity_of}
use Rattle.code.specs.Places.{symbols_of}
use Rattle.code.specs.Shapes.{rows_of}
use Rattle.audit.specs.Progress.{Compared}
use Rattle.audit.proofs.comparing.compare_rows.Given as goal

abbrev pub invariant-loop-row : goal.invariant-loop-row
invariant-loop-row g l =
    let x = g.X.Symbol in
    let s = l.rule.shape in
    Compared (g.S.ColumnStore.view l.initial.store) (s.k + l.rule.parity) l.row (parity_of x.zero x.plus s (symbols_of x.zero (rows_of s) l.cells) l.rule.parity) l.holds (g.S.ColumnStore.view l.store)

use Rattle.std.proofs.Common.{◌+◌}
use Rattle.code.specs.Parities.{parity_of}
use Rattle.code.specs.Places.{symbols_of}
use Rattle.code.specs.Shapes.{rows_of}
use Rattle.columns.specs.Progress.{Refilled}
use Rattle.columns.proofs.parities.write_rows.Given as goal

abbrev pub invariant-loop-row : goal.invariant-loop-row
invariant-loop-row g l =
    let x = g.X.Symbol in
    let s = l.rule.shape in
    Refilled (g.S.ColumnStore.view l.initial.store) (s.k + l.rule.parity) l.row (parity_of x.zero x.plus s (symbols_of x.zero (rows_of s) l.cells) l.rule.parity) (g.S.ColumnStore.view l.store)

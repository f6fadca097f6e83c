use Rattle.std.proofs.Common.{◌+◌, ◌-◌}
use Rattle.code.specs.Parities.{parity_of}
use Rattle.code.specs.Places.{symbols_of}
use Rattle.code.specs.Shapes.{rows_of}
use Rattle.founding.specs.Found.{Extended}
use Rattle.founding.proofs.founding.write_parities.Given as goal

abbrev pub invariant-loop-column : goal.invariant-loop-column
invariant-loop-column g l =
    let x = g.X.Symbol in
    let s = l.shape in
    Extended (g.S.ColumnStore.view l.initial.store) s.k (l.column - (s.k + 1)) (rows_of s) (parity_of x.zero x.plus s (symbols_of x.zero (rows_of s) l.cells)) (g.S.ColumnStore.view l.store)

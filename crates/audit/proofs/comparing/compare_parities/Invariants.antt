use Rattle.std.proofs.Common.{◌-◌}
use Rattle.code.specs.Parities.{parity_of}
use Rattle.code.specs.Places.{symbols_of}
use Rattle.code.specs.Shapes.{rows_of}
use Rattle.audit.specs.Progress.{Matched}
use Rattle.audit.proofs.comparing.compare_parities.Given as goal

abbrev pub invariant-loop-parity : goal.invariant-loop-parity
invariant-loop-parity g l =
    let x = g.X.Symbol in
    let s = l.shape in
    Matched (g.S.ColumnStore.view l.initial.store) s.k (rows_of s) (l.parity - 1) (parity_of x.zero x.plus s (symbols_of x.zero (rows_of s) l.cells)) l.holds (g.S.ColumnStore.view l.store)

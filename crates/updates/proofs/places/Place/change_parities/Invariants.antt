use Rattle.std.proofs.Common.{◌+◌, ◌-◌, ◌&&◌, leb}
use Rattle.ring.specs.Sums.{sum_to}
use Rattle.updates.specs.Views.{Added}
use Rattle.updates.specs.Updates.{carries, carried}
use Rattle.updates.proofs.places.Place.change_parities.Given as goal

abbrev pub invariant-loop-parity : goal.invariant-loop-parity
invariant-loop-parity g l =
    let p = l.self in
    let s = p.shape in
    let v = g.S.ColumnStore.view l.initial.store in
    let n = l.parity - 1 in
    Added g.X.Symbol.plus l.change (λ d y. leb d (s.k + n) && carries s v p.column p.row d y) (sum_to 0 ◌+◌ n (λ j. carried s v p.column p.row (s.k + (j + 1)))) v l.count (g.S.ColumnStore.view l.store)

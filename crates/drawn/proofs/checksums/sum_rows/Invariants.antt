use Rattle.std.proofs.Common.{◌≡◌}
use Rattle.store.specs.View.{metered}
use Rattle.drawn.specs.Checksums.{checksum_to}
use Rattle.drawn.proofs.checksums.sum_rows.Given as goal

abbrev pub invariant-loop-row : goal.invariant-loop-row
invariant-loop-row g l =
    let v = g.S.ColumnStore.view in
    record {
      sum : l.sum ≡ checksum_to g.X.Symbol.bytes 2166136261 ((v l.initial.store).at l.column) l.row;
      meter : v l.store ≡ metered l.row (v l.initial.store);
    }

use Rattle.std.proofs.Common.{◌≡◌, ◌*◌, ◌≤◌, length, take, drop}
use Rattle.std.specs.Slice.Iter.{chunks_exact_rest, chunks_exact_size, iter_rest}
use Rattle.std.specs.Iterator.Adapters.{zip_first, zip_second}
use Rattle.ring.specs.Sums.{sum_to}
use Rattle.code.specs.Parities.{term_of}
use Rattle.code.specs.Places.{symbols_of}
use Rattle.code.specs.Shapes.{rows_of}
use Rattle.sums.proofs.rule.ParityRule.sum.Given as goal

abbrev pub invariant-loop-column : goal.invariant-loop-column
invariant-loop-column g l =
    let x = g.X.Symbol in
    let s = l.self.shape in
    let columns = zip_first l.column-iterator in
    record {
      size : chunks_exact_size columns ≡ l.self.rows;
      left : chunks_exact_rest columns ≡ drop (length l.yielded * l.self.rows) l.cells;
      within : length l.yielded ≤ s.k;
      shifts : iter_rest (zip_second l.column-iterator) ≡ drop (length l.yielded) (take s.k l.self.shifts);
      so_far : l.sum ≡ sum_to x.zero x.plus (length l.yielded) (term_of x.zero x.plus s (symbols_of x.zero (rows_of s) l.cells) l.self.parity l.position);
    }

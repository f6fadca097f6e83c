use Rattle.std.proofs.Common.{◌≡◌, ◌+◌, ◌*◌, length, drop}
use Rattle.std.specs.Slice.Iter.{chunks_exact_rest, chunks_exact_size}
use Rattle.ring.specs.Sums.{sum_to}
use Rattle.code.specs.Places.{rows_from}
use Rattle.sums.proofs.position.class_sum.Given as goal

abbrev pub invariant-loop-block : goal.invariant-loop-block
invariant-loop-block g l =
    let x = g.X.Symbol in
    record {
      size : chunks_exact_size l.block-iterator ≡ l.classes;
      left : chunks_exact_rest l.block-iterator ≡ drop (length l.yielded * l.classes) l.column;
      fits : length (chunks_exact_rest l.block-iterator) + length l.yielded * l.classes ≡ length l.column;
      so_far : l.sum ≡ sum_to x.zero x.plus (length l.yielded) (λ a. rows_from x.zero l.column 0 (a * l.classes + l.class));
    }

use Rattle.std.proofs.Common.{◌≡◌, ◌∙◌, length, ap, arith}
use Rattle.std.proofs.lemmas.List.{length_push}
use Rattle.std.specs.Slice.Iter.{chunks_exact_rest}
use Rattle.ring.specs.Cyclic.{class_total}
use Rattle.code.specs.Places.{rows_from}
use Rattle.sums.proofs.Steps.{left_more, fits_more, sum_more, all_blocks}
use Rattle.sums.proofs.position.class_sum.Goals as goal

pub loop-block-preserved : goal.loop-block-preserved
loop-block-preserved g c =
    let none = g.X.Symbol.zero in
    let plus = g.X.Symbol.plus in
    let xs = c.args.column.now in
    let t = c.args.classes in
    let n = length c.loop-block.yielded in
    let h = c.loop-block.invariant in
    let s = c.in-Some.ensures.steps in
    let long : length c.in-Some.block.now ≡ t = s.1.1 ∙ h.size in
    let left = chunks_exact_rest c.loop-block.block-iterator in
    let left' = chunks_exact_rest c.next.new.self in
    rw length_push
    (record {
      size = s.0 ∙ h.size;
      left = left_more none plus xs t n c.in-Some.block.now left left' h.left s.1.0 long;
      fits = fits_more none plus xs t n c.in-Some.block.now left left' h.left s.1.0 long h.fits;
      so_far = c.add-sum.ensures ∙ sum_more none plus xs t n c.in-Some.block.now left left' h.left s.1.0 long c.args.class c.requires c.loop-block.sum c.index-block-class.result h.so_far c.index-block-class.is;
    })

pub returns : goal.returns
returns g c =
    let none = g.X.Symbol.zero in
    let plus = g.X.Symbol.plus in
    let xs = c.args.column.now in
    let t = c.args.classes in
    let h = c.loop-block.invariant in
    let s = c.in-None.ensures.steps in
    λ b whole.
    let e = all_blocks none plus xs t b (length c.loop-block.yielded) (length (chunks_exact_rest c.loop-block.block-iterator)) (omega (arith, s.1.0, h.size)) h.fits whole in
    h.so_far ∙ ap (λ n. class_total none plus n t (rows_from none xs 0) c.args.class) e

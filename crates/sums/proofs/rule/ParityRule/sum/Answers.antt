use Rattle.std.proofs.Common.{◌≡◌, ◌≤◌, ◌-◌, ◌*◌, length, add-one, sym, ap, ap₂, ◌∙◌, inl, inr, length-drop, arith}
use Rattle.std.proofs.lemmas.List.{length_push}
use Rattle.std.specs.Slice.Iter.{chunks_exact_rest}
use Rattle.std.specs.Iterator.Adapters.{zip_first}
use Rattle.sums.proofs.Steps.{left_more, next_left}
use Rattle.sums.proofs.Rules.{data_shifts, column_low, shift_fits, term_is, rows_split, columns_end, shifts_end, sum_is}
use Rattle.sums.proofs.rule.ParityRule.sum.Goals as goal

pub shifted-from-requires-clause-shift : goal.shifted-from-requires-clause-shift
shifted-from-requires-clause-shift g c = shift_fits c.args.self.now (length c.loop-column.yielded) c.in-Some.shift.now _ _ c.loop-column.invariant.shifts c.in-Some.ensures.steps.1

pub loop-column-preserved : goal.loop-column-preserved
loop-column-preserved g c =
    let u = c.args.self.now in
    let none = g.X.Symbol.zero in
    let plus = g.X.Symbol.plus in
    let n = length c.loop-column.yielded in
    let h = c.loop-column.invariant in
    let s = c.in-Some.ensures.steps in
    let long : length c.in-Some.column.now ≡ u.rows = s.0.1.1 ∙ h.size in
    rw length_push
    (record {
      size = s.0.0 ∙ h.size;
      left = left_more none plus c.args.cells.now u.rows n c.in-Some.column.now _ _ h.left s.0.1.0 long;
      within = omega (arith, column_low u n c.in-Some.shift.now _ _ h.shifts s.1);
      shifts = next_left (data_shifts u) n c.in-Some.shift.now _ _ h.shifts s.1;
      so_far = rw (add-one n) (c.add-sum.ensures ∙ ap₂ plus h.so_far (c.at.ensures (u.shape.p - 1) (long ∙ rows_split u) ∙ term_is u n c.in-Some.shift.now _ _ h.shifts s.1 none plus c.args.cells.now c.in-Some.column.now _ _ c.args.position c.shifted-from.result h.left s.0.1.0 long c.shifted-from.ensures.is c.shifted-from.ensures.below));
    })

pub returns : goal.returns
returns g c =
    let h = c.loop-column.invariant in
    let u = c.args.self.now in
    let n = length c.loop-column.yielded in
    let rest = chunks_exact_rest (zip_first c.loop-column.column-iterator) in
    let left : length rest ≡ length c.args.cells.now - n * u.rows = ap length h.left ∙ length-drop (n * u.rows) c.args.cells.now in
    let all : u.shape.k ≤ n = elim c.in-None.ensures.steps [
      | inl (t, s) ↦ columns_end u n (length c.args.cells.now) (omega arith) (omega (arith, s.1.0, h.size))
      | inr (t, s) ↦ shifts_end u n (ap length (sym h.shifts) ∙ s.0)
    ] in
    sum_is u g.X.Symbol.zero g.X.Symbol.plus c.args.cells.now c.args.position n c.loop-column.sum all h.within (omega arith) (omega arith) h.so_far

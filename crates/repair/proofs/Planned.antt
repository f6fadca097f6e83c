-- A plan's numbers are its shape's and its column's.
use Rattle.std.proofs.Common.{◌≡◌, ℕ, suc, ◌+◌, ◌-◌, ◌*◌, ◌/◌, ◌%◌, ◌^◌, ◌<◌, ◌≤◌, true, cond, eqb, List, length, get_or, Some, sym, ap, ◌∙◌, ap₂, mul-le-mul_right, arith}
use Rattle.std.proofs.lemmas.Bool.{le-leb, lt-ltb}
use Rattle.ring.specs.Cyclic.{shifted}
use Rattle.code.specs.Shapes.{helpers_of, rows_of, positions_of, shift_of}
use Rattle.code.specs.Parities.{symbol_of}
use Rattle.code.proofs.Bounds.{prime_low}
use Rattle.code.proofs.Bounds as C
use Rattle.sums.specs.Sums.{symbol_in_cells}
use Rattle.repair.specs.declared.plan.Plan.{Plan}
use Rattle.repair.specs.Halves.{depth, near, span}
use Rattle.repair.specs.Lists.{helper, slot, area}
use Rattle.repair.specs.Rows.{block, chosen, position, addend}
use Rattle.repair.specs.Steps.{step, gap}
use Rattle.repair.proofs.Frame as F
use Rattle.repair.proofs.Listed as L
use Rattle.repair.proofs.Slots as W
use Rattle.repair.proofs.Bounds as B

module _ (u : Plan) where
  abbrev one : 1 ≤ u.lost
  one = u.is_data.0

  abbrev last : u.lost ≤ u.shape.k
  last = u.is_data.1

  pub round_pos : 0 < u.round
  round_pos = rw u.round_is (B.round_pos u.shape u.lost one last)

  pub round_low : u.round ≤ 4096
  round_low = rw u.round_is (B.round_low u.shape u.lost one last)

  pub span_pos : 0 < u.span
  span_pos = rw u.span_is (F.span_pos u.shape u.lost one last)

  pub block_is : (row : ℕ) → row % u.round / u.span ≡ block u.shape u.lost row
  block_is row = rw (u.round_is, u.span_is)

  pub block_low : (row : ℕ) → row % u.round / u.span < u.shape.q
  block_low row = rw (block_is row, F.block_is u.shape u.lost one last row) (F.block_low u.shape u.lost one last row)

  -- the shift of the parity that serves a row, by steps
  pub shift_is : (row i : ℕ) → 1 ≤ i → i ≤ u.shape.k → gap u.shape u.lost row * step u.shape u.lost i ≡ shift_of u.shape (chosen u.shape u.lost row) i
  shift_is row i lo hi = ap (λ x. x * step u.shape u.lost i) (F.gap_is u.shape u.lost one last row) ∙ sym (F.shift_is u.shape u.lost one last row i lo hi)

  pub positions_low : u.positions ≤ 8192
  positions_low = rw u.positions_are (C.positions_low u.shape)

  -- a data column's step times any gap is less than a turn of the ring
  pub steps_low : (i n : ℕ) → i < u.shape.k → n < u.shape.q → n * get_or u.steps i 0 ≤ u.positions
  steps_low i n h k = rw (u.steps_are i h, u.positions_are, F.positions_are u.shape u.lost one last) (F.step_low u.shape u.lost one last n (i + 1) k)

  -- an addend, by steps
  pub addend_is : {X : Type 0} (none : X) (plus : X → X → X) (at : ℕ → ℕ → X) (row i n x : ℕ) → i < u.shape.k → n ≡ gap u.shape u.lost row → x ≡ position u.shape u.lost row →
      cond (eqb (i + 1) u.lost) none (symbol_of none plus u.shape (at (i + 1)) (shifted (positions_of u.shape) (n * step u.shape u.lost (i + 1)) x)) ≡ addend none plus u.shape u.lost at row i
  addend_is none plus at row i n x h e f =
      ap₂ (λ z y. cond (eqb (i + 1) u.lost) none (symbol_of none plus u.shape (at (i + 1)) (shifted (positions_of u.shape) z y)))
      (ap (λ m. m * step u.shape u.lost (i + 1)) e ∙ shift_is row (i + 1) (omega arith) (omega arith)) f

  pub serving_helps : (row j : ℕ) → j ≡ chosen u.shape u.lost row → helper u.shape u.lost (u.shape.k + j) ≡ true
  serving_helps row j e = rw e (L.chosen_helps u.shape u.lost one last row)

  -- a helper's part lies in the work area
  pub part_fits : (c : ℕ) → helper u.shape u.lost c ≡ true → slot u.shape u.lost c * rows_of u.shape + rows_of u.shape ≤ helpers_of u.shape * rows_of u.shape
  part_fits c h = omega (arith, mul-le-mul_right (rows_of u.shape) (W.slot_low u.shape u.lost one last c h))

  pub found : {X : Type 0} (none : X) (plus : X → X → X) (work : List X) (c x start : ℕ) → start ≡ slot u.shape u.lost c →
      helpers_of u.shape * rows_of u.shape ≤ length work → helper u.shape u.lost c ≡ true → x < positions_of u.shape →
      symbol_in_cells none plus work (start * u.rows) (u.shape.p - 1) u.classes x ≡ Some (symbol_of none plus u.shape (area none u.shape u.lost work c) x)
  found none plus work c x start is room help low =
      let p : suc (u.shape.p - 1) ≡ u.shape.p = omega (arith, prime_low u.shape) in
      rw (u.rows_are, u.classes_are, is, le-leb (slot u.shape u.lost c * rows_of u.shape + rows_of u.shape) (length work) (omega (arith, part_fits c help)), p, lt-ltb x (positions_of u.shape) low)

  -- the rows added to a column, from its step
  module _ (c : ℕ) (first : 1 ≤ c) (here : c ≤ u.shape.k) (n : ℕ) (is : n ≡ near u.shape u.lost c) (some : 1 ≤ n) (low : n < u.depth) where
    nearer : near u.shape u.lost c < depth u.shape u.lost
    nearer = omega (arith, is, u.depth_is)

    pos : 1 ≤ near u.shape u.lost c
    pos = omega (arith, is)

    step_at : get_or u.steps (c - 1) 0 ≡ u.shape.q ^ (near u.shape u.lost c - 1)
    step_at =
        let e : c - 1 + 1 ≡ c = omega arith in
        u.steps_are (c - 1) (omega arith) ∙ ap (step u.shape u.lost) e ∙ L.step_near u.shape u.lost one last c nearer

    pub window_low : (u.shape.q - 1) * get_or u.steps (c - 1) 0 ≤ u.round
    window_low =
        rw (step_at, u.round_is)
        (omega (arith, mul-le-mul_right {m = u.shape.q - 1} {n = u.shape.q} (u.shape.q ^ (near u.shape u.lost c - 1)) (omega arith), L.narrow u.shape u.lost one last c pos nearer, F.round_is u.shape u.lost one last, mul-le-mul_right {m = 1} {n = u.shape.q} (span u.shape u.lost) (omega arith)))

-- A rule's numbers are its shape's.
use Rattle.std.proofs.Common.{◌≡◌, ℕ, suc, ◌+◌, ◌-◌, ◌*◌, ◌<◌, ◌≤◌, List, ◌∷◌, ◌++◌, length, take, drop, Some, sym, ap, ◌∙◌, inl, inr, mul-le-mul_right, length-drop, arith}
use Rattle.std.proofs.lemmas.Bool.{cases_lt, le-leb, lt-ltb}
use Rattle.std.proofs.lemmas.List.{length-take, get_or-take}
use Rattle.ring.specs.Sums.{sum_to}
use Rattle.ring.specs.Cyclic.{symbol_at, shifted}
use Rattle.code.specs.Shapes.{classes_of, rows_of, positions_of, shift_of}
use Rattle.code.specs.Parities.{term_of}
use Rattle.code.specs.Places.{rows_from, symbols_of}
use Rattle.code.proofs.Bounds.{prime_low, positions_are, positions_low, shift_low}
use Rattle.sums.specs.Sums.{sum_at}
use Rattle.sums.specs.declared.rule.ParityRule.{ParityRule}
use Rattle.sums.proofs.Steps.{next_low, next_is, block_symbol}

module _ (u : ParityRule) where
  pub few : u.positions ≤ 8192
  few = omega (arith, u.positions_are, positions_low u.shape)

  -- the shifts of the data columns
  abbrev pub data_shifts : List ℕ
  data_shifts = take u.shape.k u.shifts

  data_shifts_long : length data_shifts ≡ u.shape.k
  data_shifts_long = simp length-take (omega (arith, u.twelve, u.shape.data_columns))

  pub rows_split : u.rows ≡ (u.shape.p - 1) * u.classes
  rows_split = rw (u.rows_are, u.classes_are)

  -- the next shift x, after n of them
  module _ (n x : ℕ) (left left' : List ℕ) (is : left ≡ drop n data_shifts) (e : left ≡ x ∷ left') where
    pub column_low : n < u.shape.k
    column_low = omega (arith, next_low data_shifts n x left left' is e, data_shifts_long)

    pub shift_is : x ≡ shift_of u.shape u.parity (n + 1)
    shift_is = next_is data_shifts n x left left' is e ∙ get_or-take u.shape.k u.shifts n 0 column_low ∙ u.shifts_are n column_low

    pub shift_fits : x ≤ u.positions
    shift_fits = let h = column_low in omega (arith, shift_is, u.positions_are, positions_are u.shape, shift_low u.shape u.parity (n + 1) u.is_parity.0 u.is_parity.1 (omega arith) (omega arith))

    -- what its data column adds to the sum at position z
    pub term_is : {X : Type 0} (none : X) (plus : X → X → X) (cells column rest rest' : List X) (z from : ℕ) → rest ≡ drop (n * u.rows) cells → rest ≡ column ++ rest' → length column ≡ u.rows →
        from ≡ shifted u.positions x z → from < u.positions →
        symbol_at none plus (u.shape.p - 1) u.classes (rows_from none column 0) from ≡ term_of none plus u.shape (symbols_of none (rows_of u.shape) cells) u.parity z n
    term_is none plus cells column rest rest' z from at cut long f low =
        block_symbol none plus cells u.rows n column rest rest' at cut long (u.shape.p - 1) u.classes from (sym rows_split) (omega (arith, ring))
        ∙ rw (f, shift_is, u.classes_are, u.rows_are, u.positions_are)
        (ap (λ m. symbol_at none plus (u.shape.p - 1) (classes_of u.shape) (rows_from none cells (m * rows_of u.shape)) (shifted (positions_of u.shape) (shift_of u.shape u.parity (n + 1)) z)) (omega arith))
      where
        ring : suc (u.shape.p - 1) * u.classes ≡ u.positions
        ring = rw (u.classes_are, u.positions_are) (ap (λ p. p * classes_of u.shape) (omega (arith, prime_low u.shape)))

  -- whole columns are left as long as there are data columns
  pub columns_end : (n cells : ℕ) → u.shape.k * u.rows ≤ cells → cells - n * u.rows < u.rows → u.shape.k ≤ n
  columns_end n cells h low = elim (cases_lt n u.shape.k) [ inl k ↦ absurd (omega (arith, mul-le-mul_right {m = n + 1} {n = u.shape.k} u.rows (omega arith))) | inr k ↦ k ]

  pub shifts_end : (n : ℕ) → length (drop n data_shifts) ≡ 0 → u.shape.k ≤ n
  shifts_end n e = omega (arith, length-drop n data_shifts, data_shifts_long)

  pub sum_is : {X : Type 0} (none : X) (plus : X → X → X) (cells : List X) (z n : ℕ) (sum : X) → u.shape.k ≤ n → n ≤ u.shape.k → u.shape.k * u.rows ≤ length cells → z < u.positions →
      sum ≡ sum_to none plus n (term_of none plus u.shape (symbols_of none (rows_of u.shape) cells) u.parity z) → Some sum ≡ sum_at none plus u.shape u.parity cells z
  sum_is none plus cells z n sum lo hi room low so_far =
      let e : n ≡ u.shape.k = omega arith in
      let fits : u.shape.k * rows_of u.shape ≤ length cells = rw u.rows_are at room in
      let below : z < positions_of u.shape = omega (arith, u.positions_are) in
      rw (le-leb _ _ fits, lt-ltb _ _ below) (ap Some (so_far ∙ ap (λ n. sum_to none plus n (term_of none plus u.shape (symbols_of none (rows_of u.shape) cells) u.parity z)) e))

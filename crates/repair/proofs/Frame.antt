-- A shape and a lost data column f in the numbers of Rounds.
use Rattle.std.proofs.Common.{◌≡◌, ℕ, zero, suc, ◌+◌, ◌-◌, ◌*◌, ◌/◌, ◌%◌, ◌^◌, ◌<◌, ◌≤◌, Bool, true, false, cond, eqb, ltb, sym, refl, ap, ◌∙◌, ap₂, inl, inr, mul-le-mul_right, mod-lt, mul_assoc, div-lt_iff_lt-mul, mul-le-mul, one-mul, mul-zero, zero-mul, arith}
use native.Mathlib.Nat.{mod-add-mod, add-mod_right, pow-zero, pow-succ', pow-le-pow_right, one-le-pow}
use Rattle.std.proofs.lemmas.Bool.{cases_lt, cases_eq, cases_Bool, eq-eqb, ne_eqb, lt-ltb, le-ltb, le-leb, lt-leb}
use Rattle.std.proofs.lemmas.Bool.Decides.{nat_tests}
use Rattle.ring.specs.Cyclic.{shifted}
use Rattle.code.specs.declared.shape.Shape.{Shape}
use Rattle.code.specs.Shapes.{parities_of, classes_of, rows_of, positions_of, shift_of}
use Rattle.code.proofs.Bounds.{prime_low}
use Rattle.repair.specs.Halves.{first_half, depth, near, round, span}
use Rattle.repair.specs.Steps.{step, gap}
use Rattle.repair.specs.Rows.{block, chosen, position, place}
use Rattle.repair.proofs.Rounds.{to_next, moved_to}

pow_plus : (q a b : ℕ) → q ^ (a + b) ≡ q ^ a * q ^ b
pow_plus q zero b = ap (λ x. q ^ x) (omega arith) ∙ sym (ap (λ x. x * q ^ b) (pow-zero q) ∙ one-mul (q ^ b))
pow_plus q (suc a) b = ap (λ x. q ^ x) (omega arith) ∙ pow-succ' q (a + b) ∙ ap (λ x. q * x) (pow_plus q a b) ∙ sym (mul_assoc q (q ^ a) (q ^ b)) ∙ ap (λ x. x * q ^ b) (sym (pow-succ' q a))

pub pow_at : (q a b n : ℕ) → a + b ≡ n → q ^ n ≡ q ^ a * q ^ b
pow_at q a b n e = ap (λ x. q ^ x) (sym e) ∙ pow_plus q a b

-- the parity that goes with a gap
abbrev pub parity_at : Shape → ℕ → ℕ → ℕ
parity_at s f δ = cond (eqb δ 0) 1 (cond (first_half s f) (δ + 1) (2 * s.q - δ))

module _ (s : Shape) (f : ℕ) (one : 1 ≤ f) (last : f ≤ s.k) where
  -- rounds in a block of the ring
  abbrev pub rounds : ℕ
  rounds = s.q ^ (s.k - 2 - depth s f)

  pub near_depth : near s f f ≡ depth s f
  near_depth = grind (arith, nat_tests)

  pub depth_low : 1 ≤ depth s f
  depth_low = let four = s.data_columns in grind (arith, nat_tests)

  pub depth_high : depth s f + 2 ≤ s.k
  depth_high = let four = s.data_columns in grind (arith, nat_tests)

  pub round_is : round s f ≡ s.q * span s f
  round_is = ap (λ n. s.q ^ n) (omega (arith, depth_low)) ∙ pow-succ' s.q (depth s f - 1)

  pub classes_are : classes_of s ≡ s.q * span s f * rounds
  classes_are = pow_at s.q (depth s f) (s.k - 2 - depth s f) (s.k - 2) (omega (arith, depth_high)) ∙ ap (λ x. x * rounds) round_is

  pub rows_are : rows_of s ≡ (s.p - 1) * (s.q * span s f * rounds)
  rows_are = ap (λ x. (s.p - 1) * x) classes_are

  pub positions_are : positions_of s ≡ suc (s.p - 1) * (s.q * span s f * rounds)
  positions_are = ap₂ ◌*◌ (omega (arith, prime_low s)) classes_are

  -- a column is so many whole rounds
  pub whole_rounds : rows_of s ≡ (s.p - 1) * rounds * round s f
  whole_rounds = rows_are ∙ omega (arith, round_is, ap (λ x. (s.p - 1) * rounds * x) round_is)

  pub span_pos : 0 < span s f
  span_pos = one-le-pow (depth s f - 1) s.q (omega arith)

  pub round_pos : 0 < s.q * span s f
  round_pos = omega (arith, mul-le-mul_right (span s f) s.helping.0, span_pos)

  pub step_lost : step s f f ≡ span s f
  step_lost = ap (λ n. cond (ltb n s.k) (s.q ^ (n - 1)) 0) near_depth ∙ rw (lt-ltb (depth s f) s.k (omega (arith, depth_high)))

  -- the shifts of the parities that serve, in both halves
  shift_by : (u i : ℕ) → u < s.q → 1 ≤ i → i ≤ s.k →
      shift_of s (cond (eqb u 0) 1 (cond (first_half s f) (s.q - u + 1) (s.q + u))) i ≡ cond (eqb u 0) 0 (s.q - u) * step s f i
  shift_by u i hu lo hi =
      elim (cases_eq u 0) [
        | inl z ↦ rw (eq-eqb u 0 z, le-leb 1 s.q (omega arith)) (nought (ltb i s.k) (s.q ^ (i - 1)) ∙ sym (zero-mul _))
        | inr z ↦ rw (ne_eqb u 0 z) (elim (cases_Bool (first_half s f)) [
          | inl a ↦ rw (a, le-leb (s.q - u + 1) s.q (omega arith)) (push (ltb i s.k) (s.q - u + 1 - 1) (s.q - u) (s.q ^ (i - 1)) (omega arith))
          | inr a ↦ rw (a, lt-leb (s.q + u) s.q (omega arith)) (elim (cases_lt 1 i) [
            | inl n ↦ rw (lt-leb i 1 n, lt-ltb (s.k + 1 - i) s.k (omega arith)) (ap₂ ◌*◌ (omega arith) (ap (λ x. s.q ^ x) (omega arith)))
            | inr n ↦ rw (le-leb i 1 n, le-ltb (s.k + 1 - i) s.k (omega arith)) (sym (mul-zero _))
          ])
        ])
      ]
    where
      nought : (b : Bool) (x : ℕ) → cond b ((1 - 1) * x) 0 ≡ 0
      nought b x = elim b as (λ b. cond b ((1 - 1) * x) 0 ≡ 0) [ true ↦ zero-mul x | false ↦ refl ]

      push : (b : Bool) (m n x : ℕ) → m ≡ n → cond b (m * x) 0 ≡ n * cond b x 0
      push b m n x e = elim b as (λ b. cond b (m * x) 0 ≡ n * cond b x 0) [ true ↦ ap (λ y. y * x) e | false ↦ sym (mul-zero n) ]

  -- the shifts of one step
  pub unit_shift : (i : ℕ) → 1 ≤ i → i ≤ s.k → shift_of s (cond (first_half s f) 2 (parities_of s)) i ≡ step s f i
  unit_shift i lo hi = ap (λ j. shift_of s j i) parity ∙ shift_by (s.q - 1) i (omega arith) lo hi ∙ ap (λ x. x * step s f i) single ∙ one-mul (step s f i)
    where
      two : 2 ≤ s.q
      two = s.helping.0

      parity : cond (first_half s f) 2 (parities_of s) ≡ cond (eqb (s.q - 1) 0) 1 (cond (first_half s f) (s.q - (s.q - 1) + 1) (s.q + (s.q - 1)))
      parity = grind (arith, nat_tests, two)

      single : cond (eqb (s.q - 1) 0) 0 (s.q - (s.q - 1)) ≡ 1
      single = grind (arith, nat_tests, two)

  abbrev pub gap_at : ℕ → ℕ
  gap_at row = to_next s.q (span s f) row

  pub block_is : (row : ℕ) → block s f row ≡ (row % (s.q * span s f)) / span s f
  block_is row = ap (λ x. (row % x) / span s f) round_is

  pub block_low : (row : ℕ) → (row % (s.q * span s f)) / span s f < s.q
  block_low row = (div-lt_iff_lt-mul span_pos).1 (mod-lt row round_pos)

  pub gap_is : (row : ℕ) → gap s f row ≡ gap_at row
  gap_is row = ap (λ u. cond (eqb u 0) 0 (s.q - u)) (block_is row)

  pub gap_low : (row : ℕ) → gap_at row < s.q
  gap_low row = let two = s.helping.0 in grind (arith, nat_tests)

  pub shift_is : (row i : ℕ) → 1 ≤ i → i ≤ s.k → shift_of s (chosen s f row) i ≡ gap_at row * step s f i
  shift_is row i lo hi = ap (λ u. shift_of s (cond (eqb u 0) 1 (cond (first_half s f) (s.q - u + 1) (s.q + u))) i) (block_is row) ∙ shift_by _ i (block_low row) lo hi

  pub chosen_is : (row : ℕ) → chosen s f row ≡ parity_at s f (gap_at row)
  chosen_is row = ap (λ u. cond (eqb u 0) 1 (cond (first_half s f) (s.q - u + 1) (s.q + u))) (block_is row) ∙ by_block _ (block_low row)
    where
      by_block : (u : ℕ) → u < s.q → cond (eqb u 0) 1 (cond (first_half s f) (s.q - u + 1) (s.q + u)) ≡ parity_at s f (cond (eqb u 0) 0 (s.q - u))
      by_block u h = grind (arith, nat_tests)

  parity_range : (δ : ℕ) → δ < s.q → (1 ≤ parity_at s f δ) × (parity_at s f δ ≤ parities_of s)
  parity_range δ h = let two = s.helping.0 in (grind (arith, nat_tests), grind (arith, nat_tests))

  pub chosen_range : (row : ℕ) → (1 ≤ chosen s f row) × (chosen s f row ≤ parities_of s)
  chosen_range row = rw (chosen_is row) (parity_range (gap_at row) (gap_low row))

  pub one_step_low : (i : ℕ) → step s f i ≤ classes_of s
  one_step_low i =
      elim (cases_lt (near s f i) s.k) [
        | inl a ↦ rw (lt-ltb (near s f i) s.k a) (pow-le-pow_right (omega arith) (omega arith))
        | inr a ↦ rw (le-ltb (near s f i) s.k a) (omega arith)
      ]

  pub step_low : (δ i : ℕ) → δ < s.q → δ * step s f i ≤ suc (s.p - 1) * (s.q * span s f * rounds)
  step_low δ i h = rw (← classes_are) (mul-le-mul (omega (arith, s.wide)) (one_step_low i))

  pub place_is : (row i : ℕ) → 1 ≤ i → i ≤ s.k → place s f row i ≡ moved_to (s.q * span s f) rounds (s.p - 1) (gap_at row * span s f) (gap_at row * step s f i) row
  place_is row i lo hi = put positions_are (shift_is row f one last ∙ ap (λ x. gap_at row * x) step_lost) (shift_is row i lo hi)
    where
      put : {N N' a a' z z' : ℕ} → N ≡ N' → a ≡ a' → z ≡ z' → shifted N z ((row + a) % N) ≡ shifted N' z' ((row + a') % N')
      put e1 e2 e3 = cc

  pub position_is : (row : ℕ) → position s f row ≡ moved_to (s.q * span s f) rounds (s.p - 1) (gap_at row * span s f) 0 row
  position_is row =
      put positions_are (shift_is row f one last ∙ ap (λ x. gap_at row * x) step_lost)
      ∙ turned (row + gap_at row * span s f) (suc (s.p - 1) * (s.q * span s f * rounds))
    where
      put : {N N' a a' : ℕ} → N ≡ N' → a ≡ a' → (row + a) % N ≡ (row + a') % N'
      put e1 e2 = cc

      turned : (x N : ℕ) → x % N ≡ (x % N + (N - 0)) % N
      turned x N = sym (mod-add-mod x N (N - 0) ∙ ap (λ y. y % N) (omega arith) ∙ add-mod_right x N)

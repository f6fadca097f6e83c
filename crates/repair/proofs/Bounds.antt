-- A plan's numbers: what they are and how large.
use Rattle.std.proofs.Common.{◌≡◌, ℕ, suc, ◌+◌, ◌-◌, ◌*◌, ◌/◌, ◌^◌, ◌<◌, ◌≤◌, cond, List, get_or, sym, ap, ◌∙◌, subst, ap₂, mul-le-mul_right, mul_assoc, mul-le-mul_left, one-mul, pow-suc, mul-div_cancel, arith}
use native.Mathlib.Nat.{pow-le-pow_right, mul-sub}
use Rattle.code.specs.declared.shape.Shape.{Shape}
use Rattle.code.specs.Shapes.{parities_of, helpers_of, classes_of, rows_of, shift_of}
use Rattle.code.proofs.Bounds.{classes_low}
use Rattle.sums.specs.declared.rule.ParityRule.{ParityRule}
use Rattle.repair.specs.Halves.{first_half, depth, round, span}
use Rattle.repair.specs.Lists.{formula}
use Rattle.repair.specs.Steps.{step}
use Rattle.repair.proofs.Frame as F

module _ (s : Shape) (f : ℕ) (one : 1 ≤ f) (last : f ≤ s.k) where
  pub round_low : round s f ≤ 4096
  round_low =
      let h : round s f ≤ classes_of s = pow-le-pow_right {n = s.q} (omega arith) (omega (arith, F.depth_high s f one last)) in
      omega (arith, classes_low s, s.small)

  -- the steps are the shifts of the parity that has one
  pub steps_are : (u : ParityRule) → u.shape ≡ s → u.parity ≡ cond (first_half s f) 2 (parities_of s) → (steps : List ℕ) → ((i : ℕ) → i < u.shape.k → get_or steps i 0 ≡ shift_of u.shape u.parity (i + 1)) → (i : ℕ) → i < s.k → get_or steps i 0 ≡ step s f (i + 1)
  steps_are u shape parity steps are i h = are i (subst (λ a. i < a.k) (sym shape) h) ∙ ap₂ (λ a j. shift_of a j (i + 1)) shape parity ∙ F.unit_shift s f one last (i + 1) (omega arith) (omega arith)

  -- the lost column's own step is the span
  pub span_at : (steps : List ℕ) → ((i : ℕ) → i < s.k → get_or steps i 0 ≡ step s f (i + 1)) → get_or steps (f - 1) 0 ≡ span s f
  span_at steps are = let e : f - 1 + 1 ≡ f = omega arith in are (f - 1) (omega arith) ∙ ap (step s f) e ∙ F.step_lost s f one last

  pub round_at : (steps : List ℕ) → ((i : ℕ) → i < s.k → get_or steps i 0 ≡ step s f (i + 1)) → s.q * get_or steps (f - 1) 0 ≡ round s f
  round_at steps are = ap (λ x. s.q * x) (span_at steps are) ∙ sym (F.round_is s f one last)

  pub round_pos : 0 < round s f
  round_pos = rw (F.round_is s f one last) (F.round_pos s f one last)

  home_rows : rows_of s / s.q ≡ (s.p - 1) * s.q ^ (s.k - 3)
  home_rows = ap (λ x. x / s.q) (ap (λ n. (s.p - 1) * s.q ^ n) e ∙ ap (λ x. (s.p - 1) * x) (pow-suc s.q (s.k - 3)) ∙ sym (mul_assoc (s.p - 1) (s.q ^ (s.k - 3)) s.q)) ∙ mul-div_cancel ((s.p - 1) * s.q ^ (s.k - 3)) (omega arith)
    where
      e : s.k - 2 ≡ suc (s.k - 3)
      e = omega arith

  rounds_in : rows_of s / round s f ≡ (s.p - 1) * s.q ^ (s.k - depth s f - 2)
  rounds_in =
      let e : s.k - 2 - depth s f ≡ s.k - depth s f - 2 = omega arith in
      ap (λ x. x / round s f) (F.whole_rounds s f one last) ∙ mul-div_cancel ((s.p - 1) * F.rounds s f one last) round_pos ∙ ap (λ n. (s.p - 1) * s.q ^ n) e

  pub count_is : (helpers_of s + 1) * (rows_of s / s.q) - rows_of s / round s f ≡ formula s f
  count_is = ap₂ (λ a b. (helpers_of s + 1) * a - b) home_rows rounds_in ∙ omega (arith, mul-sub (s.p - 1) ((helpers_of s + 1) * s.q ^ (s.k - 3)) (s.q ^ (s.k - depth s f - 2)))

  pub count_low : rows_of s / round s f ≤ (helpers_of s + 1) * (rows_of s / s.q)
  count_low = rw (home_rows, rounds_in) (omega (arith, step_le, mul-le-mul_right ((s.p - 1) * s.q ^ (s.k - 3)) many, one-mul ((s.p - 1) * s.q ^ (s.k - 3))))
    where
      many : 1 ≤ helpers_of s + 1
      many = omega arith

      step_le : (s.p - 1) * s.q ^ (s.k - depth s f - 2) ≤ (s.p - 1) * s.q ^ (s.k - 3)
      step_le = mul-le-mul_left (s.p - 1) (pow-le-pow_right {n = s.q} (omega arith) (omega (arith, F.depth_low s f one last)))

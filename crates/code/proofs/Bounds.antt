-- How large a shape's numbers are.
use Rattle.std.proofs.Common.{◌≡◌, ℕ, suc, ◌+◌, ◌-◌, ◌*◌, ◌^◌, ◌≤◌, true, sym, ap, ◌∙◌, mul-le-mul_right, mul-le-mul, arith}
use native.Mathlib.Nat.{one-le-pow, pow-le-pow_left, pow-le-pow_right}
use Rattle.std.proofs.lemmas.Bool.Decides.{nat_tests}
use Rattle.code.specs.declared.shape.Shape.{Shape}
use Rattle.code.specs.Rules.{listed, one_of}
use Rattle.code.specs.Shapes.{parities_of, classes_of, rows_of, positions_of, shift_of}

pub power_low : (q e : ℕ) → q ≤ 4 → e ≤ 10 → q ^ e ≤ 1048576
power_low q e h k = omega (arith, pow-le-pow_left h e, pow-le-pow_right {n = 4} (omega arith) k)

pub prime_range : (p : ℕ) → one_of listed p ≡ true → (3 ≤ p) × (p ≤ 101)
prime_range p h = (grind (arith, nat_tests), grind (arith, nat_tests))

module _ (s : Shape) where
  pub prime_low : 3 ≤ s.p
  prime_low = (prime_range s.p s.prime).0

  -- the stored blocks and one more
  pub blocks : suc (s.p - 1) ≡ s.p
  blocks = omega (arith, prime_low)

  pub classes_pos : 1 ≤ classes_of s
  classes_pos = one-le-pow (s.k - 2) s.q (omega arith)

  pub positions_are : positions_of s ≡ rows_of s + classes_of s
  positions_are = ap (λ p. p * classes_of s) (sym blocks) ∙ omega arith

  pub classes_low : 2 * classes_of s ≤ rows_of s
  classes_low = mul-le-mul_right (classes_of s) (omega (arith, prime_low))

  pub positions_low : positions_of s ≤ 8192
  positions_low = omega (arith, positions_are, classes_low, s.small)

  step_low : (a n : ℕ) → a ≤ s.q - 1 → n ≤ s.k - 2 → a * s.q ^ n ≤ rows_of s
  step_low a n h k = mul-le-mul {n₁ = a} {n₂ = s.p - 1} (omega arith) (pow-le-pow_right {n = s.q} (omega arith) k)

  pub shift_low : (j i : ℕ) → 1 ≤ j → j ≤ parities_of s → 1 ≤ i → i ≤ s.k → shift_of s j i ≤ rows_of s
  shift_low j i one last first here =
      let up = step_low (j - 1) (i - 1) in
      let down = step_low (2 * s.q - j) (s.k - i) in
      grind (arith, nat_tests)

-- Finite sums, and the laws that sums of symbols obey.
use Rattle.std.specs.Prelude.{◌≡◌, ℕ, zero, suc, ◌+◌, Bool, cond}

pub record CommutativeMonoid {X : Type 0} (none : X) (plus : X → X → X) : Type 0 where
  pub assoc : (x y z : X) → plus (plus x y) z ≡ plus x (plus y z)
  pub comm : (x y : X) → plus x y ≡ plus y x
  pub unit : (x : X) → plus x none ≡ x

-- a commutative group in which each element is its own opposite
pub record BooleanGroup {X : Type 0} (none : X) (plus : X → X → X) : Type 0 where
  pub monoid : CommutativeMonoid none plus
  pub own : (x : X) → plus x x ≡ none

-- F 0 + .. + F (n - 1)
abbrev pub sum_to : {X : Type 0} (none : X) (plus : X → X → X) → ℕ → (ℕ → X) → X
sum_to none plus zero F = none
sum_to none plus (suc n) F = plus (sum_to none plus n F) (F n)

-- how many numbers below n pass a test
abbrev pub count : ℕ → (ℕ → Bool) → ℕ
count n P = sum_to 0 ◌+◌ n (λ a. cond (P a) 1 0)

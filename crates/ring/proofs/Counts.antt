-- Sums of numbers, and how many numbers pass a test.
use Rattle.std.proofs.Common.{◌≡◌, ℕ, zero, suc, ◌+◌, ◌-◌, ◌*◌, ◌%◌, ◌^◌, ◌<◌, ◌≤◌, Bool, false, cond, ◌&&◌, ◌||◌, ltb, leb, sym, refl, ap, ◌∙◌, subst, ap₂, add-zero, add_assoc, suc-mul, add_comm, pow-suc, mul-zero, zero-mul, arith}
use native.Mathlib.Nat.{pow-zero}
use lib.Arith.{digits_mod}
use Rattle.std.proofs.lemmas.Bool.Decides.{leb_tells}
use Rattle.ring.specs.Sums.{CommutativeMonoid, sum_to, count}
use Rattle.ring.proofs.Sums.{sum_same, sum_add, sum_split, sum_first}

pub numbers : CommutativeMonoid 0 ◌+◌
numbers = record { assoc = add_assoc; comm = add_comm; unit = add-zero }

abbrev pub total : ℕ → (ℕ → ℕ) → ℕ
total n F = sum_to 0 ◌+◌ n F

pub total_const : (n x : ℕ) → total n (λ a. x) ≡ n * x
total_const zero x = sym (zero-mul x)
total_const (suc n) x = omega (arith, total_const n x)

pub total_times : (m n : ℕ) (F : ℕ → ℕ) → total n (λ a. m * F a) ≡ m * total n F
total_times m zero F = sym (mul-zero m)
total_times m (suc n) F = omega (arith, total_times m n F)

-- the same, counted from the other end
pub total_turned : (n : ℕ) (F : ℕ → ℕ) → total n (λ a. F (n - a)) ≡ total n (λ a. F (suc a))
total_turned zero F = refl
total_turned (suc n) F =
    let e : suc n - 0 ≡ suc n = omega arith in
    sum_first numbers n (λ a. F (suc n - a))
    ∙ ap₂ ◌+◌ (ap F e) (sum_same 0 ◌+◌ n (λ a. F (suc n - suc a)) (λ a. F (n - a)) (λ a h. ap F (omega arith)) ∙ total_turned n F)
    ∙ add_comm (F (suc n)) (total n (λ a. F (suc a)))

pub count_same : (n : ℕ) (P Q : ℕ → Bool) → ((a : ℕ) → a < n → P a ≡ Q a) → count n P ≡ count n Q
count_same n P Q h = sum_same 0 ◌+◌ n _ _ (λ a k. ap (λ b. cond b 1 0) (h a k))

pub count_none : (n : ℕ) → count n (λ a. false) ≡ 0
count_none n = total_const n 0 ∙ mul-zero n

-- tests that are never passed together
pub count_or : (n : ℕ) (P Q : ℕ → Bool) → ((a : ℕ) → a < n → (P a && Q a) ≡ false) → count n (λ a. P a || Q a) ≡ count n P + count n Q
count_or n P Q apart = sum_same 0 ◌+◌ n _ _ (λ a h. one (P a) (Q a) (apart a h)) ∙ sum_add numbers n (λ a. cond (P a) 1 0) (λ a. cond (Q a) 1 0)
  where
    one : (x y : Bool) → (x && y) ≡ false → cond (x || y) 1 0 ≡ cond x 1 0 + cond y 1 0
    one x y e = grind arith

-- a test of the residue, over m whole rounds
pub count_rounds : (m Q : ℕ) (P : ℕ → Bool) → count (m * Q) (λ x. P (x % Q)) ≡ m * count Q P
count_rounds zero Q P = simp zero-mul
count_rounds (suc m) Q P =
    rw (suc-mul m Q)
    (sum_split numbers (m * Q) Q (λ x. cond (P (x % Q)) 1 0)
    ∙ ap₂ ◌+◌ (count_rounds m Q P) (sum_same 0 ◌+◌ Q (λ a. cond (P ((m * Q + a) % Q)) 1 0) (λ a. cond (P a) 1 0) (λ a h. ap (λ x. cond (P x) 1 0) (digits_mod m h)))
    ∙ omega arith)

-- how many below n are at least a
pub count_from : (n a : ℕ) → count n (λ v. leb a v) ≡ n - a
count_from zero a = omega arith
count_from (suc n) a = rw (count_from n a) (grind (arith, leb_tells))

-- and how many are below h
pub count_below : (n h : ℕ) → count n (λ x. ltb x h) + (n - h) ≡ n
count_below zero h = omega arith
count_below (suc n) h = let e = count_below n h in grind (arith, leb_tells)

powers_up : (q n : ℕ) → total n (λ j. q * suc q ^ j) + 1 ≡ suc q ^ n
powers_up q zero = rw pow-zero
powers_up q (suc n) = omega (arith, powers_up q n, pow-suc (suc q) n)

-- a geometric sum
pub powers : (q n : ℕ) → 1 ≤ q → total n (λ j. (q - 1) * q ^ j) ≡ q ^ n - 1
powers zero n h = absurd (omega arith)
powers (suc q) n h =
    let e : q ≡ suc q - 1 = omega arith in
    subst (λ k. total n (λ j. k * suc q ^ j) ≡ suc q ^ n - 1) e (omega (arith, powers_up q n))

-- Residues on a ring of p blocks of t positions.
use Rattle.std.proofs.Common.{◌≡◌, ℕ, suc, ◌+◌, ◌-◌, ◌*◌, ◌%◌, ◌<◌, ◌≤◌, ◌⊎◌, ◌∙◌, ap₂, inl, inr, mul-le-mul_right, mod-lt, mod-eq_of_lt, div-lt_iff_lt-mul, mul-le-mul_left, div-add-mod', arith}
use native.Mathlib.Nat.{mod-eq-sub-mod, mod-mod_of_dvd, dvd-mul_left, dvd-mul_right, dvd-mul_left_of_dvd}
use lib.Arith.{mod-mul, digits_div, digits_mod}
use Rattle.std.proofs.lemmas.Bool.{cases_lt}

-- a residue, by block and place
pub mod_block : (p t x u : ℕ) → 0 < p → u < t → (x * t + u) % (p * t) ≡ (x % p) * t + u
mod_block p t x u hp h = mod-mul (x * t + u) hp (omega arith) ∙ ap₂ (λ b w. b % p * t + w) (digits_div x h) (digits_mod x h)

-- classes see through the residue
pub mod_class : (p t x : ℕ) → x % (p * t) % t ≡ x % t
mod_class p t x = mod-mod_of_dvd t x (dvd-mul_left t p)

-- and so does every divisor Q of t
pub mod_divisor : (p Q c x : ℕ) → x % (p * (Q * c)) % Q ≡ x % Q
mod_divisor p Q c x = mod-mod_of_dvd Q x (dvd-mul_left_of_dvd Q (dvd-mul_right Q c) p)

-- one turn at the most
pub mod_wrap : (n x : ℕ) → x < n + n → ((x < n) × (x % n ≡ x)) ⊎ ((n ≤ x) × (x % n ≡ x - n))
mod_wrap n x h = elim (cases_lt x n) [ inl k ↦ inl (k, mod-eq_of_lt k) | inr k ↦ inr (k, mod-eq-sub-mod k ∙ mod-eq_of_lt (omega arith)) ]

-- a row and the extra position of its class never both move into the last block
pub one_stays : (b t row z : ℕ) → row < b * t → z < suc b * t → ((row + z) % (suc b * t) < b * t) ⊎ ((b * t + row % t + z) % (suc b * t) < b * t)
one_stays b t row z h low = elim (cases_lt ((row + z) % N) (b * t)) [ inl k ↦ inl k | inr k ↦ inr (second k) ]
  where
    N : ℕ
    N = suc b * t

    some : 0 < t
    some = elim (cases_lt 0 t) [ inl k ↦ k | inr k ↦ omega (arith, mul-le-mul_left b k) ]

    apart : row + t ≤ b * t + row % t
    apart = omega (arith, div-add-mod' row t, mul-le-mul_right t ((div-lt_iff_lt-mul some).1 h))

    second : b * t ≤ (row + z) % N → (b * t + row % t + z) % N < b * t
    second k = omega (arith, mod_wrap N (row + z) (omega arith), mod_wrap N (b * t + row % t + z) (omega (arith, mod-lt row some)), mod-lt row some, apart)

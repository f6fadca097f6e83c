-- The numbers of a shape, from k data columns, q helping parities and a prime p, and the rules that they keep.
use Rattle.std.specs.Prelude.{ℕ, ◌+◌, ◌-◌, ◌*◌, ◌^◌, Bool, false, cond, not, ◌||◌, List, [], ◌∷◌, None, Option, ◌==◌, nat_le, nat_lt}
use Rattle.code.specs.declared.refusal.Refusal.{Refusal}
use Rattle.code.specs.declared.refusal.Refusal.TheVariants.{DataColumns, HelpingParities, NotListed, BelowParities, TooManyRows}
use Rattle.code.specs.Refusals.{refuse}

-- the primes that a shape may have
abbrev pub listed : List ℕ
listed = 3 ∷ 5 ∷ 11 ∷ 13 ∷ 19 ∷ 29 ∷ 37 ∷ 53 ∷ 59 ∷ 61 ∷ 67 ∷ 83 ∷ 101 ∷ []

abbrev pub one_of : List ℕ → ℕ → Bool
one_of [] x = false
one_of (y ∷ ys) x = x == y || one_of ys x

-- r, the parity columns
abbrev pub parities : ℕ → ℕ
parities q = 2 * q - 1

-- n, all columns
abbrev pub columns : ℕ → ℕ → ℕ
columns k q = k + parities q

-- d, the columns that help to rebuild a data column
abbrev pub helpers : ℕ → ℕ → ℕ
helpers k q = k + q - 1

-- t, the classes
abbrev pub classes : ℕ → ℕ → ℕ
classes k q = q ^ (k - 2)

-- R, the stored rows
abbrev pub rows : ℕ → ℕ → ℕ → ℕ
rows k q p = (p - 1) * classes k q

-- N, the positions of the ring
abbrev pub positions : ℕ → ℕ → ℕ → ℕ
positions k q p = p * classes k q

-- A(j, i), how far data column i is shifted for parity j
abbrev pub shift : ℕ → ℕ → ℕ → ℕ → ℕ
shift k q j i =
    cond (nat_le j q)
    (cond (nat_lt i k) ((j - 1) * q ^ (i - 1)) 0)
    (cond (nat_le i 1) 0 ((2 * q - j) * q ^ (k - i)))

abbrev pub outside : ℕ → ℕ → ℕ → Bool
outside low high x = nat_lt x low || nat_lt high x

-- the refusal of a shape, or none
abbrev pub shape_refusal : ℕ → ℕ → ℕ → Option Refusal
shape_refusal k q p =
    refuse (outside 4 12 k) (DataColumns k)
    (refuse (outside 2 4 q) (HelpingParities q)
    (refuse (not (one_of listed p)) (NotListed p)
    (refuse (nat_lt p q) (BelowParities p)
    (refuse (nat_lt 4096 (rows k q p)) (TooManyRows (rows k q p))
    None))))

-- Uppercase hexadecimal digits, two to a byte, the high one first.
use Rattle.std.specs.Prelude.{ℕ, ◌+◌, ◌-◌, ◌*◌, ◌/◌, ◌%◌, ◌<◌, Bool, true, false, cond, List, [], ◌∷◌, length, ◌==◌, nat_lt, slice_index}

-- the digit of a number below 16
abbrev pub digit_of : ℕ → ℕ
digit_of v = cond (nat_lt v 10) (48 + v) (55 + v)

-- whether a byte is one of 0 to 9 and A to F
abbrev pub is_digit : ℕ → Bool
is_digit b = cond (nat_lt b 48) false (cond (nat_lt b 58) true (cond (nat_lt b 65) false (nat_lt b 71)))

-- what a digit is worth
abbrev pub worth : ℕ → ℕ
worth b = cond (nat_lt b 58) (b - 48) (b - 55)

-- whether each byte is a digit
abbrev pub all_digits : List ℕ → Bool
all_digits [] = true
all_digits (b ∷ s) = cond (is_digit b) (all_digits s) false

-- whether s is n digits
abbrev pub is_hex : ℕ → List ℕ → Bool
is_hex n s = cond (length s == n) (all_digits s) false

-- the digits of some bytes
abbrev pub hex : List ℕ → List ℕ
hex [] = []
hex (b ∷ bs) = digit_of (b / 16) ∷ digit_of (b % 16) ∷ hex bs

-- the bytes that pairs of digits stand for
abbrev pub unhex : List ℕ → List ℕ
unhex [] = []
unhex (a ∷ []) = []
unhex (a ∷ b ∷ s) = (16 * worth a + worth b) ∷ unhex s

-- each number is a byte's
abbrev pub Octets : List ℕ → Type 0
Octets bs = (i : ℕ) → i < length bs → slice_index bs i < 256

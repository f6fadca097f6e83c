-- The head line of an input: H, space, k, space, q, space, p and a newline, each number in two digits.
use Rattle.std.specs.Prelude.{ℕ, Bool, cond, ◌&&◌, List, length, Some, None, Option, ◌==◌, nat_le, slice_index}
use Rattle.symbol.specs.Hex.{is_hex, unhex}
use Rattle.frames.specs.Lines.{part}
use Rattle.report.specs.declared.head.Head.{Head}

-- whether H, the spaces and the newline are in their places
abbrev pub is_ruled : List ℕ → Bool
is_ruled input = slice_index input 0 == 72 && (slice_index input 1 == 32 && (slice_index input 4 == 32 && (slice_index input 7 == 32 && slice_index input 10 == 10)))

-- the number of two digits, if they are digits
unfoldable pub number_in : List ℕ → Option ℕ
number_in digits = cond (is_hex 2 digits) (Some (slice_index (unhex digits) 0)) None

-- the number of the two digits from place a on
abbrev pub number_at : List ℕ → ℕ → Option ℕ
number_at input a = number_in (part input a 2)

-- k, q and p, if there are all three
abbrev pub all_three : Option ℕ → Option ℕ → Option ℕ → Option Head
all_three None q p = None
all_three (Some k) None p = None
all_three (Some k) (Some q) None = None
all_three (Some k) (Some q) (Some p) = Some (record { k = k; q = q; p = p })

abbrev pub numbers_of : List ℕ → Option Head
numbers_of input = all_three (number_at input 2) (number_at input 5) (number_at input 8)

-- the head of an input, if it has one
abbrev pub head_of : List ℕ → Option Head
head_of input = cond (nat_le 11 (length input) && is_ruled input) (numbers_of input) None

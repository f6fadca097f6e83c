-- Where the lines of a text lie, at symbols of w bytes: each has a mark, a label of nine bytes, 2 * w digits and a newline.
use Rattle.std.specs.Prelude.{◌≡◌, ℕ, zero, suc, ◌+◌, ◌*◌, ◌<◌, ◌≤◌, List, ◌++◌, length, take, drop, Ok, Err, Result, slice_index, slice_set}
use Rattle.code.specs.declared.refusal.Refusal.{Refusal}
use Rattle.code.specs.declared.refusal.Refusal.TheVariants.{NoSuchPlace}
use Rattle.code.specs.Places.{place_of}

-- the bytes of a line
abbrev pub stride : ℕ → ℕ
stride w = 11 + 2 * w

-- the n bytes of a text from a on
abbrev pub part : List ℕ → ℕ → ℕ → List ℕ
part text a n = take n (drop a text)

-- line i, its mark and its digits
abbrev pub line_at : ℕ → List ℕ → ℕ → List ℕ
line_at w text i = part text (i * stride w) (stride w)

abbrev pub mark_at : ℕ → List ℕ → ℕ → ℕ
mark_at w text i = slice_index text (i * stride w)

abbrev pub digits_at : ℕ → List ℕ → ℕ → List ℕ
digits_at w text i = part text (i * stride w + 10) (2 * w)

-- where the line of a place begins; refused outside
abbrev pub Placed : ℕ → ℕ → ℕ → ℕ → ℕ → ℕ → Result ℕ Refusal → Type 0
Placed s columns rows size c r (Ok a) = (1 ≤ c) × (c ≤ columns) × (r < rows) × (a ≡ place_of rows c r * s) × (a + s ≤ size)
Placed s columns rows size c r (Err e) = (1 ≤ c → c ≤ columns → r < rows → ⊥) × (e ≡ NoSuchPlace c r)

-- the text with other bytes from a on
abbrev pub over : List ℕ → ℕ → List ℕ → List ℕ
over text a bytes = take a text ++ (bytes ++ drop (a + length bytes) text)

-- the text with another mark on each of n lines from line i on
abbrev pub marked : ℕ → List ℕ → ℕ → ℕ → ℕ → List ℕ
marked w text i zero mark = text
marked w text i (suc n) mark = slice_set (marked w text i n mark) ((i + n) * stride w) mark

-- The text of an array, and what a text stands for. Columns count from 1, rows from 0, lines from 0.
use Rattle.std.specs.Prelude.{ℕ, zero, suc, ◌+◌, ◌*◌, ◌/◌, ◌%◌, Bool, cond, not, List, [], ◌∷◌, ◌++◌, ◌==◌}
use Rattle.std.specs.Option.{unwrap_or}
use Rattle.symbol.specs.Hex.{hex}
use Rattle.symbol.specs.Kinds.{from_digits}
use Rattle.code.specs.Places.{place_of}
use Rattle.frames.specs.Lines.{mark_at, digits_at}

-- the byte L for a lost column, P for a present one
abbrev pub mark_of : Bool → ℕ
mark_of lost = cond lost 76 80

-- space, column, space, row, space
abbrev pub label : ℕ → ℕ → List ℕ
label c r = 32 ∷ (hex (c ∷ []) ++ (32 ∷ (hex (r / 256 ∷ r % 256 ∷ []) ++ (32 ∷ []))))

abbrev pub frame : ℕ → ℕ → ℕ → List ℕ → List ℕ
frame mark c r digits = mark ∷ (label c r ++ (digits ++ (10 ∷ [])))

-- n lines, one after another
abbrev pub lines : ℕ → (ℕ → List ℕ) → List ℕ
lines zero line = []
lines (suc n) line = lines n line ++ line n

-- line i of an array has column i / rows + 1 and row i % rows
abbrev pub frame_of : {X : Type 0} → ℕ → (X → List ℕ) → (ℕ → Bool) → (ℕ → ℕ → X) → ℕ → List ℕ
frame_of rows bytes lost at i = frame (mark_of (lost (i / rows + 1))) (i / rows + 1) (i % rows) (hex (bytes (at (i / rows + 1) (i % rows))))

-- the text of an array with these marks and symbols
abbrev pub render : {X : Type 0} → ℕ → ℕ → (X → List ℕ) → (ℕ → Bool) → (ℕ → ℕ → X) → List ℕ
render columns rows bytes lost at = lines (columns * rows) (frame_of rows bytes lost at)

-- the mark of a column: that of its first frame
abbrev pub marks_in : ℕ → ℕ → List ℕ → ℕ → Bool
marks_in rows w text c = not (mark_at w text (place_of rows c 0) == 80)

-- the symbol at a place: what its digits stand for, and zero where they are none
abbrev pub symbols_in : {X : Type 0} → X → ℕ → ℕ → (List ℕ → X) → List ℕ → ℕ → ℕ → X
symbols_in none rows w symbol text c r = unwrap_or (from_digits w symbol (digits_at w text (place_of rows c r))) none

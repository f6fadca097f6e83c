-- The check of a text.
use Rattle.std.specs.Prelude.{◌≡◌, ℕ, zero, suc, ◌+◌, ◌*◌, ◌/◌, ◌%◌, ◌<◌, ◌≤◌, Bool, not, ◌&&◌, ◌||◌, List, length, Some, None, Ok, Err, Option, Result, ◌==◌, slice_index}
use Rattle.std.specs.Str.{bytes_eq}
use Rattle.symbol.specs.Hex.{is_hex, Octets}
use Rattle.code.specs.declared.refusal.Refusal.{Refusal}
use Rattle.code.specs.declared.refusal.Refusal.TheVariants.{TextLength, BadFrame, MarkDiffers}
use Rattle.code.specs.Refusals.{refuse, or_else}
use Rattle.frames.specs.Lines.{stride, part, line_at, mark_at}
use Rattle.frames.specs.Format.{frame, render, marks_in, symbols_in}

abbrev pub is_mark : ℕ → Bool
is_mark b = b == 80 || b == 76

-- whether a line is a frame of column c and row r: the frame of its own mark and digits
abbrev pub is_frame : ℕ → ℕ → ℕ → List ℕ → Bool
is_frame w c r line = is_mark (slice_index line 0) && (is_hex (2 * w) (part line 10 (2 * w)) && bytes_eq line (frame (slice_index line 0) c r (part line 10 (2 * w))))

-- whether line i is no frame of its column and row
abbrev pub malformed : ℕ → ℕ → List ℕ → ℕ → Bool
malformed rows w text i = not (is_frame w (i / rows + 1) (i % rows) (line_at w text i))

-- whether the mark of line i is another than that of its column's first line
abbrev pub differs : ℕ → ℕ → List ℕ → ℕ → Bool
differs rows w text i = not (mark_at w text i == mark_at w text (i / rows * rows))

-- the refusal of line i, or none; refusals count lines from 1
abbrev pub line_refusal : ℕ → ℕ → List ℕ → ℕ → Option Refusal
line_refusal rows w text i = refuse (malformed rows w text i) (BadFrame (i + 1)) (refuse (differs rows w text i) (MarkDiffers (i + 1)) None)

-- the refusal of the lowest of n lines that has one
abbrev pub lines_refusal : ℕ → ℕ → List ℕ → ℕ → Option Refusal
lines_refusal rows w text zero = None
lines_refusal rows w text (suc n) = or_else (lines_refusal rows w text n) (line_refusal rows w text n)

-- the refusal of a text of so many columns and rows, or none
abbrev pub text_refusal : ℕ → ℕ → ℕ → List ℕ → Option Refusal
text_refusal columns rows w text = refuse (not (length text == columns * rows * stride w)) (TextLength (columns * rows * stride w)) (lines_refusal rows w text (columns * rows))

-- a call answers Err exactly with the refusal, and Ok exactly if there is none
abbrev pub Told : {U : Type 0} → Option Refusal → Result U Refusal → Type 0
Told refusal (Ok _) = refusal ≡ None
Told refusal (Err e) = refusal ≡ Some e

-- the symbols of an array are those of its kind: their bytes are numbers below 256
abbrev pub Real : {X : Type 0} → ℕ → ℕ → (X → List ℕ) → (ℕ → ℕ → X) → Type 0
Real columns rows bytes at = (c r : ℕ) → 1 ≤ c → c ≤ columns → r < rows → Octets (bytes (at c r))

-- the text is that of the array with these marks and symbols
abbrev pub Renders : {X : Type 0} → ℕ → ℕ → (X → List ℕ) → (ℕ → Bool) → (ℕ → ℕ → X) → List ℕ → Type 0
Renders columns rows bytes lost at text = Real columns rows bytes at × (text ≡ render columns rows bytes lost at)

-- a text passes exactly if it is the text of some array
pub record Passes {X : Type 0} (columns rows w : ℕ) (bytes : X → List ℕ) (text : List ℕ) : Type 0 where
  pub so : text_refusal columns rows w text ≡ None → (lost : ℕ → Bool) × (at : ℕ → ℕ → X) × Renders columns rows bytes lost at text
  pub if_so : (lost : ℕ → Bool) (at : ℕ → ℕ → X) → Renders columns rows bytes lost at text → text_refusal columns rows w text ≡ None

-- a text that passes is the text of what it stands for
abbrev pub Back : {X : Type 0} → X → ℕ → ℕ → ℕ → (X → List ℕ) → (List ℕ → X) → List ℕ → Type 0
Back none columns rows w bytes symbol text = text_refusal columns rows w text ≡ None → render columns rows bytes (marks_in rows w text) (symbols_in none rows w symbol text) ≡ text

-- the text of an array stands for its marks and symbols
abbrev pub There : {X : Type 0} → X → ℕ → ℕ → ℕ → (X → List ℕ) → (List ℕ → X) → List ℕ → Type 0
There {X} none columns rows w bytes symbol text =
    (lost : ℕ → Bool) (at : ℕ → ℕ → X) → Renders columns rows bytes lost at text →
    ((c : ℕ) → 1 ≤ c → c ≤ columns → marks_in rows w text c ≡ lost c) ×
    ((c r : ℕ) → 1 ≤ c → c ≤ columns → r < rows → symbols_in none rows w symbol text c r ≡ at c r)

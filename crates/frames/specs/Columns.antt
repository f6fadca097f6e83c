-- The frames of one column, as one part of a text.
use Rattle.std.specs.Prelude.{◌≡◌, ℕ, ◌+◌, ◌-◌, ◌*◌, ◌<◌, List, length, None, Option, slice_index}
use Rattle.code.specs.declared.refusal.Refusal.{Refusal}
use Rattle.code.specs.declared.refusal.Refusal.TheVariants.{NoSuchPlace}
use Rattle.code.specs.Refusals.{refuse, or_else}
use Rattle.code.specs.Rules.{outside}
use Rattle.frames.specs.Lines.{stride, part}
use Rattle.frames.specs.Checks.{text_refusal}

-- the text's refusal, or that of a column that is not there
abbrev pub column_refusal : ℕ → ℕ → ℕ → List ℕ → ℕ → Option Refusal
column_refusal columns rows w text c = or_else (text_refusal columns rows w text) (refuse (outside 1 columns c) (NoSuchPlace c 0) None)

-- some bytes are the n bytes of a text from a on
pub record IsPart (text : List ℕ) (a n : ℕ) (bytes : List ℕ) : Type 0 where
  pub value : bytes ≡ part text a n
  pub long : length bytes ≡ n
  pub places : (k : ℕ) → k < n → slice_index bytes k ≡ slice_index text (a + k)

-- the bytes are the frames of column c: its rows are one line each
abbrev pub IsColumn : ℕ → ℕ → List ℕ → ℕ → List ℕ → Type 0
IsColumn rows w text c bytes = IsPart text ((c - 1) * (rows * stride w)) (rows * stride w) bytes

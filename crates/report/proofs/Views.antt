-- What a frame store over a text that passed the check means.
use Rattle.std.proofs.Common.{◌≡◌, ℕ, true, List, None, ◌∙◌, ap₂}
use Rattle.std.proofs.lemmas.Bool.{eq-eqb}
use Rattle.symbol.specs.declared.kind.Symbol.{Ghosts}
use Rattle.symbol.specs.declared.byte.Byte.{Byte}
use Rattle.symbol.specs.Bytes.{byte, byte_of}
use Rattle.code.specs.declared.shape.Shape.{Shape}
use Rattle.code.specs.Shapes.{columns_of, rows_of}
use Rattle.store.specs.View.{View}
use Rattle.array.specs.Checks.{fits}
use Rattle.frames.specs.Checks.{text_refusal}
use Rattle.frames.specs.Format.{marks_in, symbols_in}
use Rattle.frames.specs.Stores.{frames_view, Over}
use Rattle.frames.specs.declared.frames.Frames.{Frames}
use Rattle.report.specs.Printed.{marks, symbols, told}

-- the view of a store of frames of bytes
abbrev pub view_of : {K : Ghosts Byte} → Frames Byte K → View Byte
view_of t = frames_view (byte 0) 1 byte_of t

module _
    {K : Ghosts Byte} (s : Shape) (text : List ℕ) (owner : ℕ) (t : Frames Byte K) (memory : t.text.now ≡ text)
    (new : Over (byte 0) 1 byte_of s text owner (view_of t)) (passed : text_refusal (columns_of s) (rows_of s) 1 text ≡ None) where
  columns_are : (view_of t).columns ≡ columns_of s
  columns_are = new.columns ∙ rw passed

  rows_are : (view_of t).rows ≡ rows_of s
  rows_are = new.rows ∙ rw passed

  pub fitting : fits s (view_of t) ≡ true
  fitting = rw (eq-eqb (view_of t).columns (columns_of s) columns_are, eq-eqb (view_of t).rows (rows_of s) rows_are)

  pub told_is : told s (view_of t).lost (view_of t).at ≡ told s (marks s text) (symbols s text)
  told_is = ap₂ (told s) (ap₂ (λ r (l : List ℕ). marks_in r 1 l) rows_are memory) (ap₂ (λ r (l : List ℕ). symbols_in (byte 0) r 1 byte_of l) rows_are memory)

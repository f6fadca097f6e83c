-- What a frame store means: the text that it was lent.
use Rattle.std.specs.Prelude.{◌≡◌, ℕ, ◌+◌, ◌-◌, ◌*◌, Bool, cond, not, List, is_some, None, Ok, Err, Result, ◌==◌, ◌≢◌}
use Rattle.code.specs.declared.refusal.Refusal.{Refusal}
use Rattle.code.specs.declared.refusal.Refusal.TheVariants.{NoSuchPlace}
use Rattle.code.specs.declared.shape.Shape.{Shape}
use Rattle.code.specs.Places.{place_of}
use Rattle.code.specs.Shapes.{columns_of, rows_of}
use Rattle.store.specs.View.{View, Column, Inside}
use Rattle.frames.specs.Lines.{stride, over, marked}
use Rattle.frames.specs.Format.{marks_in, symbols_in}
use Rattle.frames.specs.Checks.{text_refusal}
use Rattle.symbol.specs.declared.kind.Symbol.{Ghosts}
use Rattle.frames.specs.declared.frames.Frames.{Frames}

abbrev pub frames_view : {X : Type 0} {K : Ghosts X} → X → ℕ → (List ℕ → X) → Frames X K → View X
frames_view none w symbol t = record {
  columns = t.columns;
  rows = t.rows;
  at = symbols_in none t.rows w symbol t.text.now;
  lost = marks_in t.rows w t.text.now;
  meter = t.meter;
  lender = t.text.ghost_name;
}

-- the check refuses a text of shape s
abbrev pub refused : Shape → ℕ → List ℕ → Bool
refused s w text = is_some (text_refusal (columns_of s) (rows_of s) w text)

-- new frames of shape s over a text: empty where the check refuses it
pub record Over {X : Type 0} (none : X) (w : ℕ) (symbol : List ℕ → X) (s : Shape) (text : List ℕ) (owner : ℕ) (g : View X) : Type 0 where
  pub columns : g.columns ≡ cond (refused s w text) 0 (columns_of s)
  pub rows : g.rows ≡ cond (refused s w text) 0 (rows_of s)
  pub at : (c r : ℕ) → Inside g c r → g.at c r ≡ symbols_in none (rows_of s) w symbol text c r
  pub lost : (c : ℕ) → Column g c → g.lost c ≡ marks_in (rows_of s) w text c
  pub meter : g.meter ≡ 0
  pub lender : g.lender ≡ owner

-- column c has another mark, and nothing else changed
pub record Remarked {X : Type 0} (g : View X) (c mark : ℕ) (h : View X) : Type 0 where
  pub columns : h.columns ≡ g.columns
  pub rows : h.rows ≡ g.rows
  pub meter : h.meter ≡ g.meter
  pub lender : h.lender ≡ g.lender
  pub here : h.lost c ≡ not (mark == 80)
  pub marks : (d : ℕ) → Column g d → (d ≢ c) → h.lost d ≡ g.lost d
  pub symbols : (d s : ℕ) → Inside g d s → h.at d s ≡ g.at d s

abbrev pub Remarks : {S X U : Type 0} → (S → View X) → S → ℕ → ℕ → Result U Refusal → S → Type 0
Remarks view s c mark (Ok _) s' = Column (view s) c × Remarked (view s) c mark (view s')
Remarks view s c mark (Err e) s' = (Column (view s) c → ⊥) × (e ≡ NoSuchPlace c 0) × (s' ≡ s)

-- the text is well formed, for the store's columns and rows
abbrev pub WellFormed : {X : Type 0} {K : Ghosts X} → ℕ → Frames X K → Type 0
WellFormed w t = text_refusal t.columns t.rows w t.text.now ≡ None

-- columns and rows are as they were, and a text that was well formed is so still
pub record Stays {X : Type 0} {K : Ghosts X} (w : ℕ) (t t' : Frames X K) : Type 0 where
  pub columns : t'.columns ≡ t.columns
  pub rows : t'.rows ≡ t.rows
  pub formed : WellFormed w t → WellFormed w t'

-- the bytes after a column is marked: the marks of its lines, and nothing else
abbrev pub Marks : {X U : Type 0} {K : Ghosts X} → ℕ → Frames X K → ℕ → ℕ → Result U Refusal → Frames X K → Type 0
Marks w t c mark (Ok _) t' = t'.text.now ≡ marked w t.text.now ((c - 1) * t.rows) t.rows mark
Marks w t c mark (Err e) t' = t' ≡ t

-- the bytes after a symbol is written: the digits of its line, and nothing else
abbrev pub Puts : {X U : Type 0} {K : Ghosts X} → ℕ → Frames X K → ℕ → ℕ → List ℕ → Result U Refusal → Frames X K → Type 0
Puts w t c r digits (Ok _) t' = t'.text.now ≡ over t.text.now (place_of t.rows c r * stride w + 10) digits
Puts w t c r digits (Err e) t' = t' ≡ t

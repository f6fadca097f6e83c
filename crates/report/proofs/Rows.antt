-- Lines that are added one after another.
use Rattle.std.proofs.Common.{◌≡◌, ℕ, zero, suc, ◌+◌, ◌<◌, List, [], ◌++◌, Some, refl, ap, ◌∙◌, ap₂, append_assoc, add-one, arith}
use Rattle.symbol.specs.declared.byte.Byte.{Byte}
use Rattle.symbol.specs.Bytes.{byte, byte_plus}
use Rattle.code.specs.declared.shape.Shape.{Shape}
use Rattle.code.specs.Shapes.{rows_of}
use Rattle.frames.specs.Format.{lines}
use Rattle.store.specs.View.{View}
use Rattle.recovery.specs.Rebuild.{count_of, value_of, Rebuilt}
use Rattle.report.specs.Printed.{present, summary, restored}

pub lines_more : (line : ℕ → List ℕ) (start out out' : List ℕ) (i : ℕ) → out ≡ start ++ lines i line → out' ≡ out ++ line i → out' ≡ start ++ lines (i + 1) line
lines_more line start out out' i before e = rw (add-one i) (e ∙ ap (λ (l : List ℕ). l ++ line i) before ∙ append_assoc start (lines i line) (line i))

lines_same : (n : ℕ) (a b : ℕ → List ℕ) → ((i : ℕ) → i < n → a i ≡ b i) → lines n a ≡ lines n b
lines_same zero a b h = refl
lines_same (suc n) a b h = ap₂ ◌++◌ (lines_same n a b (λ i low. h i (omega arith))) (h n (omega arith))

-- the frames of a rebuilt column and the last line
pub brought :
    (s : Shape) (f n : ℕ) (g h : View Byte) (work : List Byte) → Rebuilt (byte 0) byte_plus s f g n h work →
    (rows column count : ℕ) → rows ≡ rows_of s → column ≡ f → count ≡ count_of s f →
    (new frames out : List ℕ) → new ≡ [] → frames ≡ new ++ lines rows (λ r. present column r (h.at column r)) → out ≡ frames ++ summary column count →
    out ≡ restored s g.at (Some f)
brought s f n g h work R rows column count rows_are column-is count_is new frames out empty framed ended =
    ended ∙ ap₂ ◌++◌ (framed ∙ ap (λ (l : List ℕ). l ++ lines rows (λ r. present column r (h.at column r))) empty ∙ step) (ap₂ summary column-is count_is)
  where
    step : lines rows (λ r. present column r (h.at column r)) ≡ lines (rows_of s) (λ r. present f r (value_of (byte 0) byte_plus s f g.at r))
    step = ap₂ (λ m c. lines m (λ r. present c r (h.at c r))) rows_are column-is ∙ lines_same (rows_of s) _ _ (λ i low. ap (present f i) (R.here i low))

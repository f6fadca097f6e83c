-- What the program prints. `lost` gives the mark of each column, `at` the symbol of each column and row.
use Rattle.std.specs.Prelude.{◌≡◌, ℕ, ◌*◌, ◌/◌, ◌%◌, Bool, cond, ◌&&◌, List, [], ◌∷◌, ◌++◌, length, drop, Some, None, Option, nat_lt, refl}
use Rattle.symbol.specs.declared.byte.Byte.{Byte}
use Rattle.symbol.specs.Hex.{hex}
use Rattle.symbol.specs.Bytes.{byte, byte_plus, byte_bytes, byte_of}
use Rattle.code.specs.declared.refusal.Refusal.{Refusal}
use Rattle.code.specs.declared.refusal.Refusal.TheVariants.{TextLength, BadFrame}
use Rattle.code.specs.declared.shape.Shape.{Shape}
use Rattle.code.specs.Refusals.{number_of, refuse}
use Rattle.code.specs.Rules.{shape_refusal}
use Rattle.code.specs.Shapes.{columns_of, rows_of}
use Rattle.frames.specs.Lines.{stride}
use Rattle.frames.specs.Format.{frame, lines, marks_in, symbols_in}
use Rattle.frames.specs.Checks.{text_refusal}
use Rattle.repair.specs.Lists.{helper}
use Rattle.array.specs.Lost.{lowest_lost, lost_refusal}
use Rattle.recovery.specs.Rebuild.{is_data, count_of, value_of}
use Rattle.report.specs.declared.head.Head.{Head}
use Rattle.report.specs.Given.{shape_of}
use Rattle.report.specs.Heads.{head_of}

-- two digits and four
abbrev pub two : ℕ → List ℕ
two n = hex (n ∷ [])

abbrev pub four : ℕ → List ℕ
four n = hex (n / 256 ∷ n % 256 ∷ [])

-- R, a column and a count
abbrev pub summary : ℕ → ℕ → List ℕ
summary c count = 82 ∷ 32 ∷ (two c ++ (32 ∷ (four count ++ (10 ∷ []))))

-- E and the number of a refusal
abbrev pub refused : Refusal → List ℕ
refused e = 69 ∷ 32 ∷ (two (number_of e) ++ (10 ∷ []))

-- the frame of a byte in a present column
abbrev pub present : ℕ → ℕ → Byte → List ℕ
present c r x = frame 80 c r (hex (byte_bytes x))

-- the lowest lost column of a shape, if one is lost
abbrev pub lowest : Shape → (ℕ → Bool) → Option ℕ
lowest s lost = lowest_lost lost (columns_of s)

-- the lowest lost helper of column f, if one is lost
abbrev pub lost_helper_of : Shape → (ℕ → Bool) → ℕ → Option ℕ
lost_helper_of s lost f = cond (is_data s f) (lowest_lost (λ c. helper s f c && lost c) (columns_of s)) (lowest_lost lost s.k)

-- the refusal of a quote of the lowest lost column, if one is lost: nothing but a lost helper is left to refuse
abbrev pub helper_refusal : Shape → (ℕ → Bool) → Option ℕ → Option Refusal
helper_refusal s lost (Some f) = lost_refusal (lost_helper_of s lost f)
helper_refusal s lost None = None

-- the most bytes of frames that are taken
abbrev pub limit : ℕ
limit = 61440

-- the refusal of frames that are too many, or that the check refuses
abbrev pub frames_refusal : Shape → List ℕ → Option Refusal
frames_refusal s text = refuse (nat_lt limit (length text)) (TextLength (columns_of s * rows_of s * stride 1)) (text_refusal (columns_of s) (rows_of s) 1 text)

-- the marks and symbols that frames of bytes stand for
abbrev pub marks : Shape → List ℕ → ℕ → Bool
marks s text = marks_in (rows_of s) 1 text

abbrev pub symbols : Shape → List ℕ → ℕ → ℕ → Byte
symbols s text = symbols_in (byte 0) (rows_of s) 1 byte_of text

-- the lines of a column that is brought back: its frames, the column and the count; or that none is lost
abbrev pub restored : Shape → (ℕ → ℕ → Byte) → Option ℕ → List ℕ
restored s at (Some f) = lines (rows_of s) (λ r. present f r (value_of (byte 0) byte_plus s f at r)) ++ summary f (count_of s f)
restored s at None = summary 0 0

-- the refusal's line where there is one, else the other lines
abbrev pub unless : Option Refusal → List ℕ → List ℕ
unless (Some e) out = refused e
unless None out = out

-- what is printed of an array with these marks and symbols
abbrev pub told : Shape → (ℕ → Bool) → (ℕ → ℕ → Byte) → List ℕ
told s lost at = unless (helper_refusal s lost (lowest s lost)) (restored s at (lowest s lost))

-- what is printed of frames of shape s
abbrev pub answer : Shape → List ℕ → List ℕ
answer s text = unless (frames_refusal s text) (told s (marks s text) (symbols s text))

-- what is printed of a head's numbers and frames: the answer of their shape, or the refusal of one. `is` says that the
-- refusal is theirs; where there is none it makes the shape
abbrev pub shaped : (k q p : ℕ) → List ℕ → (refusal : Option Refusal) → shape_refusal k q p ≡ refusal → List ℕ
shaped k q p text (Some e) is = refused e
shaped k q p text None is = answer (shape_of k q p is) text

abbrev pub headed : Option Head → List ℕ → List ℕ
headed (Some h) text = shaped h.k h.q h.p text (shape_refusal h.k h.q h.p) refl
headed None text = refused (BadFrame 0)

-- what is printed of an input: a head of 11 bytes, and frames
abbrev pub printed : List ℕ → List ℕ
printed input = headed (head_of input) (drop 11 input)

-- A text passes exactly if its length is right and each of its lines is a frame with its column's mark.
use Rattle.std.proofs.Common.{◌≡◌, ℕ, zero, suc, ◌+◌, ◌-◌, ◌*◌, ◌/◌, ◌%◌, ◌<◌, ◌≤◌, Bool, true, false, not, ◌&&◌, eqb, List, [], ◌∷◌, length, get_or, Some, None, Option, sym, refl, ap, ◌∙◌, ap₂, inl, inr, arith}
use Rattle.std.specs.Str.{bytes_eq}
use Rattle.std.proofs.lemmas.List.{take_at}
use Rattle.std.proofs.lemmas.Slice.Eq.{bytes_eq-Decides}
use Rattle.std.proofs.lemmas.Bool.{and_parts, and_from, eqb-true, eq-eqb, cases_eq, not-false}
use Rattle.symbol.specs.Hex.{is_hex}
use Rattle.symbol.proofs.Digits.{hex_long}
use Rattle.code.specs.declared.refusal.Refusal.{Refusal}
use Rattle.code.specs.Refusals.{refuse, or_else}
use Rattle.frames.specs.Lines.{stride, part, line_at, mark_at, digits_at}
use Rattle.frames.specs.Format.{frame}
use Rattle.frames.specs.Checks.{is_mark, is_frame, differs, line_refusal, lines_refusal, text_refusal}
use Rattle.frames.proofs.Places.{column_fits}
use Rattle.frames.proofs.Parts.{part_part, get_d_part}
use Rattle.frames.proofs.Refused.{told, right_length}

pub never : {A : Type 0} (e : A) → ◌≡◌ {A = Option A} (Some e) None → ⊥
never e h = let z : ◌≡◌ {A = ℕ} 0 1 = cc in omega arith

-- a check that does not refuse
let_through : (b : Bool) (e : Refusal) (next : Option Refusal) → refuse b e next ≡ None → (b ≡ false) × (next ≡ None)
let_through true e next h = absurd (never e h)
let_through false e next h = (refl, h)

neither : (a b : Option Refusal) → or_else a b ≡ None → (a ≡ None) × (b ≡ None)
neither (Some e) b h = absurd (never e h)
neither None b h = (refl, h)

-- a frame's mark and digits, and the frame that they make
pub framed : (w c r : ℕ) (line : List ℕ) → is_frame w c r line ≡ true → (is_mark (get_or line 0 0) ≡ true) × (is_hex (2 * w) (part line 10 (2 * w)) ≡ true) × (line ≡ frame (get_or line 0 0) c r (part line 10 (2 * w)))
framed w c r line h =
    let p = and_parts (is_mark (get_or line 0 0)) _ h in
    let q = and_parts (is_hex (2 * w) (part line 10 (2 * w))) _ p.1 in
    (p.0, q.0, (bytes_eq-Decides line (frame (get_or line 0 0) c r (part line 10 (2 * w)))).0 q.1)

pub frame_digits : (w m c r : ℕ) (ds : List ℕ) → length ds ≡ 2 * w → part (frame m c r ds) 10 (2 * w) ≡ ds
frame_digits w m c r ds h = take_at ds (10 ∷ []) (2 * w) h

pub frames_so : (w m c r : ℕ) (ds : List ℕ) → is_mark m ≡ true → is_hex (2 * w) ds ≡ true → is_frame w c r (frame m c r ds) ≡ true
frames_so w m c r ds mark digits =
    let e = frame_digits w m c r ds (hex_long (2 * w) ds digits) in
    ap (λ (d : List ℕ). is_mark m && (is_hex (2 * w) d && bytes_eq (frame m c r ds) (frame m c r d))) e
    ∙ and_from _ _ mark (and_from _ _ digits ((bytes_eq-Decides (frame m c r ds) (frame m c r ds)).1 refl))

module _ (rows w : ℕ) (text : List ℕ) where
  -- the first n lines are frames of their columns and rows, and have their columns' marks
  pub record Passing (i : ℕ) : Type 0 where
    pub frames : is_frame w (i / rows + 1) (i % rows) (line_at w text i) ≡ true
    pub agrees : mark_at w text i ≡ mark_at w text (i / rows * rows)

  line_passes : (i : ℕ) → line_refusal rows w text i ≡ None → Passing i
  line_passes i h =
      let p = let_through (not (is_frame w (i / rows + 1) (i % rows) (line_at w text i))) _ _ h in
      let q = let_through (differs rows w text i) _ None p.1 in
      record { frames = not-false _ p.0; agrees = eqb-true _ _ (not-false _ q.0) }

  passes_line : (i : ℕ) → Passing i → line_refusal rows w text i ≡ None
  passes_line i p = told rows w text i true false (sym p.frames) (ap not (sym (eq-eqb _ _ p.agrees)))

  pub lines_pass : (n : ℕ) → lines_refusal rows w text n ≡ None → (i : ℕ) → i < n → Passing i
  lines_pass zero h i l = absurd (omega arith)
  lines_pass (suc n) h i l =
      let p = neither (lines_refusal rows w text n) (line_refusal rows w text n) h in
      elim (cases_eq i n) [
        | inl same ↦ rw same (line_passes n p.1)
        | inr other ↦ lines_pass n p.0 i (omega arith)
      ]

  pub pass_lines : (n : ℕ) → ((i : ℕ) → i < n → Passing i) → lines_refusal rows w text n ≡ None
  pass_lines zero h = refl
  pass_lines (suc n) h = ap₂ or_else (pass_lines n (λ i l. h i (omega arith))) (passes_line n (h n (omega arith)))

  -- line i in the text's own words
  pub line_mark : (i : ℕ) → mark_at w text i ≡ get_or (line_at w text i) 0 0
  line_mark i = let e : i * stride w + 0 ≡ i * stride w = omega arith in sym (get_d_part text (i * stride w) (stride w) 0 (omega arith) ∙ ap (λ k. get_or text k 0) e)

  pub line_digits : (i : ℕ) → digits_at w text i ≡ part (line_at w text i) 10 (2 * w)
  line_digits i = sym (part_part text (i * stride w) (stride w) 10 (2 * w) (omega arith))

pub record Sound (columns rows w : ℕ) (text : List ℕ) : Type 0 where
  pub long : length text ≡ columns * rows * stride w
  pub lines : (i : ℕ) → i < columns * rows → Passing rows w text i

pub sound : (columns rows w : ℕ) (text : List ℕ) → text_refusal columns rows w text ≡ None → Sound columns rows w text
sound columns rows w text h =
    let p = let_through (not (eqb (length text) (columns * rows * stride w))) _ _ h in
    record { long = eqb-true _ _ (not-false _ p.0); lines = lines_pass rows w text (columns * rows) p.1 }

pub unrefused : (columns rows w : ℕ) (text : List ℕ) → Sound columns rows w text → text_refusal columns rows w text ≡ None
unrefused columns rows w text s = right_length columns rows w text s.long ∙ pass_lines rows w text (columns * rows) s.lines

-- the lines of a column lie in a text that passes, by the numbers that a call worked out
pub column_in : (columns rows w : ℕ) (text : List ℕ) (c n s : ℕ) → text_refusal columns rows w text ≡ None → n ≡ rows → s ≡ stride w → 1 ≤ c → c ≤ columns → (c - 1) * (n * s) + n * s ≤ length text
column_in columns rows w text c n s h n-is s-is one last =
    let size : length text ≡ columns * n * s = (sound columns rows w text h).long ∙ sym (ap₂ (λ n s. columns * n * s) n-is s-is) in
    column_fits c columns n s (length text) one last size

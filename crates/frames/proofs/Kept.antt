-- A write and a mark leave a well formed text well formed.
use Rattle.std.proofs.Common.{◌≡◌, ℕ, zero, suc, ◌+◌, ◌*◌, ◌/◌, ◌%◌, ◌<◌, ◌≤◌, true, ◌⊎◌, List, [], ◌∷◌, ◌++◌, length, get_or, take, drop, set, sym, ap, ◌∙◌, subst, inl, inr, mul-le-mul_right, mod-lt, div-add-mod', div-mul-le_self, arith}
use Rattle.std.proofs.lemmas.List.{drop-drop, drop_at}
use Rattle.std.proofs.lemmas.Bool.{cases_eq, cases_order}
use Rattle.symbol.specs.Hex.{is_hex}
use Rattle.symbol.proofs.Digits.{hex_long}
use Rattle.frames.specs.Lines.{stride, part, line_at, over, marked}
use Rattle.frames.specs.Format.{label, frame}
use Rattle.frames.specs.Checks.{is_mark, is_frame}
use Rattle.frames.proofs.Sound.{Sound, framed, frames_so}
use Rattle.frames.proofs.Texts.{length_over, mark_over, line_other, line_over, line_unmarked, line_marked, length_marked, mark_out, mark_in}

-- a frame with other digits, or another mark
redigited : (w c r : ℕ) (line ds : List ℕ) → is_frame w c r line ≡ true → is_hex (2 * w) ds ≡ true → is_frame w c r (part line 0 10 ++ (ds ++ part line (10 + 2 * w) 1)) ≡ true
redigited w c r line ds h digits =
    let f = framed w c r line h in
    let m = get_or line 0 0 in
    let old = part line 10 (2 * w) in
    let end : drop (10 + 2 * w) (frame m c r old) ≡ 10 ∷ [] = sym (drop-drop (2 * w) 10 (frame m c r old)) ∙ drop_at old (10 ∷ []) (2 * w) (hex_long (2 * w) old f.1) in
    let line' : part line 0 10 ++ (ds ++ part line (10 + 2 * w) 1) ≡ frame m c r ds =
    ap (λ (l : List ℕ). part l 0 10 ++ (ds ++ part l (10 + 2 * w) 1)) f.2
    ∙ ap (λ (e : List ℕ). (m ∷ label c r) ++ (ds ++ take 1 e)) end in
    ap (is_frame w c r) line' ∙ frames_so w m c r ds f.0 digits

remarked : (w c r : ℕ) (line : List ℕ) (mark : ℕ) → is_frame w c r line ≡ true → is_mark mark ≡ true → is_frame w c r (set line 0 mark) ≡ true
remarked w c r line mark h is =
    let f = framed w c r line h in
    ap (λ (l : List ℕ). is_frame w c r (set l 0 mark)) f.2 ∙ frames_so w mark c r (part line 10 (2 * w)) is f.1

module _ (columns rows w : ℕ) (text : List ℕ) (s : Sound columns rows w text) where
  pub written_sound : (i : ℕ) (ds : List ℕ) → i * stride w + stride w ≤ length text → is_hex (2 * w) ds ≡ true → Sound columns rows w (over text (i * stride w + 10) ds)
  written_sound i ds fits digits =
      let long = hex_long (2 * w) ds digits in
      record {
        long = length_over text (i * stride w + 10) ds (omega arith) ∙ s.long;
        lines = λ j l. record {
          frames = elim (cases_eq j i) [
            | inl same ↦ rw same (ap (is_frame w (i / rows + 1) (i % rows)) (line_over w text i ds fits long) ∙ redigited w (i / rows + 1) (i % rows) (line_at w text i) ds (s.lines i (rw same at l)).frames digits)
            | inr other ↦ ap (is_frame w (j / rows + 1) (j % rows)) (line_other w text i ds fits long j other) ∙ (s.lines j l).frames
          ];
          agrees = mark_over w text i ds fits long j ∙ (s.lines j l).agrees ∙ sym (mark_over w text i ds fits long (j / rows * rows));
        };
      }

  frames_marked : (i mark n j : ℕ) → is_mark mark ≡ true → j < columns * rows → is_frame w (j / rows + 1) (j % rows) (line_at w (marked w text i n mark) j) ≡ true
  frames_marked i mark zero j is l = (s.lines j l).frames
  frames_marked i mark (suc n) j is l =
      let before = marked w text i n mark in
      let kept = frames_marked i mark n j is l in
      elim (cases_eq j (i + n)) [
        | inl same ↦ ap (is_frame w (j / rows + 1) (j % rows)) (subst (λ (k : ℕ). line_at w (set before (k * stride w) mark) j ≡ set (line_at w before j) 0 mark) same (line_marked w before j mark)) ∙ remarked w (j / rows + 1) (j % rows) (line_at w before j) mark kept is
        | inr other ↦ ap (is_frame w (j / rows + 1) (j % rows)) (line_unmarked w before (i + n) mark j other) ∙ kept
      ]

  -- a line lies in a column exactly if the column's first line does
  same_column : (k j : ℕ) → 1 ≤ rows → ((k * rows ≤ j) × (j < k * rows + rows) × (k * rows ≤ j / rows * rows) × (j / rows * rows < k * rows + rows)) ⊎ (((j < k * rows) ⊎ (k * rows + rows ≤ j)) × ((j / rows * rows < k * rows) ⊎ (k * rows + rows ≤ j / rows * rows)))
  same_column k j some =
      let e = div-add-mod' j rows in
      let rest = mod-lt j {m = rows} some in
      elim (cases_order (j / rows) k) [
        | inl same ↦ let p : j / rows * rows ≡ k * rows = ap (λ q. q * rows) same in inl (omega arith, omega arith, omega arith, omega arith)
        | inr less ↦ elim less [
          | inl below ↦ let step : (j / rows + 1) * rows ≤ k * rows = mul-le-mul_right rows (omega arith) in inr (inl (omega arith), inl (omega arith))
          | inr above ↦ let step : (k + 1) * rows ≤ j / rows * rows = mul-le-mul_right rows (omega arith) in inr (inr (omega arith), inr (omega arith))
        ]
      ]

  pub marked_sound : (k mark : ℕ) → 1 ≤ rows → is_mark mark ≡ true → Sound columns rows w (marked w text (k * rows) rows mark)
  marked_sound k mark some is = record {
    long = length_marked w text (k * rows) mark rows ∙ s.long;
    lines = λ j l.
        let step : (j + 1) * stride w ≤ columns * rows * stride w = mul-le-mul_right (stride w) (omega arith) in
        let first : j / rows * rows * stride w ≤ j * stride w = mul-le-mul_right (stride w) (div-mul-le_self j rows) in
        let long = s.long in
        record {
          frames = frames_marked (k * rows) mark rows j is l;
          agrees = elim (same_column k j some) [
            | inl here ↦ mark_in w text (k * rows) mark rows j here.0 here.1 (omega arith) ∙ sym (mark_in w text (k * rows) mark rows (j / rows * rows) here.2 here.3 (omega arith))
            | inr out ↦ mark_out w text (k * rows) mark rows j out.0 ∙ (s.lines j l).agrees ∙ sym (mark_out w text (k * rows) mark rows (j / rows * rows) out.1)
          ];
        };
  }

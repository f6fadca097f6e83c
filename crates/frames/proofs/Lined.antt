-- Lines of one length, one after another.
use Rattle.std.proofs.Common.{◌≡◌, ℕ, zero, suc, ◌+◌, ◌*◌, ◌<◌, ◌≤◌, List, ◌++◌, length, take, drop, sym, ap, ◌∙◌, ap₂, inl, inr, mul-le-mul_right, zero-add, arith}
use Rattle.std.proofs.lemmas.List.{length-append, take-append-le, drop-append-le, take_all, drop_at, length-drop}
use Rattle.std.proofs.lemmas.Bool.{cases_eq}
use Rattle.frames.specs.Lines.{part}
use Rattle.frames.specs.Format.{lines}
use Rattle.frames.proofs.Parts.{part_split}

-- a part of the front
part_front : (xs ys : List ℕ) (a n : ℕ) → a + n ≤ length xs → part (xs ++ ys) a n ≡ part xs a n
part_front xs ys a n h =
    let rest : n ≤ length (drop a xs) = simp length-drop (omega arith) in
    ap (take n) (drop-append-le a xs ys (omega arith)) ∙ take-append-le n (drop a xs) ys rest

module _ (s : ℕ) (f : ℕ → List ℕ) where
  pub length_lines : (n : ℕ) → ((i : ℕ) → i < n → length (f i) ≡ s) → length (lines n f) ≡ n * s
  length_lines zero h = omega arith
  length_lines (suc n) h = omega (arith, length-append (lines n f) (f n), length_lines n (λ i l. h i (omega arith)), h n (omega arith))

  pub part_lines : (n i : ℕ) → ((i : ℕ) → i < n → length (f i) ≡ s) → i < n → part (lines n f) (i * s) s ≡ f i
  part_lines zero i h l = absurd (omega arith)
  part_lines (suc n) i h l =
      let long = length_lines n (λ i l. h i (omega arith)) in
      elim (cases_eq i n) [
        | inl same ↦ let last : length (f n) ≤ s = omega (arith, h n (omega arith)) in rw same (ap (take s) (drop_at (lines n f) (f n) (n * s) long) ∙ take_all s (f n) last)
        | inr other ↦
            let step : (i + 1) * s ≤ n * s = mul-le-mul_right s (omega arith) in
            part_front (lines n f) (f n) (i * s) s (omega arith) ∙ part_lines n i (λ i l. h i (omega arith)) (omega arith)
      ]

  lines_front : (n : ℕ) (text : List ℕ) → ((i : ℕ) → i < n → part text (i * s) s ≡ f i) → take (n * s) text ≡ lines n f
  lines_front zero text h = let e : 0 * s ≡ 0 = omega arith in ap (λ k. take k text) e
  lines_front (suc n) text h =
      let e : suc n * s ≡ n * s + s = omega arith in
      ap (λ k. take k text) e ∙ part_split text 0 (n * s) s ∙ ap₂ ◌++◌ (lines_front n text (λ i l. h i (omega arith))) (ap (λ k. part text k s) (zero-add (n * s)) ∙ h n (omega arith))

  -- a text is its lines
  pub lines_from : (n : ℕ) (text : List ℕ) → length text ≡ n * s → ((i : ℕ) → i < n → part text (i * s) s ≡ f i) → text ≡ lines n f
  lines_from n text long h = sym (take_all (n * s) text (omega arith)) ∙ lines_front n text h

-- What a write to a text comes to: parts of it, lines and marks.
use Rattle.std.proofs.Common.{◌≡◌, ℕ, zero, suc, ◌+◌, ◌*◌, ◌<◌, ◌≤◌, Ok, Err, Result, IfOk, ◌≢◌, ◌⊎◌, List, [], ◌∷◌, ◌++◌, length, get_or, take, drop, set, sym, refl, ap, ◌∙◌, ap₂, inl, inr, mul-le-mul_right, arith}
use borrow.Rule.Slice.PartMut.{put_mid}
use Rattle.std.proofs.lemmas.List.{drop-drop, drop_at, take_at, length-append, length-drop, length-take-le, drop-take, take-set-le, drop-set-lt, drop-set-add, length-set, get_or-set_same, get_or-set_other}
use Rattle.std.proofs.lemmas.Slice.{take-put_mid_below, drop-put_mid}
use Rattle.std.proofs.lemmas.Bool.{cases_order, cases_eq}
use Rattle.symbol.specs.Kinds.{Wrote}
use Rattle.frames.specs.Lines.{stride, part, line_at, mark_at, digits_at, over, marked}
use Rattle.frames.proofs.Parts.{part_split, part_part, get_d_part}

-- a part of the right length is written
pub wrote : {E P : Type 0} (bytes before after : List ℕ) (r : Result Unit E) → Wrote bytes before after r → IfOk r (λ _. P) → length before ≡ length bytes → (after ≡ bytes) × P
wrote bytes before after (Ok done) h p long = (h.1, p)
wrote bytes before after (Err e) h p long = absurd (h.0 long)

pub mid_over : (a k : ℕ) (xs ys zs : List ℕ) → ys ≡ zs → length ys ≡ k → put_mid a k xs ys ≡ over xs a zs
mid_over a k xs ys zs e h =
    let n : k ≡ length zs = sym h ∙ ap length e in
    let d : drop k (drop a xs) ≡ drop (a + k) xs = drop-drop k a xs in
    cc

module _ (xs : List ℕ) (a : ℕ) (ys : List ℕ) where
  as_mid : over xs a ys ≡ put_mid a (length ys) xs ys
  as_mid = sym (mid_over a (length ys) xs ys ys refl refl)

  pub length_over : a + length ys ≤ length xs → length (over xs a ys) ≡ length xs
  length_over h = length-append (take a xs) (ys ++ drop (a + length ys) xs) ∙ omega (arith, length-append ys (drop (a + length ys) xs), length-take-le a xs (omega arith), length-drop (a + length ys) xs)

  -- what was written is there
  pub part_over : (n : ℕ) → a ≤ length xs → length ys ≡ n → part (over xs a ys) a n ≡ ys
  part_over n h e = ap (take n) (drop_at (take a xs) (ys ++ drop (a + length ys) xs) a (length-take-le a xs h)) ∙ take_at ys (drop (a + length ys) xs) n e

  -- what lies below or above is as before
  pub part_off : (p n : ℕ) → a ≤ length xs → (p + n ≤ a) ⊎ (a + length ys ≤ p) → part (over xs a ys) p n ≡ part xs p n
  part_off p n h (inl below) =
      let same : take (p + n) (over xs a ys) ≡ take (p + n) xs = ap (take (p + n)) as_mid ∙ take-put_mid_below a (length ys) xs ys (p + n) below h in
      sym (drop-take p n (over xs a ys)) ∙ ap (drop p) same ∙ drop-take p n xs
  part_off p n h (inr above) = ap (take n) (ap (drop p) as_mid ∙ drop-put_mid a (length ys) xs ys p above h refl)

-- a byte is a part of one
byte_part : (xs ys : List ℕ) (k : ℕ) → part xs k 1 ≡ part ys k 1 → get_or xs k 0 ≡ get_or ys k 0
byte_part xs ys k e = sym (at xs) ∙ ap (λ (zs : List ℕ). get_or zs 0 0) e ∙ at ys where
  at : (zs : List ℕ) → get_or (part zs k 1) 0 0 ≡ get_or zs k 0
  at zs = let z : k + 0 ≡ k = omega arith in get_d_part zs k 1 0 (omega arith) ∙ ap (λ p. get_or zs p 0) z

-- a byte set outside a part, or in it
pub part_set : (xs : List ℕ) (k b p n : ℕ) → (k < p) ⊎ (p + n ≤ k) → part (set xs k b) p n ≡ part xs p n
part_set xs k b p n (inl before) = ap (take n) (drop-set-lt p xs k b before)
part_set xs k b p n (inr after) = sym (drop-take p n (set xs k b)) ∙ ap (drop p) (take-set-le (p + n) xs k b after) ∙ drop-take p n xs

-- two lines are one, or one ends before the other begins
pub apart : (s i j : ℕ) → (i ≡ j) ⊎ ((i * s + s ≤ j * s) ⊎ (j * s + s ≤ i * s))
apart s i j = elim (cases_order i j) [
  | inl same ↦ inl same
  | inr less ↦ inr (elim less [
    | inl up ↦ inl (let step : (i + 1) * s ≤ j * s = mul-le-mul_right s (omega arith) in omega arith)
    | inr down ↦ inr (let step : (j + 1) * s ≤ i * s = mul-le-mul_right s (omega arith) in omega arith)
  ])
]

-- digits are written into line i
module _ (w : ℕ) (text : List ℕ) (i : ℕ) (ds : List ℕ) (fits : i * stride w + stride w ≤ length text) (long : length ds ≡ 2 * w) where
  abbrev after : List ℕ
  after = over text (i * stride w + 10) ds

  -- a part of another line, or what comes before the digits
  off : (j p n : ℕ) → (j ≡ i → ⊥) ⊎ (p + n ≤ 10) → p + n ≤ stride w → part after (j * stride w + p) n ≡ part text (j * stride w + p) n
  off j p n which inside = part_off text (i * stride w + 10) ds (j * stride w + p) n (omega arith) (elim (apart (stride w) i j) [
    | inl same ↦ elim which [ inl ne ↦ absurd (ne (sym same)) | inr before ↦ inl (rw same (omega arith)) ]
    | inr less ↦ elim less [ inl up ↦ inr (omega arith) | inr down ↦ inl (omega arith) ]
  ])

  pub mark_over : (j : ℕ) → mark_at w after j ≡ mark_at w text j
  mark_over j =
      let z : j * stride w + 0 ≡ j * stride w = omega arith in
      byte_part after text (j * stride w) (rw z at (off j 0 1 (inr (omega arith)) (omega arith)))

  pub line_other : (j : ℕ) → (j ≡ i → ⊥) → line_at w after j ≡ line_at w text j
  line_other j ne =
      let z : j * stride w + 0 ≡ j * stride w = omega arith in
      rw z at (off j 0 (stride w) (inl ne) (omega arith))

  pub digits_other : (j : ℕ) → (j ≡ i → ⊥) → digits_at w after j ≡ digits_at w text j
  digits_other j ne = off j 10 (2 * w) (inl ne) (omega arith)

  pub digits_here : digits_at w after i ≡ ds
  digits_here = part_over text (i * stride w + 10) ds (2 * w) (omega arith) long

  -- line i with the digits
  pub line_over : line_at w after i ≡ part (line_at w text i) 0 10 ++ (ds ++ part (line_at w text i) (10 + 2 * w) 1)
  line_over =
      let a = i * stride w in
      let s : stride w ≡ 10 + (2 * w + 1) = omega arith in
      let z : a + 0 ≡ a = omega arith in
      let e : a + 10 + 2 * w ≡ a + (10 + 2 * w) = omega arith in
      let front : part after a 10 ≡ part (line_at w text i) 0 10 = rw z at (off i 0 10 (inr (omega arith)) (omega arith) ∙ sym (part_part text a (stride w) 0 10 (omega arith))) in
      let end : part after (a + 10 + 2 * w) 1 ≡ part (line_at w text i) (10 + 2 * w) 1 = part_off text (a + 10) ds (a + 10 + 2 * w) 1 (omega arith) (inr (omega arith)) ∙ ap (λ k. part text k 1) e ∙ sym (part_part text a (stride w) (10 + 2 * w) 1 (omega arith)) in
      ap (part after a) s
      ∙ part_split after a 10 (2 * w + 1)
      ∙ ap₂ ◌++◌ front (part_split after (a + 10) (2 * w) 1 ∙ ap₂ ◌++◌ digits_here end)

set_first : (n : ℕ) (xs : List ℕ) (b : ℕ) → take (suc n) (set xs 0 b) ≡ set (take (suc n) xs) 0 b
set_first n [] b = refl
set_first n (x ∷ xs) b = refl

-- one line is marked
module _ (w : ℕ) (text : List ℕ) (k mark : ℕ) where
  pub line_unmarked : (j : ℕ) → (j ≡ k → ⊥) → line_at w (set text (k * stride w) mark) j ≡ line_at w text j
  line_unmarked j ne = part_set text (k * stride w) mark (j * stride w) (stride w) (elim (apart (stride w) k j) [
    | inl same ↦ absurd (ne (sym same))
    | inr less ↦ elim less [ inl up ↦ inl (omega arith) | inr down ↦ inr (omega arith) ]
  ])

  pub line_marked : line_at w (set text (k * stride w) mark) k ≡ set (line_at w text k) 0 mark
  line_marked =
      let a = k * stride w in
      let z : a ≡ a + 0 = omega arith in
      let s : stride w ≡ suc (10 + 2 * w) = omega arith in
      ap₂ (λ n p. take n (drop a (set text p mark))) s z
      ∙ ap (take (suc (10 + 2 * w))) (drop-set-add a text 0 mark)
      ∙ set_first (10 + 2 * w) (drop a text) mark
      ∙ ap (λ n. set (take n (drop a text)) 0 mark) (sym s)

  pub digits_unmarked : (j : ℕ) → digits_at w (set text (k * stride w) mark) j ≡ digits_at w text j
  digits_unmarked j = part_set text (k * stride w) mark (j * stride w + 10) (2 * w) (elim (apart (stride w) k j) [
    | inl same ↦ inl (rw same (omega arith))
    | inr less ↦ elim less [ inl up ↦ inl (omega arith) | inr down ↦ inr (omega arith) ]
  ])

  pub mark_unmarked : (j : ℕ) → (j ≡ k → ⊥) → mark_at w (set text (k * stride w) mark) j ≡ mark_at w text j
  mark_unmarked j ne =
      let off : j * stride w ≢ k * stride w = λ e. elim (apart (stride w) k j) [
        | inl same ↦ ne (sym same)
        | inr less ↦ elim less [ inl up ↦ omega arith | inr down ↦ omega arith ]
      ] in
      get_or-set_other text (k * stride w) (j * stride w) mark 0 off

-- n lines are marked, from line i on
module _ (w : ℕ) (text : List ℕ) (i mark : ℕ) where
  pub length_marked : (n : ℕ) → length (marked w text i n mark) ≡ length text
  length_marked zero = refl
  length_marked (suc n) = length-set (marked w text i n mark) ((i + n) * stride w) mark ∙ length_marked n

  pub digits_marked : (n j : ℕ) → digits_at w (marked w text i n mark) j ≡ digits_at w text j
  digits_marked zero j = refl
  digits_marked (suc n) j = digits_unmarked w (marked w text i n mark) (i + n) mark j ∙ digits_marked n j

  pub mark_out : (n j : ℕ) → (j < i) ⊎ (i + n ≤ j) → mark_at w (marked w text i n mark) j ≡ mark_at w text j
  mark_out zero j out = refl
  mark_out (suc n) j out =
      let out' : (j < i) ⊎ (i + n ≤ j) = elim out [ inl l ↦ inl l | inr r ↦ inr (omega arith) ] in
      let ne : j ≡ i + n → ⊥ = λ e. elim out [ inl l ↦ omega arith | inr r ↦ omega arith ] in
      mark_unmarked w (marked w text i n mark) (i + n) mark j ne ∙ mark_out n j out'

  pub mark_in : (n j : ℕ) → i ≤ j → j < i + n → j * stride w < length text → mark_at w (marked w text i n mark) j ≡ mark
  mark_in zero j low high within = absurd (omega arith)
  mark_in (suc n) j low high within = elim (cases_eq j (i + n)) [
    | inl same ↦ rw same (get_or-set_same (marked w text i n mark) ((i + n) * stride w) mark 0 (rw (length_marked n) (rw same at within)))
    | inr other ↦ mark_unmarked w (marked w text i n mark) (i + n) mark j other ∙ mark_in n j low (omega arith) within
  ]

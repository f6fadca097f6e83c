-- Parts of a text.
use Rattle.std.proofs.Common.{◌≡◌, ℕ, ◌+◌, ◌-◌, ◌*◌, ◌<◌, ◌≤◌, List, [], ◌∷◌, ◌++◌, length, get_or, take, drop, sym, ap, ◌∙◌, subst, arith}
use Rattle.std.proofs.lemmas.List.{drop-drop, take-take, drop-take, get_or-take, get_or-drop, length-drop, length-take-le, drop_more, take-append-drop}
use Rattle.frames.specs.Lines.{stride, part}
use Rattle.frames.specs.Columns.{IsPart, IsColumn}

pub part_part : (xs : List ℕ) (a n b m : ℕ) → b + m ≤ n → part (part xs a n) b m ≡ part xs (a + b) m
part_part xs a n b m h =
    let e : n ≡ b + (n - b) = omega arith in
    let inner : drop b (take n (drop a xs)) ≡ take (n - b) (drop b (drop a xs)) = ap (λ k. drop b (take k (drop a xs))) e ∙ drop-take b (n - b) (drop a xs) in
    ap (take m) inner ∙ take-take m (n - b) (drop b (drop a xs)) (omega arith) ∙ ap (take m) (drop-drop b a xs)

pub get_d_part : (xs : List ℕ) (a n k : ℕ) → k < n → get_or (part xs a n) k 0 ≡ get_or xs (a + k) 0
get_d_part xs a n k h = get_or-take n (drop a xs) k 0 h ∙ get_or-drop a xs k 0

pub length_part : (xs : List ℕ) (a n : ℕ) → a + n ≤ length xs → length (part xs a n) ≡ n
length_part xs a n h = let fits : n ≤ length (drop a xs) = simp length-drop (omega arith) in length-take-le n (drop a xs) fits

-- a part is its front and its rest
pub part_split : (xs : List ℕ) (a m n : ℕ) → part xs a (m + n) ≡ part xs a m ++ part xs (a + m) n
part_split xs a m n =
    sym (take-append-drop m (part xs a (m + n)))
    ∙ ap (λ (f : List ℕ). f ++ drop m (part xs a (m + n))) (take-take m (m + n) (drop a xs) (omega arith))
    ∙ ap (λ (r : List ℕ). part xs a m ++ r) (drop-take m n (drop a xs) ∙ ap (take n) (drop-drop m a xs))

pub part_one : (xs : List ℕ) (a : ℕ) → a < length xs → part xs a 1 ≡ get_or xs a 0 ∷ []
part_one xs a h = ap (take 1) (drop_more xs a 0 h)

-- what `&text[start..start + size]` is, by the numbers that a call worked out
pub is_column : (rows w : ℕ) (text : List ℕ) (c size : ℕ) → size ≡ rows * stride w → (c - 1) * size + size ≤ length text → IsColumn rows w text c (take ((c - 1) * size + size - (c - 1) * size) (drop ((c - 1) * size) text))
is_column rows w text c size e h =
    let m : (c - 1) * size + size - (c - 1) * size ≡ size = omega arith in
    let P : ℕ → Type 0 = λ n. IsPart text ((c - 1) * n) n (take ((c - 1) * size + size - (c - 1) * size) (drop ((c - 1) * size) text)) in
    subst P e (record { value = rw m; long = rw m (length_part text ((c - 1) * size) size h); places = λ k l. rw m (get_d_part text ((c - 1) * size) size k l) })

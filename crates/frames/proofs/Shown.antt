-- A line is a frame exactly if its mark, label, digits and end are a frame's.
use Rattle.std.proofs.Common.{◌≡◌, ℕ, ◌+◌, ◌-◌, ◌*◌, Bool, true, false, ◌&&◌, eqb, List, [], ◌∷◌, ◌++◌, length, get_or, take, drop, sym, refl, ap, ◌∙◌, arith}
use Rattle.std.specs.Str.{bytes_eq}
use Rattle.std.proofs.lemmas.List.{take_all, take_at, drop_at, append_cancel_left, take-take, drop-take, drop-drop}
use Rattle.std.proofs.lemmas.Slice.Eq.{bytes_eq-Decides}
use Rattle.std.proofs.lemmas.Bool.{and_from, and_parts, eq-eqb, eqb-true}
use Rattle.symbol.specs.Hex.{is_hex}
use Rattle.frames.specs.Lines.{stride, part}
use Rattle.frames.specs.Format.{label}
use Rattle.frames.specs.Checks.{is_mark, is_frame}
use Rattle.frames.proofs.Parts.{part_split, part_one, length_part}

-- a line is its mark, label, digits and end
pub line_is : (w : ℕ) (line : List ℕ) → length line ≡ stride w →
    line ≡ get_or line 0 0 ∷ (part line 1 9 ++ (part line 10 (2 * w) ++ (get_or line (10 + 2 * w) 0 ∷ [])))
line_is w line h =
    let s : stride w ≡ 1 + (9 + (2 * w + 1)) = omega arith in
    let e : part line (10 + 2 * w) 1 ≡ get_or line (10 + 2 * w) 0 ∷ [] = part_one line (10 + 2 * w) (omega arith) in
    let f : part line 0 1 ≡ get_or line 0 0 ∷ [] = part_one line 0 (omega arith) in
    sym (take_all (stride w) line (omega arith))
    ∙ ap (part line 0) s
    ∙ part_split line 0 1 (9 + (2 * w + 1))
    ∙ rw (f, part_split line 1 9 (2 * w + 1), part_split line 10 (2 * w) 1, e)

-- two tests that ask the same
pub same_test : (a b : Bool) → (a ≡ true → b ≡ true) → (b ≡ true → a ≡ true) → a ≡ b
same_test true b f g = sym (f refl)
same_test false true f g = g refl
same_test false false f g = refl

-- lines of one mark and the same digits are equal exactly if their labels and ends are
same_lines : (m : ℕ) (l k ds : List ℕ) (e d : ℕ) → length l ≡ 9 → length k ≡ 9 → bytes_eq (m ∷ (l ++ (ds ++ (e ∷ [])))) (m ∷ (k ++ (ds ++ (d ∷ [])))) ≡ (bytes_eq l k && eqb e d)
same_lines m l k ds e d p q =
    same_test _ _
    (λ h.
    let t : l ++ (ds ++ (e ∷ [])) ≡ k ++ (ds ++ (d ∷ [])) = let line = (bytes_eq-Decides (m ∷ (l ++ (ds ++ (e ∷ [])))) (m ∷ (k ++ (ds ++ (d ∷ []))))).0 h in cc in
    let labels : l ≡ k = sym (take_at l _ 9 p) ∙ ap (take 9) t ∙ take_at k _ 9 q in
    let rest : ds ++ (e ∷ []) ≡ ds ++ (d ∷ []) = sym (drop_at l _ 9 p) ∙ ap (drop 9) t ∙ drop_at k _ 9 q in
    let last : e ∷ [] ≡ d ∷ [] = append_cancel_left ds _ _ rest in
    and_from _ _ ((bytes_eq-Decides l k).1 labels) (eq-eqb e d (cc)))
    (λ h.
    let both = and_parts (bytes_eq l k) (eqb e d) h in
    let labels = (bytes_eq-Decides l k).0 both.0 in
    let ends = eqb-true e d both.1 in
    (bytes_eq-Decides (m ∷ (l ++ (ds ++ (e ∷ [])))) (m ∷ (k ++ (ds ++ (d ∷ []))))).1 (cc))

-- the test of a line by its parts
pub by_parts : (w c r : ℕ) (line : List ℕ) → length line ≡ stride w →
    is_frame w c r line ≡ (is_mark (get_or line 0 0) && (is_hex (2 * w) (part line 10 (2 * w)) && (bytes_eq (part line 1 9) (label c r) && eqb (get_or line (10 + 2 * w) 0) 10)))
by_parts w c r line h =
    let m = get_or line 0 0 in
    let ds = part line 10 (2 * w) in
    let n = length_part line 1 9 (omega arith) in
    ap (λ (l : List ℕ). is_mark m && (is_hex (2 * w) ds && bytes_eq l (m ∷ (label c r ++ (ds ++ (10 ∷ [])))))) (line_is w line h)
    ∙ ap (λ (b : Bool). is_mark m && (is_hex (2 * w) ds && b)) (same_lines m (part line 1 9) (label c r) ds (get_or line (10 + 2 * w) 0) 10 n refl)

-- and, where the line is cut in parts, with the answers of its four tests
pub tested : (w c r : ℕ) (line start digits : List ℕ) → length line ≡ stride w →
    start ≡ take 9 (take (length line - 1 - 1) (drop 1 line)) → digits ≡ drop 9 (take (length line - 1 - 1) (drop 1 line)) →
    (m d l e : Bool) → m ≡ is_mark (get_or line 0 0) → d ≡ is_hex (2 * w) digits → l ≡ bytes_eq start (label c r) → e ≡ eqb (get_or line (length line - 1) 0) 10 →
    (m && (d && (l && e))) ≡ is_frame w c r line
tested w c r line start digits long start-is digits-is m d l e mark hexed labelled ended =
    let n : length line - 1 - 1 ≡ 9 + 2 * w = omega arith in
    let last : length line - 1 ≡ 10 + 2 * w = omega arith in
    let front : start ≡ part line 1 9 = start-is ∙ take-take 9 (length line - 1 - 1) (drop 1 line) (omega arith) in
    let middle : digits ≡ part line 10 (2 * w) = digits-is ∙ ap (λ k. drop 9 (take k (drop 1 line))) n ∙ drop-take 9 (2 * w) (drop 1 line) ∙ ap (take (2 * w)) (drop-drop 9 1 line) in
    rw (mark, hexed, labelled, ended, front, middle, last) (sym (by_parts w c r line long))

-- Blocks of a column, parts of a list, and one turn of the ring.
use Rattle.std.proofs.Common.{◌≡◌, ℕ, zero, suc, ◌+◌, ◌-◌, ◌*◌, ◌<◌, ◌≤◌, List, length, get_or, take, drop, ◌++◌, sym, ap, ap₂, ◌∙◌, subst, inl, inr, add-one, zero-add, mod-eq_of_lt, mul-le-mul_right, get_or-drop, drop-drop, length-append, length-drop, ◌∷◌, arith}
use native.Mathlib.Nat.{mod-eq-sub-mod}
use denote.Param.Members.{Mut, Called}
use Rattle.std.specs.Array.{IsFromFnResultFrom}
use Rattle.std.proofs.lemmas.Bool.{cases_lt}
use Rattle.std.proofs.lemmas.List.{drop_at, get_or_append_left, get_or-take, get_or_read}
use Rattle.ring.specs.Sums.{sum_to}
use Rattle.ring.specs.Cyclic.{class_total, symbol_at, shifted}
use Rattle.ring.proofs.Classes.{at_row, at_extra, at_same}
use Rattle.code.specs.Places.{rows_from}

module _ {X : Type 0} (none : X) (plus : X → X → X) (xs : List X) (t : ℕ) where
  -- one block more of what is left of a column, after n blocks of t rows
  module _ (n : ℕ) (block left left' : List X) (is : left ≡ drop (n * t) xs) (e : left ≡ block ++ left') (long : length block ≡ t) where
    pub left_more : left' ≡ drop ((n + 1) * t) xs
    left_more =
        sym (drop_at block left' t long)
        ∙ ap (drop t) (sym e ∙ is)
        ∙ drop-drop t (n * t) xs
        ∙ ap (λ k. drop k xs) (omega arith)

    pub fits_more : length left + n * t ≡ length xs → length left' + (n + 1) * t ≡ length xs
    fits_more h = omega (arith, ap length e, length-append block left')

    pub block_at : (m : ℕ) → m < t → get_or block m none ≡ rows_from none xs (n * t) m
    block_at m h = sym (get_or_append_left block left' none m (omega arith)) ∙ ap (λ l. get_or l m none) (sym e ∙ is) ∙ get_or-drop (n * t) xs m none

    pub sum_more : (m : ℕ) → m < t → (sum x : X) → sum ≡ sum_to none plus n (λ a. rows_from none xs 0 (a * t + m)) → x ≡ get_or block m x →
        plus sum x ≡ sum_to none plus (n + 1) (λ a. rows_from none xs 0 (a * t + m))
    sum_more m h sum x so_far at =
        rw (add-one n)
        (ap₂ plus so_far
        (get_or_read block m x (omega arith) at none ∙ block_at m h ∙ ap (λ i. get_or xs i none) (omega arith)))

    -- a symbol of the block, taken as a column itself
    pub block_symbol : (b u x : ℕ) → b * u ≡ t → x < suc b * u → symbol_at none plus b u (rows_from none block 0) x ≡ symbol_at none plus b u (rows_from none xs (n * t)) x
    block_symbol b u x whole low = at_same none plus b u _ _ x low (λ y h. ap (λ i. get_or block i none) (zero-add y) ∙ block_at y (omega arith))

  -- all b blocks, where no whole block is left
  pub all_blocks : (b n left : ℕ) → left < t → left + n * t ≡ length xs → length xs ≡ b * t → n ≡ b
  all_blocks b n left h fits whole =
      elim (cases_lt n b) [
        | inl k ↦ absurd (omega (arith, mul-le-mul_right {m = n + 1} {n = b} t (omega arith)))
        | inr k ↦ elim (cases_lt b n) [ inl l ↦ absurd (omega (arith, mul-le-mul_right {m = b + 1} {n = n} t (omega arith))) | inr l ↦ omega arith ]
      ]

  module _ (b : ℕ) (whole : length xs ≡ b * t) (x : ℕ) where
    pub row_is : x < length xs → (y : X) → y ≡ get_or xs x y → y ≡ symbol_at none plus b t (rows_from none xs 0) x
    row_is h y at = get_or_read xs x y h at none ∙ ap (λ i. get_or xs i none) (sym (zero-add x)) ∙ sym (at_row none plus b t (rows_from none xs 0) x (omega arith))

    pub extra_is : length xs ≤ x → class_total none plus b t (rows_from none xs 0) (x - length xs) ≡ symbol_at none plus b t (rows_from none xs 0) x
    extra_is h = ap (λ n. class_total none plus b t (rows_from none xs 0) (x - n)) whole ∙ sym (at_extra none plus b t (rows_from none xs 0) x (omega arith))

-- one number x more of what is left of ks, after n of them
module _ (ks : List ℕ) (n x : ℕ) (left left' : List ℕ) (is : left ≡ drop n ks) (e : left ≡ x ∷ left') where
  pub next_low : n < length ks
  next_low = omega (arith, ap length (sym is ∙ e), length-drop n ks)

  pub next_is : x ≡ get_or ks n 0
  next_is = ap (λ l. get_or l 0 0) (sym e ∙ is) ∙ get_or-drop n ks 0 0 ∙ ap (λ i. get_or ks i 0) (omega arith)

  pub next_left : left' ≡ drop (n + 1) ks
  next_left = ap (drop 1) (sym e ∙ is) ∙ drop-drop 1 n ks

-- each element that `array::from_fn` makes is what P says of its place, if no call changes the closure
pub made : {F B : Type 0} (g : Mut F (ℕ × Unit {0}) B) (f : F) (P : ℕ → B → Type 0) (keeps : (i : ℕ) (y : B) (q : F) → Called g f (i, tt) y q → P i y × (q ≡ f)) →
    (ys : List B) (a n : ℕ) → IsFromFnResultFrom g f ys a n → (i : ℕ) → a ≤ i → i < a + n → (d : B) → P i (get_or ys i d)
made g f P keeps ys a zero h i lo hi d = absurd (omega arith)
made g f P keeps ys a (suc n) (q, y, at, called, more) i lo hi d =
    elim (cases_lt a i) [
      | inl k ↦ made g f P keeps ys (a + 1) n (subst (λ p. IsFromFnResultFrom g p ys (a + 1) n) (keeps a y q called).1 more) i (omega arith) (omega arith) d
      | inr k ↦ let e : a ≡ i = omega arith in subst (λ j. P j (get_or ys j d)) e (subst (P a) (sym (at.1 d)) (keeps a y q called).0)
    ]

-- a column's symbols are those of its part of the cells
pub part_at : {X : Type 0} (none : X) (plus : X → X → X) (cells : List X) (start n b t x : ℕ) → b * t ≡ n → x < suc b * t →
    symbol_at none plus b t (rows_from none (take n (drop start cells)) 0) x ≡ symbol_at none plus b t (rows_from none cells start) x
part_at none plus cells start n b t x whole low = at_same none plus b t _ _ x low (λ y h. get_or-take n (drop start cells) (0 + y) none (omega arith) ∙ get_or-drop start cells (0 + y) none ∙ ap (λ i. get_or cells i none) (omega arith))

-- at most one turn of the ring back
pub turned : (n s x : ℕ) → s ≤ n → x < n → n ≤ x + (n - s) → x + (n - s) - n ≡ shifted n s x
turned n s x h k l = sym (mod-eq-sub-mod l ∙ mod-eq_of_lt (omega arith))

pub unturned : (n s x : ℕ) → x + (n - s) < n → x + (n - s) ≡ shifted n s x
unturned n s x h = sym (mod-eq_of_lt h)

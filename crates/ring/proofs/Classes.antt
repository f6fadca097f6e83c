-- Classes and shifts. Only `at_rest`, `class_law` and `parity_extra` use that a symbol is its own opposite.
use Rattle.std.proofs.Common.{◌≡◌, ℕ, suc, ◌+◌, ◌-◌, ◌*◌, ◌/◌, ◌%◌, ◌<◌, ◌≤◌, sym, refl, ap, ◌∙◌, subst, ap₂, inl, inr, mod-lt, div-lt_iff_lt-mul, mul-le-mul_left, div-add-mod', arith}
use native.Mathlib.Nat.{add-sub_cancel_left, mod-add-mod}
use lib.Arith.{digits_lt, digits_div, digits_mod}
use Rattle.std.proofs.lemmas.Bool.{cases_lt, lt-ltb, le-ltb}
use Rattle.ring.specs.Sums.{BooleanGroup, sum_to}
use Rattle.ring.specs.Cyclic.{class_total, symbol_at, Covers, shifted, shifted_sum}
use Rattle.ring.specs.Laws.{ShiftsKeepClasses, ClassesSumToNone, ParityObeysClassSums}
use Rattle.ring.proofs.Sums.{sum_same, sum_cong, sum_none, sum_swap, sum_rot, self_l, sum_rest}
use Rattle.ring.proofs.Residues.{mod_block, mod_class}

pub keeps_classes : ShiftsKeepClasses
keeps_classes b t s x y e =
    mod_class (suc b) t (x + z)
    ∙ sym (mod-add-mod x t z)
    ∙ ap (λ u. (u + z) % t) e
    ∙ mod-add-mod y t z
    ∙ sym (mod_class (suc b) t (y + z))
  where
    z : ℕ
    z = suc b * t - s

module _ {X : Type 0} (none : X) (plus : X → X → X) (b t : ℕ) where
  pub at_row : (column : ℕ → X) (x : ℕ) → x < b * t → symbol_at none plus b t column x ≡ column x
  unfolding symbol_at
  at_row column x h = rw (lt-ltb x (b * t) h)

  pub at_extra : (column : ℕ → X) (x : ℕ) → b * t ≤ x → symbol_at none plus b t column x ≡ class_total none plus b t column (x - b * t)
  unfolding symbol_at
  at_extra column x h = rw (le-ltb x (b * t) h)

  pub at_class : (column : ℕ → X) (m : ℕ) → symbol_at none plus b t column (b * t + m) ≡ class_total none plus b t column m
  at_class column m = at_extra column (b * t + m) (omega arith) ∙ rw add-sub_cancel_left

  -- the rows that an extra symbol takes in
  class_covers : (x a : ℕ) → b * t ≤ x → x < suc b * t → a < b → Covers b t x (a * t + (x - b * t))
  class_covers x a h low k = let m : x - b * t < t = omega arith in (digits_lt k m, inr (sym (ap (λ u. b * t + u) (digits_mod a m) ∙ omega arith)))

  -- a symbol depends on the rows that it takes in
  pub at_covered : (A B : ℕ → X) (x : ℕ) → x < suc b * t → ((row : ℕ) → Covers b t x row → A row ≡ B row) → symbol_at none plus b t A x ≡ symbol_at none plus b t B x
  at_covered A B x low same =
      elim (cases_lt x (b * t)) [
        | inl h ↦ at_row A x h ∙ same x (h, inl refl) ∙ sym (at_row B x h)
        | inr h ↦ at_extra A x h ∙ sum_same none plus b _ _ (λ a k. same (a * t + (x - b * t)) (class_covers x a h low k)) ∙ sym (at_extra B x h)
      ]

  pub at_same : (A B : ℕ → X) (x : ℕ) → x < suc b * t → ((y : ℕ) → y < b * t → A y ≡ B y) → symbol_at none plus b t A x ≡ symbol_at none plus b t B x
  at_same A B x low same = at_covered A B x low (λ row c. same row c.0)

module _ {X : Type 0} {none : X} {plus : X → X → X} (L : BooleanGroup none plus) (b t : ℕ) where
  -- a symbol takes a row in once: if all other rows are equal, and the symbol, then so is that row
  pub at_rest : (A B : ℕ → X) (x row : ℕ) → Covers b t x row → ((y : ℕ) → y < b * t → (y ≡ row → ⊥) → A y ≡ B y) → symbol_at none plus b t A x ≡ symbol_at none plus b t B x → A row ≡ B row
  at_rest A B x row (low, inl e) same same_at = let h : x < b * t = omega arith in ap A (sym e) ∙ sym (at_row none plus b t A x h) ∙ same_at ∙ at_row none plus b t B x h ∙ ap B e
  at_rest A B x row (low, inr e) same same_at =
      ap A (sym place) ∙ sum_rest L b (row / t) (λ a. A (a * t + row % t)) (λ a. B (a * t + row % t)) in_block others sums ∙ ap B place
    where
      some : 0 < t
      some = elim (cases_lt 0 t) [ inl k ↦ k | inr k ↦ omega (arith, mul-le-mul_left b k) ]

      place : row / t * t + row % t ≡ row
      place = omega (arith, div-add-mod' row t)

      in_block : row / t < b
      in_block = (div-lt_iff_lt-mul some).1 low

      others : (a : ℕ) → a < b → (a ≡ row / t → ⊥) → A (a * t + row % t) ≡ B (a * t + row % t)
      others a k ne = same (a * t + row % t) (digits_lt k (mod-lt row some)) (λ z. ne (sym (digits_div a (mod-lt row some)) ∙ ap (λ y. y / t) z))

      sums : class_total none plus b t A (row % t) ≡ class_total none plus b t B (row % t)
      sums = sym (at_class none plus b t A (row % t)) ∙ ap (symbol_at none plus b t A) (sym e) ∙ same_at ∙ ap (symbol_at none plus b t B) e ∙ at_class none plus b t B (row % t)

  -- the symbols at the positions of a class sum to nothing
  class_law : (column : ℕ → X) (m : ℕ) → m < t → sum_to none plus (suc b) (λ a. symbol_at none plus b t column (a * t + m)) ≡ none
  class_law column m h =
      ap₂ plus (sum_cong L.monoid b (λ a. symbol_at none plus b t column (a * t + m)) (λ a. column (a * t + m)) (λ a k. at_row none plus b t column (a * t + m) (digits_lt k h))) (at_class none plus b t column m)
      ∙ L.own _

  -- and so do they from any other start: a shift takes a class onto a class
  class_from : (column : ℕ → X) (z m : ℕ) → 0 < t → sum_to none plus (suc b) (λ a. symbol_at none plus b t column ((a * t + m + z) % (suc b * t))) ≡ none
  class_from column z m ht =
      sum_cong L.monoid (suc b) (λ a. symbol_at none plus b t column ((a * t + m + z) % (suc b * t))) (λ a. G ((a + (m + z) / t) % suc b))
      (λ a k. ap (symbol_at none plus b t column) (ap (λ x. x % (suc b * t)) (place a) ∙ mod_block (suc b) t (a + (m + z) / t) ((m + z) % t) (omega arith) (mod-lt (m + z) ht)))
      ∙ sum_rot L.monoid (suc b) ((m + z) / t) G
      ∙ class_law column ((m + z) % t) (mod-lt (m + z) ht)
    where
      G : ℕ → X
      G a = symbol_at none plus b t column (a * t + (m + z) % t)

      place : (a : ℕ) → a * t + m + z ≡ (a + (m + z) / t) * t + (m + z) % t
      place a = omega (arith, div-add-mod' (m + z) t)

  parity_class : (k : ℕ) (columns : ℕ → ℕ → X) (shift : ℕ → ℕ) (m : ℕ) → 0 < t → sum_to none plus (suc b) (λ a. shifted_sum none plus b t k columns shift (a * t + m)) ≡ none
  unfolding shifted_sum
  parity_class k columns shift m ht =
      sum_swap L.monoid (suc b) k (λ a i. symbol_at none plus b t (columns i) (shifted (suc b * t) (shift i) (a * t + m)))
      ∙ sum_cong L.monoid k (λ i. sum_to none plus (suc b) (λ a. symbol_at none plus b t (columns i) (shifted (suc b * t) (shift i) (a * t + m)))) (λ i. none) (λ i h. class_from (columns i) (suc b * t - shift i) m ht)
      ∙ sum_none L.monoid k

  -- the sum at an extra position is the class sum of the sums at the rows
  parity_extra : (k : ℕ) (columns : ℕ → ℕ → X) (shift : ℕ → ℕ) (m : ℕ) → 0 < t → shifted_sum none plus b t k columns shift (b * t + m) ≡ class_total none plus b t (shifted_sum none plus b t k columns shift) m
  parity_extra k columns shift m ht =
      sym (self_l L _ _)
      ∙ ap (plus (class_total none plus b t (shifted_sum none plus b t k columns shift) m)) (parity_class k columns shift m ht)
      ∙ L.monoid.unit _

pub class_none : {X : Type 0} → ClassesSumToNone X
class_none none plus L b t column s m h = class_from L b t column (suc b * t - s) m (omega arith)

pub parity_extends : {X : Type 0} → ParityObeysClassSums X
parity_extends {X} none plus L b t k columns shift x h =
    elim (cases_lt x (b * t)) [
      | inl u ↦ at_row none plus b t P x u
      | inr u ↦
          let e : b * t + (x - b * t) ≡ x = omega arith in
          subst (λ y. symbol_at none plus b t P y ≡ P y) e (at_class none plus b t P (x - b * t) ∙ sym (parity_extra L b t k columns shift (x - b * t) (omega arith)))
    ]
  where
    P : ℕ → X
    P = shifted_sum none plus b t k columns shift

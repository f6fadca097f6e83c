-- What a change of one row changes: its own position and the extra symbol of its class. This wants no opposites.
use Rattle.std.proofs.Common.{◌≡◌, ℕ, zero, suc, ◌+◌, ◌-◌, ◌*◌, ◌/◌, ◌%◌, ◌<◌, ◌≤◌, cond, ◌||◌, eqb, sym, ap, ◌∙◌, ap₂, inl, inr, mod-lt, div-lt_iff_lt-mul, mul-le-mul_left, div-add-mod', arith}
use lib.Arith.{digits_lt, digits_div, digits_mod}
use Rattle.std.proofs.lemmas.Bool.{cases_lt, cases_eq, eq-eqb, ne_eqb}
use Rattle.ring.specs.Sums.{CommutativeMonoid, sum_to}
use Rattle.ring.specs.Cyclic.{class_total, symbol_at, shifted}
use Rattle.ring.proofs.Sums.{sum_same}
use Rattle.ring.proofs.Residues.{mod_wrap}
use Rattle.ring.proofs.Classes.{at_row, at_extra}

-- a shift by a takes position y to x just where x is y + a on the ring
pub shift_meets : (N a x y : ℕ) → a ≤ N → x < N → y < N → eqb (shifted N a x) y ≡ eqb x ((y + a) % N)
shift_meets N a x y low inside there =
    elim (cases_eq (shifted N a x) y) [
      | inl e ↦ eq-eqb (shifted N a x) y e ∙ sym (eq-eqb x ((y + a) % N) (omega (arith, e, mod_wrap N (x + (N - a)) (omega arith), mod_wrap N (y + a) (omega arith))))
      | inr n ↦ ne_eqb (shifted N a x) y n ∙ sym (ne_eqb x ((y + a) % N) (λ e. n (omega (arith, e, mod_wrap N (x + (N - a)) (omega arith), mod_wrap N (y + a) (omega arith)))))
    ]

module _ {X : Type 0} {none : X} {plus : X → X → X} (L : CommutativeMonoid none plus) where
  -- a sum of which one term changes by δ changes by δ
  pub sum_changed : (n i : ℕ) (F G : ℕ → X) (δ : X) → i < n → G i ≡ plus (F i) δ → ((a : ℕ) → a < n → (a ≡ i → ⊥) → G a ≡ F a) → sum_to none plus n G ≡ plus (sum_to none plus n F) δ
  sum_changed zero i F G δ low here others = absurd (omega arith)
  sum_changed (suc n) i F G δ low here others =
      elim (cases_eq n i) [
        | inl e ↦ ap₂ plus (sum_same none plus n G F (λ a k. others a (omega arith) (λ z. omega arith))) (ap G e ∙ here ∙ ap (λ a. plus (F a) δ) (sym e)) ∙ sym (L.assoc _ _ _)
        | inr ne ↦ ap₂ plus (sum_changed n i F G δ (omega arith) here (λ a k. others a (omega arith))) (others n (omega arith) ne) ∙ swap (sum_to none plus n F) δ (F n)
      ]
    where
      swap : (x y z : X) → plus (plus x y) z ≡ plus (plus x z) y
      swap x y z = L.assoc x y z ∙ ap (plus x) (L.comm y z) ∙ sym (L.assoc x z y)

  module _ (b t : ℕ) (A B : ℕ → X) (row : ℕ) (δ : X) (low : row < b * t) (here : B row ≡ plus (A row) δ) (others : (y : ℕ) → y < b * t → (y ≡ row → ⊥) → B y ≡ A y) where
    some : 0 < t
    some = elim (cases_lt 0 t) [ inl k ↦ k | inr k ↦ omega (arith, mul-le-mul_left b k) ]

    place : row / t * t + row % t ≡ row
    place = omega (arith, div-add-mod' row t)

    class_changed : class_total none plus b t B (row % t) ≡ plus (class_total none plus b t A (row % t)) δ
    class_changed =
        sum_changed b (row / t) (λ a. A (a * t + row % t)) (λ a. B (a * t + row % t)) δ ((div-lt_iff_lt-mul some).1 low)
        (ap B place ∙ here ∙ ap (λ y. plus (A y) δ) (sym place))
        (λ a k ne. others (a * t + row % t) (digits_lt k (mod-lt row some)) (λ z. ne (sym (digits_div a (mod-lt row some)) ∙ ap (λ y. y / t) z)))

    class_kept : (m : ℕ) → m < t → (m ≡ row % t → ⊥) → class_total none plus b t B m ≡ class_total none plus b t A m
    class_kept m k ne = sum_same none plus b _ _ (λ a h. others (a * t + m) (digits_lt h k) (λ z. ne (sym (digits_mod a k) ∙ ap (λ y. y % t) z)))

    pub at_changed : (x : ℕ) → x < suc b * t → symbol_at none plus b t B x ≡ plus (symbol_at none plus b t A x) (cond (eqb x row || eqb x (b * t + row % t)) δ none)
    at_changed x inside =
        elim (cases_lt x (b * t)) [
          | inl h ↦
              let far : x ≡ b * t + row % t → ⊥ = λ z. omega arith in
              elim (cases_eq x row) [
                | inl e ↦ rw (eq-eqb x row e) (at_row none plus b t B x h ∙ ap B e ∙ here ∙ ap (λ y. plus y δ) (ap A (sym e) ∙ sym (at_row none plus b t A x h)))
                | inr n ↦ rw (ne_eqb x row n, ne_eqb x (b * t + row % t) far) (at_row none plus b t B x h ∙ others x h n ∙ sym (at_row none plus b t A x h) ∙ sym (L.unit _))
              ]
          | inr h ↦
              let apart : x ≡ row → ⊥ = λ z. omega arith in
              elim (cases_eq x (b * t + row % t)) [
                | inl e ↦
                    let m : x - b * t ≡ row % t = omega arith in
                    rw (ne_eqb x row apart, eq-eqb x (b * t + row % t) e)
                    (at_extra none plus b t B x h ∙ ap (class_total none plus b t B) m ∙ class_changed ∙ ap (λ y. plus y δ) (ap (class_total none plus b t A) (sym m) ∙ sym (at_extra none plus b t A x h)))
                | inr n ↦
                    rw (ne_eqb x row apart, ne_eqb x (b * t + row % t) n)
                    (at_extra none plus b t B x h ∙ class_kept (x - b * t) (omega arith) (λ z. n (omega arith)) ∙ sym (at_extra none plus b t A x h) ∙ sym (L.unit _))
              ]
        ]

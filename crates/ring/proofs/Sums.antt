-- Finite sums: pointwise, side by side, one after another, and in a rotated order.
use Rattle.std.proofs.Common.{◌≡◌, ℕ, zero, suc, ◌+◌, ◌%◌, ◌<◌, Bool, true, false, cond, eqb, sym, refl, ap, ◌∙◌, ap₂, inl, inr, add-zero, add-suc, mod-eq_of_lt, arith}
use native.Mathlib.Nat.{mod_self, mod-add-mod}
use Rattle.std.proofs.lemmas.Bool.{cases_eq, eq-eqb, ne_eqb}
use Rattle.ring.specs.Sums.{CommutativeMonoid, BooleanGroup, sum_to}

-- pointwise equal below n; this wants no law
pub sum_same : {X : Type 0} (none : X) (plus : X → X → X) (n : ℕ) (F G : ℕ → X) → ((a : ℕ) → a < n → F a ≡ G a) → sum_to none plus n F ≡ sum_to none plus n G
sum_same none plus zero F G h = refl
sum_same none plus (suc n) F G h = ap₂ plus (sum_same none plus n F G (λ a k. h a (omega arith))) (h n (omega arith))

module _ {X : Type 0} {none : X} {plus : X → X → X} (L : CommutativeMonoid none plus) where
  pub left_comm : (a b c : X) → plus a (plus b c) ≡ plus b (plus a c)
  left_comm a b c = sym (L.assoc a b c) ∙ ap (λ x. plus x c) (L.comm a b) ∙ L.assoc b a c

  pub unit_l : (a : X) → plus none a ≡ a
  unit_l a = L.comm none a ∙ L.unit a

  pub sum_cong : (n : ℕ) (F G : ℕ → X) → ((a : ℕ) → a < n → F a ≡ G a) → sum_to none plus n F ≡ sum_to none plus n G
  sum_cong = sum_same none plus

  pub sum_none : (n : ℕ) → sum_to none plus n (λ a. none) ≡ none
  sum_none zero = refl
  sum_none (suc n) = rw L.unit (sum_none n)

  pub sum_add : (n : ℕ) (F G : ℕ → X) → sum_to none plus n (λ a. plus (F a) (G a)) ≡ plus (sum_to none plus n F) (sum_to none plus n G)
  sum_add zero F G = sym (L.unit none)
  sum_add (suc n) F G = rw (sum_add n F G) (simp (L.assoc, L.comm, left_comm))

  pub sum_split : (m n : ℕ) (F : ℕ → X) → sum_to none plus (m + n) F ≡ plus (sum_to none plus m F) (sum_to none plus n (λ a. F (m + a)))
  sum_split m zero F = rw add-zero (sym (L.unit _))
  sum_split m (suc n) F = rw (add-suc, sum_split m n F) (L.assoc _ _ _)

  -- the first one taken off
  pub sum_first : (n : ℕ) (F : ℕ → X) → sum_to none plus (suc n) F ≡ plus (F 0) (sum_to none plus n (λ a. F (suc a)))
  sum_first zero F = L.comm _ _
  sum_first (suc n) F = rw (sum_first n F) (L.assoc _ _ _)

  pub sum_swap : (m n : ℕ) (F : ℕ → ℕ → X) → sum_to none plus m (λ a. sum_to none plus n (λ b. F a b)) ≡ sum_to none plus n (λ b. sum_to none plus m (λ a. F a b))
  sum_swap zero n F = sym (sum_none n)
  sum_swap (suc m) n F = rw (sum_swap m n F) (sym (sum_add n (λ b. sum_to none plus m (λ a. F a b)) (λ b. F m b)))

  -- a rotation of the index by one
  rot_one : (n : ℕ) (F : ℕ → X) → sum_to none plus (suc n) (λ a. F ((a + 1) % suc n)) ≡ sum_to none plus (suc n) F
  rot_one n F =
      ap₂ plus
      (sum_cong n (λ a. F ((a + 1) % suc n)) (λ a. F (suc a)) (λ a h. ap F (mod-eq_of_lt (omega arith) ∙ omega arith)))
      (ap F (ap (λ x. x % suc n) (omega arith) ∙ mod_self (suc n)))
      ∙ L.comm _ _
      ∙ sym (sum_first n F)

  -- and by any number
  pub sum_rot : (p c : ℕ) (F : ℕ → X) → sum_to none plus p (λ a. F ((a + c) % p)) ≡ sum_to none plus p F
  sum_rot zero c F = refl
  sum_rot (suc n) zero F = sum_cong (suc n) (λ a. F ((a + 0) % suc n)) F (λ a h. ap F (mod-eq_of_lt (omega arith) ∙ omega arith))
  sum_rot (suc n) (suc c) F =
      sum_cong (suc n) (λ a. F ((a + suc c) % suc n)) (λ a. F (((a + 1) % suc n + c) % suc n)) (λ a h. ap F (ap (λ x. x % suc n) (omega arith) ∙ sym (mod-add-mod (a + 1) (suc n) c)))
      ∙ rot_one n (λ a. F ((a + c) % suc n))
      ∙ sum_rot (suc n) c F

module _ {X : Type 0} {none : X} {plus : X → X → X} (L : BooleanGroup none plus) where
  pub self_l : (a b : X) → plus a (plus a b) ≡ b
  self_l a b = sym (L.monoid.assoc a a b) ∙ ap (λ x. plus x b) (L.own a) ∙ unit_l L.monoid b

  -- equal sums with an equal part have equal rests
  pub cancel : (a b c : X) → plus a b ≡ plus a c → b ≡ c
  cancel a b c e = sym (self_l a b) ∙ ap (plus a) e ∙ self_l a c

  -- one term alone
  sum_one : (n i : ℕ) (F : ℕ → X) → i < n → sum_to none plus n (λ a. cond (eqb a i) (F a) none) ≡ F i
  sum_one zero i F h = absurd (omega arith)
  sum_one (suc n) i F h =
      elim (cases_eq n i) [
        | inl e ↦ ap₂ plus (sum_same none plus n _ (λ a. none) (λ a k. rw (ne_eqb a i (λ z. omega arith))) ∙ sum_none L.monoid n) (rw (eq-eqb n i e) (ap F e)) ∙ unit_l L.monoid (F i)
        | inr e ↦ ap₂ plus (sum_one n i F (omega arith)) (rw (ne_eqb n i e)) ∙ L.monoid.unit (F i)
      ]

  -- a sum, and the sum of all its terms but one, differ by that one
  pub sum_but : (n i : ℕ) (F : ℕ → X) → i < n → plus (sum_to none plus n F) (sum_to none plus n (λ a. cond (eqb a i) none (F a))) ≡ F i
  sum_but n i F h =
      sym (sum_add L.monoid n F (λ a. cond (eqb a i) none (F a)))
      ∙ sum_same none plus n _ (λ a. cond (eqb a i) (F a) none) (λ a k. flip (eqb a i) (F a))
      ∙ sum_one n i F h
    where
      flip : (b : Bool) (x : X) → plus x (cond b none x) ≡ cond b x none
      flip true x = L.monoid.unit x
      flip false x = L.own x

  -- equal sums whose terms are equal but at one place are equal there too
  pub sum_rest : (n i : ℕ) (F G : ℕ → X) → i < n → ((a : ℕ) → a < n → (a ≡ i → ⊥) → F a ≡ G a) → sum_to none plus n F ≡ sum_to none plus n G → F i ≡ G i
  sum_rest n i F G h same e = sym (sum_but n i F h) ∙ ap₂ plus e (sum_same none plus n _ _ others) ∙ sum_but n i G h
    where
      others : (a : ℕ) → a < n → cond (eqb a i) none (F a) ≡ cond (eqb a i) none (G a)
      others a k = elim (cases_eq a i) [ inl z ↦ rw (eq-eqb a i z) | inr z ↦ rw (ne_eqb a i z) (same a k z) ]

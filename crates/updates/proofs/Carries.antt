-- How a change goes into the parities, one position, one parity, one turn of the loop at a time.
use Rattle.std.proofs.Common.{◌≡◌, ℕ, zero, suc, ◌+◌, ◌-◌, ◌*◌, ◌%◌, ◌^◌, ◌<◌, ◌≤◌, Bool, true, false, cond, not, ◌&&◌, ◌||◌, eqb, ltb, leb, sym, refl, ap, ◌∙◌, subst, ap₂, inl, inr, add_assoc, mod-lt, mod-eq_of_lt, add-one, arith}
use native.Mathlib.Nat.{mod-add-mod}
use Rattle.std.proofs.lemmas.Bool.{cases_eq, eq-eqb, ne_eqb}
use Rattle.std.proofs.lemmas.Bool.Decides.{nat_tests}
use Rattle.ring.specs.Sums.{sum_to, count}
use Rattle.ring.proofs.Counts.{count_same, count_none, count_or}
use Rattle.ring.proofs.Residues.{mod_wrap}
use Rattle.code.specs.declared.shape.Shape.{Shape}
use Rattle.code.specs.Shapes.{parities_of, columns_of, classes_of, rows_of, positions_of, shift_of}
use Rattle.code.specs.Parities.{direct, through_class, takes_in}
use Rattle.code.proofs.Bounds.{classes_pos, positions_are, shift_low}
use Rattle.store.specs.View.{View, Column, Inside, counts_as_lost, metered, Written}
use Rattle.array.specs.Checks.{fits}
use Rattle.array.specs.Book.{with_symbol}
use Rattle.array.proofs.Checked.{wide}
use Rattle.updates.specs.Views.{Leaves, adding, Added}
use Rattle.updates.specs.Updates.{carries, carried, Put}

module _ (s : Shape) (j c row : ℕ) (j₁ : 1 ≤ j) (j₂ : j ≤ parities_of s) (c₁ : 1 ≤ c) (c₂ : c ≤ s.k) (low : row < rows_of s) where
  class_low : row % classes_of s < classes_of s
  class_low = mod-lt row (omega (arith, classes_pos s))

  -- the row and the extra symbol of its class never go to one position
  pub apart : direct s j c row ≡ through_class s j c row → ⊥
  apart e =
      let a : shift_of s j c ≤ positions_of s = omega (arith, positions_are s, shift_low s j c j₁ j₂ c₁ c₂) in
      let first = mod_wrap (positions_of s) (row + shift_of s j c) (omega (arith, positions_are s)) in
      let second = mod_wrap (positions_of s) (rows_of s + row % classes_of s + shift_of s j c) (omega (arith, positions_are s, class_low, shift_low s j c j₁ j₂ c₁ c₂, classes_pos s)) in
      omega (arith, e, positions_are s, class_low, first, second)

pub really_lost : {X : Type 0} (g : View X) (c : ℕ) → 1 ≤ c → c ≤ g.columns → counts_as_lost g c ≡ true → g.lost c ≡ true
really_lost g c one last h = grind (arith, nat_tests)

count_one : (n a : ℕ) → count n (λ y. eqb y a) ≡ cond (ltb a n) 1 0
count_one zero a = grind (arith, nat_tests)
count_one (suc n) a = rw (count_one n a) (grind (arith, nat_tests))

count_two : (n a b : ℕ) → (a ≡ b → ⊥) → count n (λ y. eqb y a || eqb y b) ≡ cond (ltb a n) 1 0 + cond (ltb b n) 1 0
count_two n a b ne = count_or n (λ y. eqb y a) (λ y. eqb y b) (λ y h. grind (arith, nat_tests)) ∙ ap₂ ◌+◌ (count_one n a) (count_one n b)

never_both : (u : Bool) (y a b : ℕ) → (a ≡ b → ⊥) → ((u && eqb y a) && (u && eqb y b)) ≡ false
never_both true y a b ne = grind (arith, nat_tests)
never_both false y a b ne = refl

pub count_low : (n : ℕ) (P : ℕ → Bool) → count n P ≤ n
count_low zero P = omega arith
count_low (suc n) P = omega (arith, count_low n P, one (P n))
  where
    one : (b : Bool) → cond b 1 0 ≤ 1
    one true = omega arith
    one false = omega arith

-- the parities' symbols that are rewritten are few
pub carried_low : {X : Type 0} (s : Shape) (g : View X) (c row n : ℕ) → sum_to 0 ◌+◌ n (λ j. carried s g c row (s.k + (j + 1))) ≤ n * 4096
carried_low s g c row zero = omega arith
carried_low s g c row (suc n) = omega (arith, carried_low s g c row n, count_low (rows_of s) (carries s g c row (s.k + (n + 1))), s.small)

module _ {X : Type 0} (plus : X → X → X) (δ : X) where
  -- one change after another, at other places
  pub leaves_both :
      (P Q R : ℕ → ℕ → Bool) (m n : ℕ) (g h i : View X) → Leaves g m (adding plus δ P g.at) h → Leaves h n (adding plus δ Q h.at) i →
      ((d y : ℕ) → Inside g d y → (R d y ≡ (P d y || Q d y)) × ((P d y && Q d y) ≡ false)) → Leaves g (m + n) (adding plus δ R g.at) i
  leaves_both P Q R m n g h i A B way = record {
    columns = B.columns ∙ A.columns;
    rows = B.rows ∙ A.rows;
    lender = B.lender ∙ A.lender;
    marks = λ d inside. B.marks d (inside.0, subst (λ k. d ≤ k) (sym A.columns) inside.1) ∙ A.marks d inside;
    meter = B.meter ∙ ap (λ x. (x + n) % 2 ^ 64) A.meter ∙ mod-add-mod (g.meter + m) (2 ^ 64) n ∙ ap (λ x. x % 2 ^ 64) (add_assoc g.meter m n);
    symbols = λ d y inside. pick (P d y) (Q d y) (R d y) (g.at d y) (h.at d y) (i.at d y) (way d y inside).0 (way d y inside).1 (A.symbols d y inside) (B.symbols d y (inside.0, subst (λ k. d ≤ k) (sym A.columns) inside.1, subst (λ k. y < k) (sym A.rows) inside.2));
  }
    where
      pick : (p q r : Bool) (x y z : X) → r ≡ (p || q) → (p && q) ≡ false → y ≡ cond p (plus x δ) x → z ≡ cond q (plus y δ) y → z ≡ cond r (plus x δ) x
      pick true true r x y z e f u v = absurd (let w : ◌≡◌ {A = ℕ} 0 1 = cc in omega arith)
      pick true false r x y z e f u v = rw e (v ∙ u)
      pick false true r x y z e f u v = rw e (v ∙ ap (λ a. plus a δ) u)
      pick false false r x y z e f u v = rw e (v ∙ u)

  -- the same places, told in other words
  pub leaves_as : (P Q : ℕ → ℕ → Bool) (m n : ℕ) (g h : View X) → m ≡ n → ((d y : ℕ) → Inside g d y → P d y ≡ Q d y) → Leaves g m (adding plus δ P g.at) h → Leaves g n (adding plus δ Q g.at) h
  leaves_as P Q m n g h e same A = record {
    columns = A.columns;
    rows = A.rows;
    lender = A.lender;
    marks = A.marks;
    meter = A.meter ∙ ap (λ x. (g.meter + x) % 2 ^ 64) e;
    symbols = λ d y inside. A.symbols d y inside ∙ ap (λ (b : Bool). cond b (plus (g.at d y) δ) (g.at d y)) (same d y inside);
  }

  -- a change that goes nowhere
  pub leaves_none : (P : ℕ → ℕ → Bool) (g : View X) → g.meter < 2 ^ 64 → ((d y : ℕ) → Inside g d y → P d y ≡ false) → Leaves g 0 (adding plus δ P g.at) g
  leaves_none P g small nowhere = record {
    columns = refl;
    rows = refl;
    lender = refl;
    marks = λ d inside. refl;
    meter = sym (mod-eq_of_lt (omega arith) ∙ omega arith);
    symbols = λ d y inside. sym (ap (λ (b : Bool). cond b (plus (g.at d y) δ) (g.at d y)) (nowhere d y inside));
  }

  module _ (s : Shape) (c row : ℕ) (c₁ : 1 ≤ c) (c₂ : c ≤ s.k) (low : row < rows_of s) (j : ℕ) (j₁ : 1 ≤ j) (j₂ : j ≤ parities_of s) (g : View X) where
    target_carries : g.lost (s.k + j) ≡ false → (y : ℕ) → carries s g c row (s.k + j) y ≡ takes_in s j c row y
    target_carries present y = let e : s.k + j - s.k ≡ j = omega arith in let past : ltb s.k (s.k + j) ≡ true = grind (arith, nat_tests) in rw (past, present, e)

    pub parity_lost : (n : ℕ) → n ≡ 0 → g.meter < 2 ^ 64 → g.lost (s.k + j) ≡ true → Added plus δ (λ d y. eqb d (s.k + j) && carries s g c row d y) (carried s g c row (s.k + j)) g n g
    parity_lost n e small lost = record {
      reads = e ∙ sym nothing;
      leaves = leaves_as (λ d y. eqb d (s.k + j) && carries s g c row d y) (λ d y. eqb d (s.k + j) && carries s g c row d y) 0 (carried s g c row (s.k + j)) g g (sym nothing) (λ d y inside. refl) (leaves_none (λ d y. eqb d (s.k + j) && carries s g c row d y) g small (λ d y inside. elim (cases_eq d (s.k + j)) [ inl same ↦ subst (λ x. (eqb x (s.k + j) && carries s g c row x y) ≡ false) (sym same) (rw (eq-eqb (s.k + j) (s.k + j) refl) (never y)) | inr other ↦ rw (ne_eqb d (s.k + j) other) ]));
    }
      where
        never : (y : ℕ) → carries s g c row (s.k + j) y ≡ false
        never y = let past : ltb s.k (s.k + j) ≡ true = grind (arith, nat_tests) in rw (past, lost)

        nothing : carried s g c row (s.k + j) ≡ 0
        nothing = count_same (rows_of s) (carries s g c row (s.k + j)) (λ y. false) (λ y h. never y) ∙ count_none (rows_of s)

    pub parity_present :
        (a b m n : ℕ) (h i : View X) → g.rows ≡ rows_of s → g.lost (s.k + j) ≡ false → a ≡ direct s j c row → b ≡ through_class s j c row →
        Added plus δ (λ d y. eqb d (s.k + j) && eqb y a) (cond (ltb a g.rows) 1 0) g m h →
        Added plus δ (λ d y. eqb d (s.k + j) && eqb y b) (cond (ltb b h.rows) 1 0) h n i →
        Added plus δ (λ d y. eqb d (s.k + j) && carries s g c row d y) (carried s g c row (s.k + j)) g (m + n) i
    parity_present a b m n h i long present ea eb A B = record {
      reads = ap₂ ◌+◌ A.reads B.reads ∙ total;
      leaves = leaves_as (λ d y. eqb d (s.k + j) && carries s g c row d y) (λ d y. eqb d (s.k + j) && carries s g c row d y) (cond (ltb a g.rows) 1 0 + cond (ltb b h.rows) 1 0) (carried s g c row (s.k + j)) g i total (λ d y inside. refl) (leaves_both (λ d y. eqb d (s.k + j) && eqb y a) (λ d y. eqb d (s.k + j) && eqb y b) (λ d y. eqb d (s.k + j) && carries s g c row d y) (cond (ltb a g.rows) 1 0) (cond (ltb b h.rows) 1 0) g h i A.leaves B.leaves (λ d y inside. way d y));
    }
      where
        differ : a ≡ b → ⊥
        differ e = apart s j c row j₁ j₂ c₁ c₂ low (sym ea ∙ e ∙ eb)

        there : (y : ℕ) → carries s g c row (s.k + j) y ≡ (eqb y a || eqb y b)
        there y = target_carries present y ∙ ap₂ (λ u v. eqb y u || eqb y v) (sym ea) (sym eb)

        total : cond (ltb a g.rows) 1 0 + cond (ltb b h.rows) 1 0 ≡ carried s g c row (s.k + j)
        total = ap₂ (λ q r. cond (ltb a q) 1 0 + cond (ltb b r) 1 0) long (A.leaves.rows ∙ long) ∙ sym (count_two (rows_of s) a b differ) ∙ count_same (rows_of s) (λ y. eqb y a || eqb y b) (carries s g c row (s.k + j)) (λ y h. sym (there y))

        way : (d y : ℕ) → ((eqb d (s.k + j) && carries s g c row d y) ≡ ((eqb d (s.k + j) && eqb y a) || (eqb d (s.k + j) && eqb y b))) × (((eqb d (s.k + j) && eqb y a) && (eqb d (s.k + j) && eqb y b)) ≡ false)
        way d y =
            elim (cases_eq d (s.k + j)) [
              | inl same ↦ (subst (λ x. (eqb x (s.k + j) && carries s g c row x y) ≡ ((eqb x (s.k + j) && eqb y a) || (eqb x (s.k + j) && eqb y b))) (sym same) (rw (eq-eqb (s.k + j) (s.k + j) refl) (there y)), never_both (eqb d (s.k + j)) y a b differ)
              | inr other ↦ (rw (ne_eqb d (s.k + j) other), rw (ne_eqb d (s.k + j) other))
            ]

  -- one parity more
  parities_more :
      (s : Shape) (c row j m n : ℕ) (g h i : View X) → fits s g ≡ true → j < parities_of s →
      Added plus δ (λ d y. leb d (s.k + j) && carries s g c row d y) (sum_to 0 ◌+◌ j (λ a. carried s g c row (s.k + (a + 1)))) g m h →
      Added plus δ (λ d y. eqb d (s.k + (j + 1)) && carries s h c row d y) (carried s h c row (s.k + (j + 1))) h n i →
      Added plus δ (λ d y. leb d (s.k + (j + 1)) && carries s g c row d y) (sum_to 0 ◌+◌ (j + 1) (λ a. carried s g c row (s.k + (a + 1)))) g (m + n) i
  parities_more s c row j m n g h i fit low A B = record {
    reads = ap₂ ◌+◌ A.reads B.reads ∙ total;
    leaves = leaves_as T T _ _ g i total (λ d y inside. refl) (leaves_both P Q T _ _ g h i A.leaves B.leaves way);
  }
    where
      P : ℕ → ℕ → Bool
      P d y = leb d (s.k + j) && carries s g c row d y

      Q : ℕ → ℕ → Bool
      Q d y = eqb d (s.k + (j + 1)) && carries s h c row d y

      T : ℕ → ℕ → Bool
      T d y = leb d (s.k + (j + 1)) && carries s g c row d y

      marked : (d : ℕ) → 1 ≤ d → d ≤ columns_of s → (y : ℕ) → carries s h c row d y ≡ carries s g c row d y
      marked d one last y = ap (λ (b : Bool). ltb s.k d && (not b && takes_in s (d - s.k) c row y)) (A.leaves.marks d (one, omega (arith, wide s g fit)))

      total : sum_to 0 ◌+◌ j (λ a. carried s g c row (s.k + (a + 1))) + carried s h c row (s.k + (j + 1)) ≡ sum_to 0 ◌+◌ (j + 1) (λ a. carried s g c row (s.k + (a + 1)))
      total =
          ap (λ x. sum_to 0 ◌+◌ j (λ a. carried s g c row (s.k + (a + 1))) + x) (count_same (rows_of s) (carries s h c row (s.k + (j + 1))) (carries s g c row (s.k + (j + 1))) (λ y k. marked (s.k + (j + 1)) (omega arith) (omega arith) y))
          ∙ ap (λ n. sum_to 0 ◌+◌ n (λ a. carried s g c row (s.k + (a + 1)))) (sym (add-one j))

      way : (d y : ℕ) → Inside g d y → (T d y ≡ (P d y || Q d y)) × ((P d y && Q d y) ≡ false)
      way d y inside = let e = marked d inside.0 (omega (arith, inside.1, wide s g fit)) y in grouped (carries s g c row d y) (carries s h c row d y) e
        where
          grouped : (u v : Bool) → v ≡ u → ((leb d (s.k + (j + 1)) && u) ≡ ((leb d (s.k + j) && u) || (eqb d (s.k + (j + 1)) && v))) × (((leb d (s.k + j) && u) && (eqb d (s.k + (j + 1)) && v)) ≡ false)
          grouped true v e = rw e (grind (arith, nat_tests), grind (arith, nat_tests))
          grouped false v e = rw e (grind (arith, nat_tests), grind (arith, nat_tests))

  -- the same by the parity's number; how many parities that makes is told by an equation
  pub parities_next :
      (s : Shape) (c row j i m n : ℕ) (g h h' : View X) → fits s g ≡ true → 1 ≤ j → j ≤ parities_of s → i ≡ j →
      Added plus δ (λ d y. leb d (s.k + (j - 1)) && carries s g c row d y) (sum_to 0 ◌+◌ (j - 1) (λ a. carried s g c row (s.k + (a + 1)))) g m h →
      Added plus δ (λ d y. eqb d (s.k + j) && carries s h c row d y) (carried s h c row (s.k + j)) h n h' →
      Added plus δ (λ d y. leb d (s.k + i) && carries s g c row d y) (sum_to 0 ◌+◌ i (λ a. carried s g c row (s.k + (a + 1)))) g (m + n) h'
  parities_next s c row j i m n g h h' fit one last is A B =
      let here : j ≡ j - 1 + 1 = omega arith in
      let next : j - 1 + 1 ≡ i = omega arith in
      subst (λ b. Added plus δ (λ d y. leb d (s.k + b) && carries s g c row d y) (sum_to 0 ◌+◌ b (λ a. carried s g c row (s.k + (a + 1)))) g (m + n) h') next
      (parities_more s c row (j - 1) m n g h h' fit (omega arith) A (subst (λ b. Added plus δ (λ d y. eqb d (s.k + b) && carries s h c row d y) (carried s h c row (s.k + b)) h n h') here B))

  -- all of them
  pub parities_all :
      (s : Shape) (c row m : ℕ) (g h : View X) → fits s g ≡ true →
      Added plus δ (λ d y. leb d (s.k + parities_of s) && carries s g c row d y) (sum_to 0 ◌+◌ (parities_of s) (λ a. carried s g c row (s.k + (a + 1)))) g m h →
      Added plus δ (carries s g c row) (sum_to 0 ◌+◌ (parities_of s) (λ a. carried s g c row (s.k + (a + 1)))) g m h
  parities_all s c row m g h fit A = record {
    reads = A.reads;
    leaves = leaves_as _ _ _ _ g h refl (λ d y inside. let last : leb d (s.k + parities_of s) ≡ true = grind (arith, nat_tests, inside.1, wide s g fit) in rw last) A.leaves;
  }

-- a put: its read, its write, and the parities
pub put_leaves :
    {X : Type 0} (plus : X → X → X) (s : Shape) (c row : ℕ) (x old δ : X) (n : ℕ) (g g₁ g₂ h : View X) → fits s g ≡ true → 1 ≤ c → c ≤ s.k → row < rows_of s →
    old ≡ g.at c row → δ ≡ plus old x → g₁ ≡ metered 1 g → Written g₁ c row x g₂ → Added plus δ (carries s g₂ c row) (sum_to 0 ◌+◌ (parities_of s) (λ j. carried s g₂ c row (s.k + (j + 1)))) g₂ n h →
    Put plus s g c row x (1 + n) h
put_leaves {X} plus s c row x old δ n g g₁ g₂ h fit c₁ c₂ low eo ed m W A = record {
  reads = ap (λ k. 1 + k) (A.reads ∙ sums (parities_of s) (λ j k. k));
  leaves = record {
    columns = A.leaves.columns ∙ columns₂;
    rows = A.leaves.rows ∙ rows₂;
    lender = A.leaves.lender ∙ W.lender ∙ ap (λ (v : View X). v.lender) m;
    marks = λ d inside. A.leaves.marks d (inside.0, subst (λ k. d ≤ k) (sym columns₂) inside.1) ∙ lost₂ d inside;
    meter = A.leaves.meter ∙ ap₂ (λ a b. (a + b) % 2 ^ 64) (W.meter ∙ ap (λ (v : View X). v.meter) m) (sums (parities_of s) (λ j k. k)) ∙ mod-add-mod (g.meter + 1) (2 ^ 64) _ ∙ ap (λ a. a % 2 ^ 64) (add_assoc g.meter 1 _);
    symbols = λ d y inside. A.leaves.symbols d y (inside.0, subst (λ k. d ≤ k) (sym columns₂) inside.1, subst (λ k. y < k) (sym rows₂) inside.2) ∙ ap (λ (b : Bool). cond b (plus (g₂.at d y) δ) (g₂.at d y)) (same d inside.0 inside.1 y) ∙ split (carries s g c row d y) d y inside refl;
  };
}
  where
    columns₂ : g₂.columns ≡ g.columns
    columns₂ = W.columns ∙ ap (λ (v : View X). v.columns) m

    rows₂ : g₂.rows ≡ g.rows
    rows₂ = W.rows ∙ ap (λ (v : View X). v.rows) m

    lost₂ : (d : ℕ) → Column g d → g₂.lost d ≡ g.lost d
    lost₂ d inside = W.lost d (inside.0, subst (λ (v : View X). d ≤ v.columns) (sym m) inside.1) ∙ ap (λ (v : View X). v.lost d) m

    same : (d : ℕ) → 1 ≤ d → d ≤ g.columns → (y : ℕ) → carries s g₂ c row d y ≡ carries s g c row d y
    same d one last y = ap (λ (b : Bool). ltb s.k d && (not b && takes_in s (d - s.k) c row y)) (lost₂ d (one, last))

    sums : (n : ℕ) → ((j : ℕ) → j < n → j < parities_of s) → sum_to 0 ◌+◌ n (λ j. carried s g₂ c row (s.k + (j + 1))) ≡ sum_to 0 ◌+◌ n (λ j. carried s g c row (s.k + (j + 1)))
    sums zero all = refl
    sums (suc n) all = ap₂ ◌+◌ (sums n (λ j k. all j (omega arith))) (count_same (rows_of s) (carries s g₂ c row (s.k + (n + 1))) (carries s g c row (s.k + (n + 1))) (λ y k. same (s.k + (n + 1)) (omega arith) (omega (arith, wide s g fit, all n (omega arith))) y))

    elsewhere : (d y : ℕ) → Inside g d y → ((d ≡ c) × (y ≡ row) → ⊥) → g₂.at d y ≡ g.at d y
    elsewhere d y inside ne = W.others d y (inside.0, subst (λ (v : View X). d ≤ v.columns) (sym m) inside.1, subst (λ (v : View X). y < v.rows) (sym m) inside.2) ne ∙ ap (λ (v : View X). v.at d y) m

    written : (d y : ℕ) → Inside g d y → g₂.at d y ≡ with_symbol c row x g.at d y
    written d y inside =
        elim (cases_eq d c) [
          | inl e ↦ elim (cases_eq y row) [
            | inl f ↦ ap₂ g₂.at e f ∙ W.here ∙ rw (eq-eqb d c e, eq-eqb y row f)
            | inr f ↦ elsewhere d y inside (λ z. f z.1) ∙ rw (eq-eqb d c e, ne_eqb y row f)
          ]
          | inr e ↦ elsewhere d y inside (λ z. e z.0) ∙ rw (ne_eqb d c e)
        ]

    split : (b : Bool) (d y : ℕ) → Inside g d y → carries s g c row d y ≡ b → cond b (plus (g₂.at d y) δ) (g₂.at d y) ≡ cond b (plus (g.at d y) (plus (g.at c row) x)) (with_symbol c row x g.at d y)
    split true d y inside e = let past : s.k < d = grind (arith, nat_tests) in ap₂ plus (elsewhere d y inside (λ z. omega (arith, z.0))) (ed ∙ ap (λ o. plus o x) eo)
    split false d y inside e = written d y inside

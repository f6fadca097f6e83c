-- What is rebuilt depends on the listed places alone, and on each of them.
use Rattle.std.proofs.Common.{◌≡◌, ℕ, suc, ◌+◌, ◌-◌, ◌*◌, ◌%◌, ◌<◌, ◌≤◌, true, false, cond, ◌&&◌, ◌||◌, eqb, ltb, sym, refl, ap, ◌∙◌, subst, ap₂, inl, inr, mod-lt, arith}
use Rattle.std.proofs.lemmas.Bool.{cases_eq, cases_Bool, eq-eqb, ne_eqb, ltb-true, and_parts}
use Rattle.ring.specs.Sums.{BooleanGroup, sum_to}
use Rattle.ring.specs.Cyclic.{Covers}
use Rattle.ring.proofs.Sums.{sum_same, sum_rest, cancel}
use Rattle.ring.proofs.Classes.{at_covered, at_same, at_rest}
use Rattle.code.specs.declared.shape.Shape.{Shape}
use Rattle.code.specs.Shapes.{classes_of, rows_of, positions_of}
use Rattle.code.specs.Parities.{symbol_of, term_of}
use Rattle.code.proofs.Bounds.{prime_low}
use Rattle.repair.specs.Rows.{chosen, position, place, rebuilt, Needs}
use Rattle.repair.specs.Lists.{helper, home, added, listed}
use Rattle.repair.specs.Laws.{DependsOnListed, DiffersExactly}
use Rattle.repair.proofs.Frame as F
use Rattle.repair.proofs.Listed.{needed_is_listed, chosen_helps, data_helps}
use Rattle.repair.proofs.Solves.{positions_pos}

pub in_ring : (s : Shape) (x : ℕ) → x % positions_of s < suc (s.p - 1) * classes_of s
in_ring s x = let e : suc (s.p - 1) ≡ s.p = omega (arith, prime_low s) in rw e (mod-lt x (positions_pos s))

pub depends : {X : Type 0} → DependsOnListed X
depends none plus s f one last A B same row low =
    ap₂ plus
    (at_covered none plus (s.p - 1) (classes_of s) (A (s.k + chosen s f row)) (B (s.k + chosen s f row)) (position s f row) (in_ring s _) (λ r o. same _ r ((needed_is_listed s f _ r one last).0 (row, low, inl (refl, o)))))
    (sum_same none plus s.k _ _ (λ i k.
    elim (cases_eq (i + 1) f) [
      | inl e ↦ rw (eq-eqb (i + 1) f e)
      | inr e ↦ rw (ne_eqb (i + 1) f e) (at_covered none plus (s.p - 1) (classes_of s) (A (i + 1)) (B (i + 1)) (place s f row (i + 1)) (in_ring s _) (λ r o. same (i + 1) r ((needed_is_listed s f (i + 1) r one last).0 (row, low, inr (omega arith, omega arith, e, o)))))
    ]))

-- arrays that are the same at the columns of a kind, but for row r of column c
module _
    {X : Type 0} {none : X} {plus : X → X → X} (L : BooleanGroup none plus) (s : Shape) {c r : ℕ} {Kind : ℕ → Type 0} {A B : ℕ → ℕ → X}
    (same : (e y : ℕ) → Kind e → y < rows_of s → ((e ≡ c) × (y ≡ r) → ⊥) → A e y ≡ B e y)
  where
    -- the symbols of another column than c
    pub other : (e x : ℕ) → x < suc (s.p - 1) * classes_of s → Kind e → (e ≡ c → ⊥) → symbol_of none plus s (A e) x ≡ symbol_of none plus s (B e) x
    other e x low kind ne = at_same none plus (s.p - 1) (classes_of s) (A e) (B e) x low (λ y k. same e y kind k (λ z. ne z.0))

    -- the symbol of c at a position that takes in row r
    pub here : (x : ℕ) → Kind c → Covers (s.p - 1) (classes_of s) x r → symbol_of none plus s (A c) x ≡ symbol_of none plus s (B c) x → A c r ≡ B c r
    here x kind o e = at_rest L (s.p - 1) (classes_of s) (A c) (B c) x r o (λ y k ne. same c y kind k (λ z. ne z.1)) e

module _
    {X : Type 0} {none : X} {plus : X → X → X} (L : BooleanGroup none plus) (s : Shape) (f c r : ℕ) (one : 1 ≤ f) (last : f ≤ s.k) (A B : ℕ → ℕ → X)
    (same : (e y : ℕ) → helper s f e ≡ true → y < rows_of s → ((e ≡ c) × (y ≡ r) → ⊥) → A e y ≡ B e y)
    (row : ℕ)
  where
    terms : (ℕ → ℕ → X) → ℕ → X
    terms at i = cond (eqb (i + 1) f) none (term_of none plus s at (chosen s f row) (position s f row) i)

    -- a data column's term is the same, unless it is c
    data_same : (i : ℕ) → i < s.k → (i + 1 ≡ c → ⊥) → terms A i ≡ terms B i
    unfolding terms
    data_same i k ne =
        elim (cases_eq (i + 1) f) [
          | inl e ↦ rw (eq-eqb (i + 1) f e)
          | inr e ↦ rw (ne_eqb (i + 1) f e) (other L s same (i + 1) (place s f row (i + 1)) (in_ring s _) (data_helps s f one last (i + 1) (omega arith) (omega arith) e) ne)
        ]

    -- a row that needs the place, and is the same, has the place the same
    told : Needs s f row c r → rebuilt none plus s f A row ≡ rebuilt none plus s f B row → A c r ≡ B c r
    unfolding terms
    told (inl (e, o)) equal =
        here L s same (position s f row) (subst (λ x. helper s f x ≡ true) (sym e) (chosen_helps s f one last row)) o
        (subst (λ x. symbol_of none plus s (A x) (position s f row) ≡ symbol_of none plus s (B x) (position s f row)) (sym e)
        (cancel L sums _ _ (L.monoid.comm _ _ ∙ equal ∙ ap (plus _) (sym rest) ∙ L.monoid.comm _ _)))
      where
        sums : X
        sums = sum_to none plus s.k (terms A)

        rest : sums ≡ sum_to none plus s.k (terms B)
        rest = sum_same none plus s.k (terms A) (terms B) (λ i k. data_same i k (λ z. omega (arith, (F.chosen_range s f one last row).0)))
    told (inr (lo, hi, ne, o)) equal =
        here L s same (place s f row c) (data_helps s f one last c lo hi ne) o
        (subst (λ i. symbol_of none plus s (A i) (place s f row i) ≡ symbol_of none plus s (B i) (place s f row i)) back
        (shown (A (c - 1 + 1)) (B (c - 1 + 1)) (sum_rest L s.k (c - 1) (terms A) (terms B) (omega arith) (λ i k n. data_same i k (λ z. n (omega arith))) sums)))
      where
        back : c - 1 + 1 ≡ c
        back = omega arith

        sums : sum_to none plus s.k (terms A) ≡ sum_to none plus s.k (terms B)
        sums = cancel L _ _ _ (equal ∙ ap (λ x. plus x (sum_to none plus s.k (terms B))) (sym (other L s same (s.k + chosen s f row) (position s f row) (in_ring s _) (chosen_helps s f one last row) (λ z. omega (arith, (F.chosen_range s f one last row).0)))))

        shown : (a b : ℕ → X) → cond (eqb (c - 1 + 1) f) none (symbol_of none plus s a (place s f row (c - 1 + 1))) ≡ cond (eqb (c - 1 + 1) f) none (symbol_of none plus s b (place s f row (c - 1 + 1))) → symbol_of none plus s a (place s f row (c - 1 + 1)) ≡ symbol_of none plus s b (place s f row (c - 1 + 1))
        shown a b e = rw (ne_eqb (c - 1 + 1) f (λ z. ne (sym back ∙ z))) at e

pub differs : {X : Type 0} → DiffersExactly X
differs {X} none plus L s f c r one last A B ne same = (there, back)
  where
    there : (row : ℕ) × (row < rows_of s) × (rebuilt none plus s f A row ≡ rebuilt none plus s f B row → ⊥) → listed s f c r ≡ true
    there (row, low, apart) =
        elim (cases_Bool (listed s f c r)) [
          | inl e ↦ e
          | inr e ↦ absurd (apart (depends none plus s f one last A B (agree e) row low))
        ]
      where
        agree : listed s f c r ≡ false → (e y : ℕ) → listed s f e y ≡ true → A e y ≡ B e y
        agree out e y in_List =
            let (low, rest) = and_parts (ltb y (rows_of s)) (helper s f e && (home s f y || added s f e y)) in_List in
            same e y (and_parts (helper s f e) (home s f y || added s f e y) rest).0 (ltb-true y (rows_of s) low)
            (λ z. let clash : true ≡ false = sym in_List ∙ ap₂ (listed s f) z.0 z.1 ∙ out in let w : ◌≡◌ {A = ℕ} 0 1 = cc in omega arith)

    back : listed s f c r ≡ true → (row : ℕ) × (row < rows_of s) × (rebuilt none plus s f A row ≡ rebuilt none plus s f B row → ⊥)
    back e = let (row, low, need) = (needed_is_listed s f c r one last).1 e in (row, low, λ equal. ne (told L s f c r one last A B same row need equal))

-- Two arrays of which one column was rebuilt.
use Rattle.std.proofs.Common.{◌≡◌, ℕ, ◌-◌, ◌<◌, ◌≤◌, true, false, not, ◌&&◌, ◌||◌, ltb, ◌↔◌, List, Some, None, Option, sym, ◌∙◌, subst, inl, inr, arith}
use Rattle.code.specs.Refusals.{or_else}
use Rattle.std.proofs.lemmas.Bool.{le-leb, lt-leb, cases_lt}
use Rattle.std.proofs.lemmas.Bool.Decides.{nat_tests}
use Rattle.ring.specs.Sums.{BooleanGroup}
use Rattle.code.specs.declared.shape.Shape.{Shape}
use Rattle.code.specs.Shapes.{columns_of, rows_of}
use Rattle.code.specs.Parities.{parity_of}
use Rattle.code.proofs.Encodes.{parity_same}
use Rattle.store.specs.View.{View, Inside}
use Rattle.repair.specs.Lists.{listed}
use Rattle.repair.specs.Rows.{rebuilt}
use Rattle.repair.proofs.Depends.{differs}
use Rattle.repair.proofs.Shows.{parity_differs}
use Rattle.repair.proofs.Slots.{helper_column}
use Rattle.array.proofs.Checked.{wide, long}
use Rattle.recovery.specs.Rebuild.{is_data, on_list, Rebuilt, TellsApart}
use Rattle.recovery.proofs.Accepted.{Accepted, data_helpers, parity_helpers}

module _ {X : Type 0} (none : X) (plus : X → X → X) (s : Shape) (f : ℕ) where
  module _ (L : BooleanGroup none plus) (g h g' h' : View X) (n m room : ℕ) (work : List X) (a : Accepted s g f room) (R : Rebuilt none plus s f g n g' work) (Q : Rebuilt none plus s f h m h' work) where
    inside : (c row : ℕ) → 1 ≤ c → c ≤ columns_of s → row < rows_of s → Inside g c row
    inside c row lo hi low = (lo, omega (arith, wide s g a.fit), omega (arith, long s g a.fit))

    of_data : f ≤ s.k → TellsApart s f g h g' h'
    of_data k marks c row place here differ same = (there, back)
      where
        d : is_data s f ≡ true
        d = le-leb f s.k k

        first : (y : ℕ) → y < rows_of s → g'.at f y ≡ rebuilt none plus s f g.at y
        first y low = R.here y low ∙ rw d

        second : (y : ℕ) → y < rows_of s → h'.at f y ≡ rebuilt none plus s f h.at y
        second y low = Q.here y low ∙ rw d

        both : ((y : ℕ) × (y < rows_of s) × (rebuilt none plus s f g.at y ≡ rebuilt none plus s f h.at y → ⊥)) ↔ (listed s f c row ≡ true)
        both = differs none plus L s f c row a.one k g.at h.at differ (λ e y helps low ne.
            let column = helper_column s f a.one k e helps in
            same e y (inside e y column.0 column.1 low) (data_helpers s g f d a.helpers e column.0 column.1 helps) ne)

        there : ((y : ℕ) × (y < rows_of s) × (g'.at f y ≡ h'.at f y → ⊥)) → on_list s f c row ≡ true
        there (y, low, ne) = rw d (both.0 (y, low, λ e. ne (first y low ∙ e ∙ sym (second y low))))

        back : on_list s f c row ≡ true → (y : ℕ) × (y < rows_of s) × (g'.at f y ≡ h'.at f y → ⊥)
        back on = let (y, low, ne) = both.1 (rw d at on) in (y, low, λ e. ne (sym (first y low) ∙ e ∙ second y low))

    of_parity : s.k < f → TellsApart s f g h g' h'
    of_parity k marks c row place here differ same = (there, back)
      where
        d : is_data s f ≡ false
        d = lt-leb f s.k k

        low_row : row < rows_of s
        low_row = omega (arith, long s g a.fit, place.2)

        first : (y : ℕ) → y < rows_of s → g'.at f y ≡ parity_of none plus s g.at (f - s.k) y
        first y low = R.here y low ∙ rw d

        second : (y : ℕ) → y < rows_of s → h'.at f y ≡ parity_of none plus s h.at (f - s.k) y
        second y low = Q.here y low ∙ rw d

        others : (e y : ℕ) → 1 ≤ e → e ≤ s.k → y < rows_of s → ((e ≡ c) × (y ≡ row) → ⊥) → g.at e y ≡ h.at e y
        others e y lo hi low ne = same e y (inside e y lo (omega arith) low) (parity_helpers s g f d a.helpers e lo hi) ne

        there : ((y : ℕ) × (y < rows_of s) × (g'.at f y ≡ h'.at f y → ⊥)) → on_list s f c row ≡ true
        there (y, low, ne) = elim (cases_lt s.k c) [
          | inl past ↦ absurd (ne (first y low ∙ parity_same none plus s g.at h.at (λ e r lo hi in_rows. others e r lo hi in_rows (λ z. omega (arith, z.0))) (f - s.k) y low ∙ sym (second y low)))
          | inr data_column ↦ rw d (within data_column)
        ]
          where
            within : c ≤ s.k → (not (ltb c 1 || ltb s.k c) && ltb row (rows_of s)) ≡ true
            within last = let one = place.0 in let low = low_row in grind (arith, nat_tests)

        back : on_list s f c row ≡ true → (y : ℕ) × (y < rows_of s) × (g'.at f y ≡ h'.at f y → ⊥)
        back on =
            let (y, low, ne) = parity_differs none plus L s (f - s.k) c row (omega arith) (omega (arith, a.last)) place.0 (data_column (rw d at on)) low_row g.at h.at differ others in
            (y, low, λ e. ne (sym (first y low) ∙ e ∙ second y low))
          where
            data_column : (not (ltb c 1 || ltb s.k c) && ltb row (rows_of s)) ≡ true → c ≤ s.k
            data_column on = grind (arith, nat_tests)

    pub tells_apart : TellsApart s f g h g' h'
    tells_apart = elim (cases_lt s.k f) [ inl k ↦ of_parity k | inr k ↦ of_data k ]

  -- the second array's column is told by an equation
  pub told_apart :
      BooleanGroup none plus → (g h g' h' : View X) (e n m room : ℕ) (work : List X) → Accepted s g f room → Rebuilt none plus s f g n g' work → Rebuilt none plus s e h m h' work → f ≡ e →
      TellsApart s f g h g' h'
  told_apart L g h g' h' e n m room work a R Q same = tells_apart L g h g' h' n m room work a R (subst (λ (x : ℕ). Rebuilt none plus s x h m h' work) (sym same) Q)

pub neither : {A : Type 0} (a b : Option A) → a ≡ None → b ≡ None → or_else a b ≡ None
neither (Some x) b e h = e
neither None b e h = h

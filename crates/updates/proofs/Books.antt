-- Puts and gets keep the book.
use Rattle.std.proofs.Common.{◌≡◌, ℕ, ◌-◌, ◌<◌, ◌≤◌, Bool, true, false, cond, ◌&&◌, eqb, is_ok, Some, None, Ok, Err, Option, Result, sym, refl, ap, ◌∙◌, subst, ap₂, inl, inr, arith}
use Rattle.std.proofs.lemmas.Bool.{cases_lt, cases_eq, eq-eqb, ne_eqb, le-leb, lt-leb, lt-ltb, le-ltb}
use Rattle.std.proofs.lemmas.Bool.Decides.{nat_tests}
use Rattle.ring.specs.Sums.{BooleanGroup}
use Rattle.ring.proofs.Sums.{self_l}
use Rattle.code.specs.declared.refusal.Refusal.{Refusal}
use Rattle.code.specs.declared.shape.Shape.{Shape}
use Rattle.code.specs.Shapes.{parities_of, rows_of}
use Rattle.code.specs.Parities.{parity_of, takes_in}
use Rattle.code.proofs.Bounds.{positions_are}
use Rattle.code.proofs.Changes.{parity_changed}
use Rattle.store.specs.View.{View, Inside}
use Rattle.store.specs.Calls.{Reads}
use Rattle.array.specs.Checks.{fits}
use Rattle.array.specs.Book.{Keeps, puts, with_symbol, put_in, built}
use Rattle.array.specs.Steps.{Stepped, Accepts}
use Rattle.array.proofs.Checked.{wide, long, is_present}
use Rattle.updates.specs.Views.{Leaves}
use Rattle.updates.specs.Updates.{place_refusal, put_symbols, put_reads, Put, TellsTable}

-- what the checks of a put or a get that passed say
pub record Passed {X : Type 0} (s : Shape) (g : View X) (c row : ℕ) : Type 0 where
  pub fit : fits s g ≡ true
  pub one : 1 ≤ c
  pub last : c ≤ s.k
  pub low : row < rows_of s
  pub present : g.lost c ≡ false

pub placed : {X : Type 0} (s : Shape) (g : View X) (c row : ℕ) → place_refusal s g c row ≡ None → Passed s g c row
placed s g c row h = record { fit = grind (arith, nat_tests); one = grind (arith, nat_tests); last = grind (arith, nat_tests); low = grind (arith, nat_tests); present = is_present g c (grind (arith, nat_tests)) }

module _ {X : Type 0} (none : X) (plus : X → X → X) (s : Shape) where
  -- an accepted get
  pub got : {S : Type 0} (view : S → View X) (a z : S) (c row : ℕ) (r : Result X Refusal) → place_refusal s (view a) c row ≡ None → Stepped (λ answer. Reads view a c row answer z) r → TellsTable none plus s (view a) c row r
  got view a z c row (Ok x) h R =
      let P = placed s (view a) c row h in
      λ b A table e. R.2 ∙ A.symbols table e c row (P.one, omega (arith, P.last, wide s (view a) P.fit), omega (arith, P.low, long s (view a) P.fit)) P.present ∙ rw (le-leb c s.k P.last)
  got view a z c row (Err e) h R = tt

  -- a put sets its place in the data table, and the parities follow
  module _ (L : BooleanGroup none plus) (c row : ℕ) (x : X) (n : ℕ) (g h : View X) (P : Passed s g c row) (W : Put plus s g c row x n h) where
    V : Leaves g (put_reads s g c row) (put_symbols plus s g c row x) h
    V = W.leaves

    module _ (T : ℕ → ℕ → X) (same : (d y : ℕ) → Inside g d y → g.lost d ≡ false → g.at d y ≡ built none plus s T d y) where
      old : g.at c row ≡ T c row
      old = same c row (P.one, omega (arith, P.last, wide s g P.fit), omega (arith, P.low, long s g P.fit)) P.present ∙ rw (le-leb c s.k P.last)

      of_data : (d y : ℕ) → Inside g d y → g.lost d ≡ false → d ≤ s.k → put_symbols plus s g c row x d y ≡ built none plus s (with_symbol c row x T) d y
      of_data d y inside present low = rw (le-ltb s.k d low, le-leb d s.k low) (ap (λ z. cond (eqb d c && eqb y row) x z) (same d y inside present ∙ rw (le-leb d s.k low)))

      changed : (j y : ℕ) → 1 ≤ j → j ≤ parities_of s → y < rows_of s → parity_of none plus s (with_symbol c row x T) j y ≡ plus (parity_of none plus s T j y) (cond (takes_in s j c row y) (plus (T c row) x) none)
      changed j y one last low =
          parity_changed L.monoid s T (with_symbol c row x T) c row (plus (T c row) x) P.one P.last P.low
          (rw (eq-eqb c c refl, eq-eqb row row refl) (sym (self_l L (T c row) x)))
          (λ d z d₁ d₂ k ne. elsewhere d z ne)
          j y one last (omega (arith, positions_are s))
        where
          elsewhere : (d z : ℕ) → ((d ≡ c) × (z ≡ row) → ⊥) → with_symbol c row x T d z ≡ T d z
          elsewhere d z ne = elim (cases_eq d c) [ inl e ↦ elim (cases_eq z row) [ inl f ↦ absurd (ne (e, f)) | inr f ↦ rw (eq-eqb d c e, ne_eqb z row f) ] | inr e ↦ rw (ne_eqb d c e) ]

      of_parity : (d y : ℕ) → Inside g d y → g.lost d ≡ false → s.k < d → put_symbols plus s g c row x d y ≡ built none plus s (with_symbol c row x T) d y
      of_parity d y inside present past =
          rw (lt-ltb s.k d past, present, lt-leb d s.k past, ne_eqb d c (λ e. omega (arith, P.last)))
          (split (takes_in s (d - s.k) c row y) ∙ sym (changed (d - s.k) y (omega arith) (omega (arith, inside.1, wide s g P.fit)) (omega (arith, inside.2, long s g P.fit))))
        where
          here : g.at d y ≡ parity_of none plus s T (d - s.k) y
          here = same d y inside present ∙ rw (lt-leb d s.k past)

          split : (b : Bool) → cond b (plus (g.at d y) (plus (g.at c row) x)) (g.at d y) ≡ plus (parity_of none plus s T (d - s.k) y) (cond b (plus (T c row) x) none)
          split true = ap₂ plus here (ap (λ o. plus o x) old)
          split false = here ∙ sym (L.monoid.unit _)

      pub follows : (d y : ℕ) → Inside g d y → g.lost d ≡ false → h.at d y ≡ built none plus s (with_symbol c row x T) d y
      follows d y inside present = V.symbols d y inside ∙ elim (cases_lt s.k d) [ inl past ↦ of_parity d y inside present past | inr low ↦ of_data d y inside present low ]

    table_was : (old-table : Option (ℕ → ℕ → X)) (T : ℕ → ℕ → X) → put_in c row x old-table ≡ Some T → (T₀ : ℕ → ℕ → X) × (old-table ≡ Some T₀) × (with_symbol c row x T₀ ≡ T)
    table_was (Some T₀) T e = (T₀, refl, cc)
    table_was None T e = absurd (let z : ◌≡◌ {A = ℕ} 0 1 = cc in omega arith)

    pub put_keeps : Keeps none plus s (puts c row x) true g h
    put_keeps b A = record {
      marks = λ d column. V.marks d (column.0, subst (λ k. d ≤ k) V.columns column.1) ∙ A.marks d (column.0, subst (λ k. d ≤ k) V.columns column.1);
      symbols = λ T e d y inside present.
          let was = table_was b.table T e in
          let at_g : Inside g d y = (inside.0, subst (λ k. d ≤ k) V.columns inside.1, subst (λ k. y < k) V.rows inside.2) in
          follows was.0 (A.symbols was.0 was.1) d y at_g (sym (V.marks d (at_g.0, at_g.1)) ∙ present) ∙ ap (λ (t : ℕ → ℕ → X). built none plus s t d y) was.2;
    }

  -- an accepted put, at a place that is told by equations
  pub was_put :
      BooleanGroup none plus → (g h : View X) (a : Shape) (d y c row : ℕ) (x : X) (r : Result ℕ Refusal) → (a ≡ s) × (d ≡ c) × (y ≡ row) → place_refusal s g c row ≡ None →
      Accepts (λ n. Put plus a g d y x n h) r → Keeps none plus s (puts c row x) (is_ok r) g h
  was_put L g h a d y c row x (Ok n) (shape-is, column-is, row-is) passed W = put_keeps L c row x n g h (placed s g c row passed) (rw (← shape-is, ← column-is, ← row-is) W)
  was_put L g h a d y c row x (Err e) is passed W = absurd W

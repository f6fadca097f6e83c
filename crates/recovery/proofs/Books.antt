-- Losing and rebuilding keep the book, and the question is answered as it says.
use Rattle.std.proofs.Common.{◌≡◌, ℕ, zero, suc, ◌+◌, ◌<◌, ◌≤◌, Bool, true, false, cond, not, ◌&&◌, ◌||◌, ltb, List, Some, None, sym, refl, ap, ◌∙◌, subst, ap₂, inl, inr, arith}
use Rattle.std.proofs.lemmas.Bool.{cases_lt, cases_eq, eq-eqb, ne_eqb, le-leb, lt-leb}
use Rattle.std.proofs.lemmas.Bool.Decides.{nat_tests}
use Rattle.ring.specs.Sums.{BooleanGroup}
use Rattle.code.specs.declared.shape.Shape.{Shape}
use Rattle.code.specs.Refusals.{or_else}
use Rattle.code.specs.Shapes.{columns_of, rows_of}
use Rattle.store.specs.View.{View, Inside, counts_as_lost}
use Rattle.repair.specs.Lists.{listed}
use Rattle.array.specs.Book.{rebuilds, built, Keeps}
use Rattle.array.specs.Lost.{lowest_lost}
use Rattle.array.proofs.Books.{column_was, place_was, built_encoded}
use Rattle.array.proofs.Checked.{wide, long}
use Rattle.recovery.specs.Rebuild.{is_data, on_list, Rebuilt, TellsLost}
use Rattle.recovery.proofs.Accepted.{Accepted, data_helpers, parity_helpers}
use Rattle.recovery.proofs.Recovered.{listed_column, restores}
use Rattle.recovery.proofs.Reading.{listed_helper}

module _ {X : Type 0} (none : X) (plus : X → X → X) (s : Shape) where
  -- listed places are read of columns that are present
  on_list_present : (f : ℕ) (g : View X) (room : ℕ) → Accepted s g f room → (c row : ℕ) → on_list s f c row ≡ true → Inside g c row × (g.lost c ≡ false)
  on_list_present f g room a c row on = elim (cases_lt s.k f) [ inl past ↦ of_parity past | inr last ↦ of_data last ]
    where
      here : 1 ≤ c → c ≤ columns_of s → row < rows_of s → Inside g c row
      here one last low = (one, omega (arith, wide s g a.fit), omega (arith, long s g a.fit))

      of_data : f ≤ s.k → Inside g c row × (g.lost c ≡ false)
      of_data last =
          let d : is_data s f ≡ true = le-leb f s.k last in
          let on-it : listed s f c row ≡ true = rw d at on in
          let (one, most, low) = listed_column none plus s f a.one last c row on-it in
          (here one most low, data_helpers s g f d a.helpers c one most (listed_helper none s f a.one last c row on-it))

      of_parity : s.k < f → Inside g c row × (g.lost c ≡ false)
      of_parity past =
          let d : is_data s f ≡ false = lt-leb f s.k past in
          let on-it : (not (ltb c 1 || ltb s.k c) && ltb row (rows_of s)) ≡ true = rw d at on in
          let one : 1 ≤ c = grind (arith, nat_tests) in
          let last : c ≤ s.k = grind (arith, nat_tests) in
          let low : row < rows_of s = grind (arith, nat_tests) in
          (here one (omega arith) low, parity_helpers s g f d a.helpers c one last)

  pub rebuilt_keeps : BooleanGroup none plus → (f : ℕ) (g h : View X) (n room : ℕ) (work : List X) → Accepted s g f room → Rebuilt none plus s f g n h work → Keeps none plus s (rebuilds f) true g h
  rebuilt_keeps L f g h n room work a R b A = record {
    marks = λ c inside. let was = column_was g h R.columns c inside in elim (cases_eq c f) [
      | inl same ↦ ap h.lost same ∙ R.present ∙ rw (eq-eqb c f same)
      | inr other ↦ R.marks c was other ∙ A.marks c was ∙ rw (ne_eqb c f other)
    ];
    symbols = λ T e c row inside present. let was = place_was g h R.columns R.rows c row inside in elim (cases_eq c f) [
      | inl same ↦ subst (λ d. h.at d row ≡ built none plus s T d row) (sym same) (back T e row (omega (arith, was.2, long s g a.fit)))
      | inr other ↦ R.others c row was other ∙ A.symbols T e c row was (sym (R.marks c (was.0, was.1) other) ∙ present)
    ];
  }
    where
      back : (T : ℕ → ℕ → X) → b.table ≡ Some T → (row : ℕ) → row < rows_of s → h.at f row ≡ built none plus s T f row
      back T e = (restores none plus s L f a.one a.last g h n work R).back (built none plus s T) (built_encoded none plus s T L) (λ c row on.
          let (inside, present) = on_list_present f g room a c row on in
          A.symbols T e c row inside present)

pub lowest_same : (P Q : ℕ → Bool) (n : ℕ) → ((c : ℕ) → 1 ≤ c → c ≤ n → P c ≡ Q c) → lowest_lost P n ≡ lowest_lost Q n
lowest_same P Q zero same = refl
lowest_same P Q (suc n) same = ap₂ (λ o b. or_else o (cond b (Some (n + 1)) None)) (lowest_same P Q n (λ c one last. same c one (omega arith))) (same (n + 1) (omega arith) (omega arith))

pub tells_lost : {X : Type 0} (none : X) (plus : X → X → X) (g : View X) → TellsLost none plus g (lowest_lost (counts_as_lost g) g.columns)
tells_lost none plus g s b A = lowest_same (counts_as_lost g) b.lost g.columns (λ c one last. counts c one last ∙ A.marks c (one, last))
  where
    counts : (c : ℕ) → 1 ≤ c → c ≤ g.columns → counts_as_lost g c ≡ g.lost c
    counts c one last = grind (arith, nat_tests)

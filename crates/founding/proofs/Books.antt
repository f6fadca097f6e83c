-- A founding keeps the book.
use Rattle.std.proofs.Common.{◌≡◌, ℕ, ◌-◌, ◌<◌, ◌≤◌, true, false, List, is_ok, Some, None, Ok, Err, Option, Result, unwrap_or, sym, refl, ap, ◌∙◌, inl, inr, arith}
use Rattle.std.proofs.lemmas.Bool.{cases_lt, le-leb, lt-leb}
use Rattle.code.specs.declared.refusal.Refusal.{Refusal}
use Rattle.code.specs.declared.shape.Shape.{Shape}
use Rattle.code.specs.Shapes.{columns_of, rows_of}
use Rattle.code.proofs.Encodes.{parity_same}
use Rattle.store.specs.View.{View, Inside}
use Rattle.array.specs.Book.{founds, built, Keeps}
use Rattle.array.proofs.Books.{column_was, place_was, stays, built_data, built_parity}
use Rattle.array.proofs.Checked.{wide, long}
use Rattle.columns.proofs.Passed.{Loadable, loadable}
use Rattle.founding.specs.Found.{Founded, Founds}

module _ {X : Type 0} (none : X) (plus : X → X → X) (s : Shape) where
  module _ (g h : View X) (n room : ℕ) (work : List X) (a : Loadable s g room) (F : Founded none plus s g n h work) where
    inside_g : (c row : ℕ) → c ≤ columns_of s → row < rows_of s → 1 ≤ c → Inside g c row
    inside_g c row last low one = (one, omega (arith, wide s g a.fit), omega (arith, long s g a.fit))

    -- the store holds the construction's columns for a table that its data columns held
    holds : (T : ℕ → ℕ → X) → ((c row : ℕ) → 1 ≤ c → c ≤ s.k → row < rows_of s → g.at c row ≡ T c row) → (c row : ℕ) → Inside g c row → h.at c row ≡ built none plus s T c row
    holds T same c row inside = elim (cases_lt s.k c) [
      | inl past ↦ ap (λ (d : ℕ). h.at d row) (omega arith) ∙ F.parity (c - s.k) row (omega arith) (omega (arith, inside.1, wide s g a.fit)) low ∙ parity_same none plus s g.at T same (c - s.k) row low ∙ sym (built_parity none plus s T c row past)
      | inr data_column ↦ F.same_data c row inside.0 data_column low ∙ same c row inside.0 data_column low ∙ sym (built_data none plus s T c row data_column)
    ]
      where
        low : row < rows_of s
        low = omega (arith, inside.2, long s g a.fit)

    -- the table is the one of before, or what the data columns hold
    table_is :
        (old : Option (ℕ → ℕ → X)) → ((T : ℕ → ℕ → X) → old ≡ Some T → (c row : ℕ) → Inside g c row → g.lost c ≡ false → g.at c row ≡ built none plus s T c row) →
        (T : ℕ → ℕ → X) → Some (unwrap_or old g.at) ≡ Some T → (c row : ℕ) → 1 ≤ c → c ≤ s.k → row < rows_of s → g.at c row ≡ T c row
    table_is (Some T₀) same T e c row one last low =
        let t : T₀ ≡ T = cc in
        same T₀ refl c row (inside_g c row (omega arith) low one) (a.present c one last) ∙ built_data none plus s T₀ c row last ∙ ap (λ (u : ℕ → ℕ → X). u c row) t
    table_is None same T e c row one last low = let t : g.at ≡ T = cc in ap (λ (u : ℕ → ℕ → X). u c row) t

    founded_keeps : Keeps none plus s (founds g.at) true g h
    founded_keeps b A = record {
      marks = λ c inside. let was = column_was g h F.columns c inside in F.present c was ∙ elim (cases_lt s.k c) [
        | inl past ↦ rw (lt-leb c s.k past)
        | inr data_column ↦ rw (le-leb c s.k data_column) (sym (a.present c was.0 data_column) ∙ A.marks c was)
      ];
      symbols = λ T e c row inside present. holds T (table_is b.table A.symbols T e) c row (place_was g h F.columns F.rows c row inside);
    }

  pub founds_keep : {S : Type 0} (view : S → View X) (a z : S) (work work' : List X) (r : Result ℕ Refusal) → Founds view none plus s a work r z work' → Keeps none plus s (founds (view a).at) (is_ok r) (view a) (view z)
  founds_keep view a z work work' (Ok n) (accepted, F) = founded_keeps (view a) (view z) n _ work' (loadable s (view a) _ accepted) F
  founds_keep view a z work work' (Err e) (refused, same, kept) = stays none plus s (founds (view a).at) (view a) (view z) (ap view same)

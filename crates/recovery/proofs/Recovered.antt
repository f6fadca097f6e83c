-- What the steps of a rebuild come to, and what it is for.
use Rattle.std.proofs.Common.{◌≡◌, ℕ, ◌+◌, ◌-◌, ◌*◌, ◌%◌, ◌^◌, ◌<◌, ◌≤◌, true, false, not, ◌&&◌, ◌||◌, ltb, List, sym, refl, ap, ◌∙◌, subst, inl, inr, arith}
use Rattle.std.proofs.lemmas.Bool.{le-leb, lt-leb, cases_lt, eq-eqb, ne_eqb}
use Rattle.std.proofs.lemmas.Bool.Decides.{nat_tests}
use Rattle.ring.specs.Sums.{BooleanGroup}
use Rattle.ring.proofs.Classes.{at_row}
use Rattle.code.specs.declared.shape.Shape.{Shape}
use Rattle.code.specs.Shapes.{columns_of, classes_of, rows_of}
use Rattle.code.specs.Parities.{parity_of}
use Rattle.code.specs.Places.{symbols_of}
use Rattle.code.proofs.Bounds.{positions_are}
use Rattle.code.proofs.Encodes.{parity_same}
use Rattle.store.specs.View.{View, Admitted}
use Rattle.repair.specs.Lists.{listed, formula, area}
use Rattle.repair.specs.Rows.{rebuilt, with_column}
use Rattle.repair.proofs.Size.{size_is_formula}
use Rattle.repair.proofs.Solves.{gives_back, only_solution}
use Rattle.repair.proofs.Depends.{depends}
use Rattle.array.specs.Checks.{fits, Cleared}
use Rattle.array.proofs.Checked.{wide, long}
use Rattle.columns.specs.Columns.{parity_rows}
use Rattle.columns.specs.Progress.{Gathered, Refilled, Renewed}
use Rattle.columns.proofs.Turns.{renewed}
use Rattle.recovery.specs.Progress.{Collected}
use Rattle.recovery.specs.Rebuild.{is_data, count_of, value_of, Rebuilt, Restores}

module _ {X : Type 0} (none : X) (plus : X → X → X) (s : Shape) where
  data_yes : (f : ℕ) → f ≤ s.k → is_data s f ≡ true
  data_yes f h = le-leb f s.k h

  data_no : (f : ℕ) → s.k < f → is_data s f ≡ false
  data_no f h = lt-leb f s.k h

  module _ (f : ℕ) (one : 1 ≤ f) (last : f ≤ s.k) where
    -- listed places are read of columns that there are
    pub listed_column : (c row : ℕ) → listed s f c row ≡ true → (1 ≤ c) × (c ≤ columns_of s) × (row < rows_of s)
    listed_column c row e = (grind (arith, nat_tests), grind (arith, nat_tests), grind (arith, nat_tests))

    pub rebuilt_data :
        (g h₁ h₂ h₃ : View X) (n : ℕ) (work after : List X) → fits s g ≡ true →
        Collected none s f g (columns_of s) n h₁ work → Refilled h₁ f (rows_of s) (rebuilt none plus s f (area none s f work)) h₂ → Admitted h₂ f h₃ → Cleared none after →
        Rebuilt none plus s f g n h₃ after
    rebuilt_data g h₁ h₂ h₃ n work after fit C R A clean = record {
      reads = counted ∙ sym is;
      meter = N.meter ∙ ap (λ (v : View X). v.meter) C.meter ∙ ap (λ m. (g.meter + m) % 2 ^ 64) (counted ∙ sym is);
      columns = N.columns ∙ same_columns;
      rows = N.rows ∙ same_rows;
      lender = N.lender ∙ ap (λ (v : View X). v.lender) C.meter;
      present = N.present;
      marks = λ d inside ne. N.marks d (inside.0, subst (λ m. d ≤ m) (sym same_columns) inside.1) ne ∙ ap (λ (v : View X). v.lost d) C.meter;
      here = λ row low. N.here row low ∙ depends none plus s f one last (area none s f work) g.at (λ c r on. C.here c r (listed_column c r on).1 (listed_column c r on).2 on) row low ∙ sym (value row);
      others = λ d row inside ne. N.others d row (inside.0, subst (λ m. d ≤ m) (sym same_columns) inside.1, subst (λ m. row < m) (sym same_rows) inside.2) ne ∙ ap (λ (v : View X). v.at d row) C.meter;
      cleared = clean;
    }
      where
        same_columns : h₁.columns ≡ g.columns
        same_columns = ap (λ (v : View X). v.columns) C.meter

        same_rows : h₁.rows ≡ g.rows
        same_rows = ap (λ (v : View X). v.rows) C.meter

        N : Renewed h₁ f (rows_of s) (rebuilt none plus s f (area none s f work)) h₃
        N = renewed h₁ h₂ h₃ f (rows_of s) (rebuilt none plus s f (area none s f work)) (one, omega (arith, same_columns, wide s g fit)) (omega (arith, same_rows, long s g fit)) R A

        counted : n ≡ formula s f
        counted = C.reads ∙ size_is_formula s f one last

        is : count_of s f ≡ formula s f
        is = rw (data_yes f last)

        value : (row : ℕ) → value_of none plus s f g.at row ≡ rebuilt none plus s f g.at row
        value row = rw (data_yes f last)

  pub rebuilt_parity :
      (f : ℕ) (g h h' : View X) (rows : ℕ) (before work after : List X) → s.k < f → rows ≡ rows_of s →
      Gathered none (rows_of s) g s.k before h work → Renewed h f (rows_of s) (parity_rows none plus s work f) h' → Cleared none after →
      Rebuilt none plus s f g (s.k * rows) h' after
  rebuilt_parity f g h h' rows before work after past e G N clean = record {
    reads = ap (λ r. s.k * r) e ∙ sym is;
    meter = N.meter ∙ ap (λ (v : View X). v.meter) G.meter ∙ ap (λ m. (g.meter + m) % 2 ^ 64) (sym is);
    columns = N.columns ∙ same_columns;
    rows = N.rows ∙ same_rows;
    lender = N.lender ∙ ap (λ (v : View X). v.lender) G.meter;
    present = N.present;
    marks = λ d inside ne. N.marks d (inside.0, subst (λ m. d ≤ m) (sym same_columns) inside.1) ne ∙ ap (λ (v : View X). v.lost d) G.meter;
    here = λ row low. N.here row low ∙ parity_same none plus s (symbols_of none (rows_of s) work) g.at G.here (f - s.k) row low ∙ sym (value row);
    others = λ d row inside ne. N.others d row (inside.0, subst (λ m. d ≤ m) (sym same_columns) inside.1, subst (λ m. row < m) (sym same_rows) inside.2) ne ∙ ap (λ (v : View X). v.at d row) G.meter;
    cleared = clean;
  }
    where
      same_columns : h.columns ≡ g.columns
      same_columns = ap (λ (v : View X). v.columns) G.meter

      same_rows : h.rows ≡ g.rows
      same_rows = ap (λ (v : View X). v.rows) G.meter

      is : count_of s f ≡ s.k * rows_of s
      is = rw (data_no f past)

      value : (row : ℕ) → value_of none plus s f g.at row ≡ parity_of none plus s g.at (f - s.k) row
      value row = rw (data_no f past)

  -- what it is for
  pub restores : BooleanGroup none plus → (f : ℕ) → 1 ≤ f → f ≤ columns_of s → (g h : View X) (n : ℕ) (work : List X) → Rebuilt none plus s f g n h work → Restores none plus s f g h
  restores L f one last g h n work R = elim (cases_lt s.k f) [ inl k ↦ parity k | inr k ↦ of_data k ]
    where
      of_data : f ≤ s.k → Restores none plus s f g h
      of_data k = record {
        back = λ at enc agree row low. here row low ∙ depends none plus s f one k g.at at (λ c r on. agree c r (rw d on)) row low ∙ gives_back none plus L s f one k at enc row low;
        only = λ column row low served. (only_solution none plus L s f one k g.at column row low).0 (rw d at served) ∙ sym (here row low);
        true_here = λ row low. rw d ((only_solution none plus L s f one k g.at (h.at f) row low).1 (here row low));
      }
        where
          d : is_data s f ≡ true
          d = data_yes f k

          here : (row : ℕ) → row < rows_of s → h.at f row ≡ rebuilt none plus s f g.at row
          here row low = R.here row low ∙ rw d

      parity : s.k < f → Restores none plus s f g h
      parity k = record {
        back = λ at enc agree row low. here row low ∙ parity_same none plus s g.at at (λ c r lo hi in_rows. agree c r (rw (d, within c r lo hi in_rows))) (f - s.k) row low ∙ sym (enc (f - s.k) row (omega arith) (omega arith) (omega (arith, positions_are s))) ∙ at_row none plus (s.p - 1) (classes_of s) (at (s.k + (f - s.k))) row low ∙ ap (λ (c : ℕ). at c row) (omega arith);
        only = λ column row low served. own column row ∙ (rw d at served) ∙ others column row low ∙ sym (here row low);
        true_here = λ row low. rw d (sym (own (h.at f) row) ∙ here row low ∙ sym (others (h.at f) row low));
      }
        where
          d : is_data s f ≡ false
          d = data_no f k

          within : (c r : ℕ) → 1 ≤ c → c ≤ s.k → r < rows_of s → (not (ltb c 1 || ltb s.k c) && ltb r (rows_of s)) ≡ true
          within c r lo hi in_rows = grind (arith, nat_tests)

          here : (row : ℕ) → row < rows_of s → h.at f row ≡ parity_of none plus s g.at (f - s.k) row
          here row low = R.here row low ∙ rw d

          own : (column : ℕ → X) (row : ℕ) → column row ≡ with_column f column g.at f row
          own column row = rw (eq-eqb f f refl)

          others : (column : ℕ → X) (row : ℕ) → row < rows_of s → parity_of none plus s (with_column f column g.at) (f - s.k) row ≡ parity_of none plus s g.at (f - s.k) row
          others column row low = parity_same none plus s (with_column f column g.at) g.at (λ c r lo hi in_rows. rw (ne_eqb c f (λ e. omega arith))) (f - s.k) row low

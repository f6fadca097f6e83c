-- The steps of a founding together.
use Rattle.std.proofs.Common.{◌≡◌, ℕ, ◌+◌, ◌-◌, ◌*◌, ◌<◌, ◌≤◌, List, None, sym, ap, ◌∙◌, inl, inr, arith}
use Rattle.std.proofs.lemmas.Bool.{cases_lt}
use Rattle.ring.specs.Sums.{BooleanGroup}
use Rattle.code.specs.declared.shape.Shape.{Shape}
use Rattle.code.specs.Shapes.{parities_of, rows_of}
use Rattle.code.specs.Parities.{parity_of}
use Rattle.code.specs.Places.{symbols_of}
use Rattle.code.proofs.Encodes.{encoded, parity_same}
use Rattle.store.specs.View.{View}
use Rattle.array.specs.Checks.{Cleared}
use Rattle.array.proofs.Checked.{wide}
use Rattle.columns.specs.Columns.{found_refusal}
use Rattle.columns.specs.Progress.{Gathered}
use Rattle.columns.proofs.Passed.{Loadable, loadable}
use Rattle.founding.specs.Found.{Extended, Founded}

module _ {X : Type 0} (none : X) (plus : X → X → X) (L : BooleanGroup none plus) (s : Shape) (g h h' : View X) (before work after : List X) where
  -- `rows` is what the shape answered
  pub founded :
      (rows room : ℕ) → rows ≡ rows_of s → found_refusal s g room ≡ None →
      Gathered none (rows_of s) g s.k before h work →
      Extended h s.k (parities_of s) (rows_of s) (parity_of none plus s (symbols_of none (rows_of s) work)) h' →
      Cleared none after → Founded none plus s g (s.k * rows) h' after
  founded rows room e accepted G E clean = record {
    reads = ap (λ r. s.k * r) e;
    meter = E.meter ∙ ap (λ (v : View X). v.meter) G.meter;
    columns = E.columns ∙ ap (λ (v : View X). v.columns) G.meter;
    rows = E.rows ∙ ap (λ (v : View X). v.rows) G.meter;
    lender = E.lender ∙ ap (λ (v : View X). v.lender) G.meter;
    present = λ c inside. elim (cases_lt s.k c) [
      | inl parity ↦ ap h'.lost (omega arith) ∙ E.present (c - s.k) (omega arith) (omega (arith, wide s g a.fit))
      | inr data_column ↦ E.marks c inside.0 data_column ∙ ap (λ (v : View X). v.lost c) G.meter ∙ a.present c inside.0 data_column
    ];
    same_data = same;
    parity = sums;
    encoded = encoded none plus s h'.at L (λ j row one last low. sums j row one last low ∙ sym (parity_same none plus s h'.at g.at same j row low));
    cleared = clean;
  }
    where
      a : Loadable s g room
      a = loadable s g room accepted

      same : (c row : ℕ) → 1 ≤ c → c ≤ s.k → row < rows_of s → h'.at c row ≡ g.at c row
      same c row one last low = E.others c row one last low ∙ ap (λ (v : View X). v.at c row) G.meter

      sums : (j row : ℕ) → 1 ≤ j → j ≤ parities_of s → row < rows_of s → h'.at (s.k + j) row ≡ parity_of none plus s g.at j row
      sums j row one last low = E.here j row one last low ∙ parity_same none plus s (symbols_of none (rows_of s) work) g.at G.here j row low

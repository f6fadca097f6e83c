-- Reading changes only the meter.
use Rattle.std.proofs.Common.{◌≡◌, ap, ◌∙◌}
use Rattle.store.specs.View.{View, metered}

-- columns, rows, symbols and marks are the same
pub record Same {X : Type 0} (g h : View X) : Type 0 where
  pub columns : h.columns ≡ g.columns
  pub rows : h.rows ≡ g.rows
  pub at : h.at ≡ g.at
  pub lost : h.lost ≡ g.lost

pub read_more : {X : Type 0} (g h h' : View X) → Same g h → h' ≡ metered 1 h → Same g h'
read_more {X} g h h' same e = record {
  columns = ap (λ (v : View X). v.columns) e ∙ same.columns;
  rows = ap (λ (v : View X). v.rows) e ∙ same.rows;
  at = ap (λ (v : View X). v.at) e ∙ same.at;
  lost = ap (λ (v : View X). v.lost) e ∙ same.lost;
}

-- What a table means: its columns stand one after another in the lent memory.
use Rattle.std.specs.Prelude.{◌≡◌, ℕ, ◌-◌, ◌*◌, ◌<◌, ◌≤◌, ◌≢◌, false, cond, List, length, Some, None, Ok, Err, Option, Result, nat_lt, slice_index_or}
use Rattle.code.specs.declared.refusal.Refusal.{Refusal}
use Rattle.code.specs.declared.refusal.Refusal.TheVariants.{TableTooSmall}
use Rattle.code.specs.declared.shape.Shape.{Shape}
use Rattle.code.specs.Refusals.{refuse}
use Rattle.code.specs.Places.{place_of, symbols_of}
use Rattle.code.specs.Shapes.{columns_of, rows_of}
use Rattle.store.specs.View.{View, Column}
use Rattle.store.specs.declared.table.Table.{Table}

abbrev pub table_view : {X : Type 0} → X → Table X → View X
table_view none t = record {
  columns = t.columns;
  rows = t.rows;
  at = symbols_of none t.rows t.cells.now;
  lost = λ c. slice_index_or t.lost (c - 1) false;
  meter = t.meter;
  lender = t.cells.ghost_name;
}

-- p is where the symbol at a column and a row of a table stands, apart from those at all other places
abbrev pub PlaceIs : (columns rows size c r p : ℕ) → Type 0
PlaceIs columns rows size c r p =
    (1 ≤ c) × (c ≤ columns) × (r < rows) × (p ≡ place_of rows c r) × (p < size) ×
    ((d s : ℕ) → 1 ≤ d → s < rows → ((d ≡ c) × (s ≡ r) → ⊥) → place_of rows d s ≢ p)

-- how many symbols a shape needs
abbrev pub needed_of : Shape → ℕ
needed_of s = columns_of s * rows_of s

-- the refusal of so many symbols, or none
abbrev pub table_refusal : Shape → ℕ → Option Refusal
table_refusal s cells = refuse (nat_lt cells (needed_of s)) (TableTooSmall (needed_of s)) None

abbrev pub Checked : {U : Type 0} → Shape → ℕ → Result U Refusal → Type 0
Checked s cells (Ok _) = table_refusal s cells ≡ None
Checked s cells (Err e) = table_refusal s cells ≡ Some e

-- a new table of shape s over cells: empty where the check refuses them
pub record Over {X : Type 0} (none : X) (s : Shape) (cells : List X) (owner : ℕ) (g : View X) : Type 0 where
  pub columns : g.columns ≡ cond (nat_lt (length cells) (needed_of s)) 0 (columns_of s)
  pub rows : g.rows ≡ cond (nat_lt (length cells) (needed_of s)) 0 (rows_of s)
  pub at : (c r : ℕ) → g.at c r ≡ symbols_of none g.rows cells c r
  pub lost : (c : ℕ) → Column g c → g.lost c ≡ false
  pub meter : g.meter ≡ 0
  pub lender : g.lender ≡ owner

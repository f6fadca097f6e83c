-- Founding in lent memory: columns one after another, as a table has them.
use Rattle.std.specs.Prelude.{◌≡◌, ℕ, ◌+◌, ◌*◌, ◌<◌, ◌≤◌, List, length, Some, None, Ok, Err, Option, Result, slice_index_or}
use Rattle.code.specs.Refusals.{or_else}
use Rattle.code.specs.declared.refusal.Refusal.{Refusal}
use Rattle.code.specs.declared.shape.Shape.{Shape}
use Rattle.code.specs.Shapes.{parities_of, rows_of}
use Rattle.code.specs.Parities.{parity_of}
use Rattle.code.specs.Places.{symbols_of}
use Rattle.store.specs.Tables.{needed_of, table_refusal}
use Rattle.array.specs.Checks.{room_refusal, Cleared}

-- the refusal of a founding in so many symbols of memory, with a work area of so many; or none
abbrev pub memory_refusal : Shape → ℕ → ℕ → Option Refusal
memory_refusal s cells room = or_else (table_refusal s cells) (room_refusal s room)

-- the parity columns are the sums of the data columns, and no other symbol changed
pub record Encodes {X : Type 0} (none : X) (plus : X → X → X) (s : Shape) (before after : List X) : Type 0 where
  pub same_data : (c row : ℕ) → 1 ≤ c → c ≤ s.k → row < rows_of s → symbols_of none (rows_of s) after c row ≡ symbols_of none (rows_of s) before c row
  pub parity : (j row : ℕ) → 1 ≤ j → j ≤ parities_of s → row < rows_of s → symbols_of none (rows_of s) after (s.k + j) row ≡ parity_of none plus s (symbols_of none (rows_of s) before) j row
  pub beyond : (i : ℕ) → needed_of s ≤ i → slice_index_or after i none ≡ slice_index_or before i none

abbrev pub Fills : {X : Type 0} (none : X) (plus : X → X → X) → Shape → List X → List X → Result ℕ Refusal → List X → List X → Type 0
Fills none plus s cells work (Ok n) cells' work' = (memory_refusal s (length cells) (length work) ≡ None) × (n ≡ s.k * rows_of s) × Encodes none plus s cells cells' × Cleared none work'
Fills none plus s cells work (Err e) cells' work' = (memory_refusal s (length cells) (length work) ≡ Some e) × (cells' ≡ cells) × (work' ≡ work)

-- Loading the data columns and writing a parity column: when it is refused, and what it leaves. s is the store before the
-- call, s' after it. The store's own refusal of a step (16) comes in no case.
use Rattle.std.specs.Prelude.{◌≡◌, ℕ, ◌+◌, ◌-◌, ◌*◌, not, List, length, Some, None, Ok, Err, Option, Result, nat_lt}
use Rattle.code.specs.declared.refusal.Refusal.{Refusal}
use Rattle.code.specs.declared.refusal.Refusal.TheVariants.{NoSuchPlace, WorkTooSmall, StoreDiffers}
use Rattle.code.specs.declared.shape.Shape.{Shape}
use Rattle.code.specs.Refusals.{refuse, or_else}
use Rattle.code.specs.Rules.{outside}
use Rattle.code.specs.Shapes.{columns_of, rows_of}
use Rattle.code.specs.Parities.{parity_of}
use Rattle.code.specs.Places.{symbols_of}
use Rattle.store.specs.View.{View, counts_as_lost}
use Rattle.array.specs.Checks.{fits, room_refusal}
use Rattle.array.specs.Lost.{lowest_lost, lost_refusal}
use Rattle.columns.specs.Progress.{Gathered, Renewed}

-- how many symbols the data columns have
abbrev pub data_of : Shape → ℕ
data_of s = s.k * rows_of s

-- the refusal of loading the data columns of a store of that view into a work area of so many symbols, and so of a
-- founding; or none
abbrev pub found_refusal : {X : Type 0} → Shape → View X → ℕ → Option Refusal
found_refusal s g room =
    refuse (not (fits s g)) (StoreDiffers g.columns g.rows)
    (or_else (lost_refusal (lowest_lost (counts_as_lost g) s.k))
    (room_refusal s room))

abbrev pub Loads : {S X U : Type 0} (view : S → View X) (none : X) → Shape → S → List X → Result U Refusal → S → List X → Type 0
Loads view none shape s work (Ok _) s' work' = (found_refusal shape (view s) (length work) ≡ None) × Gathered none (rows_of shape) (view s) shape.k work (view s') work'
Loads view none shape s work (Err e) s' work' = (found_refusal shape (view s) (length work) ≡ Some e) × (s' ≡ s) × (work' ≡ work)

-- the refusal of writing parity column c from so many symbols of data; or none
abbrev pub parity_refusal : {X : Type 0} → Shape → View X → ℕ → ℕ → Option Refusal
parity_refusal s g c cells =
    refuse (not (fits s g)) (StoreDiffers g.columns g.rows)
    (refuse (outside (s.k + 1) (columns_of s) c) (NoSuchPlace c 0)
    (refuse (nat_lt cells (data_of s)) (WorkTooSmall (data_of s))
    None))

-- the rows of parity column c, from the data columns one after another
abbrev pub parity_rows : {X : Type 0} (none : X) (plus : X → X → X) → Shape → List X → ℕ → ℕ → X
parity_rows none plus s cells c = parity_of none plus s (symbols_of none (rows_of s) cells) (c - s.k)

abbrev pub WritesParity : {S X U : Type 0} (view : S → View X) (none : X) (plus : X → X → X) → Shape → S → ℕ → List X → Result U Refusal → S → Type 0
WritesParity view none plus shape s c cells (Ok _) s' = (parity_refusal shape (view s) c (length cells) ≡ None) × Renewed (view s) c (rows_of shape) (parity_rows none plus shape cells c) (view s')
WritesParity view none plus shape s c cells (Err e) s' = (parity_refusal shape (view s) c (length cells) ≡ Some e) × (s' ≡ s)

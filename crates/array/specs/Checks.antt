-- The checks that calls on an array have in common, and the work area.
use Rattle.std.specs.Prelude.{◌≡◌, ℕ, ◌*◌, Bool, true, false, ◌&&◌, List, Some, None, Ok, Err, Option, Result, ◌==◌, nat_lt, slice_index_or}
use Rattle.code.specs.declared.refusal.Refusal.{Refusal}
use Rattle.code.specs.declared.refusal.Refusal.TheVariants.{WorkTooSmall, StoreDiffers}
use Rattle.code.specs.declared.shape.Shape.{Shape}
use Rattle.code.specs.Refusals.{refuse}
use Rattle.code.specs.Shapes.{columns_of, helpers_of, rows_of}
use Rattle.store.specs.View.{View}

-- whether a store has the shape's columns and rows
abbrev pub fits : {X : Type 0} → Shape → View X → Bool
fits s g = g.columns == columns_of s && g.rows == rows_of s

-- how many symbols the work area needs
abbrev pub work_of : Shape → ℕ
work_of s = helpers_of s * rows_of s

-- the check of the work area
abbrev pub room_refusal : Shape → ℕ → Option Refusal
room_refusal s room = refuse (nat_lt room (work_of s)) (WorkTooSmall (work_of s)) None

-- every symbol of the work area is zero
abbrev pub Cleared : {X : Type 0} → X → List X → Type 0
Cleared none work = (i : ℕ) → slice_index_or work i none ≡ none

-- what the first check of every call answers
abbrev pub Fitting : {X U : Type 0} → Shape → View X → Result U Refusal → Type 0
Fitting s g (Ok _) = fits s g ≡ true
Fitting s g (Err e) = (fits s g ≡ false) × (e ≡ StoreDiffers g.columns g.rows)

-- what the check of the work area answers
abbrev pub Roomy : {U : Type 0} → Shape → ℕ → Result U Refusal → Type 0
Roomy s room (Ok _) = room_refusal s room ≡ None
Roomy s room (Err e) = room_refusal s room ≡ Some e

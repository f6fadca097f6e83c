-- Auditing: when it is refused, what it answers, and what it leaves.
use Rattle.std.specs.Prelude.{◌≡◌, ℕ, ◌+◌, ◌*◌, ◌<◌, ◌≤◌, Bool, true, not, ◌↔◌, List, length, Some, None, Ok, Err, Option, Result}
use Rattle.code.specs.declared.refusal.Refusal.{Refusal}
use Rattle.code.specs.declared.refusal.Refusal.TheVariants.{StoreDiffers}
use Rattle.code.specs.declared.shape.Shape.{Shape}
use Rattle.code.specs.Refusals.{refuse, or_else}
use Rattle.code.specs.Shapes.{parities_of, columns_of, rows_of}
use Rattle.code.specs.Parities.{parity_of, Encoded}
use Rattle.store.specs.View.{View, counts_as_lost, metered}
use Rattle.array.specs.Checks.{fits, room_refusal, Cleared}
use Rattle.array.specs.Lost.{lowest_lost, lost_refusal}

-- the refusal of an audit over a store of that view, with a work area of so many symbols; or none
abbrev pub audit_refusal : {X : Type 0} → Shape → View X → ℕ → Option Refusal
audit_refusal s g room =
    refuse (not (fits s g)) (StoreDiffers g.columns g.rows)
    (or_else (lost_refusal (lowest_lost (counts_as_lost g) (columns_of s)))
    (room_refusal s room))

-- every parity row is its sum
abbrev pub SumsHold : {X : Type 0} (none : X) (plus : X → X → X) → Shape → (ℕ → ℕ → X) → Type 0
SumsHold none plus s at = (j row : ℕ) → 1 ≤ j → j ≤ parities_of s → row < rows_of s → at (s.k + j) row ≡ parity_of none plus s at j row

-- what an accepted audit answers and leaves: g is the store's view before it, h after it. It says yes exactly if every
-- parity row is its sum, and that is exactly of the arrays that the construction yields
pub record Audited {X : Type 0} (none : X) (plus : X → X → X) (s : Shape) (g : View X) (answer : Bool) (h : View X) (work : List X) : Type 0 where
  pub rows_hold : (answer ≡ true) ↔ SumsHold none plus s g.at
  pub is_encoded : (answer ≡ true) ↔ Encoded none plus s g.at
  pub meter : h ≡ metered (columns_of s * rows_of s) g
  pub cleared : Cleared none work

-- s is the store before the call, s' after it
abbrev pub Audits : {S X : Type 0} (view : S → View X) (none : X) (plus : X → X → X) → Shape → S → List X → Result Bool Refusal → S → List X → Type 0
Audits view none plus shape s work (Ok answer) s' work' = (audit_refusal shape (view s) (length work) ≡ None) × Audited none plus shape (view s) answer (view s') work'
Audits view none plus shape s work (Err e) s' work' = (audit_refusal shape (view s) (length work) ≡ Some e) × (s' ≡ s) × (work' ≡ work)

-- Founding: when it is refused, and what it leaves.
use Rattle.std.specs.Prelude.{◌≡◌, ℕ, ◌+◌, ◌*◌, ◌%◌, ◌^◌, ◌<◌, ◌≤◌, false, List, length, Some, None, Ok, Err, Result}
use Rattle.code.specs.declared.refusal.Refusal.{Refusal}
use Rattle.code.specs.declared.shape.Shape.{Shape}
use Rattle.code.specs.Shapes.{parities_of, rows_of}
use Rattle.code.specs.Parities.{parity_of, Encoded}
use Rattle.store.specs.View.{View, Column}
use Rattle.array.specs.Checks.{Cleared}
use Rattle.columns.specs.Columns.{found_refusal}

-- columns k + 1 to k + n are present and their first m rows are F's, and the first k columns are as they were
pub record Extended {X : Type 0} (g : View X) (k n m : ℕ) (F : ℕ → ℕ → X) (h : View X) : Type 0 where
  pub columns : h.columns ≡ g.columns
  pub rows : h.rows ≡ g.rows
  pub meter : h.meter ≡ g.meter
  pub lender : h.lender ≡ g.lender
  pub present : (j : ℕ) → 1 ≤ j → j ≤ n → h.lost (k + j) ≡ false
  pub marks : (d : ℕ) → 1 ≤ d → d ≤ k → h.lost d ≡ g.lost d
  pub here : (j row : ℕ) → 1 ≤ j → j ≤ n → row < m → h.at (k + j) row ≡ F j row
  pub others : (d row : ℕ) → 1 ≤ d → d ≤ k → row < m → h.at d row ≡ g.at d row

-- what an accepted founding answers and leaves: g is the store's view before it, h after it
pub record Founded {X : Type 0} (none : X) (plus : X → X → X) (s : Shape) (g : View X) (n : ℕ) (h : View X) (work : List X) : Type 0 where
  pub reads : n ≡ s.k * rows_of s
  pub meter : h.meter ≡ (g.meter + s.k * rows_of s) % 2 ^ 64
  pub columns : h.columns ≡ g.columns
  pub rows : h.rows ≡ g.rows
  pub lender : h.lender ≡ g.lender
  pub present : (c : ℕ) → Column g c → h.lost c ≡ false
  pub same_data : (c row : ℕ) → 1 ≤ c → c ≤ s.k → row < rows_of s → h.at c row ≡ g.at c row
  pub parity : (j row : ℕ) → 1 ≤ j → j ≤ parities_of s → row < rows_of s → h.at (s.k + j) row ≡ parity_of none plus s g.at j row
  pub encoded : Encoded none plus s h.at
  pub cleared : Cleared none work

-- s is the store before the call, s' after it. The store's own refusal of a step (16) comes in no case: found_refusal
-- never gives it.
abbrev pub Founds : {S X : Type 0} (view : S → View X) (none : X) (plus : X → X → X) → Shape → S → List X → Result ℕ Refusal → S → List X → Type 0
Founds view none plus shape s work (Ok n) s' work' = (found_refusal shape (view s) (length work) ≡ None) × Founded none plus shape (view s) n (view s') work'
Founds view none plus shape s work (Err e) s' work' = (found_refusal shape (view s) (length work) ≡ Some e) × (s' ≡ s) × (work' ≡ work)

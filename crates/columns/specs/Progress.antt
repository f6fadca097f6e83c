-- What the steps over whole columns leave.
use Rattle.std.specs.Prelude.{◌≡◌, ℕ, ◌*◌, ◌<◌, ◌≤◌, false, List, length, ◌≢◌, slice_index_or}
use Rattle.code.specs.Places.{symbols_of}
use Rattle.store.specs.View.{View, Inside, Column, metered}

-- the first rows of column c stand in the part, as many as it has, and each was read once
pub record Loaded {X : Type 0} (none : X) (g : View X) (c : ℕ) (h : View X) (part : List X) : Type 0 where
  pub meter : h ≡ metered (length part) g
  pub here : (row : ℕ) → row < length part → slice_index_or part row none ≡ g.at c row

-- the first n columns stand one after another, and what stands behind them is as it was; the meter has their reads
pub record Gathered {X : Type 0} (none : X) (rows : ℕ) (g : View X) (n : ℕ) (before : List X) (h : View X) (after : List X) : Type 0 where
  pub meter : h ≡ metered (n * rows) g
  pub here : (c row : ℕ) → 1 ≤ c → c ≤ n → row < rows → symbols_of none rows after c row ≡ g.at c row
  pub beyond : (x : ℕ) → n * rows ≤ x → slice_index_or after x none ≡ slice_index_or before x none

-- the first n rows of column c are F's, and nothing else changed
pub record Refilled {X : Type 0} (g : View X) (c n : ℕ) (F : ℕ → X) (h : View X) : Type 0 where
  pub columns : h.columns ≡ g.columns
  pub rows : h.rows ≡ g.rows
  pub lost : (d : ℕ) → Column g d → h.lost d ≡ g.lost d
  pub meter : h.meter ≡ g.meter
  pub lender : h.lender ≡ g.lender
  pub here : (row : ℕ) → row < n → h.at c row ≡ F row
  pub others : (d row : ℕ) → Inside g d row → (d ≢ c) → h.at d row ≡ g.at d row

-- column c is present and its first n rows are F's, and nothing else changed
pub record Renewed {X : Type 0} (g : View X) (c n : ℕ) (F : ℕ → X) (h : View X) : Type 0 where
  pub columns : h.columns ≡ g.columns
  pub rows : h.rows ≡ g.rows
  pub meter : h.meter ≡ g.meter
  pub lender : h.lender ≡ g.lender
  pub present : h.lost c ≡ false
  pub marks : (d : ℕ) → Column g d → (d ≢ c) → h.lost d ≡ g.lost d
  pub here : (row : ℕ) → row < n → h.at c row ≡ F row
  pub others : (d row : ℕ) → Inside g d row → (d ≢ c) → h.at d row ≡ g.at d row

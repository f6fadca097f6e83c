-- What a column store means. Columns count from 1, rows from 0.
use Rattle.std.specs.Prelude.{◌≡◌, ℕ, ◌+◌, ◌%◌, ◌^◌, ◌<◌, ◌≤◌, Bool, true, false, cond, ◌||◌, ◌≢◌, nat_lt}

pub record View (X : Type 0) : Type 0 where
  pub columns : ℕ
  pub rows : ℕ
  -- the symbol at each place
  pub at : ℕ → ℕ → X
  -- the mark of each column
  pub lost : ℕ → Bool
  -- accepted reads, modulo 2^64
  pub meter : ℕ
  -- the ghost name of the memory that was lent to the store, by which its owner knows it again
  pub lender : ℕ

abbrev pub Column : {X : Type 0} → View X → ℕ → Type 0
Column g c = (1 ≤ c) × (c ≤ g.columns)

abbrev pub Inside : {X : Type 0} → View X → ℕ → ℕ → Type 0
Inside g c r = (1 ≤ c) × (c ≤ g.columns) × (r < g.rows)

-- the answer to whether a column is lost: one outside counts as lost
abbrev pub counts_as_lost : {X : Type 0} → View X → ℕ → Bool
counts_as_lost g c = cond (nat_lt c 1 || nat_lt g.columns c) true (g.lost c)

-- the same, with n more reads
abbrev pub metered : {X : Type 0} → ℕ → View X → View X
metered n g = record { columns = g.columns; rows = g.rows; at = g.at; lost = g.lost; meter = (g.meter + n) % 2 ^ 64; lender = g.lender }

-- one place holds x, and nothing else changed
pub record Written {X : Type 0} (g : View X) (c r : ℕ) (x : X) (h : View X) : Type 0 where
  pub columns : h.columns ≡ g.columns
  pub rows : h.rows ≡ g.rows
  pub lost : (d : ℕ) → Column g d → h.lost d ≡ g.lost d
  pub meter : h.meter ≡ g.meter
  pub lender : h.lender ≡ g.lender
  pub here : h.at c r ≡ x
  pub others : (d s : ℕ) → Inside g d s → ((d ≡ c) × (s ≡ r) → ⊥) → h.at d s ≡ g.at d s

-- column c is lost and its symbols are free, and nothing else changed
pub record Dropped {X : Type 0} (g : View X) (c : ℕ) (h : View X) : Type 0 where
  pub columns : h.columns ≡ g.columns
  pub rows : h.rows ≡ g.rows
  pub meter : h.meter ≡ g.meter
  pub lender : h.lender ≡ g.lender
  pub gone : h.lost c ≡ true
  pub marks : (d : ℕ) → Column g d → (d ≢ c) → h.lost d ≡ g.lost d
  pub others : (d s : ℕ) → Inside g d s → (d ≢ c) → h.at d s ≡ g.at d s

-- column c is present, and nothing else changed
pub record Admitted {X : Type 0} (g : View X) (c : ℕ) (h : View X) : Type 0 where
  pub columns : h.columns ≡ g.columns
  pub rows : h.rows ≡ g.rows
  pub meter : h.meter ≡ g.meter
  pub lender : h.lender ≡ g.lender
  pub here : h.lost c ≡ false
  pub marks : (d : ℕ) → Column g d → (d ≢ c) → h.lost d ≡ g.lost d
  pub symbols : (d s : ℕ) → Inside g d s → h.at d s ≡ g.at d s

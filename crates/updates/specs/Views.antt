-- What a few reads and writes leave of a store.
use Rattle.std.specs.Prelude.{◌≡◌, ℕ, ◌+◌, ◌%◌, ◌^◌, Bool, cond}
use Rattle.store.specs.View.{View, Column, Inside}

-- n symbols were read, each place holds what F says, and nothing else changed: g is the store's view before, h after
pub record Leaves {X : Type 0} (g : View X) (n : ℕ) (F : ℕ → ℕ → X) (h : View X) : Type 0 where
  pub columns : h.columns ≡ g.columns
  pub rows : h.rows ≡ g.rows
  pub lender : h.lender ≡ g.lender
  pub marks : (d : ℕ) → Column g d → h.lost d ≡ g.lost d
  pub meter : h.meter ≡ (g.meter + n) % 2 ^ 64
  pub symbols : (d y : ℕ) → Inside g d y → h.at d y ≡ F d y

-- the symbols with a difference added at some places
abbrev pub adding : {X : Type 0} (plus : X → X → X) → X → (ℕ → ℕ → Bool) → (ℕ → ℕ → X) → ℕ → ℕ → X
adding plus δ where_to at d y = cond (where_to d y) (plus (at d y) δ) (at d y)

-- a difference was added at some places, which took m reads, and m was answered
pub record Added {X : Type 0} (plus : X → X → X) (δ : X) (where_to : ℕ → ℕ → Bool) (m : ℕ) (g : View X) (n : ℕ) (h : View X) : Type 0 where
  pub reads : n ≡ m
  pub leaves : Leaves g m (adding plus δ where_to g.at) h

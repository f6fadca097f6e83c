-- The book of an array: a plain model that is fed each call and whether it was accepted. It says what the store's marks
-- are and, once the array is founded, what each present column holds.
use Rattle.std.specs.Prelude.{◌≡◌, ℕ, ◌-◌, Bool, true, false, cond, ◌&&◌, Some, None, Option, ◌==◌, nat_le}
use Rattle.std.specs.Option.{unwrap_or}
use Rattle.code.specs.declared.shape.Shape.{Shape}
use Rattle.code.specs.Parities.{parity_of}
use Rattle.store.specs.View.{View, Column, Inside}

pub record Book (X : Type 0) : Type 0 where
  -- the mark of each column
  pub lost : ℕ → Bool
  -- the data table, from the first accepted found on: the symbol of each data column and row
  pub table : Option (ℕ → ℕ → X)

-- a call, as a book hears of it
pub data Event (X : Type 0) : Type 0 where
  -- a found, with the store's symbols as it begins
  founds : (ℕ → ℕ → X) → Event X
  -- a put of a symbol at a column and a row
  puts : ℕ → ℕ → X → Event X
  loses : ℕ → Event X
  -- a rebuild from a quote of that column
  rebuilds : ℕ → Event X
  -- a call that changes no mark and no symbol: get, quote, audit, the question
  looks : Event X

-- a book as an array begins: the store's marks and no data table
abbrev pub new_book : {X : Type 0} → View X → Book X
new_book g = record { lost = g.lost; table = None }

-- the marks with another one for column c
abbrev pub with_mark : ℕ → Bool → (ℕ → Bool) → ℕ → Bool
with_mark c mark lost d = cond (d == c) mark (lost d)

-- the symbols with another one at column c and a row
abbrev pub with_symbol : {X : Type 0} → ℕ → ℕ → X → (ℕ → ℕ → X) → ℕ → ℕ → X
with_symbol c row x at d y = cond (d == c && y == row) x (at d y)

-- the same in a data table, if there is one
abbrev pub put_in : {X : Type 0} → ℕ → ℕ → X → Option (ℕ → ℕ → X) → Option (ℕ → ℕ → X)
put_in c row x (Some table) = Some (with_symbol c row x table)
put_in c row x None = None

-- the book after an accepted call; a found fills the table only if there is none yet
abbrev pub after : {X : Type 0} → Shape → Event X → Book X → Book X
after s (founds at) b = record { lost = λ c. cond (nat_le c s.k) (b.lost c) false; table = Some (unwrap_or b.table at) }
after s (puts c row x) b = record { lost = b.lost; table = put_in c row x b.table }
after s (loses c) b = record { lost = with_mark c true b.lost; table = b.table }
after s (rebuilds c) b = record { lost = with_mark c false b.lost; table = b.table }
after s looks b = b

-- the book after a call that was accepted or not: a refused call leaves it alone
abbrev pub fed : {X : Type 0} → Shape → Event X → Bool → Book X → Book X
fed s event accepted b = cond accepted (after s event b) b

-- the construction's columns for a data table: its own, and the parity columns that the sums give
abbrev pub built : {X : Type 0} (none : X) (plus : X → X → X) → Shape → (ℕ → ℕ → X) → ℕ → ℕ → X
built none plus s table c row = cond (nat_le c s.k) (table c row) (parity_of none plus s table (c - s.k) row)

-- the store's marks are the book's, and if there is a data table each present column is the construction's column for it
pub record Agrees {X : Type 0} (none : X) (plus : X → X → X) (s : Shape) (b : Book X) (g : View X) : Type 0 where
  pub marks : (c : ℕ) → Column g c → g.lost c ≡ b.lost c
  pub symbols : (table : ℕ → ℕ → X) → b.table ≡ Some table → (c row : ℕ) → Inside g c row → g.lost c ≡ false → g.at c row ≡ built none plus s table c row

-- what every call does to the books: each one that agrees with the store before it, g, agrees with the store after it, h,
-- once it is fed the call and whether it was accepted
abbrev pub Keeps : {X : Type 0} (none : X) (plus : X → X → X) → Shape → Event X → Bool → View X → View X → Type 0
Keeps {X} none plus s event accepted g h = (b : Book X) → Agrees none plus s b g → Agrees none plus s (fed s event accepted b) h

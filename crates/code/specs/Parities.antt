-- The sums of the code. `at` gives the symbol of each column, counted from 1, and row, counted from 0.
use Rattle.std.specs.Prelude.{◌≡◌, ℕ, ◌+◌, ◌-◌, ◌%◌, ◌<◌, ◌≤◌, Bool, ◌||◌, ◌==◌}
use Rattle.ring.specs.Sums.{sum_to}
use Rattle.ring.specs.Cyclic.{symbol_at, shifted}
use Rattle.code.specs.declared.shape.Shape.{Shape}
use Rattle.code.specs.Shapes.{parities_of, classes_of, rows_of, positions_of, shift_of}

-- the symbol at a position of a column: a row, or past the rows the sum of a class
abbrev pub symbol_of : {X : Type 0} (none : X) (plus : X → X → X) → Shape → (ℕ → X) → ℕ → X
symbol_of none plus s column x = symbol_at none plus (s.p - 1) (classes_of s) column x

-- what data column i + 1 adds to parity j at a position: its symbol there, at its shift
abbrev pub term_of : {X : Type 0} (none : X) (plus : X → X → X) → Shape → (ℕ → ℕ → X) → ℕ → ℕ → ℕ → X
term_of none plus s at j x i = symbol_of none plus s (at (i + 1)) (shifted (positions_of s) (shift_of s j (i + 1)) x)

-- parity j at a position: the sum over the data columns
abbrev pub parity_of : {X : Type 0} (none : X) (plus : X → X → X) → Shape → (ℕ → ℕ → X) → ℕ → ℕ → X
parity_of none plus s at j x = sum_to none plus s.k (term_of none plus s at j x)

-- the construction: at every position of the ring, each parity column is its sum
abbrev pub Encoded : {X : Type 0} (none : X) (plus : X → X → X) → Shape → (ℕ → ℕ → X) → Type 0
Encoded none plus s at =
    (j x : ℕ) → 1 ≤ j → j ≤ parities_of s → x < positions_of s →
    symbol_of none plus s (at (s.k + j)) x ≡ parity_of none plus s at j x

-- the position of parity j at which a row of data column c is summed
abbrev pub direct : Shape → ℕ → ℕ → ℕ → ℕ
direct s j c row = (row + shift_of s j c) % positions_of s

-- the position at which the extra symbol of the row's class is summed
abbrev pub through_class : Shape → ℕ → ℕ → ℕ → ℕ
through_class s j c row = (rows_of s + row % classes_of s + shift_of s j c) % positions_of s

-- whether parity j at a position takes in a row of data column c, itself or in an extra symbol
abbrev pub takes_in : Shape → ℕ → ℕ → ℕ → ℕ → Bool
takes_in s j c row x = x == direct s j c row || x == through_class s j c row

-- How each row of a lost data column f is rebuilt. `at` gives the symbol of each column, counted from 1, and row.
use Rattle.std.specs.Prelude.{◌≡◌, ℕ, ◌+◌, ◌-◌, ◌/◌, ◌%◌, ◌≤◌, cond, ◌⊎◌, ◌==◌, ◌≢◌}
use Rattle.ring.specs.Sums.{sum_to}
use Rattle.ring.specs.Cyclic.{Covers, shifted}
use Rattle.code.specs.declared.shape.Shape.{Shape}
use Rattle.code.specs.Shapes.{classes_of, positions_of, shift_of}
use Rattle.code.specs.Parities.{symbol_of, term_of, parity_of}
use Rattle.repair.specs.Halves.{first_half, round, span}

-- u, the block of its round that a row is in
abbrev pub block : Shape → ℕ → ℕ → ℕ
block s f row = (row % round s f) / span s f

-- the parity that serves a row
abbrev pub chosen : Shape → ℕ → ℕ → ℕ
chosen s f row = cond (block s f row == 0) 1 (cond (first_half s f) (s.q - block s f row + 1) (s.q + block s f row))

-- the position of that parity whose sum takes in the row
abbrev pub position : Shape → ℕ → ℕ → ℕ
position s f row = (row + shift_of s (chosen s f row) f) % positions_of s

-- the position of data column i in that sum
abbrev pub place : Shape → ℕ → ℕ → ℕ → ℕ
place s f row i = shifted (positions_of s) (shift_of s (chosen s f row) i) (position s f row)

-- what data column i + 1 adds to that sum; f itself is left out
abbrev pub addend : {X : Type 0} (none : X) (plus : X → X → X) → Shape → ℕ → (ℕ → ℕ → X) → ℕ → ℕ → X
addend none plus s f at row i = cond (i + 1 == f) none (term_of none plus s at (chosen s f row) (position s f row) i)

-- a row of f: the parity's symbol with the addends taken off it, which is the same as added to it
abbrev pub rebuilt : {X : Type 0} (none : X) (plus : X → X → X) → Shape → ℕ → (ℕ → ℕ → X) → ℕ → X
rebuilt none plus s f at row = plus (symbol_of none plus s (at (s.k + chosen s f row)) (position s f row)) (sum_to none plus s.k (addend none plus s f at row))

-- the sum that serves a row is true
abbrev pub SumHolds : {X : Type 0} (none : X) (plus : X → X → X) → Shape → ℕ → (ℕ → ℕ → X) → ℕ → Type 0
SumHolds none plus s f at row =
    symbol_of none plus s (at (s.k + chosen s f row)) (position s f row)
    ≡ parity_of none plus s at (chosen s f row) (position s f row)

-- the symbols with another column in the place of f
abbrev pub with_column : {X : Type 0} → ℕ → (ℕ → X) → (ℕ → ℕ → X) → ℕ → ℕ → X
with_column f column at c = cond (c == f) column (at c)

-- rebuilding a row takes in the stored symbol of column c and row r, itself or in an extra symbol
abbrev pub Needs : Shape → ℕ → ℕ → ℕ → ℕ → Type 0
Needs s f row c r =
    ((c ≡ s.k + chosen s f row) × Covers (s.p - 1) (classes_of s) (position s f row) r) ⊎
    ((1 ≤ c) × (c ≤ s.k) × (c ≢ f) × Covers (s.p - 1) (classes_of s) (place s f row c) r)

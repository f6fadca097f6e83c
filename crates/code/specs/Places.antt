-- Columns of symbols in memory, one after another: column c begins at (c - 1) * rows.
use Rattle.std.specs.Prelude.{ℕ, ◌+◌, ◌-◌, ◌*◌, List, slice_index_or}

abbrev pub place_of : ℕ → ℕ → ℕ → ℕ
place_of rows c r = (c - 1) * rows + r

-- the rows of a column that begins at a place
abbrev pub rows_from : {X : Type 0} → X → List X → ℕ → ℕ → X
rows_from none cells start r = slice_index_or cells (start + r) none

-- the symbol at a column and a row
abbrev pub symbols_of : {X : Type 0} → X → ℕ → List X → ℕ → ℕ → X
symbols_of none rows cells c = rows_from none cells ((c - 1) * rows)

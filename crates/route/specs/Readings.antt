-- What the machines of the route tell.
use Rattle.std.specs.Prelude.{ℕ, zero, suc, ◌+◌, ◌*◌, ◌/◌, ◌%◌, List, [], ◌∷◌, ◌++◌}
use Rattle.symbol.specs.declared.stand.Stand.{Stand}
use Rattle.symbol.specs.Stands.{stand}

abbrev pub seed_of : ℕ → ℕ → ℕ
seed_of column row = column % 16 * 37 + row % 4096 * 11

abbrev pub reading_of : ℕ → ℕ → Stand
reading_of column row = stand (seed_of column row % 60) (seed_of column row * 25)

-- the first n readings, column after column
unfoldable pub readings_of : ℕ → ℕ → List Stand
readings_of rows zero = []
readings_of rows (suc n) = readings_of rows n ++ (reading_of (n / rows + 1) (n % rows) ∷ [])

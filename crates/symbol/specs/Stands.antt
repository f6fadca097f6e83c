-- The stand: a stock of 16 bits and cash of 32 bits, each summed by exclusive or. Its bytes have the stock first and
-- the high bytes first. The first byte of each number is whatever is left of it, so that the number always comes back.
use Rattle.std.specs.Prelude.{ℕ, ◌+◌, ◌*◌, ◌/◌, ◌%◌, List, [], ◌∷◌, bit_xor, slice_index}
use Rattle.symbol.specs.declared.stand.Stand.{Stand}

abbrev pub stand : ℕ → ℕ → Stand
stand s c = record { stock = s; cash = c }

abbrev pub stand_plus : Stand → Stand → Stand
stand_plus x y = stand (bit_xor x.stock y.stock) (bit_xor x.cash y.cash)

abbrev pub stand_bytes : Stand → List ℕ
stand_bytes x = (x.stock / 256) ∷ (x.stock % 256) ∷ (x.cash / 16777216) ∷ (x.cash / 65536 % 256) ∷ (x.cash / 256 % 256) ∷ (x.cash % 256) ∷ []

abbrev pub stand_of : List ℕ → Stand
stand_of b = stand (slice_index b 0 * 256 + slice_index b 1) (slice_index b 2 * 16777216 + slice_index b 3 * 65536 + slice_index b 4 * 256 + slice_index b 5)

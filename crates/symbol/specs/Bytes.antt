-- The byte: one number of 8 bits, summed by exclusive or.
use Rattle.std.specs.Prelude.{ℕ, List, [], ◌∷◌, bit_xor, slice_index}
use Rattle.symbol.specs.declared.byte.Byte.{Byte}

abbrev pub byte : ℕ → Byte
byte n = record { value = n }

abbrev pub byte_plus : Byte → Byte → Byte
byte_plus x y = byte (bit_xor x.value y.value)

abbrev pub byte_bytes : Byte → List ℕ
byte_bytes x = x.value ∷ []

abbrev pub byte_of : List ℕ → Byte
byte_of b = byte (slice_index b 0)

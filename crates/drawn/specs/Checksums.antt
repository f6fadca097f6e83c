-- The checksum FNV-1a of 32 bits.
use Rattle.std.specs.Prelude.{◌≡◌, ℕ, zero, suc, ◌*◌, ◌%◌, ◌^◌, true, false, List, Ok, Err, Result, bit_xor, fold}
use Rattle.code.specs.declared.refusal.Refusal.{Refusal}
use Rattle.code.specs.declared.refusal.Refusal.TheVariants.{ColumnLost}
use Rattle.store.specs.View.{View, counts_as_lost, metered}

-- one byte more
abbrev pub mixed : ℕ → ℕ → ℕ
mixed sum byte = (bit_xor sum byte * 16777619) % 2 ^ 32

-- over the bytes of some symbols
abbrev pub checksum_of : {X : Type 0} → (X → List ℕ) → ℕ → List X → ℕ
checksum_of bytes = fold (λ sum x. fold mixed sum (bytes x))

-- over those of the first n symbols of a column
abbrev pub checksum_to : {X : Type 0} → (X → List ℕ) → ℕ → (ℕ → X) → ℕ → ℕ
checksum_to bytes start at zero = start
checksum_to bytes start at (suc n) = fold mixed (checksum_to bytes start at n) (bytes (at n))

-- the checksum of column c of a store, which reads each row once; a lost column has none
abbrev pub SumsColumn : {S X : Type 0} → (S → View X) → (X → List ℕ) → ℕ → S → ℕ → Result ℕ Refusal → S → Type 0
SumsColumn view bytes start s c (Ok sum) s' = (counts_as_lost (view s) c ≡ false) × (sum ≡ checksum_to bytes start ((view s).at c) (view s).rows) × (view s' ≡ metered (view s).rows (view s))
SumsColumn view bytes start s c (Err e) s' = (counts_as_lost (view s) c ≡ true) × (e ≡ ColumnLost c) × (s' ≡ s)

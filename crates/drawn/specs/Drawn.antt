-- What a linear congruential generator of 32 bits draws from a state: the high byte of each state that follows.
use Rattle.std.specs.Prelude.{ℕ, zero, suc, ◌+◌, ◌*◌, ◌/◌, ◌%◌, ◌^◌, List, [], ◌∷◌, ◌++◌, map, take}
use Rattle.std.specs.List.{range_with_len}

abbrev pub next : ℕ → ℕ
next state = (state * 1664525 + 1013904223) % 2 ^ 32

-- the state after n bytes
unfoldable pub after : ℕ → ℕ → ℕ
after zero state = state
after (suc n) state = next (after n state)

-- byte i, from 0
abbrev pub drawn_byte : ℕ → ℕ → ℕ
drawn_byte state i = next (after i state) / 2 ^ 24

-- n bytes
unfoldable pub drawn_bytes : ℕ → ℕ → List ℕ
drawn_bytes n state = map (drawn_byte state) (range_with_len 0 n)

-- a symbol of w bytes: the first of 16
abbrev pub drawn_symbol : {X : Type 0} → ℕ → (List ℕ → X) → ℕ → X
drawn_symbol w symbol state = symbol (take w (drawn_bytes 16 state))

-- n symbols, 16 bytes for each
unfoldable pub drawn_symbols : {X : Type 0} → ℕ → (List ℕ → X) → ℕ → ℕ → List X
drawn_symbols w symbol zero state = []
drawn_symbols w symbol (suc n) state = drawn_symbols w symbol n state ++ (drawn_symbol w symbol (after (16 * n) state) ∷ [])

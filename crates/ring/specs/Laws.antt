-- What holds of every ring of p blocks of t positions, whatever code is laid over it.
use Rattle.std.specs.Prelude.{◌≡◌, ℕ, suc, ◌+◌, ◌*◌, ◌%◌, ◌<◌}
use Rattle.ring.specs.Sums.{BooleanGroup, sum_to}
use Rattle.ring.specs.Cyclic.{symbol_at, shifted, shifted_sum}

-- a shift takes the positions of one class to the positions of one class
abbrev pub ShiftsKeepClasses : Type 0
ShiftsKeepClasses = (b t s x y : ℕ) → x % t ≡ y % t → shifted (suc b * t) s x % t ≡ shifted (suc b * t) s y % t

-- the symbols at all positions of a class, shifted or not, sum to nothing
abbrev pub ClassesSumToNone : Type 0 → Type 0
ClassesSumToNone X =
    (none : X) (plus : X → X → X) → BooleanGroup none plus → (b t : ℕ) (column : ℕ → X) (s m : ℕ) → m < t →
    sum_to none plus (suc b) (λ a. symbol_at none plus b t column (shifted (suc b * t) s (a * t + m))) ≡ none

-- a parity column's rows, extended by their own class sums, are its sum at every position of the ring
abbrev pub ParityObeysClassSums : Type 0 → Type 0
ParityObeysClassSums X =
    (none : X) (plus : X → X → X) → BooleanGroup none plus → (b t k : ℕ) (columns : ℕ → ℕ → X) (shift : ℕ → ℕ) (x : ℕ) → x < suc b * t →
    symbol_at none plus b t (shifted_sum none plus b t k columns shift) x ≡ shifted_sum none plus b t k columns shift x

-- A column of b blocks of t rows on a ring of b + 1 blocks. The last block is not stored: it holds the extra symbols.
-- With p = b + 1 there are (p - 1) * t rows and p * t positions. Rows and positions that leave the same rest modulo t
-- are of one class, and each class has one extra symbol.
use Rattle.std.specs.Prelude.{◌≡◌, ℕ, suc, ◌+◌, ◌-◌, ◌*◌, ◌%◌, ◌<◌, cond, ◌⊎◌, nat_lt}
use Rattle.ring.specs.Sums.{sum_to}

-- the sum of the rows of class m
abbrev pub class_total : {X : Type 0} (none : X) (plus : X → X → X) (b t : ℕ) → (ℕ → X) → ℕ → X
class_total none plus b t column m = sum_to none plus b (λ a. column (a * t + m))

-- the symbol at a position: a row, and past the rows the extra symbol of a class, which is the sum of its rows
unfoldable pub symbol_at : {X : Type 0} (none : X) (plus : X → X → X) (b t : ℕ) → (ℕ → X) → ℕ → X
symbol_at none plus b t column x = cond (nat_lt x (b * t)) (column x) (class_total none plus b t column (x - b * t))

-- the symbol at position x takes in a row: it is that row, or the extra symbol of the row's class
abbrev pub Covers : ℕ → ℕ → ℕ → ℕ → Type 0
Covers b t x row = (row < b * t) × ((x ≡ row) ⊎ (x ≡ b * t + row % t))

-- the position from which a shift by s comes to x
abbrev pub shifted : ℕ → ℕ → ℕ → ℕ
shifted positions s x = (x + (positions - s)) % positions

-- the sum of k columns at a position, each taken at its own shift
unfoldable pub shifted_sum : {X : Type 0} (none : X) (plus : X → X → X) (b t k : ℕ) → (ℕ → ℕ → X) → (ℕ → ℕ) → ℕ → X
shifted_sum none plus b t k columns shift x = sum_to none plus k (λ i. symbol_at none plus b t (columns i) (shifted (suc b * t) (shift i) x))

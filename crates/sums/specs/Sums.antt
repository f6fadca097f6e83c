-- What the sums over lent symbols answer.
use Rattle.std.specs.Prelude.{◌≡◌, ℕ, suc, ◌+◌, ◌*◌, ◌≤◌, cond, ◌&&◌, List, length, Some, None, Option, ◌==◌, nat_le, nat_lt}
use Rattle.ring.specs.Cyclic.{symbol_at}
use Rattle.code.specs.declared.shape.Shape.{Shape}
use Rattle.code.specs.Places.{rows_from, symbols_of}
use Rattle.code.specs.Parities.{symbol_of, parity_of}
use Rattle.code.specs.Shapes.{parities_of, rows_of, positions_of}
use Rattle.sums.specs.declared.rule.ParityRule.{ParityRule}

-- the rule of parity j, if there is such a parity
abbrev pub RuleOf : Shape → ℕ → Option ParityRule → Type 0
RuleOf s j (Some u) = (u.shape ≡ s) × (u.parity ≡ j)
RuleOf s j None = (1 ≤ j) × (j ≤ parities_of s) → ⊥

-- the symbol at position x of a column's rows; none if they are not the shape's or there is no such position
abbrev pub symbol_in_column : {X : Type 0} (none : X) (plus : X → X → X) → Shape → List X → ℕ → Option X
symbol_in_column none plus s column x = cond (length column == rows_of s && nat_lt x (positions_of s)) (Some (symbol_of none plus s (rows_from none column 0) x)) None

-- the symbol at position x of the b blocks of t rows that begin at a place of the cells; none if they do not hold those
-- rows or there is no such position
abbrev pub symbol_in_cells : {X : Type 0} (none : X) (plus : X → X → X) → List X → ℕ → ℕ → ℕ → ℕ → Option X
symbol_in_cells none plus cells start b t x = cond (nat_le (start + b * t) (length cells) && nat_lt x (suc b * t)) (Some (symbol_at none plus b t (rows_from none cells start) x)) None

-- parity j at position x, from the data columns one after another; none if they are too few or there is no such position
abbrev pub sum_at : {X : Type 0} (none : X) (plus : X → X → X) → Shape → ℕ → List X → ℕ → Option X
sum_at none plus s j cells x = cond (nat_le (s.k * rows_of s) (length cells) && nat_lt x (positions_of s)) (Some (parity_of none plus s (symbols_of none (rows_of s) cells) j x)) None

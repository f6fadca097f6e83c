-- The shifts of the parities that help f, by steps: each of them shifts every data column by a whole number of steps.
use Rattle.std.specs.Prelude.{ℕ, ◌-◌, ◌^◌, cond, ◌==◌, nat_lt}
use Rattle.code.specs.declared.shape.Shape.{Shape}
use Rattle.repair.specs.Halves.{near}
use Rattle.repair.specs.Rows.{block}

-- how far a step shifts data column i
abbrev pub step : Shape → ℕ → ℕ → ℕ
step s f i = cond (nat_lt (near s f i) s.k) (s.q ^ (near s f i - 1)) 0

-- the steps of the parity that serves a row: the blocks from the row to the next first block of a round
abbrev pub gap : Shape → ℕ → ℕ → ℕ
gap s f row = cond (block s f row == 0) 0 (s.q - block s f row)

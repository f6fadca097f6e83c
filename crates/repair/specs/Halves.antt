-- How a lost data column f lies among the data columns. Both halves are alike if columns are counted from f's end.
use Rattle.std.specs.Prelude.{ℕ, ◌+◌, ◌-◌, ◌/◌, ◌^◌, min, Bool, cond, nat_le}
use Rattle.code.specs.declared.shape.Shape.{Shape}

-- whether f is in the first half
abbrev pub first_half : Shape → ℕ → Bool
first_half s f = nat_le f ((s.k + 1) / 2)

-- g, the number of f counted from the nearer end
abbrev pub depth : Shape → ℕ → ℕ
depth s f = min f (s.k + 1 - f)

-- i', the number of data column i counted from f's end
abbrev pub near : Shape → ℕ → ℕ → ℕ
near s f i = cond (first_half s f) i (s.k + 1 - i)

-- q^g: which parity serves a row, and which rows are read, repeats after so many rows
abbrev pub round : Shape → ℕ → ℕ
round s f = s.q ^ depth s f

-- q^(g-1): a round has q blocks of so many rows
abbrev pub span : Shape → ℕ → ℕ
span s f = s.q ^ (depth s f - 1)

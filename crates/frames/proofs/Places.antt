-- Lines, and the columns and rows that they are of.
use Rattle.std.proofs.Common.{◌≡◌, ℕ, ◌+◌, ◌-◌, ◌*◌, ◌/◌, ◌%◌, ◌<◌, ◌≤◌, ap, ◌∙◌, mul-le-mul_right, mul_assoc, mul_comm, div-lt_iff_lt-mul, div-add-mod', arith}
use Rattle.code.specs.declared.shape.Shape.{Shape}
use Rattle.code.specs.Shapes.{columns_of, rows_of}
use Rattle.code.specs.Places.{place_of}
use Rattle.code.proofs.Bounds.{classes_pos, classes_low}
use Rattle.std.proofs.lemmas.Nat.{mul-add-lt, div-mul-add, mod-mul-add}

module _ (s : Shape) where
  pub rows_some : 1 ≤ rows_of s
  rows_some = omega (arith, classes_pos s, classes_low s)

  pub columns_few : columns_of s ≤ 19
  columns_few = omega (arith, s.data_columns, s.helping)

-- the column of a line
pub column_low : (i m n : ℕ) → 1 ≤ n → i < m * n → i / n < m
column_low i m n some h = (div-lt_iff_lt-mul some).1 h

-- a line is the place of its column and row
pub line_place : (i n : ℕ) → place_of n (i / n + 1) (i % n) ≡ i
line_place i n = let e : i / n + 1 - 1 ≡ i / n = omega arith in ap (λ k. k * n + i % n) e ∙ div-add-mod' i n

-- a place is a line, and that line's column and row are the place's
pub place_low : (c r m n : ℕ) → 1 ≤ c → c ≤ m → r < n → place_of n c r < m * n
place_low c r m n one last within = omega (arith, mul-add-lt (c - 1) n r m (omega arith) within, mul_comm m n)

pub place_column : (c r n : ℕ) → 1 ≤ c → r < n → place_of n c r / n + 1 ≡ c
place_column c r n one within = omega (arith, div-mul-add (c - 1) n r within)

pub place_row : (c r n : ℕ) → r < n → place_of n c r % n ≡ r
place_row c r n within = mod-mul-add (c - 1) n r within

-- the line of a place lies in the text
pub place_fits : (c r m n s size : ℕ) → 1 ≤ c → c ≤ m → r < n → (1 ≤ m → m * n * s ≡ size) → place_of n c r * s + s ≤ size
place_fits c r m n s size one last within whole =
    let e : m * n * s ≡ size = whole (omega arith) in
    let low : place_of n c r + 1 ≤ m * n = omega (arith, place_low c r m n one last within) in
    let h : (place_of n c r + 1) * s ≤ m * n * s = mul-le-mul_right s low in
    omega arith

-- the lines of a column lie in the text
pub column_fits : (c m n s size : ℕ) → 1 ≤ c → c ≤ m → size ≡ m * n * s → (c - 1) * (n * s) + n * s ≤ size
column_fits c m n s size one last e =
    let step : (c - 1 + 1) * (n * s) ≤ m * (n * s) = mul-le-mul_right (n * s) (omega arith) in
    omega (arith, mul_assoc m n s)

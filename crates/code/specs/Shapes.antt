-- The numbers of a shape that exists.
use Rattle.std.specs.Prelude.{◌≡◌, ℕ, Bool, not, ◌&&◌, Some, None, Ok, Err, Result}
use Rattle.code.specs.declared.refusal.Refusal.{Refusal}
use Rattle.code.specs.declared.shape.Shape.{Shape}
use Rattle.code.specs.Rules.{parities, columns, helpers, classes, rows, positions, shift, outside, shape_refusal}

abbrev pub parities_of : Shape → ℕ
parities_of s = parities s.q

abbrev pub columns_of : Shape → ℕ
columns_of s = columns s.k s.q

abbrev pub helpers_of : Shape → ℕ
helpers_of s = helpers s.k s.q

abbrev pub classes_of : Shape → ℕ
classes_of s = classes s.k s.q

abbrev pub rows_of : Shape → ℕ
rows_of s = rows s.k s.q s.p

abbrev pub positions_of : Shape → ℕ
positions_of s = positions s.k s.q s.p

abbrev pub shift_of : Shape → ℕ → ℕ → ℕ
shift_of s j i = shift s.k s.q j i

-- whether a parity and a data column have these numbers
abbrev pub is_shifted : Shape → ℕ → ℕ → Bool
is_shifted s j i = not (outside 1 (parities_of s) j) && not (outside 1 s.k i)

-- the shape of these numbers, or why there is none
abbrev pub Made : ℕ → ℕ → ℕ → Result Shape Refusal → Type 0
Made k q p (Ok s) = (shape_refusal k q p ≡ None) × (s.k ≡ k) × (s.q ≡ q) × (s.p ≡ p)
Made k q p (Err e) = shape_refusal k q p ≡ Some e

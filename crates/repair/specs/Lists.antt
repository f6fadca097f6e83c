-- The helpers of a lost data column f, its reading list, and the parts of the work area.
use Rattle.std.specs.Prelude.{ℕ, ◌+◌, ◌-◌, ◌*◌, ◌%◌, ◌^◌, Bool, cond, not, ◌&&◌, ◌||◌, List, ◌==◌, nat_le, nat_lt}
use Rattle.ring.specs.Sums.{sum_to, count}
use Rattle.code.specs.declared.shape.Shape.{Shape}
use Rattle.code.specs.Shapes.{parities_of, columns_of, helpers_of, rows_of}
use Rattle.code.specs.Places.{rows_from}
use Rattle.repair.specs.Halves.{first_half, depth, near, round, span}

-- the parities that help: 1, and 2 to q in the first half or q + 1 to 2q - 1 in the second
abbrev pub helping : Shape → ℕ → ℕ → Bool
helping s f j = j == 1 || cond (first_half s f) (nat_le 2 j && nat_le j s.q) (nat_le (s.q + 1) j && nat_le j (parities_of s))

-- the columns that help: the other data columns and the helping parities
abbrev pub helper : Shape → ℕ → ℕ → Bool
helper s f c = cond (nat_le c s.k) (nat_le 1 c && not (c == f)) (helping s f (c - s.k))

-- the rows that are read of every helper: the first block of each round
abbrev pub home : Shape → ℕ → ℕ → Bool
home s f r = nat_lt (r % round s f) (span s f)

-- the rows that are read besides of a data column nearer to f's end than f
abbrev pub added : Shape → ℕ → ℕ → ℕ → Bool
added s f c r = nat_le c s.k && (nat_lt (near s f c) (depth s f) && nat_le (round s f - (s.q - 1) * s.q ^ (near s f c - 1)) (r % round s f))

-- the reading list
abbrev pub listed : Shape → ℕ → ℕ → ℕ → Bool
listed s f c r = nat_lt r (rows_of s) && (helper s f c && (home s f r || added s f c r))

-- how many places are on it
abbrev pub size : Shape → ℕ → ℕ
size s f = sum_to 0 ◌+◌ (columns_of s) (λ c. count (rows_of s) (λ r. listed s f (c + 1) r))

abbrev pub formula : Shape → ℕ → ℕ
formula s f = (s.p - 1) * ((helpers_of s + 1) * s.q ^ (s.k - 3) - s.q ^ (s.k - depth s f - 2))

-- which part of the work area a helper's rows have, from 0
abbrev pub slot : Shape → ℕ → ℕ → ℕ
slot s f c =
    cond (nat_lt c f) (c - 1)
    (cond (nat_le c s.k) (c - 2)
    (cond (c == s.k + 1) (s.k - 1)
    (cond (first_half s f) (c - 2) (c - s.q - 1))))

-- the symbols that the work area holds of each helper
abbrev pub area : {X : Type 0} → X → Shape → ℕ → List X → ℕ → ℕ → X
area none s f work c = rows_from none work (slot s f c * rows_of s)

-- Worked figures of the code, as a table, and a test that computes whether each follows from the definitions.
use Rattle.std.specs.Prelude.{◌≡◌, ℕ, zero, suc, ◌+◌, ◌-◌, Bool, true, false, cond, ◌&&◌, List, [], ◌∷◌, ◌++◌, Some, None, Option, ◌==◌, refl}
use Rattle.std.proofs.Common.{lit≤}
use Rattle.ring.specs.Cyclic.{shifted}
use Rattle.code.specs.declared.refusal.Refusal.{Refusal}
use Rattle.code.specs.declared.shape.Shape.{Shape}
use Rattle.code.specs.Refusals.{number_of, values_of}
use Rattle.code.specs.Rules.{parities, columns, helpers, classes, rows, positions, shift, shape_refusal}
use Rattle.code.specs.Shapes.{parities_of, columns_of, rows_of}
use Rattle.repair.specs.Lists.{size, formula}
use Rattle.store.specs.View.{View}
use Rattle.updates.specs.Updates.{carries, put_reads}

abbrev four_two_five : Shape
four_two_five = record { k = 4; q = 2; p = 5; data_columns = (lit≤ tt, lit≤ tt); helping = (lit≤ tt, lit≤ tt); prime = refl; wide = lit≤ tt; small = lit≤ tt }

abbrev four_two_three : Shape
four_two_three = record { k = 4; q = 2; p = 3; data_columns = (lit≤ tt, lit≤ tt); helping = (lit≤ tt, lit≤ tt); prime = refl; wide = lit≤ tt; small = lit≤ tt }

abbrev five_two_three : Shape
five_two_three = record { k = 5; q = 2; p = 3; data_columns = (lit≤ tt, lit≤ tt); helping = (lit≤ tt, lit≤ tt); prime = refl; wide = lit≤ tt; small = lit≤ tt }

pub data Figure : Type 0 where
  -- k, q and p make a shape of these r, n, d, t, R and N
  sizes : (k q p r n d t R N : ℕ) → Figure
  -- k, q and p are refused by a number, with a value
  refused : (k q p number value : ℕ) → Figure
  -- at k, q and p, parity j at a position sums these positions of the data columns
  summed : (k q p j x : ℕ) → List ℕ → Figure
  -- so many symbols are read to rebuild data column f, by the reading list and by the formula
  counted : Shape → (f count : ℕ) → Figure
  -- with all columns present, a put at data column c and a row rewrites these rows of each parity, with so many reads
  carried : Shape → (c row reads : ℕ) → List (List ℕ) → Figure

abbrev pub figures : List Figure
figures =
    sizes 4 2 5 3 7 5 4 16 20 ∷
    sizes 7 4 5 7 14 10 1024 4096 5120 ∷
    refused 8 4 5 5 16384 ∷
    refused 4 4 3 4 3 ∷
    refused 3 2 7 1 3 ∷
    refused 4 2 7 3 7 ∷
    summed 4 2 3 2 0 (11 ∷ 10 ∷ 8 ∷ 0 ∷ []) ∷
    summed 4 2 3 3 0 (0 ∷ 8 ∷ 10 ∷ 11 ∷ []) ∷
    counted four_two_five 1 40 ∷
    counted four_two_five 2 44 ∷
    counted four_two_five 3 44 ∷
    counted four_two_five 4 40 ∷
    counted four_two_three 1 20 ∷
    counted five_two_three 3 54 ∷
    carried four_two_five 3 5 5 ((5 ∷ []) ∷ (1 ∷ 9 ∷ []) ∷ (7 ∷ []) ∷ []) ∷
    carried four_two_five 3 13 4 ((13 ∷ []) ∷ (1 ∷ []) ∷ (15 ∷ []) ∷ []) ∷
    []

abbrev pub same_numbers : List ℕ → List ℕ → Bool
same_numbers [] [] = true
same_numbers [] (y ∷ ys) = false
same_numbers (x ∷ xs) [] = false
same_numbers (x ∷ xs) (y ∷ ys) = x == y && same_numbers xs ys

-- whether the checks come to no refusal
abbrev pub accepts : Option Refusal → Bool
accepts (Some e) = false
accepts None = true

-- whether the checks come to the refusal of that number and value
abbrev pub refuses : ℕ → ℕ → Option Refusal → Bool
refuses number value (Some e) = number_of e == number && same_numbers (values_of e) (value ∷ 0 ∷ [])
refuses number value None = false

-- the positions of the last n of k data columns
abbrev pub places : ℕ → ℕ → ℕ → ℕ → ℕ → ℕ → List ℕ
places k q p j x zero = []
places k q p j x (suc n) = shifted (positions k q p) (shift k q j (k - n)) x ∷ places k q p j x n

abbrev pub same_lists : List (List ℕ) → List (List ℕ) → Bool
same_lists [] [] = true
same_lists [] (y ∷ ys) = false
same_lists (x ∷ xs) [] = false
same_lists (x ∷ xs) (y ∷ ys) = same_numbers x y && same_lists xs ys

-- a store of zeros with all columns present
abbrev pub all_present : Shape → View ℕ
all_present s = record { columns = columns_of s; rows = rows_of s; at = λ c r. 0; lost = λ c. false; meter = 0; lender = 0 }

-- the numbers below n that pass a test
abbrev pub passing : ℕ → (ℕ → Bool) → List ℕ
passing zero P = []
passing (suc n) P = passing n P ++ cond (P n) (n ∷ []) []

-- the rows of the first n parities that a put at column c and a row rewrites
abbrev pub touched : Shape → ℕ → ℕ → ℕ → List (List ℕ)
touched s c row zero = []
touched s c row (suc n) = touched s c row n ++ (passing (rows_of s) (carries s (all_present s) c row (s.k + (n + 1))) ∷ [])

abbrev pub follows : Figure → Bool
follows (sizes k q p r n d t R N) = accepts (shape_refusal k q p) && same_numbers (parities q ∷ columns k q ∷ helpers k q ∷ classes k q ∷ rows k q p ∷ positions k q p ∷ []) (r ∷ n ∷ d ∷ t ∷ R ∷ N ∷ [])
follows (refused k q p number value) = refuses number value (shape_refusal k q p)
follows (summed k q p j x wanted) = same_numbers (places k q p j x k) wanted
follows (counted s f count) = size s f == count && formula s f == count
follows (carried s c row reads wanted) = put_reads s (all_present s) c row == reads && same_lists (touched s c row (parities_of s)) wanted

abbrev pub all_follow : List Figure → Bool
all_follow [] = true
all_follow (f ∷ fs) = follows f && all_follow fs

abbrev pub FiguresFollow : Type 0
FiguresFollow = all_follow figures ≡ true

-- Putting and getting single data symbols: when a call is refused, and what it answers and leaves.
use Rattle.std.specs.Prelude.{◌≡◌, ℕ, ◌+◌, ◌-◌, Bool, cond, not, ◌&&◌, ◌||◌, Some, None, Ok, Err, Option, Result, nat_le, nat_lt}
use Rattle.ring.specs.Sums.{sum_to, count}
use Rattle.code.specs.declared.refusal.Refusal.{Refusal}
use Rattle.code.specs.declared.refusal.Refusal.TheVariants.{NoSuchPlace, ColumnLost, StoreDiffers}
use Rattle.code.specs.declared.shape.Shape.{Shape}
use Rattle.code.specs.Refusals.{refuse}
use Rattle.code.specs.Rules.{outside}
use Rattle.code.specs.Shapes.{parities_of, rows_of}
use Rattle.code.specs.Parities.{takes_in}
use Rattle.store.specs.View.{View, counts_as_lost, metered}
use Rattle.array.specs.Checks.{fits}
use Rattle.array.specs.Book.{Book, Agrees, with_symbol}
use Rattle.updates.specs.Views.{Leaves}

-- the refusal of a put or a get at a column and a row, or none: a data place of a present column is asked for
abbrev pub place_refusal : {X : Type 0} → Shape → View X → ℕ → ℕ → Option Refusal
place_refusal s g c row =
    refuse (not (fits s g)) (StoreDiffers g.columns g.rows)
    (refuse (outside 1 s.k c || nat_le (rows_of s) row) (NoSuchPlace c row)
    (refuse (counts_as_lost g c) (ColumnLost c)
    None))

-- whether a put at column c and a row changes column d at row y: d is a present parity column that takes the row in there
abbrev pub carries : {X : Type 0} → Shape → View X → ℕ → ℕ → ℕ → ℕ → Bool
carries s g c row d y = nat_lt s.k d && (not (g.lost d) && takes_in s (d - s.k) c row y)

-- how many symbols of column d it rewrites so
abbrev pub carried : {X : Type 0} → Shape → View X → ℕ → ℕ → ℕ → ℕ
carried s g c row d = count (rows_of s) (carries s g c row d)

-- the symbols after a put of x: x at its place, and old plus new added wherever a parity carries the change
abbrev pub put_symbols : {X : Type 0} (plus : X → X → X) → Shape → View X → ℕ → ℕ → X → ℕ → ℕ → X
put_symbols plus s g c row x d y = cond (carries s g c row d y) (plus (g.at d y) (plus (g.at c row) x)) (with_symbol c row x g.at d y)

-- the reads of a put: one, and one for each parity symbol that it rewrites
abbrev pub put_reads : {X : Type 0} → Shape → View X → ℕ → ℕ → ℕ
put_reads s g c row = 1 + sum_to 0 ◌+◌ (parities_of s) (λ j. carried s g c row (s.k + (j + 1)))

-- what the checks of a put or a get answer
abbrev pub Placed : {X U : Type 0} → Shape → View X → ℕ → ℕ → Result U Refusal → Type 0
Placed s g c row (Ok _) = place_refusal s g c row ≡ None
Placed s g c row (Err e) = place_refusal s g c row ≡ Some e

-- what an accepted put of x answers and leaves: g is the store's view before it, h after it
pub record Put {X : Type 0} (plus : X → X → X) (s : Shape) (g : View X) (c row : ℕ) (x : X) (n : ℕ) (h : View X) : Type 0 where
  pub reads : n ≡ put_reads s g c row
  pub leaves : Leaves g (put_reads s g c row) (put_symbols plus s g c row x) h

-- s is the store before the call, s' after it
abbrev pub Puts : {S X : Type 0} (view : S → View X) (plus : X → X → X) → Shape → S → ℕ → ℕ → X → Result ℕ Refusal → S → Type 0
Puts view plus shape s c row x (Ok n) s' = (place_refusal shape (view s) c row ≡ None) × Put plus shape (view s) c row x n (view s')
Puts view plus shape s c row x (Err e) s' = (place_refusal shape (view s) c row ≡ Some e) × (s' ≡ s)

abbrev pub Gets : {S X : Type 0} (view : S → View X) → Shape → S → ℕ → ℕ → Result X Refusal → S → Type 0
Gets view shape s c row (Ok x) s' = (place_refusal shape (view s) c row ≡ None) × (x ≡ (view s).at c row) × (view s' ≡ metered 1 (view s))
Gets view shape s c row (Err e) s' = (place_refusal shape (view s) c row ≡ Some e) × (s' ≡ s)

-- an accepted get answers the data table's symbol, of every book with a table that agrees with the store
abbrev pub TellsTable : {X : Type 0} (none : X) (plus : X → X → X) → Shape → View X → ℕ → ℕ → Result X Refusal → Type 0
TellsTable {X} none plus s g c row (Ok x) = (b : Book X) → Agrees none plus s b g → (table : ℕ → ℕ → X) → b.table ≡ Some table → x ≡ table c row
TellsTable none plus s g c row (Err e) = Unit {0}

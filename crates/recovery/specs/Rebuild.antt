-- Losing, quoting and rebuilding any column f: which columns help, which places are read, what the rows are, and when a
-- call is refused. A data column goes by the repair rule, a parity column by its sum over all data columns.
use Rattle.std.specs.Prelude.{◌≡◌, ℕ, ◌+◌, ◌-◌, ◌*◌, ◌%◌, ◌^◌, ◌<◌, Bool, true, false, cond, not, ◌&&◌, ◌↔◌, List, length, Some, None, Ok, Err, Option, Result, ◌==◌, ◌≢◌, nat_le, nat_lt}
use Rattle.code.specs.declared.refusal.Refusal.{Refusal}
use Rattle.code.specs.declared.refusal.Refusal.TheVariants.{NoSuchPlace, ColumnPresent, CountDiffers, StoreDiffers}
use Rattle.code.specs.declared.shape.Shape.{Shape}
use Rattle.code.specs.Refusals.{refuse, or_else}
use Rattle.code.specs.Rules.{outside}
use Rattle.code.specs.Shapes.{columns_of, rows_of}
use Rattle.code.specs.Parities.{parity_of, Encoded}
use Rattle.store.specs.View.{View, Column, Inside, counts_as_lost, Dropped}
use Rattle.repair.specs.Lists.{helper, listed, formula}
use Rattle.repair.specs.Rows.{rebuilt, SumHolds, with_column}
use Rattle.array.specs.Book.{Book, Agrees}
use Rattle.array.specs.Checks.{fits, room_refusal, Cleared}
use Rattle.array.specs.Lost.{lowest_lost, lost_refusal}
use Rattle.recovery.specs.declared.quotes.Quote.{Quote}
use Rattle.recovery.specs.declared.quotes.Rejected.{Rejected}
use Rattle.recovery.specs.declared.quotes.BothRejected.{BothRejected}

-- whether f is a data column
abbrev pub is_data : Shape → ℕ → Bool
is_data s f = nat_le f s.k

-- the lowest lost helper of f, if one is lost
abbrev pub lost_helper : {X : Type 0} → Shape → ℕ → View X → Option ℕ
lost_helper s f g = cond (is_data s f) (lowest_lost (λ c. helper s f c && counts_as_lost g c) (columns_of s)) (lowest_lost (counts_as_lost g) s.k)

-- whether a place is on the reading list of f
abbrev pub on_list : Shape → ℕ → ℕ → ℕ → Bool
on_list s f c row = cond (is_data s f) (listed s f c row) (not (outside 1 s.k c) && nat_lt row (rows_of s))

-- how many symbols a rebuild of f reads
abbrev pub count_of : Shape → ℕ → ℕ
count_of s f = cond (is_data s f) (formula s f) (s.k * rows_of s)

-- a row of f, from the symbols of the other columns
abbrev pub value_of : {X : Type 0} (none : X) (plus : X → X → X) → Shape → ℕ → (ℕ → ℕ → X) → ℕ → X
value_of none plus s f at row = cond (is_data s f) (rebuilt none plus s f at row) (parity_of none plus s at (f - s.k) row)

-- the parity sum that serves a row of f is true
abbrev pub Served : {X : Type 0} (none : X) (plus : X → X → X) → Shape → ℕ → (ℕ → ℕ → X) → ℕ → Bool → Type 0
Served none plus s f at row true = SumHolds none plus s f at row
Served none plus s f at row false = at f row ≡ parity_of none plus s at (f - s.k) row

abbrev pub lose_refusal : {X : Type 0} → Shape → View X → ℕ → Option Refusal
lose_refusal s g f =
    refuse (not (fits s g)) (StoreDiffers g.columns g.rows)
    (refuse (outside 1 (columns_of s) f) (NoSuchPlace f 0)
    None)

abbrev pub quote_refusal : {X : Type 0} → Shape → View X → ℕ → Option Refusal
quote_refusal s g f =
    or_else (lose_refusal s g f)
    (refuse (not (counts_as_lost g f)) (ColumnPresent f)
    (lost_refusal (lost_helper s f g)))

-- of a quote of f with that count
abbrev pub rebuild_refusal : {X : Type 0} → Shape → View X → ℕ → ℕ → ℕ → Option Refusal
rebuild_refusal s g f count room =
    or_else (quote_refusal s g f)
    (refuse (not (count == count_of s f)) (CountDiffers (count_of s f))
    (room_refusal s room))

-- what the checks of a loss answer
abbrev pub Losable : {X U : Type 0} → Shape → View X → ℕ → Result U Refusal → Type 0
Losable s g f (Ok _) = lose_refusal s g f ≡ None
Losable s g f (Err e) = lose_refusal s g f ≡ Some e

-- what the checks of a quote answer: the count, or the refusal
abbrev pub Priced : {X : Type 0} → Shape → View X → ℕ → Result ℕ Refusal → Type 0
Priced s g f (Ok n) = (quote_refusal s g f ≡ None) × (n ≡ count_of s f)
Priced s g f (Err e) = quote_refusal s g f ≡ Some e

-- what the checks of a rebuild answer
abbrev pub Allowed : {X U : Type 0} → Shape → View X → ℕ → ℕ → ℕ → Result U Refusal → Type 0
Allowed s g f count room (Ok _) = rebuild_refusal s g f count room ≡ None
Allowed s g f count room (Err e) = rebuild_refusal s g f count room ≡ Some e

abbrev pub Loses : {S X U : Type 0} (view : S → View X) → Shape → S → ℕ → Result U Refusal → S → Type 0
Loses view shape s f (Ok _) s' = (lose_refusal shape (view s) f ≡ None) × Dropped (view s) f (view s')
Loses view shape s f (Err e) s' = (lose_refusal shape (view s) f ≡ Some e) × (s' ≡ s)

-- the question for the lowest lost column is answered as every book says that agrees with the store
abbrev pub TellsLost : {X : Type 0} (none : X) (plus : X → X → X) → View X → Option ℕ → Type 0
TellsLost {X} none plus g r = (s : Shape) (b : Book X) → Agrees none plus s b g → r ≡ lowest_lost b.lost g.columns

abbrev pub Quotes : {X : Type 0} → Shape → View X → ℕ → Result Quote Refusal → Type 0
Quotes s g f (Ok quote) = (quote_refusal s g f ≡ None) × (quote.column ≡ f) × (quote.count ≡ count_of s f)
Quotes s g f (Err e) = quote_refusal s g f ≡ Some e

-- what an accepted rebuild of f answers and leaves: g is the store's view before it, h after it
pub record Rebuilt {X : Type 0} (none : X) (plus : X → X → X) (s : Shape) (f : ℕ) (g : View X) (n : ℕ) (h : View X) (work : List X) : Type 0 where
  pub reads : n ≡ count_of s f
  pub meter : h.meter ≡ (g.meter + count_of s f) % 2 ^ 64
  pub columns : h.columns ≡ g.columns
  pub rows : h.rows ≡ g.rows
  pub lender : h.lender ≡ g.lender
  pub present : h.lost f ≡ false
  pub marks : (d : ℕ) → Column g d → (d ≢ f) → h.lost d ≡ g.lost d
  pub here : (row : ℕ) → row < rows_of s → h.at f row ≡ value_of none plus s f g.at row
  pub others : (d row : ℕ) → Inside g d row → (d ≢ f) → h.at d row ≡ g.at d row
  pub cleared : Cleared none work

-- what that is for: the rebuilt column is the lost one of every encoded array that has the listed symbols, and it is the
-- only column that makes the parity sums true that serve its rows
pub record Restores {X : Type 0} (none : X) (plus : X → X → X) (s : Shape) (f : ℕ) (g h : View X) : Type 0 where
  pub back : (at : ℕ → ℕ → X) → Encoded none plus s at → ((c row : ℕ) → on_list s f c row ≡ true → g.at c row ≡ at c row) → (row : ℕ) → row < rows_of s → h.at f row ≡ at f row
  pub only : (column : ℕ → X) (row : ℕ) → row < rows_of s → Served none plus s f (with_column f column g.at) row (is_data s f) → column row ≡ h.at f row
  pub true_here : (row : ℕ) → row < rows_of s → Served none plus s f (with_column f (h.at f) g.at) row (is_data s f)

abbrev pub Rebuilds : {S X : Type 0} (view : S → View X) (none : X) (plus : X → X → X) → Shape → S → Quote → List X → Result ℕ Rejected → S → List X → Type 0
Rebuilds view none plus shape s quote work (Ok n) s' work' =
    (rebuild_refusal shape (view s) quote.column quote.count (length work) ≡ None) ×
    Rebuilt none plus shape quote.column (view s) n (view s') work' ×
    Restores none plus shape quote.column (view s) (view s')
Rebuilds view none plus shape s quote work (Err e) s' work' =
    (rebuild_refusal shape (view s) quote.column quote.count (length work) ≡ Some e.refusal) × (e.quote ≡ quote) × (s' ≡ s) × (work' ≡ work)

-- f was rebuilt in two arrays, from g to g' and from h to h'. If their marks are the same and their present columns differ
-- at one place alone, then the rebuilt columns differ exactly if that place is on the reading list
abbrev pub TellsApart : {X : Type 0} → Shape → ℕ → View X → View X → View X → View X → Type 0
TellsApart s f g h g' h' =
    ((d : ℕ) → Column g d → g.lost d ≡ h.lost d) →
    (c row : ℕ) → Inside g c row → g.lost c ≡ false → (g.at c row ≢ h.at c row) →
    ((d y : ℕ) → Inside g d y → g.lost d ≡ false → ((d ≡ c) × (y ≡ row) → ⊥) → g.at d y ≡ h.at d y) →
    ((y : ℕ) × (y < rows_of s) × (g'.at f y ≢ h'.at f y)) ↔ (on_list s f c row ≡ true)

-- two rebuilds with one work area: the checks of the first come first
abbrev pub RebuildsBoth : {S T X : Type 0} (view : S → View X) (other : T → View X) (none : X) (plus : X → X → X) → Shape → S → T → Quote → Quote → List X → Result (ℕ × ℕ) BothRejected → S → T → List X → Type 0
RebuildsBoth view other none plus shape s t p q work (Ok n) s' t' work' =
    (or_else (rebuild_refusal shape (view s) p.column p.count (length work)) (rebuild_refusal shape (other t) q.column q.count (length work)) ≡ None) ×
    Rebuilt none plus shape p.column (view s) n.0 (view s') work' ×
    Rebuilt none plus shape q.column (other t) n.1 (other t') work' ×
    (p.column ≡ q.column → TellsApart shape p.column (view s) (other t) (view s') (other t'))
RebuildsBoth view other none plus shape s t p q work (Err e) s' t' work' =
    (or_else (rebuild_refusal shape (view s) p.column p.count (length work)) (rebuild_refusal shape (other t) q.column q.count (length work)) ≡ Some e.refusal) ×
    (e.first ≡ p) × (e.second ≡ q) × (s' ≡ s) × (t' ≡ t) × (work' ≡ work)

-- One call on an array, as a value: which call it is, what it may do to the array, and what its book hears of it.
use Rattle.std.specs.Prelude.{◌≡◌, ℕ, Bool, true, false, List, length, Some, None, Ok, Err, Option, Result, nat_lt}
use Rattle.code.specs.declared.refusal.Refusal.{Refusal}
use Rattle.code.specs.declared.shape.Shape.{Shape}
use Rattle.store.specs.View.{View, counts_as_lost}
use Rattle.array.specs.Book.{Event, founds, puts, loses, rebuilds, looks, Book, Agrees, Keeps}
use Rattle.array.specs.Lost.{lowest_lost}
use Rattle.updates.specs.Updates.{Puts, Gets}
use Rattle.founding.specs.Found.{Founds}
use Rattle.audit.specs.Audit.{Audits}
use Rattle.recovery.specs.Rebuild.{Loses, Quotes, Rebuilds}
use Rattle.recovery.specs.declared.quotes.Quote.{Quote}
use Rattle.recovery.specs.declared.quotes.Rejected.{Rejected}
use Rattle.runs.specs.declared.calls.Call.{Call}
use Rattle.runs.specs.declared.calls.Call.TheVariants.{Found, Put, Get, Lose, Quote as TakeQuote, Rebuild, Audit, Ask}
use Rattle.runs.specs.declared.calls.Answer.{Answer}
use Rattle.runs.specs.declared.calls.Answer.TheVariants.{Reads, Symbol, Lost, Quoted, Audited, Lowest}
use Rattle.runs.specs.Hands.{Hand, quote_at, with_quote, spent}

-- what calls may change: the store, the quotes in hand and the work area
pub record State (S X : Type 0) : Type 0 where
  pub store : S
  pub hand : Hand
  pub work : List X

abbrev pub state_of : {S X : Type 0} → S → Hand → List X → State S X
state_of store hand work = record { store = store; hand = hand; work = work }

-- what comes of a call; no answer if none was made
abbrev pub OutcomeOf : Type 0 → Type 0
OutcomeOf X = Result (Option (Answer X)) Refusal

-- what comes of it, from what the call itself gave
abbrev pub told : {X A : Type 0} → (A → Answer X) → Result A Refusal → OutcomeOf X
told answer (Ok a) = Ok (Some (answer a))
told answer (Err e) = Err e

abbrev pub told_quote : {X : Type 0} → Quote → Answer X
told_quote quote = Quoted quote.column quote.count

abbrev pub told_rebuild : {X : Type 0} → Result ℕ Rejected → OutcomeOf X
told_rebuild (Ok n) = Ok (Some (Reads n))
told_rebuild (Err e) = Err e.refusal

-- whether a call was made and accepted
abbrev pub accepted : {X : Type 0} → OutcomeOf X → Bool
accepted (Ok (Some a)) = true
accepted (Ok None) = false
accepted (Err e) = false

-- what the book hears of a rebuild from a slot
abbrev pub rebuild_event : {X : Type 0} → Option Quote → Event X
rebuild_event (Some quote) = rebuilds quote.column
rebuild_event None = looks

-- what the book hears of a call that is made in a state
abbrev pub event : {S X : Type 0} (view : S → View X) → State S X → Call X → Event X
event view a Found = founds (view a.store).at
event view a (Put c row x) = puts c row x
event view a (Get c row) = looks
event view a (Lose c) = loses c
event view a (TakeQuote c slot) = looks
event view a (Rebuild slot) = rebuild_event (quote_at a.hand slot)
event view a Audit = looks
event view a Ask = looks

-- a quote goes into a slot, if there is such a slot: g is the store's view
abbrev pub QuotesInto : {X : Type 0} → Bool → Shape → View X → ℕ → ℕ → Hand → OutcomeOf X → Hand → Type 0
QuotesInto true s g c slot hand r hand' = (given : Result Quote Refusal) × (r ≡ told told_quote given) × Quotes s g c given × (hand' ≡ with_quote hand slot given)
QuotesInto false s g c slot hand r hand' = (r ≡ Ok None) × (hand' ≡ hand)

module _ {S X : Type 0} (view : S → View X) (none : X) (plus : X → X → X) (s : Shape) where
  -- a rebuild from a slot, if a quote lies there
  abbrev pub RebuildsFrom : Option Quote → ℕ → State S X → OutcomeOf X → State S X → Type 0
  RebuildsFrom (Some quote) slot a r z =
      (given : Result ℕ Rejected) × (r ≡ told_rebuild given) × Rebuilds view none plus s a.store quote a.work given z.store z.work ×
      (z.hand ≡ spent a.hand slot given)
  RebuildsFrom None slot a r z = (r ≡ Ok None) × (z ≡ a)

  -- from state a r may come of a call and state z be left: just what its own contract allows
  abbrev pub Made : Call X → State S X → OutcomeOf X → State S X → Type 0
  Made Found a r z =
      (given : Result ℕ Refusal) × (r ≡ told Reads given) × Founds view none plus s a.store a.work given z.store z.work ×
      (z.hand ≡ a.hand)
  Made (Put c row x) a r z =
      (given : Result ℕ Refusal) × (r ≡ told Reads given) × Puts view plus s a.store c row x given z.store ×
      (z.hand ≡ a.hand) × (z.work ≡ a.work)
  Made (Get c row) a r z =
      (given : Result X Refusal) × (r ≡ told Symbol given) × Gets view s a.store c row given z.store ×
      (z.hand ≡ a.hand) × (z.work ≡ a.work)
  Made (Lose c) a r z =
      (given : Result (Unit {0}) Refusal) × (r ≡ told (λ u. Lost) given) × Loses view s a.store c given z.store ×
      (z.hand ≡ a.hand) × (z.work ≡ a.work)
  Made (TakeQuote c slot) a r z = QuotesInto (nat_lt slot (length a.hand)) s (view a.store) c slot a.hand r z.hand × (z.store ≡ a.store) × (z.work ≡ a.work)
  Made (Rebuild slot) a r z = RebuildsFrom (quote_at a.hand slot) slot a r z
  Made Audit a r z =
      (given : Result Bool Refusal) × (r ≡ told Audited given) × Audits view none plus s a.store a.work given z.store z.work ×
      (z.hand ≡ a.hand)
  Made Ask a r z = (r ≡ Ok (Some (Lowest (lowest_lost (counts_as_lost (view a.store)) (view a.store).columns)))) × (z ≡ a)

  -- an accepted get answers the data table's symbol, of every book with a table that agrees
  abbrev pub Tells : Call X → State S X → OutcomeOf X → Type 0
  Tells call a r =
      (c row : ℕ) (x : X) → call ≡ Get c row → r ≡ Ok (Some (Symbol x)) →
      (b : Book X) → Agrees none plus s b (view a.store) → (table : ℕ → ℕ → X) → b.table ≡ Some table → x ≡ table c row

  -- one call: what it may do, that it keeps the book, and that a get tells the table's symbol
  pub record Stepped (call : Call X) (a : State S X) (r : OutcomeOf X) (z : State S X) : Type 0 where
    pub made : Made call a r z
    pub keeps : Keeps none plus s (event view a call) (accepted r) (view a.store) (view z.store)
    pub tells : Tells call a r

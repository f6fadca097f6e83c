-- The law over whole runs.
use Rattle.std.specs.Prelude.{◌≡◌, ℕ, zero, suc, ◌+◌, ◌<◌, ◌≤◌, min, List, length, Some, None, Ok, slice_index_or}
use Rattle.code.specs.declared.shape.Shape.{Shape}
use Rattle.store.specs.View.{View}
use Rattle.array.specs.Book.{Book, new_book, fed, Agrees}
use Rattle.runs.specs.declared.calls.Call.{Call}
use Rattle.runs.specs.declared.calls.Call.TheVariants.{Get, Ask}
use Rattle.runs.specs.declared.calls.Answer.TheVariants.{Symbol}
use Rattle.runs.specs.Steps.{State, OutcomeOf, accepted, event, Made}

-- call i, and what came of it
abbrev pub call_at : {X : Type 0} → List (Call X) → ℕ → Call X
call_at calls i = slice_index_or calls i Ask

abbrev pub answer_at : {X : Type 0} → List (OutcomeOf X) → ℕ → OutcomeOf X
answer_at answers i = slice_index_or answers i (Ok None)

module _ {S X : Type 0} (view : S → View X) (none : X) (plus : X → X → X) (s : Shape) (calls : List (Call X)) (answers : List (OutcomeOf X)) where
  -- a book that was taken at point i, after it was fed m calls and whether each was accepted
  abbrev pub book_after : (ℕ → State S X) → ℕ → ℕ → Book X → Book X
  book_after state i zero b = b
  book_after state i (suc m) b = fed s (event view (state (i + m)) (call_at calls (i + m))) (accepted (answer_at answers (i + m))) (book_after state i m b)

  -- the first n calls led from state a to state z through states that each call's own contract allows, and at every point
  -- the books agree: the store's marks are the book's, each present column is the construction's for the book's data
  -- table, and a get answers the table's symbol. This holds of a book that is new at any point, as the array was opened
  -- there or as its first accepted found begins there, and of every other book that agrees at some point.
  pub record Ran (n : ℕ) (a z : State S X) : Type 0 where
    pub state : ℕ → State S X
    pub begins : state 0 ≡ a
    pub ends : state n ≡ z
    pub made : (i : ℕ) → i < n → Made view none plus s (call_at calls i) (state i) (answer_at answers i) (state (i + 1))
    pub from_new : (i m : ℕ) → i + m ≤ n → Agrees none plus s (book_after state i m (new_book (view (state i).store))) (view (state (i + m)).store)
    pub from_any : (i m : ℕ) → i + m ≤ n → (b : Book X) → Agrees none plus s b (view (state i).store) → Agrees none plus s (book_after state i m b) (view (state (i + m)).store)
    pub gets : (i m : ℕ) → i + m < n → (b : Book X) → Agrees none plus s b (view (state i).store) → (c row : ℕ) (x : X) → call_at calls (i + m) ≡ Get c row → answer_at answers (i + m) ≡ Ok (Some (Symbol x)) → (table : ℕ → ℕ → X) → (book_after state i m b).table ≡ Some table → x ≡ table c row

-- as many calls were made as there is room for answers; the places behind them are as they were
pub record Runs {S X : Type 0} (view : S → View X) (none : X) (plus : X → X → X) (s : Shape) (calls : List (Call X)) (before : List (OutcomeOf X)) (n : ℕ) (answers : List (OutcomeOf X)) (a z : State S X) : Type 0 where
  pub all : n ≡ min (length calls) (length before)
  pub ran : Ran view none plus s calls answers n a z
  pub rest : (i : ℕ) → n ≤ i → answer_at answers i ≡ answer_at before i

-- What the steps over a reading list leave.
use Rattle.std.specs.Prelude.{◌≡◌, ℕ, ◌+◌, ◌<◌, ◌≤◌, Bool, true, List, length, Some, None, Ok, Err, Result, ◌≢◌, slice_index_or}
use Rattle.code.specs.declared.refusal.Refusal.{Refusal}
use Rattle.code.specs.declared.shape.Shape.{Shape}
use Rattle.code.specs.Refusals.{or_else}
use Rattle.code.specs.Shapes.{rows_of}
use Rattle.ring.specs.Sums.{sum_to, count}
use Rattle.repair.specs.Lists.{helper, listed, area}
use Rattle.store.specs.View.{View, metered}
use Rattle.recovery.specs.declared.quotes.Quote.{Quote}
use Rattle.recovery.specs.Rebuild.{rebuild_refusal, Rebuilt}

-- the wanted ones of the first n rows of column c stand in its part
pub record Fetched {X : Type 0} (none : X) (g : View X) (wanted : ℕ → Bool) (c n m : ℕ) (h : View X) (part : List X) : Type 0 where
  pub reads : m ≡ count n wanted
  pub meter : h ≡ metered m g
  pub here : (row : ℕ) → row < n → wanted row ≡ true → slice_index_or part row none ≡ g.at c row

-- the listed rows of column c stand in its part of the work area, and the other helpers' parts are as they were
pub record Filled {X : Type 0} (none : X) (s : Shape) (f : ℕ) (g : View X) (c : ℕ) (before : List X) (m : ℕ) (h : View X) (after : List X) : Type 0 where
  pub reads : m ≡ count (rows_of s) (listed s f c)
  pub meter : h ≡ metered m g
  pub here : (row : ℕ) → row < rows_of s → listed s f c row ≡ true → area none s f after c row ≡ g.at c row
  pub kept : (d row : ℕ) → (d ≢ c) → helper s f d ≡ true → row < rows_of s → area none s f after d row ≡ area none s f before d row

-- the listed places of the first n columns stand in the work area
pub record Collected {X : Type 0} (none : X) (s : Shape) (f : ℕ) (g : View X) (n m : ℕ) (h : View X) (after : List X) : Type 0 where
  pub reads : m ≡ sum_to 0 ◌+◌ n (λ c. count (rows_of s) (listed s f (c + 1)))
  pub meter : h ≡ metered m g
  pub here : (c row : ℕ) → c ≤ n → row < rows_of s → listed s f c row ≡ true → area none s f after c row ≡ g.at c row

-- a rebuild with the quote lent: what it answers and leaves
abbrev pub Spends : {S X : Type 0} (view : S → View X) (none : X) (plus : X → X → X) → Shape → S → Quote → List X → Result ℕ Refusal → S → List X → Type 0
Spends view none plus s t quote work (Ok n) t' work' = (rebuild_refusal s (view t) quote.column quote.count (length work) ≡ None) × Rebuilt none plus s quote.column (view t) n (view t') work'
Spends view none plus s t quote work (Err e) t' work' = (rebuild_refusal s (view t) quote.column quote.count (length work) ≡ Some e) × (t' ≡ t) × (work' ≡ work)

-- two such rebuilds in two arrays, which share the work area
abbrev pub SpendsBoth : {S T X : Type 0} (view : S → View X) (other : T → View X) (none : X) (plus : X → X → X) → Shape → S → T → Quote → Quote → List X → Result (ℕ × ℕ) Refusal → S → T → List X → Type 0
SpendsBoth view other none plus shape s t p q work (Ok n) s' t' work' =
    (rebuild_refusal shape (view s) p.column p.count (length work) ≡ None) ×
    (rebuild_refusal shape (other t) q.column q.count (length work) ≡ None) ×
    Rebuilt none plus shape p.column (view s) n.0 (view s') work' ×
    Rebuilt none plus shape q.column (other t) n.1 (other t') work'
SpendsBoth view other none plus shape s t p q work (Err e) s' t' work' =
    (or_else (rebuild_refusal shape (view s) p.column p.count (length work)) (rebuild_refusal shape (other t) q.column q.count (length work)) ≡ Some e) ×
    (s' ≡ s) × (t' ≡ t) × (work' ≡ work)

-- What the comparing steps of an audit answer and leave.
use Rattle.std.specs.Prelude.{◌≡◌, ℕ, ◌+◌, ◌*◌, ◌<◌, ◌≤◌, Bool, true}
use Rattle.store.specs.View.{View, metered}

-- the first n rows of column c were read, and the answer is whether they are F's
pub record Compared {X : Type 0} (g : View X) (c n : ℕ) (F : ℕ → X) (answer : Bool) (h : View X) : Type 0 where
  pub meter : h ≡ metered n g
  pub so : answer ≡ true → (row : ℕ) → row < n → g.at c row ≡ F row
  pub if_so : ((row : ℕ) → row < n → g.at c row ≡ F row) → answer ≡ true

-- the first m rows of columns k + 1 to k + n were read, and the answer is whether they are F's
pub record Matched {X : Type 0} (g : View X) (k m n : ℕ) (F : ℕ → ℕ → X) (answer : Bool) (h : View X) : Type 0 where
  pub meter : h ≡ metered (n * m) g
  pub so : answer ≡ true → (j row : ℕ) → 1 ≤ j → j ≤ n → row < m → g.at (k + j) row ≡ F j row
  pub if_so : ((j row : ℕ) → 1 ≤ j → j ≤ n → row < m → g.at (k + j) row ≡ F j row) → answer ≡ true

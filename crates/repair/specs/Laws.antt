-- What holds of the rebuilding of every data column f of every shape; the last law is of the parity columns.
use Rattle.std.specs.Prelude.{◌≡◌, ℕ, ◌<◌, ◌≤◌, true, ◌↔◌, ◌≢◌}
use Rattle.ring.specs.Sums.{BooleanGroup}
use Rattle.code.specs.declared.shape.Shape.{Shape}
use Rattle.code.specs.Shapes.{parities_of, helpers_of, rows_of}
use Rattle.code.specs.Parities.{parity_of, Encoded}
use Rattle.repair.specs.Rows.{rebuilt, SumHolds, with_column, Needs}
use Rattle.repair.specs.Lists.{helper, listed, size, formula, slot}

-- the reading list is just what the rows need
abbrev pub NeededIsListed : Type 0
NeededIsListed =
    (s : Shape) (f c r : ℕ) → 1 ≤ f → f ≤ s.k →
    ((row : ℕ) × (row < rows_of s) × Needs s f row c r) ↔ (listed s f c r ≡ true)

abbrev pub SizeIsFormula : Type 0
SizeIsFormula = (s : Shape) (f : ℕ) → 1 ≤ f → f ≤ s.k → size s f ≡ formula s f

-- each helper has a part of the work area to itself
abbrev pub PartsAreApart : Type 0
PartsAreApart =
    (s : Shape) (f c e : ℕ) → 1 ≤ f → f ≤ s.k → helper s f c ≡ true → helper s f e ≡ true →
    (slot s f c < helpers_of s) × (slot s f c ≡ slot s f e → c ≡ e)

-- a lost column of an encoded array comes back
abbrev pub GivesBack : Type 0 → Type 0
GivesBack X =
    (none : X) (plus : X → X → X) → BooleanGroup none plus → (s : Shape) (f : ℕ) → 1 ≤ f → f ≤ s.k →
    (at : ℕ → ℕ → X) → Encoded none plus s at → (row : ℕ) → row < rows_of s → rebuilt none plus s f at row ≡ at f row

-- over any array, a row of f makes the sum that serves it true just if it is the rebuilt one
abbrev pub OnlySolution : Type 0 → Type 0
OnlySolution X =
    (none : X) (plus : X → X → X) → BooleanGroup none plus → (s : Shape) (f : ℕ) → 1 ≤ f → f ≤ s.k →
    (at : ℕ → ℕ → X) (column : ℕ → X) (row : ℕ) → row < rows_of s →
    SumHolds none plus s f (with_column f column at) row ↔ (column row ≡ rebuilt none plus s f at row)

-- what is rebuilt depends on the listed places alone
abbrev pub DependsOnListed : Type 0 → Type 0
DependsOnListed X =
    (none : X) (plus : X → X → X) (s : Shape) (f : ℕ) → 1 ≤ f → f ≤ s.k →
    (A B : ℕ → ℕ → X) → ((c r : ℕ) → listed s f c r ≡ true → A c r ≡ B c r) →
    (row : ℕ) → row < rows_of s → rebuilt none plus s f A row ≡ rebuilt none plus s f B row

-- arrays that differ at one place alone of the helpers' rows give different columns just if that place is listed
abbrev pub DiffersExactly : Type 0 → Type 0
DiffersExactly X =
    (none : X) (plus : X → X → X) → BooleanGroup none plus → (s : Shape) (f c r : ℕ) → 1 ≤ f → f ≤ s.k →
    (A B : ℕ → ℕ → X) → (A c r ≢ B c r) →
    ((e y : ℕ) → helper s f e ≡ true → y < rows_of s → ((e ≡ c) × (y ≡ r) → ⊥) → A e y ≡ B e y) →
    ((row : ℕ) × (row < rows_of s) × (rebuilt none plus s f A row ≢ rebuilt none plus s f B row)) ↔ (listed s f c r ≡ true)

-- arrays that differ at one data place alone give different rows of every parity column
abbrev pub ParityDiffers : Type 0 → Type 0
ParityDiffers X =
    (none : X) (plus : X → X → X) → BooleanGroup none plus → (s : Shape) (j c r : ℕ) → 1 ≤ j → j ≤ parities_of s → 1 ≤ c → c ≤ s.k → r < rows_of s →
    (A B : ℕ → ℕ → X) → (A c r ≢ B c r) →
    ((e y : ℕ) → 1 ≤ e → e ≤ s.k → y < rows_of s → ((e ≡ c) × (y ≡ r) → ⊥) → A e y ≡ B e y) →
    (row : ℕ) × (row < rows_of s) × (parity_of none plus s A j row ≢ parity_of none plus s B j row)

-- What passed checks say, and what is refused nowhere.
use Rattle.std.proofs.Common.{◌≡◌, ℕ, ◌+◌, ◌-◌, ◌<◌, ◌≤◌, true, false, not, ◌||◌, ltb, List, length, None, Ok, Err, Result, ap, mul-le-mul_right, arith}
use Rattle.std.proofs.lemmas.Bool.{le-ltb}
use Rattle.std.proofs.lemmas.Bool.Decides.{nat_tests}
use Rattle.code.specs.declared.refusal.Refusal.{Refusal}
use Rattle.code.specs.declared.shape.Shape.{Shape}
use Rattle.code.specs.Shapes.{parities_of, columns_of, rows_of}
use Rattle.code.specs.Parities.{parity_of}
use Rattle.code.specs.Places.{symbols_of}
use Rattle.store.specs.View.{View, counts_as_lost}
use Rattle.store.specs.Calls.{Admits}
use Rattle.array.specs.Checks.{fits, work_of}
use Rattle.array.specs.Lost.{lowest_lost, lost_refusal}
use Rattle.array.specs.Steps.{Stepped}
use Rattle.array.proofs.Checked.{wide, long, roomy, is_present, passed, is_so, none_told}
use Rattle.array.proofs.Lowest.{both_none, none_lost}
use Rattle.columns.specs.Columns.{data_of, found_refusal, parity_refusal, parity_rows, WritesParity}
use Rattle.columns.specs.Progress.{Refilled}
use Rattle.columns.proofs.Turns.{renewed}

-- the data columns have room in the work area
pub data_fit : (s : Shape) → data_of s ≤ work_of s
data_fit s = mul-le-mul_right (rows_of s) (omega arith)

pub record Loadable {X : Type 0} (s : Shape) (g : View X) (room : ℕ) : Type 0 where
  pub fit : fits s g ≡ true
  pub present : (c : ℕ) → 1 ≤ c → c ≤ s.k → g.lost c ≡ false
  pub room_is : work_of s ≤ room

pub loadable : {X : Type 0} (s : Shape) (g : View X) (room : ℕ) → found_refusal s g room ≡ None → Loadable s g room
loadable s g room h =
    let (fit, later) = passed (not (fits s g)) _ _ h in
    let (told, roomy-is) = both_none (lost_refusal (lowest_lost (counts_as_lost g) s.k)) _ later in
    record { fit = is_so (fits s g) fit; present = λ c one last. is_present g c (none_lost (counts_as_lost g) s.k (none_told _ told) c one last); room_is = roomy s room roomy-is }

pub passes_parity : {X : Type 0} (s : Shape) (g : View X) (c cells : ℕ) → fits s g ≡ true → s.k < c → c ≤ columns_of s → data_of s ≤ cells → parity_refusal s g c cells ≡ None
passes_parity s g c cells fit past last room = rw (fit, inside, le-ltb cells (data_of s) room)
  where
    inside : (ltb c (s.k + 1) || ltb (columns_of s) c) ≡ false
    inside = grind (arith, nat_tests)

-- the last step of writing a parity column; the rule's shape and the column are told by equations
pub written :
    {S X U : Type 0} (view : S → View X) (none : X) (plus : X → X → X) (shape a : Shape) (s s₁ s₂ : S) (c j : ℕ) (cells : List X) (r : Result U Refusal) →
    a ≡ shape → c ≡ shape.k + j → (1 ≤ j) × (j ≤ parities_of a) → fits shape (view s) ≡ true → data_of shape ≤ length cells →
    Refilled (view s) (a.k + j) (rows_of a) (parity_of none plus a (symbols_of none (rows_of a) cells) j) (view s₁) → Stepped (λ answer. Admits view s₁ c answer s₂) r →
    WritesParity view none plus shape s c cells r s₂
written view none plus shape a s s₁ s₂ c j cells (Ok u) is at among fit room R A = (
  passes_parity shape (view s) c (length cells) fit (omega arith) last room,
  renewed _ _ _ _ _ _ (omega arith, omega (arith, last, wide shape (view s) fit)) (omega (arith, long shape (view s) fit)) rows A.1,
)
  where
    last : c ≤ columns_of shape
    last = omega (arith, ap parities_of is, among.1)

    rows : Refilled (view s) c (rows_of shape) (parity_rows none plus shape cells c) (view s₁)
    rows = let back : c - shape.k ≡ j = omega arith in rw (back, at, ← is) R
written view none plus shape a s s₁ s₂ c j cells (Err e) is at among fit room R (cause, A, told) = absurd (A.0 (omega arith, omega (arith, R.columns, wide shape (view s) fit, ap parities_of is, among.1)))

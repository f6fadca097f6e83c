-- What a plan answers.
use Rattle.std.specs.Prelude.{◌≡◌, ℕ, ◌*◌, ◌≤◌, cond, ◌&&◌, List, length, Some, None, Option, nat_le, nat_lt}
use Rattle.code.specs.declared.shape.Shape.{Shape}
use Rattle.code.specs.Shapes.{helpers_of, rows_of}
use Rattle.repair.specs.declared.plan.Plan.{Plan}
use Rattle.repair.specs.Rows.{rebuilt}
use Rattle.repair.specs.Lists.{helper, slot, area}

-- the plan of f, if f is a data column
abbrev pub PlanOf : Shape → ℕ → Option Plan → Type 0
PlanOf s f (Some plan) = (plan.shape ≡ s) × (plan.lost ≡ f)
PlanOf s f None = (1 ≤ f) × (f ≤ s.k) → ⊥

-- where the part of a helper begins in the work area
abbrev pub start_of : Shape → ℕ → ℕ → Option ℕ
start_of s f c = cond (helper s f c) (Some (slot s f c * rows_of s)) None

-- a row of f from the helpers' parts; none if the work area is too small or there is no such row
abbrev pub row_from : {X : Type 0} (none : X) (plus : X → X → X) → Shape → ℕ → List X → ℕ → Option X
row_from none plus s f work row = cond (nat_le (helpers_of s * rows_of s) (length work) && nat_lt row (rows_of s)) (Some (rebuilt none plus s f (area none s f work) row)) None

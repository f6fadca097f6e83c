-- Lost columns among the first ones.
use Rattle.std.specs.Prelude.{ℕ, zero, suc, ◌+◌, Bool, cond, Some, None, Option}
use Rattle.code.specs.Refusals.{or_else}
use Rattle.code.specs.declared.refusal.Refusal.{Refusal}
use Rattle.code.specs.declared.refusal.Refusal.TheVariants.{ColumnLost}

-- the lowest lost one of the columns 1 to n, if one is
abbrev pub lowest_lost : (ℕ → Bool) → ℕ → Option ℕ
lowest_lost lost zero = None
lowest_lost lost (suc n) = or_else (lowest_lost lost n) (cond (lost (n + 1)) (Some (n + 1)) None)

abbrev pub lost_refusal : Option ℕ → Option Refusal
lost_refusal (Some c) = Some (ColumnLost c)
lost_refusal None = None

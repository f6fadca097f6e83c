use Rattle.std.proofs.Common.{◌≡◌, ℕ, ◌≤◌}
use Rattle.runs.specs.Law.{answer_at}
use Rattle.runs.specs.Steps.{state_of}
use Rattle.runs.proofs.Runs.{Chain}
use Rattle.runs.proofs.running.run.Given as goal

abbrev pub invariant-loop-i : goal.invariant-loop-i
invariant-loop-i g l =
    Chain g.S.ColumnStore.view g.X.Symbol.zero g.X.Symbol.plus l.array.shape l.calls l.answers l.i (state_of l.initial.store l.initial.hand l.initial.work) (state_of l.store l.hand l.work) ×
    ((j : ℕ) → l.i ≤ j → answer_at l.answers j ≡ answer_at l.initial.answers j)

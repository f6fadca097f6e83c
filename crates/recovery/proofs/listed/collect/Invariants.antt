use Rattle.std.proofs.Common.{◌-◌, ◌*◌, ◌≤◌}
use Rattle.recovery.specs.Progress.{Collected}
use Rattle.recovery.proofs.listed.collect.Given as goal

abbrev pub invariant-loop-column : goal.invariant-loop-column
invariant-loop-column g l =
    (l.count ≤ (l.column - 1) * 4096) ×
    Collected g.X.Symbol.zero l.plan.shape l.plan.lost (g.S.ColumnStore.view l.initial.store) (l.column - 1) l.count (g.S.ColumnStore.view l.store) l.work

use Rattle.std.proofs.Common.{◌≤◌}
use Rattle.repair.specs.Lists.{listed}
use Rattle.recovery.specs.Progress.{Fetched}
use Rattle.recovery.proofs.listed.fetch.Given as goal

abbrev pub invariant-loop-row : goal.invariant-loop-row
invariant-loop-row g l =
    (l.count ≤ l.row) ×
    Fetched g.X.Symbol.zero (g.S.ColumnStore.view l.initial.store) (listed l.plan.shape l.plan.lost l.column) l.column l.row l.count (g.S.ColumnStore.view l.store) l.part

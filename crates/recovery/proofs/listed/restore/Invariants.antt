use Rattle.repair.specs.Lists.{area}
use Rattle.repair.specs.Rows.{rebuilt}
use Rattle.columns.specs.Progress.{Refilled}
use Rattle.recovery.proofs.listed.restore.Given as goal

abbrev pub invariant-loop-row : goal.invariant-loop-row
invariant-loop-row g l =
    let x = g.X.Symbol in
    Refilled (g.S.ColumnStore.view l.initial.store) l.plan.lost l.row (rebuilt x.zero x.plus l.plan.shape l.plan.lost (area x.zero l.plan.shape l.plan.lost l.work)) (g.S.ColumnStore.view l.store)

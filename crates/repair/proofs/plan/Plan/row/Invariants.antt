use Rattle.std.proofs.Common.{◌≡◌}
use Rattle.ring.specs.Sums.{sum_to}
use Rattle.repair.specs.Rows.{addend}
use Rattle.repair.specs.Lists.{area}
use Rattle.repair.proofs.plan.Plan.row.Given as goal

abbrev pub invariant-loop-i : goal.invariant-loop-i
invariant-loop-i g l =
    let x = g.X.Symbol in
    let s = l.self.shape in
    let f = l.self.lost in
    l.sum ≡ sum_to x.zero x.plus l.i (addend x.zero x.plus s f (area x.zero s f l.work) l.row)

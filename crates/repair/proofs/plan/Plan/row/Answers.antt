use Rattle.std.proofs.Common.{◌∙◌, ap₂, add-one, arith}
use Rattle.repair.specs.Lists.{area}
use Rattle.repair.proofs.Planned.{addend_is, serving_helps}
use Rattle.repair.proofs.plan.Plan.row.Goals as goal

pub loop-i-preserved : goal.loop-i-preserved
loop-i-preserved g c =
    let u = c.args.self.now in
    let none = g.X.Symbol.zero in
    let plus = g.X.Symbol.plus in
    rw (add-one c.loop-i.i)
    (c.add-sum.ensures
    ∙ ap₂ plus c.loop-i.invariant (c.term.ensures ∙ addend_is u none plus (area none u.shape u.lost c.args.work.now) c.args.row c.loop-i.i c.gap-gap.result c.position-position.result (omega arith) c.gap-gap.ensures.is c.position-position.ensures.is))

pub symbol-requires-clause-helper : goal.symbol-requires-clause-helper
symbol-requires-clause-helper g c = serving_helps c.args.self.now c.args.row c.parity.result c.parity.ensures

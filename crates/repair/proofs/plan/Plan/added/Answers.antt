use Rattle.std.proofs.Common.{arith}
use Rattle.repair.proofs.Planned.{round_pos, round_low, window_low}
use Rattle.repair.proofs.plan.Plan.added.Goals as goal

pub nonzero_rem-result : goal.nonzero_rem-result
nonzero_rem-result c = round_pos c.args.self.now

pub overflow_mul-result : goal.overflow_mul-result
overflow_mul-result c = omega (arith, round_low c.args.self.now, window_low c.args.self.now c.args.column c.requires c.if-column-self.false c.near.result c.near.ensures.is c.near.ensures.low c.if-near-self.false)

pub overflow_sub-result-3 : goal.overflow_sub-result-3
overflow_sub-result-3 c = window_low c.args.self.now c.args.column c.requires c.if-column-self.false c.near.result c.near.ensures.is c.near.ensures.low c.if-near-self.false

use Rattle.std.proofs.Common.{arith}
use Rattle.repair.proofs.Planned.{steps_low, positions_low}
use Rattle.repair.proofs.plan.Plan.term.Goals as goal

pub overflow_mul-from : goal.overflow_mul-from
overflow_mul-from g c = omega (arith, steps_low c.args.self.now c.args.i c.args.gap c.requires.column c.requires.gap, positions_low c.args.self.now)

pub overflow_sub-from : goal.overflow_sub-from
overflow_sub-from g c = steps_low c.args.self.now c.args.i c.args.gap c.requires.column c.requires.gap

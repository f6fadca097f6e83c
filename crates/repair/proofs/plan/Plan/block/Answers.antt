use Rattle.repair.proofs.Planned.{round_pos, span_pos, block_low}
use Rattle.repair.proofs.plan.Plan.block.Goals as goal

pub nonzero_rem-result : goal.nonzero_rem-result
nonzero_rem-result c = round_pos c.args.self.now

pub nonzero_div-result : goal.nonzero_div-result
nonzero_div-result c = span_pos c.args.self.now

pub returns-clause-low : goal.returns-clause-low
returns-clause-low c = block_low c.args.self.now c.args.row

use Rattle.repair.proofs.Planned.{round_pos}
use Rattle.repair.proofs.plan.Plan.listed.Goals as goal

pub nonzero_rem-row : goal.nonzero_rem-row
nonzero_rem-row c = round_pos c.args.self.now

use Rattle.repair.proofs.Bounds.{round_pos, count_is, count_low}
use Rattle.repair.proofs.plan.Plan.count.Goals as goal

pub nonzero_div-result-2 : goal.nonzero_div-result-2
nonzero_div-result-2 c = let u = c.args.self.now in rw u.round_is (round_pos u.shape u.lost u.is_data.0 u.is_data.1)

pub overflow_sub-result : goal.overflow_sub-result
overflow_sub-result c = let u = c.args.self.now in rw (u.round_is, u.rows_are, c.helpers.ensures) (count_low u.shape u.lost u.is_data.0 u.is_data.1)

pub returns : goal.returns
returns c = let u = c.args.self.now in rw (u.round_is, u.rows_are, c.helpers.ensures) (count_is u.shape u.lost u.is_data.0 u.is_data.1)

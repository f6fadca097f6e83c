use Rattle.std.proofs.Common.{◌∙◌, arith, rules}
use Rattle.repair.proofs.Bounds.{round_low, steps_are, span_at, round_at}
use Rattle.repair.proofs.plan.Plan.of.Goals as goal

pub overflow_mul-result : goal.overflow_mul-result
overflow_mul-result c =
    let (shape, parity) = c.in_ok-of.ensures in
    let are = steps_are c.args.shape c.args.lost (omega arith) (omega arith) c.in_ok-of.field-0 shape (parity ∙ c.unit_parity.ensures) c.shifts-steps.result c.shifts-steps.ensures.are in
    omega (arith, round_low c.args.shape c.args.lost (omega arith) (omega arith), round_at c.args.shape c.args.lost (omega arith) (omega arith) c.shifts-steps.result are)

pub invariant_of-result : goal.invariant_of-result
invariant_of-result c =
    let (shape, parity) = c.in_ok-of.ensures in
    let are = steps_are c.args.shape c.args.lost (omega arith) (omega arith) c.in_ok-of.field-0 shape (parity ∙ c.unit_parity.ensures) c.shifts-steps.result c.shifts-steps.ensures.are in
    let span = span_at c.args.shape c.args.lost (omega arith) (omega arith) c.shifts-steps.result are in
    let round = round_at c.args.shape c.args.lost (omega arith) (omega arith) c.shifts-steps.result are in
    search rules

use Rattle.std.proofs.Common.{◌∙◌}
use Rattle.sums.proofs.Steps.{row_is, extra_is}
use Rattle.sums.proofs.position.at.Goals as goal

pub returns-then-position-rows : goal.returns-then-position-rows
returns-then-position-rows g c = λ b whole. row_is g.X.Symbol.zero g.X.Symbol.plus c.args.column.now c.args.classes b whole c.args.position c.if-position-rows.true c.index-column-position.result c.index-column-position.is

pub returns-else-position-rows : goal.returns-else-position-rows
returns-else-position-rows g c = λ b whole. c.class_sum.ensures b whole ∙ extra_is g.X.Symbol.zero g.X.Symbol.plus c.args.column.now c.args.classes b whole c.args.position c.if-position-rows.false

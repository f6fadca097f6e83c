use Rattle.std.proofs.Common.{is_some, ap, ◌∙◌}
use Rattle.frames.proofs.Refused.{some_if}
use Rattle.frames.proofs.frame.are_digits.Goals as goal

pub returns : goal.returns
returns g c = c.is_some.ensures ∙ ap is_some c.read_digits.ensures ∙ some_if _ _

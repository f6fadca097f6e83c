use Rattle.repair.proofs.Size.{size_is_formula}
use Rattle.repair.proofs.size_is_formula.Goals as goal

pub returns : goal.returns
returns c = size_is_formula

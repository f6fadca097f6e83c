use Rattle.repair.proofs.Solves.{only_solution}
use Rattle.repair.proofs.only_solution.Goals as goal

pub returns : goal.returns
returns g c = only_solution

use Rattle.repair.proofs.Solves.{gives_back}
use Rattle.repair.proofs.gives_back.Goals as goal

pub returns : goal.returns
returns g c = gives_back

use Rattle.repair.proofs.Depends.{depends}
use Rattle.repair.proofs.depends_on_listed.Goals as goal

pub returns : goal.returns
returns g c = depends

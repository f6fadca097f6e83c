use Rattle.repair.proofs.Depends.{differs}
use Rattle.repair.proofs.differs_exactly.Goals as goal

pub returns : goal.returns
returns g c = differs

use Rattle.repair.proofs.Shows.{parity_differs}
use Rattle.repair.proofs.parity_differs.Goals as goal

pub returns : goal.returns
returns g c = parity_differs

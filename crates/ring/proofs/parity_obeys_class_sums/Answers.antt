use Rattle.ring.proofs.Classes.{parity_extends}
use Rattle.ring.proofs.parity_obeys_class_sums.Goals as goal

pub returns : goal.returns
returns g c = parity_extends

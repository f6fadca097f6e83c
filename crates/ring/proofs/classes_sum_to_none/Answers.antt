use Rattle.ring.proofs.Classes.{class_none}
use Rattle.ring.proofs.classes_sum_to_none.Goals as goal

pub returns : goal.returns
returns g c = class_none

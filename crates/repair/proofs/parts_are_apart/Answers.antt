use Rattle.repair.proofs.Slots.{apart}
use Rattle.repair.proofs.parts_are_apart.Goals as goal

pub returns : goal.returns
returns c = apart

use Rattle.repair.proofs.Listed.{needed_is_listed}
use Rattle.repair.proofs.needed_is_listed.Goals as goal

pub returns : goal.returns
returns c = needed_is_listed

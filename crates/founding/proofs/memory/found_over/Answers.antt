use Rattle.std.proofs.Common.{rules}
use Rattle.founding.proofs.Owner.{owned_as}
use Rattle.founding.proofs.memory.found_over.Goals as goal

pub returns : goal.returns
returns g c = search (rules, owned_as)

use Rattle.std.proofs.Common.{rules}
use Rattle.code.proofs.Bounds.{shift_low}
use Rattle.updates.proofs.places.Place.positions.Goals as goal

pub overflow_add-result : goal.overflow_add-result
overflow_add-result c = search (rules, shift_low)

pub overflow_add-result-2 : goal.overflow_add-result-2
overflow_add-result-2 c = search (rules, shift_low)

use Rattle.ring.proofs.Classes.{keeps_classes}
use Rattle.ring.proofs.shifts_keep_classes.Goals as goal

pub returns : goal.returns
returns c = keeps_classes

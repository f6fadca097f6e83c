use Rattle.std.proofs.Common.{rules}
use Rattle.columns.proofs.Turns.{gathered_more}
use Rattle.columns.proofs.loading.gather.Goals as goal

pub loop-c-preserved : goal.loop-c-preserved
loop-c-preserved g c = gathered_more _ _ _ _ _ _ _ _ _ _ (search rules) (search rules) (search rules) c.loop-c.invariant c.in_ok-load_column.ensures

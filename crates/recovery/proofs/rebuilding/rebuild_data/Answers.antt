use Rattle.std.proofs.Common.{subst}
use Rattle.store.specs.View.{Admitted}
use Rattle.recovery.proofs.Recovered.{rebuilt_data}
use Rattle.recovery.proofs.rebuilding.rebuild_data.Goals as goal

pub returns : goal.returns
returns g c =
    let view = g.S.ColumnStore.view in
    let u = c.args.plan.now in
    rebuilt_data _ _ _ u.lost u.is_data.0 u.is_data.1 _ _ _ _ _ _ _ c.requires.fits c.in_ok-count.ensures c.in_ok-restore.ensures
    (subst (λ f. Admitted (view c.restore.new.store) f (view c.admit.new.store)) c.lost.ensures c.in_ok-admit.ensures.1)
    c.clear.ensures

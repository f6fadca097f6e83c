use Rattle.std.proofs.Common.{arith, subst}
use Rattle.store.specs.View.{Written}
use Rattle.columns.proofs.Turns.{refilled_more}
use Rattle.recovery.proofs.Reading.{row_is}
use Rattle.recovery.proofs.listed.restore.Goals as goal

pub loop-row-preserved : goal.loop-row-preserved
loop-row-preserved g c =
    let view = g.S.ColumnStore.view in
    let u = c.args.plan.now in
    refilled_more _ _ _ _ _ _ _ c.requires.column (omega (arith, c.requires.rows)) c.loop-row.invariant
    (row_is g.X.Symbol.zero u.shape u.lost u.is_data.0 u.is_data.1 g.X.Symbol.plus _ _ _ _ c.row.ensures c.unwrap-symbol.ensures c.requires.room (omega arith))
    (subst (λ f. Written (view c.loop-row.store) f c.loop-row.row c.unwrap-symbol.result (view c.write.new.store)) c.lost.ensures c.in_ok-write.ensures.1)

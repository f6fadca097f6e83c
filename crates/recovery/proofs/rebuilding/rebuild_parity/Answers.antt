use Rattle.std.proofs.Common.{ap, arith}
use Rattle.store.specs.View.{View}
use Rattle.array.proofs.Checked.{still_fits, not_both}
use Rattle.columns.proofs.Passed.{loadable, data_fit, passes_parity}
use Rattle.recovery.proofs.Recovered.{rebuilt_parity}
use Rattle.recovery.proofs.rebuilding.rebuild_parity.Goals as goal

pub returns-in_err-write_parity : goal.returns-in_err-write_parity
returns-in_err-write_parity g c =
    let s = c.args.shape in
    let v = g.S.ColumnStore.view c.args.store.now in
    let w = g.S.ColumnStore.view c.load_data.new.store in
    let a = loadable s v _ c.requires.loadable in
    let e = c.in_ok-load_data.ensures.1.meter in
    let fit = still_fits s v w a.fit (ap (λ (x : View _). x.columns) e) (ap (λ (x : View _). x.rows) e) in
    absurd (not_both _ _ (passes_parity s w c.args.lost _ fit c.requires.lost.0 c.requires.lost.1 (omega (arith, data_fit s, a.room_is))) c.in_err-write_parity.ensures.0)

pub returns : goal.returns
returns g c =
    let view = g.S.ColumnStore.view in
    rebuilt_parity g.X.Symbol.zero g.X.Symbol.plus c.args.shape c.args.lost (view c.args.store.now) (view c.load_data.new.store) (view c.write_parity.new.store) c.rows.result c.args.work.now c.load_data.new.work c.clear.new.work c.requires.lost.0 c.rows.ensures c.in_ok-load_data.ensures.1 c.in_ok-write_parity.ensures.1 c.clear.ensures

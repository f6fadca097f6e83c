use Rattle.std.proofs.Common.{◌*◌, Ok}
use Rattle.founding.proofs.Books.{founds_keep}
use Rattle.founding.proofs.Together.{founded}
use Rattle.founding.proofs.founding.found.Goals as goal

pub returns : goal.returns
returns g c =
    let s = c.args.array.now.shape in
    let view = g.S.ColumnStore.view in
    let (accepted, G) = c.in_ok-load_data.ensures in
    let F = founded g.X.Symbol.zero g.X.Symbol.plus g.met.X.Symbol.group s (view c.args.store.now) (view c.load_data.new.store) (view c.write_parities.new.store) c.args.work.now c.load_data.new.work c.clear.new.work c.rows.result _ c.rows.ensures accepted G c.in_ok-write_parities.ensures c.clear.ensures in
    record { answer = (accepted, F); book = founds_keep g.X.Symbol.zero g.X.Symbol.plus s view c.args.store.now c.write_parities.new.store c.args.work.now c.clear.new.work (Ok (s.k * c.rows.result)) (accepted, F) }

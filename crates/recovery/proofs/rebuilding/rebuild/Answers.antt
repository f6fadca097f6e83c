use Rattle.std.proofs.Common.{rules}
use Rattle.recovery.proofs.Spent.{spent}
use Rattle.recovery.proofs.rebuilding.rebuild.Goals as goal

pub returns : goal.returns
returns g c =
    let (answer, book) = spent g.S.ColumnStore.view g.X.Symbol.zero g.X.Symbol.plus g.met.X.Symbol.group c.args.array.now.shape c.args.store.now c.spend.new.store c.args.quote c.args.work.now c.spend.new.work c.spend.result c.spend.ensures c.map_err.result (search rules) in
    record { answer = answer; book = book }

use Rattle.std.proofs.Common.{rules}
use Rattle.recovery.proofs.Spent.{spent_both}
use Rattle.recovery.proofs.both.rebuild_both.Goals as goal

pub returns : goal.returns
returns g c =
    let (answer, book, other_book) = spent_both g.S.ColumnStore.view g.X.Symbol.zero g.X.Symbol.plus g.met.X.Symbol.group c.args.array.now.shape g.T.ColumnStore.view c.args.store.now c.spend_both.new.store c.args.other.now c.spend_both.new.other c.args.first c.args.second c.args.work.now c.spend_both.new.work c.spend_both.result c.spend_both.ensures c.map_err.result (search rules) in
    record { answer = answer; book = book; other_book = other_book }

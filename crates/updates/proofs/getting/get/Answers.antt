use Rattle.updates.proofs.Books.{got}
use Rattle.updates.proofs.getting.get.Goals as goal

pub returns-clause-table : goal.returns-clause-table
returns-clause-table g c = got g.X.Symbol.zero g.X.Symbol.plus c.args.array.now.shape g.S.ColumnStore.view _ _ c.args.column c.args.row c.read.result c.in_ok-check_place.ensures.passed c.read.ensures

use Rattle.updates.proofs.Books.{was_put}
use Rattle.updates.proofs.putting.put.Goals as goal

pub returns-clause-book : goal.returns-clause-book
returns-clause-book g c = was_put g.X.Symbol.zero g.X.Symbol.plus c.args.array.now.shape g.met.X.Symbol.group _ _ _ _ _ _ _ _ _ c.in_ok-place.ensures.place c.in_ok-place.ensures.passed c.replace.ensures

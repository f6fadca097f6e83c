use Rattle.std.proofs.Common.{arith}
use Rattle.code.specs.Shapes.{parities_of}
use Rattle.updates.proofs.Carries.{put_leaves, carried_low}
use Rattle.updates.proofs.places.Place.replace.Goals as goal

pub overflow_add-result : goal.overflow_add-result
overflow_add-result g c =
    let s = c.args.self.shape in
    omega (arith, c.in_ok-rewritten.ensures.reads, carried_low s (g.S.ColumnStore.view c.write.new.store) c.args.self.column c.args.self.row (parities_of s))

pub returns : goal.returns
returns g c =
    put_leaves g.X.Symbol.plus c.args.self.shape c.args.self.column c.args.self.row c.args.symbol _ _ _ _ _ _ _ c.requires.fits c.args.self.data_column.0 c.args.self.data_column.1 c.args.self.stored
    c.in_ok-old.ensures.2 c.add.ensures c.in_ok-old.ensures.3 c.in_ok-write.ensures.1 c.in_ok-rewritten.ensures

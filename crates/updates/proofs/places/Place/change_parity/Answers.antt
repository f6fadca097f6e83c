use Rattle.std.proofs.Common.{◌+◌, sym, refl, ◌∙◌, arith}
use Rattle.array.proofs.Checked.{wide, long, is_present}
use Rattle.updates.proofs.Carries.{really_lost, parity_lost, parity_present}
use Rattle.updates.proofs.places.Place.change_parity.Goals as goal

pub returns-then-is_lost : goal.returns-then-is_lost
returns-then-is_lost g c =
    let p = c.args.self in
    let s = p.shape in
    let v = g.S.ColumnStore.view c.args.store.now in
    parity_lost g.X.Symbol.plus c.args.change s p.column p.row p.data_column.0 p.data_column.1 p.stored c.args.parity c.requires.parity.0 c.requires.parity.1 v 0 refl
    (g.S.ColumnStore.counted c.args.store.now)
    (really_lost v (s.k + c.args.parity) (omega (arith, c.requires.parity.0)) (omega (arith, wide s v c.requires.fits, c.requires.parity.1)) (sym c.is_lost.ensures ∙ c.if-is_lost.true))

pub change_at-requires-clause-rows : goal.change_at-requires-clause-rows
change_at-requires-clause-rows g c = c.requires.rows ∙ sym (long c.args.self.shape (g.S.ColumnStore.view c.args.store.now) c.requires.fits)

pub change_at-requires-2-clause-rows : goal.change_at-requires-2-clause-rows
change_at-requires-2-clause-rows g c = c.requires.rows ∙ sym (long c.args.self.shape (g.S.ColumnStore.view c.args.store.now) c.requires.fits) ∙ sym c.in_ok-first.ensures.leaves.rows

pub returns : goal.returns
returns g c =
    let p = c.args.self in
    let s = p.shape in
    let v = g.S.ColumnStore.view c.args.store.now in
    parity_present g.X.Symbol.plus c.args.change s p.column p.row p.data_column.0 p.data_column.1 p.stored c.args.parity c.requires.parity.0 c.requires.parity.1 v
    _ _ _ _ _ _ (long s v c.requires.fits) (is_present v (s.k + c.args.parity) (sym c.is_lost.ensures ∙ c.if-is_lost.false)) c.positions-direct.ensures.row c.positions-direct.ensures.extra c.in_ok-first.ensures c.in_ok-second.ensures

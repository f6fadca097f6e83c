use Rattle.std.proofs.Common.{refl}
use Rattle.store.proofs.Places.{place_lt, place_apart}
use Rattle.store.proofs.table.Table.place.Goals as goal

pub returns-in-Ok : goal.returns-in-Ok
returns-in-Ok g c =
    let t = c.args.self.now in
    let (first, last, is) = c.in-Ok.ensures in
    let within = c.if-row-self.true in
    rw is (
      first,
      last,
      within,
      refl,
      place_lt c.args.column c.args.row t.columns t.rows _ first last within t.full,
      λ d s one low ne. place_apart d s c.args.column c.args.row t.rows one first low within ne,
    )

use Rattle.std.proofs.Common.{◌≤◌, ap, ◌∙◌, arith}
use Rattle.code.specs.Shapes.{columns_of}
use Rattle.store.specs.View.{View}
use Rattle.array.proofs.Checked.{wide, long}
use Rattle.recovery.proofs.Reading.{collected_next, filled_low}
use Rattle.recovery.proofs.listed.collect.Given as given
use Rattle.recovery.proofs.listed.collect.Goals as goal

pub fill-requires : goal.fill-requires
fill-requires g c =
    let s = c.args.plan.now.shape in
    let v = g.S.ColumnStore.view c.args.store.now in
    let e = c.loop-column.invariant.1.meter in
    let columns = ap (λ (x : View _). x.columns) e in
    let rows = ap (λ (x : View _). x.rows) e in
    let end = c.columns-column-end.ensures ∙ ap columns_of c.shape.ensures in
    record {
      column = (omega arith, omega (arith, columns, end, wide s v c.requires.fits));
      rows = omega (arith, rows, long s v c.requires.fits);
      present = λ h. ap (λ (x : View _). x.lost c.loop-column.column) e ∙ c.requires.present c.loop-column.column (omega arith) (omega (arith, end)) h;
      room = omega (arith, c.requires.room);
    }

low : (g : given.Over) (c : goal.In_ok-count g) → c.in_ok-count.field-0 ≤ 4096
low g c =
    let u = c.args.plan.now in
    filled_low g.X.Symbol.zero u.shape u.lost u.is_data.0 u.is_data.1 _ _ _ _ _ _ c.in_ok-count.ensures

pub overflow_add-count : goal.overflow_add-count
overflow_add-count g c = omega (arith, c.loop-column.invariant.0, low g c, c.columns-column-end.ensures ∙ ap columns_of c.shape.ensures)

pub loop-column-preserved : goal.loop-column-preserved
loop-column-preserved g c =
    let u = c.args.plan.now in (
      omega (arith, c.loop-column.invariant.0, filled_low g.X.Symbol.zero u.shape u.lost u.is_data.0 u.is_data.1 _ _ _ _ _ _ c.in_ok-count.ensures),
      collected_next g.X.Symbol.zero u.shape u.lost u.is_data.0 u.is_data.1 _ _ _ _ _ _ _ _ _ (omega arith) (omega arith) c.loop-column.invariant.1 c.in_ok-count.ensures,
    )

pub returns-in_ok-count : goal.returns-in_ok-count
returns-in_ok-count g c =
    let u = c.args.plan.now in
    collected_next g.X.Symbol.zero u.shape u.lost u.is_data.0 u.is_data.1 _ _ _ _ _ _ _ _ _ (omega arith) (omega (arith, c.columns-column-end.ensures ∙ ap columns_of c.shape.ensures)) c.loop-column.invariant.1 c.in_ok-count.ensures

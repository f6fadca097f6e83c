use Rattle.std.proofs.Common.{◌≡◌, ◌+◌, ◌*◌, ◌++◌, replicate, ap, ap₂, ◌∙◌, sym, arith}
use Rattle.code.specs.Shapes.{parities_of, rows_of}
use Rattle.route.specs.Readings.{readings_of}
use Rattle.route.proofs.Route.{readings_none, readings_more, place, first, start, further, finish, mul-add-r, filled}
use Rattle.route.proofs.readings.cells.Goals as goal

pub loop-column-init : goal.loop-column-init
loop-column-init c =
    let rows = rows_of c.args.shape in
    record {
      cells = c.new-cells.ensures.items ∙ sym (readings_none rows) ∙ ap (readings_of rows) (first rows);
      long = c.new-cells.ensures.len ∙ first rows;
    }

pub loop-row-init : goal.loop-row-init
loop-row-init c =
    let rows = rows_of c.args.shape in
    let on = start (c.loop-column.column * rows) in
    record {
      cells = c.loop-column.invariant.cells ∙ ap (readings_of rows) on;
      long = c.loop-column.invariant.long ∙ on;
    }

pub loop-row-preserved : goal.loop-row-preserved
loop-row-preserved c =
    let rows = rows_of c.args.shape in
    let column = c.loop-column.column in
    let row = c.loop-row.row in
    let on = further (column * rows) row in
    let here = c.reading.ensures ∙ place column rows row (omega (arith, c.loop-row-test.true, c.rows-rows.ensures)) in
    record {
      cells = readings_more rows (column * rows + row) _ _ c.reading.result c.loop-row.invariant.cells here c.in_ok-push.ensures.items ∙ ap (readings_of rows) on;
      long = c.in_ok-push.ensures.len ∙ ap (λ n. n + 1) c.loop-row.invariant.long ∙ on;
    }

pub loop-column-preserved : goal.loop-column-preserved
loop-column-preserved c =
    let rows = rows_of c.args.shape in
    let end : c.loop-row.row ≡ rows = omega (arith, c.loop-row-test.false, c.loop-row.auto.row-end, c.rows-rows.ensures) in
    let on = ap (λ n. c.loop-column.column * rows + n) end ∙ finish c.loop-column.column rows in
    record {
      cells = c.loop-row.invariant.cells ∙ ap (readings_of rows) on;
      long = c.loop-row.invariant.long ∙ on;
    }

pub returns : goal.returns
returns c =
    let shape = c.args.shape in
    let cells = c.loop-column.cells in
    let rows = rows_of shape in
    let zeros = parities_of shape * rows in
    let end : c.loop-column.column ≡ shape.k = omega (arith, c.loop-column-test.false, c.loop-column.auto.column-end) in
    let drawn = ap (λ n. n * rows) end in
    let all = ap₂ (λ n r. n * r) c.columns.ensures c.rows-rows.ensures ∙ mul-add-r shape.k (parities_of shape) rows in
    c.in_ok-resize.ensures.items
    ∙ filled cells.items cells.len (shape.k * rows) zeros _ c.zero.result cells.ok.0 (c.loop-column.invariant.long ∙ drawn) all
    ∙ ap (λ xs. xs ++ replicate zeros c.zero.result) (c.loop-column.invariant.cells ∙ ap (readings_of rows) drawn)
    ∙ ap (λ zero. readings_of rows (shape.k * rows) ++ replicate zeros zero) c.zero.ensures

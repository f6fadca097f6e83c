use Rattle.std.proofs.Common.{◌≡◌, ◌+◌, ◌*◌}
use Rattle.code.specs.Shapes.{rows_of}
use Rattle.route.specs.Readings.{readings_of}
use Rattle.route.proofs.readings.cells.Given as goal

abbrev pub invariant-loop-column : goal.invariant-loop-column
invariant-loop-column l = record {
  cells : l.cells.items ≡ readings_of (rows_of l.fn.shape) (l.column * rows_of l.fn.shape);
  long : l.cells.len ≡ l.column * rows_of l.fn.shape;
}

abbrev pub invariant-loop-row : goal.invariant-loop-row
invariant-loop-row l = record {
  cells : l.cells.items ≡ readings_of (rows_of l.fn.shape) (l.column * rows_of l.fn.shape + l.row);
  long : l.cells.len ≡ l.column * rows_of l.fn.shape + l.row;
}

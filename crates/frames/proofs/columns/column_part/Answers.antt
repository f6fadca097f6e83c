use Rattle.std.proofs.Common.{◌*◌, ap₂, rules}
use Rattle.code.specs.Refusals.{or_else}
use Rattle.code.specs.Shapes.{columns_of, rows_of}
use Rattle.frames.proofs.Parts.{is_column}
use Rattle.frames.proofs.Refused.{column_there}
use Rattle.frames.proofs.Sound.{column_in}
use Rattle.frames.proofs.columns.column_part.Goals as goal

pub slice_bounds-result-end : goal.slice_bounds-result-end
slice_bounds-result-end g c =
    let f = column_in (columns_of c.args.shape) (rows_of c.args.shape) g.X.Symbol.width c.args.text.now c.args.column c.rows.result c.stride.result c.in_ok-check.ensures.answer c.rows.ensures c.stride.ensures.is (search rules) (search rules) in
    search rules

pub returns : goal.returns
returns g c =
    let s = c.args.shape in
    let f = column_in (columns_of s) (rows_of s) g.X.Symbol.width c.args.text.now c.args.column c.rows.result c.stride.result c.in_ok-check.ensures.answer c.rows.ensures c.stride.ensures.is (search rules) (search rules) in (
      ap₂ or_else c.in_ok-check.ensures.answer (column_there (columns_of s) c.args.column _ (search rules) (search rules)),
      is_column (rows_of s) g.X.Symbol.width c.args.text.now c.args.column (c.rows.result * c.stride.result) (ap₂ ◌*◌ c.rows.ensures c.stride.ensures.is) f,
    )

use Rattle.std.proofs.Common.{◌≡◌, ◌+◌, ◌*◌, false, get_or, ap, ◌∙◌, arith, rules}
use Rattle.symbol.specs.Hex.{hex}
use Rattle.code.specs.Places.{symbols_of}
use Rattle.code.specs.Shapes.{rows_of}
use Rattle.frames.specs.Format.{frame, frame_of, lines}
use Rattle.drawn.proofs.Drawn.{start, further, finish, lined, placed}
use Rattle.drawn.proofs.texts.text_of.Goals as goal

pub loop-row-init : goal.loop-row-init
loop-row-init g c =
    let rows = rows_of c.args.shape in
    c.loop-column.invariant ∙ ap (λ n. lines n (frame_of rows g.X.Symbol.bytes (λ _. false) (symbols_of g.X.Symbol.zero rows c.args.cells.now))) (start (c.loop-column.column * rows))

pub loop-row-preserved : goal.loop-row-preserved
loop-row-preserved g c =
    let rows = rows_of c.args.shape in
    let cells = c.args.cells.now in
    let none = g.X.Symbol.zero in
    let column = c.loop-column.column in
    let row = c.loop-row.row in
    let is : c.unwrap_or-symbol.result ≡ get_or cells (column * c.rows-rows.result + row) none = search rules in
    let here = is ∙ ap (λ n. get_or cells (column * n + row) none) c.rows-rows.ensures in
    let line = ap (λ x. frame 80 (column + 1) row (hex (g.X.Symbol.bytes x))) here ∙ placed g.X.Symbol.bytes cells none column rows row (omega (arith, c.loop-row-test.true, c.rows-rows.ensures)) in
    lined (column * rows + row) (frame_of rows g.X.Symbol.bytes (λ _. false) (symbols_of none rows cells)) _ _ _ c.loop-row.invariant line c.in_ok-push_frame.ensures
    ∙ ap (λ n. lines n (frame_of rows g.X.Symbol.bytes (λ _. false) (symbols_of none rows cells))) (further (column * rows) row)

pub loop-column-preserved : goal.loop-column-preserved
loop-column-preserved g c =
    let rows = rows_of c.args.shape in
    let end : c.loop-row.row ≡ rows = omega (arith, c.loop-row-test.false, c.loop-row.auto.row-end, c.rows-rows.ensures) in
    c.loop-row.invariant ∙ ap (λ n. lines n (frame_of rows g.X.Symbol.bytes (λ _. false) (symbols_of g.X.Symbol.zero rows c.args.cells.now))) (ap (λ n. c.loop-column.column * rows + n) end ∙ finish c.loop-column.column rows)

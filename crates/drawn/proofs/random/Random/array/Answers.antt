use Rattle.std.proofs.Common.{◌≡◌, ◌+◌, ◌*◌, ◌++◌, replicate, ap, ap₂, ◌∙◌, sym, arith, rules}
use Rattle.code.specs.Shapes.{parities_of}
use Rattle.drawn.specs.Drawn.{after, drawn_symbol, drawn_symbols}
use Rattle.drawn.proofs.Drawn.{after_none, after_after, symbols_none, symbols_more, filled, mul-add-r}
use Rattle.drawn.proofs.random.Random.array.Goals as goal

pub loop-drawn-init : goal.loop-drawn-init
loop-drawn-init g c = record { state = sym (after_none c.args.self.now.0); cells = c.new-cells.ensures.items ∙ sym (symbols_none g.X.Symbol.width g.X.Symbol.symbol c.args.self.now.0); long = search rules }

pub loop-drawn-preserved : goal.loop-drawn-preserved
loop-drawn-preserved g c =
    let i = c.loop-drawn._drawn in
    let start = c.args.self.now.0 in
    let w = g.X.Symbol.width in
    let made = g.X.Symbol.symbol in
    let past = c.loop-drawn.invariant in
    let on : 16 * i + 16 ≡ 16 * (i + 1) = omega arith in
    let here = c.symbol.ensures.symbol ∙ ap (drawn_symbol w made) past.state in
    record {
      state = c.symbol.ensures.state ∙ ap (after 16) past.state ∙ after_after (16 * i) 16 start ∙ ap (λ n. after n start) on;
      cells = symbols_more w made i start _ _ c.symbol.result past.cells here c.in_ok-push.ensures.items;
      long = search rules;
    }

pub returns-clause-cells : goal.returns-clause-cells
returns-clause-cells g c =
    let shape = c.args.shape in
    let cells = c.loop-drawn.cells in
    let rows = c.rows-rows.result in
    let end : c.loop-drawn._drawn ≡ shape.k * rows = omega arith in
    let all = ap (λ n. n * rows) c.columns.ensures ∙ mul-add-r shape.k (parities_of shape) rows in
    let start = c.args.self.now.0 in
    let w = g.X.Symbol.width in
    let made = g.X.Symbol.symbol in
    c.in_ok-resize.ensures.items
    ∙ filled cells.items cells.len (shape.k * rows) (parities_of shape * rows) _ c.zero.result cells.ok.0 (c.loop-drawn.invariant.long ∙ end) all
    ∙ ap (λ xs. xs ++ replicate (parities_of shape * rows) c.zero.result) c.loop-drawn.invariant.cells
    ∙ ap₂ (λ n zero. drawn_symbols w made n start ++ replicate (parities_of shape * rows) zero) end c.zero.ensures
    ∙ ap (λ r. drawn_symbols w made (shape.k * r) start ++ replicate (parities_of shape * r) g.X.Symbol.zero) c.rows-rows.ensures

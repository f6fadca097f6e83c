use Rattle.std.proofs.Common.{◌≡◌, ◌*◌}
use Rattle.drawn.specs.Drawn.{after, drawn_symbols}
use Rattle.drawn.proofs.random.Random.array.Given as goal

abbrev pub invariant-loop-drawn : goal.invariant-loop-drawn
invariant-loop-drawn g l = record {
  state : l.self.0 ≡ after (16 * l._drawn) l.fn.self.0;
  cells : l.cells.items ≡ drawn_symbols g.X.Symbol.width g.X.Symbol.symbol l._drawn l.fn.self.0;
  long : l.cells.len ≡ l._drawn;
}

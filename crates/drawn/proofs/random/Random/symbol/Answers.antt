use Rattle.std.proofs.Common.{sym, arith}
use Rattle.drawn.proofs.Drawn.{part_long}
use Rattle.drawn.proofs.random.Random.symbol.Goals as goal

pub slice_bounds-read_bytes-end : goal.slice_bounds-read_bytes-end
slice_bounds-read_bytes-end g c = sym (part_long c.width.result c.args.self.now.0 c.bytes-bytes.result c.bytes-bytes.ensures.bytes (omega (arith, c.width.ensures, g.met.X.Symbol.narrow)))

use Rattle.std.proofs.Common.{length, rules}
use Rattle.frames.specs.Lines.{stride}
use Rattle.frames.proofs.Places.{place_fits}
use Rattle.frames.proofs.frames.Frames.line.Goals as goal

pub returns : goal.returns
returns g c = let t = c.args.self.now in let f = place_fits c.args.column c.args.row t.columns t.rows (stride g.X.Symbol.width) (length t.text.now) (search rules) (search rules) (search rules) t.whole in search rules

pub overflow_mul-result-2 : goal.overflow_mul-result-2
overflow_mul-result-2 g c = let t = c.args.self.now in let f = place_fits c.args.column c.args.row t.columns t.rows (stride g.X.Symbol.width) (length t.text.now) (search rules) (search rules) (search rules) t.whole in search rules

use Rattle.std.proofs.Common.{refl}
use Rattle.frames.specs.Lines.{stride}
use Rattle.frames.proofs.Views.{lines_fit, remarked, marked_formed}
use Rattle.frames.proofs.frames.Frames.mark.Goals as goal

pub mark_lines-requires : goal.mark_lines-requires
mark_lines-requires g c =
    let t = c.args.self.now in
    let p = c.in_ok-line.ensures in
    lines_fit (stride g.X.Symbol.width) c.args.column t.columns t.rows _ p.0 p.1 t.whole

pub returns : goal.returns
returns g c =
    let K = g.X.Symbol in
    let t = c.args.self.now in
    let p = c.in_ok-line.ensures in
    let n = remarked K t.columns t.rows t.meter t.text.ghost_name t.text.now c.mark_lines.new.text c.args.column c.args.mark p.0 p.1 p.2 t.whole c.mark_lines.ensures in
    let f = marked_formed K t.columns t.rows t.meter t.text.ghost_name t.text.now c.mark_lines.new.text c.args.column c.args.mark p.0 p.1 p.2 t.whole c.mark_lines.ensures in
    record { answer = ((p.0, p.1), n); bytes = c.mark_lines.ensures; stays = λ is. record { columns = refl; rows = refl; formed = f is } }

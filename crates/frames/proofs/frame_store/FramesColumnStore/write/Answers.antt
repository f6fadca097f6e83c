use Rattle.std.proofs.Common.{◌+◌, refl, ap, ◌∙◌}
use Rattle.symbol.specs.Hex.{hex}
use Rattle.frames.specs.Lines.{over}
use Rattle.frames.proofs.Views.{written, written_formed}
use Rattle.frames.proofs.frame_store.FramesColumnStore.write.Goals as goal

pub returns : goal.returns
returns g c =
    let K = g.X.Symbol in
    let M = g.met.X.Symbol in
    let t = c.args.self.now in
    let p = c.in_ok-at.ensures in
    let put = c.put_digits.ensures.text ∙ ap (λ a. over t.text.now (a + 10) (hex (K.bytes c.args.symbol))) p.3 in
    let n = written K t.columns t.rows t.meter t.text.ghost_name M.wide M.back M.there t.text.now c.put_digits.new.text c.args.column c.args.row p.0 p.1 p.2 t.whole c.args.symbol c.put_digits.ensures.real put in
    let f = written_formed K t.columns t.rows t.meter t.text.ghost_name M.wide M.back M.there t.text.now c.put_digits.new.text c.args.column c.args.row p.0 p.1 p.2 t.whole c.args.symbol c.put_digits.ensures.real put in
    record { answer = ((p.0, p.1, p.2), n); bytes = put; stays = record { columns = refl; rows = refl; formed = f } }

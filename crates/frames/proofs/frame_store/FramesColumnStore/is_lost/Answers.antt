use Rattle.std.proofs.Common.{◌≡◌, ◌+◌, ◌-◌, ◌*◌, ap, ◌∙◌, length, rules, arith}
use Rattle.frames.specs.Lines.{stride}
use Rattle.frames.proofs.Places.{place_fits}
use Rattle.frames.proofs.frame_store.FramesColumnStore.is_lost.Goals as goal

pub bounds-self-column : goal.bounds-self-column
bounds-self-column g c =
    let t = c.args.self.now in
    let s = stride g.X.Symbol.width in
    let first = (c.args.column - 1) * t.rows in
    let fits = place_fits c.args.column 0 t.columns t.rows s (length t.text.now) c.if-column-lt1.false c.if-column-self.false (search rules) t.whole in
    let here : first ≡ first + 0 = omega arith in
    let same : first * c.stride.result ≡ (first + 0) * s = ap (λ n. first * n) c.stride.ensures.is ∙ ap (λ n. n * s) here in
    omega (arith, same, fits, c.stride.ensures.is, c.stride.ensures.low)

use Rattle.std.proofs.Common.{◌≡◌, ◌*◌, length, ap, ◌∙◌, rules}
use Rattle.symbol.specs.Hex.{hex}
use Rattle.symbol.proofs.Digits.{length_hex}
use Rattle.drawn.proofs.Drawn.{written}
use Rattle.drawn.proofs.digits.digits_of.Goals as goal

pub unwrap-requires : goal.unwrap-requires
unwrap-requires g c =
    let x = c.args.symbol in
    let long : length (hex (g.X.Symbol.bytes x)) ≡ 2 * g.X.Symbol.width = length_hex (g.X.Symbol.bytes x) ∙ ap (λ n. 2 * n) (g.met.X.Symbol.wide x) in
    written (hex (g.X.Symbol.bytes x)) _ c.write_digits.new.part c.write_digits.result c.write_digits.ensures.wrote (search rules)

use Rattle.std.proofs.Common.{◌*◌, sym, refl, ◌∙◌, arith, rules}
use Rattle.symbol.specs.Hex.{hex}
use Rattle.symbol.proofs.Digits.{length_hex, digits_octets, hex_all_digits, front_all}
use Rattle.symbol.proofs.hex.write_hex.Goals as goal

pub returns-then-part-bytes : goal.returns-then-part-bytes
returns-then-part-bytes c = search (rules, length_hex)

pub returns : goal.returns
returns c =
    let bs = c.args.bytes.now in
    let i = c.loop-i.i in (
      search (rules, length_hex),
      sym (c.loop-i.invariant ∙ front_all hex c.loop-i.part bs (2 * i) i refl (omega arith) (omega arith)),
      digits_octets (hex bs) (hex_all_digits bs (λ i l. search rules)),
    )

use Rattle.std.proofs.Common.{◌∙◌, arith}
use Rattle.std.proofs.lemmas.Bool.Decides.{nat_tests}
use Rattle.symbol.proofs.Digits.{drop_pair, unhex_more}
use Rattle.symbol.proofs.hex.read_hex.Goals as goal

pub loop-i-preserved : goal.loop-i-preserved
loop-i-preserved c =
    let s = c.args.part.now in
    let i = c.loop-i.i in
    let p = drop_pair s i (omega arith) in
    let e = c.in_ok-byte.ensures in
    (grind (arith, nat_tests), c.loop-i.invariant.1 ∙ unhex_more s c.loop-i.bytes i c.in_ok-byte.field-0 (omega arith) (omega arith) (grind (arith, nat_tests)))

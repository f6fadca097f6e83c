use Rattle.std.proofs.Common.{◌≡◌, true, false, rules}
use Rattle.code.specs.Rules.{outside}
use Rattle.code.proofs.shape.Shape.new.Goals as goal

pub returns-then-not-contains-2 : goal.returns-then-not-contains-2
returns-then-not-contains-2 c =
    let within : outside 4 12 c.args.k ≡ false = search rules in
    let past : outside 2 4 c.args.q ≡ true = search rules in
    rw (within, past)

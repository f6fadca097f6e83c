use Rattle.std.proofs.Common.{◌≡◌, [], ◌∷◌, ◌++◌, IfOk, string_bytes, subst, rules, arith}
use Rattle.symbol.specs.Hex.{hex}
use Rattle.report.proofs.Digits.{hexed, byte_digits}
use Rattle.report.proofs.lines.refused.Goals as goal

pub returns : goal.returns
returns c =
    let h : IfOk c.format.result (λ out. string_bytes out ≡ 69 ∷ 32 ∷ [] ++ (hexed 2 c.number.result ++ (10 ∷ []))) = search rules in
    subst (λ n. IfOk c.format.result (λ out. string_bytes out ≡ 69 ∷ 32 ∷ (hex (n ∷ []) ++ (10 ∷ [])))) c.number.ensures (simp (byte_digits c.number.result (omega arith)) at h)

use Rattle.std.proofs.Common.{◌≡◌, ◌+◌, true, cond, Some, None, unwrap_or, ◌∙◌, arith, rules}
use Rattle.std.proofs.lemmas.Bool.Decides.{nat_tests}
use Rattle.code.specs.Shapes.{shift_of, is_shifted}
use Rattle.sums.proofs.Steps.{made}
use Rattle.sums.proofs.parity.shifts.Goals as goal

pub returns-clause-are : goal.returns-clause-are
returns-clause-are c =
    let s = c.args.shape in
    let j = c.args.parity in
    λ i h.
    made _ _ (λ i x. x ≡ unwrap_or (cond (is_shifted s j (i + 1)) (Some (shift_of s j (i + 1))) None) 0) (λ i y q k. (search rules, search rules)) c.from_fn.result 0 12 c.from_fn.ensures.items.each i (omega arith) (omega (arith, s.data_columns)) 0
    ∙ (let b : is_shifted s j (i + 1) ≡ true = grind (arith, nat_tests) in rw b)

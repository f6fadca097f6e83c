use Rattle.std.proofs.Common.{◌≡◌, ℕ, List, drop, Some, string_bytes, Option, refl, ap, ◌∙◌, subst, rules}
use Rattle.code.specs.Rules.{shape_refusal}
use Rattle.report.specs.declared.head.Head.{Head}
use Rattle.report.specs.Heads.{head_of}
use Rattle.report.specs.Printed.{answer, headed}
use Rattle.report.specs.Prints.{Prints}
use Rattle.report.proofs.Shaped.{shaped_is}
use Rattle.report.proofs.call.rebuilt.Goals as goal

pub returns : goal.returns
returns c =
    let input = c.args.input.now in
    let h = c.in_ok-head.head in
    let s = c.in_ok-shape.shape in
    let split : c.split_head.result ≡ Some (h, c.in_ok-head.frames) = search rules in
    let head-is : Some h ≡ head_of input = rw split at c.split_head.ensures.head in
    let behind : c.in_ok-head.frames.now ≡ drop 11 input = rw split at c.split_head.ensures.frames in
    let shaped : answer s (drop 11 input) ≡ headed (Some h) (drop 11 input) = shaped_is s h.k h.q h.p (drop 11 input) (shape_refusal h.k h.q h.p) refl c.in_ok-shape.ensures in
    subst (λ (out : List ℕ). Prints string_bytes out c.answer.result) (ap (answer s) behind ∙ shaped ∙ ap (λ (o : Option Head). headed o (drop 11 input)) head-is) c.answer.ensures

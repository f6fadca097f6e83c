use Rattle.std.proofs.Common.{refl, ap, ◌∙◌, arith}
use Rattle.frames.proofs.Made.{Sized, sized_passed, sized_refused, some_of, whole_of, formed_of, over_of}
use Rattle.frames.proofs.frames.Frames.over.Given as given
use Rattle.frames.proofs.frames.Frames.over.Goals.{in-Ok, in-Err}
use Rattle.frames.proofs.frames.Frames.over.Goals as goal

sized : (g : given.Over) (c : goal.Joined-check g) → Sized g.X.Symbol.width c.args.shape c.args.text.now c.match-check.columns.0 c.match-check.columns.1
sized g c = elim c.match-check.branch [
  | in-Ok w ↦ sized_passed _ _ _ _ _ (ap (λ p. p.0) w.columns-is ∙ w.columns.ensures) (ap (λ p. p.1) w.columns-is ∙ w.rows.ensures) w.in-Ok.ensures.answer
  | in-Err w ↦ sized_refused _ _ _ _ _ _ (ap (λ p. p.0) w.columns-is) (ap (λ p. p.1) w.columns-is) w.in-Err.ensures.answer
]

pub invariant_of-result : goal.invariant_of-result
invariant_of-result g c =
    let z = sized g c in
    record { some = some_of _ _ _ _ _ z; whole = whole_of _ _ _ _ _ z; counted = omega arith }

pub returns : goal.returns
returns g c = let z = sized g c.before in record { memory = refl; view = over_of _ _ _ _ _ _ _ _ z; formed = formed_of _ _ _ _ _ z }

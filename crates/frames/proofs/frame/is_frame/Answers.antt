use Rattle.std.proofs.Common.{true, false, sym, refl, ap, ◌∙◌}
use Rattle.std.specs.Str.{bytes_eq}
use Rattle.std.proofs.lemmas.Bool.{not-false, not-true}
use Rattle.frames.proofs.Shown.{tested}
use Rattle.frames.proofs.frame.is_frame.Goals.{then-not-is_mark-via-then-not-is_mark, then-not-is_mark-via-else-not-is_mark+then-not-are_digits, then-not-is_mark-via-else-not-is_mark+else-not-are_digits+then-ne}
use Rattle.frames.proofs.frame.is_frame.Goals as goal

pub returns-then-not-is_mark : goal.returns-then-not-is_mark
returns-then-not-is_mark g c =
    let line = c.args.line.now in
    let cut = c.split_at.ensures in
    elim c.then-not-is_mark.branch [
      | then-not-is_mark-via-then-not-is_mark w ↦ tested _ _ _ line _ _ c.requires cut.front cut.back false _ _ _ w.if-not-is_mark.ensures refl refl refl
      | then-not-is_mark-via-else-not-is_mark+then-not-are_digits w ↦ tested _ _ _ line _ _ c.requires cut.front cut.back true false _ _ w.if-not-is_mark.ensures w.if-not-are_digits.ensures refl refl
      | then-not-is_mark-via-else-not-is_mark+else-not-are_digits+then-ne w ↦
          let other = sym (not-true _ (sym w.if-ne.ensures)) ∙ ap (bytes_eq c.split_at.result.0.now) (w.as_slice.ensures ∙ w.label.ensures) in
          tested _ _ _ line _ _ c.requires cut.front cut.back true true false _ w.if-not-is_mark.ensures w.if-not-are_digits.ensures other refl
    ]

pub returns : goal.returns
returns g c =
    let cut = c.split_at.ensures in
    let same = sym (not-false _ (sym c.if-ne.ensures)) ∙ ap (bytes_eq c.split_at.result.0.now) (c.as_slice.ensures ∙ c.label.ensures) in
    tested _ _ _ c.args.line.now _ _ c.requires cut.front cut.back true true true _ c.if-not-is_mark.ensures c.if-not-are_digits.ensures same refl

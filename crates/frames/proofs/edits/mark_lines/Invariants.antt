use Rattle.std.proofs.Common.{◌≡◌, ◌-◌}
use Rattle.frames.specs.Lines.{marked}
use Rattle.frames.proofs.edits.mark_lines.Given as goal

abbrev pub invariant-loop-line : goal.invariant-loop-line
invariant-loop-line g l = l.text ≡ marked g.X.Symbol.width l.initial.text l.first (l.line - l.first) l.mark

use Rattle.std.proofs.Common.{◌≡◌, None}
use Rattle.frames.specs.Checks.{lines_refusal}
use Rattle.frames.proofs.checks.check_lines.Given as goal

abbrev pub invariant-loop-line : goal.invariant-loop-line
invariant-loop-line g l = lines_refusal l.rows g.X.Symbol.width l.text l.line ≡ None

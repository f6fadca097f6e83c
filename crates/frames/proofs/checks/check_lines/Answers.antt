use Rattle.std.proofs.Common.{◌+◌, ◌*◌, ◌≤◌, Some, sym, ap, ◌∙◌, mul-le-mul_right, arith}
use Rattle.std.proofs.lemmas.Result.{err_from_is_err_and}
use Rattle.frames.specs.Lines.{stride}
use Rattle.frames.proofs.Places.{column_low}
use Rattle.frames.proofs.Refused.{lines_more, lines_stop}
use Rattle.frames.proofs.checks.check_lines.Goals as goal

pub check_line-requires : goal.check_line-requires
check_line-requires g c =
    let s = stride g.X.Symbol.width in
    let step : (c.loop-line.line + 1) * s ≤ c.args.lines * s = mul-le-mul_right s (omega arith) in
    record { room = omega arith; column = column_low _ 255 c.args.rows (omega arith) (omega arith); rows = c.requires.rows }

pub returns-in_err-check_line : goal.returns-in_err-check_line
returns-in_err-check_line g c =
    let p = err_from_is_err_and c.from_residual.result c.from_residual.ensures.1 in
    rw p.1 (lines_stop c.args.rows g.X.Symbol.width c.args.text.now c.loop-line.line c.args.lines _ c.loop-line-test.true c.loop-line.invariant c.in_err-check_line.ensures ∙ ap Some (sym p.2))

pub loop-line-preserved : goal.loop-line-preserved
loop-line-preserved g c = lines_more c.args.rows g.X.Symbol.width c.args.text.now c.loop-line.line c.loop-line.invariant c.in_ok-check_line.ensures

use Rattle.std.proofs.Common.{◌+◌, ◌*◌, ◌/◌, ◌≤◌, length, refl, mul-le-mul_right, div-mul-le_self, arith}
use Rattle.frames.proofs.Refused.{no_frame, other_mark, passed}
use Rattle.frames.proofs.checks.check_line.Goals as goal

pub bounds-text-first : goal.bounds-text-first
bounds-text-first g c =
    let s = c.stride-stride.result in
    let first : c.args.line / c.args.rows * c.args.rows * s ≤ c.args.line * s = mul-le-mul_right s (div-mul-le_self c.args.line c.args.rows) in
    let room : c.args.line * s + s ≤ length c.args.text.now = rw c.stride-stride.ensures.is c.requires.room in
    omega arith

pub returns-then-not-is_frame : goal.returns-then-not-is_frame
returns-then-not-is_frame g c = no_frame c.args.rows _ c.args.text.now c.args.line _ c.stride-stride.ensures.is _ c.if-not-is_frame.ensures refl

pub returns-then-text-at : goal.returns-then-text-at
returns-then-text-at g c = other_mark c.args.rows _ c.args.text.now c.args.line _ c.stride-stride.ensures.is _ c.if-not-is_frame.ensures refl c.if-text-at.true

pub returns : goal.returns
returns g c = passed c.args.rows _ c.args.text.now c.args.line _ c.stride-stride.ensures.is _ c.if-not-is_frame.ensures refl c.if-text-at.false

use Rattle.std.proofs.Common.{◌≡◌, ℕ, ◌*◌, List, length, ap, ◌∙◌, mul-le-mul_right, arith}
use Rattle.code.specs.declared.shape.Shape.{Shape}
use Rattle.code.specs.Shapes.{columns_of, rows_of}
use Rattle.frames.specs.Lines.{stride}
use Rattle.frames.specs.Checks.{Passes, Back, There}
use Rattle.frames.proofs.Places.{rows_some, columns_few}
use Rattle.frames.proofs.Refused.{right_told, wrong_told}
use Rattle.frames.proofs.Stands.{render_passes, render_back, render_there}
use Rattle.frames.proofs.checks.check.Given as given
use Rattle.frames.proofs.checks.check.Goals as goal

pub check_lines-requires : goal.check_lines-requires
check_lines-requires g c =
    let s = c.args.shape in
    let some = rows_some s in
    let few = columns_few s in
    let lines = c.columns.result * c.rows-rows.result in
    let room : length c.args.text.now ≡ lines * stride g.X.Symbol.width = c.if-text-needed.false ∙ ap (λ n. lines * n) c.stride.ensures.is in
    record { room = omega arith; columns = mul-le-mul_right c.rows-rows.result (omega arith); rows = (omega arith, omega (arith, s.small)) }

-- what holds whatever the answer
faithful : (g : given.Over) (s : Shape) (text : List ℕ) →
    Passes (columns_of s) (rows_of s) g.X.Symbol.width g.X.Symbol.bytes text
    × Back g.X.Symbol.zero (columns_of s) (rows_of s) g.X.Symbol.width g.X.Symbol.bytes g.X.Symbol.symbol text
    × There g.X.Symbol.zero (columns_of s) (rows_of s) g.X.Symbol.width g.X.Symbol.bytes g.X.Symbol.symbol text
faithful g s text =
    let K = g.X.Symbol in
    let M = g.met.X.Symbol in (
      render_passes K M.wide M.back M.there (columns_of s) (rows_of s) text (rows_some s),
      render_back K M.wide M.back M.there (columns_of s) (rows_of s) text,
      render_there K M.wide M.back M.there (columns_of s) (rows_of s) text (rows_some s),
    )

pub returns-then-text-needed : goal.returns-then-text-needed
returns-then-text-needed g c =
    let f = faithful g c.args.shape c.args.text.now in
    record { answer = wrong_told _ _ _ _ _ _ c.args.text.now c.columns.ensures c.rows-rows.ensures c.stride.ensures.is c.if-text-needed.true; passes = f.0; back = f.1; there = f.2 }

pub returns : goal.returns
returns g c =
    let f = faithful g c.args.shape c.args.text.now in
    record { answer = right_told _ _ _ _ _ _ c.args.text.now c.columns.ensures c.rows-rows.ensures c.stride.ensures.is c.if-text-needed.false c.check_lines.result c.check_lines.ensures; passes = f.0; back = f.1; there = f.2 }

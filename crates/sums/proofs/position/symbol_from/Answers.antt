use Rattle.std.proofs.Common.{◌≡◌, suc, ◌+◌, ◌-◌, ◌*◌, ◌<◌, ◌≤◌, length, take, drop, Some, ap, ◌∙◌, arith, length-drop}
use Rattle.std.proofs.lemmas.Bool.{le-leb, lt-ltb}
use Rattle.std.proofs.lemmas.List.{length-take}
use Rattle.sums.proofs.Steps.{part_at}
use Rattle.sums.proofs.position.symbol_from.Goals as goal

pub returns : goal.returns
returns g c =
    let rows : c.args.blocks * c.args.classes ≡ c.in_ok-end.end - c.args.start = omega (arith, c.in_ok-rows.ensures, c.in_ok-end.ensures) in
    let fits : c.args.start + c.args.blocks * c.args.classes ≤ length c.args.cells.now = omega (arith, c.in_ok-rows.ensures, c.in_ok-end.ensures) in
    let low : c.args.position < suc c.args.blocks * c.args.classes = omega (arith, c.in_ok-rows.ensures, c.in_ok-end.ensures) in
    let whole : length (take (c.in_ok-end.end - c.args.start) (drop c.args.start c.args.cells.now)) ≡ c.args.blocks * c.args.classes = simp (length-take, length-drop) (omega arith) in
    rw (le-leb _ _ fits, lt-ltb _ _ low) (ap Some (c.at.ensures c.args.blocks whole ∙ part_at g.X.Symbol.zero g.X.Symbol.plus c.args.cells.now c.args.start (c.in_ok-end.end - c.args.start) c.args.blocks c.args.classes c.args.position rows low))

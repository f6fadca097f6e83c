use Rattle.std.proofs.Common.{◌≡◌, ◌-◌, ◌*◌, ◌≤◌, ◌++◌, length, take, drop, sym, ap, ◌∙◌, subst, ap₂, arith, rules}
use Rattle.std.proofs.lemmas.Bool.Decides.{nat_tests}
use Rattle.store.specs.Tables.{needed_of}
use Rattle.founding.specs.Memory.{Fills}
use Rattle.founding.proofs.Owner.{widened}
use Rattle.founding.proofs.memory.found_in.Goals as goal

pub returns : goal.returns
returns g c =
    let s = c.args.shape in
    let cells = c.args.cells.now in
    let e : c.columns.result * c.rows.result - 0 ≡ needed_of s = ap₂ (λ a b. a * b - 0) c.columns.ensures c.rows.ensures ∙ omega arith in
    let enough : needed_of s ≤ length cells = grind (arith, nat_tests, c.in_ok-check.ensures) in
    let F = widened g.X.Symbol.zero g.X.Symbol.plus s cells _ c.found_over.new.cells c.args.work.now c.found_over.new.work c.found_over.result enough (ap (λ n. take n cells) e) (search rules) c.found_over.ensures in
    subst (λ n. Fills g.X.Symbol.zero g.X.Symbol.plus s cells c.args.work.now c.found_over.result (c.found_over.new.cells ++ drop n cells) c.found_over.new.work) (sym e) F

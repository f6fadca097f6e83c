use Rattle.std.proofs.Common.{ℕ, ◌&&◌, Bool, ap, ◌∙◌, rules}
use Rattle.code.specs.Shapes.{columns_of}
use Rattle.store.specs.View.{counts_as_lost}
use Rattle.repair.specs.Lists.{helper}
use Rattle.array.specs.Lost.{lowest_lost}
use Rattle.array.proofs.Found.{lowest_found}
use Rattle.recovery.proofs.quoting.lowest_helper.Goals as goal

pub returns : goal.returns
returns g c =
    let u = c.args.plan.now in
    let test : ℕ → Bool = λ d. helper u.shape u.lost d && counts_as_lost (g.S.ColumnStore.view c.args.store.now) d in
    search rules ∙ lowest_found _ _ test _ _ c.find.result (search rules) (search rules) (search rules) c.find.ensures.ran ∙ ap (lowest_lost test) (c.columns.ensures ∙ ap columns_of c.shape.ensures)

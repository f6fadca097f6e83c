use Rattle.std.proofs.Common.{rules, ◌∙◌}
use Rattle.store.specs.View.{counts_as_lost}
use Rattle.array.proofs.Found.{lowest_found}
use Rattle.array.proofs.checks.lowest_lost.Goals as goal

pub returns : goal.returns
returns g c = search rules ∙ lowest_found _ _ (counts_as_lost (g.S.ColumnStore.view c.args.store.now)) _ _ c.find.result (search rules) (search rules) (search rules) c.find.ensures.ran

use Rattle.std.proofs.Common.{ap, ◌∙◌, rules}
use Rattle.audit.proofs.Compares.{compared_more}
use Rattle.audit.proofs.comparing.compare_rows.Goals as goal

pub loop-row-preserved : goal.loop-row-preserved
loop-row-preserved g c = compared_more _ _ _ _ _ _ _ _ _ _ c.loop-row.invariant (c.in_ok-symbol.ensures.2 ∙ ap (λ d. (g.S.ColumnStore.view c.loop-row.store).at d c.loop-row.row) c.column.ensures) c.in_ok-symbol.ensures.3 (search rules) c.same-holds.ensures

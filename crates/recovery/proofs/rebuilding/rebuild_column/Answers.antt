use Rattle.std.proofs.Common.{◌≡◌, ◌≤◌, true, ap, subst, arith}
use Rattle.std.proofs.lemmas.Bool.{le-leb}
use Rattle.code.specs.declared.shape.Shape.{Shape}
use Rattle.code.specs.Shapes.{columns_of}
use Rattle.repair.specs.Lists.{helper}
use Rattle.recovery.proofs.Accepted.{accepted, data_helpers}
use Rattle.recovery.proofs.rebuilding.rebuild_column.Goals as goal

pub rebuild_data-requires-clause-present : goal.rebuild_data-requires-clause-present
rebuild_data-requires-clause-present g c d one last helps =
    let s = c.args.shape in
    let v = g.S.ColumnStore.view c.args.store.now in
    let q = c.args.quote.now in
    let (es, ef) = c.in-Some.ensures in
    let u = c.in-Some.plan in
    let a = accepted s v q.column q.count _ c.requires in
    let low : q.column ≤ s.k = omega (arith, ef, ap (λ (x : Shape). x.k) es, u.is_data.1) in
    data_helpers s v q.column (le-leb q.column s.k low) a.helpers d one (subst (λ x. d ≤ columns_of x) es last) (subst (λ x. helper s x d ≡ true) ef (subst (λ x. helper x u.lost d ≡ true) es helps))

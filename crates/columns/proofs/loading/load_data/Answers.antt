use Rattle.std.proofs.Common.{sym}
use Rattle.store.specs.View.{counts_as_lost}
use Rattle.array.proofs.Checked.{is_present}
use Rattle.array.proofs.Lowest.{none_lost}
use Rattle.columns.proofs.loading.load_data.Goals as goal

pub gather-requires-clause-present : goal.gather-requires-clause-present
gather-requires-clause-present g c =
    let v = g.S.ColumnStore.view c.args.store.now in
    λ d one last. is_present v d (none_lost (counts_as_lost v) c.args.shape.k (sym c.in_default.ensures) d one last)

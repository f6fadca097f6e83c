use Rattle.std.proofs.Common.{◌≡◌, ℕ, ◌<◌, get_or}
use Rattle.store.specs.View.{metered}
use Rattle.columns.proofs.loading.load_column.Given as goal

abbrev pub invariant-loop-row : goal.invariant-loop-row
invariant-loop-row g l =
    let v = g.S.ColumnStore.view l.initial.store in
    (g.S.ColumnStore.view l.store ≡ metered l.row v) × ((y : ℕ) → y < l.row → get_or l.part y g.X.Symbol.zero ≡ v.at l.column y)

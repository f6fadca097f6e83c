use Rattle.columns.specs.Progress.{Gathered}
use Rattle.columns.proofs.loading.gather.Given as goal

abbrev pub invariant-loop-c : goal.invariant-loop-c
invariant-loop-c g l = Gathered g.X.Symbol.zero l.rows (g.S.ColumnStore.view l.initial.store) l.c l.initial.work (g.S.ColumnStore.view l.store) l.work

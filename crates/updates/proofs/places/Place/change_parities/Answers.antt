use Rattle.std.proofs.Common.{◌+◌, ◌-◌, arith, rules}
use Rattle.code.specs.Shapes.{parities_of, rows_of}
use Rattle.updates.specs.Updates.{carries}
use Rattle.updates.proofs.Carries.{count_low, carried_low, parities_next, parities_all}
use Rattle.updates.proofs.places.Place.change_parities.Goals as goal

pub overflow_add-count : goal.overflow_add-count
overflow_add-count g c =
    let p = c.args.self in
    let parity = c.loop-parity.parity in
    omega (arith, c.loop-parity.invariant.reads, c.in_ok-count.ensures.reads, carried_low p.shape (g.S.ColumnStore.view c.args.store.now) p.column p.row (parity - 1), count_low (rows_of p.shape) (carries p.shape (g.S.ColumnStore.view c.loop-parity.store) p.column p.row (p.shape.k + parity)), p.shape.small, c.parities-parity-end.ensures)

pub loop-parity-preserved : goal.loop-parity-preserved
loop-parity-preserved g c =
    let p = c.args.self in
    parities_next g.X.Symbol.plus c.args.change p.shape p.column p.row c.loop-parity.parity _ _ _ _ _ _ c.requires (omega arith) (search rules) (omega arith) c.loop-parity.invariant c.in_ok-count.ensures

pub returns-in_ok-count : goal.returns-in_ok-count
returns-in_ok-count g c =
    let p = c.args.self in
    parities_all g.X.Symbol.plus c.args.change p.shape p.column p.row _ _ _ c.requires
    (parities_next g.X.Symbol.plus c.args.change p.shape p.column p.row c.loop-parity.parity (parities_of p.shape) _ _ _ _ _ c.requires (omega arith) (search rules) (search rules) c.loop-parity.invariant c.in_ok-count.ensures)

use Rattle.std.proofs.Common.{◌*◌, ◌≤◌, length, ap, rules, arith}
use Rattle.columns.specs.Columns.{data_of}
use Rattle.columns.proofs.Passed.{written}
use Rattle.columns.proofs.parities.write_parity.Goals as goal

pub returns : goal.returns
returns g c =
    let u = c.in_ok-rule.rule in
    let s = c.args.shape in
    let room : data_of s ≤ length c.args.cells.now = omega (arith, ap (λ r. s.k * r) c.rows.ensures) in
    written g.S.ColumnStore.view g.X.Symbol.zero g.X.Symbol.plus s u.shape c.args.store.now c.write_rows.new.store c.admit.new.store c.args.column u.parity c.args.cells.now c.admit.result (search rules) (search rules) u.is_parity c.in_ok-check_fit.ensures room c.in_ok-write_rows.ensures c.admit.ensures

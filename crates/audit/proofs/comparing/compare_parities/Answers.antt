use Rattle.std.proofs.Common.{arith, rules}
use Rattle.audit.proofs.Compares.{matched_next}
use Rattle.audit.proofs.comparing.compare_parities.Goals as goal

pub loop-parity-preserved : goal.loop-parity-preserved
loop-parity-preserved g c =
    let u = c.unwrap-rule.result in
    matched_next g.X.Symbol.zero g.X.Symbol.plus c.args.shape u.shape _ _ _ _ c.loop-parity.parity u.parity _ _ _ (search rules) (search rules) (omega arith) (omega arith) c.loop-parity.invariant c.in_ok-holds.ensures

pub returns-in_ok-holds : goal.returns-in_ok-holds
returns-in_ok-holds g c =
    let u = c.unwrap-rule.result in
    matched_next g.X.Symbol.zero g.X.Symbol.plus c.args.shape u.shape _ _ _ _ c.loop-parity.parity u.parity _ _ _ (search rules) (search rules) (search rules) (omega arith) c.loop-parity.invariant c.in_ok-holds.ensures

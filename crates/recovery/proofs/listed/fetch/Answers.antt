use Rattle.std.proofs.Common.{sym, ◌∙◌, rules, arith}
use Rattle.std.proofs.lemmas.List.{set-get_or}
use Rattle.recovery.proofs.Reading.{fetched_read, fetched_skip}
use Rattle.recovery.proofs.listed.fetch.Goals as goal

pub loop-row-preserved-then-not-listed : goal.loop-row-preserved-then-not-listed
loop-row-preserved-then-not-listed g c = rw set-get_or (omega arith, fetched_skip _ _ _ _ _ _ _ _ c.loop-row.invariant.1 (sym c.listed.ensures ∙ c.if-not-listed.true))

pub loop-row-preserved : goal.loop-row-preserved
loop-row-preserved g c = (omega arith, fetched_read _ _ _ _ _ _ _ _ _ _ (omega arith) c.loop-row.invariant.1 (sym c.listed.ensures ∙ c.if-not-listed.false) (search rules) (search rules))

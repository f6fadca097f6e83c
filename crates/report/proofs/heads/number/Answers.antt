use Rattle.std.proofs.Common.{rules}
use Rattle.report.specs.Heads.{number_in}
use Rattle.report.proofs.heads.number.Goals as goal

pub returns-in_err-byte : goal.returns-in_err-byte
unfolding number_in
returns-in_err-byte c = search rules

pub returns : goal.returns
unfolding number_in
returns c = search rules

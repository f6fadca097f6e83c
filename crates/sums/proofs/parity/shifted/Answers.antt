use Rattle.std.proofs.Common.{arith}
use Rattle.sums.proofs.Steps.{turned, unturned}
use Rattle.sums.proofs.parity.shifted.Goals as goal

pub returns-then-x-positions : goal.returns-then-x-positions
returns-then-x-positions c = record { is = unturned c.args.positions c.args.shift c.args.position (omega arith); below = omega arith }

pub returns-else-x-positions : goal.returns-else-x-positions
returns-else-x-positions c = record { is = turned c.args.positions c.args.shift c.args.position c.requires.shift c.requires.position (omega arith); below = omega arith }

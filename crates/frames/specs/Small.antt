-- A meter counts modulo 2^64.
use Rattle.std.specs.Prelude.{ℕ, ◌%◌, ◌^◌, ◌<◌}
use Rattle.std.proofs.Common.{arith}

pub meter_small : (n : ℕ) → n % 2 ^ 64 < 2 ^ 64
meter_small n = omega arith

use Rattle.std.proofs.Common.{◌≡◌, ◌*◌, ◌++◌, take, drop}
use Rattle.symbol.specs.Hex.{all_digits, unhex}
use Rattle.symbol.proofs.hex.read_hex.Given as goal

-- what is left of the part says the rest
abbrev pub invariant-loop-i : goal.invariant-loop-i
invariant-loop-i l = (all_digits l.part ≡ all_digits (drop (2 * l.i) l.part)) × (unhex l.part ≡ take l.i l.bytes ++ unhex (drop (2 * l.i) l.part))

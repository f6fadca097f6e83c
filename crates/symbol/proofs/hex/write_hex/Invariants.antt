use Rattle.std.proofs.Common.{◌≡◌, ◌*◌, ◌++◌, take, drop}
use Rattle.symbol.specs.Hex.{hex}
use Rattle.symbol.proofs.hex.write_hex.Given as goal

-- what is left of the bytes gives the rest
abbrev pub invariant-loop-i : goal.invariant-loop-i
invariant-loop-i l = hex l.bytes ≡ take (2 * l.i) l.part ++ hex (drop l.i l.bytes)

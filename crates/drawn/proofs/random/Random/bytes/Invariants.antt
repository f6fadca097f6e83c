use Rattle.std.proofs.Common.{◌≡◌, ℕ, ◌<◌, get_or}
use Rattle.drawn.specs.Drawn.{after, drawn_byte}
use Rattle.drawn.proofs.random.Random.bytes.Given as goal

abbrev pub invariant-loop-byte : goal.invariant-loop-byte
invariant-loop-byte l = record {
  state : l.self.0 ≡ after l.byte-index l.initial.self.0;
  bytes : (k : ℕ) → k < l.byte-index → get_or l.byte-items k 0 ≡ drawn_byte l.initial.self.0 k;
}

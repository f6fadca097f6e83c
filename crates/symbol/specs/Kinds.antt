-- What the readers and writers of a kind of symbol answer, and what they leave.
use Rattle.std.specs.Prelude.{◌≡◌, ℕ, ◌*◌, Bool, true, false, cond, List, length, Some, None, Option, Ok, Err, Result, ◌==◌, ◌≢◌}
use Rattle.symbol.specs.Hex.{is_hex, unhex, Octets}

-- whether two symbols are the same
pub record Tells {X : Type 0} (x y : X) (answer : Bool) : Type 0 where
  pub so : answer ≡ true → x ≡ y
  pub if_so : x ≡ y → answer ≡ true

-- the symbol of a part of w bytes; none if the part has another length
abbrev pub from_bytes : {X : Type 0} → ℕ → (List ℕ → X) → List ℕ → Option X
from_bytes w symbol part = cond (length part == w) (Some (symbol part)) None

-- the symbol of a part of 2 * w digits; none if the part is anything else
abbrev pub from_digits : {X : Type 0} → ℕ → (List ℕ → X) → List ℕ → Option X
from_digits w symbol part = cond (is_hex (2 * w) part) (Some (symbol (unhex part))) None

-- the bytes were written over the whole part; or the part has another length and is as it was
abbrev pub Wrote : {E : Type 0} → List ℕ → List ℕ → List ℕ → Result Unit E → Type 0
Wrote bytes before after (Ok done) = (length before ≡ length bytes) × (after ≡ bytes) × Octets bytes
Wrote bytes before after (Err e) = (length before ≢ length bytes) × (after ≡ before)

-- the part was digits, and the bytes are what they stand for; or it was not as many digits as the bytes ask
abbrev pub Unhexed : List ℕ → List ℕ → List ℕ → Option Unit → Type 0
Unhexed part before after (Some done) = (is_hex (2 * length before) part ≡ true) × (after ≡ unhex part)
Unhexed part before after None = is_hex (2 * length before) part ≡ false

-- What a call makes of an input: a text, or none.
use Rattle.std.specs.Prelude.{◌≡◌, ℕ, List, Ok, Err, Result}
use Rattle.std.specs.Bool.{⊤}
use Rattle.report.specs.declared.failure.Failure.{Failure}
use Rattle.report.specs.declared.failure.Failure.TheVariants.{Refused, NoMemory}
use Rattle.report.specs.Printed.{refused}

-- the line of a refusal stands in the text's place; if memory runs out, nothing is said
abbrev pub Stops : List ℕ → Failure → Type 0
Stops out (Refused e) = refused e ≡ out
Stops out (NoMemory e) = ⊤

abbrev pub Prints : {T : Type 0} (bytes : T → List ℕ) → List ℕ → Result T Failure → Type 0
Prints bytes out (Ok text) = bytes text ≡ out
Prints bytes out (Err e) = Stops out e

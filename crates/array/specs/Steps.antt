-- A step of an accepted call: what the store answers and leaves, its refusal told as number 16.
use Rattle.std.specs.Prelude.{◌≡◌, Ok, Err, Result}
use Rattle.code.specs.declared.refusal.Refusal.{Refusal}
use Rattle.code.specs.declared.refusal.Refusal.TheVariants.{StoreRefused}
use Rattle.code.specs.Refusals.{number_of}

-- P says what the store answers and leaves
abbrev pub Stepped : {A : Type 0} → (Result A Refusal → Type 0) → Result A Refusal → Type 0
Stepped P (Ok a) = P (Ok a)
Stepped P (Err e) = (cause : Refusal) × P (Err cause) × (e ≡ StoreRefused (number_of cause))

-- the steps of a call were accepted, since its checks came first; its answer and what it leaves are P's
abbrev pub Accepts : {A : Type 0} → (A → Type 0) → Result A Refusal → Type 0
Accepts P (Ok a) = P a
Accepts P (Err e) = ⊥

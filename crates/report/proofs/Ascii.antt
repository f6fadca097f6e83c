-- The line of a frame is ASCII, and so it is UTF-8.
use Rattle.std.proofs.Common.{ℕ, zero, suc, ◌/◌, ◌%◌, ◌<◌, List, [], ◌∷◌, ◌++◌, Ok, Err, Result, MatchResult, refl, arith}
use Rattle.std.proofs.lemmas.Bool.Decides.{nat_tests}
use Rattle.std.proofs.lemmas.Str.{IsUtf8-from_ascii}
use Rattle.std.specs.Result.{IsOk}
use Rattle.std.specs.Str.{IsAscii, IsUtf8}
use Rattle.symbol.specs.declared.byte.Byte.{Byte}
use Rattle.symbol.specs.Hex.{digit_of, hex}
use Rattle.report.specs.Printed.{present}

none : IsAscii []
none i = omega arith

more : (b : ℕ) (bs : List ℕ) → b < 128 → IsAscii bs → IsAscii (b ∷ bs)
more b bs h o zero = h
more b bs h o (suc i) = o i

digit_low : (v : ℕ) → v < 16 → digit_of v < 128
digit_low v h = grind (arith, nat_tests)

byte_low : (n : ℕ) (bs : List ℕ) → n < 256 → IsAscii bs → IsAscii (hex (n ∷ []) ++ bs)
byte_low n bs h o = more (digit_of (n / 16)) (digit_of (n % 16) ∷ bs) (digit_low (n / 16) (omega arith)) (more (digit_of (n % 16)) bs (digit_low (n % 16) (omega arith)) o)

frame_ascii : (c r : ℕ) (x : Byte) → c < 256 → r < 65536 → x.value < 256 → IsAscii (present c r x)
frame_ascii c r x column row value =
    let end : List ℕ = 10 ∷ [] in
    let symbol : List ℕ = hex (x.value ∷ []) ++ end in
    let low : List ℕ = hex (r % 256 ∷ []) ++ (32 ∷ symbol) in
    let high : List ℕ = hex (r / 256 ∷ []) ++ low in
    let place : List ℕ = hex (c ∷ []) ++ (32 ∷ high) in
    more 80 (32 ∷ place) (omega arith) (more 32 place (omega arith) (byte_low c (32 ∷ high) column (more 32 high (omega arith)
    (byte_low (r / 256) low (omega arith) (byte_low (r % 256) (32 ∷ symbol) (omega arith) (more 32 symbol (omega arith)
    (byte_low x.value end value (more 10 [] (omega arith) none))))))))

pub frame_is_text : (c r : ℕ) (x : Byte) → c < 256 → r < 65536 → x.value < 256 → IsUtf8 (present c r x)
frame_is_text c r x column row value = IsUtf8-from_ascii (present c r x) (frame_ascii c r x column row value)

-- a text is taken as one
pub is_taken : {S E : Type 0} (P : S → Type 0) (Q : E → Type 0) (bs : List ℕ) (r : Result S E) → MatchResult r P (λ e. (¬ (IsUtf8 bs)) × Q e) → IsUtf8 bs → IsOk r
is_taken P Q bs (Ok s) h text = refl
is_taken P Q bs (Err e) h text = absurd (h.0 text)

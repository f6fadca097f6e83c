-- Digits and the bytes that they stand for: lengths, there and back, and one more pair.
use Rattle.std.proofs.Common.{◌≡◌, ℕ, zero, suc, ◌+◌, ◌*◌, ◌/◌, ◌%◌, ◌<◌, ◌≤◌, true, List, [], ◌∷◌, ◌++◌, length, get_or, take, drop, set, refl, ap, ◌∙◌, arith}
use Rattle.std.proofs.lemmas.List.{append_assoc, append-nil, drop_all, drop_more, take_all, take_more_set}
use Rattle.std.proofs.lemmas.Bool.Decides.{nat_tests}
use Rattle.symbol.specs.Hex.{digit_of, is_digit, worth, all_digits, is_hex, hex, unhex, Octets}

pub worth_digit : (v : ℕ) → worth (digit_of v) ≡ v
worth_digit v = grind (arith, nat_tests)

pub digit_worth : (b : ℕ) → is_digit b ≡ true → digit_of (worth b) ≡ b
digit_worth b h = grind (arith, nat_tests)

pub digit_is : (v : ℕ) → v < 16 → is_digit (digit_of v) ≡ true
digit_is v h = grind (arith, nat_tests)

pub worth_small : (b : ℕ) → is_digit b ≡ true → worth b < 16
worth_small b h = grind (arith, nat_tests)

-- what is_hex says
pub hex_long : (n : ℕ) (s : List ℕ) → is_hex n s ≡ true → length s ≡ n
hex_long n s h = grind (arith, nat_tests)

pub hex_digits : (n : ℕ) (s : List ℕ) → is_hex n s ≡ true → all_digits s ≡ true
hex_digits n s h = grind (arith, nat_tests)

pub is_hex_from : (n : ℕ) (s : List ℕ) → length s ≡ n → all_digits s ≡ true → is_hex n s ≡ true
is_hex_from n s e h = grind (arith, nat_tests)

-- the first two of some digits, and the others
pub first_pair : (a b : ℕ) (s : List ℕ) → all_digits (a ∷ b ∷ s) ≡ true → (is_digit a ≡ true) × (is_digit b ≡ true) × (all_digits s ≡ true)
first_pair a b s h = (grind (arith, nat_tests), grind (arith, nat_tests), grind (arith, nat_tests))

pub octets_cons : (b : ℕ) (bs : List ℕ) → b < 256 → Octets bs → Octets (b ∷ bs)
octets_cons b bs h o zero l = h
octets_cons b bs h o (suc i) l = o i (omega arith)

pub length_hex : (bs : List ℕ) → length (hex bs) ≡ 2 * length bs
length_hex [] = refl
length_hex (b ∷ bs) = omega (arith, length_hex bs)

pub length_unhex : (s : List ℕ) → length (unhex s) ≡ length s / 2
length_unhex [] = refl
length_unhex (a ∷ []) = refl
length_unhex (a ∷ b ∷ s) = omega (arith, length_unhex s)

pub hex_back : (bs : List ℕ) → unhex (hex bs) ≡ bs
hex_back [] = refl
hex_back (b ∷ bs) =
    let e : 16 * (b / 16) + b % 16 ≡ b = omega arith in
    rw (worth_digit (b / 16), worth_digit (b % 16), e, hex_back bs)

digits_there : (s : List ℕ) → length s % 2 ≡ 0 → all_digits s ≡ true → hex (unhex s) ≡ s
digits_there [] e h = refl
digits_there (a ∷ []) e h = absurd (omega arith)
digits_there (a ∷ b ∷ s) e h =
    let f = first_pair a b s h in
    let small = worth_small b f.1 in
    let high : (16 * worth a + worth b) / 16 ≡ worth a = omega arith in
    let low : (16 * worth a + worth b) % 16 ≡ worth b = omega arith in
    rw (high, low, digit_worth a f.0, digit_worth b f.1, digits_there s (omega arith) f.2)

pub hex_there : (n : ℕ) (s : List ℕ) → is_hex (2 * n) s ≡ true → hex (unhex s) ≡ s
hex_there n s h = digits_there s (omega (arith, hex_long (2 * n) s h)) (hex_digits (2 * n) s h)

pub digits_octets : (s : List ℕ) → all_digits s ≡ true → Octets s
digits_octets [] h = λ i l. absurd (omega arith)
digits_octets (b ∷ s) h = octets_cons b s (grind (arith, nat_tests)) (digits_octets s (grind (arith, nat_tests)))

bytes_octets : (s : List ℕ) → all_digits s ≡ true → Octets (unhex s)
bytes_octets [] h = λ i l. absurd (omega arith)
bytes_octets (a ∷ []) h = λ i l. absurd (omega arith)
bytes_octets (a ∷ b ∷ s) h =
    let f = first_pair a b s h in
    let high = worth_small a f.0 in
    let low = worth_small b f.1 in
    octets_cons _ (unhex s) (omega arith) (bytes_octets s f.2)

pub unhex_octets : (n : ℕ) (s : List ℕ) → is_hex (2 * n) s ≡ true → Octets (unhex s)
unhex_octets n s h = bytes_octets s (hex_digits (2 * n) s h)

pub hex_all_digits : (bs : List ℕ) → Octets bs → all_digits (hex bs) ≡ true
hex_all_digits [] o = refl
hex_all_digits (b ∷ bs) o =
    let small : b < 256 = o 0 (omega arith) in
    rw (digit_is (b / 16) (omega arith), digit_is (b % 16) (omega arith)) (hex_all_digits bs (λ i l. o (suc i) (omega arith)))

pub hex_is_hex : (bs : List ℕ) → Octets bs → is_hex (2 * length bs) (hex bs) ≡ true
hex_is_hex bs o = is_hex_from (2 * length bs) (hex bs) (length_hex bs) (hex_all_digits bs o)

-- pair i and the digits after it
pub drop_pair : (s : List ℕ) (i : ℕ) → 2 * i + 1 < length s → drop (2 * i) s ≡ get_or s (2 * i) 0 ∷ get_or s (2 * i + 1) 0 ∷ drop (2 * (i + 1)) s
drop_pair s i h =
    let e : 2 * (i + 1) ≡ 2 * i + 1 + 1 = omega arith in
    rw e (drop_more s (2 * i) 0 (omega arith) ∙ ap (λ r. get_or s (2 * i) 0 ∷ r) (drop_more s (2 * i + 1) 0 h))

-- pair i is read
pub unhex_more : (s bs : List ℕ) (i v : ℕ) → 2 * i + 1 < length s → i < length bs → v ≡ 16 * worth (get_or s (2 * i) 0) + worth (get_or s (2 * i + 1) 0) →
    take i bs ++ unhex (drop (2 * i) s) ≡ take (i + 1) (set bs i v) ++ unhex (drop (2 * (i + 1)) s)
unhex_more s bs i v h l e = rw (drop_pair s i h, take_more_set, append_assoc, e)

-- nothing is left
pub front_all : (F : List ℕ → List ℕ) (s t : List ℕ) (m n : ℕ) → F [] ≡ [] → length s ≤ m → length t ≤ n → take m s ++ F (drop n t) ≡ s
front_all F s t m n e h l = rw (take_all m s h, drop_all n t l, e) (append-nil s)

-- What `{:02X}` and `{:04X}` print.
use Rattle.std.proofs.Common.{◌≡◌, ℕ, ◌-◌, ◌/◌, ◌%◌, ◌^◌, ◌<◌, ◌≤◌, true, false, ◌==◌, List, [], ◌∷◌, inl, inr, arith}
use Rattle.std.proofs.lemmas.Bool.{cases_lt, ne_eqb}
use Rattle.std.specs.Fmt.{char_count, digits, padded_integral, format_spec}
use Rattle.symbol.specs.Hex.{hex}

-- the hexadecimal digits of n, with zeros before them up to w
abbrev pub hexed : ℕ → ℕ → List ℕ
hexed w n = padded_integral (format_spec 32 0 4 w (2 ^ 64 - 1)) false [] (digits 16 true n)

one : (n : ℕ) → n < 16 → hexed 2 n ≡ hex (n ∷ [])
unfolding digits padded_integral char_count
one n low = let a : n / 16 ≡ 0 = omega arith in let b : n % 16 ≡ n = omega arith in simp (a, b)

two : (n : ℕ) → n < 256 → 16 ≤ n → hexed 2 n ≡ hex (n ∷ [])
unfolding digits padded_integral char_count
two n low high = let a : (n / 16 == 0) ≡ false = ne_eqb (n / 16) 0 (λ e. omega arith) in let b : n / 16 / 16 ≡ 0 = omega arith in let c : n / 16 % 16 ≡ n / 16 = omega arith in simp (a, b, c)

pub byte_digits : (n : ℕ) → n < 256 → hexed 2 n ≡ hex (n ∷ [])
byte_digits n low = elim (cases_lt n 16) [ inl k ↦ one n k | inr k ↦ two n low k ]

module _ (n : ℕ) where
  b : n / 256 ≡ n / 16 / 16
  b = omega arith

  c : n % 256 / 16 ≡ n / 16 % 16
  c = omega arith

  d : n % 256 % 16 ≡ n % 16
  d = omega arith

  not_yet : (m : ℕ) → 1 ≤ m → (m == 0) ≡ false
  not_yet m one = ne_eqb m 0 (λ e. omega arith)

  w1 : n < 16 → hexed 4 n ≡ hex (n / 256 ∷ n % 256 ∷ [])
  unfolding digits padded_integral char_count
  w1 low = let e : n / 16 ≡ 0 = omega arith in simp (b, c, d, e)

  w2 : 16 ≤ n → n < 256 → hexed 4 n ≡ hex (n / 256 ∷ n % 256 ∷ [])
  unfolding digits padded_integral char_count
  w2 high low = let e : (n / 16 == 0) ≡ false = not_yet (n / 16) (omega arith) in let f : n / 16 / 16 ≡ 0 = omega arith in simp (b, c, d, e, f)

  w3 : 256 ≤ n → n < 4096 → hexed 4 n ≡ hex (n / 256 ∷ n % 256 ∷ [])
  unfolding digits padded_integral char_count
  w3 high low = let e : (n / 16 == 0) ≡ false = not_yet (n / 16) (omega arith) in let f : (n / 16 / 16 == 0) ≡ false = not_yet (n / 16 / 16) (omega arith) in let g : n / 16 / 16 / 16 ≡ 0 = omega arith in simp (b, c, d, e, f, g)

  w4 : 4096 ≤ n → n < 65536 → hexed 4 n ≡ hex (n / 256 ∷ n % 256 ∷ [])
  unfolding digits padded_integral char_count
  w4 high low = let e : (n / 16 == 0) ≡ false = not_yet (n / 16) (omega arith) in let f : (n / 16 / 16 == 0) ≡ false = not_yet (n / 16 / 16) (omega arith) in let g : (n / 16 / 16 / 16 == 0) ≡ false = not_yet (n / 16 / 16 / 16) (omega arith) in let h : n / 16 / 16 / 16 / 16 ≡ 0 = omega arith in let i : n / 16 / 16 / 16 % 16 ≡ n / 16 / 16 / 16 = omega arith in simp (b, c, d, e, f, g, h, i)

pub word_digits : (n : ℕ) → n < 65536 → hexed 4 n ≡ hex (n / 256 ∷ n % 256 ∷ [])
word_digits n low = elim (cases_lt n 16) [
  | inl k ↦ w1 n k
  | inr k ↦ elim (cases_lt n 256) [
    | inl j ↦ w2 n k j
    | inr j ↦ elim (cases_lt n 4096) [ inl i ↦ w3 n j i | inr i ↦ w4 n i low ]
  ]
]

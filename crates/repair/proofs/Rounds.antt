-- One half serves for both: rounds of q blocks of h rows, classes t = q * h * c, and b stored blocks of t.
use Rattle.std.proofs.Common.{◌≡◌, ℕ, suc, ◌+◌, ◌-◌, ◌*◌, ◌/◌, ◌%◌, ◌<◌, ◌≤◌, cond, eqb, sym, refl, ap, ◌∙◌, inl, inr, add_assoc, mul-le-mul_right, mod-lt, mod-eq_of_lt, div-lt_iff_lt-mul, mul-le-mul_left, div-add-mod', arith}
use native.Mathlib.Nat.{zero-mod, mod-add-mod, add-mod-mod, mod_self, add-mul-mod_self_right, mod-mod_of_dvd, dvd-mul_right}
use Rattle.std.proofs.lemmas.Bool.{cases_lt, cases_eq, eq-eqb, ne_eqb}
use Rattle.ring.specs.Cyclic.{Covers, shifted}
use Rattle.ring.proofs.Residues.{mod_block, mod_wrap, mod_divisor, one_stays}

-- q - u, or 0 for u = 0: the blocks from a row to the next first block of a round
abbrev pub to_next : ℕ → ℕ → ℕ → ℕ
to_next q h row = cond (eqb ((row % (q * h)) / h) 0) 0 (q - (row % (q * h)) / h)

module _ (q h row δ : ℕ) (two : 2 ≤ q) (some : 0 < h) (low : δ < q) where
  round_pos : 0 < q * h
  round_pos = omega (arith, mul-le-mul_right h two)

  u : ℕ
  u = (row % (q * h)) / h

  m : ℕ
  m = (row % (q * h)) % h

  u_low : u < q
  unfolding u
  u_low = (div-lt_iff_lt-mul some).1 (mod-lt row round_pos)

  m_low : m < h
  unfolding m
  m_low = mod-lt _ some

  moved : (row + δ * h) % (q * h) ≡ ((u + δ) % q) * h + m
  unfolding u m
  moved =
      sym (mod-add-mod row (q * h) (δ * h))
      ∙ ap (λ x. x % (q * h)) (omega (arith, div-add-mod' (row % (q * h)) h))
      ∙ mod_block q h (u + δ) m (omega arith) m_low

  gap_is : to_next q h row ≡ cond (eqb u 0) 0 (q - u)
  unfolding u
  gap_is = refl

  -- the gap is the one step that brings a row into the first block of a round
  pub gap_there : to_next q h row ≡ δ → (row + δ * h) % (q * h) < h
  gap_there e =
      let a : (u + δ) % q ≡ 0 =
      elim (cases_eq u 0) [
        | inl z ↦ let d : δ ≡ 0 = sym e ∙ gap_is ∙ rw (eq-eqb u 0 z) in ap (λ x. x % q) (omega arith) ∙ zero-mod q
        | inr z ↦ let d : δ ≡ q - u = sym e ∙ gap_is ∙ rw (ne_eqb u 0 z) in ap (λ x. x % q) (omega (arith, u_low)) ∙ mod_self q
      ] in
      omega (arith, moved, m_low, ap (λ x. x * h) a)

  pub gap_back : (row + δ * h) % (q * h) < h → to_next q h row ≡ δ
  gap_back k =
      let a : (u + δ) % q ≡ 0 = elim (cases_lt 0 ((u + δ) % q)) [ inl l ↦ absurd (omega (arith, moved, mul-le-mul_right h l)) | inr l ↦ omega arith ] in
      gap_is ∙ elim (cases_eq u 0) [
        | inl z ↦ rw (eq-eqb u 0 z) (omega (arith, mod_wrap q (u + δ) (omega arith)))
        | inr z ↦ rw (ne_eqb u 0 z) (omega (arith, u_low, mod_wrap q (u + δ) (omega (arith, u_low))))
      ]

module _ (Q c b : ℕ) where
  abbrev N : ℕ
  N = suc b * (Q * c)

  covers_mod : (x r : ℕ) → Covers b (Q * c) x r → x % Q ≡ r % Q
  covers_mod x r (low, inl e) = ap (λ y. y % Q) e
  covers_mod x r (low, inr e) =
      ap (λ y. y % Q) (e ∙ omega arith)
      ∙ add-mul-mod_self_right (r % (Q * c)) (b * c) Q
      ∙ mod-mod_of_dvd Q r (dvd-mul_right Q c)

  -- the position that is y on from a row and z back
  abbrev pub moved_to : ℕ → ℕ → ℕ → ℕ
  moved_to y z row = shifted N z ((row + y) % N)

  moved_to_is : (y z row : ℕ) → moved_to y z row ≡ (row + (y + (N - z))) % N
  moved_to_is y z row = mod-add-mod (row + y) N _ ∙ ap (λ x. x % N) (add_assoc row y _)

  -- forwards: residues
  pub same_residue : (y z row r : ℕ) → z ≤ N → Covers b (Q * c) (moved_to y z row) r → (r + z) % Q ≡ (row + y) % Q
  same_residue y z row r hz o =
      sym (mod-add-mod r Q z)
      ∙ ap (λ x. (x + z) % Q) (sym (covers_mod (moved_to y z row) r o) ∙ ap (λ x. x % Q) (moved_to_is y z row) ∙ mod_divisor (suc b) Q c _)
      ∙ mod-add-mod _ Q z
      ∙ ap (λ x. x % Q) (omega arith)
      ∙ add-mul-mod_self_right (row + y) (suc b * c) Q

  -- backwards: some row from which r is met
  pub met : (y z r : ℕ) → r < b * (Q * c) → (row : ℕ) × (row < b * (Q * c)) × Covers b (Q * c) (moved_to y z row) r
  met y z r low =
      elim (one_stays b (Q * c) r back low (mod-lt _ NPos)) [
        | inl h ↦ ((r + back) % N, h, (low, inl (turned r (omega arith))))
        | inr h ↦ ((b * (Q * c) + r % (Q * c) + back) % N, h, (low, inr (turned (b * (Q * c) + r % (Q * c)) (omega (arith, mod-lt r some)))))
      ]
    where
      some : 0 < Q * c
      some = elim (cases_lt 0 (Q * c)) [ inl h ↦ h | inr h ↦ omega (arith, mul-le-mul_left b h) ]

      NPos : 0 < N
      NPos = omega (arith, some)

      D : ℕ
      D = (y + (N - z)) % N

      back : ℕ
      back = (N - D) % N

      whole : (back + D) % N ≡ 0
      whole = mod-add-mod (N - D) N D ∙ ap (λ x. x % N) (omega (arith, mod-lt (y + (N - z)) NPos)) ∙ mod_self N

      turned : (x : ℕ) → x < N → moved_to y z ((x + back) % N) ≡ x
      turned x h =
          moved_to_is y z _
          ∙ mod-add-mod (x + back) N (y + (N - z))
          ∙ sym (add-mod-mod (x + back) (y + (N - z)) N)
          ∙ ap (λ u. u % N) (add_assoc x back D)
          ∙ sym (add-mod-mod x (back + D) N)
          ∙ ap (λ u. (x + u) % N) whole
          ∙ ap (λ u. u % N) (omega arith)
          ∙ mod-eq_of_lt h

-- what the rows of one gap need of a column that is shifted by z: just the rows that z brings into the first block
module _ (q h c b : ℕ) (two : 2 ≤ q) (some : 0 < h) (δ z r : ℕ) (low : δ < q) (hz : z ≤ suc b * (q * h * c)) where
  pub need_there : (row : ℕ) → to_next q h row ≡ δ → Covers b (q * h * c) (moved_to (q * h) c b (δ * h) z row) r → (r + z) % (q * h) < h
  need_there row e o = omega (arith, same_residue (q * h) c b (δ * h) z row r hz o, gap_there q h row δ two some low e)

  pub need_back : r < b * (q * h * c) → (r + z) % (q * h) < h → (row : ℕ) × (row < b * (q * h * c)) × (to_next q h row ≡ δ) × Covers b (q * h * c) (moved_to (q * h) c b (δ * h) z row) r
  need_back within k =
      let (row, hrow, o) = met (q * h) c b (δ * h) z r within in
      (row, hrow, gap_back q h row δ two some low (omega (arith, same_residue (q * h) c b (δ * h) z row r hz o)), o)

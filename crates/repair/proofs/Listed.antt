-- The reading list is just what the rows need.
use Rattle.std.proofs.Common.{◌≡◌, ℕ, ◌+◌, ◌-◌, ◌*◌, ◌%◌, ◌^◌, ◌<◌, ◌≤◌, Bool, true, false, cond, not, ◌&&◌, ◌||◌, eqb, ltb, leb, ◌⊎◌, sym, refl, ap, ◌∙◌, subst, inl, inr, add-zero, mod-lt, mul_assoc, zero-mul, arith}
use native.Mathlib.Nat.{mod-add-mod, pow-succ', pow-le-pow_right, add-mul-mod_self_right}
use Rattle.std.proofs.lemmas.Bool.{cases_lt, cases_eq, cases_Bool, ne_eqb, lt-ltb, le-ltb, le-leb, lt-leb, leb-true, ltb-true, or_cases, or_left, or_right, and_parts, and_from, not-true, eqb-false}
use Rattle.std.proofs.lemmas.Bool.Decides.{nat_tests}
use Rattle.ring.specs.Cyclic.{Covers}
use Rattle.ring.proofs.Window.{window}
use Rattle.code.specs.declared.shape.Shape.{Shape}
use Rattle.code.specs.Shapes.{classes_of, rows_of}
use Rattle.repair.specs.Halves.{first_half, depth, near, span}
use Rattle.repair.specs.Steps.{step}
use Rattle.repair.specs.Rows.{chosen, Needs}
use Rattle.repair.specs.Lists.{helper, helping, home, added}
use Rattle.repair.specs.Laws.{NeededIsListed}
use Rattle.repair.proofs.Rounds.{moved_to, need_there, need_back}
use Rattle.repair.proofs.Frame as F
use Rattle.repair.proofs.Frame.{parity_at, pow_at}

module _ (s : Shape) (f : ℕ) (one : 1 ≤ f) (last : f ≤ s.k) where
  abbrev Q : ℕ
  Q = s.q * span s f

  -- by a gap's shift, row r of column i comes into the first block of a round
  abbrev Comes : ℕ → ℕ → Type 0
  Comes i r = (δ : ℕ) × (δ < s.q) × ((r + δ * step s f i) % Q < span s f)

  -- it is there, or in the window of a near column
  abbrev Got : ℕ → ℕ → Type 0
  Got i r = (r % Q < span s f) ⊎ ((near s f i < depth s f) × (Q - (s.q - 1) * s.q ^ (near s f i - 1) ≤ r % Q))

  near_other : (i : ℕ) → 1 ≤ i → i ≤ s.k → (i ≡ f → ⊥) → (near s f i ≡ depth s f → ⊥) × (1 ≤ near s f i)
  near_other i lo hi ne = (λ e. apart (first_half s f) (e ∙ sym (F.near_depth s f one last)), pos (first_half s f))
    where
      apart : (b : Bool) → cond b i (s.k + 1 - i) ≡ cond b f (s.k + 1 - f) → ⊥
      apart true e = ne e
      apart false e = ne (omega arith)

      pos : (b : Bool) → 1 ≤ cond b i (s.k + 1 - i)
      pos true = lo
      pos false = omega arith

  -- a far column's step is a multiple of Q
  far : (i : ℕ) → depth s f < near s f i → (e : ℕ) × (step s f i ≡ e * Q)
  far i h =
      elim (cases_lt (near s f i) s.k) [
        | inl a ↦ (s.q ^ (near s f i - 1 - depth s f), rw (lt-ltb (near s f i) s.k a) (pow_at s.q (near s f i - 1 - depth s f) (depth s f) (near s f i - 1) (omega arith) ∙ ap (λ x. s.q ^ (near s f i - 1 - depth s f) * x) (F.round_is s f one last)))
        | inr a ↦ (0, rw (le-ltb (near s f i) s.k a) (sym (zero-mul Q)))
      ]

  stays : (r δ w e : ℕ) → w ≡ e * Q → (r + δ * w) % Q ≡ r % Q
  stays r δ w e h = ap (λ x. (r + δ * x) % Q) h ∙ ap (λ x. (r + x) % Q) (sym (mul_assoc δ e Q)) ∙ add-mul-mod_self_right r (δ * e) Q

  pub step_near : (i : ℕ) → near s f i < depth s f → step s f i ≡ s.q ^ (near s f i - 1)
  step_near i h = rw (lt-ltb (near s f i) s.k (omega (arith, F.depth_high s f one last)))

  pub narrow : (i : ℕ) → 1 ≤ near s f i → near s f i < depth s f → s.q * s.q ^ (near s f i - 1) ≤ span s f
  narrow i lo h = rw (← pow-succ') (pow-le-pow_right (omega arith) (omega arith))

  unmoved : (i r : ℕ) → r + 0 * step s f i ≡ r
  unmoved i r = omega (arith, zero-mul (step s f i))

  comes_got : (i r : ℕ) → 1 ≤ i → i ≤ s.k → (i ≡ f → ⊥) → Comes i r → Got i r
  comes_got i r lo hi ne (δ, hδ, k) =
      elim (cases_lt (near s f i) (depth s f)) [
        | inl a ↦
            let e : (r % Q + δ * s.q ^ (near s f i - 1)) % Q < span s f = rw mod-add-mod (rw (step_near i a) at k) in
            elim (cases_eq δ 0) [
              | inl z ↦ inl (subst (λ x. x % Q < span s f) (ap (λ d. r + d * step s f i) z ∙ unmoved i r) k)
              | inr z ↦ elim ((window s.q (s.q ^ (near s f i - 1)) (span s f) (r % Q) s.helping.0 (narrow i (near_other i lo hi ne).1 a) (mod-lt r (F.round_pos s f one last))).0 (inl (δ, omega arith, omega arith, e))) [
                | inl x ↦ inl x
                | inr x ↦ inr (a, x)
              ]
            ]
        | inr a ↦ let (e, w) = far i (omega (arith, (near_other i lo hi ne).0)) in inl (subst (λ x. x < span s f) (stays r δ _ e w) k)
      ]

  got_comes : (i r : ℕ) → 1 ≤ i → i ≤ s.k → (i ≡ f → ⊥) → Got i r → Comes i r
  got_comes i r lo hi ne (inl x) = (0, omega arith, subst (λ y. y % Q < span s f) (sym (unmoved i r)) x)
  got_comes i r lo hi ne (inr (a, x)) =
      elim ((window s.q (s.q ^ (near s f i - 1)) (span s f) (r % Q) s.helping.0 (narrow i (near_other i lo hi ne).1 a) (mod-lt r (F.round_pos s f one last))).1 (inr x)) [
        | inl (δ, l, m, y) ↦ (δ, omega arith, rw (step_near i a) (rw mod-add-mod at y))
        | inr y ↦ (0, omega arith, subst (λ y. y % Q < span s f) (sym (unmoved i r)) y)
      ]

  -- the tests
  abbrev GotBy : ℕ → ℕ → ℕ → Type 0
  GotBy i r m = (r % m < span s f) ⊎ ((near s f i < depth s f) × (m - (s.q - 1) * s.q ^ (near s f i - 1) ≤ r % m))

  test_got : (i r : ℕ) → i ≤ s.k → (home s f r || added s f i r) ≡ true → Got i r
  test_got i r hi e =
      subst (GotBy i r) (F.round_is s f one last)
      (elim (or_cases (home s f r) (added s f i r) e) [
        | inl a ↦ inl (ltb-true _ _ a)
        | inr a ↦ let b = and_parts _ _ (and_parts _ _ a).1 in inr (ltb-true _ _ b.0, leb-true _ _ b.1)
      ])

  got_test : (i r : ℕ) → i ≤ s.k → Got i r → (home s f r || added s f i r) ≡ true
  got_test i r hi x =
      elim (subst (GotBy i r) (sym (F.round_is s f one last)) x) [
        | inl a ↦ or_left (home s f r) (added s f i r) (lt-ltb _ _ a)
        | inr a ↦ or_right (home s f r) (added s f i r) (and_from _ _ (le-leb _ _ hi) (and_from _ _ (lt-ltb _ _ a.0) (le-leb _ _ a.1)))
      ]

  -- the parities that help are those of the gaps
  parity_helps : (δ : ℕ) → δ < s.q → helper s f (s.k + parity_at s f δ) ≡ true
  parity_helps δ h = rw (lt-leb (s.k + parity_at s f δ) s.k (omega (arith, pos))) (ap (helping s f) (omega arith) ∙ helps)
    where
      pos : 1 ≤ parity_at s f δ
      pos = grind (arith, nat_tests)

      helps : helping s f (parity_at s f δ) ≡ true
      helps = let two = s.helping.0 in grind (arith, nat_tests)

  pub chosen_helps : (row : ℕ) → helper s f (s.k + chosen s f row) ≡ true
  chosen_helps row = rw (F.chosen_is s f one last row) (parity_helps (F.gap_at s f one last row) (F.gap_low s f one last row))

  pub data_helps : (i : ℕ) → 1 ≤ i → i ≤ s.k → (i ≡ f → ⊥) → helper s f i ≡ true
  data_helps i lo hi ne = rw (le-leb i s.k hi, le-leb 1 i lo, ne_eqb i f ne)

  helps_parity : (j : ℕ) → helping s f j ≡ true → (δ : ℕ) × (δ < s.q) × (j ≡ parity_at s f δ)
  helps_parity j h =
      elim (cases_eq j 1) [
        | inl e ↦ (0, omega arith, e)
        | inr e ↦ elim (cases_Bool (first_half s f)) [
          | inl a ↦ (j - 1, first_low a, first_is a e)
          | inr a ↦ (2 * s.q - j, second_low a e, second_is a e)
        ]
      ]
    where
      two : 2 ≤ s.q
      two = s.helping.0

      first_low : first_half s f ≡ true → j - 1 < s.q
      first_low a = grind (arith, nat_tests, two)

      first_is : first_half s f ≡ true → (j ≡ 1 → ⊥) → j ≡ parity_at s f (j - 1)
      first_is a ne = grind (arith, nat_tests, two)

      second_low : first_half s f ≡ false → (j ≡ 1 → ⊥) → 2 * s.q - j < s.q
      second_low a ne = grind (arith, nat_tests, two)

      second_is : first_half s f ≡ false → (j ≡ 1 → ⊥) → j ≡ parity_at s f (2 * s.q - j)
      second_is a ne = grind (arith, nat_tests, two)

  module _ (i r : ℕ) where
    abbrev c : ℕ
    c = F.rounds s f one last

    abbrev b : ℕ
    b = s.p - 1

    some : 0 < span s f
    some = F.span_pos s f one last

    -- a position in the numbers of Rounds
    into : (x y : ℕ) → x ≡ y → Covers b (classes_of s) x r → Covers b (s.q * span s f * c) y r
    into x y e o = subst (λ x. Covers b (s.q * span s f * c) x r) e (rw (F.classes_are s f one last) at o)

    out_of : (x y : ℕ) → x ≡ y → Covers b (s.q * span s f * c) y r → Covers b (classes_of s) x r
    out_of x y e o = subst (λ x. Covers b (classes_of s) x r) (sym e) (rw (F.classes_are s f one last) o)

    there : (row : ℕ) → Needs s f row i r → (helper s f i && (home s f r || added s f i r)) ≡ true
    there row (inl (e, o)) =
        let δ : ℕ = F.gap_at s f one last row in
        let low : δ < s.q = F.gap_low s f one last row in
        let k : (r + 0) % Q < span s f = need_there s.q (span s f) c b s.helping.0 some δ 0 r low (omega arith) row refl (into _ _ (F.position_is s f one last row) o) in
        let m : home s f r ≡ true = lt-ltb _ _ (subst (λ n. r % n < span s f) (sym (F.round_is s f one last)) (rw add-zero at k)) in
        and_from _ _ (subst (λ x. helper s f x ≡ true) (sym e) (chosen_helps row)) (or_left _ (added s f i r) m)
    there row (inr (lo, hi, ne, o)) =
        let δ : ℕ = F.gap_at s f one last row in
        let low : δ < s.q = F.gap_low s f one last row in
        let k = need_there s.q (span s f) c b s.helping.0 some δ (δ * step s f i) r low (F.step_low s f one last δ i low) row refl (into _ _ (F.place_is s f one last row i lo hi) o) in
        and_from _ _ (data_helps i lo hi ne) (got_test i r hi (comes_got i r lo hi ne (comes δ low k)))
      where
        comes : (δ : ℕ) → δ < s.q → (r + δ * step s f i) % Q < span s f → Comes i r
        comes δ a b = (δ, a, b)

    back : r < rows_of s → (helper s f i && (home s f r || added s f i r)) ≡ true → (row : ℕ) × (row < rows_of s) × Needs s f row i r
    back within e =
        let below : r < b * (s.q * span s f * c) = rw (← F.rows_are s f one last) within in
        let (x, y) = and_parts (helper s f i) (home s f r || added s f i r) e in
        elim (cases_lt s.k i) [
          | inl hi ↦
              let (δ, low, j) = helps_parity (i - s.k) (sym (past (leb i s.k) (lt-leb i s.k hi)) ∙ x) in
              let h : r % Q < span s f = subst (λ n. r % n < span s f) (F.round_is s f one last) (ltb-true _ _ (only_home hi y)) in
              let (row, hrow, g, o) = need_back s.q (span s f) c b s.helping.0 some δ 0 r low (omega arith) below (rw add-zero h) in (
                row,
                rw (F.rows_are s f one last) hrow,
                inl (
                  omega (arith, F.chosen_is s f one last row, ap (parity_at s f) g),
                  out_of _ _ (F.position_is s f one last row ∙ ap (λ d. moved_to Q c b (d * span s f) 0 row) g) o,
                ),
              )
          | inr hi ↦
              let (l, n) = and_parts (leb 1 i) (not (eqb i f)) (sym (inner (leb i s.k) (le-leb i s.k hi)) ∙ x) in
              let lo : 1 ≤ i = leb-true _ _ l in
              let ne : i ≡ f → ⊥ = eqb-false _ _ (not-true _ n) in
              let (δ, low, k) = comes (got_comes i r lo hi ne (test_got i r hi y)) in
              let (row, hrow, g, o) = need_back s.q (span s f) c b s.helping.0 some δ (δ * step s f i) r low (F.step_low s f one last δ i low) below k in (
                row,
                rw (F.rows_are s f one last) hrow,
                inr (lo, hi, ne, out_of _ _ (F.place_is s f one last row i lo hi ∙ ap (λ d. moved_to Q c b (d * span s f) (d * step s f i) row) g) o),
              )
        ]
      where
        past : (b : Bool) → b ≡ false → cond b (leb 1 i && not (eqb i f)) (helping s f (i - s.k)) ≡ helping s f (i - s.k)
        past b e = rw e

        inner : (b : Bool) → b ≡ true → cond b (leb 1 i && not (eqb i f)) (helping s f (i - s.k)) ≡ (leb 1 i && not (eqb i f))
        inner b e = rw e

        only_home : s.k < i → (home s f r || added s f i r) ≡ true → home s f r ≡ true
        only_home hi y = elim (or_cases (home s f r) (added s f i r) y) [ inl x ↦ x | inr x ↦ absurd (let z : i ≤ s.k = leb-true i s.k (and_parts _ _ x).0 in omega arith) ]

        comes : Comes i r → (δ : ℕ) × (δ < s.q) × ((r + δ * step s f i) % Q < span s f)
        comes w = w

stored : (s : Shape) (f row c r : ℕ) → Needs s f row c r → r < rows_of s
stored s f row c r (inl (e, o)) = o.0
stored s f row c r (inr (lo, hi, ne, o)) = o.0

pub needed_is_listed : NeededIsListed
needed_is_listed s f c r one last = (
  λ n. and_from _ _ (lt-ltb r (rows_of s) (stored s f n.0 c r n.2)) (there s f one last c r n.0 n.2),
  λ e. let (low, rest) = and_parts (ltb r (rows_of s)) (helper s f c && (home s f r || added s f c r)) e in back s f one last c r (ltb-true _ _ low) rest,
)

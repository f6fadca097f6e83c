-- The reading list's size is the formula.
use Rattle.std.proofs.Common.{◌≡◌, ℕ, zero, suc, ◌+◌, ◌-◌, ◌*◌, ◌%◌, ◌^◌, ◌<◌, ◌≤◌, Bool, true, false, cond, ◌&&◌, ◌||◌, eqb, ltb, leb, sym, ap, ◌∙◌, ap₂, inl, inr, mul-le-mul_right, mul-zero, add-one, arith}
use native.Mathlib.Nat.{pow-succ', pow-le-pow_right, mul-sub}
use Rattle.std.proofs.lemmas.Bool.{cases_lt, cases_eq, cases_Bool, eq-eqb, ne_eqb, lt-ltb, le-ltb, le-leb, lt-leb}
use Rattle.std.proofs.lemmas.Bool.Decides.{nat_tests}
use Rattle.ring.specs.Sums.{count}
use Rattle.ring.proofs.Sums.{sum_same, sum_add, sum_split, sum_first}
use Rattle.ring.proofs.Counts.{numbers, total, total_const, total_times, total_turned, count_same, count_none, count_or, count_rounds, count_from, count_below, powers}
use Rattle.code.specs.declared.shape.Shape.{Shape}
use Rattle.code.specs.Shapes.{parities_of, columns_of, rows_of}
use Rattle.repair.specs.Halves.{first_half, depth, near, round, span}
use Rattle.repair.specs.Lists.{helper, helping, listed, size, formula}
use Rattle.repair.specs.Laws.{SizeIsFormula}
use Rattle.repair.proofs.Frame as F
use Rattle.repair.proofs.Frame.{pow_at}

finish : (k q b c h : ℕ) → 0 < h → k * (b * c * h) + b * c * (h - 1) + q * (b * c * h) ≡ b * ((k + q + 1) * (c * h) - c)
finish k q b c zero e = absurd (omega arith)
finish k q b c (suc h) e =
    let d : suc h - 1 ≡ h = omega arith in
    rw (d, mul-sub b ((k + q + 1) * (c * suc h)) c) (omega arith)

module _ (s : Shape) (f : ℕ) (one : 1 ≤ f) (last : f ≤ s.k) where
  abbrev g : ℕ
  g = depth s f

  abbrev h : ℕ
  h = span s f

  -- whole rounds in a column
  abbrev m : ℕ
  m = (s.p - 1) * F.rounds s f one last

  abbrev test : ℕ → ℕ → Bool
  test i x = helper s f i && (ltb x h || (leb i s.k && (ltb (near s f i) g && leb (round s f - (s.q - 1) * s.q ^ (near s f i - 1)) x)))

  abbrev places : ℕ → ℕ
  places i = count (rows_of s) (λ r. listed s f i r)

  by_round : (i : ℕ) → places i ≡ m * count (round s f) (test i)
  by_round i =
      count_same (rows_of s) (λ r. listed s f i r) (λ r. test i (r % round s f)) (λ r k. rw (lt-ltb r (rows_of s) k))
      ∙ ap (λ n. count n (λ r. test i (r % round s f))) (F.whole_rounds s f one last)
      ∙ count_rounds m (round s f) (test i)

  twice : h + h ≤ round s f
  twice = omega (arith, F.round_is s f one last, mul-le-mul_right h s.helping.0)

  home_count : count (round s f) (λ x. ltb x h) ≡ h
  home_count = omega (arith, count_below (round s f) h, twice)

  no_helper : (i : ℕ) → helper s f i ≡ false → places i ≡ 0
  no_helper i e = by_round i ∙ ap (λ n. m * n) (count_same (round s f) (test i) (λ a. false) (λ a k. rw e) ∙ count_none (round s f)) ∙ mul-zero m

  far : (i : ℕ) → helper s f i ≡ true → (leb i s.k && ltb (near s f i) g) ≡ false → places i ≡ m * h
  far i e a = by_round i ∙ ap (λ n. m * n) (count_same (round s f) (test i) (λ x. ltb x h) (λ x k. rw e (drop (ltb x h) (leb i s.k) (ltb (near s f i) g) _ a)) ∙ home_count)
    where
      drop : (x y z w : Bool) → (y && z) ≡ false → (x || (y && (z && w))) ≡ x
      drop x y z w e = grind arith

  close : (i : ℕ) → helper s f i ≡ true → i ≤ s.k → 1 ≤ near s f i → near s f i < g → places i ≡ m * h + m * ((s.q - 1) * s.q ^ (near s f i - 1))
  close i e hi lo a =
      by_round i ∙ ap (λ n. m * n) (
      count_same (round s f) (test i) (λ x. ltb x h || leb (round s f - wide) x) (λ x k. rw (e, le-leb i s.k hi, lt-ltb (near s f i) g a))
      ∙ count_or (round s f) (λ x. ltb x h) (λ x. leb (round s f - wide) x) (λ x k. apart x)
      ∙ ap₂ ◌+◌ home_count (count_from (round s f) (round s f - wide))
      ) ∙ omega (arith, ap (λ x. m * x) back)
    where
      w : ℕ
      w = s.q ^ (near s f i - 1)

      wide : ℕ
      wide = (s.q - 1) * w

      step : s.q * w ≤ h
      step = rw (← pow-succ') (pow-le-pow_right (omega arith) (omega arith))

      narrow : wide ≤ h
      narrow = omega (arith, step, mul-le-mul_right {m = s.q - 1} {n = s.q} w (omega arith))

      back : round s f - (round s f - wide) ≡ wide
      back = omega (arith, narrow, twice)

      apart : (x : ℕ) → (ltb x h && leb (round s f - wide) x) ≡ false
      apart x = let a = narrow in let b = twice in grind (arith, nat_tests)

  -- a data column's part, by its number from f's end
  abbrev part : ℕ → ℕ
  part x = cond (eqb x g) 0 (m * h + cond (ltb x g) (m * ((s.q - 1) * s.q ^ (x - 1))) 0)

  data_part : (a : ℕ) → a < s.k → places (suc a) ≡ part (near s f (suc a))
  data_part a ha =
      elim (cases_eq (near s f (suc a)) g) [
        | inl e ↦ no_helper (suc a) (own (same_f e)) ∙ sym (rw (eq-eqb (near s f (suc a)) g e))
        | inr e ↦ elim (cases_lt (near s f (suc a)) g) [
          | inl k ↦ close (suc a) (other e) (omega arith) near_pos k ∙ sym (rw (ne_eqb (near s f (suc a)) g e, lt-ltb (near s f (suc a)) g k))
          | inr k ↦ far (suc a) (other e) (no k) ∙ sym (rw (ne_eqb (near s f (suc a)) g e, le-ltb (near s f (suc a)) g k) (omega arith))
        ]
      ]
    where
      near_pos : 1 ≤ near s f (suc a)
      near_pos = grind (arith, nat_tests)

      same_f : near s f (suc a) ≡ g → suc a ≡ f
      same_f e = by_half (first_half s f) (e ∙ sym (F.near_depth s f one last))
        where
          by_half : (b : Bool) → cond b (suc a) (s.k + 1 - suc a) ≡ cond b f (s.k + 1 - f) → suc a ≡ f
          by_half true e = e
          by_half false e = omega arith

      own : suc a ≡ f → helper s f (suc a) ≡ false
      own e = grind (arith, nat_tests)

      other : (near s f (suc a) ≡ g → ⊥) → helper s f (suc a) ≡ true
      other ne =
          let n : suc a ≡ f → ⊥ = λ e. ne (ap (near s f) e ∙ F.near_depth s f one last) in
          rw (le-leb (suc a) s.k (omega arith), le-leb 1 (suc a) (omega arith), ne_eqb (suc a) f n)

      no : g ≤ near s f (suc a) → (leb (suc a) s.k && ltb (near s f (suc a)) g) ≡ false
      no k = grind (arith, nat_tests)

  turned : total s.k (λ a. part (near s f (suc a))) ≡ total s.k (λ a. part (suc a))
  turned =
      elim (cases_Bool (first_half s f)) [
        | inl e ↦ sum_same 0 ◌+◌ s.k _ _ (λ a k. ap part (rw e))
        | inr e ↦ sum_same 0 ◌+◌ s.k (λ a. part (near s f (suc a))) (λ a. part (s.k - a)) (λ a k. ap part (rw e (omega arith))) ∙ total_turned s.k part
      ]

  parts : total s.k (λ a. part (suc a)) ≡ (s.k - 1) * (m * h) + m * (h - 1)
  parts =
      ap (λ n. total n (λ a. part (suc a))) cut
      ∙ sum_split numbers (g - 1) (suc (s.k - g)) (λ a. part (suc a))
      ∙ ap₂ ◌+◌ front (sum_first numbers (s.k - g) (λ a. part (suc (g - 1 + a))) ∙ ap₂ ◌+◌ here rest)
      ∙ omega (arith, F.depth_low s f one last, F.depth_high s f one last, whole)
    where
      cut : s.k ≡ g - 1 + suc (s.k - g)
      cut = omega (arith, F.depth_low s f one last, F.depth_high s f one last)

      whole : (s.k - 1) * (m * h) ≡ (g - 1) * (m * h) + (s.k - g) * (m * h)
      whole = ap (λ x. x * (m * h)) cut' ∙ omega arith
        where
          cut' : s.k - 1 ≡ (g - 1) + (s.k - g)
          cut' = omega (arith, F.depth_low s f one last, F.depth_high s f one last)

      front : total (g - 1) (λ a. part (suc a)) ≡ (g - 1) * (m * h) + m * (h - 1)
      front =
          sum_same 0 ◌+◌ (g - 1) (λ a. part (suc a)) (λ a. m * h + m * ((s.q - 1) * s.q ^ a)) (λ a k.
          let n : suc a ≡ g → ⊥ = λ e. omega arith in
          rw (ne_eqb (suc a) g n, lt-ltb (suc a) g (omega arith)) (ap (λ x. m * h + m * ((s.q - 1) * s.q ^ x)) (omega arith)))
          ∙ sum_add numbers (g - 1) (λ a. m * h) (λ a. m * ((s.q - 1) * s.q ^ a))
          ∙ ap₂ ◌+◌ (total_const (g - 1) (m * h)) (total_times m (g - 1) (λ a. (s.q - 1) * s.q ^ a) ∙ ap (λ x. m * x) (powers s.q (g - 1) (omega arith)))

      here : part (suc (g - 1 + 0)) ≡ 0
      here = rw (eq-eqb (suc (g - 1 + 0)) g (omega (arith, F.depth_low s f one last)))

      rest : total (s.k - g) (λ a. part (suc (g - 1 + suc a))) ≡ (s.k - g) * (m * h)
      rest =
          sum_same 0 ◌+◌ (s.k - g) (λ a. part (suc (g - 1 + suc a))) (λ a. m * h) (λ a k.
          let n : suc (g - 1 + suc a) ≡ g → ⊥ = λ e. omega arith in
          rw (ne_eqb (suc (g - 1 + suc a)) g n, le-ltb (suc (g - 1 + suc a)) g (omega arith)) (omega arith))
          ∙ total_const (s.k - g) (m * h)

  parity_part : (j : ℕ) → places (suc (s.k + j)) ≡ cond (helping s f (suc j)) (m * h) 0
  parity_part j =
      elim (cases_Bool (helping s f (suc j))) [
        | inl e ↦ far (suc (s.k + j)) (past ∙ e) out ∙ sym (rw e)
        | inr e ↦ no_helper (suc (s.k + j)) (past ∙ e) ∙ sym (rw e)
      ]
    where
      past : helper s f (suc (s.k + j)) ≡ helping s f (suc j)
      past = rw (lt-leb (suc (s.k + j)) s.k (omega arith)) (ap (helping s f) (omega arith))

      out : (leb (suc (s.k + j)) s.k && ltb (near s f (suc (s.k + j))) g) ≡ false
      out = rw (lt-leb (suc (s.k + j)) s.k (omega arith))

  parities : total (parities_of s) (λ j. cond (helping s f (suc j)) (m * h) 0) ≡ s.q * (m * h)
  parities =
      elim (cases_Bool (first_half s f)) [
        | inl e ↦
            ap (λ n. total n P) two
            ∙ sum_split numbers s.q (s.q - 1) P
            ∙ ap₂ ◌+◌ (constant s.q P (m * h) (λ a k. in_first a e k)) (nothing (s.q - 1) (λ a. P (s.q + a)) (λ a k. past_first a e))
            ∙ omega arith
        | inr e ↦
            ap (λ n. total n P) two
            ∙ sum_split numbers s.q (s.q - 1) P
            ∙ ap₂ ◌+◌ (ap (λ n. total n P) up ∙ sum_first numbers (s.q - 1) P ∙ ap (λ x. m * h + x) (nothing (s.q - 1) (λ a. P (suc a)) (λ a k. out_second a e k))) (constant (s.q - 1) (λ a. P (s.q + a)) (m * h) (λ a k. in_second a e k))
            ∙ omega (arith, whole)
      ]
    where
      P : ℕ → ℕ
      P j = cond (helping s f (suc j)) (m * h) 0

      constant : (n : ℕ) (F : ℕ → ℕ) (x : ℕ) → ((a : ℕ) → a < n → F a ≡ x) → total n F ≡ n * x
      constant n F x e = sum_same 0 ◌+◌ n F (λ a. x) e ∙ total_const n x

      nothing : (n : ℕ) (F : ℕ → ℕ) → ((a : ℕ) → a < n → F a ≡ 0) → total n F ≡ 0
      nothing n F e = constant n F 0 e ∙ mul-zero n

      up : s.q ≡ suc (s.q - 1)
      up = omega arith

      two : parities_of s ≡ s.q + (s.q - 1)
      two = omega arith

      whole : s.q * (m * h) ≡ m * h + (s.q - 1) * (m * h)
      whole = ap (λ x. x * (m * h)) up ∙ omega arith

      more : 2 ≤ s.q
      more = s.helping.0

      yes : (j : ℕ) → helping s f (suc j) ≡ true → P j ≡ m * h
      yes j e = rw e

      no : (j : ℕ) → helping s f (suc j) ≡ false → P j ≡ 0
      no j e = rw e

      in_first : (a : ℕ) → first_half s f ≡ true → a < s.q → P a ≡ m * h
      in_first a e k = yes a (grind (arith, nat_tests))

      past_first : (a : ℕ) → first_half s f ≡ true → P (s.q + a) ≡ 0
      past_first a e = no (s.q + a) (grind (arith, nat_tests, more))

      out_second : (a : ℕ) → first_half s f ≡ false → a < s.q - 1 → P (suc a) ≡ 0
      out_second a e k = no (suc a) (grind (arith, nat_tests))

      in_second : (a : ℕ) → first_half s f ≡ false → a < s.q - 1 → P (s.q + a) ≡ m * h
      in_second a e k = yes (s.q + a) (grind (arith, nat_tests))

  all : size s f ≡ formula s f
  all =
      sum_same 0 ◌+◌ (columns_of s) (λ c. places (c + 1)) (λ c. places (suc c)) (λ c k. ap places (add-one c))
      ∙ sum_split numbers s.k (parities_of s) (λ c. places (suc c))
      ∙ ap₂ ◌+◌ (sum_same 0 ◌+◌ s.k _ _ data_part ∙ turned ∙ parts) (sum_same 0 ◌+◌ (parities_of s) _ _ (λ j k. parity_part j) ∙ parities)
      ∙ finish (s.k - 1) s.q (s.p - 1) (F.rounds s f one last) h (F.span_pos s f one last)
      ∙ ap (λ x. (s.p - 1) * x) (ap₂ ◌-◌ (ap₂ ◌*◌ (omega arith) (sym (pow_at s.q (s.k - 2 - g) (g - 1) (s.k - 3) (omega (arith, F.depth_low s f one last, F.depth_high s f one last))))) (ap (λ n. s.q ^ n) (omega arith)))

pub size_is_formula : SizeIsFormula
size_is_formula s f one last = all s f one last

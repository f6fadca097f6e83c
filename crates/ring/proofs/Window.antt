-- Which residues a step brings into the first h of a round of q * h.
use Rattle.std.proofs.Common.{ℕ, ◌+◌, ◌-◌, ◌*◌, ◌%◌, ◌<◌, ◌≤◌, ◌⊎◌, ◌↔◌, inl, inr, mul-le-mul_right, arith}
use Rattle.std.proofs.lemmas.Bool.{cases_lt}
use Rattle.ring.proofs.Residues.{mod_wrap}

module _ (q w h v : ℕ) (two : 2 ≤ q) (low : q * w ≤ h) (inside : v < q * h) where
  wide : (q - 1) * w ≤ h
  wide = omega (arith, mul-le-mul_right {m = q - 1} {n = q} w (omega arith))

  twice : h + h ≤ q * h
  twice = omega (arith, mul-le-mul_right h two)

  -- v comes there by δ steps of w, for some δ from 1 to q - 1, or is there, just where it is there or at the end
  pub window : (((δ : ℕ) × (1 ≤ δ) × (δ ≤ q - 1) × ((v + δ * w) % (q * h) < h)) ⊎ (v < h)) ↔ ((v < h) ⊎ (q * h - (q - 1) * w ≤ v))
  window = (there, back)
    where
      there : ((δ : ℕ) × (1 ≤ δ) × (δ ≤ q - 1) × ((v + δ * w) % (q * h) < h)) ⊎ (v < h) → (v < h) ⊎ (q * h - (q - 1) * w ≤ v)
      there (inr k) = inl k
      there (inl d) =
          elim (cases_lt v h) [
            | inl k ↦ inl k
            | inr k ↦ inr (omega (arith, twice, wide, d.3, mul-le-mul_right w d.2, mod_wrap (q * h) (v + d.0 * w) (omega (arith, twice, wide, mul-le-mul_right w d.2))))
          ]

      back : (v < h) ⊎ (q * h - (q - 1) * w ≤ v) → ((δ : ℕ) × (1 ≤ δ) × (δ ≤ q - 1) × ((v + δ * w) % (q * h) < h)) ⊎ (v < h)
      back (inl k) = inr k
      back (inr k) = inl (q - 1, omega arith, omega arith, omega (arith, twice, wide, mod_wrap (q * h) (v + (q - 1) * w) (omega (arith, twice, wide))))

-- The lowest lost column.
use Rattle.std.proofs.Common.{◌≡◌, ℕ, zero, suc, ◌+◌, ◌<◌, ◌≤◌, Bool, true, false, cond, Some, None, Option, refl, ap, ◌∙◌, subst, inl, inr, arith}
use Rattle.code.specs.Refusals.{or_else}
use Rattle.std.proofs.lemmas.Bool.{cases_eq}
use Rattle.array.specs.Lost.{lowest_lost}

pub both_none : {A : Type 0} (a b : Option A) → or_else a b ≡ None → (a ≡ None) × (b ≡ None)
both_none (Some x) b e = absurd (let z : ◌≡◌ {A = ℕ} 0 1 = cc in omega arith)
both_none None b e = (refl, e)

not_some : (b : Bool) (n : ℕ) → cond b (Some n) None ≡ None → b ≡ false
not_some true n e = absurd (let z : ◌≡◌ {A = ℕ} 0 1 = cc in omega arith)
not_some false n e = refl

module _ (lost : ℕ → Bool) where
  pub lowest_here : (n m : ℕ) → n < m → lowest_lost lost n ≡ None → lost (n + 1) ≡ true → lowest_lost lost m ≡ Some (n + 1)
  lowest_here n zero low e h = absurd (omega arith)
  lowest_here n (suc m) low e h = elim (cases_eq n m) [
    | inl same ↦ subst (λ i. lowest_lost lost (suc i) ≡ Some (n + 1)) same (rw (e, h))
    | inr other ↦ rw (lowest_here n m (omega arith) e h)
  ]

  pub none_lost : (n : ℕ) → lowest_lost lost n ≡ None → (c : ℕ) → 1 ≤ c → c ≤ n → lost c ≡ false
  none_lost zero e c one last = absurd (omega arith)
  none_lost (suc n) e c one last =
      let (below, here) = both_none (lowest_lost lost n) (cond (lost (n + 1)) (Some (n + 1)) None) e in
      elim (cases_eq c (n + 1)) [
        | inl same ↦ ap lost same ∙ not_some (lost (n + 1)) (n + 1) here
        | inr other ↦ none_lost n below c one (omega arith)
      ]

  pub all_present : (n : ℕ) → ((c : ℕ) → 1 ≤ c → c ≤ n → lost c ≡ false) → lowest_lost lost n ≡ None
  all_present zero h = refl
  all_present (suc n) h = rw (all_present n (λ c one last. h c one (omega arith)), h (n + 1) (omega arith) (omega arith))

-- The marks of a store that fits the shape, and what the checks of a quote say of them.
use Rattle.std.proofs.Common.{◌≡◌, ℕ, zero, suc, ◌+◌, ◌≤◌, Bool, true, false, cond, ◌&&◌, Some, None, Option, sym, refl, ap, ◌∙◌, subst, ap₂, arith}
use Rattle.std.proofs.lemmas.Bool.{le-ltb}
use Rattle.code.specs.declared.refusal.Refusal.{Refusal}
use Rattle.code.specs.declared.shape.Shape.{Shape}
use Rattle.code.specs.Refusals.{or_else}
use Rattle.code.specs.Shapes.{columns_of}
use Rattle.symbol.specs.declared.byte.Byte.{Byte}
use Rattle.store.specs.View.{View, counts_as_lost}
use Rattle.repair.specs.Lists.{helper}
use Rattle.array.specs.Checks.{fits}
use Rattle.array.specs.Lost.{lowest_lost, lost_refusal}
use Rattle.array.proofs.Checked.{wide}
use Rattle.recovery.proofs.Books.{lowest_same}
use Rattle.recovery.specs.Rebuild.{is_data, lost_helper, quote_refusal}
use Rattle.report.specs.Printed.{lowest, lost_helper_of, restored, refused, told}

-- the column that is named is lost, and one of them
pub record Named (lost : ℕ → Bool) (n f : ℕ) : Type 0 where
  pub one : 1 ≤ f
  pub last : f ≤ n
  pub gone : lost f ≡ true

named : (lost : ℕ → Bool) (n f : ℕ) → lowest_lost lost n ≡ Some f → Named lost n f
named lost zero f e = absurd (let z : ◌≡◌ {A = ℕ} 0 1 = cc in omega arith)
named lost (suc n) f e = go (lowest_lost lost n) (lost (n + 1)) (named lost n f) refl refl e
  where
    go : (below : Option ℕ) (here : Bool) → (lowest_lost lost n ≡ Some f → Named lost n f) → lowest_lost lost n ≡ below → lost (n + 1) ≡ here → or_else below (cond here (Some (n + 1)) None) ≡ Some f → Named lost (suc n) f
    go (Some d) here lower below-is here-is is = let N = lower (below-is ∙ is) in record { one = N.one; last = omega (arith, N.last); gone = N.gone }
    go None true lower below-is here-is is = let same : n + 1 ≡ f = cc in record { one = omega arith; last = omega arith; gone = subst (λ c. lost c ≡ true) same here-is }
    go None false lower below-is here-is is = absurd (let z : ◌≡◌ {A = ℕ} 0 1 = cc in omega arith)

module _ (s : Shape) (g : View Byte) (fit : fits s g ≡ true) where
  counted : (c : ℕ) → 1 ≤ c → c ≤ columns_of s → counts_as_lost g c ≡ g.lost c
  counted c one last = let w = wide s g fit in rw (le-ltb c 1 one, le-ltb g.columns c (omega arith))

  pub lowest_is : lowest_lost (counts_as_lost g) g.columns ≡ lowest s g.lost
  lowest_is = ap (lowest_lost (counts_as_lost g)) (wide s g fit) ∙ lowest_same (counts_as_lost g) g.lost (columns_of s) counted

  helper_is : (f : ℕ) → lost_helper s f g ≡ lost_helper_of s g.lost f
  helper_is f = ap₂ (cond (is_data s f)) (lowest_same _ _ (columns_of s) (λ c one last. ap (λ b. helper s f c && b) (counted c one last))) (lowest_same (counts_as_lost g) g.lost s.k (λ c one last. counted c one (omega arith)))

  -- of a quote of the lowest lost column only a lost helper is left to refuse
  quote_is : (f : ℕ) → lowest s g.lost ≡ Some f → quote_refusal s g f ≡ lost_refusal (lost_helper_of s g.lost f)
  quote_is f e =
      let N = named g.lost (columns_of s) f e in
      let w = wide s g fit in
      rw (fit, le-ltb f 1 N.one, le-ltb (columns_of s) f N.last, le-ltb g.columns f (omega (arith, N.last)), N.gone) (ap lost_refusal (helper_is f))

  pub none_told : lowest_lost (counts_as_lost g) g.columns ≡ None → restored s g.at None ≡ told s g.lost g.at
  none_told none = let l : lowest s g.lost ≡ None = sym lowest_is ∙ none in rw l

  pub rebuilt_told : (f : ℕ) → lowest_lost (counts_as_lost g) g.columns ≡ Some f → quote_refusal s g f ≡ None → restored s g.at (Some f) ≡ told s g.lost g.at
  rebuilt_told f found quoted =
      let l : lowest s g.lost ≡ Some f = sym lowest_is ∙ found in
      let q : lost_refusal (lost_helper_of s g.lost f) ≡ None = sym (quote_is f l) ∙ quoted in
      rw (l, q)

  pub refused_told : (f : ℕ) (e : Refusal) → lowest_lost (counts_as_lost g) g.columns ≡ Some f → quote_refusal s g f ≡ Some e → refused e ≡ told s g.lost g.at
  refused_told f e found quoted =
      let l : lowest s g.lost ≡ Some f = sym lowest_is ∙ found in
      let q : lost_refusal (lost_helper_of s g.lost f) ≡ Some e = sym (quote_is f l) ∙ quoted in
      rw (l, q)

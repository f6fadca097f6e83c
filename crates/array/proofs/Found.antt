-- What `find` over the numbers below n answers, where the column asked is one above the number.
use Rattle.std.proofs.Common.{◌≡◌, ℕ, ◌+◌, ◌-◌, ◌<◌, ◌≤◌, Bool, true, false, Some, None, Option, MatchOption, option_map, sym, ap, ◌∙◌, arith}
use denote.Param.Members.{Mut}
use denote.Ref.{Bor}
use Rattle.std.specs.Fn.{CalledAt}
use Rattle.std.specs.declared.ops.Range.{Range}
use Rattle.std.specs.Iterator.{FindsItem}
use Rattle.std.specs.Iterator.Runs.{CallKeepsClosure}
use Rattle.std.proofs.iter.Yields.{nat_range_steps}
use Rattle.std.proofs.lemmas.Iterator.{first_from_Range}
use Rattle.array.specs.Lost.{lowest_lost}
use Rattle.array.proofs.Lowest.{lowest_here, all_present}

module _ (test : ℕ → Bool) (s : Range ℕ) (start : s.start ≡ 0) where
  -- what the test says of the column above a number of the range
  abbrev Says : Bool → ℕ → Type 0
  Says b x = x < s.end → test (x + 1) ≡ b

  absent : (n : ℕ) → n ≤ s.end → ((k : ℕ) → s.start ≤ k → k < n → Says false k) → lowest_lost test n ≡ None
  absent n low h = all_present test n (λ d one last. let same : d ≡ d - 1 + 1 = omega arith in ap test same ∙ h (d - 1) (omega (arith, start)) (omega arith) (omega arith))

  first_passing : (r : Option ℕ) → MatchOption r ((k : ℕ) → s.start ≤ k → k < s.end → Says false k) (λ i. (s.start ≤ i) × (i < s.end) × Says true i × ((k : ℕ) → s.start ≤ k → k < i → Says false k)) → option_map (λ x. x + 1) r ≡ lowest_lost test s.end
  first_passing None none = sym (absent s.end (omega arith) none)
  first_passing (Some i) (from, low, passes, before) = sym (lowest_here test i s.end low (absent i (omega arith) before) (passes low))

-- where a closure answers a test of the column above, the number that `find` over those below n answers is one below the lowest column that passes
pub lowest_found :
    {F : Type 0} (g : Mut F (Bor ℕ × Unit {0}) Bool) (f : F) (test : ℕ → Bool) (s u : Range ℕ) (r : Option ℕ) → CallKeepsClosure g f → ((x : ℕ) (b : Bool) (f' : F) → x < s.end → CalledAt g f x b f' → test (x + 1) ≡ b) →
    s.start ≡ 0 → FindsItem nat_range_steps g s f r u → option_map (λ x. x + 1) r ≡ lowest_lost test s.end
lowest_found g f test s u r keeps answers start ran =
    let first = first_from_Range s u f r (Says test s start true) (Says test s start false) ran (λ x f' h low. answers x true f' low h) (λ x f' h. (keeps (h.shown, tt) false f' h.called, λ low. answers x false f' low h)) in
    first_passing test s start r first

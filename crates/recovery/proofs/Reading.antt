-- One turn more of the loops over the reading list.
use Rattle.std.proofs.Common.{◌≡◌, ℕ, zero, suc, ◌+◌, ◌-◌, ◌*◌, ◌^◌, ◌<◌, ◌≤◌, Bool, true, false, cond, ◌⊎◌, List, length, get_or, set, Some, None, Ok, Err, Option, Result, sym, refl, ap, ◌∙◌, subst, ap₂, inl, inr, mul-le-mul_right, add-one, rules, arith}
use borrow.Rule.Slice.PartMut.{put_mid}
use Rattle.std.proofs.lemmas.Bool.{cases_eq, cases_order, both_ways}
use Rattle.std.proofs.lemmas.List.{get_or-set_same, get_or-set_other, places}
use Rattle.std.proofs.lemmas.Bool.Decides.{nat_tests}
use Rattle.ring.specs.Sums.{sum_to, count}
use Rattle.code.specs.declared.refusal.Refusal.{Refusal}
use Rattle.code.specs.declared.shape.Shape.{Shape}
use Rattle.code.specs.Shapes.{helpers_of, rows_of}
use Rattle.store.specs.View.{View, metered}
use Rattle.array.specs.Steps.{Accepts}
use Rattle.repair.specs.Lists.{helper, listed, slot, area}
use Rattle.repair.specs.Plans.{start_of, row_from}
use Rattle.repair.specs.Rows.{rebuilt}
use Rattle.repair.proofs.Slots.{apart}
use Rattle.recovery.specs.Progress.{Fetched, Filled, Collected}
use Rattle.columns.proofs.Turns.{metered_none, metered_more}

sum_more : {X : Type 0} (none : X) (plus : X → X → X) (n : ℕ) (F : ℕ → X) → sum_to none plus (n + 1) F ≡ plus (sum_to none plus n F) (F n)
sum_more none plus n F = rw (add-one n)

one_most : (b : Bool) → cond b 1 0 ≤ 1
one_most true = omega arith
one_most false = omega arith

count_le : (n : ℕ) (P : ℕ → Bool) → count n P ≤ n
count_le zero P = omega arith
count_le (suc n) P = omega (arith, count_le n P, one_most (P n))

module _ {X : Type 0} (none : X) (g h : View X) (wanted : ℕ → Bool) (c n m : ℕ) (part : List X) where
  -- row n is wanted and read, or it is not
  pub fetched_read : (h' : View X) (x : X) → n < length part → Fetched none g wanted c n m h part → wanted n ≡ true → x ≡ h.at c n → h' ≡ metered 1 h → Fetched none g wanted c (n + 1) (m + 1) h' (set part n x)
  fetched_read h' x room F wanted_is is e = record {
    reads = ap (λ k. k + 1) F.reads ∙ sym (sum_more 0 ◌+◌ n (λ a. cond (wanted a) 1 0) ∙ rw wanted_is);
    meter = e ∙ ap (metered 1) F.meter ∙ metered_more g m 1;
    here = λ row low so. elim (cases_eq row n) [
      | inl same ↦ ap (λ i. get_or (set part n x) i none) same ∙ get_or-set_same part n x none room ∙ is ∙ ap (λ (v : View X). v.at c n) F.meter ∙ ap (g.at c) (sym same)
      | inr other ↦ get_or-set_other part n row x none other ∙ F.here row (omega arith) so
    ];
  }

  pub fetched_skip : Fetched none g wanted c n m h part → wanted n ≡ false → Fetched none g wanted c (n + 1) m h part
  fetched_skip F wanted_is = record {
    reads = F.reads ∙ sym (sum_more 0 ◌+◌ n (λ a. cond (wanted a) 1 0) ∙ rw wanted_is (omega arith));
    meter = F.meter;
    here = λ row low so. elim (cases_eq row n) [
      | inl same ↦ absurd (both_ways (wanted n) wanted_is (ap wanted (sym same) ∙ so))
      | inr other ↦ F.here row (omega arith) so
    ];
  }

-- a part of n symbols of the work area is written back
module _ {X : Type 0} (none : X) (work part : List X) (start n : ℕ) (room : start + n ≤ length work) (long : length part ≡ n) where
  in_part : (i : ℕ) → i < n → get_or (put_mid start n work part) (start + i) none ≡ get_or part i none
  in_part i k = search (rules, places)

  below_part : (i : ℕ) → i < start → get_or (put_mid start n work part) i none ≡ get_or work i none
  below_part i k = search (rules, places)

  above_part : (i : ℕ) → start + n ≤ i → get_or (put_mid start n work part) i none ≡ get_or work i none
  above_part i k = search (rules, places)

module _ {X : Type 0} (none : X) (s : Shape) (f : ℕ) (one : 1 ≤ f) (last : f ≤ s.k) where
  pub listed_helper : (c row : ℕ) → listed s f c row ≡ true → helper s f c ≡ true
  listed_helper c row e = grind (arith, nat_tests)

  none_listed : (c : ℕ) → helper s f c ≡ false → (n : ℕ) → count n (listed s f c) ≡ 0
  none_listed c e zero = refl
  none_listed c e (suc n) = let no : listed s f c n ≡ false = grind (arith, nat_tests) in rw (no, none_listed c e n)

  -- a column that does not help
  pub unhelped : (g : View X) (c : ℕ) (before : List X) → g.meter < 2 ^ 64 → helper s f c ≡ false → Filled none s f g c before 0 g before
  unhelped g c before low e = record {
    reads = sym (none_listed c e (rows_of s));
    meter = metered_none g low;
    here = λ row h yes. absurd (both_ways (helper s f c) e (listed_helper c row yes));
    kept = λ d row ne hd h. refl;
  }

  elsewhere : (c d row : ℕ) → (d ≡ c → ⊥) → helper s f c ≡ true → helper s f d ≡ true → row < rows_of s → (slot s f d * rows_of s + row < slot s f c * rows_of s) ⊎ (slot s f c * rows_of s + rows_of s ≤ slot s f d * rows_of s + row)
  elsewhere c d row ne hc hd low =
      elim (cases_order (slot s f d) (slot s f c)) [
        | inl e ↦ absurd (ne ((apart s f d c one last hd hc).1 e))
        | inr (inl k) ↦ inl (omega (arith, mul-le-mul_right (rows_of s) k))
        | inr (inr k) ↦ inr (omega (arith, mul-le-mul_right (rows_of s) k))
      ]

  pub part_fits : (c : ℕ) → helper s f c ≡ true → slot s f c * rows_of s + rows_of s ≤ helpers_of s * rows_of s
  part_fits c h = omega (arith, mul-le-mul_right (rows_of s) (apart s f c c one last h h).0)

  -- the part of a helper is filled; its start and its length are what the plan answered
  pub filled :
      (g h : View X) (c m start k n : ℕ) (work part : List X) → start ≡ slot s f c * rows_of s → k ≡ rows_of s → n ≡ rows_of s → length part ≡ rows_of s → helpers_of s * rows_of s ≤ length work →
      helper s f c ≡ true → Fetched none g (listed s f c) c n m h part → Filled none s f g c work m h (put_mid start k work part)
  filled g h c m start k n work part at-start long same part_long room hc F = record {
    reads = F.reads ∙ ap (λ i. count i (listed s f c)) same;
    meter = F.meter;
    here = λ row low on. ap (λ x. get_or (put_mid start k work part) (x + row) none) (sym at-start) ∙ in_part none work part start k fits whole row (omega arith) ∙ F.here row (omega arith) on;
    kept = λ d row ne hd low. elim (elsewhere c d row ne hc hd low) [
      | inl before ↦ below_part none work part start k fits whole (slot s f d * rows_of s + row) (omega arith)
      | inr behind ↦ above_part none work part start k fits whole (slot s f d * rows_of s + row) (omega arith)
    ];
  }
    where
      fits : start + k ≤ length work
      fits = omega (arith, part_fits c hc)

      whole : length part ≡ k
      whole = omega arith

  collected_more : (g h h' : View X) (n m k : ℕ) (after after' : List X) → Collected none s f g n m h after → Filled none s f h (n + 1) after k h' after' → Collected none s f g (n + 1) (m + k) h' after'
  collected_more g h h' n m k after after' G F = record {
    reads = ap₂ ◌+◌ G.reads F.reads ∙ sym (sum_more 0 ◌+◌ n (λ c. count (rows_of s) (listed s f (c + 1))));
    meter = F.meter ∙ ap (metered k) G.meter ∙ metered_more g m k;
    here = λ c row low in_rows yes. elim (cases_eq c (n + 1)) [
      | inl e ↦ subst (λ c. listed s f c row ≡ true → area none s f after' c row ≡ g.at c row) (sym e) (λ yes. F.here row in_rows yes ∙ ap (λ (v : View X). v.at (n + 1) row) G.meter) yes
      | inr e ↦ F.kept c row e (listed_helper c row yes) in_rows ∙ G.here c row (omega arith) in_rows yes
    ];
  }

  pub collected_next : (g h h' : View X) (c n m k : ℕ) (after after' : List X) → 1 ≤ c → n ≡ c → Collected none s f g (c - 1) m h after → Filled none s f h c after k h' after' → Collected none s f g n (m + k) h' after'
  collected_next g h h' c n m k after after' low last G F =
      let here : c ≡ c - 1 + 1 = omega arith in
      let next : c - 1 + 1 ≡ n = omega arith in
      subst (λ i. Collected none s f g i (m + k) h' after') next (collected_more g h h' (c - 1) m k after after' G (subst (λ d. Filled none s f h d after k h' after') here F))

  pub filled_low : (g h : View X) (c k : ℕ) (before after : List X) → Filled none s f g c before k h after → k ≤ 4096
  filled_low g h c k before after F = omega (arith, F.reads, count_le (rows_of s) (listed s f c), s.small)

  pub no_start : (c : ℕ) → None ≡ start_of s f c → helper s f c ≡ false
  no_start c e = grind (arith, nat_tests)

  pub some_start : (c x : ℕ) → Some x ≡ start_of s f c → (helper s f c ≡ true) × (x ≡ slot s f c * rows_of s)
  some_start c x e = (grind (arith, nat_tests), grind (arith, nat_tests))

  -- a row that the plan answers is the repair rule's
  pub row_is : (plus : X → X → X) (work : List X) (row : ℕ) (x : X) (answer : Option X) → answer ≡ row_from none plus s f work row → answer ≡ Some x → helpers_of s * rows_of s ≤ length work → row < rows_of s → x ≡ rebuilt none plus s f (area none s f work) row
  row_is plus work row x answer is some room low = grind (arith, nat_tests)

-- the same answer of another step
pub accepted_as : {A : Type 0} (P Q : A → Type 0) → ((a : A) → P a → Q a) → (r : Result A Refusal) → Accepts P r → Accepts Q r
accepted_as P Q more (Ok a) p = more a p
accepted_as P Q more (Err e) p = elim p [ ]

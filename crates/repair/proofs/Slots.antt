-- Each helper has a part of the work area to itself.
use Rattle.std.proofs.Common.{◌≡◌, ℕ, ◌+◌, ◌-◌, ◌*◌, ◌<◌, ◌≤◌, Bool, true, false, cond, not, ◌&&◌, ◌||◌, eqb, ltb, leb, arith}
use Rattle.std.proofs.lemmas.Bool.Decides.{nat_tests}
use Rattle.code.specs.declared.shape.Shape.{Shape}
use Rattle.code.specs.Shapes.{columns_of, helpers_of}
use Rattle.repair.specs.Halves.{first_half}
use Rattle.repair.specs.Lists.{helper, slot}
use Rattle.repair.specs.Laws.{PartsAreApart}

module _ (s : Shape) (f : ℕ) (one : 1 ≤ f) (last : f ≤ s.k) where
  -- the same by halves
  abbrev helper_by : Bool → ℕ → Bool
  helper_by b c = cond (leb c s.k) (leb 1 c && not (eqb c f)) (eqb (c - s.k) 1 || cond b (leb 2 (c - s.k) && leb (c - s.k) s.q) (leb (s.q + 1) (c - s.k) && leb (c - s.k) (2 * s.q - 1)))

  abbrev slot_by : Bool → ℕ → ℕ
  slot_by b c = cond (ltb c f) (c - 1) (cond (leb c s.k) (c - 2) (cond (eqb c (s.k + 1)) (s.k - 1) (cond b (c - 2) (c - s.q - 1))))

  pub slot_low : (c : ℕ) → helper s f c ≡ true → slot s f c < helpers_of s
  slot_low c h = by (first_half s f) h
    where
      by : (b : Bool) → helper_by b c ≡ true → slot_by b c < helpers_of s
      by true h = let two = s.helping.0 in grind (arith, nat_tests)
      by false h = let two = s.helping.0 in grind (arith, nat_tests)

  pub slot_apart : (c e : ℕ) → helper s f c ≡ true → helper s f e ≡ true → slot s f c ≡ slot s f e → c ≡ e
  slot_apart c e h i same = by (first_half s f) h i same
    where
      by : (b : Bool) → helper_by b c ≡ true → helper_by b e ≡ true → slot_by b c ≡ slot_by b e → c ≡ e
      by true h i same = grind (arith, nat_tests)
      by false h i same = grind (arith, nat_tests)

  pub helper_column : (c : ℕ) → helper s f c ≡ true → (1 ≤ c) × (c ≤ columns_of s) × (c ≡ f → ⊥)
  helper_column c h = ((by (first_half s f) h).0, (by (first_half s f) h).1, λ e. (by (first_half s f) h).2 e)
    where
      by : (b : Bool) → helper_by b c ≡ true → (1 ≤ c) × (c ≤ columns_of s) × (c ≡ f → ⊥)
      by true h = (grind (arith, nat_tests), grind (arith, nat_tests), λ e. grind (arith, nat_tests))
      by false h = (grind (arith, nat_tests), grind (arith, nat_tests), λ e. grind (arith, nat_tests))

pub apart : PartsAreApart
apart s f c e one last h i = (slot_low s f one last c h, slot_apart s f one last c e h i)

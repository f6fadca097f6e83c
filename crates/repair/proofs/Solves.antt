-- A row makes the sum that serves it true just if it is the rebuilt one; so an encoded array's own column comes back.
use Rattle.std.proofs.Common.{◌≡◌, ℕ, ◌+◌, ◌-◌, ◌%◌, ◌<◌, ◌≤◌, cond, eqb, sym, refl, ap, ◌∙◌, ap₂, inl, inr, mod-lt, mod-eq_of_lt, arith}
use native.Mathlib.Nat.{mod-add-mod, add-mod_right}
use Rattle.std.proofs.lemmas.Bool.{cases_eq, eq-eqb, ne_eqb}
use Rattle.ring.specs.Sums.{BooleanGroup, sum_to}
use Rattle.ring.proofs.Sums.{sum_same, sum_but, cancel}
use Rattle.ring.proofs.Classes.{at_row}
use Rattle.code.specs.declared.shape.Shape.{Shape}
use Rattle.code.specs.Shapes.{classes_of, rows_of, positions_of, shift_of}
use Rattle.code.specs.Parities.{symbol_of, term_of}
use Rattle.code.proofs.Bounds.{classes_pos, positions_are, shift_low}
use Rattle.repair.specs.Rows.{chosen, position, place, rebuilt, SumHolds, with_column}
use Rattle.repair.specs.Laws.{GivesBack, OnlySolution}
use Rattle.repair.proofs.Frame as F

pub positions_pos : (s : Shape) → 0 < positions_of s
positions_pos s = omega (arith, positions_are s, classes_pos s)

module _ (s : Shape) (f : ℕ) (one : 1 ≤ f) (last : f ≤ s.k) (row : ℕ) where
  pub position_low : position s f row < positions_of s
  position_low = mod-lt _ (positions_pos s)

  -- the sum that serves a row takes that very row of f
  place_own : row < rows_of s → place s f row f ≡ row
  place_own low =
      mod-add-mod (row + A) N (N - A)
      ∙ ap (λ x. x % N) (omega (arith, fits))
      ∙ add-mod_right row N
      ∙ mod-eq_of_lt (omega (arith, positions_are s))
    where
      N : ℕ
      N = positions_of s

      A : ℕ
      A = shift_of s (chosen s f row) f

      fits : A ≤ N
      fits = omega (arith, positions_are s, shift_low s (chosen s f row) f (F.chosen_range s f one last row).0 (F.chosen_range s f one last row).1 one last)

module _ {X : Type 0} {none : X} {plus : X → X → X} (L : BooleanGroup none plus) (s : Shape) (f : ℕ) (one : 1 ≤ f) (last : f ≤ s.k) (at : ℕ → ℕ → X) (row : ℕ) (low : row < rows_of s) where
  term : ℕ → X
  term i = term_of none plus s at (chosen s f row) (position s f row) i

  parity : X
  parity = symbol_of none plus s (at (s.k + chosen s f row)) (position s f row)

  others : X
  others = sum_to none plus s.k (λ i. cond (eqb (i + 1) f) none (term i))

  own : term (f - 1) ≡ at f row
  unfolding term
  own =
      let e : f - 1 + 1 ≡ f = omega arith in
      ap (λ (x : ℕ). symbol_of none plus s (at x) (place s f row x)) e
      ∙ ap (symbol_of none plus s (at f)) (place_own s f one last row low)
      ∙ at_row none plus (s.p - 1) (classes_of s) (at f) row low

  whole : plus (sum_to none plus s.k term) others ≡ at f row
  unfolding others
  whole = ap (plus (sum_to none plus s.k term)) (sum_same none plus s.k _ _ (λ i k. ap (λ b. cond b none (term i)) (test i))) ∙ sum_but L s.k (f - 1) term (omega arith) ∙ own
    where
      test : (i : ℕ) → eqb (i + 1) f ≡ eqb i (f - 1)
      test i = elim (cases_eq (i + 1) f) [ inl e ↦ eq-eqb (i + 1) f e ∙ sym (eq-eqb i (f - 1) (omega arith)) | inr e ↦ ne_eqb (i + 1) f e ∙ sym (ne_eqb i (f - 1) (λ z. e (omega arith))) ]

  pub solved : SumHolds none plus s f at row → at f row ≡ rebuilt none plus s f at row
  unfolding term others
  solved e = sym whole ∙ ap (λ x. plus x others) (sym e)

  pub solves : at f row ≡ rebuilt none plus s f at row → SumHolds none plus s f at row
  unfolding term parity others
  solves e = cancel L others parity (sum_to none plus s.k term) (L.monoid.comm others parity ∙ sym e ∙ sym whole ∙ L.monoid.comm _ others)

module _ {X : Type 0} (none : X) (plus : X → X → X) (s : Shape) (f : ℕ) (one : 1 ≤ f) (last : f ≤ s.k) (at : ℕ → ℕ → X) (column : ℕ → X) (row : ℕ) where
  kept : (c : ℕ) → (c ≡ f → ⊥) → with_column f column at c ≡ at c
  kept c ne = ap (λ b. cond b column (at c)) (ne_eqb c f ne)

  -- f itself is not asked
  without : rebuilt none plus s f (with_column f column at) row ≡ rebuilt none plus s f at row
  without =
      ap₂ plus
      (ap (λ y. symbol_of none plus s y (position s f row)) (kept (s.k + chosen s f row) (λ e. omega (arith, (F.chosen_range s f one last row).0))))
      (sum_same none plus s.k _ _ (λ i k.
      elim (cases_eq (i + 1) f) [
        | inl e ↦ rw (eq-eqb (i + 1) f e)
        | inr e ↦ rw (ne_eqb (i + 1) f e)
      ]))

pub only_solution : {X : Type 0} → OnlySolution X
only_solution {X} none plus L s f one last at column row low = (
  λ e. sym put ∙ solved L s f one last W row low e ∙ without none plus s f one last at column row,
  λ e. solves L s f one last W row low (put ∙ e ∙ sym (without none plus s f one last at column row)),
)
  where
    W : ℕ → ℕ → X
    W = with_column f column at

    put : W f row ≡ column row
    put = ap (λ b. cond b column (at f) row) (eq-eqb f f refl)

pub gives_back : {X : Type 0} → GivesBack X
gives_back none plus L s f one last at encoded row low =
    sym (solved L s f one last at row low (encoded (chosen s f row) (position s f row) (F.chosen_range s f one last row).0 (F.chosen_range s f one last row).1 (position_low s f one last row)))

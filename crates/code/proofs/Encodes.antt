-- An array whose parity rows are their sums is encoded: the sums hold at the extra symbols too.
use Rattle.std.proofs.Common.{◌≡◌, ℕ, zero, suc, ◌+◌, ◌-◌, ◌*◌, ◌<◌, ◌≤◌, sym, refl, ap, ◌∙◌, ap₂, mod-lt, arith}
use Rattle.ring.specs.Sums.{BooleanGroup, sum_to}
use Rattle.ring.specs.Cyclic.{shifted, shifted_sum}
use Rattle.ring.proofs.Classes.{at_same, parity_extends}
use Rattle.code.specs.declared.shape.Shape.{Shape}
use Rattle.code.specs.Shapes.{parities_of, classes_of, rows_of, positions_of, shift_of}
use Rattle.code.specs.Parities.{symbol_of, term_of, parity_of, Encoded}
use Rattle.code.proofs.Bounds.{blocks, classes_pos, positions_are}

-- a parity depends on the data columns' rows alone
pub parity_same :
    {X : Type 0} (none : X) (plus : X → X → X) (s : Shape) (A B : ℕ → ℕ → X) → ((c row : ℕ) → 1 ≤ c → c ≤ s.k → row < rows_of s → A c row ≡ B c row) →
    (j x : ℕ) → x < rows_of s → parity_of none plus s A j x ≡ parity_of none plus s B j x
parity_same {X} none plus s A B same j x low = terms s.k (λ i h. h)
  where
    term : (i : ℕ) → i < s.k → term_of none plus s A j x i ≡ term_of none plus s B j x i
    term i h = at_same none plus (s.p - 1) (classes_of s) (A (i + 1)) (B (i + 1)) (shifted (positions_of s) (shift_of s j (i + 1)) x) (rw (blocks s) (mod-lt (x + (positions_of s - shift_of s j (i + 1))) (omega (arith, positions_are s, classes_pos s)))) (λ row k. same (i + 1) row (omega arith) (omega arith) k)

    terms : (n : ℕ) → ((i : ℕ) → i < n → i < s.k) → sum_to none plus n (term_of none plus s A j x) ≡ sum_to none plus n (term_of none plus s B j x)
    terms zero h = refl
    terms (suc n) h = ap₂ plus (terms n (λ i k. h i (omega arith))) (term n (h n (omega arith)))

module _ {X : Type 0} (none : X) (plus : X → X → X) (s : Shape) (at : ℕ → ℕ → X) where
  ring : positions_of s ≡ suc (s.p - 1) * classes_of s
  ring = ap (λ p. p * classes_of s) (sym (blocks s))

  -- a parity in the words of the ring
  pub as_shifted : (j x : ℕ) → parity_of none plus s at j x ≡ shifted_sum none plus (s.p - 1) (classes_of s) s.k (λ i. at (i + 1)) (λ i. shift_of s j (i + 1)) x
  unfolding shifted_sum
  as_shifted j x = ap (λ n. sum_to none plus s.k (λ i. symbol_of none plus s (at (i + 1)) (shifted n (shift_of s j (i + 1)) x))) ring

  pub encoded : BooleanGroup none plus → ((j row : ℕ) → 1 ≤ j → j ≤ parities_of s → row < rows_of s → at (s.k + j) row ≡ parity_of none plus s at j row) → Encoded none plus s at
  encoded L sums j x one last low =
      at_same none plus (s.p - 1) (classes_of s) (at (s.k + j)) P x inside (λ row h. sums j row one last h ∙ as_shifted j row)
      ∙ parity_extends none plus L (s.p - 1) (classes_of s) s.k (λ i. at (i + 1)) (λ i. shift_of s j (i + 1)) x inside
      ∙ sym (as_shifted j x)
    where
      P : ℕ → X
      P = shifted_sum none plus (s.p - 1) (classes_of s) s.k (λ i. at (i + 1)) (λ i. shift_of s j (i + 1))

      inside : x < suc (s.p - 1) * classes_of s
      inside = rw (← ring) low

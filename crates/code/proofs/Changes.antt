-- What a change of one data symbol changes in the parities.
use Rattle.std.proofs.Common.{◌≡◌, ℕ, suc, ◌+◌, ◌-◌, ◌*◌, ◌%◌, ◌<◌, ◌≤◌, Bool, cond, ◌||◌, eqb, ap, ◌∙◌, ap₂, mod-lt, arith}
use Rattle.ring.specs.Sums.{CommutativeMonoid}
use Rattle.ring.specs.Cyclic.{shifted}
use Rattle.ring.proofs.Classes.{at_same}
use Rattle.ring.proofs.Changes.{shift_meets, sum_changed, at_changed}
use Rattle.code.specs.declared.shape.Shape.{Shape}
use Rattle.code.specs.Shapes.{parities_of, classes_of, rows_of, positions_of, shift_of}
use Rattle.code.specs.Parities.{symbol_of, term_of, parity_of, takes_in}
use Rattle.code.proofs.Bounds.{blocks, classes_pos, positions_are, shift_low}

module _ (s : Shape) where
  in_ring : (x : ℕ) → x % positions_of s < suc (s.p - 1) * classes_of s
  in_ring x = rw (blocks s) (mod-lt x (omega (arith, positions_are s, classes_pos s)))

  class_low : (row : ℕ) → row % classes_of s < classes_of s
  class_low row = mod-lt row (omega (arith, classes_pos s))

  -- parity j at position x takes a row in just where the shift brings it or its class there
  pub taken : (j c row x : ℕ) → 1 ≤ j → j ≤ parities_of s → 1 ≤ c → c ≤ s.k → row < rows_of s → x < positions_of s →
      (eqb (shifted (positions_of s) (shift_of s j c) x) row || eqb (shifted (positions_of s) (shift_of s j c) x) (rows_of s + row % classes_of s)) ≡ takes_in s j c row x
  taken j c row x j₁ j₂ c₁ c₂ low inside =
      let a : shift_of s j c ≤ positions_of s = omega (arith, positions_are s, shift_low s j c j₁ j₂ c₁ c₂) in
      ap₂ ◌||◌
      (shift_meets (positions_of s) (shift_of s j c) x row a inside (omega (arith, positions_are s)))
      (shift_meets (positions_of s) (shift_of s j c) x (rows_of s + row % classes_of s) a inside (omega (arith, positions_are s, class_low row)))

-- a parity changes by δ where it takes in the row that changes by δ, and nowhere else
pub parity_changed :
    {X : Type 0} {none : X} {plus : X → X → X} → CommutativeMonoid none plus → (s : Shape) (A B : ℕ → ℕ → X) (c row : ℕ) (δ : X) → 1 ≤ c → c ≤ s.k → row < rows_of s →
    B c row ≡ plus (A c row) δ → ((d y : ℕ) → 1 ≤ d → d ≤ s.k → y < rows_of s → ((d ≡ c) × (y ≡ row) → ⊥) → B d y ≡ A d y) →
    (j x : ℕ) → 1 ≤ j → j ≤ parities_of s → x < positions_of s →
    parity_of none plus s B j x ≡ plus (parity_of none plus s A j x) (cond (takes_in s j c row x) δ none)
parity_changed {X} {none} {plus} L s A B c row δ c₁ c₂ low here others j x j₁ j₂ inside =
    sum_changed L s.k (c - 1) (term_of none plus s A j x) (term_of none plus s B j x) (cond (takes_in s j c row x) δ none) (omega arith) changed kept
  where
    from : ℕ → ℕ
    from i = shifted (positions_of s) (shift_of s j i) x

    at_c : symbol_of none plus s (B c) (from c) ≡ plus (symbol_of none plus s (A c) (from c)) (cond (takes_in s j c row x) δ none)
    at_c =
        at_changed L (s.p - 1) (classes_of s) (A c) (B c) row δ low here (λ y h ne. others c y c₁ c₂ h (λ z. ne z.1)) (from c) (in_ring s (x + (positions_of s - shift_of s j c)))
        ∙ ap (λ (u : Bool). plus (symbol_of none plus s (A c) (from c)) (cond u δ none)) (taken s j c row x j₁ j₂ c₁ c₂ low inside)

    changed : term_of none plus s B j x (c - 1) ≡ plus (term_of none plus s A j x (c - 1)) (cond (takes_in s j c row x) δ none)
    changed = let e : c - 1 + 1 ≡ c = omega arith in rw e at_c

    kept : (i : ℕ) → i < s.k → (i ≡ c - 1 → ⊥) → term_of none plus s B j x i ≡ term_of none plus s A j x i
    kept i h ne = at_same none plus (s.p - 1) (classes_of s) (B (i + 1)) (A (i + 1)) (from (i + 1)) (in_ring s (x + (positions_of s - shift_of s j (i + 1)))) (λ y k. others (i + 1) y (omega arith) (omega arith) k (λ z. ne (omega (arith, z.0))))

-- Each data place shows in every parity column.
use Rattle.std.proofs.Common.{◌≡◌, ℕ, suc, ◌+◌, ◌-◌, ◌*◌, ◌%◌, ◌<◌, ◌≤◌, ◌∙◌, subst, ap₂, mod-eq_of_lt, one-mul, arith}
use Rattle.ring.specs.Cyclic.{Covers, shifted}
use Rattle.ring.proofs.Sums.{sum_rest}
use Rattle.code.specs.declared.shape.Shape.{Shape}
use Rattle.code.specs.Shapes.{classes_of, rows_of, positions_of, shift_of}
use Rattle.code.specs.Parities.{symbol_of, term_of, parity_of}
use Rattle.code.proofs.Bounds.{prime_low}
use Rattle.repair.specs.Laws.{ParityDiffers}
use Rattle.repair.proofs.Rounds.{met}
use Rattle.repair.proofs.Depends.{in_ring, other, here}

-- a row whose sum takes in row r of a column that is shifted by a
meets : (s : Shape) (a r : ℕ) → r < rows_of s → (row : ℕ) × (row < rows_of s) × Covers (s.p - 1) (classes_of s) (shifted (positions_of s) a row) r
meets s a r low =
    let (row, h, o) = subst Met (one-mul (classes_of s)) (met 1 (classes_of s) b 0 a r (rw one-mul low)) in
    (row, h, subst (λ x. Covers b (classes_of s) x r) (ap₂ (λ p x. shifted (p * classes_of s) a x) blocks (mod-eq_of_lt (omega arith) ∙ omega arith)) o)
  where
    b : ℕ
    b = s.p - 1

    Met : ℕ → Type 0
    Met t = (row : ℕ) × (row < b * t) × Covers b t (shifted (suc b * t) a ((row + 0) % (suc b * t))) r

    blocks : suc b ≡ s.p
    blocks = omega (arith, prime_low s)

pub parity_differs : {X : Type 0} → ParityDiffers X
parity_differs none plus L s j c r one last lo hi within A B ne same = let (row, low, o) = meets s (shift_of s j c) r within in (row, low, λ equal. ne (told row o equal))
  where
    Data : ℕ → Type 0
    Data e = (1 ≤ e) × (e ≤ s.k)

    same_data : (e y : ℕ) → Data e → y < rows_of s → ((e ≡ c) × (y ≡ r) → ⊥) → A e y ≡ B e y
    same_data e y h = same e y h.0 h.1

    place : ℕ → ℕ → ℕ
    place row i = shifted (positions_of s) (shift_of s j i) row

    others : (row i : ℕ) → i < s.k → (i ≡ c - 1 → ⊥) → term_of none plus s A j row i ≡ term_of none plus s B j row i
    others row i k n = other L s same_data (i + 1) (place row (i + 1)) (in_ring s _) (omega arith, omega arith) (λ z. n (omega arith))

    -- a sum that takes in the place, and is the same, has the place the same
    told : (row : ℕ) → Covers (s.p - 1) (classes_of s) (place row c) r → parity_of none plus s A j row ≡ parity_of none plus s B j row → A c r ≡ B c r
    told row o equal =
        let back : c - 1 + 1 ≡ c = omega arith in
        here L s same_data (place row c) (lo, hi) o
        (subst (λ i. symbol_of none plus s (A i) (place row i) ≡ symbol_of none plus s (B i) (place row i)) back
        (sum_rest L s.k (c - 1) (term_of none plus s A j row) (term_of none plus s B j row) (omega arith) (others row) equal))

-- What new frames are.
use Rattle.std.proofs.Common.{◌≡◌, ℕ, ◌*◌, ◌≤◌, cond, List, length, Some, None, Option, sym, refl, ap, ◌∙◌, arith}
use Rattle.code.specs.declared.refusal.Refusal.{Refusal}
use Rattle.code.specs.declared.shape.Shape.{Shape}
use Rattle.code.specs.Shapes.{columns_of, rows_of}
use Rattle.frames.specs.Lines.{stride}
use Rattle.frames.specs.Format.{marks_in, symbols_in}
use Rattle.frames.specs.Checks.{text_refusal}
use Rattle.frames.specs.Stores.{refused, Over}
use Rattle.frames.proofs.Places.{rows_some}
use Rattle.frames.proofs.Sound.{sound, never}
use Rattle.frames.proofs.Views.{view}

-- the columns and rows of frames over a text: those of the shape, or none where the check refuses it
pub record Sized (w : ℕ) (s : Shape) (text : List ℕ) (m n : ℕ) : Type 0 where
  pub columns : m ≡ cond (refused s w text) 0 (columns_of s)
  pub rows : n ≡ cond (refused s w text) 0 (rows_of s)

module _ (w : ℕ) (s : Shape) (text : List ℕ) where
  abbrev refusal : Option Refusal
  refusal = text_refusal (columns_of s) (rows_of s) w text

  pub sized_passed : (m n : ℕ) → m ≡ columns_of s → n ≡ rows_of s → refusal ≡ None → Sized w s text m n
  sized_passed m n p q h = record { columns = rw h p; rows = rw h q }

  pub sized_refused : (m n : ℕ) (e : Refusal) → m ≡ 0 → n ≡ 0 → refusal ≡ Some e → Sized w s text m n
  sized_refused m n e p q h = record { columns = rw h p; rows = rw h q }

  -- whichever it is
  cases : (m n : ℕ) (P : Type 0) → Sized w s text m n → (m ≡ 0 → n ≡ 0 → (refusal ≡ None → ⊥) → P) → (m ≡ columns_of s → n ≡ rows_of s → refusal ≡ None → P) → P
  cases m n P sized empty full = go refusal refl
    where
      go : (o : Option Refusal) → refusal ≡ o → P
      go None h = full (sized.columns ∙ rw h refl) (sized.rows ∙ rw h refl) h
      go (Some e) h = empty (sized.columns ∙ rw h refl) (sized.rows ∙ rw h refl) (rw h (never e))

  pub some_of : (m n : ℕ) → Sized w s text m n → (1 ≤ m → 1 ≤ n) × (1 ≤ n → 1 ≤ m)
  some_of m n sized = cases m n ((1 ≤ m → 1 ≤ n) × (1 ≤ n → 1 ≤ m)) sized (λ p q _. (λ h. absurd (omega arith), λ h. absurd (omega arith))) (λ p q _. (λ h. omega (arith, rows_some s), λ h. omega (arith, s.data_columns)))

  pub whole_of : (m n : ℕ) → Sized w s text m n → 1 ≤ m → m * n * stride w ≡ length text
  whole_of m n sized one = cases m n (m * n * stride w ≡ length text) sized (λ p q _. absurd (omega arith)) (λ p q h. rw (p, q) (sym (sound (columns_of s) (rows_of s) w text h).long))

  pub formed_of : (m n : ℕ) → Sized w s text m n → refusal ≡ None → text_refusal m n w text ≡ None
  formed_of m n sized h = cases m n (text_refusal m n w text ≡ None) sized (λ _ _ not. absurd (not h)) (λ p q h. rw (p, q) h)

  -- what they mean
  pub over_of : {X : Type 0} (none : X) (symbol : List ℕ → X) (owner m n : ℕ) → Sized w s text m n → Over none w symbol s text owner (view none w symbol m n 0 owner text)
  over_of none symbol owner m n sized = record {
    columns = sized.columns;
    rows = sized.rows;
    at = λ c r inside. ap (λ n. symbols_in none n w symbol text c r) (same_rows inside.0 inside.1);
    lost = λ c column. ap (λ n. marks_in n w text c) (same_rows column.0 column.1);
    meter = refl;
    lender = refl;
  }
    where
      same_rows : {c : ℕ} → 1 ≤ c → c ≤ m → n ≡ rows_of s
      same_rows one last = cases m n (n ≡ rows_of s) sized (λ p q _. absurd (omega arith)) (λ p q _. q)

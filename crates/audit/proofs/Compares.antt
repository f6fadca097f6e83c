-- One row and one parity column more.
use Rattle.std.proofs.Common.{◌≡◌, ℕ, ◌+◌, ◌-◌, ◌*◌, ◌≤◌, List, Bool, true, false, ◌&&◌, sym, refl, ap, ◌∙◌, subst, inl, inr, arith}
use Rattle.std.proofs.lemmas.Bool.{cases_eq}
use Rattle.symbol.specs.Kinds.{Tells}
use Rattle.code.specs.declared.shape.Shape.{Shape}
use Rattle.code.specs.Shapes.{rows_of}
use Rattle.code.specs.Parities.{parity_of}
use Rattle.code.specs.Places.{symbols_of}
use Rattle.store.specs.View.{View, metered}
use Rattle.columns.proofs.Turns.{metered_more}
use Rattle.audit.specs.Progress.{Compared, Matched}

both : (a b : Bool) → a ≡ true → b ≡ true → (a && b) ≡ true
both true b p q = q
both false b p q = p

left : (a b : Bool) → (a && b) ≡ true → a ≡ true
left true b e = refl
left false b e = e

right : (a b : Bool) → (a && b) ≡ true → b ≡ true
right true b e = e
right false b e = absurd (let z : ◌≡◌ {A = ℕ} 0 1 = cc in omega arith)

pub compared_more :
    {X : Type 0} (g h h' : View X) (c n : ℕ) (F : ℕ → X) (a b : Bool) (x sum : X) →
    Compared g c n F a h → x ≡ h.at c n → h' ≡ metered 1 h → sum ≡ F n → Tells x sum b → Compared g c (n + 1) F (a && b) h'
compared_more g h h' c n F a b x sum C e m is T = record {
  meter = m ∙ ap (metered 1) C.meter ∙ metered_more g n 1;
  so = λ so row low. elim (cases_eq row n) [
    | inl same ↦ subst (λ y. g.at c y ≡ F y) (sym same) (sym was ∙ T.so (right a b so) ∙ is)
    | inr other ↦ C.so (left a b so) row (omega arith)
  ];
  if_so = λ all. both a b (C.if_so (λ row low. all row (omega arith))) (T.if_so (was ∙ all n (omega arith) ∙ sym is));
}
  where
    was : x ≡ g.at c n
    was = e ∙ ap (λ (v : View _). v.at c n) C.meter

matched_more :
    {X : Type 0} (g h h' : View X) (k m n : ℕ) (F : ℕ → ℕ → X) (a b : Bool) →
    Matched g k m n F a h → Compared h (k + (n + 1)) m (F (n + 1)) b h' → Matched g k m (n + 1) F (a && b) h'
matched_more g h h' k m n F a b M C = record {
  meter = C.meter ∙ ap (metered m) M.meter ∙ metered_more g (n * m) m ∙ ap (λ i. metered i g) (omega arith);
  so = λ so j row one last low. elim (cases_eq j (n + 1)) [
    | inl same ↦ subst (λ i. g.at (k + i) row ≡ F i row) (sym same) (sym (was row) ∙ C.so (right a b so) row low)
    | inr other ↦ M.so (left a b so) j row one (omega arith) low
  ];
  if_so = λ all. both a b (M.if_so (λ j row one last low. all j row one (omega arith) low)) (C.if_so (λ row low. was row ∙ all (n + 1) row (omega arith) (omega arith) low));
}
  where
    was : (row : ℕ) → h.at (k + (n + 1)) row ≡ g.at (k + (n + 1)) row
    was row = ap (λ (v : View _). v.at (k + (n + 1)) row) M.meter

-- the same by the parity's number; the rule's shape and parity are told by equations
pub matched_next :
    {X : Type 0} (none : X) (plus : X → X → X) (s a : Shape) (cells : List X) (g h h' : View X) (j i n : ℕ) (x y : Bool) → a ≡ s → i ≡ j → n ≡ j → 1 ≤ j →
    Matched g s.k (rows_of s) (j - 1) (parity_of none plus s (symbols_of none (rows_of s) cells)) x h →
    Compared h (a.k + i) (rows_of a) (parity_of none plus a (symbols_of none (rows_of a) cells) i) y h' →
    Matched g s.k (rows_of s) n (parity_of none plus s (symbols_of none (rows_of s) cells)) (x && y) h'
matched_next none plus s a cells g h h' j i n x y shape-is parity-is next-is one M C =
    let F = parity_of none plus s (symbols_of none (rows_of s) cells) in
    let of_shape : Compared h (s.k + j) (rows_of s) (F j) y h' = rw (← shape-is, ← parity-is) C in
    let here : j ≡ j - 1 + 1 = omega arith in
    let next : j - 1 + 1 ≡ n = omega arith in
    subst (λ n. Matched g s.k (rows_of s) n F (x && y) h') next (matched_more g h h' s.k (rows_of s) (j - 1) F x y M (subst (λ n. Compared h (s.k + n) (rows_of s) (F n) y h') here of_shape))

-- One turn more of each loop.
use Rattle.std.proofs.Common.{◌≡◌, ℕ, ◌+◌, ◌-◌, ◌*◌, ◌%◌, ◌^◌, ◌<◌, ◌≤◌, List, ◌++◌, length, get_or, take, sym, ap, ◌∙◌, subst, ap₂, inl, inr, add_assoc, mul-le-mul_right, mod-eq_of_lt, arith}
use native.Mathlib.Nat.{mod-add-mod}
use Rattle.std.proofs.lemmas.Bool.{cases_eq}
use Rattle.std.proofs.lemmas.List.{get_or_append_left, get_or-append_right, get_or-take, get_or-drop, length-take-le}
use borrow.Rule.Slice.PartMut.{put_mid, post_of}
use Rattle.code.specs.Places.{symbols_of}
use Rattle.store.specs.View.{View, Column, Inside, metered, Written, Admitted}
use Rattle.columns.specs.Progress.{Loaded, Gathered, Refilled, Renewed}

pub metered_none : {X : Type 0} (g : View X) → g.meter < 2 ^ 64 → g ≡ metered 0 g
metered_none g h =
    let e : g.meter ≡ (g.meter + 0) % 2 ^ 64 = sym (mod-eq_of_lt (omega arith) ∙ omega arith) in
    ap (λ m. record { columns = g.columns; rows = g.rows; at = g.at; lost = g.lost; meter = m; lender = g.lender }) e

pub metered_more : {X : Type 0} (g : View X) (a b : ℕ) → metered b (metered a g) ≡ metered (a + b) g
metered_more g a b = ap (λ m. record { columns = g.columns; rows = g.rows; at = g.at; lost = g.lost; meter = m; lender = g.lender }) (mod-add-mod (g.meter + a) (2 ^ 64) b ∙ ap (λ x. x % 2 ^ 64) (add_assoc g.meter a b))

-- a list with other symbols from a place on: those, and what stands before and behind
module _ {X : Type 0} (none : X) (a k : ℕ) (xs ys : List X) (there : a ≤ length xs) (long : length ys ≡ k) where
  part_below : (x : ℕ) → x < a → get_or (put_mid a k xs ys) x none ≡ get_or xs x none
  part_below x low = get_or_append_left (take a xs) _ none x (omega (arith, length-take-le a xs there)) ∙ get_or-take a xs x none low

  part_here : (x : ℕ) → x < k → get_or (put_mid a k xs ys) (a + x) none ≡ get_or ys x none
  part_here x low = get_or-append_right (take a xs) _ a (a + x) none (length-take-le a xs there) (omega arith) ∙ ap (λ i. get_or (ys ++ post_of a k xs) i none) (omega arith) ∙ get_or_append_left ys _ none x (omega arith)

  part_above : (x : ℕ) → a + k ≤ x → get_or (put_mid a k xs ys) x none ≡ get_or xs x none
  part_above x high =
      get_or-append_right (take a xs) _ a x none (length-take-le a xs there) (omega arith) ∙ get_or-append_right ys _ k (x - a) none long (omega arith)
      ∙ get_or-drop k _ (x - a - k) none ∙ get_or-drop a xs (k + (x - a - k)) none ∙ ap (λ i. get_or xs i none) (omega arith)

pub gathered_more :
    {X : Type 0} (none : X) (rows n k : ℕ) (g h h' : View X) (before work part : List X) → n * rows + rows ≤ length work → k ≡ rows → length part ≡ rows →
    Gathered none rows g n before h work → Loaded none h (n + 1) h' part → Gathered none rows g (n + 1) before h' (put_mid (n * rows) k work part)
gathered_more none rows n k g h h' before work part room size long G L = record {
  meter = L.meter ∙ ap₂ metered long G.meter ∙ metered_more g (n * rows) rows ∙ ap (λ m. metered m g) (omega arith);
  here = λ c row one last low. elim (cases_eq c (n + 1)) [
    | inl same ↦ subst (λ d. symbols_of none rows (put_mid (n * rows) k work part) d row ≡ g.at d row) (sym same) (ap (λ (i : ℕ). get_or (put_mid (n * rows) k work part) (i * rows + row) none) (omega arith) ∙ part_here none (n * rows) k work part (omega arith) (omega arith) row (omega arith) ∙ L.here row (omega arith) ∙ ap (λ (v : View _). v.at (n + 1) row) G.meter)
    | inr other ↦ part_below none (n * rows) k work part (omega arith) (omega arith) ((c - 1) * rows + row) (place c row one (omega arith) low) ∙ G.here c row one (omega arith) low
  ];
  beyond = λ x past. part_above none (n * rows) k work part (omega arith) (omega arith) x (omega arith) ∙ G.beyond x (omega arith);
}
  where
    place : (c row : ℕ) → 1 ≤ c → c ≤ n → row < rows → (c - 1) * rows + row < n * rows
    place c row one last low = omega (arith, mul-le-mul_right {m = c - 1 + 1} {n = n} rows (omega arith))

pub refilled_more :
    {X : Type 0} (g h h' : View X) (c n : ℕ) (F : ℕ → X) (x : X) → Column g c → n < g.rows →
    Refilled g c n F h → x ≡ F n → Written h c n x h' → Refilled g c (n + 1) F h'
refilled_more g h h' c n F x col low R e W = record {
  columns = W.columns ∙ R.columns;
  rows = W.rows ∙ R.rows;
  lost = λ d inside. W.lost d (still d inside) ∙ R.lost d inside;
  meter = W.meter ∙ R.meter;
  lender = W.lender ∙ R.lender;
  here = λ row k. elim (cases_eq row n) [
    | inl same ↦ ap (h'.at c) same ∙ W.here ∙ e ∙ ap F (sym same)
    | inr other ↦ W.others c row (within c row (col.0, col.1, omega arith)) (λ b. other b.1) ∙ R.here row (omega arith)
  ];
  others = λ d row inside ne. W.others d row (within d row inside) (λ b. ne b.0) ∙ R.others d row inside ne;
}
  where
    still : (d : ℕ) → Column g d → Column h d
    still d inside = (inside.0, subst (λ m. d ≤ m) (sym R.columns) inside.1)

    within : (d row : ℕ) → Inside g d row → Inside h d row
    within d row inside = (inside.0, subst (λ m. d ≤ m) (sym R.columns) inside.1, subst (λ m. row < m) (sym R.rows) inside.2)

pub renewed : {X : Type 0} (g h h' : View X) (c n : ℕ) (F : ℕ → X) → Column g c → n ≤ g.rows → Refilled g c n F h → Admitted h c h' → Renewed g c n F h'
renewed g h h' c n F col fit R A = record {
  columns = A.columns ∙ R.columns;
  rows = A.rows ∙ R.rows;
  meter = A.meter ∙ R.meter;
  lender = A.lender ∙ R.lender;
  present = A.here;
  marks = λ d inside ne. A.marks d (inside.0, subst (λ m. d ≤ m) (sym R.columns) inside.1) ne ∙ R.lost d inside;
  here = λ row low. A.symbols c row (within c row (col.0, col.1, omega arith)) ∙ R.here row low;
  others = λ d row inside ne. A.symbols d row (within d row inside) ∙ R.others d row inside ne;
}
  where
    within : (d row : ℕ) → Inside g d row → Inside h d row
    within d row inside = (inside.0, subst (λ m. d ≤ m) (sym R.columns) inside.1, subst (λ m. row < m) (sym R.rows) inside.2)

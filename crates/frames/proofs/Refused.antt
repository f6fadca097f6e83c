-- What the check of a line, and of the lines one after another, comes to.
use Rattle.std.proofs.Common.{◌≡◌, ℕ, zero, suc, ◌+◌, ◌-◌, ◌*◌, ◌/◌, ◌%◌, ◌<◌, ◌≤◌, Bool, true, false, cond, not, eqb, List, length, get_or, take, drop, is_some, Some, None, Option, Result, sym, refl, ap, ◌∙◌, subst, ap₂, inl, inr, add-one, arith}
use Rattle.std.proofs.lemmas.Bool.{ne_eqb, eq-eqb, cases_eq}
use Rattle.code.specs.declared.refusal.Refusal.{Refusal}
use Rattle.code.specs.declared.refusal.Refusal.TheVariants.{TextLength, BadFrame, MarkDiffers}
use Rattle.code.specs.Refusals.{refuse, or_else}
use Rattle.code.specs.Rules.{outside}
use Rattle.std.proofs.lemmas.Bool.Decides.{nat_tests}
use Rattle.frames.specs.Lines.{stride, line_at, mark_at}
use Rattle.frames.specs.Checks.{is_frame, differs, line_refusal, lines_refusal, text_refusal, Told}

module _ (rows w : ℕ) (text : List ℕ) (i : ℕ) where
  -- what the two tests of line i answer decides it
  pub told : (frame other : Bool) → frame ≡ is_frame w (i / rows + 1) (i % rows) (line_at w text i) → other ≡ differs rows w text i → line_refusal rows w text i ≡ refuse (not frame) (BadFrame (i + 1)) (refuse other (MarkDiffers (i + 1)) None)
  told frame other p q = ap₂ (λ (b d : Bool). refuse (not b) (BadFrame (i + 1)) (refuse d (MarkDiffers (i + 1)) None)) (sym p) (sym q)

  -- the tests as a call makes them, that worked out the bytes of a line
  module _ (s : ℕ) (s-is : s ≡ stride w) (frame : Bool) (framed : frame ≡ is_frame w (i / rows + 1) (i % rows) (take (i * s + s - i * s) (drop (i * s) text))) where
    framed_at : frame ≡ is_frame w (i / rows + 1) (i % rows) (line_at w text i)
    framed_at =
        let n : i * s + s - i * s ≡ s = omega arith in
        framed ∙ ap (λ k. is_frame w (i / rows + 1) (i % rows) (take k (drop (i * s) text))) n ∙ ap (λ k. is_frame w (i / rows + 1) (i % rows) (take k (drop (i * k) text))) s-is

    pub no_frame : frame ≡ false → line_refusal rows w text i ≡ Some (BadFrame (i + 1))
    no_frame h = told false _ (sym h ∙ framed_at) refl

    marks : eqb (get_or text (i * s) 0) (get_or text (i / rows * rows * s) 0) ≡ eqb (mark_at w text i) (mark_at w text (i / rows * rows))
    marks = ap (λ k. eqb (get_or text (i * k) 0) (get_or text (i / rows * rows * k) 0)) s-is

    pub other_mark : frame ≡ true → (get_or text (i * s) 0 ≡ get_or text (i / rows * rows * s) 0 → ⊥) → line_refusal rows w text i ≡ Some (MarkDiffers (i + 1))
    other_mark h ne = told true true (sym h ∙ framed_at) (ap not (sym (ne_eqb _ _ ne) ∙ marks))

    pub passed : frame ≡ true → get_or text (i * s) 0 ≡ get_or text (i / rows * rows * s) 0 → line_refusal rows w text i ≡ None
    passed h same = told true false (sym h ∙ framed_at) (ap not (sym (eq-eqb _ _ same) ∙ marks))

module _ (rows w : ℕ) (text : List ℕ) where
  -- a line passes
  pub lines_more : (i : ℕ) → lines_refusal rows w text i ≡ None → line_refusal rows w text i ≡ None → lines_refusal rows w text (i + 1) ≡ None
  lines_more i p q = rw (add-one i) (ap₂ or_else p q)

  -- a line is refused, and whatever comes after it the refusal stays
  pub lines_stop : (i n : ℕ) (e : Refusal) → i < n → lines_refusal rows w text i ≡ None → line_refusal rows w text i ≡ Some e → lines_refusal rows w text n ≡ Some e
  lines_stop i zero e h p q = absurd (omega arith)
  lines_stop i (suc n) e h p q = elim (cases_eq i n) [
    | inl same ↦ let r : or_else (lines_refusal rows w text i) (line_refusal rows w text i) ≡ Some e = ap₂ or_else p q in subst (λ (k : ℕ). or_else (lines_refusal rows w text k) (line_refusal rows w text k) ≡ Some e) same r
    | inr other ↦ ap (λ (o : Option Refusal). or_else o (line_refusal rows w text n)) (lines_stop i n e (omega arith) p q)
  ]

-- a text of the right length is refused for a line
pub right_length : (columns rows w : ℕ) (text : List ℕ) → length text ≡ columns * rows * stride w → text_refusal columns rows w text ≡ lines_refusal rows w text (columns * rows)
right_length columns rows w text h = ap (λ (b : Bool). refuse (not b) (TextLength (columns * rows * stride w)) (lines_refusal rows w text (columns * rows))) (eq-eqb _ _ h)

pub wrong_length : (columns rows w : ℕ) (text : List ℕ) → (length text ≡ columns * rows * stride w → ⊥) → text_refusal columns rows w text ≡ Some (TextLength (columns * rows * stride w))
wrong_length columns rows w text h = ap (λ (b : Bool). refuse (not b) (TextLength (columns * rows * stride w)) (lines_refusal rows w text (columns * rows))) (ne_eqb _ _ h)

pub some_if : {A : Type 0} (b : Bool) (x : A) → is_some (cond b (Some x) None) ≡ b
some_if true x = refl
some_if false x = refl

-- the same with the numbers that a call worked out
module _ (columns rows w m n s : ℕ) (text : List ℕ) (m-is : m ≡ columns) (n-is : n ≡ rows) (s-is : s ≡ stride w) where
  size : m * n * s ≡ columns * rows * stride w
  size = ap₂ ◌*◌ (ap₂ ◌*◌ m-is n-is) s-is

  pub wrong_told : (length text ≡ m * n * s → ⊥) → text_refusal columns rows w text ≡ Some (TextLength (m * n * s))
  wrong_told h = wrong_length columns rows w text (λ e. h (e ∙ sym size)) ∙ ap (λ k. Some (TextLength k)) (sym size)

  pub right_told : {U : Type 0} → length text ≡ m * n * s → (r : Result U Refusal) → Told (lines_refusal n w text (m * n)) r → Told (text_refusal columns rows w text) r
  right_told h r t = subst (λ (o : Option Refusal). Told o r) (ap₂ (λ c k. lines_refusal k w text (c * k)) m-is n-is ∙ sym (right_length columns rows w text (h ∙ size))) t

-- a column that is there is not refused
pub column_there : (m c : ℕ) (e : Refusal) → 1 ≤ c → c ≤ m → refuse (outside 1 m c) e None ≡ None
column_there m c e one last = grind (arith, nat_tests)

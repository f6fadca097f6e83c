-- The shape of numbers that no rule refuses.
use Rattle.std.specs.Prelude.{◌≡◌, ℕ, ◌≤◌, Bool, true, false, None, Option, nat_lt, refl}
use Rattle.std.proofs.Common.{arith}
use Rattle.std.proofs.lemmas.Bool.{ltb-false, or_parts, not-false}
use Rattle.code.specs.declared.refusal.Refusal.{Refusal}
use Rattle.code.specs.declared.shape.Shape.{Shape}
use Rattle.code.specs.Refusals.{refuse}
use Rattle.code.specs.Rules.{listed, one_of, outside, rows, shape_refusal}

-- a check that does not refuse
pub passed : (bad : Bool) (e : Refusal) (next : Option Refusal) → refuse bad e next ≡ None → (bad ≡ false) × (next ≡ None)
passed true e next h = absurd (let z : ◌≡◌ {A = ℕ} 0 1 = cc in omega arith)
passed false e next h = (refl, h)

pub within : (low high x : ℕ) → outside low high x ≡ false → (low ≤ x) × (x ≤ high)
within low high x h = let (a, b) = or_parts (nat_lt x low) (nat_lt high x) h in (ltb-false x low a, ltb-false high x b)

-- the shape of k, q and p
abbrev pub shape_of : (k q p : ℕ) → shape_refusal k q p ≡ None → Shape
shape_of k q p fine =
    let (k-bad, more) = passed _ _ _ fine in
    let (q-bad, more) = passed _ _ _ more in
    let (p-bad, more) = passed _ _ _ more in
    let (narrow, more) = passed _ _ _ more in
    let (large, more) = passed _ _ _ more in
    record {
      k = k;
      q = q;
      p = p;
      data_columns = within 4 12 k k-bad;
      helping = within 2 4 q q-bad;
      prime = not-false (one_of listed p) p-bad;
      wide = ltb-false p q narrow;
      small = ltb-false 4096 (rows k q p) large;
    }

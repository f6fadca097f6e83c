-- What passed checks say.
use Rattle.std.proofs.Common.{◌≡◌, ℕ, ◌≤◌, Bool, true, false, not, Some, None, Option, refl, arith}
use Rattle.std.proofs.lemmas.Bool.Decides.{nat_tests}
use Rattle.code.specs.declared.refusal.Refusal.{Refusal}
use Rattle.code.specs.declared.shape.Shape.{Shape}
use Rattle.code.specs.Refusals.{refuse}
use Rattle.code.specs.Shapes.{columns_of, rows_of}
use Rattle.store.specs.View.{View, counts_as_lost}
use Rattle.array.specs.Checks.{fits, work_of, room_refusal}
use Rattle.array.specs.Lost.{lost_refusal}

-- one check
pub passed : (bad : Bool) (e : Refusal) (next : Option Refusal) → refuse bad e next ≡ None → (bad ≡ false) × (next ≡ None)
passed true e next h = absurd (let z : ◌≡◌ {A = ℕ} 0 1 = cc in omega arith)
passed false e next h = (refl, h)

pub is_so : (b : Bool) → not b ≡ false → b ≡ true
is_so true e = refl
is_so false e = absurd (let z : ◌≡◌ {A = ℕ} 0 1 = cc in omega arith)

pub none_told : (o : Option ℕ) → lost_refusal o ≡ None → o ≡ None
none_told (Some c) h = absurd (let z : ◌≡◌ {A = ℕ} 0 1 = cc in omega arith)
none_told None h = refl

-- a call is not both accepted and refused
pub not_both : (o : Option Refusal) (e : Refusal) → o ≡ None → o ≡ Some e → ⊥
not_both o e none some = let z : ◌≡◌ {A = ℕ} 0 1 = cc in omega arith

pub wide : {X : Type 0} (s : Shape) (g : View X) → fits s g ≡ true → g.columns ≡ columns_of s
wide s g h = grind (arith, nat_tests)

pub long : {X : Type 0} (s : Shape) (g : View X) → fits s g ≡ true → g.rows ≡ rows_of s
long s g h = grind (arith, nat_tests)

pub roomy : (s : Shape) (room : ℕ) → room_refusal s room ≡ None → work_of s ≤ room
roomy s room h = grind (arith, nat_tests)

pub is_present : {X : Type 0} (g : View X) (c : ℕ) → counts_as_lost g c ≡ false → g.lost c ≡ false
is_present g c h = grind (arith, nat_tests)

pub counts_present : {X : Type 0} (g : View X) (c : ℕ) → 1 ≤ c → c ≤ g.columns → g.lost c ≡ false → counts_as_lost g c ≡ false
counts_present g c one last h = grind (arith, nat_tests)

pub still_fits : {X : Type 0} (s : Shape) (g h : View X) → fits s g ≡ true → h.columns ≡ g.columns → h.rows ≡ g.rows → fits s h ≡ true
still_fits s g h fit columns rows = rw (columns, rows) fit

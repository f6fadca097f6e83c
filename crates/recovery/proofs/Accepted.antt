-- What the checks of an accepted rebuild say.
use Rattle.std.proofs.Common.{◌≡◌, ℕ, ◌≤◌, Bool, true, false, not, ◌&&◌, ◌||◌, ltb, None, Ok, Err, Result, ◌∙◌, arith}
use Rattle.std.proofs.lemmas.Bool.{eq-eqb, le-ltb}
use Rattle.std.proofs.lemmas.Bool.Decides.{nat_tests}
use Rattle.code.specs.declared.refusal.Refusal.{Refusal}
use Rattle.code.specs.declared.shape.Shape.{Shape}
use Rattle.code.specs.Shapes.{columns_of}
use Rattle.store.specs.View.{View, counts_as_lost}
use Rattle.repair.specs.Lists.{helper}
use Rattle.array.specs.Checks.{fits, work_of, room_refusal, Roomy}
use Rattle.array.proofs.Checked.{roomy, is_present, passed, is_so, none_told}
use Rattle.array.proofs.Lowest.{both_none, none_lost}
use Rattle.columns.specs.Columns.{found_refusal}
use Rattle.recovery.specs.Rebuild.{is_data, count_of, lost_helper, lose_refusal, quote_refusal, rebuild_refusal, Allowed}

pub record Accepted {X : Type 0} (s : Shape) (g : View X) (f room : ℕ) : Type 0 where
  pub fit : fits s g ≡ true
  pub one : 1 ≤ f
  pub last : f ≤ columns_of s
  pub helpers : lost_helper s f g ≡ None
  pub room_is : work_of s ≤ room

pub accepted : {X : Type 0} (s : Shape) (g : View X) (f count room : ℕ) → rebuild_refusal s g f count room ≡ None → Accepted s g f room
accepted s g f count room h =
    let (quoted, later) = both_none (quote_refusal s g f) _ h in
    let (losable, rest) = both_none (lose_refusal s g f) _ quoted in
    let (fit, inside) = passed (not (fits s g)) _ _ losable in
    let (within, end) = passed _ _ _ inside in
    let (lost, told) = passed _ _ _ rest in
    let (same, roomy-is) = passed _ _ _ later in
    record { fit = is_so (fits s g) fit; one = low within; last = high within; helpers = none_told (lost_helper s f g) told; room_is = roomy s room roomy-is }
  where
    low : (ltb f 1 || ltb (columns_of s) f) ≡ false → 1 ≤ f
    low e = grind (arith, nat_tests)

    high : (ltb f 1 || ltb (columns_of s) f) ≡ false → f ≤ columns_of s
    high e = grind (arith, nat_tests)

module _ {X : Type 0} (s : Shape) (g : View X) (f : ℕ) where
  pub data_helpers : is_data s f ≡ true → lost_helper s f g ≡ None → (c : ℕ) → 1 ≤ c → c ≤ columns_of s → helper s f c ≡ true → g.lost c ≡ false
  data_helpers d h c one last helps = is_present g c (second (helper s f c) (counts_as_lost g c) helps (none_lost (λ e. helper s f e && counts_as_lost g e) (columns_of s) (rw d at h) c one last))
    where
      second : (a b : Bool) → a ≡ true → (a && b) ≡ false → b ≡ false
      second true b e h = h
      second false b e h = absurd (let z : ◌≡◌ {A = ℕ} 0 1 = cc in omega arith)

  pub parity_helpers : is_data s f ≡ false → lost_helper s f g ≡ None → (c : ℕ) → 1 ≤ c → c ≤ s.k → g.lost c ≡ false
  parity_helpers d h c one last = is_present g c (none_lost (counts_as_lost g) s.k (rw d at h) c one last)

  -- a lost parity column is rebuilt from all data columns
  pub can_load : (room : ℕ) → is_data s f ≡ false → Accepted s g f room → found_refusal s g room ≡ None
  can_load room d a = rw (a.fit, rw d at a.helpers, le-ltb room (work_of s) a.room_is)

-- what is left of the checks once the count is right
pub to_room : {X : Type 0} (s : Shape) (g : View X) (f count room : ℕ) → quote_refusal s g f ≡ None → count ≡ count_of s f → rebuild_refusal s g f count room ≡ room_refusal s room
to_room s g f count room quoted same = rw (quoted, eq-eqb count (count_of s f) same)

pub allowed : {X U : Type 0} (s : Shape) (g : View X) (f count room : ℕ) (r : Result U Refusal) → rebuild_refusal s g f count room ≡ room_refusal s room → Roomy s room r → Allowed s g f count room r
allowed s g f count room (Ok u) e h = e ∙ h
allowed s g f count room (Err x) e h = e ∙ h

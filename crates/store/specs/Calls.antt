-- What each call of a column store answers and leaves: s is the store before the call, s' after it. A refusal leaves the
-- store itself as it was. A place outside is refused before a lost column.
use Rattle.std.specs.Prelude.{◌≡◌, ℕ, true, false, ◌⊎◌, Ok, Err, Result}
use Rattle.code.specs.declared.refusal.Refusal.{Refusal}
use Rattle.code.specs.declared.refusal.Refusal.TheVariants.{NoSuchPlace, ColumnLost}
use Rattle.store.specs.View.{View, Column, Inside, metered, Written, Dropped, Admitted}

-- why a read is refused
abbrev pub Unread : {X : Type 0} → View X → ℕ → ℕ → Refusal → Type 0
Unread g c r e = ((Inside g c r → ⊥) × (e ≡ NoSuchPlace c r)) ⊎ (Inside g c r × (g.lost c ≡ true) × (e ≡ ColumnLost c))

abbrev pub Reads : {S X : Type 0} → (S → View X) → S → ℕ → ℕ → Result X Refusal → S → Type 0
Reads view s c r (Ok x) s' = Inside (view s) c r × ((view s).lost c ≡ false) × (x ≡ (view s).at c r) × (view s' ≡ metered 1 (view s))
Reads view s c r (Err e) s' = Unread (view s) c r e × (s' ≡ s)

abbrev pub Writes : {S X U : Type 0} → (S → View X) → S → ℕ → ℕ → X → Result U Refusal → S → Type 0
Writes view s c r x (Ok _) s' = Inside (view s) c r × Written (view s) c r x (view s')
Writes view s c r x (Err e) s' = (Inside (view s) c r → ⊥) × (e ≡ NoSuchPlace c r) × (s' ≡ s)

abbrev pub Drops : {S X U : Type 0} → (S → View X) → S → ℕ → Result U Refusal → S → Type 0
Drops view s c (Ok _) s' = Column (view s) c × Dropped (view s) c (view s')
Drops view s c (Err e) s' = (Column (view s) c → ⊥) × (e ≡ NoSuchPlace c 0) × (s' ≡ s)

abbrev pub Admits : {S X U : Type 0} → (S → View X) → S → ℕ → Result U Refusal → S → Type 0
Admits view s c (Ok _) s' = Column (view s) c × Admitted (view s) c (view s')
Admits view s c (Err e) s' = (Column (view s) c → ⊥) × (e ≡ NoSuchPlace c 0) × (s' ≡ s)

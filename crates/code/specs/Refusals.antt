-- What a refusal tells: its number, and the values returned with it.
use Rattle.std.specs.Prelude.{ℕ, Bool, cond, List, [], ◌∷◌, Some, None, Option}
use Rattle.code.specs.declared.refusal.Refusal.{Refusal}
use Rattle.code.specs.declared.refusal.Refusal.TheVariants.{DataColumns, HelpingParities, NotListed, BelowParities, TooManyRows, TableTooSmall, TextLength, BadFrame, MarkDiffers, NoSuchPlace, ColumnLost, ColumnPresent, CountDiffers, WorkTooSmall, StoreDiffers, StoreRefused}

abbrev pub number_of : Refusal → ℕ
number_of (DataColumns k) = 1
number_of (HelpingParities q) = 2
number_of (NotListed p) = 3
number_of (BelowParities p) = 4
number_of (TooManyRows rows) = 5
number_of (TableTooSmall needed) = 6
number_of (TextLength needed) = 7
number_of (BadFrame line) = 8
number_of (MarkDiffers line) = 9
number_of (NoSuchPlace column row) = 10
number_of (ColumnLost column) = 11
number_of (ColumnPresent column) = 12
number_of (CountDiffers count) = 13
number_of (WorkTooSmall needed) = 14
number_of (StoreDiffers columns rows) = 15
number_of (StoreRefused number) = 16

-- two values, of which the second is 0 where a refusal has one only
abbrev pub values_of : Refusal → List ℕ
values_of (DataColumns k) = k ∷ 0 ∷ []
values_of (HelpingParities q) = q ∷ 0 ∷ []
values_of (NotListed p) = p ∷ 0 ∷ []
values_of (BelowParities p) = p ∷ 0 ∷ []
values_of (TooManyRows rows) = rows ∷ 0 ∷ []
values_of (TableTooSmall needed) = needed ∷ 0 ∷ []
values_of (TextLength needed) = needed ∷ 0 ∷ []
values_of (BadFrame line) = line ∷ 0 ∷ []
values_of (MarkDiffers line) = line ∷ 0 ∷ []
values_of (NoSuchPlace column row) = column ∷ row ∷ []
values_of (ColumnLost column) = column ∷ 0 ∷ []
values_of (ColumnPresent column) = column ∷ 0 ∷ []
values_of (CountDiffers count) = count ∷ 0 ∷ []
values_of (WorkTooSmall needed) = needed ∷ 0 ∷ []
values_of (StoreDiffers columns rows) = columns ∷ rows ∷ []
values_of (StoreRefused number) = number ∷ 0 ∷ []

-- one check: refused where it is bad, else whatever the checks after it say
abbrev pub refuse : Bool → Refusal → Option Refusal → Option Refusal
refuse bad e next = cond bad (Some e) next

-- the first, if there is one, else the second
abbrev pub or_else : {A : Type 0} → Option A → Option A → Option A
or_else (Some a) next = Some a
or_else None next = next

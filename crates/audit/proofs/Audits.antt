-- The steps of an audit together.
use Rattle.std.proofs.Common.{◌≡◌, ℕ, ◌+◌, ◌-◌, ◌*◌, ◌<◌, Bool, true, List, None, sym, ap, ◌∙◌, arith}
use Rattle.ring.specs.Sums.{BooleanGroup}
use Rattle.ring.proofs.Classes.{at_row}
use Rattle.code.specs.declared.shape.Shape.{Shape}
use Rattle.code.specs.Shapes.{parities_of, columns_of, classes_of, rows_of}
use Rattle.code.specs.Parities.{parity_of, Encoded}
use Rattle.code.specs.Places.{symbols_of}
use Rattle.code.proofs.Bounds.{positions_are}
use Rattle.code.proofs.Encodes.{encoded, parity_same}
use Rattle.store.specs.View.{View, metered, counts_as_lost}
use Rattle.array.specs.Checks.{Cleared}
use Rattle.array.specs.Lost.{lowest_lost}
use Rattle.array.proofs.Lowest.{none_lost, all_present}
use Rattle.columns.specs.Columns.{found_refusal}
use Rattle.columns.specs.Progress.{Gathered}
use Rattle.columns.proofs.Turns.{metered_more}
use Rattle.audit.specs.Progress.{Matched}
use Rattle.audit.specs.Audit.{audit_refusal, SumsHold, Audited}

-- no column is lost; their number is told by an equation
pub whole : (lost : ℕ → Bool) (n m : ℕ) → None ≡ lowest_lost lost n → n ≡ m → lowest_lost lost m ≡ None
whole lost n m h e = sym (h ∙ ap (lowest_lost lost) e)

-- with every column present, the loading of the data columns is refused as the audit is
pub same_refusal : {X : Type 0} (s : Shape) (g : View X) (room : ℕ) → lowest_lost (counts_as_lost g) (columns_of s) ≡ None → found_refusal s g room ≡ audit_refusal s g room
same_refusal s g room h = rw (h, all_present (counts_as_lost g) s.k (λ c one last. none_lost (counts_as_lost g) (columns_of s) h c one (omega arith)))

module _ {X : Type 0} (none : X) (plus : X → X → X) (s : Shape) where
  -- the construction is that the rows are their sums
  rows_of_encoded : (at : ℕ → ℕ → X) → Encoded none plus s at → SumsHold none plus s at
  rows_of_encoded at enc j row one last low = sym (at_row none plus (s.p - 1) (classes_of s) (at (s.k + j)) row low) ∙ enc j row one last (omega (arith, positions_are s))

  pub audited :
      BooleanGroup none plus → (g h h' : View X) (before work after : List X) (answer : Bool) →
      Gathered none (rows_of s) g s.k before h work →
      Matched h s.k (rows_of s) (parities_of s) (parity_of none plus s (symbols_of none (rows_of s) work)) answer h' →
      Cleared none after → Audited none plus s g answer h' after
  audited L g h h' before work after answer G M clean = record {
    rows_hold = (there, back);
    is_encoded = (λ so. encoded none plus s g.at L (there so), λ enc. back (rows_of_encoded g.at enc));
    meter = M.meter ∙ ap (metered (parities_of s * rows_of s)) G.meter ∙ metered_more g (s.k * rows_of s) (parities_of s * rows_of s) ∙ ap (λ n. metered n g) (omega arith);
    cleared = clean;
  }
    where
      was : (c row : ℕ) → h.at c row ≡ g.at c row
      was c row = ap (λ (v : View X). v.at c row) G.meter

      sums : (j row : ℕ) → row < rows_of s → parity_of none plus s (symbols_of none (rows_of s) work) j row ≡ parity_of none plus s g.at j row
      sums j row low = parity_same none plus s (symbols_of none (rows_of s) work) g.at G.here j row low

      there : answer ≡ true → SumsHold none plus s g.at
      there so j row one last low = sym (was (s.k + j) row) ∙ M.so so j row one last low ∙ sums j row low

      back : SumsHold none plus s g.at → answer ≡ true
      back hold = M.if_so (λ j row one last low. was (s.k + j) row ∙ hold j row one last low ∙ sym (sums j row low))

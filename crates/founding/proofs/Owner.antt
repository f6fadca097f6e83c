-- What the owner of the memory learns of a founding in it.
use Rattle.std.proofs.Common.{◌≡◌, ℕ, ◌+◌, ◌-◌, ◌<◌, ◌≤◌, false, ltb, List, ◌++◌, length, get_or, take, drop, Ok, Err, Result, sym, ap, ◌∙◌, subst, arith, take-append-drop}
use Rattle.std.proofs.lemmas.Bool.{le-ltb, eq-eqb}
use Rattle.std.proofs.lemmas.List.{get_or_past, get_or-take, get_or_append_left, get_or-append_right, get_or-drop, length-take-le}
use Rattle.code.specs.declared.refusal.Refusal.{Refusal}
use Rattle.code.specs.declared.shape.Shape.{Shape}
use Rattle.code.specs.Shapes.{columns_of, rows_of}
use Rattle.code.specs.Places.{place_of, symbols_of}
use Rattle.code.proofs.Encodes.{parity_same}
use Rattle.store.specs.declared.table.Table.{Table}
use Rattle.store.specs.View.{counts_as_lost}
use Rattle.store.specs.Tables.{table_view, needed_of, Over}
use Rattle.store.proofs.Places.{place_lt}
use Rattle.columns.specs.Columns.{found_refusal}
use Rattle.founding.specs.Found.{Founds}
use Rattle.founding.specs.Memory.{memory_refusal, Fills}
use Rattle.array.proofs.Checked.{counts_present}
use Rattle.array.proofs.Lowest.{all_present}

module _ {X : Type 0} (none : X) (plus : X → X → X) (s : Shape) where
  module _ (cells : List X) (exact : length cells ≡ needed_of s) (owner : ℕ) (t : Table X) (new : Over none s cells owner (table_view none t)) where
    enough : ltb (length cells) (needed_of s) ≡ false
    enough = le-ltb (length cells) (needed_of s) (omega arith)

    wide : t.columns ≡ columns_of s
    wide = new.columns ∙ rw enough

    long : t.rows ≡ rows_of s
    long = new.rows ∙ rw enough

    -- over a new table only the memory and the work area can be too small
    same_refusal : (room : ℕ) → found_refusal s (table_view none t) room ≡ memory_refusal s (length cells) room
    same_refusal room = rw (eq-eqb t.columns (columns_of s) wide, eq-eqb t.rows (rows_of s) long, all_present (counts_as_lost (table_view none t)) s.k (λ c one last. counts_present (table_view none t) c one (omega (arith, wide)) (new.lost c (one, omega (arith, wide)))), enough)

    symbol_is : (c row : ℕ) → (table_view none t).at c row ≡ symbols_of none (rows_of s) cells c row
    symbol_is c row = new.at c row ∙ ap (λ r. symbols_of none r cells c row) long

    pub owned :
        (cells' work work' : List X) (r : Result ℕ Refusal) (t' : Table X) → t.cells.now ≡ cells →
        Founds (table_view none) none plus s t work r t' work' → length cells' ≡ length cells → (owner ≡ t'.cells.ghost_name → cells' ≡ t'.cells.now) →
        Fills none plus s cells work r cells' work'
    owned cells' work work' (Ok n) t' memory (none-refused, F) same_length known = (
      sym (same_refusal (length work)) ∙ none-refused,
      F.reads,
      record {
        same_data = λ c row one last low. after c row ∙ F.same_data c row one last low ∙ symbol_is c row;
        parity = λ j row one last low. after (s.k + j) row ∙ F.parity j row one last low ∙ parity_same none plus s (table_view none t).at (symbols_of none (rows_of s) cells) (λ c row one last low. symbol_is c row) j row low;
        beyond = λ i past. get_or_past cells' i none (omega arith) ∙ sym (get_or_past cells i none (omega arith));
      },
      F.cleared,
    )
      where
        back : cells' ≡ t'.cells.now
        back = known (sym (F.lender ∙ new.lender))

        after : (c row : ℕ) → symbols_of none (rows_of s) cells' c row ≡ (table_view none t').at c row
        after c row = ap (λ (l : List X). symbols_of none (rows_of s) l c row) back ∙ ap (λ r. symbols_of none r t'.cells.now c row) (sym (F.rows ∙ long))
    owned cells' work work' (Err e) t' memory (refused, same, kept) same_length known = (
      sym (same_refusal (length work)) ∙ refused,
      known (sym (ap (λ (u : Table X). u.cells.ghost_name) same ∙ new.lender)) ∙ ap (λ (u : Table X). u.cells.now) same ∙ memory,
      kept,
    )

  -- the array's shape is told by an equation
  pub owned_as :
      (cells cells' work work' : List X) (owner : ℕ) (t t' : Table X) (r : Result ℕ Refusal) (a : Shape) → a ≡ s → length cells ≡ needed_of s →
      Over none s cells owner (table_view none t) → t.cells.now ≡ cells → Founds (table_view none) none plus a t work r t' work' →
      length cells' ≡ length cells → (owner ≡ t'.cells.ghost_name → cells' ≡ t'.cells.now) → Fills none plus s cells work r cells' work'
  owned_as cells cells' work work' owner t t' r a same exact new memory F = owned cells exact owner t new cells' work work' r t' memory (subst (λ (b : Shape). Founds (table_view none) none plus b t work r t' work') same F)

  -- the same in a larger memory, of which the first part was lent
  pub widened :
      (cells part part' work work' : List X) (r : Result ℕ Refusal) → needed_of s ≤ length cells → part ≡ take (needed_of s) cells → length part' ≡ length part →
      Fills none plus s part work r part' work' → Fills none plus s cells work r (part' ++ drop (needed_of s) cells) work'
  widened cells part part' work work' r enough is same_length F = go r F
    where
      n : ℕ
      n = needed_of s

      part_long : length part ≡ needed_of s
      part_long = ap length is ∙ length-take-le (needed_of s) cells enough

      room_same : (room : ℕ) → memory_refusal s (length part) room ≡ memory_refusal s (length cells) room
      room_same room = rw (le-ltb (length part) (needed_of s) (omega (arith, part_long)), le-ltb (length cells) (needed_of s) enough)

      front : (c row : ℕ) → 1 ≤ c → c ≤ columns_of s → row < rows_of s → symbols_of none (rows_of s) part c row ≡ symbols_of none (rows_of s) cells c row
      front c row one last low = ap (λ (l : List X). symbols_of none (rows_of s) l c row) is ∙ get_or-take (needed_of s) cells (place_of (rows_of s) c row) none (place_lt c row (columns_of s) (rows_of s) (needed_of s) one last low (omega arith))

      front' : (c row : ℕ) → 1 ≤ c → c ≤ columns_of s → row < rows_of s → symbols_of none (rows_of s) (part' ++ drop (needed_of s) cells) c row ≡ symbols_of none (rows_of s) part' c row
      front' c row one last low = get_or_append_left part' (drop (needed_of s) cells) none (place_of (rows_of s) c row) (place_lt c row (columns_of s) (rows_of s) (length part') one last low (omega (arith, part_long)))

      go : (r : Result ℕ Refusal) → Fills none plus s part work r part' work' → Fills none plus s cells work r (part' ++ drop (needed_of s) cells) work'
      go (Ok m) (fine, reads, E, clean) = (
        sym (room_same (length work)) ∙ fine,
        reads,
        record {
          same_data = λ c row one last low. front' c row one (omega arith) low ∙ E.same_data c row one last low ∙ front c row one (omega arith) low;
          parity = λ j row one last low. front' (s.k + j) row (omega arith) (omega arith) low ∙ E.parity j row one last low ∙ parity_same none plus s (symbols_of none (rows_of s) part) (symbols_of none (rows_of s) cells) (λ c row one last low. front c row one (omega arith) low) j row low;
          beyond = λ i past. get_or-append_right part' (drop (needed_of s) cells) (needed_of s) i none (same_length ∙ part_long) past ∙ get_or-drop (needed_of s) cells (i - needed_of s) none ∙ ap (λ j. get_or cells j none) (omega arith);
        },
        clean,
      )
      go (Err e) (refused, kept, same) = (sym (room_same (length work)) ∙ refused, ap (λ (l : List X). l ++ drop (needed_of s) cells) (kept ∙ is) ∙ take-append-drop (needed_of s) cells, same)

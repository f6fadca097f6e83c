-- What keeps a book: refused calls and reads; and the construction's columns for a data table.
use Rattle.std.proofs.Common.{◌≡◌, ℕ, ◌+◌, ◌-◌, ◌<◌, ◌≤◌, Bool, true, false, sym, ap, ◌∙◌, subst, arith}
use Rattle.std.proofs.lemmas.Bool.{le-leb, lt-leb}
use Rattle.ring.specs.Sums.{BooleanGroup}
use Rattle.code.specs.declared.shape.Shape.{Shape}
use Rattle.code.specs.Parities.{parity_of, Encoded}
use Rattle.code.proofs.Encodes.{encoded, parity_same}
use Rattle.store.specs.View.{View, Column, Inside, metered}
use Rattle.array.specs.Book.{Book, Event, looks, built, Agrees, Keeps}

module _ {X : Type 0} (g h : View X) (columns : h.columns ≡ g.columns) where
  -- a column of a store that kept its columns was one before
  pub column_was : (c : ℕ) → Column h c → Column g c
  column_was c inside = (inside.0, subst (λ n. c ≤ n) columns inside.1)

  pub place_was : h.rows ≡ g.rows → (c row : ℕ) → Inside h c row → Inside g c row
  place_was rows c row inside = (inside.0, subst (λ n. c ≤ n) columns inside.1, subst (λ n. row < n) rows inside.2)

module _ {X : Type 0} (none : X) (plus : X → X → X) (s : Shape) where
  -- a refused call
  pub stays : (event : Event X) (g h : View X) → h ≡ g → Keeps none plus s event false g h
  stays event g h e b A = subst (Agrees none plus s b) (sym e) A

  -- the same marks and symbols agree with the same book
  pub agree_same :
      (g h : View X) → h.columns ≡ g.columns → h.rows ≡ g.rows → ((c : ℕ) → Column g c → h.lost c ≡ g.lost c) →
      ((c row : ℕ) → Inside g c row → h.at c row ≡ g.at c row) → (b : Book X) → Agrees none plus s b g → Agrees none plus s b h
  agree_same g h columns rows marks symbols b A = record {
    marks = λ c inside. let was = column_was g h columns c inside in marks c was ∙ A.marks c was;
    symbols = λ T e c row inside present.
        let was = place_was g h columns rows c row inside in
        symbols c row was ∙ A.symbols T e c row was (sym (marks c (was.0, was.1)) ∙ present);
  }

  pub kept_same :
      (accepted : Bool) (g h : View X) → h.columns ≡ g.columns → h.rows ≡ g.rows → ((c : ℕ) → Column g c → h.lost c ≡ g.lost c) →
      ((c row : ℕ) → Inside g c row → h.at c row ≡ g.at c row) → Keeps none plus s looks accepted g h
  kept_same true g h columns rows marks symbols = agree_same g h columns rows marks symbols
  kept_same false g h columns rows marks symbols = agree_same g h columns rows marks symbols

  -- reads change no mark and no symbol
  pub read_on : (accepted : Bool) (n : ℕ) (g h : View X) → h ≡ metered n g → Keeps none plus s looks accepted g h
  read_on accepted n g h e = kept_same accepted g h (ap (λ (v : View X). v.columns) e) (ap (λ (v : View X). v.rows) e) (λ c inside. ap (λ (v : View X). v.lost c) e) (λ c row inside. ap (λ (v : View X). v.at c row) e)

  module _ (T : ℕ → ℕ → X) where
    pub built_data : (c row : ℕ) → c ≤ s.k → built none plus s T c row ≡ T c row
    built_data c row low = rw (le-leb c s.k low)

    pub built_parity : (c row : ℕ) → s.k < c → built none plus s T c row ≡ parity_of none plus s T (c - s.k) row
    built_parity c row past = rw (lt-leb c s.k past)

    -- the construction's columns are of the construction
    pub built_encoded : BooleanGroup none plus → Encoded none plus s (built none plus s T)
    built_encoded L = encoded none plus s (built none plus s T) L (λ j row one last low.
        built_parity (s.k + j) row (omega arith)
        ∙ ap (λ (i : ℕ). parity_of none plus s T i row) (omega arith)
        ∙ parity_same none plus s T (built none plus s T) (λ c y lo hi k. sym (built_data c y hi)) j row low)

-- A run grows by one call, and what holds of each call holds of the run.
use Rattle.std.proofs.Common.{◌≡◌, ℕ, zero, suc, ◌+◌, ◌<◌, ◌≤◌, cond, leb, List, length, set, Some, None, Ok, Option, sym, refl, subst, inl, inr, arith}
use Rattle.std.proofs.lemmas.Bool.{cases_lt, le-leb, lt-leb}
use Rattle.std.proofs.lemmas.List.{get_or-set_same, get_or-set_other}
use Rattle.code.specs.declared.shape.Shape.{Shape}
use Rattle.store.specs.View.{View}
use Rattle.array.specs.Book.{Book, new_book, Agrees}
use Rattle.runs.specs.declared.calls.Call.{Call}
use Rattle.runs.specs.Steps.{State, OutcomeOf, Stepped}
use Rattle.runs.specs.Law.{call_at, answer_at, book_after, Ran}

module _ {S X : Type 0} (view : S → View X) (none : X) (plus : X → X → X) (s : Shape) (calls : List (Call X)) where
  -- the first n calls, one after another
  pub record Chain (answers : List (OutcomeOf X)) (n : ℕ) (a z : State S X) : Type 0 where
    pub state : ℕ → State S X
    pub begins : state 0 ≡ a
    pub ends : state n ≡ z
    pub steps : (i : ℕ) → i < n → Stepped view none plus s (call_at calls i) (state i) (answer_at answers i) (state (i + 1))

  pub chain_none : (answers : List (OutcomeOf X)) (a : State S X) → Chain answers 0 a a
  chain_none answers a = record { state = λ i. a; begins = refl; ends = refl; steps = λ i h. absurd (omega arith) }

  pub chain_more : (answers : List (OutcomeOf X)) (n : ℕ) (a m z : State S X) (r : OutcomeOf X) → n < length answers → Chain answers n a m → Stepped view none plus s (call_at calls n) m r z → Chain (set answers n r) (n + 1) a z
  chain_more answers n a m z r room C one = record {
    state = λ i. cond (leb i n) (C.state i) z;
    begins = rw (le-leb 0 n (omega arith)) C.begins;
    ends = rw (lt-leb (n + 1) n (omega arith));
    steps = λ i h. elim (cases_lt i n) [
      | inl below ↦
          rw (le-leb i n (omega arith), le-leb (i + 1) n (omega arith), get_or-set_other answers n i r (Ok None) (λ e. omega arith)) (C.steps i below)
      | inr past ↦
          let e : n ≡ i = omega arith in
          subst (λ j. Stepped view none plus s (call_at calls j) (cond (leb j n) (C.state j) z) (answer_at (set answers n r) j) (cond (leb (j + 1) n) (C.state (j + 1)) z)) e
          (rw (le-leb n n (omega arith), lt-leb (n + 1) n (omega arith), get_or-set_same answers n r (Ok None) room)
          (subst (λ t. Stepped view none plus s (call_at calls n) t r z) (sym C.ends) one))
    ];
  }

  module _ (answers : List (OutcomeOf X)) (n : ℕ) (a z : State S X) (C : Chain answers n a z) where
    kept : (i m : ℕ) → i + m ≤ n → (b : Book X) → Agrees none plus s b (view (C.state i).store) → Agrees none plus s (book_after view none plus s calls answers C.state i m b) (view (C.state (i + m)).store)
    kept i zero h b A = subst (λ (j : ℕ). Agrees none plus s b (view (C.state j).store)) (omega arith) A
    kept i (suc m) h b A =
        let e : i + m + 1 ≡ i + suc m = omega arith in
        subst (λ (j : ℕ). Agrees none plus s (book_after view none plus s calls answers C.state i (suc m) b) (view (C.state j).store)) e
        ((C.steps (i + m) (omega arith)).keeps (book_after view none plus s calls answers C.state i m b) (kept i m (omega arith) b A))

    -- what a run of them owes
    pub ran : Ran view none plus s calls answers n a z
    ran = record {
      state = C.state;
      begins = C.begins;
      ends = C.ends;
      made = λ i h. (C.steps i h).made;
      from_new = λ i m h. kept i m h (new_book (view (C.state i).store)) (record { marks = λ c inside. refl; symbols = λ table e. absurd (none_is e) });
      from_any = kept;
      gets = λ i m h b A c row x is said table e. (C.steps (i + m) h).tells c row x is said (book_after view none plus s calls answers C.state i m b) (kept i m (omega arith) b A) table e;
    }
      where
        none_is : {T : Type 0} {t : T} → ◌≡◌ {A = Option T} None (Some t) → ⊥
        none_is e = let y : ◌≡◌ {A = ℕ} 0 1 = cc in omega arith

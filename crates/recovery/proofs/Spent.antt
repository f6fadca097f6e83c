-- From a rebuild with the quotes lent to one that takes them, and hands them back if it is refused.
use Rattle.std.proofs.Common.{◌≡◌, ℕ, List, length, Ok, Err, Result, is_ok, sym, refl, ap, subst}
use Rattle.std.specs.Result.{MatchResult}
use Rattle.ring.specs.Sums.{BooleanGroup}
use Rattle.code.specs.declared.refusal.Refusal.{Refusal}
use Rattle.code.specs.declared.shape.Shape.{Shape}
use Rattle.store.specs.View.{View}
use Rattle.array.specs.Book.{rebuilds, Keeps}
use Rattle.array.proofs.Books.{stays}
use Rattle.recovery.specs.declared.quotes.Quote.{Quote}
use Rattle.recovery.specs.declared.quotes.Rejected.{Rejected}
use Rattle.recovery.specs.declared.quotes.BothRejected.{BothRejected}
use Rattle.recovery.specs.Progress.{Spends, SpendsBoth}
use Rattle.recovery.specs.Rebuild.{Rebuilds, RebuildsBoth}
use Rattle.recovery.proofs.Accepted.{accepted}
use Rattle.recovery.proofs.Apart.{told_apart, neither}
use Rattle.recovery.proofs.Books.{rebuilt_keeps}
use Rattle.recovery.proofs.Recovered.{restores}

module _ {S X : Type 0} (view : S → View X) (none : X) (plus : X → X → X) (L : BooleanGroup none plus) (shape : Shape) where
  -- what is kept by a call that is accepted, or changes nothing
  pub spent :
      (s s' : S) (q : Quote) (work work' : List X) (r : Result ℕ Refusal) → Spends view none plus shape s q work r s' work' →
      (answer : Result ℕ Rejected) → MatchResult r (λ n. answer ≡ Ok n) (λ e. answer ≡ Err (record { refusal = e; quote = q })) →
      Rebuilds view none plus shape s q work answer s' work' × Keeps none plus shape (rebuilds q.column) (is_ok answer) (view s) (view s')
  spent s s' q work work' (Ok n) (allowed, R) answer same =
      let a = accepted shape (view s) q.column q.count (length work) allowed in
      subst (λ x. Rebuilds view none plus shape s q work x s' work' × Keeps none plus shape (rebuilds q.column) (is_ok x) (view s) (view s')) (sym same)
      ((allowed, R, restores none plus shape L q.column a.one a.last (view s) (view s') _ _ R), rebuilt_keeps none plus shape L q.column (view s) (view s') _ _ _ a R)
  spent s s' q work work' (Err e) (told, store, area) answer same =
      subst (λ x. Rebuilds view none plus shape s q work x s' work' × Keeps none plus shape (rebuilds q.column) (is_ok x) (view s) (view s')) (sym same)
      ((told, refl, store, area), stays none plus shape (rebuilds q.column) (view s) (view s') (ap view store))

  pub spent_both :
      {T : Type 0} (other : T → View X) (s s' : S) (t t' : T) (p q : Quote) (work work' : List X) (r : Result (ℕ × ℕ) Refusal) → SpendsBoth view other none plus shape s t p q work r s' t' work' →
      (answer : Result (ℕ × ℕ) BothRejected) → MatchResult r (λ n. answer ≡ Ok n) (λ e. answer ≡ Err (record { refusal = e; first = p; second = q })) →
      RebuildsBoth view other none plus shape s t p q work answer s' t' work' ×
      Keeps none plus shape (rebuilds p.column) (is_ok answer) (view s) (view s') ×
      Keeps none plus shape (rebuilds q.column) (is_ok answer) (other t) (other t')
  spent_both other s s' t t' p q work work' (Ok n) (one, two, R, Q) answer same =
      let a = accepted shape (view s) p.column p.count (length work) one in
      let b = accepted shape (other t) q.column q.count (length work) two in
      subst (λ x. RebuildsBoth view other none plus shape s t p q work x s' t' work' × Keeps none plus shape (rebuilds p.column) (is_ok x) (view s) (view s') × Keeps none plus shape (rebuilds q.column) (is_ok x) (other t) (other t')) (sym same)
      ((neither _ _ one two, R, Q, told_apart none plus shape p.column L _ _ _ _ _ _ _ _ _ a R Q), rebuilt_keeps none plus shape L p.column (view s) (view s') _ _ _ a R, rebuilt_keeps none plus shape L q.column (other t) (other t') _ _ _ b Q)
  spent_both other s s' t t' p q work work' (Err e) (told, store, second, area) answer same =
      subst (λ x. RebuildsBoth view other none plus shape s t p q work x s' t' work' × Keeps none plus shape (rebuilds p.column) (is_ok x) (view s) (view s') × Keeps none plus shape (rebuilds q.column) (is_ok x) (other t) (other t')) (sym same)
      ((told, refl, refl, store, second, area), stays none plus shape (rebuilds p.column) (view s) (view s') (ap view store), stays none plus shape (rebuilds q.column) (other t) (other t') (ap other second))

-- What a rebuild from a slot says, as one step of a run.
use Rattle.std.proofs.Common.{◌≡◌, ℕ, Bool, List, is_ok, Some, None, Ok, Err, Result, sym, refl, ap, subst}
use Rattle.code.specs.declared.shape.Shape.{Shape}
use Rattle.store.specs.View.{View}
use Rattle.array.specs.Book.{rebuilds, Keeps}
use Rattle.recovery.specs.Rebuild.{Rebuilds}
use Rattle.recovery.specs.declared.quotes.Quote.{Quote}
use Rattle.recovery.specs.declared.quotes.Rejected.{Rejected}
use Rattle.runs.specs.Hands.{Hand, quote_at, spent}
use Rattle.runs.specs.Steps.{state_of, told_rebuild, accepted, rebuild_event, RebuildsFrom}

module _ {S X : Type 0} (view : S → View X) (none : X) (plus : X → X → X) (s : Shape) where
  -- with no quote in the slot
  pub unspent : (slot : ℕ) (store : S) (hand hand' : Hand) (work : List X) → quote_at hand slot ≡ None → hand' ≡ hand → RebuildsFrom view none plus s (quote_at hand slot) slot (state_of store hand work) (Ok None) (state_of store hand' work)
  unspent slot store hand hand' work e same = subst (λ q. RebuildsFrom view none plus s q slot (state_of store hand work) (Ok None) (state_of store hand' work)) (sym e) (refl, ap (λ h. state_of store h work) same)

  -- with a quote
  pub spent_as :
      (slot : ℕ) (store store' : S) (hand hand' : Hand) (work work' : List X) (quote : Quote) (given : Result ℕ Rejected) → quote_at hand slot ≡ Some quote → hand' ≡ spent hand slot given →
      Rebuilds view none plus s store quote work given store' work' → Keeps none plus s (rebuilds quote.column) (is_ok given) (view store) (view store') →
      RebuildsFrom view none plus s (quote_at hand slot) slot (state_of store hand work) (told_rebuild given) (state_of store' hand' work') × Keeps none plus s (rebuild_event (quote_at hand slot)) (accepted {X = X} (told_rebuild given)) (view store) (view store')
  spent_as slot store store' hand hand' work work' quote given e kept R K = (
    subst (λ q. RebuildsFrom view none plus s q slot (state_of store hand work) (told_rebuild given) (state_of store' hand' work')) (sym e) (given, refl, R, kept),
    subst (λ q. Keeps none plus s (rebuild_event q) (accepted {X = X} (told_rebuild given)) (view store) (view store')) (sym e) (subst (λ (b : Bool). Keeps none plus s (rebuilds quote.column) b (view store) (view store')) (sym (as_told given)) K),
  )
    where
      as_told : (given : Result ℕ Rejected) → accepted (told_rebuild {X = X} given) ≡ is_ok given
      as_told (Ok n) = refl
      as_told (Err f) = refl

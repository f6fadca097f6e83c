-- Slots of the hand.
use Rattle.std.proofs.Common.{◌≡◌, ℕ, set, Some, None, sym, ap, ◌∙◌}
use Rattle.std.proofs.lemmas.List.{set-set, set-get_or}
use Rattle.recovery.specs.declared.quotes.Quote.{Quote}
use Rattle.runs.specs.Hands.{Hand, quote_at, without, holding}

-- an empty slot is as empty once more
pub untouched : (hand : Hand) (slot : ℕ) → quote_at hand slot ≡ None → without hand slot ≡ hand
untouched hand slot e = ap (set hand slot) (sym e) ∙ set-get_or hand slot None

-- what was taken out and put back
pub put_back : (hand : Hand) (slot : ℕ) (quote : Quote) → quote_at hand slot ≡ Some quote → holding (without hand slot) slot quote ≡ hand
put_back hand slot quote e = set-set hand slot None (Some quote) ∙ ap (set hand slot) (sym e) ∙ set-get_or hand slot None

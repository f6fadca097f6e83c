-- The quotes in hand: a list of slots, each with a quote or none.
use Rattle.std.specs.Prelude.{ℕ, List, Some, None, Ok, Err, Option, Result, slice_index_or, slice_set}
use Rattle.recovery.specs.declared.quotes.Quote.{Quote}

abbrev pub Hand : Type 0
Hand = List (Option Quote)

-- the quote in a slot; none past the last slot
abbrev pub quote_at : Hand → ℕ → Option Quote
quote_at hand slot = slice_index_or hand slot None

-- the hand with an empty slot
abbrev pub without : Hand → ℕ → Hand
without hand slot = slice_set hand slot None

-- the hand with a quote in a slot; the same past the last slot
abbrev pub holding : Hand → ℕ → Quote → Hand
holding hand slot quote = slice_set hand slot (Some quote)

-- the hand after a quote for a slot was asked for: one that was given lies there
abbrev pub with_quote : {E : Type 0} → Hand → ℕ → Result Quote E → Hand
with_quote hand slot (Ok quote) = holding hand slot quote
with_quote hand slot (Err e) = hand

-- the hand after a rebuild from a slot's quote: an accepted one spends it
abbrev pub spent : {A E : Type 0} → Hand → ℕ → Result A E → Hand
spent hand slot (Ok a) = without hand slot
spent hand slot (Err e) = hand

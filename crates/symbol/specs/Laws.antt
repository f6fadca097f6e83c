-- Lemmas that the proofs of the laws of bytes and of stands cite.
use Rattle.std.specs.Prelude.{◌≡◌, ℕ, List, map, length, slice_index, refl}
use Rattle.std.specs.List.{range_with_len}
use Rattle.std.proofs.lemmas.List.FromFn.{fill_by_all}
use Rattle.symbol.specs.Stands.{stand}

-- a list of a known length, element by element
pub elements : (b : List ℕ) (n : ℕ) → length b ≡ n → b ≡ map (λ k. slice_index b k) (range_with_len 0 n)
elements b n h = fill_by_all (λ k. slice_index b k) b n 0 h (λ k l. refl)

-- stands of the same numbers
pub both : {s t c d : ℕ} → s ≡ t → c ≡ d → stand s c ≡ stand t d
both p q = cc

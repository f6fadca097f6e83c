-- Readings one after another, filled up with zeros.
use Rattle.std.proofs.Common.{◌≡◌, ℕ, ◌+◌, ◌-◌, ◌*◌, ◌/◌, ◌%◌, ◌<◌, List, [], ◌∷◌, ◌++◌, length, take, replicate, sym, refl, ap₂, ◌∙◌, add-one, arith}
use Rattle.std.proofs.lemmas.List.{take_all}
use Rattle.std.proofs.lemmas.Nat.{div-mul-add, mod-mul-add}
use Rattle.symbol.specs.declared.stand.Stand.{Stand}
use Rattle.route.specs.Readings.{reading_of, readings_of}

pub readings_none : (rows : ℕ) → readings_of rows 0 ≡ []
unfolding readings_of
readings_none rows = refl

-- one more
pub readings_more : (rows n : ℕ) (past now : List Stand) (x : Stand) → past ≡ readings_of rows n → x ≡ reading_of (n / rows + 1) (n % rows) → now ≡ past ++ (x ∷ []) → now ≡ readings_of rows (n + 1)
unfolding readings_of
readings_more rows n past now x p h e = rw add-one (e ∙ ap₂ (λ xs y. xs ++ (y ∷ [])) p h)

pub mul-add-r : (a b n : ℕ) → (a + b) * n ≡ a * n + b * n
mul-add-r a b n = omega arith

-- filled up to n
pub filled : {X : Type 0} (xs : List X) (len m k n : ℕ) (x : X) → len ≡ length xs → len ≡ m → n ≡ m + k → take n xs ++ replicate (n - len) x ≡ xs ++ replicate k x
filled xs len m k n x ok long e = ap₂ (λ ys j. ys ++ replicate j x) (take_all n xs (omega arith)) (omega arith)

-- places, column after column
pub first : (rows : ℕ) → 0 ≡ 0 * rows
first rows = omega arith

pub start : (n : ℕ) → n ≡ n + 0
start n = omega arith

pub further : (n row : ℕ) → n + row + 1 ≡ n + (row + 1)
further n row = omega arith

pub finish : (column rows : ℕ) → column * rows + rows ≡ (column + 1) * rows
finish column rows = omega arith

-- what the place of a column and a row holds
pub place : (column rows row : ℕ) → row < rows → reading_of (column + 1) row ≡ reading_of ((column * rows + row) / rows + 1) ((column * rows + row) % rows)
place column rows row h = ap₂ (λ i j. reading_of (i + 1) j) (sym (div-mul-add column rows row h)) (sym (mod-mul-add column rows row h))

-- Bytes after bytes, symbols filled up with others, the lines of columns, and a part that is long enough.
use Rattle.std.proofs.Common.{◌≡◌, ℕ, zero, suc, ◌+◌, ◌-◌, ◌*◌, ◌/◌, ◌%◌, ◌<◌, ◌≤◌, List, [], ◌∷◌, ◌++◌, length, get_or, take, replicate, Ok, Err, Result, sym, refl, ap, ap₂, ◌∙◌, false, arith}
use Rattle.std.proofs.Math.Nat.{add-zero, add-suc}
use Rattle.std.proofs.Math.Numerals.{add-one}
use Rattle.std.proofs.lemmas.List.{length-take-le}
use Rattle.std.proofs.lemmas.List.FromFn.{fill_by_all, length-map-range_with_len}
use Rattle.std.proofs.lemmas.List.{take_all}
use Rattle.std.specs.Result.{IsOk}
use Rattle.std.proofs.lemmas.Nat.{div-mul-add, mod-mul-add}
use Rattle.symbol.specs.Hex.{hex}
use Rattle.symbol.specs.Kinds.{Wrote}
use Rattle.code.specs.Places.{symbols_of}
use Rattle.frames.specs.Format.{lines, frame, frame_of}
use Rattle.drawn.specs.Drawn.{next, after, drawn_byte, drawn_bytes, drawn_symbol, drawn_symbols}

pub after_none : (state : ℕ) → after 0 state ≡ state
unfolding after
after_none state = refl

pub after_more : (n state : ℕ) → after (n + 1) state ≡ next (after n state)
unfolding after
after_more n state = rw add-one refl

pub after_after : (m n state : ℕ) → after n (after m state) ≡ after (m + n) state
unfolding after
after_after m zero state = rw add-zero refl
after_after m (suc n) state = ap next (after_after m n state) ∙ ap (λ k. after k state) (sym (add-suc m n))

pub bytes_all : (n state : ℕ) (bytes : List ℕ) → length bytes ≡ n → ((k : ℕ) → k < n → get_or bytes k 0 ≡ drawn_byte state k) → bytes ≡ drawn_bytes n state
unfolding drawn_bytes
bytes_all n state bytes long each = fill_by_all (drawn_byte state) bytes n 0 long each

pub part_long : (w state : ℕ) (bytes : List ℕ) → bytes ≡ drawn_bytes 16 state → w ≤ 16 → length (take w bytes) ≡ w
unfolding drawn_bytes
part_long w state bytes e h = length-take-le w bytes (let long : length bytes ≡ 16 = ap length e ∙ length-map-range_with_len (drawn_byte state) 0 16 in omega arith)

pub symbols_none : {X : Type 0} (w : ℕ) (symbol : List ℕ → X) (state : ℕ) → drawn_symbols w symbol 0 state ≡ []
unfolding drawn_symbols
symbols_none w symbol state = refl

-- one symbol more
pub symbols_more : {X : Type 0} (w : ℕ) (symbol : List ℕ → X) (n state : ℕ) (past now : List X) (x : X) → past ≡ drawn_symbols w symbol n state → x ≡ drawn_symbol w symbol (after (16 * n) state) → now ≡ past ++ (x ∷ []) → now ≡ drawn_symbols w symbol (n + 1) state
unfolding drawn_symbols
symbols_more w symbol n state past now x p h e = rw add-one (e ∙ ap₂ (λ xs y. xs ++ (y ∷ [])) p h)

-- lines, column after column
pub start : (n : ℕ) → n ≡ n + 0
start n = omega arith

pub further : (n row : ℕ) → n + row + 1 ≡ n + (row + 1)
further n row = omega arith

pub finish : (column rows : ℕ) → column * rows + rows ≡ (column + 1) * rows
finish column rows = omega arith

pub lined : (n : ℕ) (line : ℕ → List ℕ) (past now last : List ℕ) → past ≡ lines n line → last ≡ line n → now ≡ past ++ last → now ≡ lines (n + 1) line
lined n line past now last p h e = rw add-one (e ∙ ap₂ (λ (a b : List ℕ). a ++ b) p h)

-- the frame of a column and a row, column 0 first
pub placed : {X : Type 0} (bytes : X → List ℕ) (cells : List X) (none : X) (column rows row : ℕ) → row < rows → frame 80 (column + 1) row (hex (bytes (get_or cells (column * rows + row) none))) ≡ frame_of rows bytes (λ _. false) (symbols_of none rows cells) (column * rows + row)
placed bytes cells none column rows row h =
    let i = column * rows + row in
    let back : i / rows ≡ i / rows + 1 - 1 = omega arith in
    ap₂ (λ c r. frame 80 (c + 1) r (hex (bytes (get_or cells (c * rows + r) none)))) (sym (div-mul-add column rows row h)) (sym (mod-mul-add column rows row h))
    ∙ ap (λ c. frame 80 (i / rows + 1) (i % rows) (hex (bytes (get_or cells (c * rows + i % rows) none)))) back

pub mul-add-r : (a b n : ℕ) → (a + b) * n ≡ a * n + b * n
mul-add-r a b n = omega arith

-- filled up to n
pub filled : {X : Type 0} (xs : List X) (len m k n : ℕ) (x : X) → len ≡ length xs → len ≡ m → n ≡ m + k → take n xs ++ replicate (n - len) x ≡ xs ++ replicate k x
filled xs len m k n x ok long e = ap₂ (λ ys j. ys ++ replicate j x) (take_all n xs (omega arith)) (omega arith)

-- a part of the right length is written
pub written : {E : Type 0} (bytes before after : List ℕ) (r : Result Unit E) → Wrote bytes before after r → length before ≡ length bytes → IsOk r
written bytes before after (Ok done) h long = refl
written bytes before after (Err e) h long = absurd (h.0 long)

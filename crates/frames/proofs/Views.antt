-- What a write and a mark come to in the view of a frame store.
use Rattle.std.proofs.Common.{◌≡◌, ℕ, ◌+◌, ◌-◌, ◌*◌, ◌<◌, ◌≤◌, true, not, eqb, ◌⊎◌, List, length, None, Ok, Err, Result, unwrap_or, sym, refl, ap, ◌∙◌, subst, inl, inr, mul-le-mul_right, arith}
use Rattle.std.proofs.lemmas.Bool.{cases_order}
use Rattle.symbol.specs.declared.kind.Symbol.{Ghosts}
use Rattle.symbol.specs.Hex.{hex, Octets}
use Rattle.symbol.specs.Kinds.{from_digits}
use Rattle.code.specs.declared.refusal.Refusal.{Refusal}
use Rattle.code.specs.Places.{place_of}
use Rattle.store.specs.View.{View, Written}
use Rattle.store.specs.Calls.{Drops, Admits}
use Rattle.store.proofs.Places.{place_apart}
use Rattle.frames.specs.Lines.{stride, over, marked}
use Rattle.frames.specs.Format.{marks_in, symbols_in}
use Rattle.frames.specs.Checks.{is_mark, text_refusal}
use Rattle.frames.specs.Stores.{Remarked, Remarks}
use Rattle.frames.proofs.Places.{place_fits}
use Rattle.frames.proofs.Sound.{sound, unrefused}
use Rattle.frames.proofs.Kept.{written_sound, marked_sound}
use Rattle.frames.proofs.Stands.{digits_is, digits_there, digits_long}
use Rattle.frames.proofs.Texts.{mark_over, digits_other, digits_here, digits_marked, mark_out, mark_in}

-- the view of a store of m columns and n rows over a text
abbrev pub view : {X : Type 0} → X → ℕ → (List ℕ → X) → ℕ → ℕ → ℕ → ℕ → List ℕ → View X
view none w symbol m n meter lender text = record { columns = m; rows = n; at = symbols_in none n w symbol text; lost = marks_in n w text; meter = meter; lender = lender }

module _ {X : Type 0} (K : Ghosts X) (m n meter lender : ℕ) where
  abbrev seen : List ℕ → View X
  seen = view K.zero K.width K.symbol m n meter lender

  -- digits are written
  module _ (wide : (x : X) → length (K.bytes x) ≡ K.width) (back : (x : X) → K.symbol (K.bytes x) ≡ x)
      (there : (b : List ℕ) → length b ≡ K.width → Octets b → K.bytes (K.symbol b) ≡ b) (text values : List ℕ)
      (c r : ℕ) (one : 1 ≤ c) (last : c ≤ m) (within : r < n) (whole : 1 ≤ m → m * n * stride K.width ≡ length text) (y : X) (real : Octets (K.bytes y))
      (put : values ≡ over text (place_of n c r * stride K.width + 10) (hex (K.bytes y))) where
    fits : place_of n c r * stride K.width + stride K.width ≤ length text
    fits = place_fits c r m n (stride K.width) (length text) one last within whole

    long : length (hex (K.bytes y)) ≡ 2 * K.width
    long = digits_long K wide back there y

    pub written : Written (seen text) c r y (seen values)
    written =
        let i = place_of n c r in
        let ds = hex (K.bytes y) in
        let symbol = λ (ds : List ℕ). unwrap_or (from_digits K.width K.symbol ds) K.zero in
        subst (λ v. Written (seen text) c r y (seen v)) (sym put)
        (record {
          columns = refl;
          rows = refl;
          lost = λ d column. ap (λ (b : ℕ). not (eqb b 80)) (mark_over K.width text i ds fits long (place_of n d 0));
          meter = refl;
          lender = refl;
          here = ap symbol (digits_here K.width text i ds fits long) ∙ digits_there K wide back there y real;
          others = λ d s inside apart. ap symbol (digits_other K.width text i ds fits long (place_of n d s) (place_apart d s c r n inside.0 one inside.2 within apart));
        })

    pub written_formed : text_refusal m n K.width text ≡ None → text_refusal m n K.width values ≡ None
    written_formed h =
        let ds = hex (K.bytes y) in
        let digits = digits_is K wide back there y real in
        ap (text_refusal m n K.width) put ∙ unrefused m n K.width _ (written_sound m n K.width text (sound m n K.width text h) (place_of n c r) ds fits digits)

  -- the lines of a column are marked
  module _ (text values : List ℕ) (c mark : ℕ) (one : 1 ≤ c) (last : c ≤ m) (some : 0 < n) (whole : 1 ≤ m → m * n * stride K.width ≡ length text)
      (put : values ≡ marked K.width text ((c - 1) * n) n mark) where
    -- that of another column lies elsewhere
    elsewhere : (d : ℕ) → 1 ≤ d → (d ≡ c → ⊥) → (place_of n d 0 < (c - 1) * n) ⊎ ((c - 1) * n + n ≤ place_of n d 0)
    elsewhere d d1 ne = elim (cases_order d c) [
      | inl same ↦ absurd (ne same)
      | inr less ↦ elim less [
        | inl up ↦ inl (let step : (d - 1 + 1) * n ≤ (c - 1) * n = mul-le-mul_right n (omega arith) in omega arith)
        | inr down ↦ inr (let step : (c - 1 + 1) * n ≤ (d - 1) * n = mul-le-mul_right n (omega arith) in omega arith)
      ]
    ]

    pub remarked : Remarked (seen text) c mark (seen values)
    remarked =
        let first = place_fits c 0 m n (stride K.width) (length text) one last some whole in
        subst (λ v. Remarked (seen text) c mark (seen v)) (sym put)
        (record {
          columns = refl;
          rows = refl;
          meter = refl;
          lender = refl;
          here = ap (λ (b : ℕ). not (eqb b 80)) (mark_in K.width text ((c - 1) * n) mark n (place_of n c 0) (omega arith) (omega arith) (omega arith));
          marks = λ d column ne. ap (λ (b : ℕ). not (eqb b 80)) (mark_out K.width text ((c - 1) * n) mark n (place_of n d 0) (elsewhere d column.0 ne));
          symbols = λ d s inside. ap (λ (ds : List ℕ). unwrap_or (from_digits K.width K.symbol ds) K.zero) (digits_marked K.width text ((c - 1) * n) mark n (place_of n d s));
        })

    pub marked_formed : is_mark mark ≡ true → text_refusal m n K.width text ≡ None → text_refusal m n K.width values ≡ None
    marked_formed is h = ap (text_refusal m n K.width) put ∙ unrefused m n K.width _ (marked_sound m n K.width text (sound m n K.width text h) (c - 1) mark some is)

-- the lines of a column lie in the text
pub lines_fit : (s c m n size : ℕ) → 1 ≤ c → c ≤ m → (1 ≤ m → m * n * s ≡ size) → ((c - 1) * n + n) * s ≤ size
lines_fit s c m n size one last whole =
    let e : m * n * s ≡ size = whole (omega arith) in
    let step : (c - 1 + 1) * n ≤ m * n = mul-le-mul_right n (omega arith) in
    let all : ((c - 1) * n + n) * s ≤ m * n * s = mul-le-mul_right s (omega arith) in
    omega arith

-- a lost mark drops a column, a present one admits it
pub drops : {S X U : Type 0} (view : S → View X) (s s' : S) (c : ℕ) (r : Result U Refusal) → Remarks view s c 76 r s' → Drops view s c r s'
drops view s s' c (Ok u) h =
    let m = h.1 in
    (h.0, record { columns = m.columns; rows = m.rows; meter = m.meter; lender = m.lender; gone = m.here; marks = m.marks; others = λ d e inside ne. m.symbols d e inside })
drops view s s' c (Err e) h = h

pub admits : {S X U : Type 0} (view : S → View X) (s s' : S) (c : ℕ) (r : Result U Refusal) → Remarks view s c 80 r s' → Admits view s c r s'
admits view s s' c (Ok u) h =
    let m = h.1 in
    (h.0, record { columns = m.columns; rows = m.rows; meter = m.meter; lender = m.lender; here = m.here; marks = m.marks; symbols = m.symbols })
admits view s s' c (Err e) h = h

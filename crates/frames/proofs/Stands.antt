-- What a text stands for: there and back, for every kind of symbol.
use Rattle.std.proofs.Common.{◌≡◌, ℕ, ◌+◌, ◌-◌, ◌*◌, ◌/◌, ◌%◌, ◌<◌, ◌≤◌, Bool, true, false, cond, not, eqb, List, [], ◌∷◌, length, get_or, Some, None, unwrap_or, sym, refl, ap, ◌∙◌, subst, ap₂, mod-lt, div-mul-le_self, mul-div_cancel, arith}
use Rattle.std.proofs.lemmas.List.{length-append}
use Rattle.std.proofs.lemmas.Bool.Decides.{nat_tests}
use Rattle.symbol.specs.declared.kind.Symbol.{Ghosts}
use Rattle.symbol.specs.Hex.{hex, unhex, is_hex, Octets}
use Rattle.symbol.specs.Kinds.{from_digits}
use Rattle.symbol.proofs.Digits.{hex_back, hex_there, hex_long, length_hex, length_unhex, hex_is_hex, unhex_octets}
use Rattle.code.specs.Places.{place_of}
use Rattle.frames.specs.Lines.{stride, part, line_at, mark_at, digits_at}
use Rattle.frames.specs.Format.{mark_of, frame, frame_of, marks_in, symbols_in}
use Rattle.frames.specs.Checks.{is_mark, is_frame, text_refusal, Real, Renders, Passes, Back, There}
use Rattle.frames.proofs.Places.{column_low, line_place, place_low, place_column, place_row}
use Rattle.frames.proofs.Lined.{length_lines, part_lines, lines_from}
use Rattle.frames.proofs.Sound.{Passing, Sound, sound, unrefused, framed, frame_digits, frames_so, line_mark, line_digits}

mark_back : (b : ℕ) → is_mark b ≡ true → mark_of (not (eqb b 80)) ≡ b
mark_back b h = grind (arith, nat_tests)

mark_there : (lost : Bool) → not (eqb (mark_of lost) 80) ≡ lost
mark_there true = refl
mark_there false = refl

mark_is : (lost : Bool) → is_mark (mark_of lost) ≡ true
mark_is true = refl
mark_is false = refl

module _ {X : Type 0} (K : Ghosts X) (wide : (x : X) → length (K.bytes x) ≡ K.width) (back : (x : X) → K.symbol (K.bytes x) ≡ x)
    (there : (b : List ℕ) → length b ≡ K.width → Octets b → K.bytes (K.symbol b) ≡ b) where
  read_is : (ds : List ℕ) → is_hex (2 * K.width) ds ≡ true → unwrap_or (from_digits K.width K.symbol ds) K.zero ≡ K.symbol (unhex ds)
  read_is ds h = ap (λ (b : Bool). unwrap_or (cond b (Some (K.symbol (unhex ds))) None) K.zero) h

  bytes_back : (ds : List ℕ) → is_hex (2 * K.width) ds ≡ true → K.bytes (unwrap_or (from_digits K.width K.symbol ds) K.zero) ≡ unhex ds
  bytes_back ds h = ap K.bytes (read_is ds h) ∙ there (unhex ds) (omega (arith, length_unhex ds, hex_long (2 * K.width) ds h)) (unhex_octets K.width ds h)

  pub digits_is : (x : X) → Octets (K.bytes x) → is_hex (2 * K.width) (hex (K.bytes x)) ≡ true
  digits_is x o = ap (λ n. is_hex (2 * n) (hex (K.bytes x))) (sym (wide x)) ∙ hex_is_hex (K.bytes x) o

  pub digits_there : (x : X) → Octets (K.bytes x) → unwrap_or (from_digits K.width K.symbol (hex (K.bytes x))) K.zero ≡ x
  digits_there x o = read_is (hex (K.bytes x)) (digits_is x o) ∙ ap K.symbol (hex_back (K.bytes x)) ∙ back x

  pub digits_long : (x : X) → length (hex (K.bytes x)) ≡ 2 * K.width
  digits_long x = length_hex (K.bytes x) ∙ ap (λ n. 2 * n) (wide x)

  frame_long : (rows : ℕ) (lost : ℕ → Bool) (at : ℕ → ℕ → X) (i : ℕ) → length (frame_of rows K.bytes lost at i) ≡ stride K.width
  frame_long rows lost at i = let x = at (i / rows + 1) (i % rows) in omega (arith, length-append (hex (K.bytes x)) (10 ∷ []), digits_long x)

  module _ (columns rows : ℕ) (text : List ℕ) where
    -- a line that passes is the frame of what it stands for
    line_back : (i : ℕ) → Passing rows K.width text i → line_at K.width text i ≡ frame_of rows K.bytes (marks_in rows K.width text) (symbols_in K.zero rows K.width K.symbol text) i
    line_back i p =
        let f = framed K.width (i / rows + 1) (i % rows) (line_at K.width text i) p.frames in
        let first : place_of rows (i / rows + 1) 0 ≡ i / rows * rows = let e : i / rows + 1 - 1 ≡ i / rows = omega arith in ap (λ k. k * rows + 0) e ∙ omega arith in
        let mark : get_or (line_at K.width text i) 0 0 ≡ mark_at K.width text (place_of rows (i / rows + 1) 0) = sym (line_mark rows K.width text i) ∙ p.agrees ∙ ap (mark_at K.width text) (sym first) in
        let is : is_mark (mark_at K.width text (place_of rows (i / rows + 1) 0)) ≡ true = subst (λ (b : ℕ). is_mark b ≡ true) mark f.0 in
        let digits : part (line_at K.width text i) 10 (2 * K.width) ≡ digits_at K.width text (place_of rows (i / rows + 1) (i % rows)) = sym (line_digits rows K.width text i) ∙ ap (digits_at K.width text) (sym (line_place i rows)) in
        let hexed : is_hex (2 * K.width) (digits_at K.width text (place_of rows (i / rows + 1) (i % rows))) ≡ true = subst (λ (d : List ℕ). is_hex (2 * K.width) d ≡ true) digits f.1 in
        f.2
        ∙ ap₂ (λ (m : ℕ) (d : List ℕ). frame m (i / rows + 1) (i % rows) d)
        (mark ∙ sym (mark_back _ is))
        (digits ∙ sym (hex_there K.width _ hexed) ∙ ap hex (sym (bytes_back _ hexed)))

    pub render_back : Back K.zero columns rows K.width K.bytes K.symbol text
    render_back h =
        let s = sound columns rows K.width text h in
        sym (lines_from (stride K.width) (frame_of rows K.bytes (marks_in rows K.width text) (symbols_in K.zero rows K.width K.symbol text)) (columns * rows) text s.long (λ i l. line_back i (s.lines i l)))

    real : text_refusal columns rows K.width text ≡ None → Real columns rows K.bytes (symbols_in K.zero rows K.width K.symbol text)
    real h c r one last within =
        let i = place_of rows c r in
        let p = (sound columns rows K.width text h).lines i (place_low c r columns rows one last within) in
        let f = framed K.width (i / rows + 1) (i % rows) (line_at K.width text i) p.frames in
        let hexed : is_hex (2 * K.width) (digits_at K.width text i) ≡ true = subst (λ (d : List ℕ). is_hex (2 * K.width) d ≡ true) (sym (line_digits rows K.width text i)) f.1 in
        subst Octets (sym (bytes_back (digits_at K.width text i) hexed)) (unhex_octets K.width (digits_at K.width text i) hexed)

    module _ (lost : ℕ → Bool) (at : ℕ → ℕ → X) (h : Renders columns rows K.bytes lost at text) where
      line_there : (i : ℕ) → i < columns * rows → line_at K.width text i ≡ frame_of rows K.bytes lost at i
      line_there i l =
          ap (λ (t : List ℕ). line_at K.width t i) h.1
          ∙ part_lines (stride K.width) (frame_of rows K.bytes lost at) (columns * rows) i (λ j k. frame_long rows lost at j) l

      mark_is_there : (i : ℕ) → i < columns * rows → mark_at K.width text i ≡ mark_of (lost (i / rows + 1))
      mark_is_there i l = line_mark rows K.width text i ∙ ap (λ (x : List ℕ). get_or x 0 0) (line_there i l)

      digits_are_there : (i : ℕ) → i < columns * rows → digits_at K.width text i ≡ hex (K.bytes (at (i / rows + 1) (i % rows)))
      digits_are_there i l =
          line_digits rows K.width text i ∙ ap (λ (x : List ℕ). part x 10 (2 * K.width)) (line_there i l)
          ∙ frame_digits K.width (mark_of (lost (i / rows + 1))) (i / rows + 1) (i % rows) _ (digits_long (at (i / rows + 1) (i % rows)))

      render_sound : 1 ≤ rows → Sound columns rows K.width text
      render_sound some = record {
        long = ap length h.1 ∙ length_lines (stride K.width) (frame_of rows K.bytes lost at) (columns * rows) (λ j k. frame_long rows lost at j);
        lines = λ i l.
            let c-low = column_low i columns rows some l in
            let first_low : i / rows * rows < columns * rows = omega (arith, div-mul-le_self i rows) in
            let same : i / rows * rows / rows ≡ i / rows = mul-div_cancel (i / rows) some in
            record {
              frames = ap (is_frame K.width (i / rows + 1) (i % rows)) (line_there i l) ∙ frames_so K.width (mark_of (lost (i / rows + 1))) (i / rows + 1) (i % rows) _ (mark_is (lost (i / rows + 1))) (digits_is (at (i / rows + 1) (i % rows)) (h.0 (i / rows + 1) (i % rows) (omega arith) (omega arith) (mod-lt i some)));
              agrees = mark_is_there i l ∙ ap (λ k. mark_of (lost (k + 1))) (sym same) ∙ sym (mark_is_there (i / rows * rows) first_low);
            };
      }

      marks_there : 1 ≤ rows → (c : ℕ) → 1 ≤ c → c ≤ columns → marks_in rows K.width text c ≡ lost c
      marks_there some c one last =
          let i = place_of rows c 0 in
          ap (λ (b : ℕ). not (eqb b 80)) (mark_is_there i (place_low c 0 columns rows one last some))
          ∙ mark_there (lost (i / rows + 1))
          ∙ ap lost (place_column c 0 rows one some)

      symbols_there : (c r : ℕ) → 1 ≤ c → c ≤ columns → r < rows → symbols_in K.zero rows K.width K.symbol text c r ≡ at c r
      symbols_there c r one last within =
          let i = place_of rows c r in
          let x : hex (K.bytes (at (i / rows + 1) (i % rows))) ≡ hex (K.bytes (at c r)) = ap₂ (λ c r. hex (K.bytes (at c r))) (place_column c r rows one within) (place_row c r rows within) in
          ap (λ (ds : List ℕ). unwrap_or (from_digits K.width K.symbol ds) K.zero) (digits_are_there i (place_low c r columns rows one last within) ∙ x)
          ∙ digits_there (at c r) (h.0 c r one last within)

    pub render_passes : 1 ≤ rows → Passes columns rows K.width K.bytes text
    render_passes some = record {
      so = λ h. (marks_in rows K.width text, symbols_in K.zero rows K.width K.symbol text, (real h, sym (render_back h)));
      if_so = λ lost at h. unrefused columns rows K.width text (render_sound lost at h some);
    }

    pub render_there : 1 ≤ rows → There K.zero columns rows K.width K.bytes K.symbol text
    render_there some = λ lost at h. (marks_there lost at h some, symbols_there lost at h)

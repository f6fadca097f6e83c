-- How large the printed numbers are.
use Rattle.std.proofs.Common.{◌≡◌, ℕ, suc, ◌+◌, ◌-◌, ◌*◌, ◌^◌, ◌<◌, ◌≤◌, None, ap, ◌∙◌, subst, mul-le-mul, mul-le-mul_left, pow-suc, arith}
use Rattle.std.proofs.lemmas.Bool.{le-ltb, cond_both}
use Rattle.code.specs.declared.shape.Shape.{Shape}
use Rattle.code.specs.Shapes.{columns_of, helpers_of, rows_of}
use Rattle.store.specs.View.{View}
use Rattle.repair.specs.Halves.{depth}
use Rattle.repair.specs.Lists.{formula}
use Rattle.array.specs.Checks.{work_of}
use Rattle.recovery.specs.Rebuild.{is_data, count_of, quote_refusal, rebuild_refusal}
use Rattle.recovery.proofs.Accepted.{to_room}

half : (a q y : ℕ) → 2 ≤ q → a * (y * q) ≤ 4096 → a * y ≤ 2048
half a q y two low = let m = mul-le-mul_left (a * y) two in let e : a * (y * q) ≡ a * y * q = omega arith in omega arith

product_low : (a d y b : ℕ) → a * y ≤ 2048 → d ≤ 16 → a * (d * y - b) ≤ 32768
product_low a d y b low few =
    let less : a * (d * y - b) ≤ a * (d * y) = mul-le-mul_left a (omega arith) in
    let e : a * (d * y) ≡ d * (a * y) = omega arith in
    let m : d * (a * y) ≤ 16 * 2048 = mul-le-mul few low in
    omega arith

module _ (s : Shape) where
  pub columns_low : columns_of s ≤ 19
  columns_low = omega arith

  formula_low : (f : ℕ) → formula s f ≤ 32768
  formula_low f = product_low (s.p - 1) (helpers_of s + 1) (s.q ^ (s.k - 3)) (s.q ^ (s.k - depth s f - 2)) (half (s.p - 1) s.q (s.q ^ (s.k - 3)) s.helping.0 (subst (λ x. (s.p - 1) * x ≤ 4096) power s.small)) (omega arith)
    where
      power : s.q ^ (s.k - 2) ≡ s.q ^ (s.k - 3) * s.q
      power = let e : s.k - 2 ≡ suc (s.k - 3) = omega arith in ap (λ n. s.q ^ n) e ∙ pow-suc s.q (s.k - 3)

  -- four digits suffice for a count
  pub count_low : (f : ℕ) → count_of s f < 65536
  count_low f = cond_both (is_data s f) (formula s f) (s.k * rows_of s) (λ n. n < 65536) (λ e. omega (arith, formula_low f)) (λ e. let m : s.k * rows_of s ≤ 12 * 4096 = mul-le-mul s.data_columns.1 s.small in omega arith)

-- a rebuild from a quote just taken, with a work area that is large enough
pub allowed : {X : Type 0} (s : Shape) (g : View X) (f count room : ℕ) → quote_refusal s g f ≡ None → count ≡ count_of s f → work_of s ≤ room → rebuild_refusal s g f count room ≡ None
allowed s g f count room quoted same enough = to_room s g f count room quoted same ∙ rw (le-ltb room (work_of s) enough)

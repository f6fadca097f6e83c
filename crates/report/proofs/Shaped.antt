-- A shape is determined by its numbers.
use Rattle.std.proofs.Common.{◌≡◌, ℕ, ◌≤◌, true, List, Some, None, Option, ap, arith}
use mathlib.Core.HLevel.{is_prop→PathP, ×_prop}
use mathlib.Core.Bool.{Bool-set}
use native.Mathlib.Bridge.{le_prop}
use Rattle.code.specs.declared.refusal.Refusal.{Refusal}
use Rattle.code.specs.declared.shape.Shape.{Shape}
use Rattle.code.specs.Rules.{listed, one_of, rows, shape_refusal}
use Rattle.report.specs.Given.{shape_of}
use Rattle.report.specs.Printed.{answer, shaped}

same_shape : (s t : Shape) → s.k ≡ t.k → s.q ≡ t.q → s.p ≡ t.p → s ≡ t
same_shape s t ek eq ep = λ i. record {
  k = ek i;
  q = eq i;
  p = ep i;
  data_columns = is_prop→PathP (λ j. (4 ≤ ek j) × (ek j ≤ 12)) (λ j. ×_prop le_prop le_prop) s.data_columns t.data_columns i;
  helping = is_prop→PathP (λ j. (2 ≤ eq j) × (eq j ≤ 4)) (λ j. ×_prop le_prop le_prop) s.helping t.helping i;
  prime = is_prop→PathP (λ j. one_of listed (ep j) ≡ true) (λ j. Bool-set (one_of listed (ep j)) true) s.prime t.prime i;
  wide = is_prop→PathP (λ j. eq j ≤ ep j) (λ j. le_prop) s.wide t.wide i;
  small = is_prop→PathP (λ j. rows (ek j) (eq j) (ep j) ≤ 4096) (λ j. le_prop) s.small t.small i;
}

pub shaped_is :
    (s : Shape) (k q p : ℕ) (text : List ℕ) (refusal : Option Refusal) (is : shape_refusal k q p ≡ refusal) →
    (shape_refusal k q p ≡ None) × (s.k ≡ k) × (s.q ≡ q) × (s.p ≡ p) → answer s text ≡ shaped k q p text refusal is
shaped_is s k q p text (Some e) is (fine, ek, eq, ep) = absurd (let z : ◌≡◌ {A = ℕ} 0 1 = cc in omega arith)
shaped_is s k q p text None is (fine, ek, eq, ep) = ap (λ (t : Shape). answer t text) (same_shape s (shape_of k q p is) ek eq ep)

use Rattle.std.proofs.Common.{◌≡◌, ◌≢◌, ◌/◌, ◌^◌, ◌<◌, length, sym, ap, ◌∙◌, arith, below_more, get_or-set_other, get_or-set_same}
use Rattle.drawn.specs.Drawn.{next, after}
use Rattle.drawn.proofs.Drawn.{after_none, after_more, bytes_all}
use Rattle.drawn.proofs.random.Random.bytes.Goals as goal

pub loop-byte-init : goal.loop-byte-init
loop-byte-init c = record { state = sym (after_none c.args.self.now.0); bytes = λ k h. absurd (omega arith) }

pub loop-byte-preserved : goal.loop-byte-preserved
loop-byte-preserved c =
    let i = c.loop-byte.byte-index in
    let past = c.loop-byte.invariant in
    record {
      state = c.byte.ensures.state ∙ ap next past.state ∙ sym (after_more i c.args.self.now.0);
      bytes = below_more _ _
          (λ k h. let ne : k ≢ i = omega arith in rw get_or-set_other (past.bytes k h))
          (let lt : i < length c.loop-byte.byte-items = omega arith in rw get_or-set_same (c.byte.ensures.byte ∙ ap (λ s. next s / 2 ^ 24) past.state));
    }

pub returns-clause-bytes : goal.returns-clause-bytes
returns-clause-bytes c = bytes_all 16 c.args.self.now.0 c.loop-byte.byte-items (omega (arith, c.loop-byte-test.array_long)) (λ k h. c.loop-byte.invariant.bytes k (omega (arith, c.loop-byte-test.false, c.loop-byte-test.array_long)))

pub returns-clause-state : goal.returns-clause-state
returns-clause-state c =
    let all : c.loop-byte.byte-index ≡ 16 = omega (arith, c.loop-byte-test.false, c.loop-byte-test.array_long, c.loop-byte.auto.byte-index-end) in
    c.loop-byte.invariant.state ∙ ap (λ n. after n c.args.self.now.0) all

use Rattle.std.proofs.Common.{◌≡◌, ◌<◌, length, None, Ok, refl, ◌∙◌, subst, arith, rules}
use Rattle.std.proofs.lemmas.List.{get_or_default, get_or-set_other, get_or-take, length-take}
use Rattle.runs.specs.Law.{Runs}
use Rattle.runs.specs.Steps.{state_of, Stepped}
use Rattle.runs.specs.declared.calls.Call.TheVariants.{Ask}
use Rattle.runs.proofs.Runs.{chain_none, chain_more, ran}
use Rattle.runs.proofs.running.run.Goals as goal

pub loop-i-init : goal.loop-i-init
loop-i-init g c = (chain_none g.S.ColumnStore.view g.X.Symbol.zero g.X.Symbol.plus c.args.array.now.shape c.args.calls.now _ _, λ j h. refl)

pub offset_bounds-answers-i : goal.offset_bounds-answers-i
offset_bounds-answers-i g c =
    let h : c.loop-i.i < length c.args.answers.now = omega (arith, length-take c.min-count.result c.args.calls.now, c.min-count.ensures, c.loop-i-test.true) in
    search rules

pub loop-i-preserved : goal.loop-i-preserved
loop-i-preserved g c =
    let v = g.S.ColumnStore.view in
    let none = g.X.Symbol.zero in
    let plus = g.X.Symbol.plus in
    let s = c.args.array.now.shape in
    let calls = c.args.calls.now in
    let i = c.loop-i.i in
    let r = c.step.result in
    let a = state_of c.loop-i.store c.loop-i.hand c.loop-i.work in
    let z = state_of c.step.new.store c.step.new.hand c.step.new.work in
    let n = c.min-count.result in
    let below : i < n = omega (arith, length-take n calls, c.loop-i-test.true) in
    let known : i < length calls = omega (arith, c.min-count.ensures, below) in
    let room : i < length c.loop-i.answers = omega (arith, c.min-count.ensures, below, c.loop-i.auto.answers) in
    let call-is = c.call-item.is ∙ get_or-take n calls i c.call-item.result below ∙ get_or_default calls i c.call-item.result Ask known in (
      chain_more v none plus s calls _ i _ a z r room c.loop-i.invariant.0 (subst (λ call. Stepped v none plus s call a r z) call-is c.step.ensures),
      λ j h. get_or-set_other c.loop-i.answers i j r (Ok None) (λ e. omega arith) ∙ c.loop-i.invariant.1 j (omega arith),
    )

pub returns : goal.returns
returns g c =
    let v = g.S.ColumnStore.view in
    let none = g.X.Symbol.zero in
    let plus = g.X.Symbol.plus in
    let s = c.args.array.now.shape in
    let calls = c.args.calls.now in
    let a = state_of c.args.store.now c.args.hand.now c.args.work.now in
    let z = state_of c.loop-i.store c.loop-i.hand c.loop-i.work in
    let all : c.loop-i.i ≡ c.min-count.result = omega (arith, length-take c.min-count.result calls, c.min-count.ensures, c.loop-i-test.false, c.loop-i.auto.i-end) in
    subst (λ n. Runs v none plus s calls c.args.answers.now n c.loop-i.answers a z) all
    (record { all = all ∙ c.min-count.ensures; ran = ran v none plus s calls _ _ a z c.loop-i.invariant.0; rest = c.loop-i.invariant.1 })

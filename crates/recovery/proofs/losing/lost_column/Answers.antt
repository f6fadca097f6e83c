use Rattle.std.proofs.Common.{◌≡◌, rules, ◌∙◌}
use Rattle.store.specs.View.{counts_as_lost}
use Rattle.array.specs.Lost.{lowest_lost}
use Rattle.recovery.proofs.Books.{tells_lost}
use Rattle.recovery.proofs.losing.lost_column.Goals as goal

pub returns : goal.returns
returns g c =
    let v = g.S.ColumnStore.view c.args.store.now in
    let answer : c.lowest_lost.result ≡ lowest_lost (counts_as_lost v) v.columns = search rules in
    record { answer = answer; book = λ s b A. answer ∙ tells_lost g.X.Symbol.zero g.X.Symbol.plus v s b A }

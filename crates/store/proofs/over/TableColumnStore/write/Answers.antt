use Rattle.std.proofs.Common.{rules}
use Rattle.std.proofs.lemmas.List.{get_or-set_other}
use Rattle.store.proofs.over.TableColumnStore.write.Goals as goal

pub returns : goal.returns
returns g c = (
  search rules,
  record {
    columns = search rules;
    rows = search rules;
    lost = search rules;
    meter = search rules;
    lender = search rules;
    here = search rules;
    others = λ d s inside apart. let ne = c.in_ok-place.ensures.5 d s inside.0 inside.2 apart in search (rules, get_or-set_other);
  },
)

use Rattle.std.proofs.Common.{length, sym, ap, ◌∙◌, rules}
use Rattle.code.specs.Shapes.{columns_of}
use Rattle.store.specs.View.{View, counts_as_lost}
use Rattle.array.proofs.Checked.{is_present}
use Rattle.array.proofs.Lowest.{none_lost}
use Rattle.audit.proofs.Audits.{whole, same_refusal, audited}
use Rattle.audit.proofs.auditing.audit.Goals as goal

-- with no column lost, loading is refused as the audit is
pub returns-in_err-load_data-clause-answer : goal.returns-in_err-load_data-clause-answer
returns-in_err-load_data-clause-answer g c =
    let s = c.args.array.now.shape in
    let v = g.S.ColumnStore.view c.args.store.now in
    let e = same_refusal s v (length c.args.work.now) (whole (counts_as_lost v) _ (columns_of s) c.in_default.ensures c.columns.ensures) in
    search rules

pub compare_parities-requires-clause-present : goal.compare_parities-requires-clause-present
compare_parities-requires-clause-present g c =
    let s = c.args.array.now.shape in
    let v = g.S.ColumnStore.view c.args.store.now in
    let (accepted, G) = c.in_ok-load_data.ensures in
    λ d one last. ap (λ (x : View _). x.lost d) G.meter ∙ is_present v d (none_lost (counts_as_lost v) (columns_of s) (whole (counts_as_lost v) _ (columns_of s) c.in_default.ensures c.columns.ensures) d one last)

pub returns-clause-answer : goal.returns-clause-answer
returns-clause-answer g c =
    let s = c.args.array.now.shape in
    let view = g.S.ColumnStore.view in
    let v = view c.args.store.now in
    let (accepted, G) = c.in_ok-load_data.ensures in (
      sym (same_refusal s v (length c.args.work.now) (whole (counts_as_lost v) _ (columns_of s) c.in_default.ensures c.columns.ensures)) ∙ accepted,
      audited g.X.Symbol.zero g.X.Symbol.plus s g.met.X.Symbol.group v (view c.load_data.new.store) (view c.compare_parities.new.store) c.args.work.now c.load_data.new.work c.clear.new.work c.in_ok-holds.holds G c.in_ok-holds.ensures c.clear.ensures,
    )

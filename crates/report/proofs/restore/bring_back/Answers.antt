use Rattle.std.proofs.Common.{◌≡◌, ◌*◌, length, string_bytes, ap, ◌∙◌, ap₂, arith}
use lib.ListN.{length-replicate}
use Rattle.array.specs.Checks.{work_of}
use Rattle.array.proofs.Checked.{long}
use Rattle.recovery.specs.Rebuild.{count_of}
use Rattle.recovery.proofs.Accepted.{accepted}
use Rattle.report.proofs.Counts.{allowed, columns_low, count_low}
use Rattle.report.proofs.Rows.{brought}
use Rattle.report.proofs.restore.bring_back.Goals as goal

pub spend-requires : goal.spend-requires
spend-requires g c =
    let s = c.args.array.now.shape in
    let v = g.S.ColumnStore.view c.args.store.now in
    let q = c.args.quote in
    let room : length c.deref_mut.result.now ≡ work_of s = ap length (c.deref_mut.ensures.value ∙ c.in_ok-work.ensures.items_if_clones_equal (λ y e. e)) ∙ length-replicate (c.helpers.result * c.rows.result) c.zero.result ∙ ap₂ ◌*◌ c.helpers.ensures c.rows.ensures in
    allowed s v q.column q.count (length c.deref_mut.result.now) c.requires.quoted c.requires.count (omega (arith, room))

pub put_summary-requires : goal.put_summary-requires
put_summary-requires g c =
    let s = c.args.array.now.shape in
    let v = g.S.ColumnStore.view c.args.store.now in
    let q = c.args.quote in
    let a = accepted s v q.column q.count (work_of s) (allowed s v q.column q.count (work_of s) c.requires.quoted c.requires.count (omega arith)) in
    record { column = omega (arith, c.column-column.ensures, a.last, columns_low s); count = omega (arith, c.count-count.ensures, c.requires.count, count_low s q.column) }

pub returns : goal.returns
returns g c =
    let s = c.args.array.now.shape in
    let view = g.S.ColumnStore.view in
    let v = view c.args.store.now in
    let q = c.args.quote in
    let a = accepted s v q.column q.count (work_of s) (allowed s v q.column q.count (work_of s) c.requires.quoted c.requires.count (omega arith)) in
    brought s q.column (count_of s q.column) v (view c.spend.new.store) c.spend.new.work c.spend.ensures
    (view c.spend.new.store).rows c.column-column.result c.count-count.result (c.spend.ensures.rows ∙ long s v a.fit) c.column-column.ensures (c.count-count.ensures ∙ c.requires.count)
    (string_bytes c.new-out.result) (string_bytes c.put_frames.new.out) (string_bytes c.put_summary.new.out) c.new-out.ensures.bytes c.in_ok-put_frames.ensures c.in_ok-put_summary.ensures

use Rattle.std.proofs.Common.{◌≡◌, ◌+◌, ◌-◌, ◌≤◌, length, take, drop, ◌∙◌, rules, arith, length-drop}
use Rattle.std.proofs.lemmas.List.{length-take}
use Rattle.code.specs.Shapes.{rows_of}
use Rattle.recovery.proofs.Reading.{unhelped, filled, no_start, some_start, part_fits, accepted_as}
use Rattle.recovery.proofs.listed.fill.Goals as goal

pub returns-in_default : goal.returns-in_default
returns-in_default g c =
    let u = c.args.plan.now in
    unhelped g.X.Symbol.zero u.shape u.lost u.is_data.0 u.is_data.1 _ c.args.column _ (g.S.ColumnStore.counted c.args.store.now) (no_start g.X.Symbol.zero u.shape u.lost u.is_data.0 u.is_data.1 c.args.column c.in_default.ensures)

pub offset_bounds-work-start : goal.offset_bounds-work-start
offset_bounds-work-start g c =
    let u = c.args.plan.now in
    let (h, e) = some_start g.X.Symbol.zero u.shape u.lost u.is_data.0 u.is_data.1 c.args.column c.in-Some.start c.in-Some.ensures in
    let low : c.in-Some.start ≤ length c.args.work.now = omega (arith, e, part_fits g.X.Symbol.zero u.shape u.lost u.is_data.0 u.is_data.1 c.args.column h, c.requires.room) in
    search rules

pub slice_bounds-fetch-end : goal.slice_bounds-fetch-end
slice_bounds-fetch-end g c =
    let u = c.args.plan.now in
    let (h, e) = some_start g.X.Symbol.zero u.shape u.lost u.is_data.0 u.is_data.1 c.args.column c.in-Some.start c.in-Some.ensures in
    let low : c.in-Some.start + c.rows.result ≤ length c.args.work.now = omega (arith, e, c.rows.ensures, part_fits g.X.Symbol.zero u.shape u.lost u.is_data.0 u.is_data.1 c.args.column h, c.requires.room) in
    search rules

pub returns : goal.returns
returns g c =
    let u = c.args.plan.now in
    let (h, e) = some_start g.X.Symbol.zero u.shape u.lost u.is_data.0 u.is_data.1 c.args.column c.in-Some.start c.in-Some.ensures in
    let low : c.in-Some.start + c.rows.result ≤ length c.args.work.now = omega (arith, e, c.rows.ensures, part_fits g.X.Symbol.zero u.shape u.lost u.is_data.0 u.is_data.1 c.args.column h, c.requires.room) in
    let whole : length (take (c.in-Some.start + c.rows.result - c.in-Some.start) (drop c.in-Some.start c.args.work.now)) ≡ rows_of u.shape = simp (length-take, length-drop) (omega (arith, c.rows.ensures)) in
    accepted_as _ _ (λ n F. filled g.X.Symbol.zero u.shape u.lost u.is_data.0 u.is_data.1 _ _ c.args.column n c.in-Some.start _ _ c.args.work.now c.fetch.new.part e (omega (arith, c.rows.ensures)) whole (c.fetch.auto.part ∙ whole) c.requires.room h F) _ c.fetch.ensures

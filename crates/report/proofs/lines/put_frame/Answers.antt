use Rattle.std.proofs.Common.{◌≡◌, ◌++◌, OnOk, string_bytes, sym, ◌∙◌, subst, arith, rules}
use Rattle.std.specs.Str.{IsUtf8}
use Rattle.report.proofs.Ascii.{frame_is_text, is_taken}
use Rattle.report.proofs.lines.put_frame.Goals as goal

pub unwrap-requires : goal.unwrap-requires
unwrap-requires c =
    let text = subst IsUtf8 (sym c.frame-line.ensures) (frame_is_text c.args.column c.args.row c.args.symbol c.requires.column c.requires.row (omega arith)) in
    is_taken _ _ c.frame-line.result c.from_utf8.result c.from_utf8.ensures.cases text

pub returns : goal.returns
returns c =
    let (same, _) = rw c.unwrap.ensures at c.from_utf8.ensures.cases in
    let line = same ∙ c.frame-line.ensures in
    let h : OnOk c.push_str.result (string_bytes c.push_str.new.self ≡ string_bytes c.args.out.now ++ c.unwrap.result.now) = search rules in
    rw line at h

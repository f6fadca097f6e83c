use Rattle.std.proofs.Common.{◌≡◌, [], ◌∷◌, ◌++◌, OnOk, string_bytes, rules}
use Rattle.report.proofs.Digits.{hexed, byte_digits, word_digits}
use Rattle.report.proofs.lines.put_summary.Goals as goal

pub returns : goal.returns
returns c =
    let h : OnOk c.writeln.result (string_bytes c.writeln.new.self ≡ string_bytes c.args.out.now ++ (82 ∷ 32 ∷ [] ++ (hexed 2 c.args.column ++ (32 ∷ [] ++ (hexed 4 c.args.count ++ (10 ∷ [])))))) = search rules in
    simp (byte_digits c.args.column c.requires.column, word_digits c.args.count c.requires.count) at h

use Rattle.std.proofs.Common.{◌≡◌, ◌++◌, ap, length, arith, string_bytes}
use Rattle.disassembly.specs.Writing.{as_line, comment_line, IsQuieter}
use Rattle.disassembly.proofs.Names.{on_ok, quieter_name}
use Rattle.disassembly.proofs.writing.push_name.Goals as goal

pub returns : goal.returns
returns c =
    let same : c.in-Ok.text.now ≡ c.args.name.now = c.in-Ok.ensures.cases.0 in
    let old = string_bytes c.args.out.now in
    let gap = string_bytes c.push_gap.new.out in
    let new = string_bytes c.push_text.new.out in
    on_ok c.push_text.result (string_bytes c.push_text.new.out ≡ string_bytes c.push_gap.new.out ++ as_line (comment_line c.in-Ok.text.now))
    (IsQuieter 110 (string_bytes c.args.out.now) (string_bytes c.push_text.new.out))
    (quieter_name old gap new c.in-Ok.text.now c.args.k (rw same c.requires.plain)
    (omega (arith, ap length same, c.requires.short)) c.in_ok-push_gap.ensures)
    c.push_text.ensures

use Rattle.std.proofs.Common.{arith, string_bytes}
use Rattle.disassembly.proofs.Said.{text_begun, text_ended}
use Rattle.disassembly.proofs.writing.text_of.Goals as goal

pub instructions-init : goal.instructions-init
instructions-init c = rw c.new-out.ensures.bytes (text_begun c.in_ok-marks.marks.items c.args.code.now)

pub returns : goal.returns
returns c =
    text_ended c.in_ok-marks.marks.items c.args.code.now c.args.bytes.now (string_bytes c.instructions.out) (string_bytes c.push_str.new.self) (string_bytes c.push_data.new.out)
    c.instructions.k c.in_ok-marks.ensures.length c.requires.few c.requires.data (omega (arith, c.instructions.auto.k-end, c.instructions-test.false)) c.instructions.invariant
    c.in_ok-push_str.ensures.bytes c.in_ok-push_data.ensures c.requires.sound c.in_ok-marks.ensures.marked

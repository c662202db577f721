use Rattle.std.proofs.Common.{true, ap, sym, ◌∙◌}
use Rattle.instructions.specs.Instruction.{width}
use Rattle.instructions.specs.declared.instr.Instr.{Instr}
use Rattle.replay.specs.Bytes.{byte_by}
use Rattle.lsq.specs.Bytes.{little_endian_if_there}
use Rattle.inorder.specs.Unit.{older}
use Rattle.replay.specs.Shown.{shown}
use Rattle.replay.proofs.First.{older_first}
use Rattle.replay.proofs.unit.Unit.sure_raw_of.Goals as goal

pub returns : goal.returns
returns c =
    let P = c.args.self.now.program.now in
    let hs = c.args.self.now.tenants.items in
    c.raw_before.ensures
    ∙ ap (λ ts. little_endian_if_there (byte_by true P ts) c.args.address c.width-width.result) (sym (older_first hs c.args.who c.requires.who))
    ∙ ap (little_endian_if_there (byte_by true P (older (shown hs) c.args.who)) c.args.address)
    (c.width-width.ensures.value ∙ ap width (c.op.ensures ∙ ap (λ (i : Instr). i.op) c.instr.ensures))

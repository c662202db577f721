use Rattle.std.proofs.Common.{rules, ◌≡◌, ◌≤◌, ◌+◌, length, subst, arith}
use Rattle.instructions.specs.Instruction.{kind, width}
use Rattle.instructions.specs.Operations.{AddressIsInside}
use Rattle.instructions.specs.declared.op.Kind.TheVariants.{Loads}
use Rattle.own_model.specs.Flight.{IsSecond}
use Rattle.load_ahead.proofs.station.LoadAhead.loaded_ahead.Goals as goal

pub load-requires : goal.load-requires
load-requires c =
    let size = length c.args.self.now.program.now.bytes in
    let second = c.in_ok-second.second in
    let is : c.in-Address.address + width second.instr.op ≤ size = subst (λ o. AddressIsInside o (width second.instr.op) size) c.in-Address.is c.in_ok-second.ensures.inside in
    let same = c.requires in
    omega (arith, is, same)

pub returns-in-Address : goal.returns-in-Address
returns-in-Address c =
    let b = c.args.self.now in
    let second = c.in_ok-second.second in
    let e = c.in_ok-second.ensures in
    let loads : kind second.instr.op ≡ Loads = search rules in
    record {
      oldest = e.oldest;
      second = subst (IsSecond b.program.now b.state e.oldest second.pc second.instr) c.in-Address.is e.is;
      loads = loads;
      inside = subst (λ o. AddressIsInside o (width second.instr.op) (length b.program.now.bytes)) c.in-Address.is e.inside;
      word = omega (arith, c.load.type_inv);
    }

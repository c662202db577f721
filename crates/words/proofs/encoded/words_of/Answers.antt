use Rattle.std.proofs.Common.{◌∙◌, arith}
use Rattle.words.proofs.Faithful.{one_more}
use Rattle.words.proofs.encoded.words_of.Goals as goal

pub instructions-preserved : goal.instructions-preserved
instructions-preserved c =
    record {
      say = one_more c.args.program.now c.instructions.k c.instructions.words.items c.push.new.self.items c.in-Some.word c.address_of.result _
          (omega arith) c.instructions.invariant.say c.instructions.invariant.all c.in_ok-push-in-Some.ensures.items
          c.in-Some.ensures.some c.address_of.ensures (c.from-decoded.ensures ∙ c.instr.ensures);
      all = omega (arith, c.in_ok-push-in-Some.ensures.len, c.instructions.invariant.all);
    }

-- Stops by their numbers.
use Rattle.std.proofs.Common.{◌≡◌, refl, arith}
use Rattle.instructions.specs.Operations.{code_of}
use Rattle.instructions.specs.declared.stop.Stop.{Stop}
use Rattle.instructions.specs.declared.stop.Stop.TheVariants.{BadPc, Break, OutOfRange, Overflow, Unaligned}

pub same_code : (c d : Stop) → code_of c ≡ code_of d → c ≡ d
same_code Break Break e = refl
same_code Break Overflow e = absurd (omega arith)
same_code Break Unaligned e = absurd (omega arith)
same_code Break OutOfRange e = absurd (omega arith)
same_code Break BadPc e = absurd (omega arith)
same_code Overflow Break e = absurd (omega arith)
same_code Overflow Overflow e = refl
same_code Overflow Unaligned e = absurd (omega arith)
same_code Overflow OutOfRange e = absurd (omega arith)
same_code Overflow BadPc e = absurd (omega arith)
same_code Unaligned Break e = absurd (omega arith)
same_code Unaligned Overflow e = absurd (omega arith)
same_code Unaligned Unaligned e = refl
same_code Unaligned OutOfRange e = absurd (omega arith)
same_code Unaligned BadPc e = absurd (omega arith)
same_code OutOfRange Break e = absurd (omega arith)
same_code OutOfRange Overflow e = absurd (omega arith)
same_code OutOfRange Unaligned e = absurd (omega arith)
same_code OutOfRange OutOfRange e = refl
same_code OutOfRange BadPc e = absurd (omega arith)
same_code BadPc Break e = absurd (omega arith)
same_code BadPc Overflow e = absurd (omega arith)
same_code BadPc Unaligned e = absurd (omega arith)
same_code BadPc OutOfRange e = absurd (omega arith)
same_code BadPc BadPc e = refl

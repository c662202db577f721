use Rattle.std.proofs.Common.{◌≡◌, ℕ, Option, Some, None, ap, ◌∙◌}
use Rattle.std.specs.Option.{option_map}
use Rattle.instructions.specs.declared.instr.Instr.{Instr}
use Rattle.encoding.specs.declared.decoding.Decoded.{Decoded}
use Rattle.encoding.specs.Words.{instruction_of, decode as decode_of, packed as packed_of}
use Rattle.encoding.proofs.Rebuilt.{packed_back}
use Rattle.encoding.proofs.encoding.encode.Goals as goal

abbrev whole : Instr → Decoded
whole i = record { op = i.op; target = i.target; first = i.first; second = i.second; number = i.number }

-- what reads as the instruction was decoded from its packed word
only_said : (pc packed word : ℕ) (said : Option Decoded) (d : Decoded) → packed ≡ packed_of pc (instruction_of d)
    → option_map instruction_of said ≡ decode_of pc packed → decode_of pc word ≡ Some (instruction_of d) → said ≡ Some d
only_said pc packed word said d is read says =
    by said (read ∙ (ap (decode_of pc) (is ∙ packed_back pc word (instruction_of d) says) ∙ says))
  where
    by : (o : Option Decoded) → option_map instruction_of o ≡ Some (instruction_of d) → o ≡ Some d
    by None h = absurd (cc)
    by (Some x) h =
        let same : instruction_of x ≡ instruction_of d = cc in
        let parts : x ≡ d = ap whole same in
        ap (λ y. Some y) parts

pub returns-in_default-clause-none : goal.returns-in_default-clause-none
returns-in_default-clause-none c = λ none word small says.
    let d : Decoded = c.args.decoded.now in
    let said : c.decode.result ≡ Some d =
    only_said c.args.pc c.packed-word.result word c.decode.result d c.packed-word.ensures c.decode.ensures says in
    let is : c.decode.result ≡ Some c.in-Some.said = c.in-Some.is in
    let same : c.in-Some.said ≡ d = cc in
    let wrong = c.if-is_same.ensures.no same in
    absurd (cc)

pub returns-in_default-2-clause-none : goal.returns-in_default-2-clause-none
returns-in_default-2-clause-none c = λ none word small says.
    let d : Decoded = c.args.decoded.now in
    let said : c.decode.result ≡ Some d =
    only_said c.args.pc c.packed-word.result word c.decode.result d c.packed-word.ensures c.decode.ensures says in
    let is = c.in_default.is in
    absurd (cc)

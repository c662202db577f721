-- A word of each operation: all its registers are 0.
use Rattle.std.proofs.Common.{refl, lit<}
use Rattle.std.specs.Int.{w16}
use Rattle.instructions.specs.declared.op.Op.TheVariants.{Addu, Subu, Add, Sub, And, Or, Xor, Nor, Slt, Sltu, Sll, Srl, Sra, Sllv, Srlv, Srav}
use Rattle.instructions.specs.declared.op.Op.TheVariants.{Mult, Multu, Div, Divu, Mflo, Mfhi, Mtlo, Mthi}
use Rattle.instructions.specs.declared.op.Op.TheVariants.{Addiu, Addi, Slti, Sltiu, Andi, Ori, Xori, Lui, Lb, Lbu, Lh, Lhu, Lw, Sb, Sh, Sw}
use Rattle.instructions.specs.declared.op.Op.TheVariants.{Beq, Bne, Blez, Bgtz, Bltz, Bgez, J, Jal, Jr, Jalr, Break}
use Rattle.instructions.specs.Operations.{extended}
use Rattle.encoding.specs.Layouts.{operation_of}
use Rattle.encoding.specs.Words.{instruction, branch_target, region_target, read, decode}
use Rattle.encoding.specs.Laws.{EachOperationHasAWord}

pub each_has_a_word : EachOperationHasAWord
unfolding decode operation_of read
each_has_a_word Addu pc = record { word = 33; fits = lit< tt; says = instruction Addu 0 0 0 0; is = refl; of = refl }
each_has_a_word Subu pc = record { word = 35; fits = lit< tt; says = instruction Subu 0 0 0 0; is = refl; of = refl }
each_has_a_word Add pc = record { word = 32; fits = lit< tt; says = instruction Add 0 0 0 0; is = refl; of = refl }
each_has_a_word Sub pc = record { word = 34; fits = lit< tt; says = instruction Sub 0 0 0 0; is = refl; of = refl }
each_has_a_word And pc = record { word = 36; fits = lit< tt; says = instruction And 0 0 0 0; is = refl; of = refl }
each_has_a_word Or pc = record { word = 37; fits = lit< tt; says = instruction Or 0 0 0 0; is = refl; of = refl }
each_has_a_word Xor pc = record { word = 38; fits = lit< tt; says = instruction Xor 0 0 0 0; is = refl; of = refl }
each_has_a_word Nor pc = record { word = 39; fits = lit< tt; says = instruction Nor 0 0 0 0; is = refl; of = refl }
each_has_a_word Slt pc = record { word = 42; fits = lit< tt; says = instruction Slt 0 0 0 0; is = refl; of = refl }
each_has_a_word Sltu pc = record { word = 43; fits = lit< tt; says = instruction Sltu 0 0 0 0; is = refl; of = refl }
each_has_a_word Sll pc = record { word = 0; fits = lit< tt; says = instruction Sll 0 0 0 0; is = refl; of = refl }
each_has_a_word Srl pc = record { word = 2; fits = lit< tt; says = instruction Srl 0 0 0 0; is = refl; of = refl }
each_has_a_word Sra pc = record { word = 3; fits = lit< tt; says = instruction Sra 0 0 0 0; is = refl; of = refl }
each_has_a_word Sllv pc = record { word = 4; fits = lit< tt; says = instruction Sllv 0 0 0 0; is = refl; of = refl }
each_has_a_word Srlv pc = record { word = 6; fits = lit< tt; says = instruction Srlv 0 0 0 0; is = refl; of = refl }
each_has_a_word Srav pc = record { word = 7; fits = lit< tt; says = instruction Srav 0 0 0 0; is = refl; of = refl }
each_has_a_word Mult pc = record { word = 24; fits = lit< tt; says = instruction Mult 0 0 0 0; is = refl; of = refl }
each_has_a_word Multu pc = record { word = 25; fits = lit< tt; says = instruction Multu 0 0 0 0; is = refl; of = refl }
each_has_a_word Div pc = record { word = 26; fits = lit< tt; says = instruction Div 0 0 0 0; is = refl; of = refl }
each_has_a_word Divu pc = record { word = 27; fits = lit< tt; says = instruction Divu 0 0 0 0; is = refl; of = refl }
each_has_a_word Mflo pc = record { word = 18; fits = lit< tt; says = instruction Mflo 0 32 0 0; is = refl; of = refl }
each_has_a_word Mfhi pc = record { word = 16; fits = lit< tt; says = instruction Mfhi 0 33 0 0; is = refl; of = refl }
each_has_a_word Mtlo pc = record { word = 19; fits = lit< tt; says = instruction Mtlo 32 0 0 0; is = refl; of = refl }
each_has_a_word Mthi pc = record { word = 17; fits = lit< tt; says = instruction Mthi 33 0 0 0; is = refl; of = refl }
each_has_a_word Addiu pc = record { word = 603979776; fits = lit< tt; says = instruction Addiu 0 0 0 (extended w16 0); is = refl; of = refl }
each_has_a_word Addi pc = record { word = 536870912; fits = lit< tt; says = instruction Addi 0 0 0 (extended w16 0); is = refl; of = refl }
each_has_a_word Slti pc = record { word = 671088640; fits = lit< tt; says = instruction Slti 0 0 0 (extended w16 0); is = refl; of = refl }
each_has_a_word Sltiu pc = record { word = 738197504; fits = lit< tt; says = instruction Sltiu 0 0 0 (extended w16 0); is = refl; of = refl }
each_has_a_word Andi pc = record { word = 805306368; fits = lit< tt; says = instruction Andi 0 0 0 0; is = refl; of = refl }
each_has_a_word Ori pc = record { word = 872415232; fits = lit< tt; says = instruction Ori 0 0 0 0; is = refl; of = refl }
each_has_a_word Xori pc = record { word = 939524096; fits = lit< tt; says = instruction Xori 0 0 0 0; is = refl; of = refl }
each_has_a_word Lui pc = record { word = 1006632960; fits = lit< tt; says = instruction Lui 0 0 0 0; is = refl; of = refl }
each_has_a_word Lb pc = record { word = 2147483648; fits = lit< tt; says = instruction Lb 0 0 0 (extended w16 0); is = refl; of = refl }
each_has_a_word Lbu pc = record { word = 2415919104; fits = lit< tt; says = instruction Lbu 0 0 0 (extended w16 0); is = refl; of = refl }
each_has_a_word Lh pc = record { word = 2214592512; fits = lit< tt; says = instruction Lh 0 0 0 (extended w16 0); is = refl; of = refl }
each_has_a_word Lhu pc = record { word = 2483027968; fits = lit< tt; says = instruction Lhu 0 0 0 (extended w16 0); is = refl; of = refl }
each_has_a_word Lw pc = record { word = 2348810240; fits = lit< tt; says = instruction Lw 0 0 0 (extended w16 0); is = refl; of = refl }
each_has_a_word Sb pc = record { word = 2684354560; fits = lit< tt; says = instruction Sb 0 0 0 (extended w16 0); is = refl; of = refl }
each_has_a_word Sh pc = record { word = 2751463424; fits = lit< tt; says = instruction Sh 0 0 0 (extended w16 0); is = refl; of = refl }
each_has_a_word Sw pc = record { word = 2885681152; fits = lit< tt; says = instruction Sw 0 0 0 (extended w16 0); is = refl; of = refl }
each_has_a_word Beq pc = record { word = 268435456; fits = lit< tt; says = instruction Beq 0 0 0 (branch_target pc 268435456); is = refl; of = refl }
each_has_a_word Bne pc = record { word = 335544320; fits = lit< tt; says = instruction Bne 0 0 0 (branch_target pc 335544320); is = refl; of = refl }
each_has_a_word Blez pc = record { word = 402653184; fits = lit< tt; says = instruction Blez 0 0 0 (branch_target pc 402653184); is = refl; of = refl }
each_has_a_word Bgtz pc = record { word = 469762048; fits = lit< tt; says = instruction Bgtz 0 0 0 (branch_target pc 469762048); is = refl; of = refl }
each_has_a_word Bltz pc = record { word = 67108864; fits = lit< tt; says = instruction Bltz 0 0 0 (branch_target pc 67108864); is = refl; of = refl }
each_has_a_word Bgez pc = record { word = 67174400; fits = lit< tt; says = instruction Bgez 0 0 0 (branch_target pc 67174400); is = refl; of = refl }
each_has_a_word J pc = record { word = 134217728; fits = lit< tt; says = instruction J 0 0 0 (region_target pc 134217728); is = refl; of = refl }
each_has_a_word Jal pc = record { word = 201326592; fits = lit< tt; says = instruction Jal 31 0 0 (region_target pc 201326592); is = refl; of = refl }
each_has_a_word Jr pc = record { word = 8; fits = lit< tt; says = instruction Jr 0 0 0 0; is = refl; of = refl }
each_has_a_word Jalr pc = record { word = 9; fits = lit< tt; says = instruction Jalr 0 0 0 0; is = refl; of = refl }
each_has_a_word Break pc = record { word = 13; fits = lit< tt; says = instruction Break 0 0 0 0; is = refl; of = refl }

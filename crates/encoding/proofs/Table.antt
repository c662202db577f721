-- What the table of layouts says of an operation that is found.
use Rattle.std.proofs.Common.{◌≡◌, ℕ, ◌/◌, ◌%◌, ◌^◌, ◌==◌, ◌&&◌, Bool, true, false, cond, List, [], ◌∷◌, Some, refl, ap, ◌∙◌, sym}
use Rattle.std.specs.List.{find}
use Rattle.std.proofs.lemmas.Bool.{eqb-true}
use Rattle.instructions.specs.declared.op.Op.{Op}
use Rattle.instructions.specs.declared.op.Op.TheVariants.{Addu, Subu, Add, Sub, And, Or, Xor, Nor, Slt, Sltu, Sll, Srl, Sra, Sllv, Srlv, Srav}
use Rattle.instructions.specs.declared.op.Op.TheVariants.{Mult, Multu, Div, Divu, Mflo, Mfhi, Mtlo, Mthi}
use Rattle.instructions.specs.declared.op.Op.TheVariants.{Addiu, Addi, Slti, Sltiu, Andi, Ori, Xori, Lui, Lb, Lbu, Lh, Lhu, Lw, Sb, Sh, Sw}
use Rattle.instructions.specs.declared.op.Op.TheVariants.{Beq, Bne, Blez, Bgtz, Bltz, Bgez, J, Jal, Jr, Jalr, Break}
use Rattle.encoding.specs.declared.layout.Shape.{Shape}
use Rattle.encoding.specs.declared.layout.Shape.TheVariants.{ThreeRegisters, ShiftByAmount, ShiftByRegister, TwoRegisters, MoveFrom, MoveTo, JumpRegister, LinkRegister, Bare}
use Rattle.encoding.specs.Fields.{opcode_of, select_of, funct_of}
use Rattle.instructions.specs.Instruction.{operations}
use Rattle.encoding.specs.Layouts.{layout, has_layout, operation_of}

-- what is found passes the test
found : {X : Type 0} (test : X → Bool) (xs : List X) (x : X) → find test xs ≡ Some x → test x ≡ true
found test [] x h = absurd (cc)
found test (y ∷ ys) x h = by (test y) refl (found test ys x) h
  where
    by : (b : Bool) → test y ≡ b → (find test ys ≡ Some x → test x ≡ true) → cond b (Some y) (find test ys) ≡ Some x → test x ≡ true
    by true e rest g = let same : y ≡ x = cc in ap test (sym same) ∙ e
    by false e rest g = rest g

both : (a b : Bool) → (a && b) ≡ true → (a ≡ true) × (b ≡ true)
both true true h = (refl, refl)
both true false h = absurd (cc)
both false b h = absurd (cc)

-- an operation that is found has the opcode and the selecting field of the word
pub record Matches (op : Op) (w : ℕ) : Type 0 where
  pub opcode : (layout op).opcode ≡ opcode_of w
  pub select : (layout op).select ≡ select_of w

pub operation_matches : (w : ℕ) (op : Op) → operation_of w ≡ Some op → Matches op w
unfolding operation_of
operation_matches w op h =
    let test : has_layout (opcode_of w) (select_of w) op ≡ true = found (has_layout (opcode_of w) (select_of w)) operations op h in
    let two : (((layout op).opcode == opcode_of w) ≡ true) × (((layout op).select == select_of w) ≡ true) = both _ _ test in
    record { opcode = eqb-true _ _ two.0; select = eqb-true _ _ two.1 }

-- the function field selects
abbrev pub by_function : Shape → Bool
by_function ThreeRegisters = true
by_function ShiftByAmount = true
by_function ShiftByRegister = true
by_function TwoRegisters = true
by_function MoveFrom = true
by_function MoveTo = true
by_function JumpRegister = true
by_function LinkRegister = true
by_function Bare = true
by_function _ = false

-- then the opcode is 0
special : (op : Op) → by_function (layout op).shape ≡ true → (layout op).opcode ≡ 0
special Addu h = refl
special Subu h = refl
special Add h = refl
special Sub h = refl
special And h = refl
special Or h = refl
special Xor h = refl
special Nor h = refl
special Slt h = refl
special Sltu h = refl
special Sll h = refl
special Srl h = refl
special Sra h = refl
special Sllv h = refl
special Srlv h = refl
special Srav h = refl
special Mult h = refl
special Multu h = refl
special Div h = refl
special Divu h = refl
special Mflo h = refl
special Mfhi h = refl
special Mtlo h = refl
special Mthi h = refl
special Addiu h = absurd (cc)
special Addi h = absurd (cc)
special Slti h = absurd (cc)
special Sltiu h = absurd (cc)
special Andi h = absurd (cc)
special Ori h = absurd (cc)
special Xori h = absurd (cc)
special Lui h = absurd (cc)
special Lb h = absurd (cc)
special Lbu h = absurd (cc)
special Lh h = absurd (cc)
special Lhu h = absurd (cc)
special Lw h = absurd (cc)
special Sb h = absurd (cc)
special Sh h = absurd (cc)
special Sw h = absurd (cc)
special Beq h = absurd (cc)
special Bne h = absurd (cc)
special Blez h = absurd (cc)
special Bgtz h = absurd (cc)
special Bltz h = absurd (cc)
special Bgez h = absurd (cc)
special J h = absurd (cc)
special Jal h = absurd (cc)
special Jr h = refl
special Jalr h = refl
special Break h = refl

pub select_is_function : (w : ℕ) (op : Op) → Matches op w → by_function (layout op).shape ≡ true → (layout op).select ≡ funct_of w
select_is_function w op m h =
    let zero : opcode_of w ≡ 0 = sym m.opcode ∙ special op h in
    m.select ∙ ap (λ n. cond (n == 0) (funct_of w) (cond (n == 1) (w / 2 ^ 16 % 32) 0)) zero

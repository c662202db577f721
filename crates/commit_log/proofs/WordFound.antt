-- The word of an instruction is the word that says it.
use Rattle.std.proofs.Common.{◌≡◌, ◌≢◌, ℕ, ◌^◌, ◌<◌, ◌&&◌, Bool, true, false, cond, eqb-true, ltb-true, Option, Some, None, refl, sym, ap, ◌∙◌}
use Rattle.std.proofs.lemmas.Bool.{eq-eqb, lt-ltb}
use Rattle.std.specs.List.{find}
use Rattle.std.specs.Prelude.{IfSome, IsNone}
use Rattle.instructions.specs.declared.op.Op.{Op}
use Rattle.instructions.specs.declared.op.Op.TheVariants.{Addu, Subu, Add, Sub, And, Or, Xor, Nor, Slt, Sltu, Sll, Srl, Sra, Sllv, Srlv, Srav}
use Rattle.instructions.specs.declared.op.Op.TheVariants.{Mult, Multu, Div, Divu, Mflo, Mfhi, Mtlo, Mthi}
use Rattle.instructions.specs.declared.op.Op.TheVariants.{Addiu, Addi, Slti, Sltiu, Andi, Ori, Xori, Lui, Lb, Lbu, Lh, Lhu, Lw, Sb, Sh, Sw}
use Rattle.instructions.specs.declared.op.Op.TheVariants.{Beq, Bne, Blez, Bgtz, Bltz, Bgez, J, Jal, Jr, Jalr, Break}
use Rattle.instructions.specs.declared.instr.Instr.{Instr}
use Rattle.inorder.proofs.Pairs.{and_left, and_right}
use Rattle.instructions.specs.Instruction.{operations}
use Rattle.encoding.specs.Layouts.{has_layout, layout}
use Rattle.encoding.specs.Words.{decode, packed}
use Rattle.encoding.proofs.Rebuilt.{packed_back}
use Rattle.commit_log.specs.Words.{AWordSaysItsInstruction, IsWordOf, is_said, are_equal, says, word_of}

-- an operation is found again by its opcode and what selects it
found_again : (op : Op) → find (has_layout (layout op).opcode (layout op).select) operations ≡ Some op
found_again Addu = refl
found_again Subu = refl
found_again Add = refl
found_again Sub = refl
found_again And = refl
found_again Or = refl
found_again Xor = refl
found_again Nor = refl
found_again Slt = refl
found_again Sltu = refl
found_again Sll = refl
found_again Srl = refl
found_again Sra = refl
found_again Sllv = refl
found_again Srlv = refl
found_again Srav = refl
found_again Mult = refl
found_again Multu = refl
found_again Div = refl
found_again Divu = refl
found_again Mflo = refl
found_again Mfhi = refl
found_again Mtlo = refl
found_again Mthi = refl
found_again Addiu = refl
found_again Addi = refl
found_again Slti = refl
found_again Sltiu = refl
found_again Andi = refl
found_again Ori = refl
found_again Xori = refl
found_again Lui = refl
found_again Lb = refl
found_again Lbu = refl
found_again Lh = refl
found_again Lhu = refl
found_again Lw = refl
found_again Sb = refl
found_again Sh = refl
found_again Sw = refl
found_again Beq = refl
found_again Bne = refl
found_again Blez = refl
found_again Bgtz = refl
found_again Bltz = refl
found_again Bgez = refl
found_again J = refl
found_again Jal = refl
found_again Jr = refl
found_again Jalr = refl
found_again Break = refl

same_op : (a b : Op) → has_layout (layout b).opcode (layout b).select a ≡ true → a ≡ b
same_op a b h =
    let opcode : (layout a).opcode ≡ (layout b).opcode = eqb-true _ _ (and_left _ _ h) in
    let select : (layout a).select ≡ (layout b).select = eqb-true _ _ (and_right _ _ h) in
    let found : ◌≡◌ {A = Option Op} (Some a) (Some b) =
    sym (found_again a) ∙ ap (λ o. find (has_layout o (layout a).select) operations) opcode
    ∙ ap (λ s. find (has_layout (layout b).opcode s) operations) select ∙ found_again b
    in
    cc found

is_same_self : (i : Instr) → are_equal i i ≡ true
is_same_self i =
    rw (
      eq-eqb (layout i.op).opcode (layout i.op).opcode refl,
      eq-eqb (layout i.op).select (layout i.op).select refl,
      eq-eqb i.target i.target refl,
      eq-eqb i.first i.first refl,
      eq-eqb i.second i.second refl,
      eq-eqb i.number i.number refl,
    ) refl

same_is : (i j : Instr) → are_equal i j ≡ true → i ≡ j
same_is i j h =
    let op : i.op ≡ j.op = same_op i.op j.op (and_left _ _ h) in
    let rest = and_right _ _ h in
    let target : i.target ≡ j.target = eqb-true _ _ (and_left _ _ rest) in
    let more = and_right _ _ rest in
    let first : i.first ≡ j.first = eqb-true _ _ (and_left _ _ more) in
    let last = and_right _ _ more in
    let second : i.second ≡ j.second = eqb-true _ _ (and_left _ _ last) in
    let number : i.number ≡ j.number = eqb-true _ _ (and_right _ _ last) in
    ap (λ x. record i { op = x }) op
    ∙ ap (λ x. record i { op = j.op; target = x }) target
    ∙ ap (λ x. record i { op = j.op; target = j.target; first = x }) first
    ∙ ap (λ x. record i { op = j.op; target = j.target; first = j.first; second = x }) second
    ∙ ap (λ x. record j { number = x }) number

said_is : (i : Instr) (o : Option Instr) → is_said i o ≡ true → o ≡ Some i
said_is i None h = absurd (cc)
said_is i (Some j) h = ap Some (same_is j i h)

-- a word that says an instruction is said to do so
says_so : (pc word : ℕ) (i : Instr) → word < 2 ^ 32 → decode pc word ≡ Some i → says pc word i ≡ true
says_so pc word i l s = rw (lt-ltb word (2 ^ 32) l, s) (is_same_self i)

pub word_found : (pc : ℕ) (i : Instr) (r : Option ℕ) → IfSome r (λ w. decode pc w ≡ Some i) → IfSome r (λ w. w < 2 ^ 32) →
    (IsNone r → (w : ℕ) → w < 2 ^ 32 → decode pc w ≢ Some i) → r ≡ word_of pc i
unfolding word_of
word_found pc i (Some w) s l n =
    let e : packed pc i ≡ w = packed_back pc w i s in
    rw (e, says_so pc w i l s) refl
word_found pc i None s l n = go (says pc (packed pc i) i) refl
  where
    go : (b : Bool) → says pc (packed pc i) i ≡ b → None ≡ cond b (Some (packed pc i)) None
    go true t = absurd (n refl (packed pc i) (ltb-true _ _ (and_left _ _ t)) (said_is i (decode pc (packed pc i)) (and_right _ _ t)))
    go false t = refl

pub the_words : AWordSaysItsInstruction
unfolding word_of
the_words pc i = go (says pc (packed pc i) i) refl
  where
    is : (b : Bool) → says pc (packed pc i) i ≡ b → word_of pc i ≡ cond b (Some (packed pc i)) None
    is b t = ap (λ x. cond x (Some (packed pc i)) None) t

    go : (b : Bool) → says pc (packed pc i) i ≡ b → IsWordOf pc i
    go true t = record {
      some = λ word e.
          let same : packed pc i ≡ word = let f = is true t in cc (sym f ∙ e) in
          Rattle.std.proofs.Common.subst (λ w. (w < 2 ^ 32) × (decode pc w ≡ Some i)) same
          (ltb-true _ _ (and_left _ _ t), said_is i (decode pc (packed pc i)) (and_right _ _ t));
      none = λ e. let f = is true t in absurd (cc (sym f ∙ e));
    }
    go false t = record {
      some = λ word e. let f = is false t in absurd (cc (sym f ∙ e));
      none = λ e word l s.
          let same : packed pc i ≡ word = packed_back pc word i s in
          let yes : says pc (packed pc i) i ≡ true = rw same (says_so pc word i l s) in
          absurd (cc (sym t ∙ yes));
    }

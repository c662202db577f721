-- A word is rebuilt from the instruction that it says.
use Rattle.std.proofs.Common.{◌≡◌, ℕ, ◌+◌, ◌*◌, ◌/◌, ◌%◌, ◌^◌, ◌==◌, ◌&&◌, Bool, true, false, Option, Some, None, refl, arith, ap, subst, ◌∙◌, sym}
use Rattle.std.proofs.lemmas.Bool.{eqb-true}
use Rattle.std.specs.Int.{w16}
use Rattle.instructions.specs.declared.op.Op.{Op}
use Rattle.instructions.specs.declared.instr.Instr.{Instr}
use Rattle.instructions.specs.Operations.{extended}
use Rattle.encoding.specs.declared.layout.Shape.{Shape}
use Rattle.encoding.specs.declared.layout.Shape.TheVariants.{ThreeRegisters, ShiftByAmount, ShiftByRegister, TwoRegisters, MoveFrom, MoveTo, JumpRegister, LinkRegister, Bare, SignedHalf}
use Rattle.encoding.specs.declared.layout.Shape.TheVariants.{UnsignedHalf, UpperHalf, Store, BranchOnTwo, BranchOnOne, Region}
use Rattle.encoding.specs.Fields.{opcode_of, rs_of, rt_of, rd_of, shift_of, funct_of, immediate_of}
use Rattle.encoding.specs.Layouts.{layout, operation_of}
use Rattle.encoding.specs.Words.{only_if, read, decode_as, decode, written, packed, registers, immediate}
use Rattle.encoding.specs.Laws.{OneWordForEachInstruction}
use Rattle.encoding.proofs.Halves.{all_fields, immediate_is, half_small, extended_half, distance_back, index_back, opcode_and_index}
use Rattle.encoding.proofs.Table.{Matches, by_function, operation_matches, select_is_function}

-- an instruction is of the operation, and gives the word back
pub record Rebuilds (shape : Shape) (select : ℕ) (op : Op) (pc w : ℕ) (i : Instr) : Type 0 where
  pub op_is : i.op ≡ op
  pub word_is : opcode_of w * 2 ^ 26 + written shape select pc i ≡ w

-- what holds where the fields fit holds of what was read
carry : (P : Instr → Type 0) (fits : Bool) (x i : Instr) → (fits ≡ true → P x) → only_if fits x ≡ Some i → P i
carry P true x i given h = let same : x ≡ i = cc in subst P same (given refl)
carry P false x i given h = absurd (cc)

-- fields that are 0, or known
by_fields : (w rs rt rd shift function : ℕ) → rs_of w ≡ rs → rt_of w ≡ rt → rd_of w ≡ rd → shift_of w ≡ shift
    → function ≡ funct_of w → opcode_of w * 2 ^ 26 + registers rs rt rd shift function ≡ w
by_fields w rs rt rd shift function a b c d e =
    let same : registers rs rt rd shift function ≡ registers (rs_of w) (rt_of w) (rd_of w) (shift_of w) (funct_of w) = cc in
    ap (λ n. opcode_of w * 2 ^ 26 + n) same ∙ all_fields w

three_zero : (w : ℕ) → w / 2 ^ 6 % 2 ^ 15 ≡ 0 → (rt_of w ≡ 0) × (rd_of w ≡ 0) × (shift_of w ≡ 0)
three_zero w h = (omega arith, omega arith, omega arith)

low_zero : (w : ℕ) → w / 2 ^ 6 % 2 ^ 10 ≡ 0 → (rd_of w ≡ 0) × (shift_of w ≡ 0)
low_zero w h = (omega arith, omega arith)

high_zero : (w : ℕ) → w / 2 ^ 16 % 2 ^ 10 ≡ 0 → (rs_of w ≡ 0) × (rt_of w ≡ 0)
high_zero w h = (omega arith, omega arith)

four_zero : (w : ℕ) → w / 2 ^ 6 % 2 ^ 20 ≡ 0 → (rs_of w ≡ 0) × (rt_of w ≡ 0) × (rd_of w ≡ 0) × (shift_of w ≡ 0)
four_zero w h = (omega arith, omega arith, omega arith, omega arith)

both : (a b : Bool) → (a && b) ≡ true → (a ≡ true) × (b ≡ true)
both true true h = (refl, refl)
both true false h = absurd (cc)
both false b h = absurd (cc)

half_again : (w : ℕ) → immediate_of w % 2 ^ 16 ≡ immediate_of w
half_again w = omega arith

signed_again : (w : ℕ) → extended w16 (immediate_of w) % 2 ^ 16 ≡ immediate_of w
signed_again w = extended_half (immediate_of w) (half_small w)

shift_again : (w : ℕ) → shift_of w % 32 ≡ shift_of w
shift_again w = omega arith

-- with rs or rt that is known
immediate_with : (w rs rt n : ℕ) → rs_of w ≡ rs → rt_of w ≡ rt → n % 2 ^ 16 ≡ immediate_of w → opcode_of w * 2 ^ 26 + immediate rs rt n ≡ w
immediate_with w rs rt n a b e =
    let same : immediate rs rt n ≡ immediate (rs_of w) (rt_of w) n = cc in
    ap (λ k. opcode_of w * 2 ^ 26 + k) same ∙ immediate_is w n e

rt_again : (w select : ℕ) → rt_of w ≡ select → rt_of w ≡ select % 32
rt_again w select h = omega arith

pub rebuilt : (shape : Shape) (select : ℕ) (op : Op) (pc w : ℕ) (i : Instr)
    → (by_function shape ≡ true → select ≡ funct_of w)
    → read shape select op pc w ≡ Some i → Rebuilds shape select op pc w i
unfolding read written
rebuilt ThreeRegisters select op pc w i f h =
    carry (Rebuilds ThreeRegisters select op pc w) (shift_of w == 0) _ i
    (λ e. record { op_is = refl; word_is = by_fields w _ _ _ 0 select refl refl refl (eqb-true _ _ e) (f refl) }) h
rebuilt ShiftByAmount select op pc w i f h =
    carry (Rebuilds ShiftByAmount select op pc w) (rs_of w == 0) _ i
    (λ e. record { op_is = refl; word_is = by_fields w 0 _ _ _ select (eqb-true _ _ e) refl refl (sym (shift_again w)) (f refl) }) h
rebuilt ShiftByRegister select op pc w i f h =
    carry (Rebuilds ShiftByRegister select op pc w) (shift_of w == 0) _ i
    (λ e. record { op_is = refl; word_is = by_fields w _ _ _ 0 select refl refl refl (eqb-true _ _ e) (f refl) }) h
rebuilt TwoRegisters select op pc w i f h =
    carry (Rebuilds TwoRegisters select op pc w) (w / 2 ^ 6 % 2 ^ 10 == 0) _ i
    (λ e. let z = low_zero w (eqb-true _ _ e) in
    record { op_is = refl; word_is = by_fields w _ _ 0 0 select refl refl z.0 z.1 (f refl) }) h
rebuilt MoveFrom select op pc w i f h =
    carry (Rebuilds MoveFrom select op pc w) ((w / 2 ^ 16 % 2 ^ 10 == 0) && (shift_of w == 0)) _ i
    (λ e. let two = both (w / 2 ^ 16 % 2 ^ 10 == 0) (shift_of w == 0) e in let z = high_zero w (eqb-true _ _ two.0) in
    record { op_is = refl; word_is = by_fields w 0 0 _ 0 select z.0 z.1 refl (eqb-true _ _ two.1) (f refl) }) h
rebuilt MoveTo select op pc w i f h =
    carry (Rebuilds MoveTo select op pc w) (w / 2 ^ 6 % 2 ^ 15 == 0) _ i
    (λ e. let z = three_zero w (eqb-true _ _ e) in
    record { op_is = refl; word_is = by_fields w _ 0 0 0 select refl z.0 z.1 z.2 (f refl) }) h
rebuilt JumpRegister select op pc w i f h =
    carry (Rebuilds JumpRegister select op pc w) (w / 2 ^ 6 % 2 ^ 15 == 0) _ i
    (λ e. let z = three_zero w (eqb-true _ _ e) in
    record { op_is = refl; word_is = by_fields w _ 0 0 0 select refl z.0 z.1 z.2 (f refl) }) h
rebuilt LinkRegister select op pc w i f h =
    carry (Rebuilds LinkRegister select op pc w) ((rt_of w == 0) && (shift_of w == 0)) _ i
    (λ e. let two = both (rt_of w == 0) (shift_of w == 0) e in
    record { op_is = refl; word_is = by_fields w _ 0 _ 0 select refl (eqb-true _ _ two.0) refl (eqb-true _ _ two.1) (f refl) }) h
rebuilt Bare select op pc w i f h =
    carry (Rebuilds Bare select op pc w) (w / 2 ^ 6 % 2 ^ 20 == 0) _ i
    (λ e. let z = four_zero w (eqb-true _ _ e) in
    record { op_is = refl; word_is = by_fields w 0 0 0 0 select z.0 z.1 z.2 z.3 (f refl) }) h
rebuilt SignedHalf select op pc w i f h =
    carry (Rebuilds SignedHalf select op pc w) true _ i
    (λ e. record { op_is = refl; word_is = immediate_with w _ _ _ refl refl (signed_again w) }) h
rebuilt UnsignedHalf select op pc w i f h =
    carry (Rebuilds UnsignedHalf select op pc w) true _ i
    (λ e. record { op_is = refl; word_is = immediate_with w _ _ _ refl refl (half_again w) }) h
rebuilt UpperHalf select op pc w i f h =
    carry (Rebuilds UpperHalf select op pc w) (rs_of w == 0) _ i
    (λ e. record { op_is = refl; word_is = immediate_with w 0 _ _ (eqb-true _ _ e) refl (half_again w) }) h
rebuilt Store select op pc w i f h =
    carry (Rebuilds Store select op pc w) true _ i
    (λ e. record { op_is = refl; word_is = immediate_with w _ _ _ refl refl (signed_again w) }) h
rebuilt BranchOnTwo select op pc w i f h =
    carry (Rebuilds BranchOnTwo select op pc w) true _ i
    (λ e. record { op_is = refl; word_is = immediate_with w _ _ _ refl refl (distance_back pc w) }) h
rebuilt BranchOnOne select op pc w i f h =
    carry (Rebuilds BranchOnOne select op pc w) (rt_of w == select) _ i
    (λ e. record { op_is = refl; word_is = immediate_with w _ _ _ refl (rt_again w select (eqb-true _ _ e)) (distance_back pc w) }) h
rebuilt Region select op pc w i f h =
    carry (Rebuilds Region select op pc w) true _ i
    (λ e. record { op_is = refl; word_is = ap (λ n. opcode_of w * 2 ^ 26 + n) (index_back pc w) ∙ opcode_and_index w }) h

-- the word of an instruction is the packed one
pub packed_back : (pc w : ℕ) (i : Instr) → decode pc w ≡ Some i → packed pc i ≡ w
unfolding decode
packed_back pc w i h = at (operation_of w) refl h
  where
    at : (o : Option Op) → operation_of w ≡ o → decode_as pc w o ≡ Some i → packed pc i ≡ w
    at None e g = absurd (cc)
    at (Some op) e g =
        let m : Matches op w = operation_matches w op e in
        let r : Rebuilds (layout op).shape (layout op).select op pc w i = rebuilt (layout op).shape (layout op).select op pc w i (select_is_function w op m) g in
        ap (λ o. (layout o).opcode * 2 ^ 26 + written (layout o).shape (layout o).select pc i) r.op_is
        ∙ (ap (λ n. n * 2 ^ 26 + written (layout op).shape (layout op).select pc i) m.opcode ∙ r.word_is)

pub one_word : OneWordForEachInstruction
one_word pc word other i h g = sym (packed_back pc word i h) ∙ packed_back pc other i g

-- What a word says can be written in a listing.
use Rattle.std.proofs.Common.{◌≡◌, ℕ, ◌-◌, ◌/◌, ◌%◌, ◌^◌, ◌≤◌, ◌<◌, Bool, true, false, Option, Some, None, refl, arith, inl, inr, subst, le-ltb}
use Rattle.std.specs.Int.{w16}
use Rattle.std.proofs.lemmas.Bool.{cases_lt, lt-ltb}
use Rattle.instructions.specs.declared.op.Op.{Op}
use Rattle.instructions.specs.declared.op.Op.TheVariants.{Addu, Subu, Add, Sub, And, Or, Xor, Nor, Slt, Sltu, Sll, Srl, Sra, Sllv, Srlv, Srav}
use Rattle.instructions.specs.declared.op.Op.TheVariants.{Mult, Multu, Div, Divu, Mflo, Mfhi, Mtlo, Mthi}
use Rattle.instructions.specs.declared.op.Op.TheVariants.{Addiu, Addi, Slti, Sltiu, Andi, Ori, Xori, Lui, Lb, Lbu, Lh, Lhu, Lw, Sb, Sh, Sw}
use Rattle.instructions.specs.declared.op.Op.TheVariants.{Beq, Bne, Blez, Bgtz, Bltz, Bgez, J, Jal, Jr, Jalr, Break}
use Rattle.instructions.specs.declared.instr.Instr.{Instr}
use Rattle.instructions.specs.Operations.{extended}
use Rattle.isa.specs.InstrText.{IsWritable, IsSignedHalf}
use Rattle.encoding.specs.Fields.{shift_of, immediate_of}
use Rattle.encoding.specs.Layouts.{layout, operation_of}
use Rattle.encoding.specs.Words.{branch_target, region_target, only_if, read, decode, decode_as}
use Rattle.encoding.specs.Laws.{EachWordIsWritten}

r : (n : ℕ) → n % 32 < 32
r n = omega arith

shift_fits : (w : ℕ) → shift_of w ≤ 31
shift_fits w = omega arith

half_fits : (w : ℕ) → immediate_of w ≤ 65535
half_fits w = omega arith

extended_low : (h : ℕ) → h < 2 ^ 15 → extended w16 h ≡ h
extended_low h small = rw (lt-ltb h (2 ^ 15) small) refl

extended_high : (h : ℕ) → 2 ^ 15 ≤ h → h < 2 ^ 16 → extended w16 h ≡ 2 ^ 32 - (2 ^ 16 - h)
extended_high h large small = rw (le-ltb h (2 ^ 15) large) (omega arith)

signed_half : (h : ℕ) → h < 2 ^ 16 → IsSignedHalf (extended w16 h)
signed_half h small = elim (cases_lt h (2 ^ 15)) [
  | inl low ↦ rw (extended_low h low) (inl (omega arith))
  | inr high ↦ rw (extended_high h high small) (inr (omega arith, omega arith))
]

signed_fits : (w : ℕ) → IsSignedHalf (extended w16 (immediate_of w))
signed_fits w = signed_half (immediate_of w) (omega arith)

branch_fits : (pc w : ℕ) → branch_target pc w < 2 ^ 32
branch_fits pc w = omega arith

region_fits : (pc w : ℕ) → region_target pc w < 2 ^ 32
region_fits pc w = omega arith

from_some : (x i : Instr) → IsWritable x → Some x ≡ Some i → IsWritable i
from_some x i w h = let same : x ≡ i = cc in subst IsWritable same w

from_if : (b : Bool) (x i : Instr) → IsWritable x → only_if b x ≡ Some i → IsWritable i
from_if true x i w h = from_some x i w h
from_if false x i w h = absurd (cc)

of_op : (op : Op) (pc w : ℕ) (i : Instr) → read (layout op).shape (layout op).select op pc w ≡ Some i → IsWritable i
unfolding read
of_op Addu pc w i h = from_if _ _ i (record { fits = (r (w / 2 ^ 11), (r (w / 2 ^ 21), (r (w / 2 ^ 16), tt))); whole = refl }) h
of_op Subu pc w i h = from_if _ _ i (record { fits = (r (w / 2 ^ 11), (r (w / 2 ^ 21), (r (w / 2 ^ 16), tt))); whole = refl }) h
of_op Add pc w i h = from_if _ _ i (record { fits = (r (w / 2 ^ 11), (r (w / 2 ^ 21), (r (w / 2 ^ 16), tt))); whole = refl }) h
of_op Sub pc w i h = from_if _ _ i (record { fits = (r (w / 2 ^ 11), (r (w / 2 ^ 21), (r (w / 2 ^ 16), tt))); whole = refl }) h
of_op And pc w i h = from_if _ _ i (record { fits = (r (w / 2 ^ 11), (r (w / 2 ^ 21), (r (w / 2 ^ 16), tt))); whole = refl }) h
of_op Or pc w i h = from_if _ _ i (record { fits = (r (w / 2 ^ 11), (r (w / 2 ^ 21), (r (w / 2 ^ 16), tt))); whole = refl }) h
of_op Xor pc w i h = from_if _ _ i (record { fits = (r (w / 2 ^ 11), (r (w / 2 ^ 21), (r (w / 2 ^ 16), tt))); whole = refl }) h
of_op Nor pc w i h = from_if _ _ i (record { fits = (r (w / 2 ^ 11), (r (w / 2 ^ 21), (r (w / 2 ^ 16), tt))); whole = refl }) h
of_op Slt pc w i h = from_if _ _ i (record { fits = (r (w / 2 ^ 11), (r (w / 2 ^ 21), (r (w / 2 ^ 16), tt))); whole = refl }) h
of_op Sltu pc w i h = from_if _ _ i (record { fits = (r (w / 2 ^ 11), (r (w / 2 ^ 21), (r (w / 2 ^ 16), tt))); whole = refl }) h
of_op Sll pc w i h = from_if _ _ i (record { fits = (r (w / 2 ^ 11), (r (w / 2 ^ 16), (shift_fits w, tt))); whole = refl }) h
of_op Srl pc w i h = from_if _ _ i (record { fits = (r (w / 2 ^ 11), (r (w / 2 ^ 16), (shift_fits w, tt))); whole = refl }) h
of_op Sra pc w i h = from_if _ _ i (record { fits = (r (w / 2 ^ 11), (r (w / 2 ^ 16), (shift_fits w, tt))); whole = refl }) h
of_op Sllv pc w i h = from_if _ _ i (record { fits = (r (w / 2 ^ 11), (r (w / 2 ^ 16), (r (w / 2 ^ 21), tt))); whole = refl }) h
of_op Srlv pc w i h = from_if _ _ i (record { fits = (r (w / 2 ^ 11), (r (w / 2 ^ 16), (r (w / 2 ^ 21), tt))); whole = refl }) h
of_op Srav pc w i h = from_if _ _ i (record { fits = (r (w / 2 ^ 11), (r (w / 2 ^ 16), (r (w / 2 ^ 21), tt))); whole = refl }) h
of_op Mult pc w i h = from_if _ _ i (record { fits = (r (w / 2 ^ 21), (r (w / 2 ^ 16), tt)); whole = refl }) h
of_op Multu pc w i h = from_if _ _ i (record { fits = (r (w / 2 ^ 21), (r (w / 2 ^ 16), tt)); whole = refl }) h
of_op Div pc w i h = from_if _ _ i (record { fits = (r (w / 2 ^ 21), (r (w / 2 ^ 16), tt)); whole = refl }) h
of_op Divu pc w i h = from_if _ _ i (record { fits = (r (w / 2 ^ 21), (r (w / 2 ^ 16), tt)); whole = refl }) h
of_op Mflo pc w i h = from_if _ _ i (record { fits = (r (w / 2 ^ 11), tt); whole = refl }) h
of_op Mfhi pc w i h = from_if _ _ i (record { fits = (r (w / 2 ^ 11), tt); whole = refl }) h
of_op Mtlo pc w i h = from_if _ _ i (record { fits = (r (w / 2 ^ 21), tt); whole = refl }) h
of_op Mthi pc w i h = from_if _ _ i (record { fits = (r (w / 2 ^ 21), tt); whole = refl }) h
of_op Addiu pc w i h = from_some _ i (record { fits = (r (w / 2 ^ 16), (r (w / 2 ^ 21), (signed_fits w, tt))); whole = refl }) h
of_op Addi pc w i h = from_some _ i (record { fits = (r (w / 2 ^ 16), (r (w / 2 ^ 21), (signed_fits w, tt))); whole = refl }) h
of_op Slti pc w i h = from_some _ i (record { fits = (r (w / 2 ^ 16), (r (w / 2 ^ 21), (signed_fits w, tt))); whole = refl }) h
of_op Sltiu pc w i h = from_some _ i (record { fits = (r (w / 2 ^ 16), (r (w / 2 ^ 21), (signed_fits w, tt))); whole = refl }) h
of_op Andi pc w i h = from_some _ i (record { fits = (r (w / 2 ^ 16), (r (w / 2 ^ 21), (half_fits w, tt))); whole = refl }) h
of_op Ori pc w i h = from_some _ i (record { fits = (r (w / 2 ^ 16), (r (w / 2 ^ 21), (half_fits w, tt))); whole = refl }) h
of_op Xori pc w i h = from_some _ i (record { fits = (r (w / 2 ^ 16), (r (w / 2 ^ 21), (half_fits w, tt))); whole = refl }) h
of_op Lui pc w i h = from_if _ _ i (record { fits = (r (w / 2 ^ 16), (half_fits w, tt)); whole = refl }) h
of_op Lb pc w i h = from_some _ i (record { fits = (r (w / 2 ^ 16), ((signed_fits w, r (w / 2 ^ 21)), tt)); whole = refl }) h
of_op Lbu pc w i h = from_some _ i (record { fits = (r (w / 2 ^ 16), ((signed_fits w, r (w / 2 ^ 21)), tt)); whole = refl }) h
of_op Lh pc w i h = from_some _ i (record { fits = (r (w / 2 ^ 16), ((signed_fits w, r (w / 2 ^ 21)), tt)); whole = refl }) h
of_op Lhu pc w i h = from_some _ i (record { fits = (r (w / 2 ^ 16), ((signed_fits w, r (w / 2 ^ 21)), tt)); whole = refl }) h
of_op Lw pc w i h = from_some _ i (record { fits = (r (w / 2 ^ 16), ((signed_fits w, r (w / 2 ^ 21)), tt)); whole = refl }) h
of_op Sb pc w i h = from_some _ i (record { fits = (r (w / 2 ^ 16), ((signed_fits w, r (w / 2 ^ 21)), tt)); whole = refl }) h
of_op Sh pc w i h = from_some _ i (record { fits = (r (w / 2 ^ 16), ((signed_fits w, r (w / 2 ^ 21)), tt)); whole = refl }) h
of_op Sw pc w i h = from_some _ i (record { fits = (r (w / 2 ^ 16), ((signed_fits w, r (w / 2 ^ 21)), tt)); whole = refl }) h
of_op Beq pc w i h = from_some _ i (record { fits = (r (w / 2 ^ 21), (r (w / 2 ^ 16), (branch_fits pc w, tt))); whole = (refl, refl) }) h
of_op Bne pc w i h = from_some _ i (record { fits = (r (w / 2 ^ 21), (r (w / 2 ^ 16), (branch_fits pc w, tt))); whole = (refl, refl) }) h
of_op Blez pc w i h = from_if _ _ i (record { fits = (r (w / 2 ^ 21), (branch_fits pc w, tt)); whole = (refl, refl) }) h
of_op Bgtz pc w i h = from_if _ _ i (record { fits = (r (w / 2 ^ 21), (branch_fits pc w, tt)); whole = (refl, refl) }) h
of_op Bltz pc w i h = from_if _ _ i (record { fits = (r (w / 2 ^ 21), (branch_fits pc w, tt)); whole = (refl, refl) }) h
of_op Bgez pc w i h = from_if _ _ i (record { fits = (r (w / 2 ^ 21), (branch_fits pc w, tt)); whole = (refl, refl) }) h
of_op J pc w i h = from_some _ i (record { fits = (region_fits pc w, tt); whole = (refl, refl) }) h
of_op Jal pc w i h = from_some _ i (record { fits = (region_fits pc w, tt); whole = (refl, refl) }) h
of_op Jr pc w i h = from_if _ _ i (record { fits = (r (w / 2 ^ 21), tt); whole = refl }) h
of_op Jalr pc w i h = from_if _ _ i (record { fits = (r (w / 2 ^ 11), (r (w / 2 ^ 21), tt)); whole = refl }) h
of_op Break pc w i h = from_if _ _ i (record { fits = tt; whole = refl }) h

pub each_is_written : EachWordIsWritten
unfolding decode
each_is_written pc w i h = by (operation_of w) h
  where
    by : (found : Option Op) → decode_as pc w found ≡ Some i → IsWritable i
    by None g = absurd (cc)
    by (Some op) g = of_op op pc w i g

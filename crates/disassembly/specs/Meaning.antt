-- The instructions that the words of a text mean.
use Rattle.std.specs.Prelude.{ℕ, zero, suc, ◌+◌, ◌%◌, ◌==◌, ◌&&◌, Bool, true, false, not, nat_lt, nat_le, List, [], ◌∷◌, ◌++◌, length, slice_get, slice_index, Option, Some, None, Result, Ok, Err, if◌then◌else◌}
use Rattle.instructions.specs.declared.op.Op.{Op}
use Rattle.instructions.specs.declared.op.Kind.{Kind}
use Rattle.instructions.specs.declared.op.Kind.TheVariants.{Jumps, Links}
use Rattle.instructions.specs.declared.instr.Instr.{Instr}
use Rattle.instructions.specs.Instruction.{kind}
use Rattle.instructions.specs.Targets.{names_target}
use Rattle.instructions.specs.Programs.{text_start, address}
use Rattle.encoding.specs.Words.{decode}
use Rattle.disassembly.specs.declared.refusal.Refusal.{Refusal}
use Rattle.disassembly.specs.declared.refusal.Refusal.TheVariants.{Word, Target, Slot, NoSlot}
use Rattle.disassembly.specs.Foreign.{foreign_of}

-- whether operations of a kind have a delay slot, the word after them: branches and jumps do
abbrev pub has_slot_by : Kind → Bool
has_slot_by Jumps = true
has_slot_by Links = true
has_slot_by _ = false

-- whether an operation has a delay slot
abbrev pub has_slot : Op → Bool
has_slot op = has_slot_by (kind op)

-- whether an address is that of one of n instructions
abbrev pub is_inside : ℕ → ℕ → Bool
is_inside n target = (target % 4 == 0) && (nat_le text_start target && nat_lt target (address n))

-- An instruction at an address, with the word after it. A delay slot has to be a `nop`, which is the word 0, since
-- nothing is done there.
abbrev pub with_delay_slot : (at word : ℕ) → Instr → Option ℕ → Result Instr Refusal
with_delay_slot at word i None = Err (NoSlot at word)
with_delay_slot at word i (Some next) = if next == 0 then Ok i else Err (Slot (at + 4) next)

-- instruction k of a text, if its target and its delay slot are allowed
abbrev pub checked : List ℕ → ℕ → Instr → Result Instr Refusal
checked words k i =
    if names_target i.op && not (is_inside (length words) i.number)
    then Err (Target (address k) (slice_index words k) i.number)
    else (if has_slot i.op
    then with_delay_slot (address k) (slice_index words k) i (slice_get words (k + 1))
    else Ok i)

-- instruction k of a text, checked, where the word is one; another word is refused with its address
abbrev pub checked_if : List ℕ → ℕ → Option Instr → Result Instr Refusal
checked_if words k None =
    Err (Word (address k) (slice_index words k) (foreign_of (slice_index words k)))
checked_if words k (Some i) = checked words k i

-- the instruction that word k of a text is
abbrev pub meant : List ℕ → ℕ → Result Instr Refusal
meant words k = checked_if words k (decode (address k) (slice_index words k))

-- an instruction after others; the first refusal decides
abbrev pub appended : List Instr → Result Instr Refusal → Result (List Instr) Refusal
appended is (Ok i) = Ok (is ++ i ∷ [])
appended is (Err refusal) = Err refusal

-- the instructions before word n, with that of word n after them
abbrev pub with_next : List ℕ → ℕ → Result (List Instr) Refusal → Result (List Instr) Refusal
with_next words k (Ok is) = appended is (meant words k)
with_next words k (Err refusal) = Err refusal

-- the instructions that the first n words of a text are
unfoldable pub meant_up_to : List ℕ → ℕ → Result (List Instr) Refusal
meant_up_to words zero = Ok []
meant_up_to words (suc n) = with_next words n (meant_up_to words n)

-- the refusal of a word, if it is refused
abbrev pub refusal_list : Result Instr Refusal → List Refusal
refusal_list (Ok i) = []
refusal_list (Err refusal) = refusal ∷ []

-- the refusals of the first n words of a text, in their order
unfoldable pub refusals_up_to : List ℕ → ℕ → List Refusal
refusals_up_to words zero = []
refusals_up_to words (suc n) = refusals_up_to words n ++ refusal_list (meant words n)

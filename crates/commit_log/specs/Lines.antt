-- The lines of the log: a commit has the line that Spike, the simulator of RISC-V, writes of one.
use Rattle.std.specs.Prelude.{ℕ, ◌/◌, ◌%◌, ◌==◌, nat_lt, Bool, true, false, List, [], ◌∷◌, ◌++◌, Option, Some, None, codes, decimal, slice_index, if◌then◌else◌}
use Rattle.instructions.specs.Endings.{stop_word}
use Rattle.instructions.specs.Instruction.{destination, is_pair, kind, second_of, width}
use Rattle.instructions.specs.Registers.{hi, lo}
use Rattle.instructions.specs.declared.instr.Instr.{Instr}
use Rattle.instructions.specs.declared.op.Half.TheVariants.{Low}
use Rattle.instructions.specs.declared.op.Kind.{Kind}
use Rattle.instructions.specs.declared.op.Kind.TheVariants.{Loads, Stores}
use Rattle.instructions.specs.declared.stop.Stop.{Stop}
use Rattle.instructions.specs.declared.stop.Stop.TheVariants.{OutOfRange, Unaligned}
use Rattle.inorder.specs.Machine.{State}
use Rattle.isa.specs.InstrText.{instr_text}
use Rattle.isa.specs.Report.{hex_digit, hexadecimal, newline}
use Rattle.commit_log.specs.Hashes.{hash_of, hash_text}
use Rattle.commit_log.specs.Words.{word_of}

-- ---- parts

-- the beginning of each line: the core, its mode and the pc
abbrev pub head : ℕ → List ℕ
head pc = codes "core   0: 3 " ++ (hexadecimal pc ++ codes " ")

-- the word of an instruction, or as many dashes
abbrev pub word_column : Option ℕ → List ℕ
word_column None = codes "----------"
word_column (Some word) = hexadecimal word

-- a general register in three columns, and LO and HI as Spike writes its control registers: with number and name
abbrev pub register_column : ℕ → List ℕ
register_column r =
    if r == lo then codes "c32_lo"
    else (if r == hi then codes "c33_hi"
    else (if nat_lt r 10 then codes "x" ++ (decimal r ++ codes " ") else codes "x" ++ decimal r))

-- a register with its value
abbrev pub register_with_value : ℕ → List ℕ → List ℕ
register_with_value r registers =
    codes " " ++ (register_column r ++ (codes " " ++ hexadecimal (slice_index registers r)))

-- an address that is loaded from or stored to
abbrev pub address_text : ℕ → List ℕ
address_text address = codes " mem " ++ hexadecimal address

-- the two digits of the low byte of a number
abbrev pub byte_text : ℕ → List ℕ
byte_text v = hex_digit (v / 16 % 16) ∷ hex_digit (v % 16) ∷ []

-- the low bytes of a number, as many as are stored, the highest first
abbrev pub stored_text : (width : ℕ) → ℕ → List ℕ
stored_text width v =
    if width == 1 then codes "0x" ++ byte_text v
    else (if width == 2 then codes "0x" ++ (byte_text (v / 256) ++ byte_text v)
    else hexadecimal v)

-- ---- changes by an instruction

-- the change of a register; none of register 0, which never changes
abbrev pub change_of_register : (r : ℕ) → List ℕ → List ℕ
change_of_register r registers = if r == 0 then [] else register_with_value r registers

-- the address of a store, and the bytes that it writes
abbrev pub store_text : Instr → (address : ℕ) → List ℕ → List ℕ
store_text i address registers =
    address_text address
    ++ (codes " " ++ stored_text (width i.op) (slice_index registers (second_of i)))

-- the change by an instruction that writes at most one register
abbrev pub change_of_kind : Kind → Instr → (address : ℕ) → List ℕ → List ℕ
change_of_kind Stores i address registers = store_text i address registers
change_of_kind Loads i address registers =
    change_of_register (destination i Low) registers ++ address_text address
change_of_kind _ i address registers = change_of_register (destination i Low) registers

-- the change by a multiplication or division, which writes LO and HI
abbrev pub change_if : Bool → Instr → (address : ℕ) → List ℕ → List ℕ
change_if true i address registers = register_with_value lo registers ++ register_with_value hi registers
change_if false i address registers = change_of_kind (kind i.op) i address registers

-- the change by an instruction, by the registers after it
abbrev pub change : Instr → (address : ℕ) → List ℕ → List ℕ
change i address registers = change_if (is_pair i.op) i address registers

-- ---- lines

-- the text of an instruction, if it is wanted
abbrev pub text_part : Bool → Instr → List ℕ
text_part true i = codes " # " ++ instr_text i
text_part false i = []

-- the line of an instruction at pc, with or without its text, by the registers after it
abbrev pub commit_line : (text : Bool) → (pc : ℕ) → Instr → (address : ℕ) → List ℕ → List ℕ
commit_line text pc i address registers =
    head pc
    ++ (codes "(" ++ (word_column (word_of pc i) ++ (codes ")"
    ++ (change i address registers ++ (text_part text i ++ newline)))))

-- the line of the hash of a state
abbrev pub hash_line : State → List ℕ
hash_line s =
    head s.pc
    ++ (codes "count " ++ (decimal s.count
    ++ (codes " hash " ++ (hash_text (hash_of s.registers s.memory) ++ newline))))

-- the address of an access that is refused
abbrev pub refused_address : Stop → (address : ℕ) → List ℕ
refused_address Unaligned address = codes " " ++ hexadecimal address
refused_address OutOfRange address = codes " " ++ hexadecimal address
refused_address _ address = []

-- the line of a stop at pc
abbrev pub stop_line : (pc : ℕ) → Stop → (address : ℕ) → List ℕ
stop_line pc c address =
    head pc ++ (codes "stop " ++ (stop_word c ++ (refused_address c address ++ newline)))

-- the last line of a run that has reached its limit
abbrev pub limit_line : (pc : ℕ) → List ℕ
limit_line pc = head pc ++ (codes "limit" ++ newline)

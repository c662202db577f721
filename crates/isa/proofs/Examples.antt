-- Operands and listings at the edges, computed by the definitions.
use Rattle.std.proofs.Common.{◌≡◌, [], ◌∷◌, ◌++◌, Ok, Err, refl}
use Rattle.std.specs.Prelude.{codes}
use Rattle.lexical.specs.Label.{labels_of, statement_of}
use Rattle.lexical.specs.Operand.{operands, parenthesized}
use Rattle.lexical.specs.Number.{number_in, decimal_in, magnitude, decimal, numeral}
use Rattle.instructions.specs.declared.op.Op.TheVariants.{J, Jalr, Sll, Break}
use Rattle.isa.specs.declared.listing.fault.FaultKind.TheVariants.{NotAscii, UnknownOp, BadRegister, BadNumber, BadOperands, UnknownLabel, DoubleLabel}
use Rattle.isa.specs.RegisterNames.{register, register_number}
use Rattle.isa.specs.Operands.{number, offset_and_register}
use Rattle.isa.specs.Forms.{is_operation, form_with}
use Rattle.isa.specs.Statement.{statement, with_operands, instruction, filled, fill, space, words}
use Rattle.isa.specs.Listing.{listing, table, numbered, memory, fault_in, first_fault, resolved}

-- ---- registers

register_with_blank : register (codes "$ 1") ≡ Err BadRegister
unfolding register register_number decimal_in decimal numeral
register_with_blank = refl

register_in_upper_case : register (codes "$SP") ≡ Err BadRegister
unfolding register register_number decimal_in decimal numeral
register_in_upper_case = refl

register_with_leading_zero : register (codes "$00") ≡ Err BadRegister
unfolding register register_number decimal_in decimal numeral
register_with_leading_zero = refl

register_above : register (codes "$32") ≡ Err BadRegister
unfolding register register_number decimal_in decimal numeral
register_above = refl

register_last : register (codes "$31") ≡ Ok 31
unfolding register register_number decimal_in decimal numeral
register_last = refl

register_frame_pointer : register (codes "$s8") ≡ Ok 30
unfolding register register_number decimal_in decimal numeral
register_frame_pointer = refl

no_register : register (codes "4") ≡ Err BadOperands
unfolding register
no_register = refl

-- ---- offsets

offset_left_out : offset_and_register (codes "( $sp )") ≡ Ok (0, 29)
unfolding offset_and_register parenthesized register register_number decimal_in decimal numeral
offset_left_out = refl

offset_below : offset_and_register (codes "-4($2)") ≡ Ok (0xfffffffc, 2)
unfolding offset_and_register parenthesized number number_in magnitude register register_number decimal_in decimal numeral
offset_below = refl

offset_before_register : offset_and_register (codes "32768($99)") ≡ Err BadNumber
unfolding offset_and_register parenthesized number number_in magnitude register register_number decimal_in decimal numeral
offset_before_register = refl

not_closed : offset_and_register (codes "4(") ≡ Err BadOperands
unfolding offset_and_register parenthesized
not_closed = refl

something_after : offset_and_register (codes "4($0) x") ≡ Err BadOperands
unfolding offset_and_register parenthesized
something_after = refl

-- ---- listings

two_returns : listing (codes "break" ++ 13 ∷ 13 ∷ 10 ∷ []) ≡ Err (1, NotAscii)
unfolding listing fault_in first_fault
two_returns = refl

return_at_the_end : listing (codes "A:" ++ 13 ∷ []) ≡ Ok (record { code = []; bytes = [] })
unfolding listing fault_in first_fault labels_of statement_of statement table numbered memory resolved
return_at_the_end = refl

blanks : listing (codes "\tL : M:\tj\tL # x\n")
    ≡ Ok (record { code = record { op = J; target = 0; first = 0; second = 0; number = 0x00400000 } ∷ []; bytes = [] })
unfolding listing fault_in first_fault labels_of statement_of statement with_operands operands instruction is_operation form_with filled fill table numbered memory resolved
blanks = refl

nop_is_a_shift : listing (codes "NOP") ≡ Ok (record { code = record { op = Sll; target = 0; first = 0; second = 0; number = 0 } ∷ []; bytes = [] })
unfolding listing fault_in first_fault labels_of statement_of statement with_operands operands instruction is_operation form_with filled fill table numbered memory resolved
nop_is_a_shift = refl

link_register_left_out : listing (codes "jalr $0")
    ≡ Ok (record { code = record { op = Jalr; target = 31; first = 0; second = 0; number = 0 } ∷ []; bytes = [] })
unfolding listing fault_in first_fault labels_of statement_of statement with_operands operands instruction is_operation form_with filled fill register register_number decimal_in decimal numeral table
    numbered memory resolved
link_register_left_out = refl

no_label : listing (codes "a b: break") ≡ Err (1, UnknownOp)
unfolding listing fault_in first_fault labels_of statement_of statement with_operands instruction is_operation table numbered memory
no_label = refl

double_on_one_line : listing (codes "L: L: mul") ≡ Err (1, DoubleLabel)
unfolding listing fault_in first_fault labels_of statement_of table numbered
double_on_one_line = refl

unknown_label_last : listing (codes "j a\nL: L: break") ≡ Err (2, DoubleLabel)
unfolding listing fault_in first_fault labels_of statement_of statement with_operands operands instruction is_operation form_with filled fill table numbered memory
unknown_label_last = refl

count_before_operands : listing (codes "addiu 5,6") ≡ Err (1, BadOperands)
unfolding listing fault_in first_fault labels_of statement_of statement with_operands operands instruction is_operation form_with table numbered memory
count_before_operands = refl

left_operand_first : listing (codes "addiu $1,$32,x") ≡ Err (1, BadRegister)
unfolding listing fault_in first_fault labels_of statement_of statement with_operands operands instruction is_operation form_with filled fill register register_number decimal_in decimal numeral table
    numbered memory
left_operand_first = refl

after_the_text : listing (codes "j E\nE:")
    ≡ Ok (record { code = record { op = J; target = 0; first = 0; second = 0; number = 0x00400004 } ∷ []; bytes = [] })
unfolding listing fault_in first_fault labels_of statement_of statement with_operands operands instruction is_operation form_with filled fill table numbered memory resolved
after_the_text = refl

label_of_a_directive : listing (codes "nop\nE: .word -2\nj E")
    ≡ Ok (record {
      code = record { op = Sll; target = 0; first = 0; second = 0; number = 0 } ∷ record { op = J; target = 0; first = 0; second = 0; number = 0x00400004 } ∷ [];
      bytes = 0xfe ∷ 0xff ∷ 0xff ∷ 0xff ∷ [];
    })
unfolding listing fault_in first_fault labels_of statement_of statement with_operands operands instruction is_operation form_with filled fill words number number_in magnitude decimal numeral table
    numbered memory resolved
label_of_a_directive = refl

space_of_six : listing (codes ".space 6") ≡ Err (1, BadNumber)
unfolding listing fault_in first_fault labels_of statement_of statement with_operands operands space number number_in magnitude decimal numeral table numbered memory
space_of_six = refl

unknown_label : listing (codes "nop\nj away") ≡ Err (2, UnknownLabel)
unfolding listing fault_in first_fault labels_of statement_of statement with_operands operands instruction is_operation form_with filled fill table numbered memory resolved
unknown_label = refl

comment_of_any_bytes : listing (codes "break # " ++ 0x80 ∷ [])
    ≡ Ok (record { code = record { op = Break; target = 0; first = 0; second = 0; number = 0 } ∷ []; bytes = [] })
unfolding listing fault_in first_fault labels_of statement_of statement with_operands operands instruction is_operation form_with filled fill table numbered memory resolved
comment_of_any_bytes = refl

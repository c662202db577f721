-- Numbers, lines and labels at the edges, computed by the definitions.
use Rattle.std.proofs.Common.{◌≡◌, [], ◌∷◌, ◌++◌, Some, None, refl}
use Rattle.std.specs.Prelude.{codes, true, false}
use Rattle.lexical.specs.Name.{is_name, is_plain_text}
use Rattle.lexical.specs.Line.{lines_of, before_comment}
use Rattle.lexical.specs.Label.{labels_of, statement_of}
use Rattle.lexical.specs.Operand.{operands}
use Rattle.lexical.specs.Number.{number_in, decimal_in, magnitude, decimal, numeral}

-- ---- numbers

minus_zero : number_in 32768 32767 (codes "-0") ≡ Some 0
unfolding number_in magnitude decimal numeral
minus_zero = refl

minus_zero_unsigned : number_in 0 65535 (codes "-0") ≡ Some 0
unfolding number_in magnitude decimal numeral
minus_zero_unsigned = refl

minus_one_unsigned : number_in 0 65535 (codes "-1") ≡ None
unfolding number_in magnitude decimal numeral
minus_one_unsigned = refl

sign_alone : number_in 32768 32767 (codes "+") ≡ None
unfolding number_in magnitude decimal numeral
sign_alone = refl

two_signs : number_in 32768 32767 (codes "+-5") ≡ None
unfolding number_in magnitude decimal numeral
two_signs = refl

blank_inside : number_in 32768 32767 (codes "- 5") ≡ None
unfolding number_in magnitude decimal numeral
blank_inside = refl

minus_hexadecimal : number_in 32768 32767 (codes "-0X8000") ≡ Some 0xffff8000
unfolding number_in magnitude decimal numeral
minus_hexadecimal = refl

hexadecimal_cases : number_in 32768 32767 (codes "0x00aF") ≡ Some 175
unfolding number_in magnitude decimal numeral
hexadecimal_cases = refl

bare_hexadecimal : number_in 32768 32767 (codes "0x") ≡ None
unfolding number_in magnitude decimal numeral
bare_hexadecimal = refl

double_zero : number_in 32768 32767 (codes "00") ≡ None
unfolding number_in magnitude decimal numeral
double_zero = refl

leading_zero : number_in 32768 32767 (codes "010") ≡ None
unfolding number_in magnitude decimal numeral
leading_zero = refl

one_above : number_in 32768 32767 (codes "32768") ≡ None
unfolding number_in magnitude decimal numeral
one_above = refl

least_word : number_in 2147483648 4294967295 (codes "-2147483648") ≡ Some 0x80000000
unfolding number_in magnitude decimal numeral
least_word = refl

greatest_word : number_in 2147483648 4294967295 (codes "4294967295") ≡ Some 0xffffffff
unfolding number_in magnitude decimal numeral
greatest_word = refl

word_above : number_in 2147483648 4294967295 (codes "4294967296") ≡ None
unfolding number_in magnitude decimal numeral
word_above = refl

no_sign : decimal_in 31 (codes "+1") ≡ None
unfolding decimal_in decimal numeral
no_sign = refl

-- ---- lines

return_dropped : lines_of (codes "a" ++ 13 ∷ 10 ∷ []) ≡ codes "a" ∷ [] ∷ []
return_dropped = refl

one_return_dropped : lines_of (codes "a" ++ 13 ∷ 13 ∷ 10 ∷ codes "b") ≡ (codes "a" ++ 13 ∷ []) ∷ codes "b" ∷ []
one_return_dropped = refl

return_at_end : lines_of (codes "a" ++ 13 ∷ []) ≡ codes "a" ∷ []
return_at_end = refl

return_inside : lines_of (13 ∷ codes "a") ≡ (13 ∷ codes "a") ∷ []
return_inside = refl

comment_cut : before_comment (codes "a # b # c") ≡ codes "a "
comment_cut = refl

-- ---- labels, names and operands

labels_trimmed : labels_of (codes "\tL : M:\tj\tL") ≡ codes "L" ∷ codes "M" ∷ []
unfolding labels_of
labels_trimmed = refl

statement_trimmed : statement_of (codes "\tL : M:\tj\tL ") ≡ codes "j\tL"
unfolding statement_of
statement_trimmed = refl

no_name_no_label : labels_of (codes "a b: x") ≡ []
unfolding labels_of
no_name_no_label = refl

no_label_all_statement : statement_of (codes " a b: x") ≡ codes "a b: x"
unfolding statement_of
no_label_all_statement = refl

empty_name : labels_of (codes ": x") ≡ []
unfolding labels_of
empty_name = refl

dot_begins_name : is_name (codes ".L2") ≡ true
dot_begins_name = refl

digit_begins_no_name : is_name (codes "2L") ≡ false
digit_begins_no_name = refl

return_is_not_plain : is_plain_text (13 ∷ []) ≡ false
return_is_not_plain = refl

empty_part : operands (codes " \t") ≡ []
unfolding operands
empty_part = refl

comma_alone : operands (codes ",") ≡ [] ∷ [] ∷ []
unfolding operands
comma_alone = refl

blanks_round_operands : operands (codes " $1 ,\t4 ( $2 ) ") ≡ codes "$1" ∷ codes "4 ( $2 )" ∷ []
unfolding operands
blanks_round_operands = refl

use Rattle.std.proofs.Common.{◌≡◌, ◌≤◌, true, take, drop}
use Rattle.std.specs.List.{list_all}
use Rattle.std.specs.Char.{is_digit}
use Rattle.std.specs.Str.Parse.{digits_value, digits_value_after}
use Rattle.lexical.specs.Number.{capped}
use Rattle.lexical.proofs.number.numeral.Given as goal

abbrev pub invariant-loop-b : goal.invariant-loop-b
invariant-loop-b l = record {
  small : l.value ≤ 4294967296;
  digits : list_all (λ c. is_digit c l.radix) (take l.b-index l.digits) ≡ true;
  value : capped (digits_value_after l.radix l.value (drop l.b-index l.digits)) ≡ capped (digits_value l.radix l.digits);
}

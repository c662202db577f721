use Rattle.std.proofs.Common.{◌≡◌, ◌+◌, ◌++◌, ℕ, List, Option, Bor, ◌∙◌, ap, length, arith}
use Rattle.std.specs.Int.{w32, to_le_bytes}
use Rattle.std.specs.Option.{option_map}
use Rattle.std.proofs.lemmas.Result.{err_from_is_err_and}
use Rattle.std.proofs.lemmas.List.{length-append}
use Rattle.lexical.specs.Operand.{operands_left}
use Rattle.isa.proofs.Bytes.{bytes_more, bytes_fault, bytes_done}
use Rattle.isa.proofs.listing.directive.add_numbers.Goals as goal

abbrev left_of : Option (Bor (List ℕ)) → List (List ℕ)
left_of rest = operands_left (option_map (λ t. t.now) rest)

pub returns-in_err-value-clause-fault : goal.returns-in_err-value-clause-fault
returns-in_err-value-clause-fault c =
    let p = err_from_is_err_and c.from_residual.result c.from_residual.ensures.1 in
    rw (p.1, p.2) (λ _.
    bytes_fault c.args.memory.now.items c.loop-rest.memory.items (left_of c.loop-rest.rest) (left_of c.args.part) c.next_operand.result.0.now
    (left_of c.next_operand.result.1) _ (ap left_of c.in-Some.is ∙ c.next_operand.ensures.operands) c.in_err-value.ensures c.loop-rest.invariant.bytes)

pub loop-rest-preserved : goal.loop-rest-preserved
loop-rest-preserved c =
    let grown : c.extend_from_slice.new.self.items ≡ c.loop-rest.memory.items ++ to_le_bytes w32 c.in_ok-value.value =
    c.in_ok-extend_from_slice.ensures.items ∙ ap (λ (l : List ℕ). c.loop-rest.memory.items ++ l) (c.as_slice.ensures ∙ c.to_le_bytes.ensures) in
    let size : length c.extend_from_slice.new.self.items ≡ length c.loop-rest.memory.items + 4 = ap length grown ∙ length-append c.loop-rest.memory.items _ in
    record {
      aligned = λ e. let before = c.loop-rest.invariant.aligned e in omega (arith, size, before);
      bytes =
          bytes_more c.args.memory.now.items c.loop-rest.memory.items _ (left_of c.loop-rest.rest) (left_of c.args.part) c.next_operand.result.0.now
          (left_of c.next_operand.result.1) c.in_ok-value.value (ap left_of c.in-Some.is ∙ c.next_operand.ensures.operands) c.in_ok-value.ensures
          grown c.loop-rest.invariant.bytes;
    }

pub returns-clause-ok : goal.returns-clause-ok
returns-clause-ok c =
    bytes_done c.args.memory.now.items c.loop-rest.memory.items (left_of c.loop-rest.rest) (left_of c.args.part) (ap left_of c.in_default.is) c.loop-rest.invariant.bytes

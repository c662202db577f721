use Rattle.std.proofs.Common.{◌≡◌, ◌∙◌, ◌∷◌, ◌+◌, ℕ, List, Bor, Option, ap, arith, drop, length, refl, rules}
use Rattle.std.proofs.lemmas.List.{length-append}
use Rattle.std.specs.Option.{option_map}
use Rattle.lexical.specs.Line.{lines_of, lines_left}
use Rattle.isa.specs.Listing.{Lines, all_labels}
use Rattle.checker.proofs.FaultsFound.{found_all, found_most, none_found, none_more, one_more}
use Rattle.checker.proofs.LinesCounted.{few_lines, next_rest}
use Rattle.checker.proofs.faults.faults.Goals as goal

abbrev left_of : Option (Bor (List ℕ)) → Lines
left_of rest = lines_left (option_map (λ t. t.now) rest)

pub loop-rest-init : goal.loop-rest-init
loop-rest-init c = record {
  rest = refl;
  small = (omega arith, omega arith);
  few = rw c.new-found.ensures.items (omega arith);
  found = rw c.new-found.ensures.items
      (none_found _ (lines_of c.args.bytes.now) (record { names = λ name. search rules; instructions = refl; bytes = refl }));
}

pub overflow_add-number : goal.overflow_add-number
overflow_add-number c =
    let all = lines_of c.args.bytes.now in
    let left = left_of c.next_line.result.1 in
    let here : drop c.loop-rest.number all ≡ c.next_line.result.0.now ∷ left = rw (← c.loop-rest.invariant.rest, c.in-Some.is) c.next_line.ensures.lines in
    omega (arith, few_lines c.args.bytes.now left c.loop-rest.number c.next_line.result.0.now here)

pub loop-rest-preserved-in_ok-push : goal.loop-rest-preserved-in_ok-push
loop-rest-preserved-in_ok-push c =
    let all = lines_of c.args.bytes.now in
    let left = left_of c.next_line.result.1 in
    let here : drop c.loop-rest.number all ≡ c.next_line.result.0.now ∷ left = rw (← c.loop-rest.invariant.rest, c.in-Some.is) c.next_line.ensures.lines in
    let grown : length c.push.new.self.items ≡ length c.loop-rest.found.items + 1 =
    ap length c.in_ok-push.ensures.items ∙ length-append c.loop-rest.found.items _ in
    record {
      rest = next_rest all left c.loop-rest.number c.next_line.result.0.now here;
      small = c.in_ok-kind.ensures.small;
      few = omega (arith, grown, c.loop-rest.invariant.few, c.len.ensures, c.if-len-eq-MOST_FAULTS.false);
      found =
          one_more c.loop-rest.seen c.fault_of_line.new.seen c.loop-rest.found.items c.loop-rest.number _ all c.next_line.result.0.now left
          c.in_ok-kind.field-0 c.loop-rest.invariant.found (ap left_of c.in-Some.is ∙ c.next_line.ensures.lines)
          (λ s is. c.in_ok-kind.ensures.step (all_labels all) s c.in_ok-all.ensures is) c.in-Some-2.field-0 c.in-Some-2.is _
          c.in_ok-push.ensures.items;
    }

pub loop-rest-preserved : goal.loop-rest-preserved
loop-rest-preserved c =
    let all = lines_of c.args.bytes.now in
    let left = left_of c.next_line.result.1 in
    let here : drop c.loop-rest.number all ≡ c.next_line.result.0.now ∷ left = rw (← c.loop-rest.invariant.rest, c.in-Some.is) c.next_line.ensures.lines in
    record {
      rest = next_rest all left c.loop-rest.number c.next_line.result.0.now here;
      small = c.in_ok-kind.ensures.small;
      few = c.loop-rest.invariant.few;
      found =
          none_more c.loop-rest.seen c.fault_of_line.new.seen c.loop-rest.found.items c.loop-rest.number _ all c.next_line.result.0.now left
          c.in_ok-kind.field-0 c.loop-rest.invariant.found (ap left_of c.in-Some.is ∙ c.next_line.ensures.lines)
          (λ s is. c.in_ok-kind.ensures.step (all_labels all) s c.in_ok-all.ensures is) c.in_default-2.is;
    }

pub returns-then-len-eq-MOST_FAULTS : goal.returns-then-len-eq-MOST_FAULTS
returns-then-len-eq-MOST_FAULTS c =
    let many : length c.loop-rest.found.items ≡ 200 = omega (arith, c.len.ensures, c.if-len-eq-MOST_FAULTS.true) in
    found_most c.loop-rest.seen c.loop-rest.found.items c.loop-rest.number (left_of c.loop-rest.rest) (lines_of c.args.bytes.now) c.loop-rest.invariant.found 200 many

pub returns : goal.returns
returns c =
    found_all c.loop-rest.seen c.loop-rest.found.items c.loop-rest.number (left_of c.loop-rest.rest) (lines_of c.args.bytes.now) c.loop-rest.invariant.found 200 c.loop-rest.invariant.few
    (ap left_of c.in_default.is)

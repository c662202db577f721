use Rattle.std.proofs.Common.{◌≡◌, ◌∙◌, ◌-◌, ◌+◌, ◌∷◌, ap, arith, drop, refl, sym}
use Rattle.std.specs.Option.{option_map}
use Rattle.lexical.specs.Line.{lines_of, lines_left}
use Rattle.checker.specs.Warnings.{begin_with_data}
use Rattle.checker.proofs.LinesCounted.{few_lines, next_is, next_rest}
use Rattle.checker.proofs.Warned.{all_warned}
use Rattle.checker.proofs.warnings.push_lines.Goals as goal

pub overflow_add-number : goal.overflow_add-number
overflow_add-number c =
    let all = lines_of c.args.good.now.bytes.now in
    let left = lines_left (option_map (λ r. r.now) c.next_line.result.1) in
    let here : drop c.loop-rest.number all ≡ c.next_line.result.0.now ∷ left = rw (← c.loop-rest.invariant.rest, c.in-Some.is) c.next_line.ensures.lines in
    omega (arith, few_lines c.args.good.now.bytes.now left c.loop-rest.number c.next_line.result.0.now here)

pub push_labels-requires-clause-spot : goal.push_labels-requires-clause-spot
push_labels-requires-clause-spot c =
    let all = lines_of c.args.good.now.bytes.now in
    let left = lines_left (option_map (λ r. r.now) c.next_line.result.1) in
    let here : drop c.loop-rest.number all ≡ c.next_line.result.0.now ∷ left = rw (← c.loop-rest.invariant.rest, c.in-Some.is) c.next_line.ensures.lines in
    record { file = refl; line = next_is all left c.loop-rest.number c.next_line.result.0.now here }

pub push_labels-requires-clause-data : goal.push_labels-requires-clause-data
push_labels-requires-clause-data c = λ is.
    let all = lines_of c.args.good.now.bytes.now in
    let same : c.loop-rest.number + 1 - 1 ≡ c.loop-rest.number = omega arith in
    ap (λ n. begin_with_data (drop n all)) same ∙ sym (ap begin_with_data c.loop-rest.invariant.rest) ∙ sym c.loop-rest.invariant.is_data ∙ is

pub push_numbered-requires-clause-spot : goal.push_numbered-requires-clause-spot
push_numbered-requires-clause-spot c =
    let all = lines_of c.args.good.now.bytes.now in
    let left = lines_left (option_map (λ r. r.now) c.next_line.result.1) in
    let here : drop c.loop-rest.number all ≡ c.next_line.result.0.now ∷ left = rw (← c.loop-rest.invariant.rest, c.in-Some.is) c.next_line.ensures.lines in
    record { file = refl; line = next_is all left c.loop-rest.number c.next_line.result.0.now here }

pub loop-rest-preserved : goal.loop-rest-preserved
loop-rest-preserved c =
    let all = lines_of c.args.good.now.bytes.now in
    let left = lines_left (option_map (λ r. r.now) c.next_line.result.1) in
    let here : drop c.loop-rest.number all ≡ c.next_line.result.0.now ∷ left = rw (← c.loop-rest.invariant.rest, c.in-Some.is) c.next_line.ensures.lines in
    let lines : lines_left (option_map (λ r. r.now) c.loop-rest.rest) ≡ c.next_line.result.0.now ∷ left = rw c.in-Some.is c.next_line.ensures.lines in
    record {
      rest = next_rest all left c.loop-rest.number c.next_line.result.0.now here;
      is_data = c.is_data_after-is_data.ensures (c.loop-rest.invariant.is_data ∙ ap begin_with_data lines);
      warned = all_warned _ _ _ _ _ _ (all_warned _ _ _ _ _ _ c.loop-rest.invariant.warned c.in_ok-push_labels.ensures) c.in_ok-k.ensures;
    }

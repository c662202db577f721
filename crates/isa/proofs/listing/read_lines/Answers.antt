use Rattle.std.proofs.Common.{◌≢◌, ◌+◌, ◌≤◌, List, Option, Bor, ℕ, ◌∙◌, ap, refl, length, arith}
use Rattle.std.specs.Option.{option_map}
use Rattle.lexical.specs.Line.{lines_left}
use Rattle.lexical.proofs.Splits.{size_step}
use Rattle.isa.specs.declared.listing.fault.FaultKind.TheVariants.{Memory}
use Rattle.isa.specs.Listing.{Lines}
use Rattle.isa.proofs.Whole.{so_far_more, so_far_fault, so_far_done, so_far_start, no_bytes_yet}
use Rattle.isa.proofs.listing.read_lines.Goals as goal

abbrev left_of : Option (Bor (List ℕ)) → Lines
left_of rest = lines_left (option_map (λ t. t.now) rest)

pub loop-rest-init : goal.loop-rest-init
loop-rest-init c =
    let none = no_bytes_yet _ _ _ _ c.requires.nothing in
    record {
      small_code = omega (arith, none.0);
      small_memory = omega (arith, none.1);
      aligned = rw none.1 refl;
      size = omega arith;
      lines = so_far_start _ _ _ _ _ c.requires.nothing;
    }

pub loop-rest-preserved : goal.loop-rest-preserved
loop-rest-preserved c = record {
  small_code = c.in-Ok.ensures.small_code;
  small_memory = c.in-Ok.ensures.small_memory;
  aligned = c.in-Ok.ensures.aligned c.loop-rest.invariant.aligned;
  size =
      let before : c.loop-rest.number + (length c.in-Some.text.now + 1) ≤ length c.args.bytes.now + 1 = rw c.in-Some.is at c.loop-rest.invariant.size in
      omega (arith, size_step c.in-Ok.after (length c.in-Some.text.now) c.in-Ok.ensures.shorter);
  lines =
      so_far_more _ _ _ _ c.loop-rest.number _ _ c.loop-rest.invariant.lines _ _ _ _ c.in-Some.text.now (option_map (λ t. t.now) c.in-Ok.after)
      (ap left_of c.in-Some.is) c.in-Ok.ensures.ok;
}

pub returns-in-Err-clause-fault : goal.returns-in-Err-clause-fault
returns-in-Err-clause-fault c = λ apart.
    let kind_apart : c.in-Err.found.kind ≢ Memory = λ e. apart (c.fault_at-fault.ensures.kind ∙ e) in
    rw (c.fault_at-fault.ensures.line kind_apart, c.from.ensures, c.fault_at-fault.ensures.kind)
    (so_far_fault _ _ _ _ c.loop-rest.number _ _ c.loop-rest.invariant.lines c.in-Some.text.now c.in-Err.found
    (ap left_of c.in-Some.is) (c.in-Err.ensures.fault kind_apart)).0

pub returns-in-Err-clause-at : goal.returns-in-Err-clause-at
returns-in-Err-clause-at c = λ apart.
    let kind_apart : c.in-Err.found.kind ≢ Memory = λ e. apart (c.fault_at-fault.ensures.kind ∙ e) in
    rw (c.fault_at-fault.ensures.line kind_apart, c.from.ensures)
    (so_far_fault _ _ _ _ c.loop-rest.number _ _ c.loop-rest.invariant.lines c.in-Some.text.now c.in-Err.found
    (ap left_of c.in-Some.is) (c.in-Err.ensures.fault kind_apart)).1

pub returns-clause-ok : goal.returns-clause-ok
returns-clause-ok c = so_far_done _ _ _ _ c.loop-rest.number _ _ c.loop-rest.invariant.lines (ap left_of c.in_default.is)

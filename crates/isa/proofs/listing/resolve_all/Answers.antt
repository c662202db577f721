use Rattle.std.proofs.Common.{◌∙◌, ap, take, arith}
use Rattle.std.proofs.lemmas.Result.{err_from_is_err_and}
use Rattle.std.proofs.lemmas.List.{length-set, take_all}
use Rattle.isa.proofs.Rows.{given, resolved_set, resolved_fault, resolved_done}
use Rattle.isa.proofs.listing.resolve_all.Goals as goal

pub returns-in_err-code-clause-fault : goal.returns-in_err-code-clause-fault
returns-in_err-code-clause-fault c =
    let p = err_from_is_err_and c.from_residual.result c.from_residual.ensures.1 in
    rw (p.1, p.2) (
      c.in_err-code.ensures.fault.0,
      λ held are.
          resolved_fault held (take c.loop-i.i c.loop-i.code) c.loop-i.code c.args.targets.now c.loop-i.i _ (c.loop-i.invariant.so_far held are)
          c.index-code-i.result _ (omega arith) (omega arith) _ (c.in_err-code.ensures.fault.1 held are),
    )

pub loop-i-preserved : goal.loop-i-preserved
loop-i-preserved c = record {
  same_length = length-set c.loop-i.code c.loop-i.i _ ∙ c.loop-i.invariant.same_length;
  so_far = λ held are.
      resolved_set held c.loop-i.code c.args.targets.now c.loop-i.i c.index-code-i.result c.index-code-i-in-loop-i.result _ c.in_ok-code.field-0 _
      (omega arith) (omega arith) (c.in_ok-code.ensures.ok held are) (c.loop-i.invariant.so_far held are);
}

pub returns-clause-ok : goal.returns-clause-ok
returns-clause-ok c = λ held are.
    resolved_done held (take c.loop-i.i c.loop-i.code) c.loop-i.code c.args.targets.now c.loop-i.i _ (c.loop-i.invariant.so_far held are) (omega arith)
    ∙ ap given (take_all c.loop-i.i c.loop-i.code (omega arith))

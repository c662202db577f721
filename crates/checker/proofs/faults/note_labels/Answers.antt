use Rattle.std.proofs.Common.{arith}
use Rattle.lexical.specs.Label.{labels_of}
use Rattle.checker.proofs.LabelsNoted.{noted_alone, noted_more, noted_names, noted_some}
use Rattle.checker.proofs.faults.note_labels.Goals as goal

pub loop-name-preserved : goal.loop-name-preserved
loop-name-preserved c = record {
  size = omega (arith, c.in-Some.ensures.shorter, c.loop-name.invariant.size);
  noted = λ earlier are.
      rw c.or_this-double.ensures
      (noted_more c.loop-name.names earlier c.loop-name.n _ _ c.loop-name.double (c.loop-name.invariant.noted earlier are) c.note.new.names
      c.in-Some.name.now (labels_of c.in-Some.after.now) c.has_name.result c.in-Some.ensures.label c.has_name.ensures c.in_ok-note.ensures);
}

pub returns-clause-names : goal.returns-clause-names
returns-clause-names c = λ earlier are.
    noted_names c.loop-name.names earlier c.loop-name.n _ _ c.loop-name.double (c.loop-name.invariant.noted earlier are) c.in_default.ensures.no_label

pub returns-clause-some : goal.returns-clause-some
returns-clause-some c = noted_some c.args.names.now c.loop-name.names c.loop-name.n _ _ c.loop-name.double c.loop-name.invariant.noted

pub returns-clause-none : goal.returns-clause-none
returns-clause-none c =
    noted_alone c.args.names.now c.loop-name.names c.loop-name.n _ _ c.in_default.ensures.no_label c.loop-name.double c.loop-name.invariant.noted

use Rattle.std.proofs.Common.{◌+◌, ◌-◌, ap, sym, ◌∙◌, arith, drop, take}
use Rattle.front.specs.Queues.{memory_records}
use Rattle.front.proofs.PathParts.{access_more, access_same, none_back, whole_by}
use Rattle.front.proofs.needs.access_before.Goals as goal

pub returns-then-remaining-eq0 : goal.returns-then-remaining-eq0
returns-then-remaining-eq0 c = record {
  older = take (c.loop-j.j - 1) c.args.records.now;
  younger = drop c.loop-j.j c.args.records.now;
  are = whole_by c.args.records.now c.loop-j.j c.in-Some.record c.loop-j-test.true (sym c.at.ensures ∙ c.in-Some.is);
  access = c.if-record.true;
  behind = omega (arith, c.loop-j.invariant.behind, c.if-remaining-eq0.true);
}

pub loop-j-preserved-then-record : goal.loop-j-preserved-then-record
loop-j-preserved-then-record c =
    let more = access_more c.args.records.now c.loop-j.j c.in-Some.record c.loop-j-test.true (sym c.at.ensures ∙ c.in-Some.is) c.if-record.true in
    record {
      inside = omega (arith, c.loop-j.invariant.inside);
      behind = omega (arith, more, c.loop-j.invariant.behind, c.if-remaining-eq0.false);
    }

pub loop-j-preserved-else-record : goal.loop-j-preserved-else-record
loop-j-preserved-else-record c =
    let same = access_same c.args.records.now c.loop-j.j c.in-Some.record c.loop-j-test.true (sym c.at.ensures ∙ c.in-Some.is) c.if-record.false in
    record {
      inside = omega (arith, c.loop-j.invariant.inside);
      behind = ap (λ z. z + c.loop-j.remaining) same ∙ c.loop-j.invariant.behind;
    }

pub loop-j-preserved : goal.loop-j-preserved
loop-j-preserved c = record {
  inside = omega (arith, c.loop-j.invariant.inside);
  behind = ap (λ z. memory_records z + c.loop-j.remaining) (none_back c.args.records.now c.loop-j.j c.loop-j-test.true (sym c.at.ensures ∙ c.in_default.is)) ∙ c.loop-j.invariant.behind;
}

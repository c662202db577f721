use Rattle.std.proofs.Common.{take, arith}
use Rattle.std.proofs.Math.Seq.{take-add}
use Rattle.std.proofs.lemmas.Grind.{common_steps}
use Rattle.std.proofs.lemmas.List.{take_rest}
use Rattle.std.proofs.KnownBytes.{Appends-trans}
use Rattle.counted_io.proofs.output.write_whole.Goals as goal

pub writes-preserved : goal.writes-preserved
writes-preserved g c = record {
  in_range = omega (arith, c.in-Ok.ensures.bound);
  quiet = grind (arith, common_steps);
  sent = rw take-add (Appends-trans _ _ _ (take c.writes.done c.args.text.now) _ c.writes.invariant.sent (rw take_rest at c.in-Ok.ensures.bytes));
}

use Rattle.std.proofs.Common.{◌≡◌, refl, rules, subst}
use Rattle.inorder.specs.Runs.{end_state}
use Rattle.one_thread.specs.Choices.{HasRunBy}
use Rattle.bench.proofs.running.run_by.Goals as goal

pub returns-clause-chooser : goal.returns-clause-chooser
returns-clause-chooser g c =
    let bench = c.in_ok-bench.bench in
    let made = c.in_ok-bench.ensures in
    let limit : c.from.result ≡ c.args.config.now.limit = search rules in
    record {
      bench = bench;
      starts = record { program = made.program; sizes = rw (made.ring, made.queue, made.tag) refl; unit = made.fresh; predicts = made.predictor };
      runs = subst (λ n. HasRunBy g.P.Predictor.Predicts g.P.Predictor.Learns g.C.Chooser.Chooses n bench c.args.chooser.now c.run_by.new.chooser (end_state c.run_by.result)) limit c.run_by.ensures.chooser;
    }

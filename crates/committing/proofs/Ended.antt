-- The answer of a run at its end.
use Rattle.std.proofs.Common.{◌≡◌, ◌≢◌, ℕ, ◌+◌, ◌<◌, ◌≤◌, None, Option, sym, ap, subst, ◌∙◌, arith}
use Rattle.atomic_table.specs.Seated.{TableId}
use Rattle.back.specs.Backs.{TheBack, back_state}
use Rattle.back.specs.Ends.{EndIsInOrder, ending_of}
use Rattle.counts.specs.declared.tally.Tally.{Tally}
use Rattle.counts.specs.Seats.{Counter}
use Rattle.instructions.specs.declared.end.End.{End}
use Rattle.instructions.specs.declared.end.Ending.TheVariants.{Limit, Stop as ByStop}
use Rattle.instructions.specs.declared.stop.Stop.{Stop}
use Rattle.instructions.specs.Programs.{Program}
use Rattle.instructions.specs.Settings.{Settings}
use Rattle.committing.specs.declared.ends.Refusal.{Refusal}
use Rattle.committing.specs.declared.ends.Run.TheVariants.{Ended, LimitReached}
use Rattle.workers.specs.Turns.{TheTurns}
use Rattle.committing.specs.Committing.{IsCommitter, committer_of}
use Rattle.committing.specs.RunEnds.{HasRun}

module _ (P : Program) {counts : TableId} {config : Settings} {back : TheBack} {turns : TheTurns} {wanting : Option Refusal} {count : Counter} {limit : ℕ}
    (c : IsCommitter counts config (committer_of back turns wanting) count limit)
    (end : End) (tally : Tally) (in_order : EndIsInOrder P end) (n : end.n ≡ (back_state back).count) (retires : tally.retires ≡ end.n) where
  taken : end.n ≤ config.turns
  taken =
      let each = c.keeps.each_turn in
      let all = c.turns_are in
      omega (arith, each, all, n)

  -- the program has stopped
  pub ended : (code : Stop) → end.outcome ≡ ByStop code → back.ended ≢ None → HasRun P config (Ended end tally)
  ended code outcome over = record {
    right = (record { in_order = in_order; retires = retires }, subst (λ o. Rattle.committing.specs.RunEnds.IsStopEnding o) (sym outcome) tt);
    within = subst (λ m. m < config.limit) (sym n) (subst (λ l. (back_state back).count < l) c.limit_is (c.keeps.below over));
    turns = taken;
  }

  -- the program has not stopped
  pub limit_reached : end.outcome ≡ Limit → HasRun P config (LimitReached end tally)
  limit_reached outcome = record {
    right = (record { in_order = in_order; retires = retires }, outcome);
    within = subst (λ m. m ≤ config.limit) (sym n) (subst (λ l. (back_state back).count ≤ l) c.limit_is c.keeps.within);
    turns = taken;
  }

-- a back that has ended by a stop has stopped
pub has_stopped : (e : Option Stop) (code : Stop) → ending_of e ≡ ByStop code → e ≢ None
has_stopped e code is none =
    let both : Limit ≡ ByStop code = sym (ap ending_of none) ∙ is in
    cc

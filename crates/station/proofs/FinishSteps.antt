-- The writeback of a job at its points: the call that began as v has exchanged the word of its tenant by w.
use Rattle.std.proofs.Common.{◌≡◌, ◌≢◌, ℕ, List, refl, sym, subst}
use Rattle.instructions.specs.declared.stop.Outcome.{Outcome}
use Rattle.inorder.specs.declared.history.Entry.{Entry}
use Rattle.inorder.specs.Callers.{HasJob}
use Rattle.inorder.specs.Replies.{JobFields}
use Rattle.inorder.specs.Unit.{Sizes}
use Rattle.instructions.specs.Programs.{Program}
use Rattle.ruu_words.specs.Fields.{tag_of}
use Rattle.ruu_words.specs.Kinds.{Finishes}
use Rattle.ruu_words.specs.Telling.{Grows}
use Rattle.station.specs.declared.answers.Finish.TheVariants.{Finished, Stale}
use Rattle.station.specs.Answers.{AnswersFinish}
use Rattle.station.specs.Calls.{Carried, Carries, HasComeTo, TakesStep, TheCall}
use Rattle.station.specs.Carrying.{HasCarried, HasMadeOf, OfTenant}
use Rattle.station.specs.Claiming.{Holds}
use Rattle.station.specs.Seats.{TheCore}
use Rattle.station.specs.Waking.{IsSet, Wakes}
use Rattle.station.specs.Writeback.{FinishAnswers, HasTenant, job_outcome}
use Rattle.station.proofs.Calls.{before, joined}
use Rattle.station.proofs.Waking.{has_woken_none, wakes_behind, wakes_finishing}
use Rattle.station.proofs.FinishWrites.{finish_all, finish_made, finish_out, finish_stale, job_held}

-- The tenant of a job that the caller holds, by the fields of the job
pub job_tenant : (P : Program) (C : Sizes) (by : ℕ) (seen : List Entry) (outcome : Outcome) {own job : JobFields} → own ≡ job → Holds P C by seen job → outcome ≡ job_outcome P job →
    HasTenant P C seen own.station own.tag (HasJob P by own.predicted outcome)
job_tenant P C by seen outcome {own} is holds comes =
    job_held P C by seen own outcome (subst (λ (j : JobFields). Holds P C by seen j) (sym is) holds) (subst (λ (j : JobFields). outcome ≡ job_outcome P j) (sym is) comes)

module _ {v w : TheCall} {own job : JobFields} (is : own ≡ job) (outcome : Outcome) (old n : ℕ) (tag : tag_of old ≡ own.tag)
    (exchange : TakesStep v w (λ P C. Finishes P C own.station (tag_of old) outcome old n)) where
  step : Grows v.core.program v.core.sizes v.view.by v.view w.view (Finishes v.core.program v.core.sizes own.station own.tag outcome old n)
  step = subst (λ g. Grows v.core.program v.core.sizes v.view.by v.view w.view (Finishes v.core.program v.core.sizes own.station g outcome old n)) tag exchange.grows

  woken : Wakes v.core.program v.core.sizes v.view.by v.view.seen w.view.seen (λ s. ⊥)
  woken = wakes_finishing v.core.program v.core.sizes v.view.by own.station (tag_of old) old n outcome v.view w.view exchange.grows

  pub finish_fails : n ≢ old → Carried v w (AnswersFinish job Stale) (IsSet 0)
  finish_fails miss = record {
    same = exchange.same;
    reply = subst (λ (j : JobFields). FinishAnswers v.core.program v.core.sizes v.view.by v.view.seen w.view.seen j Stale) is
        (finish_stale v.core.program v.core.sizes v.view.by own.station own.tag old n outcome v.view w.view step miss);
    woken = has_woken_none v.core.program v.core.sizes v.view.by v.view.seen w.view.seen woken;
  }

  -- the exchange hit
  module _ (hit : n ≡ old) where
    pub has_outcome : HasComeTo w (own.station, own.tag) outcome
    has_outcome = subst (λ (k : TheCore). HasMadeOf k.program k.sizes w.view.seen own.station own.tag outcome) (sym exchange.same.core)
        (finish_made v.core.program v.core.sizes v.view.by own.station own.tag old n outcome v.view w.view step hit)

    pub is_finished : {y : TheCall} (set : ℕ) → outcome ≡ job_outcome v.core.program job → Carried w y (Carries (own.station, own.tag) outcome) (IsSet set) →
        Carried v y (AnswersFinish job Finished) (IsSet set)
    is_finished {y} set comes carry = record {
      same = joined exchange.same carry.same;
      reply = subst (λ (j : JobFields). FinishAnswers v.core.program v.core.sizes v.view.by v.view.seen y.view.seen j Finished) is
          (finish_all v.core.program v.core.sizes v.view.by w.view.by own.station own.tag outcome (job_outcome v.core.program own) v.view.seen w.view.seen y.view.seen
          (subst (λ (j : JobFields). outcome ≡ job_outcome v.core.program j) (sym is) comes) exchange.same.by
          (finish_out v.core.program v.core.sizes v.view.by own.station own.tag old n outcome v.view w.view step hit)
          (subst (λ (k : TheCore). OfTenant k.program k.sizes w.view.seen own.station own.tag (λ q. HasCarried k.program k.sizes w.view.by q outcome w.view.seen y.view.seen))
          exchange.same.core carry.reply));
      woken = wakes_behind v.core.program v.core.sizes v.view.by v.view.by set v.view.seen w.view.seen y.view.seen refl woken
          (before (λ z. Wakes z.0.program z.0.sizes z.1 w.view.seen y.view.seen (IsSet set)) exchange.same carry.woken);
    }

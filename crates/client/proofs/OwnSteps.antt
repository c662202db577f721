-- What each caller has added by a tenant's let, its claim and its finish.
use Rattle.std.proofs.Common.{◌≡◌, ℕ, [], ◌∷◌, ◌++◌, sym, ◌∙◌, subst}
use Rattle.instructions.specs.Programs.{Program}
use Rattle.instructions.specs.declared.stop.Outcome.{Outcome}
use Rattle.inorder.specs.declared.history.Act.TheVariants.{Claim as ClaimIt, Finish as FinishIt}
use Rattle.inorder.specs.declared.history.Event.TheVariants.{Does}
use Rattle.inorder.specs.declared.history.Step.TheVariants.{On}
use Rattle.inorder.specs.OneHistory.{Adds}
use Rattle.inorder.specs.Unit.{Sizes}
use Rattle.inorder.proofs.Histories.{adds_on}
use Rattle.station.specs.declared.answers.Claim.TheVariants.{Job as Claimed}
use Rattle.station.specs.declared.answers.Finish.{Finish}
use Rattle.station.specs.declared.answers.Finish.TheVariants.{Finished}
use Rattle.station.specs.declared.answers.Tenant.{Tenant}
use Rattle.station.specs.declared.job.Job.{Job}
use Rattle.station.specs.Claiming.{IsClaimed}
use Rattle.station.specs.Letting.{let_of}
use Rattle.station.specs.Seats.{Caller, TheCore}
use Rattle.station.specs.Writeback.{FinishAnswers, job_outcome}
use Rattle.client.specs.declared.seats.Seats.{Seats}
use Rattle.client.specs.Works.{HasClaimedAndFinished}
use Rattle.client.proofs.Gathered.{heard_before, later_on}
use Rattle.client.proofs.Way.{WasClaimed, WasFinished, WasLet}

module _ {core : TheCore} {s m : Seats} {t : Tenant} {f : Caller} (l : WasLet core s t f m) {o : Caller} {station : ℕ} {j : Job} {n : Seats} (d : WasClaimed core s m o station (Claimed j) n)
    {w : Caller} {answer : Finish} {z : Seats} (e : WasFinished core n w j answer z) where
  abbrev P : Program
  P = core.program

  abbrev C : Sizes
  C = core.sizes

  -- the front has let the tenant, and only looked and met since
  pub front_lets : Adds P C s.front.by s.front.seen z.front.seen (let_of t ∷ [])
  front_lets =
      let heard = later_on core f m.front z.front l.met.front (later_on core m.front n.front z.front d.end.front e.last.front) in
      adds_on P C s.front.by s.front.seen f.seen z.front.seen (let_of t ∷ []) [] l.lets (subst (λ i. Adds P C i f.seen z.front.seen []) l.kept.by heard.adds)

  -- the back and the other unit have only looked and met
  pub back_idles : Adds P C s.back.by s.back.seen z.back.seen []
  back_idles = (later_on core s.back m.back z.back l.met.back (later_on core m.back n.back z.back d.end.back e.last.back)).adds

  pub other_idles : Adds P C s.other.by s.other.seen z.other.seen []
  other_idles = (later_on core s.other m.other z.other l.met.other (later_on core m.other n.other z.other d.end.other e.last.other)).adds

  -- the first unit has claimed the job, has finished that job, and has only looked and met otherwise
  claimed : IsClaimed P C s.one.by s.one.seen o.seen station j
  claimed =
      let met = subst (λ i. Adds P C i s.one.seen m.one.seen []) (sym l.met.one.by_is) l.met.one.adds in
      let p = d.reply.holds.p in
      subst (λ i. IsClaimed P C i s.one.seen o.seen station j) l.met.one.by_is (record {
        station = d.reply.station;
        holds = d.reply.holds;
        adds = heard_before P C m.one.by s.one.seen m.one.seen o.seen (Does (On p ClaimIt) ∷ []) met d.reply.adds;
      })

  same_by : n.one.by ≡ s.one.by
  same_by = d.end.one.by_is ∙ (d.same.by ∙ l.met.one.by_is)

  finished : answer ≡ Finished → FinishAnswers P C s.one.by o.seen w.seen j Finished
  finished is =
      let met = subst (λ i. Adds P C i o.seen n.one.seen []) (sym d.end.one.by_is) d.end.one.adds in
      let r : FinishAnswers P C n.one.by n.one.seen w.seen j Finished = subst (λ a. FinishAnswers P C n.one.by n.one.seen w.seen j a) is e.reply in
      subst (λ i. FinishAnswers P C i o.seen w.seen j Finished) same_by (record {
        p = r.p;
        named = r.named;
        behind = r.behind;
        carried = r.carried;
        adds = heard_before P C n.one.by o.seen n.one.seen w.seen (r.behind ++ Does (On r.p FinishIt) ∷ []) met r.adds;
      })

  pub unit_works : {tag : ℕ} {outcome : Outcome} → j.tag ≡ tag → outcome ≡ job_outcome P j → answer ≡ Finished → HasClaimedAndFinished core s.one.by s.one.seen z.one.seen station tag outcome
  unit_works tag_is outcome_is is = record {
    job = j;
    tag_is = tag_is;
    outcome_is = outcome_is;
    mid = o.seen;
    claimed = claimed;
    end = w.seen;
    finished = finished is;
    idle = subst (λ i. Adds P C i w.seen z.one.seen []) (e.same.by ∙ same_by) e.last.one.adds;
  }

-- A refusal of an event is free of placing.
use Rattle.std.proofs.Common.{◌≡◌, ◌⊎◌, ℕ, List, [], ◌∷◌, ◌++◌, refl, sym, ap, ◌∙◌, subst, inl, inr, ⊎_elim}
use Rattle.std.specs.List.{AllByRecursion}
use Rattle.instructions.specs.Programs.{Program}
use Rattle.inorder.specs.declared.history.Act.TheVariants.{Claim, Deliver, Finish, Link, Load, Mend, Retire, Speculate, Squash}
use Rattle.inorder.specs.declared.history.Step.{Step as UnitStep}
use Rattle.inorder.specs.declared.history.Step.TheVariants.{Let as UnitLet, On as UnitOn, Renew}
use Rattle.inorder.specs.Legal.{Taken, reached}
use Rattle.inorder.specs.Moves.{Leads}
use Rattle.inorder.specs.Unit.{Sizes, UpdateUnit}
use Rattle.replay.specs.declared.acting.Deed.{Deed}
use Rattle.replay.specs.declared.acting.Deed.TheVariants.{Claim as ToClaim, Confirm as ToConfirm, Deliver as ToDeliver, Finish as ToFinish, Flush as ToFlush, Guess as ToGuess, Link as ToLink, Load as ToLoad, Mend as ToMend, Retire as ToRetire, Squash as ToSquash}
use Rattle.replay.specs.declared.step.Reason.TheVariants.{Let as OfLet, On as OfAct}
use Rattle.replay.specs.declared.step.Step.{Step}
use Rattle.replay.specs.declared.step.Step.TheVariants.{Let, On}
use Rattle.replay.specs.declared.unit.Unit.{Unit as Held}
use Rattle.replay.specs.Lets.{sizes_of, unit_of}
use Rattle.replay.specs.Placing.{AreAmong, HasNothingDue, IsInterleaved, IsSpoken}
use Rattle.replay.specs.Verdicts.{IsForbidden, IsForbiddenIn, IsNamed, IsWhy, turned}
use Rattle.replay.proofs.Exact.{why_forbids}
use Rattle.replay.proofs.FreeOfPlacing.{refused_freely}
use Rattle.replay.proofs.Unplaced.{quiet_before, silently_among}
use Rattle.events.specs.declared.event.Event.{Event}
use Rattle.events.specs.declared.event.Event.TheVariants.{Let as ToldLet, From as ToldFrom, Begin as ToldBegin, End as ToldEnd, Execute as ToldExecute, Read as ToldRead, Load as ToldLoad, Complete as ToldComplete, Retire as ToldRetire, Squash as ToldSquash, Mend as ToldMend, Recover as ToldRecover}
use Rattle.events.specs.declared.why.Why.{Why}
use Rattle.events.specs.declared.why.Why.TheVariants.{Let as NoLet, NoInstruction, Act as NoAct, Gone, NotLet, OtherProducer, OtherValue, NoValue, Nobody}
use Rattle.events.specs.Following.{AreTold, Follows, IsUntold}
use Rattle.events.specs.Placed.{AreMended, EachRefusalIsFreeOfPlacing, IsAgainst}
use Rattle.events.specs.Told.{AreExecution, Begins, IsExecution, IsNext, IsSquashAfter, IsTrueOf}
use Rattle.events.proofs.Follow.{append_nil, then}
use Rattle.events.proofs.Histories.{begins_empty, by_one, run_allowed, run_reached, said}

-- Steps that are told, with mends among them

record WithMends (told : List Step) (ts : List UnitStep) : Type 0 where
  pub steps : List Step
  pub mended : AreMended told steps
  pub among : AreAmong steps (by_one ts)

mend_more : (told : List Step) (p : ℕ) (steps : List Step) → AreMended told steps → AreMended told (On p ToMend ∷ steps)
mend_more [] p steps m = (tt, m)
mend_more (s ∷ ss) p steps m = inr (tt, m)

untold_more : (told : List Step) (t : UnitStep) (ts : List UnitStep) → IsUntold t → WithMends told ts → WithMends told (t ∷ ts)
untold_more told (UnitOn p (Link k)) ts untold w = record {
  steps = w.steps;
  mended = w.mended;
  among = silently_among w.steps (record { by = 0; step = UnitOn p (Link k) }) (by_one ts) tt w.among;
}
untold_more told (UnitOn p (Deliver k)) ts untold w = record {
  steps = w.steps;
  mended = w.mended;
  among = silently_among w.steps (record { by = 0; step = UnitOn p (Deliver k) }) (by_one ts) tt w.among;
}
untold_more told (UnitOn p Mend) ts untold w = record {
  steps = On p ToMend ∷ w.steps;
  mended = mend_more told p w.steps w.mended;
  among = inl (((refl, refl), refl), w.among);
}
untold_more told (UnitOn p Claim) ts untold w = absurd untold
untold_more told (UnitOn p Finish) ts untold w = absurd untold
untold_more told (UnitOn p Load) ts untold w = absurd untold
untold_more told (UnitOn p (Retire n)) ts untold w = absurd untold
untold_more told (UnitOn p Squash) ts untold w = absurd untold
untold_more told (UnitOn p (Speculate s)) ts untold w = absurd untold
untold_more told (UnitLet i p f g) ts untold w = absurd untold
untold_more told Renew ts untold w = absurd untold

with_mends : (told : List Step) (ts : List UnitStep) → AreTold told ts → WithMends told ts
with_mends [] [] a = record { steps = []; mended = tt; among = tt }
with_mends [] (t ∷ ts) a = untold_more [] t ts a.0 (with_mends [] ts a.1)
with_mends (s ∷ ss) [] a = absurd a
with_mends (s ∷ ss) (t ∷ ts) a =
    ⊎_elim
    (λ b.
    let w = with_mends ss ts b.1 in
    record { steps = s ∷ w.steps; mended = inl (refl, w.mended); among = inl ((b.0, refl), w.among) })
    (λ b. untold_more (s ∷ ss) t ts b.0 (with_mends (s ∷ ss) ts b.1))
    a

turned_on : (ss done more : List Step) → turned (turned ss done) more ≡ turned done (ss ++ more)
turned_on [] done more = refl
turned_on (s ∷ ss) done more = turned_on ss (s ∷ done) more

turned_twice : (ss : List Step) → turned (turned ss []) [] ≡ ss
turned_twice ss = turned_on ss [] [] ∙ append_nil ss

-- The step that is refused

execution_spoken : (p : ℕ) (s : Step) → IsExecution p s → IsSpoken s
execution_spoken p (On q ToClaim) e = tt
execution_spoken p (On q ToFinish) e = tt
execution_spoken p (On q ToLoad) e = tt
execution_spoken p (On q (ToGuess v)) e = tt
execution_spoken p (On q (ToLink k)) e = absurd e
execution_spoken p (On q (ToDeliver k)) e = absurd e
execution_spoken p (On q ToRetire) e = absurd e
execution_spoken p (On q ToSquash) e = absurd e
execution_spoken p (On q ToMend) e = absurd e
execution_spoken p (On q ToConfirm) e = absurd e
execution_spoken p (On q ToFlush) e = absurd e
execution_spoken p (Let i x) e = absurd e

squash_spoken : (p : ℕ) (s : Step) → IsSquashAfter p s → IsSpoken s
squash_spoken p (On q ToSquash) e = tt
squash_spoken p (On q ToClaim) e = absurd e
squash_spoken p (On q ToFinish) e = absurd e
squash_spoken p (On q ToLoad) e = absurd e
squash_spoken p (On q (ToGuess v)) e = absurd e
squash_spoken p (On q (ToLink k)) e = absurd e
squash_spoken p (On q (ToDeliver k)) e = absurd e
squash_spoken p (On q ToRetire) e = absurd e
squash_spoken p (On q ToMend) e = absurd e
squash_spoken p (On q ToConfirm) e = absurd e
squash_spoken p (On q ToFlush) e = absurd e
squash_spoken p (Let i x) e = absurd e

by_head : (s r : Step) (ss rr : List Step) → s ∷ ss ≡ r ∷ rr → IsSpoken r → IsSpoken s
by_head s r ss rr e spoken = let same : s ≡ r = cc in subst IsSpoken (sym same) spoken

not_none : (s : Step) (ss : List Step) → s ∷ ss ≡ [] → ⊥
not_none s ss e = absurd (cc)

-- no event names a link or a delivery
named_spoken : (event : Event) (s : Step) (ss : List Step) → Begins event (s ∷ ss) → IsSpoken s
named_spoken (ToldLet pc next) s ss b = ⊎_elim (λ e. absurd (not_none s ss e)) (λ l. by_head s (Let l.index l.predicted) ss [] l.is tt) b
named_spoken (ToldFrom p q) s ss b = absurd (not_none s ss b)
named_spoken (ToldBegin p) s ss b = by_head s (On p ToClaim) ss [] b tt
named_spoken (ToldEnd p x) s ss b = by_head s (On p ToFinish) ss [] b tt
named_spoken (ToldExecute p x) s ss b = execution_spoken p s b.0
named_spoken (ToldRead p x) s ss b = ⊎_elim (λ e. absurd (not_none s ss e)) (λ e. by_head s (On p ToLoad) ss [] e tt) b
named_spoken (ToldLoad p x) s ss b = execution_spoken p s b.0
named_spoken (ToldComplete p x) s ss b = execution_spoken p s b.0
named_spoken (ToldRetire who x) s ss b =
    ⊎_elim (λ e. absurd (not_none s ss e))
    (λ c.
    ⊎_elim (λ e. by_head s (On e.p ToConfirm) ss [] e.is tt)
    (λ r.
    ⊎_elim (λ e. by_head s (On r.p ToRetire) ss [] e tt) (λ e. by_head s (On r.p ToRetire) ss (On r.p ToConfirm ∷ []) e tt) r.is)
    c)
    b
named_spoken (ToldSquash who) s ss b =
    ⊎_elim (λ e. absurd (not_none s ss e))
    (λ c. ⊎_elim (λ e. by_head s (On c.p ToSquash) ss [] e tt) (λ e. by_head s (On c.p ToFlush) ss [] e tt) c.is) b
named_spoken (ToldMend p) s ss b = by_head s (On p ToMend) ss [] b tt
named_spoken (ToldRecover p) s ss b =
    ⊎_elim (λ a. squash_spoken p s a.0) (λ r. by_head s (On p ToMend) ss r.squashes r.is tt) b

record IsNoStep (w : Held) (step : Step) : Type 0 where
  pub forbidden : IsForbidden w step
  pub spoken : IsSpoken step

no_step : (w : Held) (event : Event) (told : List Step) (why : Why) (step : Step) → IsNext w (Begins event) told why → IsTrueOf w why →
    IsAgainst w why step → IsNoStep w step
no_step w event told (NoAct p deed r) step next holds is = record {
  forbidden = subst (IsForbidden w) (sym is) (why_forbids w (On p deed) (OfAct r) holds);
  spoken = subst IsSpoken (sym is) (named_spoken event (On p deed) told next);
}
no_step w event told (NoLet r) (Let i x) next holds is = record { forbidden = why_forbids w (Let i x) (OfLet r) is; spoken = tt }
no_step w event told (NoLet r) (On p deed) next holds is = absurd is
no_step w event told (NoInstruction pc) step next holds is = absurd is
no_step w event told (NotLet p) step next holds is = absurd is
no_step w event told (Gone p) step next holds is = absurd is
no_step w event told (OtherProducer p a b) step next holds is = absurd is
no_step w event told (OtherValue p v) step next holds is = absurd is
no_step w event told (NoValue p) step next holds is = absurd is
no_step w event told Nobody step next holds is = absurd is

-- The law

pub free_of_placing : EachRefusalIsFreeOfPlacing
free_of_placing u v w events event why none taken r =
    let P = u.program.now in
    let C = sizes_of u in
    let first = said u v events taken in
    let all = then u v w first.told r.told first.follows r.follows in
    let leads : Leads P C 0 _ all.steps (unit_of w) = subst (λ U. Leads P C 0 U all.steps (unit_of w)) (begins_empty u none) all.leads in
    let reaches : reached P C (by_one all.steps) ≡ unit_of w = run_reached P C all.steps ∙ leads.is in
    let m = with_mends (r.told ++ first.told) all.steps all.are in
    let placed : IsInterleaved P C (turned m.steps []) (by_one all.steps) = record {
      allowed = run_allowed P C all.steps leads.may;
      among = subst (λ ss. AreAmong ss (by_one all.steps)) (sym (turned_twice m.steps)) m.among;
    } in
    let quiet = all.due (quiet_before u none) in
    let here = subst (λ (D : Sizes). HasNothingDue P D (unit_of w)) all.sizes
    (subst (λ (Q : Program). HasNothingDue Q (sizes_of w) (unit_of w)) all.program quiet) in
    record {
      before = first.told;
      say = first.say;
      begun = r.told;
      next = r.next;
      steps = m.steps;
      mended = m.mended;
      placed = record { history = by_one all.steps; placed = placed; reaches = reaches };
      free = λ step is history.
          let n = no_step w event r.told why step r.next r.holds is in
          let never = subst (λ (D : Sizes). IsForbiddenIn P D (unit_of w) step) all.sizes
          (subst (λ (Q : Program). IsForbiddenIn Q (sizes_of w) (unit_of w) step) all.program n.forbidden) in
          refused_freely P C (turned m.steps []) step (by_one all.steps) history placed (subst (HasNothingDue P C) (sym reaches) here) n.spoken
          (subst (λ U. IsForbiddenIn P C U step) (sym reaches) never);
    }

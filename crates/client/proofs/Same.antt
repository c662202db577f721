-- Seats in one hand, of which some have seen more.
use Rattle.std.proofs.Common.{◌≡◌, ℕ, refl, sym, ◌∙◌, subst, inl, inr, ⊎_elim}
use Rattle.inorder.specs.History.{IsUnit}
use Rattle.instructions.specs.Histories.{StartsWith}
use Rattle.ruu_words.specs.declared.rule.SpareNumbers.{SpareNumbers}
use Rattle.ruu_words.specs.Views.{IsSpare}
use Rattle.station.specs.declared.answers.Claim.{Claim}
use Rattle.station.specs.declared.answers.Finish.{Finish}
use Rattle.station.specs.declared.job.Job.{Job}
use Rattle.station.specs.Claiming.{ClaimAnswers}
use Rattle.station.specs.Seats.{Caller, IsSameSeat, TheCore}
use Rattle.station.specs.Writeback.{FinishAnswers}
use Rattle.client.specs.declared.seats.Seats.{Seats}
use Rattle.client.specs.ByHand.{AreAll}
use Rattle.client.proofs.Begins.{claim_begins, finish_begins}
use Rattle.instructions.proofs.Histories.{starts_on, starts_same}

pub record GoesOn (v w : Caller) : Type 0 where
  pub core : w.core ≡ v.core
  pub by : w.by ≡ v.by
  pub begins : StartsWith w.seen v.seen

pub on : (v w : Caller) → IsSameSeat v w → StartsWith w.seen v.seen → GoesOn v w
on v w same begins = record { core = same.core; by = same.by; begins = begins }

pub stays : (v : Caller) → GoesOn v v
stays v = record { core = refl; by = refl; begins = starts_same v.seen }

pub then : (u v w : Caller) → GoesOn u v → GoesOn v w → GoesOn u w
then u v w a b = record { core = b.core ∙ a.core; by = b.by ∙ a.by; begins = starts_on u.seen v.seen w.seen a.begins b.begins }

pub same_all : (core : TheCore) (s t : Seats) → AreAll core s → GoesOn s.front t.front → GoesOn s.back t.back → GoesOn s.one t.one → GoesOn s.other t.other
    → t.one.spare ≡ s.one.spare → t.other.spare ≡ s.other.spare → AreAll core t
same_all core s t all f b o e one other = record {
  front_opened = starts_on core.opening s.front.seen t.front.seen all.front_opened f.begins;
  one_opened = starts_on core.opening s.one.seen t.one.seen all.one_opened o.begins;
  front_core = f.core ∙ all.front_core;
  back_core = b.core ∙ all.back_core;
  one_core = o.core ∙ all.one_core;
  other_core = e.core ∙ all.other_core;
  front_by = f.by ∙ all.front_by;
  back_by = b.by ∙ all.back_by;
  one_by = subst IsUnit (sym o.by) all.one_by;
  other_by = subst IsUnit (sym e.by) all.other_by;
  two = λ z. all.two (sym e.by ∙ (z ∙ o.by));
  no_third = λ n unit. ⊎_elim
      (λ z. inl (z ∙ sym o.by))
      (λ rest. inr (⊎_elim
      (λ z. inl (z ∙ sym e.by))
      (λ spare. inr (⊎_elim
      (λ h. inl (subst (λ (k : SpareNumbers). IsSpare k n) (sym one) h))
      (λ h. inr (subst (λ (k : SpareNumbers). IsSpare k n) (sym other) h))
      spare))
      rest))
      (all.no_third n unit);
}

-- One seat has seen more by its call, and the others are as they were

module _ {core : TheCore} {s : Seats} (all : AreAll core s) where
  pub front_on : {f : Caller} → IsSameSeat s.front f → StartsWith f.seen s.front.seen → AreAll core (record s { front = f })
  front_on {f} same begins = same_all core s (record s { front = f }) all (on s.front f same begins) (stays s.back) (stays s.one) (stays s.other) refl refl

  one_on : {o : Caller} → IsSameSeat s.one o → o.spare ≡ s.one.spare → StartsWith o.seen s.one.seen → AreAll core (record s { one = o })
  one_on {o} same spare begins = same_all core s (record s { one = o }) all (stays s.front) (stays s.back) (on s.one o same begins) (stays s.other) spare refl

  pub claimed_on : {o : Caller} (station : ℕ) (answer : Claim) → IsSameSeat s.one o → o.spare ≡ s.one.spare →
      ClaimAnswers core.program core.sizes s.one.by s.one.seen o.seen station answer → AreAll core (record s { one = o })
  claimed_on {o} station answer same spare reply = one_on same spare (claim_begins core.program core.sizes s.one.by s.one.seen o.seen station answer reply)

  pub finished_on : {o : Caller} (j : Job) (answer : Finish) → IsSameSeat s.one o → o.spare ≡ s.one.spare →
      FinishAnswers core.program core.sizes s.one.by s.one.seen o.seen j answer → AreAll core (record s { one = o })
  finished_on {o} j answer same spare reply = one_on same spare (finish_begins core.program core.sizes s.one.by s.one.seen o.seen j answer reply)

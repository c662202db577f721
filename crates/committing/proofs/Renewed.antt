-- A renewal in the history that the back has seen: one entry of its own, and no deed of the back.
use Rattle.std.proofs.Common.{◌≡◌, ◌+◌, suc, List, ◌∷◌, None, ◌∙◌, sym, ap, subst, arith}
use Rattle.back.specs.Backs.{TheBack, back_of, back_state, committed_in}
use Rattle.back.specs.Stills.{BackMayEnterAgain, RefusedBacksEnter, TheStillBack, still_of}
use Rattle.counts.specs.declared.tally.Total.TheVariants.{Loads}
use Rattle.inorder.specs.declared.history.Entry.{Entry}
use Rattle.inorder.specs.declared.history.Event.TheVariants.{Does}
use Rattle.inorder.specs.declared.history.Step.TheVariants.{Renew}
use Rattle.inorder.specs.History.{back as the_back, entry, front, renewals}
use Rattle.station.specs.Renewals.{IsNotRenewed, IsRenewed, Seats}
use Rattle.station.specs.Seats.{Caller, TheCore}
use Rattle.workers.specs.Deeds.{deeds}
use Rattle.workers.proofs.Deeds.{deeds_more}

-- one renewal more, and no load
pub record HasOneRenewal (old new : List Entry) : Type 0 where
  pub loads : deeds Loads the_back new ≡ deeds Loads the_back old
  pub times : renewals new ≡ renewals old + 1

pub renews_once : {core : TheCore} {old : Seats} {now : TheCore} {new : Seats} {was : List Entry} → IsRenewed core old now new → old.back.seen ≡ was → HasOneRenewal was new.back.seen
renews_once {core} {old} {now} {new} {was} w left =
    let seen : new.back.seen ≡ entry front (Does Renew) ∷ w.last = ap (λ (c : Caller). c.seen) w.first.back_is ∙ w.opening in
    let of_back = w.met.of_back in
    let more = deeds_more of_back Loads in
    subst (λ h. HasOneRenewal h new.back.seen) left (record {
      loads = (let moved = ap (λ h. deeds Loads the_back h) seen in omega (arith, moved, more));
      times = ap renewals seen ∙ (ap (λ n. suc n) of_back.one_table ∙ omega arith);
    })

-- The back has left a core, and entered one with this seat
pub record HasEntered (old new : TheBack) (seat : Caller) : Type 0 where
  pub state : back_state new ≡ back_state old
  pub by : new.by ≡ seat.by
  pub seen : new.seen ≡ seat.seen
  pub ended : new.ended ≡ None

pub entered : {old new : TheBack} {still : TheStillBack} (seat : Caller) → still ≡ still_of old → new ≡ back_of seat None still.shown → back_state new ≡ committed_in still.core still.seen →
    HasEntered old new seat
entered seat left back state = record {
  state = state ∙ ap (λ (s : TheStillBack). committed_in s.core s.seen) left;
  by = ap (λ (b : TheBack). b.by) back;
  seen = ap (λ (b : TheBack). b.seen) back;
  ended = ap (λ (b : TheBack). b.ended) back;
}

-- Without a renewal the back enters the core that it left
pub may_again : {core now : TheCore} {old new : Seats} {still : TheStillBack} (b : TheBack) → RefusedBacksEnter → IsNotRenewed core old now new → b.core ≡ core → old.back.core ≡ b.core →
    old.back.by ≡ the_back → old.back.seen ≡ b.seen → still ≡ still_of b → BackMayEnterAgain still.core still.seen new.back
may_again {core} {now} {old} {new} b law refused core_is at_core by_is seen_is left =
    let same = ap (λ (s : TheStillBack). s.core) left ∙ core_is in
    let seen = ap (λ (s : TheStillBack). s.seen) left ∙ sym seen_is in
    subst (λ (z : TheCore × List Entry). BackMayEnterAgain z.0 z.1 new.back) (λ i. (sym same i, sym seen i)) (law core now old new (at_core ∙ core_is) by_is refused)

-- The commit thread goes on: its back has seen more, committed, loaded, or gone on to another core.
use Rattle.std.proofs.Common.{◌≡◌, ℕ, ◌+◌, ◌<◌, ◌≤◌, List, None, Option, sym, ap, subst, ◌∙◌, arith}
use Rattle.atomic_table.specs.Seated.{TableId}
use Rattle.back.specs.Backs.{TheBack, back_state}
use Rattle.counts.specs.declared.tally.Total.TheVariants.{Loads, Renewals, Retires}
use Rattle.counts.specs.Reads.{HoldsAll}
use Rattle.counts.specs.Seats.{Counter}
use Rattle.counts.specs.Shares.{added_to, share_of}
use Rattle.inorder.specs.declared.history.Entry.{Entry}
use Rattle.inorder.specs.History.{back as the_back, renewals}
use Rattle.inorder.specs.Machine.{State}
use Rattle.instructions.specs.Settings.{Settings}
use Rattle.committing.specs.declared.ends.Refusal.{Refusal}
use Rattle.workers.specs.Deeds.{deeds}
use Rattle.workers.specs.Turns.{TheTurns}
use Rattle.committing.specs.Committing.{HasCounted, IsCommitter, KeepsLimit, committer_of}
use Rattle.station.specs.Renewals.{HasLooked}
use Rattle.station.specs.Seats.{Caller, TheCore}
use Rattle.committing.proofs.CommitDeeds.{HasKept, HasOneLoad, looked_on}
use Rattle.committing.proofs.Renewed.{HasEntered, HasOneRenewal}

module _ (counts : TableId) (old new : TheBack) (state : back_state new ≡ back_state old) (by : new.by ≡ old.by) where
  same_count : (back_state new).count ≡ (back_state old).count
  same_count = ap (λ (s : State). s.count) state

  -- a back that has seen more, and loaded nothing, has counted as much
  pub counted_kept : (count : Counter) → HasCounted counts old count → HasKept old.by old.seen new.seen → HasCounted counts new count
  counted_kept count c kept = record {
    of = c.of;
    all = c.all;
    retires = c.retires ∙ sym same_count;
    loads = c.loads ∙ (sym kept.loads ∙ ap (λ n. deeds Loads n new.seen) (sym by));
    all_renewals = c.all_renewals;
    renewals = c.renewals ∙ sym kept.times;
  }

  -- a back that has loaded has counted one load more
  pub counted_load : (count then : Counter) → HasCounted counts old count → HasOneLoad old.by old.seen new.seen
      → then.of ≡ counts → then.shares ≡ added_to Loads 1 count.shares → HasCounted counts new then
  counted_load count then c one of shares =
      let loads : (share_of Loads then.shares).added ≡ (share_of Loads count.shares).added + 1 = ap (λ v. (share_of Loads v).added) shares in
      let moved : deeds Loads new.by new.seen ≡ deeds Loads old.by new.seen = ap (λ n. deeds Loads n new.seen) by in
      let was = c.loads in
      let now = one.loads in
      record {
        of = of;
        all = subst (HoldsAll Retires) (sym shares) c.all;
        retires = ap (λ v. (share_of Retires v).added) shares ∙ (c.retires ∙ sym same_count);
        loads = omega (arith, loads, moved, was, now);
        all_renewals = subst (HoldsAll Renewals) (sym shares) c.all_renewals;
        renewals = ap (λ v. (share_of Renewals v).added) shares ∙ (c.renewals ∙ sym one.times);
      }

-- the core was renewed, and that was counted
pub counted_renewal : (counts : TableId) (old new : TheBack) (count then : Counter) → back_state new ≡ back_state old → old.by ≡ the_back → new.by ≡ the_back
    → HasCounted counts old count → HasOneRenewal old.seen new.seen → then.of ≡ counts → then.shares ≡ added_to Renewals 1 count.shares → HasCounted counts new then
counted_renewal counts old new count then state was_by is_by c one of shares =
    let times : (share_of Renewals then.shares).added ≡ (share_of Renewals count.shares).added + 1 = ap (λ v. (share_of Renewals v).added) shares in
    let was = c.renewals in
    let now = one.times in
    record {
      of = of;
      all = subst (HoldsAll Retires) (sym shares) c.all;
      retires = ap (λ v. (share_of Retires v).added) shares ∙ (c.retires ∙ ap (λ (s : State). s.count) (sym state));
      loads = ap (λ v. (share_of Loads v).added) shares
          ∙ (c.loads ∙ (ap (λ n. deeds Loads n old.seen) was_by ∙ (sym one.loads ∙ ap (λ n. deeds Loads n new.seen) (sym is_by))));
      all_renewals = subst (HoldsAll Renewals) (sym shares) c.all_renewals;
      renewals = omega (arith, times, was, now);
    }

-- the turns keep to the limit where as much is committed, and the program has ended only where it had
pub keeps_same : (limit : ℕ) (old new : TheBack) (turns : TheTurns)
    → back_state new ≡ back_state old → new.ended ≡ old.ended → KeepsLimit limit old turns → KeepsLimit limit new turns
keeps_same limit old new turns state ended k =
    let count : (back_state new).count ≡ (back_state old).count = ap (λ (s : State). s.count) state in
    record {
      within = subst (λ n. n ≤ limit) (sym count) k.within;
      below = λ over. subst (λ n. n < limit) (sym count) (k.below (λ none. over (ended ∙ none)));
      each_turn = subst (λ n. n + turns.left ≤ turns.all) (sym count) k.each_turn;
    }

module _ {counts : TableId} {config : Settings} {old new : TheBack} {turns : TheTurns} {was wanting : Option Refusal} {count then : Counter} {limit : ℕ}
    (c : IsCommitter counts config (committer_of old turns was) count limit) where
  -- a commit thread that has seen more, and committed as much, stays as it was
  pub stays : back_state new ≡ back_state old → new.ended ≡ old.ended → HasCounted counts new then
      → IsCommitter counts config (committer_of new turns wanting) then limit
  stays state ended counted = record {
    counted = counted;
    limit_is = c.limit_is;
    keeps = keeps_same limit old new turns state ended c.keeps;
    turns_are = c.turns_are;
  }

-- a commit thread whose back has left its core and entered one
module _ {counts : TableId} {config : Settings} {old new : TheBack} {turns : TheTurns} {was wanting : Option Refusal} {count : Counter} {limit : ℕ} {seat : Caller}
    (c : IsCommitter counts config (committer_of old turns was) count limit) (going : old.ended ≡ None) (e : HasEntered old new seat) where
  -- a renewed core
  pub renewed : (then : Counter) → old.by ≡ the_back → seat.by ≡ the_back → HasOneRenewal old.seen seat.seen → then.of ≡ counts → then.shares ≡ added_to Renewals 1 count.shares →
      IsCommitter counts config (committer_of new turns wanting) then limit
  renewed then was_by is_by one of shares =
      let once : HasOneRenewal old.seen new.seen = subst (HasOneRenewal old.seen) (sym e.seen) one in
      stays c e.state (e.ended ∙ sym going) (counted_renewal counts old new count then e.state was_by (e.by ∙ is_by) c.counted once of shares)

  -- the one that it left
  pub refused : {core : TheCore} {left : Caller} → left.by ≡ old.by → left.seen ≡ old.seen → HasLooked core left seat → IsCommitter counts config (committer_of new turns wanting) count limit
  refused by_is seen_is met =
      let kept : HasKept old.by old.seen new.seen = subst (λ (z : ℕ × List Entry × List Entry). HasKept z.0 z.1 z.2) (λ j. (by_is j, seen_is j, sym e.seen j)) (looked_on met.adds) in
      stays c e.state (e.ended ∙ sym going) (counted_kept counts old new e.state (e.by ∙ (met.same.by ∙ by_is)) count c.counted kept)

-- The facts of a load that is tried, made once from what the calls before have answered, and what comes of it.
use Rattle.std.proofs.Common.{◌≡◌, ◌⊎◌, ◌+◌, ◌%◌, ℕ, [], sym, ap, ◌∙◌, subst}
use Rattle.inorder.specs.declared.history.Act.TheVariants.{Load as LoadIt}
use Rattle.inorder.specs.Callers.{CanLoad}
use Rattle.inorder.specs.History.{back}
use Rattle.inorder.specs.OneHistory.{Adds}
use Rattle.inorder.specs.Replies.{IsStale}
use Rattle.station.specs.Seats.{Caller, IsSameSeat, TheCore}
use Rattle.station.specs.Waking.{HasWoken}
use Rattle.station.specs.Writeback.{IsWalk, IsWritten, MaySettle, WasStale}
use Rattle.back.specs.Backs.{SeesMore, unit_in}
use Rattle.back.specs.Port.{Ceases, IsBlockedAt, Remains, station_behind}
use Rattle.back.specs.Trials.{DidLoad, HasHeldBack, HasPassed, SomeWaits}
use Rattle.back.specs.Wakings.{WakesNobody}
use Rattle.back.specs.declared.port.Load.{Load}
use Rattle.back.proofs.Settling.{asked_late, came_late, did_load, has_gone, holds_back, may_settle, named_late}
use Rattle.back.proofs.Wakings.{nobody_late, nobody_on, nobody_still, still_after, woken_behind}

-- The station found by a wrap is that after the head
pub place_of : (h k : ℕ) {n r ring : ℕ} → n ≡ (h + k) % r → r ≡ ring → n ≡ (h + k) % ring
place_of h k is ring_is = is ∙ ap (λ z. (h + k) % z) ring_is

-- The back had seen `old`, found a load that waits at this station by `mid`, and asked the stores before it by `late`
pub record TrialFacts (core : TheCore) (old mid late : Caller) (here station : ℕ) (l : Load) : Type 0 where
  pub by_is : old.by ≡ back
  pub by_late : late.by ≡ back
  pub found : Adds core.program core.sizes back old.seen mid.seen []
  pub asked : Adds core.program core.sizes back mid.seen late.seen []
  pub here_is : here ≡ station
  pub waits : SomeWaits core.program core.sizes old.seen mid.seen station l

pub facts_of : (core : TheCore) (h k : ℕ) {old mid late : Caller} {here r : ℕ} {l : Load} → old.by ≡ back → IsSameSeat old mid → SeesMore core old.by old.seen mid.seen →
    IsSameSeat mid late → SeesMore core mid.by mid.seen late.seen → here ≡ (h + k) % r → r ≡ core.sizes.ring → SomeWaits core.program core.sizes old.seen mid.seen here l →
    TrialFacts core old mid late here (station_behind h core.sizes.ring k) l
facts_of core h k {old} {mid} {late} {here} {r} {l} by_is kept history kept_on history_on here_is ring_is waits =
    let by_mid = kept.by ∙ by_is in
    let place = place_of h k here_is ring_is in
    record {
      by_is = by_is;
      by_late = kept_on.by ∙ by_mid;
      found = subst (λ x. Adds core.program core.sizes x old.seen mid.seen []) by_is history;
      asked = subst (λ x. Adds core.program core.sizes x mid.seen late.seen []) by_mid history_on;
      here_is = place;
      waits = subst (λ s. SomeWaits core.program core.sizes old.seen mid.seen s l) place waits;
    }

module _ {core : TheCore} {old mid late : Caller} {here station : ℕ} {l : Load} (t : TrialFacts core old mid late here station l) where
  -- The load has this value, or was squashed
  module _ {v : ℕ} (can : CanLoad core.program (unit_in core late.seen) t.waits.p l.address v ⊎ IsStale (unit_in core late.seen) t.waits.p) where
    pub settles : MaySettle core.program core.sizes late.seen here l.tag v
    settles = subst (λ s. MaySettle core.program core.sizes late.seen s l.tag v) (sym t.here_is)
        (may_settle core.program core.sizes late.seen t.waits.p station l.tag l.address v
        (named_late core.program core.sizes old.seen mid.seen late.seen t.found t.asked station l t.waits) can)

    pub has_loaded : (new : Caller) → IsWritten core.program core.sizes late.by late.seen new.seen here l.tag LoadIt (λ q. IsWalk core.program core.sizes new.seen q) →
        DidLoad core.program core.sizes old.by old.seen new.seen station l.tag v
    has_loaded new written =
        let x = subst (λ (z : ℕ × ℕ). IsWritten core.program core.sizes z.0 late.seen new.seen z.1 l.tag LoadIt (λ q. IsWalk core.program core.sizes new.seen q))
        (λ i. (t.by_late i, t.here_is i)) written in
        subst (λ z. DidLoad core.program core.sizes z old.seen new.seen station l.tag v) (sym t.by_is)
        (did_load core.program core.sizes old.seen mid.seen late.seen t.found t.asked station l t.waits new.seen l.address v can x)

  pub was_squashed : (new : Caller) → WasStale core.program core.sizes late.by late.seen new.seen here l.tag → HasPassed core.program core.sizes old.by old.seen new.seen station
  was_squashed new stale =
      let x = subst (λ (z : ℕ × ℕ). WasStale core.program core.sizes z.0 late.seen new.seen z.1 l.tag) (λ i. (t.by_late i, t.here_is i)) stale in
      subst (λ z. HasPassed core.program core.sizes z old.seen new.seen station) (sym t.by_is)
      (came_late core.program core.sizes old.seen mid.seen late.seen t.found t.asked station l t.waits new.seen x)

  -- The last look, which adds nothing
  module _ (new : Caller) (history : SeesMore core late.by late.seen new.seen) where
    last : Adds core.program core.sizes back late.seen new.seen []
    last = subst (λ x. Adds core.program core.sizes x late.seen new.seen []) t.by_late history

    pub is_held : {store place : ℕ} → IsBlockedAt core.program (unit_in core late.seen) t.waits.p place ⊎ IsStale (unit_in core late.seen) t.waits.p → store ≡ place →
        Remains core late.seen new.seen here l → HasHeldBack core.program core.sizes old.by old.seen new.seen station store
    is_held {store} {place} blocked store_is remains =
        let still = subst (λ s. Remains core late.seen new.seen s l) t.here_is remains in
        let named = named_late core.program core.sizes old.seen mid.seen late.seen t.found t.asked station l t.waits in
        let asks = asked_late core.program core.sizes old.seen mid.seen late.seen t.found t.asked station l t.waits in
        subst (λ (z : ℕ × ℕ). HasHeldBack core.program core.sizes z.0 old.seen new.seen station z.1) (λ i. (sym t.by_is i, sym store_is i))
        (holds_back core.program core.sizes old.seen mid.seen late.seen t.found t.asked station l t.waits new.seen last place blocked (still t.waits.p named asks))

    pub waits_no_more : Ceases core late.seen new.seen here l → HasPassed core.program core.sizes old.by old.seen new.seen station
    waits_no_more ceases =
        let gone = subst (λ s. Ceases core late.seen new.seen s l) t.here_is ceases in
        let asks = asked_late core.program core.sizes old.seen mid.seen late.seen t.found t.asked station l t.waits in
        subst (λ z. HasPassed core.program core.sizes z old.seen new.seen station) (sym t.by_is)
        (has_gone core.program core.sizes old.seen mid.seen late.seen t.found t.asked station l t.waits new.seen last (gone t.waits.p asks))

-- Nobody was woken up to the last of two calls that added nothing
pub record NobodyUntil (core : TheCore) (old late : Caller) : Type 0 where
  pub by_is : late.by ≡ old.by
  pub nobody : WakesNobody core.program core.sizes old.by old.seen late.seen old.woken late.woken

pub nobody_until : (core : TheCore) {old mid late : Caller} → IsSameSeat old mid → SeesMore core old.by old.seen mid.seen → mid.woken ≡ old.woken →
    IsSameSeat mid late → SeesMore core mid.by mid.seen late.seen → late.woken ≡ mid.woken → NobodyUntil core old late
nobody_until core {old} {mid} {late} kept history woken kept_on history_on woken_on = record {
  by_is = kept_on.by ∙ kept.by;
  nobody = still_after core.program core.sizes old.by mid.by old.seen mid.seen late.seen old.woken mid.woken late.woken kept.by history woken history_on woken_on;
}

module _ {core : TheCore} {old late : Caller} (n : NobodyUntil core old late) (new : Caller) where
  pub woken_then : HasWoken core.program core.sizes late.by late.seen new.seen new.woken → HasWoken core.program core.sizes old.by old.seen new.seen new.woken
  woken_then w = woken_behind core.program core.sizes old.by old.seen late.seen new.seen old.woken late.woken new.woken n.nobody
      (subst (λ z. HasWoken core.program core.sizes z late.seen new.seen new.woken) n.by_is w)

  nobody_then : WakesNobody core.program core.sizes late.by late.seen new.seen late.woken new.woken → WakesNobody core.program core.sizes old.by old.seen new.seen old.woken new.woken
  nobody_then w = nobody_on core.program core.sizes old.by old.seen late.seen new.seen old.woken late.woken new.woken n.nobody
      (subst (λ z. WakesNobody core.program core.sizes z late.seen new.seen late.woken new.woken) n.by_is w)

  pub stale_then : (here tag : ℕ) → WasStale core.program core.sizes late.by late.seen new.seen here tag → HasWoken core.program core.sizes late.by late.seen new.seen new.woken →
      WakesNobody core.program core.sizes old.by old.seen new.seen old.woken new.woken
  stale_then here tag stale woken = nobody_then (nobody_late core.program core.sizes late.by late.seen new.seen here tag late.woken new.woken stale woken)

  pub still_then : SeesMore core late.by late.seen new.seen → new.woken ≡ late.woken → WakesNobody core.program core.sizes old.by old.seen new.seen old.woken new.woken
  still_then history woken = nobody_then (nobody_still core.program core.sizes late.by late.seen new.seen late.woken new.woken history woken)

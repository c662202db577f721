-- A scan of the port, station by station: what is so after each try, and at its end.
use Rattle.std.proofs.Common.{◌≡◌, ◌+◌, ◌%◌, ◌<◌, ◌≤◌, ℕ, Option, Some, None, refl, sym, ap, ◌∙◌, subst, arith}
use Rattle.inorder.specs.Callers.{head_station}
use Rattle.inorder.specs.History.{back}
use Rattle.inorder.specs.Machine.{State}
use Rattle.station.specs.Seats.{Caller, IsSameSeat, TheCore}
use Rattle.station.specs.Waking.{HasWoken}
use Rattle.back.specs.Backs.{committed_in, unit_in}
use Rattle.back.specs.Port.{station_behind}
use Rattle.back.specs.Refreshes.{HasFoundBlocked, HasLoaded, PortWasIdle}
use Rattle.back.specs.Scans.{Scanned}
use Rattle.back.specs.Trials.{DidLoad, HasHeldBack, HasPassed}
use Rattle.back.specs.Wakings.{WakesNobody}
use Rattle.back.proofs.Refreshing.{head_now, is_blocked, is_idle, loaded_on, state_now}
use Rattle.back.proofs.Scanning.{held_first, held_more, passed_on}
use Rattle.back.proofs.Seeing.{same_on}
use Rattle.back.proofs.Wakings.{nobody_on, woken_behind}

-- The stations before the k-th after the head were tried, and no load got its value
pub record IsScanned (d : TheCore) (old cur : Caller) (head k : ℕ) (blocked : Option (ℕ × ℕ)) : Type 0 where
  pub kept : IsSameSeat old cur
  pub scanned : Scanned d.program d.sizes back old.seen cur.seen head d.sizes.ring k blocked
  pub woken : WakesNobody d.program d.sizes old.by old.seen cur.seen old.woken cur.woken

module _ {d : TheCore} {old cur : Caller} {head k : ℕ} {blocked : Option (ℕ × ℕ)} (s : IsScanned d old cur head k blocked) where
  pub head_there : head ≡ head_station d.sizes (unit_in d old.seen) → head ≡ head_station d.sizes (unit_in d cur.seen)
  head_there = head_now d.program d.sizes old.seen cur.seen head d.sizes.ring k blocked s.scanned

  pub state_there : {x : State} → x ≡ committed_in d old.seen → x ≡ committed_in d cur.seen
  state_there e = e ∙ sym (state_now d.program d.sizes old.seen cur.seen head d.sizes.ring k blocked s.scanned)

  -- After a try

  module _ {new : Caller} (by : old.by ≡ back) (same : IsSameSeat cur new) where
    abbrev NobodyWoken : Type 0
    NobodyWoken = WakesNobody d.program d.sizes cur.by cur.seen new.seen cur.woken new.woken

    abbrev place : ℕ
    place = station_behind head d.sizes.ring k

    goes_on : {now : Option (ℕ × ℕ)} → Scanned d.program d.sizes back old.seen new.seen head d.sizes.ring (k + 1) now → NobodyWoken → IsScanned d old new head (k + 1) now
    goes_on x w = record {
      kept = same_on old cur new s.kept same;
      scanned = x;
      woken = nobody_on d.program d.sizes old.by old.seen cur.seen new.seen old.woken cur.woken new.woken s.woken
          (subst (λ z. WakesNobody d.program d.sizes z cur.seen new.seen cur.woken new.woken) s.kept.by w);
    }

    pub behind_passed : {now : Option (ℕ × ℕ)} → now ≡ blocked → HasPassed d.program d.sizes cur.by cur.seen new.seen place → NobodyWoken → IsScanned d old new head (k + 1) now
    behind_passed is x w = goes_on (subst (Scanned d.program d.sizes back old.seen new.seen head d.sizes.ring (k + 1)) (sym is)
        (passed_on d.program d.sizes old.seen cur.seen new.seen head d.sizes.ring k (k + 1) refl blocked s.scanned
        (subst (λ z. HasPassed d.program d.sizes z cur.seen new.seen place) (s.kept.by ∙ by) x))) w

    module _ {store : ℕ} (x : HasHeldBack d.program d.sizes cur.by cur.seen new.seen place store) (w : NobodyWoken) where
      held : HasHeldBack d.program d.sizes back cur.seen new.seen place store
      held = subst (λ z. HasHeldBack d.program d.sizes z cur.seen new.seen place store) (s.kept.by ∙ by) x

      pub behind_first : {now : Option (ℕ × ℕ)} {station ring : ℕ} → now ≡ Some (station, store) → station ≡ (head + k) % ring → ring ≡ d.sizes.ring → blocked ≡ None →
          IsScanned d old new head (k + 1) now
      behind_first is station ring none = goes_on (subst (Scanned d.program d.sizes back old.seen new.seen head d.sizes.ring (k + 1))
          (sym (is ∙ (λ i. Some ((station ∙ ap (λ r. (head + k) % r) ring) i, store))))
          (held_first d.program d.sizes old.seen cur.seen new.seen head d.sizes.ring k (k + 1) refl blocked s.scanned store held none)) w

      pub behind_more : {now : Option (ℕ × ℕ)} → now ≡ blocked → (b : ℕ × ℕ) × (blocked ≡ Some b) → IsScanned d old new head (k + 1) now
      behind_more is some = goes_on (subst (Scanned d.program d.sizes back old.seen new.seen head d.sizes.ring (k + 1)) (sym is)
          (held_more d.program d.sizes old.seen cur.seen new.seen head d.sizes.ring k (k + 1) refl blocked s.scanned store held some.0 some.1)) w

    pub has_loaded : {station ring tag value : ℕ} → head ≡ head_station d.sizes (unit_in d old.seen) → head < ring → k < ring → ring ≡ d.sizes.ring → station ≡ (head + k) % ring →
        DidLoad d.program d.sizes cur.by cur.seen new.seen place tag value → HasLoaded d.program d.sizes old.by old.seen new.seen station tag value
    has_loaded {station} {ring} {tag} {value} head_is inside bound ring_is station_is x =
        let at_place : station ≡ place = station_is ∙ ap (λ r. (head + k) % r) ring_is in
        subst (λ (z : ℕ × ℕ). HasLoaded d.program d.sizes z.0 old.seen new.seen z.1 tag value) (λ i. (sym by i, sym at_place i))
        (loaded_on d.program d.sizes old.seen cur.seen new.seen head head_is (omega (arith, inside, ring_is)) k (omega (arith, bound, ring_is)) blocked s.scanned tag value
        (subst (λ z. DidLoad d.program d.sizes z cur.seen new.seen place tag value) (s.kept.by ∙ by) x))

    pub has_woken : HasWoken d.program d.sizes cur.by cur.seen new.seen new.woken → HasWoken d.program d.sizes old.by old.seen new.seen new.woken
    has_woken w = woken_behind d.program d.sizes old.by old.seen cur.seen new.seen old.woken cur.woken new.woken s.woken
        (subst (λ z. HasWoken d.program d.sizes z cur.seen new.seen new.woken) s.kept.by w)

  -- At the end

  module _ {ring : ℕ} (by : old.by ≡ back) (head_is : head ≡ head_station d.sizes (unit_in d old.seen)) (inside : head < ring) (ring_is : ring ≡ d.sizes.ring)
      (over : ring ≤ k) (end : k ≤ ring) where
    all : Scanned d.program d.sizes back old.seen cur.seen head d.sizes.ring d.sizes.ring blocked
    all = let e : k ≡ d.sizes.ring = omega (arith, over, end, ring_is) in subst (λ x. Scanned d.program d.sizes back old.seen cur.seen head d.sizes.ring x blocked) e s.scanned

    small : head < d.sizes.ring
    small = omega (arith, inside, ring_is)

    pub found_blocked : {load store : ℕ} → blocked ≡ Some (load, store) → HasFoundBlocked d.program d.sizes old.by old.seen cur.seen load store
    found_blocked {load} {store} is = subst (λ z. HasFoundBlocked d.program d.sizes z old.seen cur.seen load store) (sym by)
        (is_blocked d.program d.sizes old.seen cur.seen head head_is small blocked all load store is)

    pub was_idle : blocked ≡ None → PortWasIdle d.program d.sizes old.by old.seen cur.seen
    was_idle is = subst (λ z. PortWasIdle d.program d.sizes z old.seen cur.seen) (sym by) (is_idle d.program d.sizes old.seen cur.seen head head_is small blocked all is)

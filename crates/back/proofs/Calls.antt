-- What the calls of a back answer, from what its seat was answered.
use Rattle.std.proofs.Common.{◌≡◌, ◌≤◌, ◌<◌, ◌%◌, ℕ, [], Option, None, refl, sym, ap, ◌∙◌, subst, arith, zero-le}
use Rattle.instructions.specs.Programs.{Program}
use Rattle.instructions.specs.declared.stop.Stop.{Stop}
use Rattle.inorder.specs.History.{IsLegal, back}
use Rattle.inorder.specs.OneHistory.{Adds}
use Rattle.inorder.specs.Machine.{State, start}
use Rattle.std.proofs.Math.Nat.{mod-lt}
use Rattle.inorder.proofs.Histories.{legal_before}
use Rattle.snapshots.specs.declared.snap.Snap.{Snap}
use Rattle.station.specs.Seats.{Caller, TheCore}
use Rattle.snapshots.specs.Snapshots.{opening}
use Rattle.back.specs.Backs.{HasRetiredNothing, IsNewBack, IsSameBack, TheBack, back_of, unit_in}
use Rattle.back.specs.Kept.{BackIsKept, KeepsUnit}
use Rattle.back.proofs.Starting.{starts}
use Rattle.back.proofs.SeatKept.{kept_by, same_state, state_is}

-- A look or a meeting

pub is_same : (P : Program) (state : State) (low : Option ℕ) (head : ℕ) (ended : Option Stop) (shown : Snap) (seat seat' : Caller) →
    BackIsKept P seat state low head ended shown → BackIsKept P seat' state low head ended shown
    → seat'.core ≡ seat.core → seat'.by ≡ seat.by → IsSameBack (back_of seat ended shown) (back_of seat' ended shown)
is_same P state low head ended shown seat seat' k k' core by = record { core = core; by = by; ended = refl; shown = refl; state = same_state P state low head ended shown seat seat' k k' }

-- A new back

module _ (P : Program) (seat seat' : Caller) (program : seat.core.program ≡ P) (by : seat.by ≡ back) (fresh : HasRetiredNothing seat)
    (core : seat'.core ≡ seat.core) (by' : seat'.by ≡ seat.by) (woken : seat'.woken ≡ seat.woken) (a : Adds seat.core.program seat.core.sizes seat.by seat.seen seat'.seen [])
    (state : State) (shown : Snap) (state_starts : state ≡ start P) (shown_is : shown ≡ opening) where
  at_first : BackIsKept P seat state None 0 None shown
  at_first = record {
    program = program;
    by_is = by;
    legal = subst (λ Q. IsLegal Q seat.core.sizes seat.seen) program (legal_before seat.core.program seat.core.sizes a.begins.more seat.seen
        (subst (IsLegal seat.core.program seat.core.sizes) a.begins.is a.legal));
    unit = subst (λ s. KeepsUnit P seat.core.sizes (unit_in seat.core seat.seen) s None 0 None) (sym state_starts) (starts P seat.core.sizes (unit_in seat.core seat.seen) fresh);
    later = subst (λ (s : Snap). s.n ≤ state.count) (sym shown_is) zero-le;
  }

  pub new_kept : BackIsKept P seat' state None 0 None shown
  new_kept = kept_by P state None 0 None shown seat seat' [] at_first core by' a tt

  pub is_new : IsNewBack seat (back_of seat' None shown)
  is_new = record {
    core = core;
    by = by';
    history = a;
    woken = woken;
    ended = refl;
    shown = shown_is;
    state = sym (state_is P state None 0 None shown seat' new_kept) ∙ (state_starts ∙ ap start (sym program));
  }

-- the head is a station
head_small : (head x ring r : ℕ) → head ≡ x % ring → r ≡ ring → 2 ≤ r → head < r
head_small head x ring r e f least =
    let small : x % ring < ring = mod-lt x (omega (arith, f, least)) in omega (arith, e, f, small)

pub head_inside : {P : Program} {old : TheBack} {core : TheCore} {seat : Caller} {state : State} {low : Option ℕ} {head ring : ℕ} {ended : Option Stop} {shown : Snap} →
    BackIsKept P seat state low head ended shown → back_of seat ended shown ≡ old → old.core ≡ core → ring ≡ core.sizes.ring → 2 ≤ ring → head < ring
head_inside {P} {old} {core} {seat} {state} {low} {head} {ring} kept view core_is ring_is least =
    let same : seat.core ≡ core = ap (λ (b : TheBack). b.core) view ∙ core_is in
    head_small head _ _ ring kept.unit.head_is (ring_is ∙ sym (ap (λ (d : TheCore). d.sizes.ring) same)) least

-- the same, of what the fields are
pub kept_as : (P : Program) (seat : Caller) (state state' : State) (low low' : Option ℕ) (head head' : ℕ) (ended ended' : Option Stop) (shown : Snap)
    → BackIsKept P seat state low head ended shown → state ≡ state' → low ≡ low' → head ≡ head' → ended ≡ ended' →
    BackIsKept P seat state' low' head' ended' shown
kept_as P seat state state' low low' head head' ended ended' shown k s w h e =
    subst (λ (z : State × Option ℕ × ℕ × Option Stop). BackIsKept P seat z.0 z.1 z.2 z.3 shown) (λ i. (s i, w i, h i, e i)) k

-- What a back keeps, where its seat has seen more.
use Rattle.std.proofs.Common.{◌≡◌, ℕ, List, Option, Some, None, sym, ap, ◌∙◌, subst}
use Rattle.std.specs.List.{AllByRecursion}
use Rattle.instructions.specs.Programs.{Program}
use Rattle.instructions.specs.declared.stop.Stop.{Stop}
use Rattle.inorder.specs.declared.history.Entry.{Entry}
use Rattle.inorder.specs.declared.history.Event.{Event}
use Rattle.inorder.specs.Committed.{committed}
use Rattle.inorder.specs.History.{IsLegal, back, unit_of}
use Rattle.inorder.specs.OneHistory.{Adds}
use Rattle.inorder.specs.Machine.{State, fetched}
use Rattle.inorder.specs.Runs.{after, stop, stop_of, then_stop}
use Rattle.inorder.specs.Unit.{Sizes}
use Rattle.inorder.proofs.Follows.{state_of as in_order_state, stops_of}
use Rattle.inorder.proofs.Histories.{unit_sound}
use Rattle.snapshots.specs.declared.snap.Snap.{Snap}
use Rattle.station.specs.Seats.{Caller}
use Rattle.back.specs.Backs.{unit_in}
use Rattle.back.specs.Ends.{StopsThere, ending_of}
use Rattle.back.specs.Kept.{EndIs, WhyEnded, BackIsKept, KeepsUnit}
use Rattle.back.specs.Kept.WhyEnded.{ByStop, Nowhere}
use Rattle.back.proofs.UnitKept.{IsQuiet, adds_keeps}

-- The machine in order

module _ (P : Program) (C : Sizes) (h : List Entry) (legal : IsLegal P C h) (state : State) (low : Option ℕ) (head : ℕ) (ended : Option Stop) (k : KeepsUnit P C (unit_of P C h) state low head ended)
  where
    pub after_is : after P state.count ≡ Some state
    after_is = subst (λ s. after P s.count ≡ Some s) (sym k.state_is) (in_order_state P (unit_of P C h).tenants (unit_sound P C h legal))

    stopped : (code : Stop) → WhyEnded P (unit_of P C h) code → stop P (committed P (unit_of P C h).tenants).count ≡ Some code
    stopped code (ByStop p t) = stops_of P (unit_of P C h).tenants (unit_sound P C h legal) p t.tenant code t.is t.fact.standing t.fact.fate
    stopped code (Nowhere is none g) =
        let s = committed P (unit_of P C h).tenants in
        ap (then_stop P) (in_order_state P (unit_of P C h).tenants (unit_sound P C h legal)) ∙ (ap (λ i. stop_of (fetched P s i)) none ∙ ap Some (sym is))

    pub stops_there : (code : Stop) → EndIs P (unit_of P C h) (Some code) → stop P state.count ≡ Some code
    stops_there code e = subst (λ s. stop P s.count ≡ Some code) (sym k.state_is) (stopped code e)

    pub outcome_stops : StopsThere P state.count (ending_of ended)
    outcome_stops = go ended k.end_is
      where
        go : (ended : Option Stop) → EndIs P (unit_of P C h) ended → StopsThere P state.count (ending_of ended)
        go None e = tt
        go (Some code) e = stops_there code e

-- Seats

module _ (P : Program) (state : State) (low : Option ℕ) (head : ℕ) (ended : Option Stop) (shown : Snap) where
  pub plain : (seat : Caller) → BackIsKept P seat state low head ended shown → KeepsUnit P seat.core.sizes (unit_of P seat.core.sizes seat.seen) state low head ended
  plain seat k = subst (λ Q. KeepsUnit P seat.core.sizes (unit_of Q seat.core.sizes seat.seen) state low head ended) k.program k.unit

  -- the state is what was committed
  pub state_is : (seat : Caller) → BackIsKept P seat state low head ended shown → state ≡ committed seat.core.program (unit_in seat.core seat.seen).tenants
  state_is seat k = k.unit.state_is ∙ ap (λ Q. committed Q (unit_in seat.core seat.seen).tenants) (sym k.program)

  -- what a call of the seat added, of P and the back
  pub adds_plain : (seat : Caller) (new : List Entry) (events : List Event) →
      BackIsKept P seat state low head ended shown →
      Adds seat.core.program seat.core.sizes seat.by seat.seen new events →
      Adds P seat.core.sizes back seat.seen new events
  adds_plain seat new events k a = subst (λ (z : Program × ℕ). Adds z.0 seat.core.sizes z.1 seat.seen new events) (λ i. (k.program i, k.by_is i)) a

  pub kept_by : (seat seat' : Caller) (events : List Event) → BackIsKept P seat state low head ended shown → seat'.core ≡ seat.core → seat'.by ≡ seat.by
      → Adds seat.core.program seat.core.sizes seat.by seat.seen seat'.seen events → AllByRecursion IsQuiet events → BackIsKept P seat' state low head ended shown
  kept_by seat seat' events k core by a quiet =
      let C = seat.core.sizes in
      let adds = adds_plain seat seat'.seen events k a in
      let unit = adds_keeps P C state low head ended seat.seen seat'.seen events adds quiet (plain seat k) in
      record {
        program = ap (λ d. d.program) core ∙ k.program;
        by_is = by ∙ k.by_is;
        legal = subst (λ d. IsLegal P d.sizes seat'.seen) (sym core) adds.legal;
        unit = subst (λ d. KeepsUnit P d.sizes (unit_of d.program d.sizes seat'.seen) state low head ended) (sym core)
            (subst (λ Q. KeepsUnit P C (unit_of Q C seat'.seen) state low head ended) (sym k.program) unit);
        later = k.later;
      }

  -- both show the same state
  pub same_state : (seat seat' : Caller) → BackIsKept P seat state low head ended shown → BackIsKept P seat' state low head ended shown
      → committed seat'.core.program (unit_in seat'.core seat'.seen).tenants ≡ committed seat.core.program (unit_in seat.core seat.seen).tenants
  same_state seat seat' k k' = sym (state_is seat' k') ∙ state_is seat k

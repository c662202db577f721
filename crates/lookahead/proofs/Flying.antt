-- To look ahead, and a turn with two in flight: the oldest retires, and the one after it retires too, or is squashed.
use Rattle.std.proofs.Common.{◌≡◌, ℕ, true, false, Bool, cond, eqb, [], refl, sym, subst, eqb-true, lit<}
use Rattle.instructions.specs.Programs.{Program}
use Rattle.instructions.specs.declared.instr.Instr.{Instr}
use Rattle.instructions.specs.declared.stop.Outcome.{Outcome}
use Rattle.instructions.specs.declared.stop.Outcome.TheVariants.{Stop as Stops, Value}
use Rattle.instructions.specs.declared.stop.Stop.{Stop}
use Rattle.inorder.specs.Moves.{IsReached, with_let}
use Rattle.inorder.specs.Plain.{IsPlain}
use Rattle.inorder.specs.Steps.{MayClaim, finished}
use Rattle.inorder.specs.Tenants.{Busy, Tenant, computed}
use Rattle.inorder.specs.Unit.{UpdateUnit}
use Rattle.own_model.specs.Flight.{done_with}
use Rattle.own_model.specs.Settled.{Settled}
use Rattle.own_model.specs.State.{Executes, IsNoStop, left}
use Rattle.own_model.specs.Transitions.{HasStopped, MovesTo, Reaches}
use Rattle.own_model.specs.declared.state.ArchitecturalState.{ArchitecturalState}
use Rattle.own_model.proofs.Pairing.{two_fly}
use Rattle.own_model.proofs.Parting.{oldest_is, two_hit, two_leave, two_miss, two_stop}
use Rattle.own_model.proofs.Sequences.{runs_on, then_moves}
use Rattle.lookahead.specs.Early.{IsEarly}
use Rattle.lookahead.specs.StandsFor.{Flies, two}
use Rattle.lookahead.specs.declared.station.Early.{Early}

-- a tenant that makes a value is claimed and finished
runs_early : (P : Program) (v : ℕ) (W : UpdateUnit) (t : Tenant) → MayClaim P t → computed P t ≡ Value v → Reaches IsPlain P two (with_let W t) (with_let W (done_with v t))
runs_early P v W t may is =
    subst (λ o. Reaches IsPlain P two (with_let W t) (with_let W (finished (record t { fate = Busy 0 }) o))) is (runs_on P two (with_let W t) [] t W.tenants may)

module _ (P : Program) (a : ArchitecturalState) (U : UpdateUnit) (reached : IsReached P two U) (e : Early) where
  -- the oldest is let, and the one after it is let, claimed and finished
  pub looks : Settled P a U.tenants → IsEarly P a e → MovesTo IsPlain P two U (Flies P a e)
  looks s early =
      let m = two_fly P two (lit< tt) (lit< tt) U reached a s early.oldest e.pc e.instr (Value e.value) early.second (λ s p. p) (done_with e.value) (λ W t may same. runs_early P e.value W t may) in
      record { unit = m.unit; reaches = m.reaches; stands = record { oldest = early.oldest; fly = m.stands } }

  -- the one after it retires too if the oldest goes on to it, else it is squashed
  module _ (f : Flies P a e U) (o : Outcome) (x : Executes P a f.oldest o) (no_stop : IsNoStop o) where
    abbrev late : ArchitecturalState
    late = left a f.oldest o

    by_hit : (hit : Bool) → eqb late.committed.pc e.pc ≡ hit → MovesTo IsPlain P two U (λ X. Settled P (cond hit (left late e.instr (Value e.value)) late) X.tenants)
    by_hit true h =
        let to = eqb-true late.committed.pc e.pc h in
        then_moves (two_hit P two a f.oldest e.pc e.instr (Value e.value) (done_with e.value) (λ t l. l) U reached f.fly o x no_stop to)
        (two_leave P two a f.oldest e.pc e.instr (Value e.value) (done_with e.value) (λ t l. l) U reached f.fly o x no_stop to (λ c q. cc q))
    by_hit false h = two_miss P two a f.oldest e.pc e.instr (Value e.value) (done_with e.value) (λ t l. l) U reached f.fly o x no_stop h

  module _ (f : Flies P a e U) (i : Instr) (o : Outcome) (x : Executes P a i o) where
    same : i ≡ f.oldest
    same = oldest_is P two a f.oldest e.pc e.instr (Value e.value) (done_with e.value) (λ t l. l) U reached f.fly i o x

    pub flies_moves : IsNoStop o → MovesTo IsPlain P two U (λ X. Settled P (cond (eqb (left a i o).committed.pc e.pc) (left (left a i o) e.instr (Value e.value)) (left a i o)) X.tenants)
    flies_moves no_stop =
        subst (λ q. MovesTo IsPlain P two U (λ X. Settled P (cond (eqb (left a q o).committed.pc e.pc) (left (left a q o) e.instr (Value e.value)) (left a q o)) X.tenants)) (sym same)
        (by_hit f o (subst (λ q. Executes P a q o) same x) no_stop (eqb (left a f.oldest o).committed.pc e.pc) refl)

  pub flies_stops : Flies P a e U → (i : Instr) (c : Stop) → Executes P a i (Stops c) → MovesTo IsPlain P two U (HasStopped P a.committed c)
  flies_stops f i c x =
      two_stop P two a f.oldest e.pc e.instr (Value e.value) (done_with e.value) (λ t l. l) U reached f.fly c (subst (λ q. Executes P a q (Stops c)) (same f i (Stops c) x) x)

-- A turn of a model that has one more in flight, or none: the oldest is executed and retires.
use Rattle.std.proofs.Common.{◌≡◌, ◌⊎◌, ◌<◌, Option, Some, None, sym, subst, arith, inl, inr}
use Rattle.instructions.specs.Programs.{Program, instr_at}
use Rattle.instructions.specs.declared.instr.Instr.{Instr}
use Rattle.instructions.specs.declared.stop.Outcome.{Outcome}
use Rattle.instructions.specs.declared.stop.Outcome.TheVariants.{Stop as Stops}
use Rattle.instructions.specs.declared.stop.Stop.{Stop}
use Rattle.instructions.specs.declared.stop.Stop.TheVariants.{BadPc}
use Rattle.inorder.specs.declared.history.Step.{Step}
use Rattle.inorder.specs.Committed.{committed}
use Rattle.inorder.specs.Moves.{IsReached}
use Rattle.inorder.specs.Plain.{IsPlain}
use Rattle.inorder.specs.Unit.{Sizes, UpdateUnit}
use Rattle.own_model.specs.Flight.{StandsBy, after_turn}
use Rattle.own_model.specs.Runs.{IsFurther, IsOneFurther, held}
use Rattle.own_model.specs.Settled.{Settled}
use Rattle.own_model.specs.State.{Executes, IsNoStop, left}
use Rattle.own_model.specs.Transitions.{Goes, HasStopped, MovesTo}
use Rattle.own_model.specs.declared.state.ArchitecturalState.{ArchitecturalState}
use Rattle.own_model.proofs.Issuing.{issue_moves, issue_stops, nothing_stops}
use Rattle.own_model.proofs.Runs.{further}
use Rattle.own_model.proofs.Sequences.{loosened_moves}

module _ {X : Type 0} (P : Program) (a : ArchitecturalState) (Flies : X → UpdateUnit → Type 0) (flying : (x : X) (U : UpdateUnit) → Flies x U → a.committed ≡ committed P U.tenants) where
  -- what such a model has is what each unit has committed that it stands for
  pub state_is : (q : Option X) (U : UpdateUnit) → StandsBy Flies q P a U → a.committed ≡ committed P U.tenants
  state_is None U s = s.state
  state_is (Some x) U f = flying x U f

  -- there is no instruction to go on with
  pub turn_nowhere : (IsOne : Step → Type 0) (C : Sizes) (q : Option X) → instr_at P a.committed.pc ≡ None → Goes IsOne P C (StandsBy Flies q P a) (HasStopped P a.committed BadPc)
  turn_nowhere IsOne C q none U reached s = nothing_stops P C U a.committed (state_is q U s) none

module _ {X : Type 0} {IsOne : Step → Type 0} {P : Program} {C : Sizes} {a : ArchitecturalState} {Flies : X → UpdateUnit → Type 0} where
  module _ (weaker : (s : Step) → IsPlain s → IsOne s) (ring : 0 < C.ring) (queue : 0 < C.queue) (i : Instr) where
    -- the oldest is a stop
    pub turn_stops : (c : Stop) → Executes P a i (Stops c) → ((x : X) (U : UpdateUnit) → IsReached P C U → Flies x U → MovesTo IsOne P C U (HasStopped P a.committed c)) →
        (q : Option X) → Goes IsOne P C (StandsBy Flies q P a) (HasStopped P a.committed c)
    turn_stops c e flying None U reached s = loosened_moves weaker (issue_stops P C ring queue U reached a s i c e)
    turn_stops c e flying (Some x) U reached f = flying x U reached f

    -- it retires, and the other goes on as `rest` has it
    pub turn_moves : (rest : X → ArchitecturalState → ArchitecturalState) (o : Outcome) → Executes P a i o → IsNoStop o →
        ((x : X) (U : UpdateUnit) → IsReached P C U → Flies x U → MovesTo IsOne P C U (λ V. Settled P (rest x (left a i o)) V.tenants)) →
        (q : Option X) → Goes IsOne P C (StandsBy Flies q P a) (λ V. Settled P (after_turn rest q (left a i o)) V.tenants)
    turn_moves rest o e no_stop flying None U reached s = loosened_moves weaker (issue_moves P C ring queue U reached a s i o e no_stop)
    turn_moves rest o e no_stop flying (Some x) U reached f = flying x U reached f

-- the other goes on by an instruction at most
pub turn_further : {X : Type 0} → (rest : X → ArchitecturalState → ArchitecturalState) → ((x : X) (s : ArchitecturalState) → (rest x s ≡ s) ⊎ IsOneFurther s (rest x s)) →
    (a : ArchitecturalState) (i : Instr) (o : Outcome) → IsNoStop o → (q : Option X) → IsFurther (held q) a (after_turn rest q (left a i o))
turn_further {X} rest more a i o no_stop q = go q
  where
    once : IsOneFurther a (left a i o)
    once = further a i o no_stop

    by : (x : X) → (rest x (left a i o) ≡ left a i o) ⊎ IsOneFurther (left a i o) (rest x (left a i o)) → IsFurther 1 a (rest x (left a i o))
    by x (inl same) = subst (IsFurther 1 a) (sym same) (record { count = omega (arith, once.count); halves = once.halves })
    by x (inr twice) = record { count = omega (arith, once.count, twice.count); halves = omega (arith, once.halves, twice.halves) }

    go : (q : Option X) → IsFurther (held q) a (after_turn rest q (left a i o))
    go None = record { count = omega (arith, once.count); halves = once.halves }
    go (Some x) = by x (more x (left a i o))

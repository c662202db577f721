-- A step of the unit: from each unit that the model stands for the next instruction is let, executed and retires.
use Rattle.std.proofs.Common.{◌≡◌, None, Ok, Err, refl, sym, ap, subst, lit<}
use Rattle.std.specs.Prelude.{Result}
use Rattle.instructions.specs.Programs.{instr_at}
use Rattle.instructions.specs.declared.instr.Instr.{Instr}
use Rattle.instructions.specs.declared.stop.Outcome.{Outcome}
use Rattle.instructions.specs.declared.stop.Stop.{Stop}
use Rattle.instructions.specs.declared.stop.Stop.TheVariants.{BadPc}
use Rattle.inorder.specs.Plain.{IsPlain}
use Rattle.own_model.specs.Settled.{Settled}
use Rattle.own_model.specs.State.{Commits, Executes}
use Rattle.own_model.specs.Transitions.{MovesTo}
use Rattle.own_model.specs.declared.state.ArchitecturalState.{ArchitecturalState}
use Rattle.own_model.proofs.Issuing.{issue_moves, issue_stops, nothing_stops}
use Rattle.in_order_issue.specs.StandsFor.{StepGoes, one}
use Rattle.in_order_issue.specs.declared.station.OneStation.{OneStation}

pub nowhere : (b : OneStation) → instr_at b.program.now b.state.committed.pc ≡ None → StepGoes (Err BadPc) b b
nowhere b none = ((λ U reached s. nothing_stops b.program.now one U b.state.committed s.state none), refl)

module _ (b : OneStation) (i : Instr) (o : Outcome) (e : Executes b.program.now b.state i o) where
  pub steps : (r : Result (Unit {0}) Stop) (a : ArchitecturalState) → Commits r b.state i o a → StepGoes r b (record b { state = a })
  steps (Ok u) a m =
      ((λ U reached s. subst (λ z. MovesTo IsPlain b.program.now one U (λ V. Settled b.program.now z V.tenants)) (sym m.1) (issue_moves b.program.now one (lit< tt) (lit< tt) U reached b.state s i o e m.0)), refl)
  steps (Err c) a m =
      ((λ U reached s. issue_stops b.program.now one (lit< tt) (lit< tt) U reached b.state s i c (subst (Executes b.program.now b.state i) m.0 e)), ap (λ z. record b { state = z }) m.1)

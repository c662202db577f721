-- The transitions of the model, from each unit that it stands for: all have left, or two are in flight.
use Rattle.std.proofs.Common.{◌≡◌, ◌⊎◌, true, false, Bool, cond, eqb, length, Option, Some, None, Ok, Err, refl, sym, ap, ◌∙◌, subst, lit<, true≢false, inl, inr, ℕ, ◌+◌, ◌<◌, ◌≤◌, arith}
use Rattle.std.specs.Prelude.{IfSome, is_some}
use Rattle.instructions.specs.Programs.{Program, instr_at}
use Rattle.instructions.specs.declared.instr.Instr.{Instr}
use Rattle.instructions.specs.declared.stop.Outcome.{Outcome}
use Rattle.instructions.specs.declared.stop.Outcome.TheVariants.{Stop as Stops, Value}
use Rattle.instructions.specs.declared.stop.Stop.{Stop}
use Rattle.instructions.specs.declared.stop.Stop.TheVariants.{BadPc}
use Rattle.inorder.specs.Committed.{committed}
use Rattle.inorder.specs.Plain.{IsPlain}
use Rattle.inorder.specs.Unit.{UpdateUnit}
use Rattle.inorder.proofs.SettledMemory.{length_memory}
use Rattle.own_model.specs.Flight.{StandsBy}
use Rattle.own_model.specs.Runs.{IsFurther, IsOneFurther, held}
use Rattle.own_model.specs.State.{Executes, IsNoStop, left}
use Rattle.own_model.specs.Transitions.{Goes}
use Rattle.own_model.specs.declared.state.ArchitecturalState.{ArchitecturalState}
use Rattle.own_model.proofs.Runs.{few, further}
use Rattle.own_model.proofs.Sequences.{stays}
use Rattle.own_model.proofs.Turning.{state_is, turn_further, turn_moves, turn_nowhere, turn_stops}
use Rattle.lookahead.specs.Early.{IsEarly, rest, retired_early}
use Rattle.lookahead.specs.StandsFor.{Flies, LooksOn, ModelStandsFor, StepGoes, two}
use Rattle.lookahead.specs.declared.station.Early.{Early}
use Rattle.lookahead.specs.declared.station.Lookahead.{Lookahead}
use Rattle.lookahead.proofs.Flying.{flies_moves, flies_stops, looks}

-- The model looks ahead, or not

pub waits : (b : Lookahead) (limit : ℕ) → b.state.committed.count < limit → LooksOn b limit b
waits b limit below = record {
  goes = λ U reached s. record { unit = U; reaches = stays U; stands = s };
  program = refl;
  state = refl;
  room = λ none. let zero : held b.early ≡ 0 = ap held none in omega (arith, zero, below);
}

none_if : (o : Option Early) → is_some o ≡ false → o ≡ None
none_if None e = refl
none_if (Some x) e = absurd (true≢false e)

pub looks_on : (b : Lookahead) (limit : ℕ) → b.state.committed.count + 1 < limit → is_some b.early ≡ false → (o : Option Early) → IfSome o (IsEarly b.program.now b.state) → LooksOn b limit (record b { early = o })
looks_on b limit below none o of = record {
  goes = go o of;
  program = refl;
  state = refl;
  room = λ q. let one : held o ≤ 1 = few o in omega (arith, one, below);
}
  where
    settled : (U : UpdateUnit) → ModelStandsFor b U → StandsBy (Flies b.program.now b.state) None b.program.now b.state U
    settled U s = subst (λ q. StandsBy (Flies b.program.now b.state) q b.program.now b.state U) (none_if b.early none) s

    go : (o : Option Early) → IfSome o (IsEarly b.program.now b.state) → Goes IsPlain b.program.now two (ModelStandsFor b) (StandsBy (Flies b.program.now b.state) o b.program.now b.state)
    go None of U reached s = record { unit = U; reaches = stays U; stands = settled U s }
    go (Some x) of U reached s = looks b.program.now b.state U reached x (settled U s) of

-- The model steps

flying_is : (P : Program) (a : ArchitecturalState) (e : Early) (U : UpdateUnit) → Flies P a e U → a.committed ≡ committed P U.tenants
flying_is P a e U f = f.fly.settled.state ∙ ap (λ X. committed P X.tenants) (sym f.fly.is)

pub committed_is : (b : Lookahead) (U : UpdateUnit) → ModelStandsFor b U → b.state.committed ≡ committed b.program.now U.tenants
committed_is b U s = state_is b.program.now b.state (Flies b.program.now b.state) (flying_is b.program.now b.state) b.early U s

pub memory_is : (b : Lookahead) (U : UpdateUnit) → ModelStandsFor b U → length b.state.committed.memory ≡ length b.program.now.bytes
memory_is b U s = ap (λ z. length z.memory) (committed_is b U s) ∙ length_memory b.program.now U.tenants

pub nowhere : (b : Lookahead) → instr_at b.program.now b.state.committed.pc ≡ None → StepGoes (Err BadPc) b b
nowhere b none = (turn_nowhere b.program.now b.state (Flies b.program.now b.state) (flying_is b.program.now b.state) IsPlain two b.early none, refl)

pub stops : (b : Lookahead) (i : Instr) (c : Stop) → Executes b.program.now b.state i (Stops c) → StepGoes (Err c) b b
stops b i c x = (turn_stops (λ s p. p) (lit< tt) (lit< tt) i c x (λ e U reached f. flies_stops b.program.now b.state U reached e f i c x) b.early, refl)

module _ (b : Lookahead) (i : Instr) (o : Outcome) (x : Executes b.program.now b.state i o) (no_stop : IsNoStop o) where
  abbrev late : Lookahead
  late = record b { state = left b.state i o }

  pub moves : StepGoes (Ok tt) b (retired_early late)
  moves = (turn_moves (λ s p. p) (lit< tt) (lit< tt) i rest o x no_stop (λ e U reached f. flies_moves b.program.now b.state U reached e f i o x no_stop) b.early, refl)

  at_most_one : (e : Early) (a : ArchitecturalState) → (rest e a ≡ a) ⊎ IsOneFurther a (rest e a)
  at_most_one e a = go (eqb a.committed.pc e.pc)
    where
      go : (hit : Bool) → (cond hit (left a e.instr (Value e.value)) a ≡ a) ⊎ IsOneFurther a (cond hit (left a e.instr (Value e.value)) a)
      go true = inr (further a e.instr (Value e.value) (λ c q. cc q))
      go false = inl refl

  pub is_next : IsFurther (held b.early) b.state (retired_early late).state
  is_next = turn_further rest at_most_one b.state i o no_stop b.early

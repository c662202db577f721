-- The transitions of the model, from each unit that it stands for: all have left, or two are in flight.
use Rattle.std.proofs.Common.{◌≡◌, ◌⊎◌, ◌+◌, ◌≤◌, true, false, Bool, cond, eqb, ◌&&◌, length, Option, Some, None, Ok, Err, refl, sym, ap, ◌∙◌, subst, lit<, true≢false, inl, inr, ℕ, ◌<◌, arith}
use Rattle.std.specs.Prelude.{IfSome, is_some}
use Rattle.instructions.specs.Instruction.{pc_plus_4, width}
use Rattle.instructions.specs.Programs.{Program, instr_at}
use Rattle.instructions.specs.declared.instr.Instr.{Instr}
use Rattle.instructions.specs.declared.stop.Outcome.{Outcome}
use Rattle.instructions.specs.declared.stop.Outcome.TheVariants.{Stop as Stops, Value}
use Rattle.instructions.specs.declared.stop.Stop.{Stop}
use Rattle.instructions.specs.declared.stop.Stop.TheVariants.{BadPc}
use Rattle.inorder.specs.Committed.{committed}
use Rattle.inorder.specs.Unit.{UpdateUnit}
use Rattle.inorder.proofs.SettledMemory.{length_memory}
use Rattle.own_model.specs.Flight.{StandsBy}
use Rattle.own_model.specs.Runs.{IsFurther, IsOneFurther, held}
use Rattle.own_model.specs.State.{Executes, IsNoStop, advanced, half_in, left, loaded_at}
use Rattle.own_model.specs.Transitions.{Goes, IsAny}
use Rattle.own_model.specs.declared.state.ArchitecturalState.{ArchitecturalState}
use Rattle.own_model.proofs.Runs.{few, further}
use Rattle.own_model.proofs.Sequences.{stays}
use Rattle.own_model.proofs.Turning.{state_is, turn_further, turn_moves, turn_nowhere, turn_stops}
use Rattle.load_ahead.specs.Ahead.{FitsIn, IsAhead, checked, rest}
use Rattle.load_ahead.specs.StandsFor.{Flies, LooksOn, ModelStandsFor, StepGoes, two}
use Rattle.load_ahead.specs.declared.station.Ahead.{Ahead}
use Rattle.load_ahead.specs.declared.station.LoadAhead.{LoadAhead}
use Rattle.load_ahead.proofs.Flying.{flies_moves, flies_stops, looks}

-- The model looks ahead, or not

pub waits : (b : LoadAhead) (limit : ℕ) → b.state.committed.count < limit → LooksOn b limit b
waits b limit below = record {
  goes = λ U reached s. record { unit = U; reaches = stays U; stands = s };
  program = refl;
  state = refl;
  room = λ none. let zero : held b.ahead ≡ 0 = ap held none in omega (arith, zero, below);
}

none_if : (o : Option Ahead) → is_some o ≡ false → o ≡ None
none_if None e = refl
none_if (Some x) e = absurd (true≢false e)

pub looks_on : (b : LoadAhead) (limit : ℕ) → b.state.committed.count + 1 < limit → is_some b.ahead ≡ false → (o : Option Ahead) → IfSome o (IsAhead b.program.now b.state) → LooksOn b limit (record b { ahead = o })
looks_on b limit below none o of = record {
  goes = go o of;
  program = refl;
  state = refl;
  room = λ q. let one : held o ≤ 1 = few o in omega (arith, one, below);
}
  where
    settled : (U : UpdateUnit) → ModelStandsFor b U → StandsBy (Flies b.program.now b.state) None b.program.now b.state U
    settled U s = subst (λ q. StandsBy (Flies b.program.now b.state) q b.program.now b.state U) (none_if b.ahead none) s

    go : (o : Option Ahead) → IfSome o (IsAhead b.program.now b.state) → Goes IsAny b.program.now two (ModelStandsFor b) (StandsBy (Flies b.program.now b.state) o b.program.now b.state)
    go None of U reached s = record { unit = U; reaches = stays U; stands = settled U s }
    go (Some x) of U reached s = looks b.program.now b.state U reached x (settled U s) of

-- The model steps

flying_is : (P : Program) (a : ArchitecturalState) (l : Ahead) (U : UpdateUnit) → Flies P a l U → a.committed ≡ committed P U.tenants
flying_is P a l U f = f.fly.settled.state ∙ ap (λ X. committed P X.tenants) (sym f.fly.is)

pub committed_is : (b : LoadAhead) (U : UpdateUnit) → ModelStandsFor b U → b.state.committed ≡ committed b.program.now U.tenants
committed_is b U s = state_is b.program.now b.state (Flies b.program.now b.state) (flying_is b.program.now b.state) b.ahead U s

pub memory_is : (b : LoadAhead) (U : UpdateUnit) → ModelStandsFor b U → length b.state.committed.memory ≡ length b.program.now.bytes
memory_is b U s = ap (λ z. length z.memory) (committed_is b U s) ∙ length_memory b.program.now U.tenants

-- the load that reads ahead is inside the memory
pub fits : (b : LoadAhead) (U : UpdateUnit) → ModelStandsFor b U → (a : ArchitecturalState) → length a.committed.memory ≡ length b.state.committed.memory → FitsIn b.ahead a
fits b U s a same = go b.ahead s
  where
    go : (o : Option Ahead) → StandsBy (Flies b.program.now b.state) o b.program.now b.state U → FitsIn o a
    go None s = tt
    go (Some l) f = subst (λ n. l.address + width l.instr.op ≤ n) (sym (same ∙ memory_is b U s)) f.ahead.inside

pub nowhere : (b : LoadAhead) → instr_at b.program.now b.state.committed.pc ≡ None → StepGoes (Err BadPc) b b
nowhere b none = (turn_nowhere b.program.now b.state (Flies b.program.now b.state) (flying_is b.program.now b.state) IsAny two b.ahead none, refl)

pub stops : (b : LoadAhead) (i : Instr) (c : Stop) → Executes b.program.now b.state i (Stops c) → StepGoes (Err c) b b
stops b i c x = (turn_stops (λ s p. tt) (lit< tt) (lit< tt) i c x (λ e U reached f. flies_stops b.program.now b.state U reached e f i c x) b.ahead, refl)

module _ (b : LoadAhead) (i : Instr) (o : Outcome) (x : Executes b.program.now b.state i o) (no_stop : IsNoStop o) where
  abbrev late : LoadAhead
  late = record b { state = left b.state i o }

  pub moves : StepGoes (Ok tt) b (checked late)
  moves = (turn_moves (λ s p. tt) (lit< tt) (lit< tt) i rest o x no_stop (λ e U reached f. flies_moves b.program.now b.state U reached e f i o x no_stop) b.ahead, refl)

  at_most_one : (l : Ahead) (a : ArchitecturalState) → (rest l a ≡ a) ⊎ IsOneFurther a (rest l a)
  at_most_one l a = go (eqb a.committed.pc l.pc && eqb (loaded_at a l.instr l.address) l.guess)
    where
      on : ArchitecturalState
      on = advanced a l.instr (half_in a) a.committed.memory l.guess (pc_plus_4 a.committed.pc)

      go : (right : Bool) → (cond right on a ≡ a) ⊎ IsOneFurther a (cond right on a)
      go true = inr (further a l.instr (Value l.guess) (λ c q. cc q))
      go false = inl refl

  pub is_next : IsFurther (held b.ahead) b.state (checked late).state
  is_next = turn_further rest at_most_one b.state i o no_stop b.ahead

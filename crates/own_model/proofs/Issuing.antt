-- The next instruction is let in a settled unit, executed, and retires.
use Rattle.std.proofs.Common.{◌≡◌, ◌≢◌, ℕ, ◌+◌, ◌<◌, ◌≤◌, ◌^◌, true, false, Bool, ◌&&◌, List, [], ◌∷◌, ◌++◌, length, Some, None, refl, sym, ap, ◌∙◌, subst, arith}
use Rattle.std.specs.List.{AllByRecursion}
use Rattle.std.specs.Prelude.{IfSome, slice_index}
use Rattle.instructions.specs.Instruction.{first_of, fixed_next, is_access, is_first_half, kind, second_of, width}
use Rattle.instructions.specs.Operations.{outcome_of}
use Rattle.instructions.specs.Programs.{Program, instr_at, instr_of}
use Rattle.instructions.specs.declared.instr.Instr.{Instr}
use Rattle.instructions.specs.declared.stop.Outcome.{Outcome}
use Rattle.instructions.specs.declared.stop.Outcome.TheVariants.{Address, Next, Pair, Stop as Stops, Value}
use Rattle.instructions.specs.declared.stop.Stop.{Stop}
use Rattle.instructions.specs.declared.stop.Stop.TheVariants.{BadPc}
use Rattle.inorder.specs.declared.history.Step.{Step}
use Rattle.inorder.specs.declared.history.Step.TheVariants.{Let}
use Rattle.inorder.specs.declared.history.Supply.TheVariants.{Known}
use Rattle.inorder.specs.Committed.{committed}
use Rattle.inorder.specs.Machine.{State}
use Rattle.inorder.specs.Memory.{byte_at, raw_at}
use Rattle.inorder.specs.Moves.{IsReached, with_let, with_tenants}
use Rattle.inorder.specs.Plain.{IsPlain}
use Rattle.inorder.specs.Steps.{IsNoRetiredStop, MayLet}
use Rattle.inorder.specs.Tenants.{Addr, Busy, Done, Fate, Guessed, IsNotLive, Live, Miss, Open, Retired, Squashed, Standing, Stopped, Tenant, behind_by, is_live, is_live_access, kind_of, next_by, stands_live}
use Rattle.inorder.specs.Unit.{Sizes, UpdateUnit, creator, front_half, front_pc, how_many, value_of}
use Rattle.inorder.proofs.Basics.{number_there}
use Rattle.inorder.proofs.InOrderStep.{load_in}
use Rattle.inorder.proofs.OneCaller.Creators.{found_at}
use Rattle.inorder.proofs.OneCaller.Sequences.{sound_of}
use Rattle.inorder.proofs.SettledMemory.{byte_given, length_memory}
use Rattle.inorder.proofs.SettledRegisters.{committed_pc, source_given}
use Rattle.inorder.proofs.Sound.{IsSettled, IsSound, SettledBy}
use Rattle.lsq.specs.Bytes.{little_endian}
use Rattle.own_model.specs.Flight.{let_in}
use Rattle.own_model.specs.Settled.{Settled}
use Rattle.own_model.specs.State.{Executes, IsAt, IsNoStop, NextIsWord, half_in, left, left_at, loaded_at, value_in}
use Rattle.own_model.specs.Transitions.{HasStopped, MovesTo, Nowhere, Reaches}
use Rattle.own_model.specs.declared.state.ArchitecturalState.{ArchitecturalState}
use Rattle.own_model.proofs.Executing.{executed, executes, nobody_stays, stay}
use Rattle.own_model.proofs.Predicted.{computed_fits}
use Rattle.own_model.proofs.Retiring.{gone_as, leads_out, leaves, stops_out}
use Rattle.own_model.proofs.Sequences.{once, stays, then_moves, then_on}

-- Who has left

settled_by : (st : Standing) (f : Fate) → st ≢ Live → (st ≡ Retired → (c : Stop) → f ≢ Stopped c) → SettledBy st f
settled_by Live f l n = l refl
settled_by Squashed f l n = tt
settled_by Retired (Stopped c) l n = n refl c refl
settled_by Retired Open l n = tt
settled_by Retired (Busy by) l n = tt
settled_by Retired (Addr a) l n = tt
settled_by Retired (Done v) l n = tt
settled_by Retired (Guessed x) l n = tt
settled_by Retired (Miss x) l n = tt

all_settled : (ts : List Tenant) → AllByRecursion IsNotLive ts → AllByRecursion IsNoRetiredStop ts → AllByRecursion IsSettled ts
all_settled [] l n = tt
all_settled (t ∷ ts) l n = (settled_by t.standing t.fate l.0 n.0, all_settled ts l.1 n.1)

-- nobody passes a test that live ones alone pass
none_of : (test : Tenant → Bool) → ((t : Tenant) → IsNotLive t → test t ≡ false) → (ts : List Tenant) → AllByRecursion IsNotLive ts → how_many test ts ≡ 0
none_of test live [] l = refl
none_of test live (t ∷ ts) l = rw (live t l.0) (none_of test live ts l.1)

left_is_off : (st : Standing) → st ≢ Live → stands_live st ≡ false
left_is_off Live n = absurd (n refl)
left_is_off Retired n = refl
left_is_off Squashed n = refl

pub nobody_lives : (ts : List Tenant) → AllByRecursion IsNotLive ts → how_many is_live ts ≡ 0
nobody_lives ts l = none_of is_live (λ t n. left_is_off t.standing n) ts l

pub no_access_lives : (P : Program) (ts : List Tenant) → AllByRecursion IsNotLive ts → how_many (is_live_access P) ts ≡ 0
no_access_lives P ts l = none_of (is_live_access P) (λ t n. ap (λ q. q && is_access (kind_of P t)) (left_is_off t.standing n)) ts l

-- What a new instruction finds in a settled unit

module _ (P : Program) (a : ArchitecturalState) (ts : List Tenant) (sound : IsSound P ts) (s : Settled P a ts) where
  settled : AllByRecursion IsSettled ts
  settled = all_settled ts s.nobody s.goes_on

  pub pc_is : front_pc ts ≡ a.committed.pc
  pc_is = sym (committed_pc P ts sound settled) ∙ sym (ap (λ x. x.pc) s.state)

  pub source_is : (r : ℕ) → value_of ts (creator P ts r) ≡ Some (value_in a r)
  source_is r = source_given P ts sound settled r ∙ ap (λ x. Some (slice_index x.registers r)) (sym s.low)

  pub reads_is : (i : Instr) (at : ℕ) → at + width i.op ≤ length P.bytes → raw_at P ts i at ≡ Some (little_endian (slice_index a.committed.memory) at (width i.op))
  reads_is i at inside =
      let bytes : (x : ℕ) → x < length P.bytes → byte_at P ts x ≡ Some (slice_index a.committed.memory x) =
      λ x l. byte_given P ts sound settled x l ∙ ap (λ u. Some (slice_index u.memory x)) (sym s.state) in
      number_there (byte_at P ts) (slice_index a.committed.memory) at _ (λ x l m. bytes x (omega arith))

pub memory_is : (P : Program) (a : ArchitecturalState) (ts : List Tenant) → Settled P a ts → length a.committed.memory ≡ length P.bytes
memory_is P a ts s = ap (λ x. length x.memory) s.state ∙ length_memory P ts

-- there is no instruction to go on with
pub nothing_stops : {IsOne : Step → Type 0} → (P : Program) (C : Sizes) (U : UpdateUnit) (s : State) → s ≡ committed P U.tenants → instr_at P s.pc ≡ None → MovesTo IsOne P C U (HasStopped P s BadPc)
nothing_stops P C U s is none = record { unit = U; reaches = stays U; stands = record { state = is; stops = Nowhere refl (ap (λ x. instr_at P x.pc) (sym is) ∙ none) } }

-- the instruction that is next has an index
pub found : (P : Program) (pc : ℕ) (i : Instr) → instr_at P pc ≡ Some i → (k : ℕ) × IsAt P pc k i
found P pc i is = let x = found_at P pc i is in (x.index, record { inside = x.inside; place = x.pc; is = x.is })

-- The next instruction is i, of index k, with outcome o, and the unit is settled

module _ (P : Program) (C : Sizes) (U : UpdateUnit) (sound : IsSound P U.tenants) (a : ArchitecturalState) (s : Settled P a U.tenants) (i : Instr) (k : ℕ) (there : IsAt P a.committed.pc k i) where
  abbrev ts : List Tenant
  ts = U.tenants

  abbrev first : ℕ
  first = value_in a (first_of i)

  abbrev second : ℕ
  second = value_in a (second_of i)

  -- it may be let with any next pc that may be predicted
  pub enters : 0 < C.ring → 0 < C.queue → (predicted : ℕ) → predicted < 2 ^ 32 → IfSome (fixed_next i (half_in a) a.committed.pc) (λ x. predicted ≡ x) →
      MayLet P C U k predicted (Known first) (Known second)
  enters ring queue predicted word predicts = record {
    room = let none = nobody_lives ts s.nobody in omega (arith, none, ring);
    queue = λ q. let none = no_access_lives P ts s.nobody in omega (arith, none, queue);
    is_there = there.inside;
    pc = pc_is P a ts sound s ∙ there.place;
    small = word;
    predicts = subst (λ f. IfSome f (λ x. predicted ≡ x)) (sym (λ j. fixed_next (there.is j) (sym s.half j) (pc_is P a ts sound s j))) predicts;
    first_is = ap (λ x. value_of ts (creator P ts (first_of x))) there.is ∙ source_is P a ts sound s (first_of i);
    second_is = ap (λ x. value_of ts (creator P ts (second_of x))) there.is ∙ source_is P a ts sound s (second_of i);
  }

  -- the tenant as it is let
  abbrev pub oldest : ℕ → Tenant
  oldest predicted = let_in a P C U i k predicted

  module _ (o : Outcome) (e : Executes P a i o) where
    outcome_is : outcome_of (instr_of P k) (front_half P ts) (front_pc ts) first second (length P.bytes) ≡ o
    outcome_is = (λ j. outcome_of (there.is j) (sym s.half j) (pc_is P a ts sound s j) first second (length P.bytes)) ∙ e.is

    -- the tenant once it has retired
    abbrev pub left_oldest : ℕ → Tenant
    left_oldest predicted = gone_as P C a U s k predicted first second (kind (instr_of P k).op) o

    pub oldest_settles : (predicted : ℕ) → IsNoStop o → Settled P (left a i o) (left_oldest predicted ∷ ts)
    oldest_settles predicted goes =
        subst (λ z. Settled P z (left_oldest predicted ∷ ts)) (λ j. left_at a (there.is j) (sym s.half j) (pc_is P a ts sound s j) o)
        (leaves P C a U s k predicted first second o outcome_is (λ stores. ap (λ x. value_in a (second_of x)) (sym there.is)) goes)

    module _ (predicted : ℕ) (W : UpdateUnit) (ys : List Tenant) where
      runs : Reaches IsPlain P C (with_tenants W (ys ++ oldest predicted ∷ ts)) (with_tenants W (stay predicted o ys ++ executed P (loaded_at a (instr_of P k)) (oldest predicted) o ∷ ts))
      runs =
          executes P C W ys (oldest predicted) ts s.nobody (λ at. little_endian (slice_index a.committed.memory) at (width (instr_of P k).op)) (record { live = refl; fate = refl; needs = refl }) refl
          (λ at loads is. reads_is P a ts sound s (instr_of P k) at (load_in P (oldest predicted) at loads is)) o outcome_is

      -- the oldest is executed and retires; where it goes on elsewhere than predicted, ys are squashed
      pub oldest_reaches : Reaches IsPlain P C (with_tenants W (ys ++ oldest predicted ∷ ts)) (with_tenants W (stay predicted o ys ++ left_oldest predicted ∷ ts))
      oldest_reaches = then_on runs (leads_out P C a U s k predicted first second W (stay predicted o ys) o outcome_is)

-- the oldest is a stop; ys, who are after it, commit nothing
pub oldest_stops : (P : Program) (C : Sizes) (U : UpdateUnit) (sound : IsSound P U.tenants) (a : ArchitecturalState) (s : Settled P a U.tenants) (i : Instr) (k : ℕ) (there : IsAt P a.committed.pc k i) (c : Stop) (e : Executes P a i (Stops c)) (predicted : ℕ) (W : UpdateUnit) (ys : List Tenant) →
    committed P (ys ++ left_oldest P C U sound a s i k there (Stops c) e predicted ∷ U.tenants) ≡ committed P U.tenants →
    MovesTo IsPlain P C (with_tenants W (ys ++ oldest P C U sound a s i k there predicted ∷ U.tenants)) (HasStopped P a.committed c)
oldest_stops P C U sound a s i k there c e predicted W ys quiet =
    then_moves (runs P C U sound a s i k there (Stops c) e predicted W ys)
    (stops_out P C a U s k predicted (value_in a (first_of i)) (value_in a (second_of i)) W ys c (outcome_is P C U sound a s i k there (Stops c) e) quiet)

-- One instruction in flight: it is let with the next pc that it computes, executed and retires

-- an instruction goes on at a word
pub next_small : (first : Bool) (pc : ℕ) (o : Outcome) → pc < 2 ^ 32 → NextIsWord o → next_by (behind_by first pc) o < 2 ^ 32
next_small first pc o small word = go o word
  where
    after : (f : Bool) → behind_by f pc < 2 ^ 32
    after true = small
    after false = omega arith

    go : (q : Outcome) → NextIsWord q → next_by (behind_by first pc) q < 2 ^ 32
    go (Value v) h = after first
    go (Next x) h = h
    go (Address at) h = after first
    go (Pair low high) h = after first
    go (Stops c) h = after first

module _ (P : Program) (C : Sizes) (ring : 0 < C.ring) (queue : 0 < C.queue) (U : UpdateUnit) (reached : IsReached P C U) (a : ArchitecturalState) (s : Settled P a U.tenants) (i : Instr) where
  sound : IsSound P U.tenants
  sound = sound_of P C U reached

  module _ (o : Outcome) (e : Executes P a i o) where
    abbrev goes : ℕ
    goes = next_by (behind_by (is_first_half i.op (half_in a)) a.committed.pc) o

    at : (k : ℕ) × IsAt P a.committed.pc k i
    at = found P a.committed.pc i e.is_next

    abbrev lone : Tenant
    lone = oldest P C U sound a s i at.0 at.1 goes

    lets : Reaches IsPlain P C U (with_let U lone)
    lets =
        once U (with_let U lone) (Let at.0 goes (Known (value_in a (first_of i))) (Known (value_in a (second_of i)))) tt
        (enters P C U sound a s i at.0 at.1 ring queue goes (next_small _ a.committed.pc o e.small e.word)
        (subst (λ q. IfSome (fixed_next i (half_in a) a.committed.pc) (λ x. next_by (behind_by (is_first_half i.op (half_in a)) a.committed.pc) q ≡ x)) e.is
        (computed_fits a.committed.pc (value_in a (first_of i)) (value_in a (second_of i)) (length P.bytes) i (half_in a)))) refl

    pub issue_moves : IsNoStop o → MovesTo IsPlain P C U (λ V. Settled P (left a i o) V.tenants)
    issue_moves no_stop = record {
      unit = with_let U (left_oldest P C U sound a s i at.0 at.1 o e goes);
      reaches = then_on lets (subst (λ ys. Reaches IsPlain P C (with_let U lone) (with_tenants (with_let U lone) (ys ++ left_oldest P C U sound a s i at.0 at.1 o e goes ∷ U.tenants)))
          (nobody_stays goes o) (oldest_reaches P C U sound a s i at.0 at.1 o e goes (with_let U lone) []));
      stands = oldest_settles P C U sound a s i at.0 at.1 o e goes no_stop;
    }

  pub issue_stops : (c : Stop) → Executes P a i (Stops c) → MovesTo IsPlain P C U (HasStopped P a.committed c)
  issue_stops c e =
      then_moves (lets (Stops c) e) (oldest_stops P C U sound a s i (at (Stops c) e).0 (at (Stops c) e).1 c e (goes (Stops c) e) (with_let U (lone (Stops c) e)) [] refl)

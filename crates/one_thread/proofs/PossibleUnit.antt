-- All steps that the fields permit, in a unit that they stand for.
use Rattle.std.proofs.lemmas.Grind.{common_steps}
use Rattle.std.proofs.Common.{◌≡◌, ℕ, ◌<◌, ◌≤◌, Bool, true, false, cond, ◌&&◌, List, [], ◌∷◌, ◌++◌, length, take, map, Option, Some, None, refl, sym, ap, ◌∙◌, arith, eqb}
use Rattle.std.specs.Prelude.{nat_lt, option_map, slice_get}
use Rattle.std.specs.List.{AllByRecursion}
use Rattle.std.proofs.lemmas.List.{map-append}
use Rattle.std.proofs.lemmas.Bool.{le-ltb}
use Rattle.instructions.specs.Instruction.{is_access, kind, second_of}
use Rattle.instructions.specs.Programs.{Program, instr_at}
use Rattle.instructions.specs.declared.instr.Instr.{Instr}
use Rattle.instructions.specs.declared.op.Kind.{Kind}
use Rattle.instructions.specs.declared.op.Kind.TheVariants.{Stores}
use Rattle.instructions.specs.declared.stop.Stop.{Stop}
use Rattle.inorder.specs.Steps.{IsNoRetiredStop}
use Rattle.inorder.specs.Tenants.{Fate, Live, Retired, Standing, Stopped, Tenant, instr, is_live, is_live_access, kind_of, stands_live}
use Rattle.inorder.specs.Unit.{Sizes, UpdateUnit, at, front_pc, how_many}
use Rattle.inorder.specs.Moves.{IsReached}
use Rattle.one_thread.specs.declared.dispatch.Fetched.{Fetched}
use Rattle.one_thread.specs.declared.pipeline.Pipeline.{Pipeline}
use Rattle.one_thread.specs.declared.possible.Step.{Step}
use Rattle.one_thread.specs.declared.possible.Step.TheVariants.{Recover, Retire}
use Rattle.one_thread.specs.declared.window.Missed.{Missed}
use Rattle.one_thread.specs.declared.station.Station.{Station}
use Rattle.one_thread.specs.Changes.{NextOf, registers_of}
use Rattle.one_thread.specs.Loads.{load_in}
use Rattle.one_thread.specs.Notes.{miss_in, settled_by}
use Rattle.one_thread.specs.Possible.{Possible, ToLet, ToLoad, ToRecover, ToRetire, ToRun, can_be_claimed, can_be_let, can_be_loaded, can_recover, each_that}
use Rattle.one_thread.specs.Possible.{first_some, fits_in, has_ended, has_stopped, oldest_live, possible, retirement, stopped_by}
use Rattle.one_thread.specs.Stages.{CannotLet, FirstMiss, NoInstr, NoRoom, QueueFull}
use Rattle.one_thread.specs.StandsFor.{HasStopped, StandsFor, sizes}
use Rattle.one_thread.specs.Steps.{ArePossible, given_steps, load_at, loads_of, named, next_let, recovery, retirement_of, run_at, runs_of}
use Rattle.one_thread.specs.Window.{next_in, operands_in, source_in, stage_of, station_of, window}
use Rattle.one_thread.proofs.CanLeave.{source_first}
use Rattle.one_thread.proofs.Known.{Knows, knows, split_of}
use Rattle.one_thread.proofs.Found.{Found, found}
use Rattle.inorder.proofs.OneCaller.Middle.{all_from, sound_from, still_from}
use Rattle.one_thread.proofs.Listed.{first_given, none_given}
use Rattle.one_thread.proofs.PossibleSteps.{claims_alike, loads_alike, misses_alike, same_steps}
use Rattle.one_thread.proofs.Tests.{HasSources, has_sources}
use Rattle.one_thread.proofs.Windows.{front_worth, window_accesses, window_if, window_length}

-- The end of a unit

goes_on : (st : Standing) (f : Fate) → (st ≡ Retired → (c : Stop) → f ≡ Stopped c → ⊥) → stopped_by st f ≡ false
goes_on st f h = grind (arith, common_steps)

pub none_stopped : (ts : List Tenant) → AllByRecursion IsNoRetiredStop ts → has_stopped ts ≡ false
none_stopped [] h = refl
none_stopped (t ∷ ts) h = ap (λ b. cond b true (has_stopped ts)) (goes_on t.standing t.fate h.0) ∙ none_stopped ts h.1

pub one_stopped : (ts : List Tenant) (c : Stop) → HasStopped ts c → has_stopped ts ≡ true
one_stopped [] c h = let no : None ≡ Some h.tenant = h.is in absurd (cc)
one_stopped (t ∷ ts) c h = go (eqb h.p (length ts)) refl (one_stopped ts c)
  where
    go : (b : Bool) → eqb h.p (length ts) ≡ b → (HasStopped ts c → has_stopped ts ≡ true) → has_stopped (t ∷ ts) ≡ true
    go true e more =
        let both : Some t ≡ Some h.tenant = sym (ap (λ b. cond b (Some t) (at ts h.p)) e) ∙ h.is in
        let same : t ≡ h.tenant = cc both in
        ap (λ s. cond (stopped_by s t.fate) true (has_stopped ts)) (ap (λ x. x.standing) same ∙ h.retired)
        ∙ ap (λ f. cond (stopped_by Retired f) true (has_stopped ts)) (ap (λ x. x.fate) same ∙ h.fate)
    go false e more =
        let deeper : at ts h.p ≡ Some h.tenant = sym (ap (λ b. cond b (Some t) (at ts h.p)) e) ∙ h.is in
        let rest = more (record { p = h.p; tenant = h.tenant; is = deeper; retired = h.retired; fate = h.fate }) in
        on (stopped_by t.standing t.fate) rest
      where
        on : (x : Bool) → has_stopped ts ≡ true → cond x true (has_stopped ts) ≡ true
        on true r = refl
        on false r = r

-- The let

pub fits : (P : Program) (queue : ℕ) (ts : List Tenant) (i : Instr) (b : Bool) → is_access (kind i.op) ≡ b → (b ≡ true → how_many (is_live_access P) ts < queue) →
    fits_in P queue ts (Some i) ≡ true
fits P queue ts i b e h = grind (arith, common_steps)

pub lt_true : (a b : ℕ) → a < b → nat_lt a b ≡ true
lt_true a b h = grind arith

le_false : (a b : ℕ) → b ≤ a → nat_lt a b ≡ false
le_false a b h = le-ltb a b h

and_false : (a : Bool) → a && false ≡ false
and_false a = grind (arith, common_steps)

pub let_alike : (b : Pipeline) (U : UpdateUnit) (next : Option Fetched) → b.over ≡ None → IsReached b.program.now (sizes b) U → StandsFor b U → NextOf b next →
    map named (next_let next) ≡ cond (can_be_let b.program.now (sizes b) U.tenants) (ToLet ∷ []) []
let_alike b U next none r s h = go next h
  where
    P : Program
    P = b.program.now

    ts : List Tenant
    ts = U.tenants

    k : Knows b U
    k = knows b U none r s

    long : length b.window ≡ how_many is_live ts
    long = ap length s.window ∙ window_length P ts

    count : Rattle.one_thread.specs.Window.accesses b.window (length b.window) ≡ how_many (is_live_access P) ts
    count = ap (λ l. Rattle.one_thread.specs.Window.accesses l (length l)) s.window ∙ window_accesses P ts

    front : next_in b.committed.pc b.window ≡ front_pc ts
    front = ap (next_in b.committed.pc) s.window ∙ ap (λ c. next_in c.pc (window P ts)) s.committed ∙ sym (front_worth P ts k.sound k.stops)

    there : (o : Option Instr) → instr_at P (next_in b.committed.pc b.window) ≡ o → instr_at P (front_pc ts) ≡ o
    there o e = ap (instr_at P) (sym front) ∙ e

    refuse : CannotLet P b.ring b.queue b.committed.pc b.window → can_be_let P (sizes b) ts ≡ false
    refuse (NoRoom full) = ap (λ x. x && fits_in P b.queue ts (instr_at P (front_pc ts))) (le_false (how_many is_live ts) b.ring (omega (arith, full, long)))
    refuse (NoInstr e) = ap (λ o. nat_lt (how_many is_live ts) b.ring && fits_in P b.queue ts o) (there None e) ∙ and_false (nat_lt (how_many is_live ts) b.ring)
    refuse (QueueFull q) =
        ap (λ o. nat_lt (how_many is_live ts) b.ring && fits_in P b.queue ts o) (there (Some q.instr) q.is)
        ∙ ap (λ x. nat_lt (how_many is_live ts) b.ring && cond x (nat_lt (how_many (is_live_access P) ts) b.queue) true) q.reaches
        ∙ ap (λ x. nat_lt (how_many is_live ts) b.ring && x) (le_false (how_many (is_live_access P) ts) b.queue (omega (arith, q.full, count)))
        ∙ and_false (nat_lt (how_many is_live ts) b.ring)

    go : (next : Option Fetched) → NextOf b next → map named (next_let next) ≡ cond (can_be_let P (sizes b) ts) (ToLet ∷ []) []
    go None h = ap (λ x. cond x (ToLet ∷ []) []) (sym (refuse h))
    go (Some f) h =
        let is : instr_at P (next_in b.committed.pc b.window) ≡ Some f.instr = ap (instr_at P) (sym h.place) ∙ h.is in
        let room : nat_lt (how_many is_live ts) b.ring ≡ true = lt_true (how_many is_live ts) b.ring (omega (arith, h.room, long)) in
        let found : fits_in P b.queue ts (instr_at P (front_pc ts)) ≡ true =
        ap (fits_in P b.queue ts) (there (Some f.instr) is)
        ∙ fits P b.queue ts f.instr (is_access (kind f.instr.op)) refl (λ q. let few = h.free q in omega (arith, few, count)) in
        ap (λ x. cond x (ToLet ∷ []) [])
        (sym (ap (λ x. x && fits_in P b.queue ts (instr_at P (front_pc ts))) room ∙ found))

-- The recovery

pub recovery_alike : (b : Pipeline) (U : UpdateUnit) (miss : Option Missed) → StandsFor b U → FirstMiss b.window miss →
    map named (recovery miss) ≡ take 1 (each_that can_recover ToRecover U.tenants)
recovery_alike b U miss s h = go miss h
  where
    P : Program
    P = b.program.now

    step : ℕ → ℕ → Step
    step k x = Recover (record { at = k; next = x })

    all : map named (given_steps miss_in (λ k x. Recover (record { at = k; next = x })) b.window (length b.window)) ≡ each_that can_recover ToRecover U.tenants
    all =
        ap (λ W. map named (given_steps miss_in (λ k x. Recover (record { at = k; next = x })) W (length W))) s.window
        ∙ same_steps miss_in (λ k x. Recover (record { at = k; next = x })) ToRecover (λ k x. refl) can_recover P U.tenants (misses_alike P U.tenants)

    first : (xs : List Step) → map named (take 1 xs) ≡ take 1 (map named xs)
    first xs = grind (arith, common_steps)

    go : (miss : Option Missed) → FirstMiss b.window miss → map named (recovery miss) ≡ take 1 (each_that can_recover ToRecover U.tenants)
    go None h =
        ap (λ xs. take 1 (map named xs)) (sym (none_given miss_in (λ k x. Recover (record { at = k; next = x })) b.window (length b.window) h)) ∙ ap (take 1) all
    go (Some m) h =
        ap (map named) (sym (first_given miss_in (λ k x. Recover (record { at = k; next = x })) b.window m.at m.next (length b.window) h.inside h))
        ∙ first (given_steps miss_in (λ k x. Recover (record { at = k; next = x })) b.window (length b.window)) ∙ ap (take 1) all

-- The retirement

oldest_alike : (P : Program) (ts : List Tenant) → slice_get (window P ts) 0 ≡ option_map (station_of P) (oldest_live ts)
oldest_alike P [] = refl
oldest_alike P (t ∷ ts) = go (is_live t) refl (oldest_alike P ts)
  where
    end : (xs : List Station) (o : Option Tenant) → slice_get xs 0 ≡ option_map (station_of P) o → slice_get (xs ++ station_of P t ∷ []) 0 ≡ option_map (station_of P) (first_some o (Some t))
    end [] None e = refl
    end [] (Some u) e = absurd (cc)
    end (x ∷ xs) None e = absurd (cc)
    end (x ∷ xs) (Some u) e = e

    same : (o : Option Tenant) → first_some o None ≡ o
    same o = grind (arith, common_steps)

    go : (b : Bool) → is_live t ≡ b → slice_get (window P ts) 0 ≡ option_map (station_of P) (oldest_live ts) →
        slice_get (window P (t ∷ ts)) 0 ≡ option_map (station_of P) (first_some (oldest_live ts) (cond (is_live t) (Some t) None))
    go b e more = grind (arith, common_steps, window_if, ts, end, same)

ended_alike : (k : Kind) (second : Option ℕ) (f : Fate) → (k ≡ Stores → (v : ℕ) × (second ≡ Some v)) → settled_by k (stage_of f) ≡ has_ended k second f
ended_alike k second f h = grind (arith, common_steps)

none_oldest : (P : Program) (ts : List Tenant) → window P ts ≡ [] → oldest_live ts ≡ None
none_oldest P ts e = go (oldest_live ts) (sym (oldest_alike P ts) ∙ ap (λ l. slice_get l 0) e)
  where
    go : (o : Option Tenant) → option_map (station_of P) o ≡ None → o ≡ None
    go o h = grind (arith, common_steps)

oldest_is : (P : Program) (ys : List Tenant) (t : Tenant) (ts : List Tenant) → t.standing ≡ Live → window P ts ≡ [] → oldest_live (ys ++ t ∷ ts) ≡ Some t
oldest_is P [] t ts l e = ap (λ o. first_some o (cond (is_live t) (Some t) None)) (none_oldest P ts e) ∙ ap (λ st. cond (stands_live st) (Some t) None) l
oldest_is P (y ∷ ys) t ts l e = ap (λ o. first_some o (cond (is_live y) (Some y) None)) (oldest_is P ys t ts l e)

no_station : (xs : List Station) → length xs ≡ 0 → xs ≡ []
no_station xs e = grind (arith, common_steps)

pub retire_alike : (b : Pipeline) (U : UpdateUnit) → b.over ≡ None → IsReached b.program.now (sizes b) U → StandsFor b U →
    map named (retirement_of (slice_get b.window 0)) ≡ retirement b.program.now (oldest_live U.tenants)
retire_alike b U none r s = go (slice_get b.window 0) refl
  where
    P : Program
    P = b.program.now

    k : Knows b U
    k = knows b U none r s

    nobody : (o : Option Tenant) → option_map (station_of P) o ≡ None → [] ≡ retirement P o
    nobody o e = grind (arith, common_steps)

    one : (x : Bool) → map named (cond x (Retire ∷ []) []) ≡ cond x (ToRetire ∷ []) []
    one x = grind (arith, common_steps)

    some : (w : Station) → Found P U.tenants 0 w → map named (cond (settled_by (kind w.instr.op) w.stage) (Retire ∷ []) []) ≡ retirement P (oldest_live U.tenants)
    some w f =
        let empty : window P f.ts ≡ [] = no_station (window P f.ts) (sym f.place) in
        let sp = split_of b U f.ys f.t f.ts k f.split f.live in
        let src : HasSources P (registers_of b) f.t f.ts =
        has_sources P (registers_of b) f.t f.ts (sound_from P f.ys (f.t ∷ f.ts) sp.sound) (still_from f.ys (f.t ∷ f.ts) sp.still)
        (all_from IsNoRetiredStop f.ys (f.t ∷ f.ts) sp.stops).1 sp.before f.live in
        let there = source_first (registers_of b) (second_of (instr P f.t)) in
        let data' : f.t.second.value ≡ Some there.0 = src.second ∙ ap (λ l. source_in (registers_of b) l (second_of (instr P f.t))) empty ∙ there.1 in
        ap (λ x. map named (cond (settled_by (kind x.instr.op) x.stage) (Retire ∷ []) [])) (sym f.station)
        ∙ one (settled_by (kind_of P f.t) (stage_of f.t.fate))
        ∙ ap (λ x. cond x (ToRetire ∷ []) []) (ended_alike (kind_of P f.t) f.t.second.value f.t.fate (λ q. (there.0, data')))
        ∙ ap (retirement P) (sym (ap oldest_live f.split ∙ oldest_is P f.ys f.t f.ts f.live empty))

    go : (o : Option Station) → slice_get b.window 0 ≡ o → map named (retirement_of o) ≡ retirement P (oldest_live U.tenants)
    go o e = grind (arith, common_steps, nobody, oldest_alike, some, found)

-- The executions and the loads

pub runs_alike : (b : Pipeline) (U : UpdateUnit) → Knows b U → StandsFor b U →
    map named (runs_of (registers_of b) b.window (length b.window)) ≡ each_that (can_be_claimed b.program.now) ToRun U.tenants
runs_alike b U k s =
    let P = b.program.now in
    let regs = registers_of b in
    ap (λ W. map named (given_steps (operands_in regs) run_at W (length W))) s.window
    ∙ same_steps (operands_in regs) run_at ToRun (λ n x. refl) (can_be_claimed P) P U.tenants (claims_alike P regs [] U.tenants k.sound k.still k.stops k.registers)

pub loads_alike_in : (b : Pipeline) (U : UpdateUnit) → Knows b U → StandsFor b U →
    map named (loads_of (registers_of b) b.committed.memory b.window (length b.window)) ≡ each_that (can_be_loaded b.program.now) ToLoad U.tenants
loads_alike_in b U k s =
    let P = b.program.now in
    let regs = registers_of b in
    let mem = b.committed.memory in
    ap (λ W. map named (given_steps (load_in regs mem) load_at W (length W))) s.window
    ∙ same_steps (load_in regs mem) load_at ToLoad (λ n x. refl) (can_be_loaded P) P U.tenants (loads_alike P regs mem [] U.tenants k.sound k.still k.stops k.registers)

-- All of them

pub listed_is : (P : Program) (C : Sizes) (U : UpdateUnit) (recovers lets runs loads retires : List Possible) → AllByRecursion IsNoRetiredStop U.tenants →
    recovers ≡ take 1 (each_that can_recover ToRecover U.tenants) → lets ≡ cond (can_be_let P C U.tenants) (ToLet ∷ []) [] →
    runs ≡ each_that (can_be_claimed P) ToRun U.tenants → loads ≡ each_that (can_be_loaded P) ToLoad U.tenants → retires ≡ retirement P (oldest_live U.tenants) →
    recovers ++ lets ++ runs ++ loads ++ retires ≡ possible P C U
listed_is P C U recovers lets runs loads retires stops a l r m z = grind (arith, common_steps, none_stopped)

pub possible_is : (b : Pipeline) (U : UpdateUnit) (steps : List Step) → b.over ≡ None → IsReached b.program.now (sizes b) U → StandsFor b U → ArePossible b steps →
    map named steps ≡ possible b.program.now (sizes b) U
possible_is b U steps none r s h =
    ap (map named) h.list
    ∙ map-append named (recovery h.miss ++ next_let h.next ++ runs ++ loads) retires
    ∙ ap (λ l. l ++ map named retires) (map-append named (recovery h.miss ++ next_let h.next ++ runs) loads)
    ∙ ap (λ l. l ++ map named loads ++ map named retires) (map-append named (recovery h.miss ++ next_let h.next) runs)
    ∙ ap (λ l. l ++ map named runs ++ map named loads ++ map named retires) (map-append named (recovery h.miss) (next_let h.next))
    ∙ listed_is b.program.now (sizes b) U (map named (recovery h.miss)) (map named (next_let h.next)) (map named runs) (map named loads) (map named retires) k.stops
    (recovery_alike b U h.miss s h.is_miss) (let_alike b U h.next none r s h.is_next) (runs_alike b U k s) (loads_alike_in b U k s) (retire_alike b U none r s)
  where
    k : Knows b U
    k = knows b U none r s

    runs : List Step
    runs = runs_of (registers_of b) b.window (length b.window)

    loads : List Step
    loads = loads_of (registers_of b) b.committed.memory b.window (length b.window)

    retires : List Step
    retires = retirement_of (slice_get b.window 0)

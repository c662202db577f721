-- The turn Loaded is steps of the unit.
use Rattle.std.proofs.Common.{arith}
use Rattle.std.proofs.lemmas.Grind.{common_steps}
use Rattle.std.proofs.Common.{rules, ◌≡◌, ◌≢◌, ℕ, List, [], ◌∷◌, ◌++◌, length, take, Some, None, refl, sym, ap, ◌∙◌, subst}
use Rattle.std.specs.Prelude.{slice_get, slice_set, unwrap_or}
use Rattle.instructions.specs.Instruction.{width}
use Rattle.instructions.specs.Operations.{loaded}
use Rattle.instructions.specs.Programs.{Program}
use Rattle.instructions.specs.declared.op.Kind.{Kind}
use Rattle.instructions.specs.declared.op.Kind.TheVariants.{Loads}
use Rattle.inorder.specs.declared.history.Act.TheVariants.{Load}
use Rattle.inorder.specs.declared.history.Step.{Step}
use Rattle.inorder.specs.declared.history.Step.TheVariants.{On}
use Rattle.inorder.specs.Committed.{ahead, committed}
use Rattle.inorder.specs.Loads.{queue_of}
use Rattle.inorder.specs.Memory.{raw_at, load_value, raw}
use Rattle.inorder.specs.Steps.{IsNoRetiredStop, MayLoad, settled}
use Rattle.inorder.specs.Tenants.{Addr, Fate, Live, Tenant, instr, kind_of}
use Rattle.inorder.specs.Unit.{Sizes, older}
use Rattle.inorder.proofs.Loads.{answers, forward, from_memory}
use Rattle.inorder.proofs.Sound.{IsSound}
use Rattle.lsq.specs.declared.answer.Answer.{Answer}
use Rattle.lsq.specs.declared.answer.Answer.TheVariants.{Blocked, Forward, Memory}
use Rattle.lsq.specs.LoadRule.{answer, answer_over}
use Rattle.inorder.specs.Loads.{place_of}
use Rattle.inorder.specs.Moves.{Leads, with_tenants}
use Rattle.inorder.proofs.OneCaller.Execution.{ActRun, loaded_run}
use Rattle.inorder.proofs.OneCaller.Middle.{all_from, at_middle, older_middle, sound_from, still_from}
use Rattle.inorder.proofs.OneCaller.Sequences.{reach_on}
use Rattle.one_thread.specs.declared.bench.Turn.TheVariants.{Loaded}
use Rattle.one_thread.specs.declared.pipeline.Pipeline.{Pipeline}
use Rattle.one_thread.specs.declared.station.Stage.TheVariants.{Done as IsDone}
use Rattle.one_thread.specs.declared.station.Station.{Station}
use Rattle.one_thread.specs.Blocked.{IsUnblocked}
use Rattle.one_thread.specs.Changes.{registers_of}
use Rattle.one_thread.specs.Producers.{gives}
use Rattle.one_thread.specs.Loads.{entries, load_in, loaded_over, value_by, waits, waits_by}
use Rattle.one_thread.specs.StandsFor.{sizes}
use Rattle.one_thread.specs.Window.{stage_of, station_of, window}
use Rattle.one_thread.proofs.Entries.{answered_waits}
use Rattle.one_thread.proofs.Noted.{given_station}
use Rattle.one_thread.proofs.Queues.{answer_like, queue_like}
use Rattle.one_thread.proofs.Turns.{FoundIn, found_in}
use Rattle.one_thread.proofs.Known.{IsSplit, knows, split_of}
use Rattle.one_thread.proofs.Changed.{age_is, changed_stands, set_shown}
use Rattle.one_thread.specs.Possible.{ToLoad}
use Rattle.one_thread.proofs.Moved.{MovedAs, MovesAs}

-- Loaded

pub record IsWaiting (k : Kind) (f : Fate) (a : ℕ) : Type 0 where
  pub kind : k ≡ Loads
  pub fate : f ≡ Addr a

waiting : (k : Kind) (f : Fate) (a : ℕ) → waits_by k (stage_of f) ≡ Some a → IsWaiting k f a
waiting k f a e = search rules

-- a load that the rule answers may be loaded, with that value
pub record CanLoad (P : Program) (ts : List Tenant) (t : Tenant) (v : ℕ) : Type 0 where
  pub may : MayLoad P ts t
  pub value : load_value P ts t ≡ v
  pub unblocked : IsUnblocked P ts t

can_load : (P : Program) (ys : List Tenant) (t : Tenant) (ts : List Tenant) (a v : ℕ) (mem : List ℕ) → IsSound P (ys ++ t ∷ ts) → t.standing ≡ Live → kind_of P t ≡ Loads → t.fate ≡ Addr a →
    mem ≡ (committed P (ys ++ t ∷ ts)).memory → value_by (answer_over (queue_of P ts) a (width (instr P t).op)) mem (instr P t).op a ≡ Some v → CanLoad P ts t v
can_load P ys t ts a v mem s live ek ef em e = go (answer_over (queue_of P ts) a w) refl
  where
    U : List Tenant
    U = ys ++ t ∷ ts

    p : ℕ
    p = length ts

    w : ℕ
    w = width (instr P t).op

    asks : answer (queue_of P U) (place_of P U p) ≡ answer_over (queue_of P ts) a w
    asks = answers P U p t a s (at_middle ys t ts) live ek ef ∙ ap (λ l. answer_over (queue_of P l) a w) (older_middle ys t ts)

    free : (x : Answer) → answer_over (queue_of P ts) a w ≡ x → ((k : ℕ) → x ≢ Blocked k) → IsUnblocked P ts t
    free x q differs b place eb h =
        let addresses : Addr a ≡ Addr b = sym ef ∙ eb in
        let same : a ≡ b = cc addresses in
        differs place (sym q ∙ ap (λ y. answer_over (queue_of P ts) y w) same ∙ h)

    given : (n : ℕ) → MayLoad P (older U p) t → raw_at P (older U p) (instr P t) a ≡ Some n → loaded (instr P t).op n ≡ v → IsUnblocked P ts t → CanLoad P ts t v
    given n m q l unblocked =
        let r : raw_at P ts (instr P t) a ≡ Some n = ap (λ x. raw_at P x (instr P t) a) (sym (older_middle ys t ts)) ∙ q in
        record {
          may = subst (λ x. MayLoad P x t) (older_middle ys t ts) m;
          value = ap (λ x. loaded (instr P t).op (unwrap_or (raw P ts (instr P t) x) 0)) ef ∙ ap (λ x. loaded (instr P t).op (unwrap_or x 0)) r ∙ l;
          unblocked = unblocked;
        }

    go : (x : Answer) → answer_over (queue_of P ts) a w ≡ x → CanLoad P ts t v
    go (Forward n) q =
        let f = forward P U p t a s (at_middle ys t ts) live ek ef n (asks ∙ q) in
        let is : Some (loaded (instr P t).op n) ≡ Some v = sym (ap (λ x. value_by x mem (instr P t).op a) q) ∙ e in
        given n f.0 f.1 (cc is) (free (Forward n) q (λ k h. let no : Forward n ≡ Blocked k = h in absurd (cc)))
    go Memory q = grind (arith, common_steps, from_memory, p, t, a, at_middle, ys, ts, asks, mem, w, given, free)
    go (Blocked k) q = let no : None ≡ Some v = sym (ap (λ x. value_by x mem (instr P t).op a) q) ∙ e in absurd (cc)

abbrev pub answered_as : Station → ℕ → Station
answered_as w v = record w { stage = IsDone; made = Some v }

abbrev pub load_steps : List Tenant → List Step
load_steps ts = On (length ts) Load ∷ []

pub loaded_as : (b later : Pipeline) (i : ℕ) (w : Station) (value : ℕ) → b.over ≡ None → gives (load_in (registers_of b) b.committed.memory) b.window i ≡ Some value →
    slice_get b.window i ≡ Some w → later.window ≡ slice_set b.window i (answered_as w value) → later ≡ record b { window = later.window } →
    MovesAs b (Some (ToLoad i)) (Loaded i) later
loaded_as b later i w value none here is new rest U r s = subst (MovedAs b U (Some (ToLoad i)) (Loaded i)) (sym rest) (go (found_in P b.window U.tenants i w s.window is))
  where
    P : Program
    P = b.program.now

    C : Sizes
    C = sizes b

    regs : List ℕ
    regs = registers_of b

    mem : List ℕ
    mem = b.committed.memory

    now : Pipeline
    now = record b { window = later.window }

    go : FoundIn P b.window U.tenants i w → MovedAs b U (Some (ToLoad i)) (Loaded i) now
    go f = with (loaded_run P C 0 U ys t ts sp.sound sp.still sp.stops can.may)
      where
        t : Tenant
        t = f.found.t

        ts : List Tenant
        ts = f.found.ts

        ys : List Tenant
        ys = f.found.ys

        W : List Station
        W = window P ts

        sp : IsSplit b ys t ts
        sp = split_of b U ys t ts (knows b U none r s) f.found.split f.found.live

        given : load_in regs mem W (station_of P t) ≡ Some value
        given = ap (λ l. load_in regs mem l (station_of P t)) (sym f.taken) ∙ ap (load_in regs mem (take i b.window)) f.found.station ∙ given_station (load_in regs mem) b.window i w value is here

        asks : (a : ℕ) × (waits (station_of P t) ≡ Some a)
        asks = answered_waits regs mem W (station_of P t) value given

        a : ℕ
        a = asks.0

        is_waiting : IsWaiting (kind_of P t) t.fate a
        is_waiting = waiting (kind_of P t) t.fate a asks.1

        same : answer_over (queue_of P ts) a (width (instr P t).op) ≡ answer_over (entries regs W (length W)) a (width (instr P t).op)
        same =
            sym (answer_like (queue_of P ts) (entries (ahead P ts).registers W (length W)) a (width (instr P t).op)
            (queue_like P ts (sound_from P ys (t ∷ ts) sp.sound).1 (all_from IsNoRetiredStop ys (t ∷ ts) sp.stops).1 (still_from ys (t ∷ ts) sp.still).1))
            ∙ ap (λ g. answer_over (entries g W (length W)) a (width (instr P t).op)) (sym sp.before)

        can : CanLoad P ts t value
        can =
            can_load P ys t ts a value mem sp.sound f.found.live is_waiting.kind is_waiting.fate (ap (λ c. c.memory) s.committed ∙ ap (λ X. (committed P X).memory) f.found.split)
            (ap (λ x. value_by x mem (instr P t).op a) same ∙ sym (ap (loaded_over (entries regs W (length W)) mem (instr P t).op) asks.1) ∙ given)

        u : Tenant
        u = settled P ts t

        shown : station_of P u ≡ answered_as w value
        shown = ap (answered_as (station_of P t)) can.value ∙ ap (λ w. answered_as w value) f.found.station

        with : ActRun P C 0 U ys t u ts (load_steps ts) → MovedAs b U (Some (ToLoad i)) (Loaded i) now
        with k =
            let leads : Leads P C 0 U (k.delivers ++ load_steps ts) (with_tenants U k.later) = subst
            (λ X. Leads P C 0 (with_tenants U X) (k.delivers ++ load_steps ts) (with_tenants U k.later)) (sym f.found.split) k.leads in
            record {
              unit = with_tenants U k.later;
              reached = reach_on P C 0 U (k.delivers ++ load_steps ts) (with_tenants U k.later) r leads;
              stands = changed_stands b later U ys t u ts (load_steps ts) (answered_as w value) none r s f.found.split f.found.live f.found.live refl
                  (tt, tt) k leads shown (new ∙ set_shown P b.window U.tenants i w (answered_as w value) f);
              does = record {
                goes_on = (knows b U none r s).stops;
                ys = ys;
                tenant = t;
                ts = ts;
                stands = f.found.split;
                aged = age_is b U i w f;
                unblocked = can.unblocked;
                delivers = k.delivers;
                are = k.are;
                leads = leads;
                every = k.still;
              };
              is = refl;
            }

-- The steps that the fields permit are those that are possible in the unit.
use Rattle.std.proofs.lemmas.Grind.{common_steps}
use Rattle.std.proofs.Common.{◌≡◌, ℕ, zero, suc, ◌<◌, ◌≤◌, Bool, true, false, cond, List, [], ◌∷◌, ◌++◌, length, map, Option, refl, sym, ap, ◌∙◌, subst, arith, append_assoc, length-append}
use Rattle.std.specs.Prelude.{◌&&◌, is_none, is_some}
use Rattle.std.specs.List.{AllByRecursion}
use Rattle.std.proofs.lemmas.List.{append-nil, map-append}
use Rattle.instructions.specs.Instruction.{width}
use Rattle.instructions.specs.Programs.{Program}
use Rattle.instructions.specs.declared.instr.Instr.{Instr}
use Rattle.instructions.specs.declared.op.Kind.{Kind}
use Rattle.inorder.specs.Committed.{ahead}
use Rattle.inorder.specs.Loads.{queue_of}
use Rattle.inorder.specs.Steps.{IsNoRetiredStop}
use Rattle.inorder.specs.Tenants.{Fate, Live, Standing, Tenant, instr, is_live, kind_of, missing_of, stands_live}
use Rattle.inorder.specs.Quiescent.{AreQuiescent, IsNotBusy}
use Rattle.inorder.proofs.OneCaller.Left.{ahead_middle}
use Rattle.inorder.proofs.OneCaller.Middle.{sound_from}
use Rattle.inorder.proofs.Sound.{IsSound}
use Rattle.lsq.specs.declared.answer.Answer.{Answer}
use Rattle.lsq.specs.LoadRule.{answer_over}
use Rattle.one_thread.specs.declared.execute.Operands.{Operands}
use Rattle.one_thread.specs.declared.possible.Step.{Step}
use Rattle.one_thread.specs.declared.station.Station.{Station}
use Rattle.one_thread.specs.Producers.{gives}
use Rattle.one_thread.specs.Loads.{entries, load_in, loaded_over, value_by, waits_by}
use Rattle.one_thread.specs.Notes.{miss_in}
use Rattle.one_thread.specs.Possible.{Possible, answered_by, can_be_claimed, can_be_loaded, can_recover, each_that, is_answered, is_miss, is_open}
use Rattle.one_thread.specs.Steps.{given_step, given_steps, named}
use Rattle.one_thread.specs.Window.{miss_of, operands_by, operands_in, stage_of, station_of, where_open, window}
use Rattle.one_thread.proofs.Queues.{answer_like, queue_like}
use Rattle.one_thread.proofs.Tests.{HasSources, gives_here, gives_left, has_sources}
use Rattle.one_thread.proofs.Windows.{window_if, window_length}

-- Where each station gives something exactly if its tenant passes a test, the lists of steps are the same

-- so it is for a tenant after these
pub record IsAlike {X : Type 0} (give : List Station → Station → Option X) (test : List Tenant → Tenant → Bool) (P : Program) (ts : List Tenant)
    (t : Tenant) : Type 0 where
  pub live : is_live t ≡ true → is_some (give (window P ts) (station_of P t)) ≡ test ts t
  pub left : is_live t ≡ false → test ts t ≡ false

-- and for each of these
abbrev pub AreAlike : {X : Type 0} → (List Station → Station → Option X) → (List Tenant → Tenant → Bool) → Program → List Tenant → Type 0
AreAlike give test P [] = Unit {0}
AreAlike give test P (t ∷ ts) = IsAlike give test P ts t × AreAlike give test P ts

module _ {X : Type 0} (give : List Station → Station → Option X) (step : ℕ → X → Step) (name : ℕ → Possible) (is : (k : ℕ) (x : X) → named (step k x) ≡ name k)
    (test : List Tenant → Tenant → Bool) (P : Program) where
  given_left : (xs zs : List Station) (k : ℕ) → k ≤ length xs → given_steps give step (xs ++ zs) k ≡ given_steps give step xs k
  given_left xs zs zero h = refl
  given_left xs zs (suc k) h =
      let less : k < length xs = omega (arith, h) in
      ap (λ l. l ++ given_step step k (gives give (xs ++ zs) k)) (given_left xs zs k (omega (arith, h)))
      ∙ ap (λ o. given_steps give step xs k ++ given_step step k o) (gives_left give xs zs k less)

  given_name : (k : ℕ) (o : Option X) → map named (given_step step k o) ≡ cond (is_some o) (name k ∷ []) []
  given_name k o = grind (arith, common_steps)

  pub same_steps : (ts : List Tenant) → AreAlike give test P ts → map named (given_steps give step (window P ts) (length (window P ts))) ≡ each_that test name ts
  same_steps [] h = refl
  same_steps (t ∷ ts) h = go (is_live t) refl (same_steps ts h.1)
    where
      W : List Station
      W = window P ts

      s : Station
      s = station_of P t

      k : ℕ
      k = length W

      go : (b : Bool) → is_live t ≡ b → map named (given_steps give step W k) ≡ each_that test name ts →
          map named (given_steps give step (window P (t ∷ ts)) (length (window P (t ∷ ts)))) ≡ each_that test name (t ∷ ts)
      go true e more =
          let shown = window_if P t ts true e in
          let long : length (W ++ s ∷ []) ≡ suc k = omega (arith, length-append W (s ∷ [])) in
          ap (λ l. map named (given_steps give step l (length l))) shown
          ∙ ap (λ n. map named (given_steps give step (W ++ s ∷ []) n)) long
          ∙ ap (λ l. map named (l ++ given_step step k (gives give (W ++ s ∷ []) k))) (given_left W (s ∷ []) k (omega arith))
          ∙ ap (λ o. map named (given_steps give step W k ++ given_step step k o)) (gives_here give W [] s)
          ∙ map-append named (given_steps give step W k) (given_step step k (give W s))
          ∙ ap (λ l. l ++ map named (given_step step k (give W s))) more
          ∙ ap (λ l. each_that test name ts ++ l) (given_name k (give W s))
          ∙ ap (λ b. each_that test name ts ++ cond b (name k ∷ []) []) (h.0.live e)
          ∙ ap (λ n. each_that test name ts ++ cond (test ts t) (name n ∷ []) []) (window_length P ts)
      go false e more = grind (arith, common_steps, window_if, append-nil)

-- A test that asks for life first

left_fails : (t : Tenant) (b : Bool) → is_live t ≡ false → is_live t && b ≡ false
left_fails t b e = ap (λ x. x && b) e

live_passes : (t : Tenant) (b : Bool) → is_live t ≡ true → b ≡ is_live t && b
live_passes t b e = sym (ap (λ x. x && b) e)

-- Misses

miss_alike : (f : Fate) → is_some (miss_of (stage_of f)) ≡ is_miss f
miss_alike f = grind (arith, common_steps)

pub misses_alike : (P : Program) (ts : List Tenant) → AreAlike miss_in can_recover P ts
misses_alike P [] = tt
misses_alike P (t ∷ ts) = (
  record {
    live = λ e. miss_alike t.fate ∙ live_passes t (is_miss t.fate) e;
    left = left_fails t (is_miss t.fate);
  },
  misses_alike P ts,
)

-- Claims

needs_alike : (k : Kind) (a b : Option ℕ) → is_some (operands_by k a b) ≡ is_none (missing_of k a b)
needs_alike k a b = grind (arith, common_steps)

open_alike : (f : Fate) (o : Option Operands) → IsNotBusy f → is_some (where_open (stage_of f) o) ≡ is_open f && is_some o
open_alike f o h = grind (arith, common_steps)

claim_alike : (P : Program) (regs : List ℕ) (t : Tenant) (ts : List Tenant) → HasSources P regs t ts → IsNotBusy t.fate →
    is_some (operands_in regs (window P ts) (station_of P t)) ≡ is_open t.fate && is_none (missing_of (kind_of P t) t.first.value t.second.value)
claim_alike P regs t ts src busy = grind (arith, common_steps, open_alike, needs_alike)

pub live_is : (st : Standing) → stands_live st ≡ true → st ≡ Live
live_is st e = grind (arith, common_steps)

-- ys are the tenants after those that are gone over
pub claims_alike : (P : Program) (regs : List ℕ) (ys U : List Tenant) → IsSound P (ys ++ U) → AreQuiescent U → AllByRecursion IsNoRetiredStop U →
    regs ≡ (ahead P (ys ++ U)).registers → AreAlike (operands_in regs) (can_be_claimed P) P U
claims_alike P regs ys [] s h ns e = tt
claims_alike P regs ys (t ∷ ts) s h ns e =
    let step = append_assoc ys (t ∷ []) ts in (
      record {
        live = λ l.
            let live = live_is t.standing l in
            claim_alike P regs t ts (has_sources P regs t ts (sound_from P ys (t ∷ ts) s) h ns.1 (e ∙ ap (λ c. c.registers) (ahead_middle P ys t ts live s)) live) h.0.2
            ∙ live_passes t _ l;
        left = left_fails t _;
      },
      claims_alike P regs (ys ++ t ∷ []) ts (subst (IsSound P) (sym step) s) h.1 ns.1 (e ∙ ap (λ V. (ahead P V).registers) (sym step)),
    )

-- Loads

answer_alike : (x : Answer) (mem : List ℕ) (i : Instr) (a : ℕ) → is_some (value_by x mem i.op a) ≡ is_answered x
answer_alike x mem i a = grind (arith, common_steps)

load_by : (P : Program) (regs mem : List ℕ) (ts : List Tenant) (i : Instr) (k : Kind) (f : Fate) →
    ((a : ℕ) → answer_over (entries regs (window P ts) (length (window P ts))) a (width i.op) ≡ answer_over (queue_of P ts) a (width i.op)) →
    is_some (loaded_over (entries regs (window P ts) (length (window P ts))) mem i.op (waits_by k (stage_of f))) ≡ answered_by P ts i k f
load_by P regs mem ts i k f same = grind (arith, common_steps, answer_alike)

pub loads_alike : (P : Program) (regs mem : List ℕ) (ys U : List Tenant) → IsSound P (ys ++ U) → AreQuiescent U → AllByRecursion IsNoRetiredStop U →
    regs ≡ (ahead P (ys ++ U)).registers → AreAlike (load_in regs mem) (can_be_loaded P) P U
loads_alike P regs mem ys [] s h ns e = tt
loads_alike P regs mem ys (t ∷ ts) s h ns e =
    let step = append_assoc ys (t ∷ []) ts in (
      record {
        live = λ l.
            let same : regs ≡ (ahead P ts).registers = e ∙ ap (λ c. c.registers) (ahead_middle P ys t ts (live_is t.standing l) s) in
            load_by P regs mem ts (instr P t) (kind_of P t) t.fate
            (λ a. ap (λ g. answer_over (entries g W (length W)) a (width (instr P t).op)) same
            ∙ answer_like (queue_of P ts) (entries (ahead P ts).registers W (length W)) a (width (instr P t).op)
            (queue_like P ts (sound_from P ys (t ∷ ts) s).1 ns.1 h.1))
            ∙ live_passes t _ l;
        left = left_fails t _;
      },
      loads_alike P regs mem (ys ++ t ∷ []) ts (subst (IsSound P) (sym step) s) h.1 ns.1 (e ∙ ap (λ V. (ahead P V).registers) (sym step)),
    )
  where
    W : List Station
    W = window P ts

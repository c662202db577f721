-- A refusal is exact: what was taken before is a legal history, and the step that is refused is not allowed after it.
use Rattle.std.proofs.Common.{◌≡◌, ℕ, List, [], ◌∷◌, ◌++◌, length, Option, Some, refl, sym, ap, ◌∙◌, subst, arith}
use Rattle.std.specs.Prelude.{IfSome, slice_get, take}
use Rattle.instructions.specs.Programs.{Program}
use Rattle.inorder.specs.declared.history.Source.TheVariants.{First, Second}
use Rattle.inorder.specs.declared.history.Step.TheVariants.{Let as UnitLet, On as UnitOn, Renew}
use Rattle.inorder.specs.declared.history.Supply.{Supply}
use Rattle.inorder.specs.declared.history.Supply.TheVariants.{From, Known}
use Rattle.inorder.specs.Legal.{Allowed, AreAllowed, MayAct, Taken, applied, reached}
use Rattle.inorder.specs.Steps.{MayLet, MaySupply}
use Rattle.inorder.specs.Unit.{Sizes, UpdateUnit}
use Rattle.replay.specs.declared.dispatch.NoLet.TheVariants.{NoInstruction, NoSupply, OtherNext, OtherPc, QueueFull, RingFull}
use Rattle.replay.specs.declared.step.Reason.{Reason}
use Rattle.replay.specs.declared.step.Reason.TheVariants.{Let as OfLet, On as OfAct}
use Rattle.replay.specs.declared.step.Step.{Step}
use Rattle.replay.specs.declared.step.Step.TheVariants.{Let, On}
use Rattle.replay.specs.declared.tenant.Tenant.{Tenant as HeldTenant}
use Rattle.replay.specs.declared.unit.Unit.{Unit as Held}
use Rattle.replay.specs.Lets.{EachReasonForbidsLet, HasNoSupply, sizes_of, unit_of}
use Rattle.replay.specs.Shown.{shown}
use Rattle.replay.specs.Verdicts.{AreNamed, TakesAll, EachRefusalIsExact, IsForbidden, IsReplay, IsWhy, turned}
use Rattle.replay.proofs.Forbidden.{each_forbids}

-- Lets

-- a source that has no value and may not wait is not supplied
no_supply : (P : Program) (U : UpdateUnit) (station : ℕ) (c : Option ℕ) (how : Supply) →
    HasNoSupply P U station c → ¬ MaySupply P U station c how
no_supply P U station c (Known v) n m = n.value v m
no_supply P U station c From n m = n.waits m

pub each_forbids_let : EachReasonForbidsLet
each_forbids_let u index predicted RingFull first second n m = let room = m.room in omega (arith, n, room)
each_forbids_let u index predicted QueueFull first second n m = let room = m.queue n.0 in let full = n.1 in omega (arith, full, room)
each_forbids_let u index predicted NoInstruction first second n m = let there = m.is_there in omega (arith, n, there)
each_forbids_let u index predicted (OtherPc front) first second n m = n.1 (sym n.0 ∙ m.pc)
each_forbids_let u index predicted (OtherNext x) first second n m =
    n.1 (sym (subst (λ o. IfSome o (λ y. predicted ≡ y)) n.0 m.predicts))
each_forbids_let u index predicted (NoSupply First) first second n m = no_supply _ _ _ _ first n m.first_is
each_forbids_let u index predicted (NoSupply Second) first second n m = no_supply _ _ _ _ second n m.second_is

-- Any step

pub why_forbids : (u : Held) (step : Step) (reason : Reason) → IsWhy u step reason → IsForbidden u step
why_forbids u (Let index predicted) (OfLet r) why (UnitLet i p first second) named may =
    let here = subst (λ n. MayLet u.program.now (sizes_of u) (unit_of u) n p first second) named.0 may in
    each_forbids_let u index predicted r first second why
    (subst (λ n. MayLet u.program.now (sizes_of u) (unit_of u) index n first second) named.1 here)
why_forbids u (Let index predicted) (OfLet r) why (UnitOn q act) named may = named
why_forbids u (Let index predicted) (OfLet r) why Renew named may = named
why_forbids u (Let index predicted) (OfAct r) why taken named may = why
why_forbids u (On p deed) (OfAct r) why (UnitOn q act) named may =
    let here = subst (λ n. MayAct u.program.now (shown u.tenants.items) 0 n act) named.0 may in
    each_forbids u.program.now (shown u.tenants.items) deed p r why
    (subst (MayAct u.program.now (shown u.tenants.items) 0 p) named.1 here)
why_forbids u (On p deed) (OfAct r) why (UnitLet i x first second) named may = named
why_forbids u (On p deed) (OfAct r) why Renew named may = named
why_forbids u (On p deed) (OfLet r) why taken named may = why

-- Lists of steps

-- a legal history of the steps that were taken, the last one first
record IsPast (P : Program) (C : Sizes) (steps : List Step) (U : UpdateUnit) : Type 0 where
  pub history : List Taken
  pub allowed : AreAllowed P C history
  pub named : AreNamed steps history
  pub reaches : reached P C history ≡ U

record GoesOn (P : Program) (C : Sizes) (steps : List Step) (v : Held) : Type 0 where
  pub past : IsPast P C steps (unit_of v)
  pub program : v.program.now ≡ P
  pub sizes : sizes_of v ≡ C

goes_on : (P : Program) (C : Sizes) (u v : Held) (done steps : List Step) → u.program.now ≡ P → sizes_of u ≡ C →
    IsPast P C done (unit_of u) → TakesAll u steps v →
    GoesOn P C (turned steps done) v
goes_on P C u v done [] program sizes past same =
    record {
      past = subst (λ (w : Held). IsPast P C done (unit_of w)) (sym same) past;
      program = ap (λ (w : Held). w.program.now) same ∙ program;
      sizes = ap sizes_of same ∙ sizes;
    }
goes_on P C u v done (s ∷ ss) program sizes past t =
    let one = t.1.0 in
    let taken = one.taken in
    let may : Allowed P C (reached P C past.history) 0 taken.taken =
    subst (λ U. Allowed P C U 0 taken.taken) (sym past.reaches)
    (subst (λ D. Allowed P D (unit_of u) 0 taken.taken) sizes
    (subst (λ Q. Allowed Q (sizes_of u) (unit_of u) 0 taken.taken) program taken.allowed)) in
    let leads : unit_of t.0 ≡ applied P C (unit_of u) 0 taken.taken =
    taken.leads
    ∙ ap (λ Q. applied Q (sizes_of u) (unit_of u) 0 taken.taken) program
    ∙ ap (λ D. applied P D (unit_of u) 0 taken.taken) sizes in
    goes_on P C t.0 v (s ∷ done) ss (one.program ∙ program) (one.sizes ∙ sizes)
    (record {
      history = record { by = 0; step = taken.taken } ∷ past.history;
      allowed = (past.allowed, may);
      named = (taken.named, refl, past.named);
      reaches = ap (λ U. applied P C U 0 taken.taken) past.reaches ∙ sym leads;
    })
    t.1.1

begins : (P : Program) (C : Sizes) (u : Held) → u.tenants.items ≡ [] → IsPast P C [] (unit_of u)
begins P C u none = record {
  history = [];
  allowed = tt;
  named = tt;
  reaches = sym (ap empty_of none);
}
  where
    empty_of : List HeldTenant → UpdateUnit
    empty_of hs = record { tenants = shown hs; fresh = length hs }

first_ones : (before more : List Step) → take (length before) (before ++ more) ≡ before
first_ones [] more = refl
first_ones (s ∷ ss) more = ap (λ rest. s ∷ rest) (first_ones ss more)

next_one : (before after : List Step) (step : Step) → slice_get (before ++ step ∷ after) (length before) ≡ Some step
next_one [] after step = refl
next_one (s ∷ ss) after step = next_one ss after step

pub refused_exactly : EachRefusalIsExact
refused_exactly u v before after step reason none taken why =
    let P = u.program.now in
    let C = sizes_of u in
    let later = goes_on P C u v [] before refl refl (begins P C u none) taken in
    record {
      step = step;
      is = next_one before after step;
      unit = v;
      program = later.program;
      sizes = later.sizes;
      replay = subst (λ ss. IsReplay P C ss (unit_of v)) (sym (first_ones before (step ∷ after)))
          (record {
            history = later.past.history;
            allowed = later.past.allowed;
            named = later.past.named;
            reaches = later.past.reaches;
          });
      forbidden = why_forbids v step reason why;
      why = why;
    }

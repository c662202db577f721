-- Histories of named steps with links and deliveries among them, one step after another.
use Rattle.std.proofs.Common.{◌≡◌, ℕ, zero, suc, ◌+◌, ◌≤◌, List, [], ◌∷◌, length, take, Some, refl, sym, ap, ◌∙◌, subst, inl, inr, arith}
use Rattle.std.specs.List.{AllByRecursion}
use Rattle.std.specs.Prelude.{slice_get}
use Rattle.instructions.specs.Programs.{Program}
use Rattle.inorder.specs.declared.history.Step.{Step as UnitStep}
use Rattle.inorder.specs.Legal.{Allowed, Taken, applied}
use Rattle.inorder.specs.Moves.{Leads, MayRun, run_on}
use Rattle.inorder.specs.Theorem.{IsInOrder, IsRight}
use Rattle.inorder.specs.Unit.{Sizes, UpdateUnit}
use Rattle.inorder.proofs.OneCaller.Sequences.{allowed_of}
use Rattle.replay.specs.declared.step.Reason.{Reason}
use Rattle.replay.specs.declared.step.Step.{Step}
use Rattle.replay.specs.declared.tenant.Tenant.{Tenant as HeldTenant}
use Rattle.replay.specs.declared.unit.Unit.{Unit as Held}
use Rattle.replay.specs.Lets.{sizes_of, unit_of}
use Rattle.replay.specs.Placing.{AreAmong, IsLegalPlaced, IsPlacedTo, HasNothingDue, IsRefusedFreely, IsSilent, LeadsSilently}
use Rattle.replay.specs.Shown.{shown}
use Rattle.replay.specs.Verdicts.{IsForbidden, IsForbiddenIn, IsTaken, IsWhy, turned}
use Rattle.replay.proofs.Due.{quiet_by}
use Rattle.replay.proofs.FreeOfPlacing.{refused_freely}
use Rattle.replay.proofs.Verdicts.{turned_next}

-- Before the first step

abbrev empty_of : List HeldTenant → UpdateUnit
empty_of hs = record { tenants = shown hs; fresh = length hs }

pub placed_nowhere : (P : Program) (C : Sizes) (u : Held) → u.tenants.items ≡ [] → IsPlacedTo P C [] (unit_of u)
placed_nowhere P C u none =
    record { history = []; placed = record { allowed = tt; among = tt }; reaches = sym (ap empty_of none) }

pub quiet_before : (u : Held) → u.tenants.items ≡ [] → HasNothingDue u.program.now (sizes_of u) (unit_of u)
quiet_before u none = quiet_by u (λ r k less. let long = ap (λ hs. length hs) none in absurd (omega (arith, less, long)))

-- A named step

named_once : (u v : Held) (steps : List Step) (k n : ℕ) (s : Step) → n ≡ k + 1 → slice_get steps k ≡ Some s →
    IsPlacedTo u.program.now (sizes_of u) (take k steps) (unit_of u) → IsTaken u s v →
    IsPlacedTo u.program.now (sizes_of u) (take n steps) (unit_of v)
named_once u v steps k n s next there p t =
    let P = u.program.now in
    let C = sizes_of u in
    let last : Taken = record { by = 0; step = t.taken } in
    let after : n ≡ suc k = omega (arith, next) in
    let longer : turned (take n steps) [] ≡ s ∷ turned (take k steps) [] =
    ap (λ m. turned (take m steps) []) after ∙ turned_next steps [] k s there in
    record {
      history = last ∷ p.history;
      placed = record {
        allowed = (p.placed.allowed, subst (λ U. Allowed P C U 0 t.taken) (sym p.reaches) t.allowed);
        among = subst (λ ss. AreAmong ss (last ∷ p.history)) (sym longer) (inl ((t.named, refl), p.placed.among));
      };
      reaches = ap (λ U. applied P C U 0 t.taken) p.reaches ∙ sym t.leads;
    }

-- Links and deliveries

pub silently_among : (said : List Step) (t : Taken) (history : List Taken) → IsSilent t.step → AreAmong said history →
    AreAmong said (t ∷ history)
silently_among [] t history silent a = (silent, a)
silently_among (s ∷ ss) t history silent a = inr (silent, a)

silently : (P : Program) (C : Sizes) (named : List Step) (U : UpdateUnit) (ss : List UnitStep) → IsPlacedTo P C named U →
    AllByRecursion IsSilent ss → MayRun P C 0 U ss → IsPlacedTo P C named (run_on P C 0 U ss)
silently P C named U [] p silent may = p
silently P C named U (s ∷ ss) p silent may =
    let q = silently P C named U ss p silent.1 may.0 in
    let last : Taken = record { by = 0; step = s } in
    record {
      history = last ∷ q.history;
      placed = record {
        allowed = (
          q.placed.allowed,
          subst (λ V. Allowed P C V 0 s) (sym q.reaches) (allowed_of P C (run_on P C 0 U ss) 0 s may.1),
        );
        among = silently_among (turned named []) last q.history silent.0 q.placed.among;
      };
      reaches = ap (λ V. applied P C V 0 s) q.reaches;
    }

-- a named step, and what is due after it
pub placed_once : (P : Program) (C : Sizes) (u v w : Held) (steps : List Step) (k n : ℕ) (s : Step) → u.program.now ≡ P → sizes_of u ≡ C →
    n ≡ k + 1 → slice_get steps k ≡ Some s → v.program.now ≡ u.program.now → sizes_of v ≡ sizes_of u →
    IsPlacedTo P C (take k steps) (unit_of u) → IsTaken u s v → LeadsSilently v w → IsPlacedTo P C (take n steps) (unit_of w)
placed_once P C u v w steps k n s p c next there same kept before t leads =
    let here = subst (λ (D : Sizes). IsPlacedTo u.program.now D (take k steps) (unit_of u)) (sym c)
    (subst (λ (Q : Program). IsPlacedTo Q C (take k steps) (unit_of u)) (sym p) before) in
    let after = named_once u v steps k n s next there here t in
    let leads_on : Leads u.program.now (sizes_of u) 0 (unit_of v) leads.steps (unit_of w) =
    subst (λ (D : Sizes). Leads u.program.now D 0 (unit_of v) leads.steps (unit_of w)) kept
    (subst (λ (Q : Program). Leads Q (sizes_of v) 0 (unit_of v) leads.steps (unit_of w)) same leads.leads) in
    subst (λ (D : Sizes). IsPlacedTo P D (take n steps) (unit_of w)) c
    (subst (λ (Q : Program). IsPlacedTo Q (sizes_of u) (take n steps) (unit_of w)) p
    (subst (IsPlacedTo u.program.now (sizes_of u) (take n steps)) leads_on.is
    (silently u.program.now (sizes_of u) (take n steps) (unit_of v) leads.steps after leads.silent leads_on.may)))

-- Verdicts

pub legal_placed : (P : Program) (C : Sizes) (steps rest : List Step) (U : UpdateUnit) → rest ≡ steps →
    ((history : List Taken) → IsRight P C history) → IsPlacedTo P C rest U → IsLegalPlaced P C steps
legal_placed P C steps rest U all right p = record {
  unit = U;
  placed = subst (λ ss. IsPlacedTo P C ss U) all p;
  in_order = subst (λ (V : UpdateUnit). IsInOrder P V.tenants) p.reaches (right p.history p.placed.allowed);
}

pub refused_placed : (P : Program) (C : Sizes) (u : Held) (steps : List Step) (n : ℕ) (s : Step) (reason : Reason) →
    u.program.now ≡ P → sizes_of u ≡ C → slice_get steps n ≡ Some s → IsPlacedTo P C (take n steps) (unit_of u) →
    HasNothingDue u.program.now (sizes_of u) (unit_of u) → IsForbidden u s → IsWhy u s reason → IsRefusedFreely P C steps n reason
refused_placed P C u steps n s reason p c there placed quiet forbidden why =
    let here = subst (λ (D : Sizes). HasNothingDue P D (unit_of u)) c (subst (λ (Q : Program). HasNothingDue Q (sizes_of u) (unit_of u)) p quiet) in
    let never = subst (λ (D : Sizes). IsForbiddenIn P D (unit_of u) s) c
    (subst (λ (Q : Program). IsForbiddenIn Q (sizes_of u) (unit_of u) s) p forbidden) in
    record {
      step = s;
      is = there;
      unit = u;
      program = p;
      sizes = c;
      placed = placed;
      why = why;
      free = λ spoken history.
          refused_freely P C (take n steps) s placed.history history placed.placed (subst (HasNothingDue P C) (sym placed.reaches) here) spoken
          (subst (λ U. IsForbiddenIn P C U s) (sym placed.reaches) never);
    }

abbrev nothing : List Step
nothing = []

take_none : (n : ℕ) → take n nothing ≡ nothing
take_none zero = refl
take_none (suc n) = refl

pub take_all : (n : ℕ) (ss : List Step) → length ss ≤ n → take n ss ≡ ss
take_all n [] less = take_none n
take_all zero (s ∷ ss) less = absurd (omega arith)
take_all (suc n) (s ∷ ss) less = ap (λ rest. s ∷ rest) (take_all n ss (omega arith))

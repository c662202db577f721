-- Every delivery that is due.
use Rattle.std.proofs.Common.{◌≡◌, ℕ, List, [], ◌∷◌, ◌++◌, length, Option, Some, None, refl, sym, ap, ◌∙◌, subst, append_assoc}
use Rattle.std.specs.List.{AllByRecursion}
use Rattle.instructions.specs.Programs.{Program}
use Rattle.inorder.specs.declared.history.Act.TheVariants.{Deliver}
use Rattle.inorder.specs.declared.history.Source.{Source}
use Rattle.inorder.specs.declared.history.Source.TheVariants.{First, Second}
use Rattle.inorder.specs.declared.history.Step.{Step}
use Rattle.inorder.specs.declared.history.Step.TheVariants.{On}
use Rattle.inorder.specs.Steps.{delivered}
use Rattle.inorder.specs.Tenants.{Operand, Tenant, operand}
use Rattle.inorder.specs.Unit.{Sizes, UpdateUnit, value_of}
use Rattle.inorder.proofs.Sound.{IsSound, ValueIs}
use Rattle.inorder.specs.Moves.{IsDeliver, Leads, with_tenants}
use Rattle.inorder.specs.Quiescent.{AreQuiescent, WasLinked, IsNotBusy, SourceIsQuiescent}
use Rattle.inorder.proofs.OneCaller.Alike.{AreAlike, IsAlike, alike_both, alike_self, still_alike}
use Rattle.inorder.proofs.OneCaller.Middle.{allowed_middle, changed_middle}
use Rattle.inorder.proofs.OneCaller.Sequences.{all_more, leads_more, leads_nowhere, leads_once}

-- a source that may be due
pub record IsAsked (ts : List Tenant) (o : Operand) : Type 0 where
  pub value : ValueIs ts o
  pub way : o.value ≡ None → WasLinked o

abbrev pub AreAsked : List Tenant → Type 0
AreAsked [] = Unit {0}
AreAsked (t ∷ ts) = (IsAsked ts t.first × IsAsked ts t.second × IsNotBusy t.fate) × AreAsked ts

abbrev other : Source → Source
other First = Second
other Second = First

-- deliveries to source k of one tenant
record OneRun (P : Program) (C : Sizes) (by : ℕ) (U : UpdateUnit) (ys : List Tenant) (t : Tenant) (ts : List Tenant) (k : Source) : Type 0 where
  pub steps : List Step
  pub later : Tenant
  pub leads : Leads P C by (with_tenants U (ys ++ t ∷ ts)) steps (with_tenants U (ys ++ later ∷ ts))
  pub are : AllByRecursion IsDeliver steps
  pub still : SourceIsQuiescent ts (operand k later)
  pub same : operand (other k) later ≡ operand (other k) t
  pub alike : IsAlike t later

deliver_first : (P : Program) (C : Sizes) (by : ℕ) (U : UpdateUnit) (ys : List Tenant) (t : Tenant) (ts : List Tenant) (v : ℕ) →
    WasLinked t.first → t.first.value ≡ None → value_of ts t.first.creator ≡ Some v →
    OneRun P C by U ys t ts First
deliver_first P C by U ys t ts v w n g =
    record {
      steps = On (length ts) (Deliver First) ∷ [];
      later = delivered ts t First;
      leads = leads_once P C by (with_tenants U (ys ++ t ∷ ts)) (with_tenants U (ys ++ delivered ts t First ∷ ts)) (On (length ts) (Deliver First))
          (allowed_middle P C by U (Deliver First) ys t ts (record { in_time = w.0; way = w.1; waits = n; value = v; is_made = g })) (changed_middle P C by U (Deliver First) ys t ts);
      are = (tt, tt);
      still = record { value = refl; way = λ q. w };
      same = refl;
      alike = record { station = refl; index = refl; half = refl; pc = refl; predicted = refl; next = refl; made = refl; fate = refl; standing = refl };
    }

deliver_second : (P : Program) (C : Sizes) (by : ℕ) (U : UpdateUnit) (ys : List Tenant) (t : Tenant) (ts : List Tenant) (v : ℕ) →
    WasLinked t.second → t.second.value ≡ None → value_of ts t.second.creator ≡ Some v →
    OneRun P C by U ys t ts Second
deliver_second P C by U ys t ts v w n g =
    record {
      steps = On (length ts) (Deliver Second) ∷ [];
      later = delivered ts t Second;
      leads = leads_once P C by (with_tenants U (ys ++ t ∷ ts)) (with_tenants U (ys ++ delivered ts t Second ∷ ts)) (On (length ts) (Deliver Second))
          (allowed_middle P C by U (Deliver Second) ys t ts (record { in_time = w.0; way = w.1; waits = n; value = v; is_made = g })) (changed_middle P C by U (Deliver Second) ys t ts);
      are = (tt, tt);
      still = record { value = refl; way = λ q. w };
      same = refl;
      alike = record { station = refl; index = refl; half = refl; pc = refl; predicted = refl; next = refl; made = refl; fate = refl; standing = refl };
    }

deliver : (P : Program) (C : Sizes) (by : ℕ) (U : UpdateUnit) (ys : List Tenant) (t : Tenant) (ts : List Tenant) (k : Source) (v : ℕ) →
    WasLinked (operand k t) → (operand k t).value ≡ None → value_of ts (operand k t).creator ≡ Some v →
    OneRun P C by U ys t ts k
deliver P C by U ys t ts First v w n g = deliver_first P C by U ys t ts v w n g
deliver P C by U ys t ts Second v w n g = deliver_second P C by U ys t ts v w n g

one_run : (P : Program) (C : Sizes) (by : ℕ) (U : UpdateUnit) (ys : List Tenant) (t : Tenant) (ts : List Tenant) (k : Source) → IsAsked ts (operand k t) → OneRun P C by U ys t ts k
one_run P C by U ys t ts k a = go (operand k t).value (value_of ts (operand k t).creator) refl refl
  where
    nothing : SourceIsQuiescent ts (operand k t) → OneRun P C by U ys t ts k
    nothing s = record { steps = []; later = t; leads = leads_nowhere P C by (with_tenants U (ys ++ t ∷ ts)); are = tt; still = s; same = refl; alike = alike_self t }

    go : (v g : Option ℕ) → (operand k t).value ≡ v → value_of ts (operand k t).creator ≡ g → OneRun P C by U ys t ts k
    go (Some v) g ev eg = nothing (record { value = ev ∙ sym (a.value v ev); way = a.way })
    go None None ev eg = nothing (record { value = ev ∙ sym eg; way = a.way })
    go None (Some g) ev eg = deliver P C by U ys t ts k g (a.way ev) ev eg

-- deliveries to all the tenants ts, with ys after them
pub record AllRun (P : Program) (C : Sizes) (by : ℕ) (U : UpdateUnit) (ys ts : List Tenant) : Type 0 where
  pub steps : List Step
  pub later : List Tenant
  pub leads : Leads P C by (with_tenants U (ys ++ ts)) steps (with_tenants U (ys ++ later))
  pub are : AllByRecursion IsDeliver steps
  pub still : AreQuiescent later
  pub alike : AreAlike ts later

pub all_run : (P : Program) (C : Sizes) (by : ℕ) (U : UpdateUnit) (ys ts : List Tenant) → AreAsked ts → AllRun P C by U ys ts
all_run P C by U ys [] a = record { steps = []; later = []; leads = leads_nowhere P C by (with_tenants U (ys ++ [])); are = tt; still = tt; alike = tt }
all_run P C by U ys (t ∷ ts) a = go (one_run P C by U ys t ts First a.0.0) (λ u. all_run P C by U (ys ++ u ∷ []) ts a.1)
  where
    go : (one : OneRun P C by U ys t ts First) → ((u : Tenant) → AllRun P C by U (ys ++ u ∷ []) ts) → AllRun P C by U ys (t ∷ ts)
    go one more = then (one_run P C by U ys one.later ts Second (subst (IsAsked ts) (sym one.same) a.0.1))
      where
        then : OneRun P C by U ys one.later ts Second → AllRun P C by U ys (t ∷ ts)
        then two = last (more two.later)
          where
            both : List Step
            both = two.steps ++ one.steps

            V0 : UpdateUnit
            V0 = with_tenants U (ys ++ t ∷ ts)

            V1 : UpdateUnit
            V1 = with_tenants U (ys ++ one.later ∷ ts)

            V2 : UpdateUnit
            V2 = with_tenants U (ys ++ two.later ∷ ts)

            reach : Leads P C by V0 both V2
            reach = leads_more P C by V0 V1 V2 two.steps one.steps one.leads two.leads

            same : (us : List Tenant) → (ys ++ two.later ∷ []) ++ us ≡ ys ++ two.later ∷ us
            same us = append_assoc ys (two.later ∷ []) us

            last : AllRun P C by U (ys ++ two.later ∷ []) ts → AllRun P C by U ys (t ∷ ts)
            last r =
                let rest : Leads P C by V2 r.steps (with_tenants U (ys ++ two.later ∷ r.later)) = subst (λ X. Leads P C by (with_tenants U X) r.steps (with_tenants U (ys ++ two.later ∷ r.later)))
                (same ts) (subst (λ X. Leads P C by (with_tenants U ((ys ++ two.later ∷ []) ++ ts)) r.steps (with_tenants U X)) (same r.later) r.leads) in
                record {
                  steps = r.steps ++ both;
                  later = two.later ∷ r.later;
                  leads = leads_more P C by V0 V2 (with_tenants U (ys ++ two.later ∷ r.later)) r.steps both reach rest;
                  are = all_more IsDeliver r.steps both r.are (all_more IsDeliver two.steps one.steps two.are one.are);
                  still = (
                    (
                      still_alike ts r.later r.alike two.later.first (subst (SourceIsQuiescent ts) (sym two.same) one.still),
                      still_alike ts r.later r.alike two.later.second two.still,
                      subst IsNotBusy (sym (two.alike.fate ∙ one.alike.fate)) a.0.2,
                    ),
                    r.still,
                  );
                  alike = (alike_both t one.later two.later one.alike two.alike, r.alike);
                }

-- sound and still is asked, for whoever is older; and for the younger, whose ways stay
asked_old : (P : Program) (ts : List Tenant) → IsSound P ts → AreQuiescent ts → AreAsked ts
asked_old P [] s h = tt
asked_old P (t ∷ ts) s h =
    ((record { value = s.0.own.first; way = h.0.0.way }, record { value = s.0.own.second; way = h.0.1.way }, h.0.2), asked_old P ts s.1 h.1)

pub asked_middle : (P : Program) (ys : List Tenant) (t u : Tenant) (ts : List Tenant) → u.first ≡ t.first →
    u.second ≡ t.second → IsNotBusy u.fate → IsSound P (ys ++ u ∷ ts) → AreQuiescent (ys ++ t ∷ ts) →
    AreAsked (ys ++ u ∷ ts)
asked_middle P [] t u ts e f n s h = (
  (
    record { value = s.0.own.first; way = λ q. subst WasLinked (sym e) (h.0.0.way (sym (ap (λ x. x.value) e) ∙ q)) },
    record { value = s.0.own.second; way = λ q. subst WasLinked (sym f) (h.0.1.way (sym (ap (λ x. x.value) f) ∙ q)) },
    n,
  ),
  asked_old P ts s.1 h.1,
)
asked_middle P (y ∷ ys) t u ts e f n s h =
    ((record { value = s.0.own.first; way = h.0.0.way }, record { value = s.0.own.second; way = h.0.1.way }, h.0.2), asked_middle P ys t u ts e f n s.1 h.1)

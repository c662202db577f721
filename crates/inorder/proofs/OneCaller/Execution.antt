-- A tenant is claimed and finished, or a load is answered, and every delivery that is due is made.
use Rattle.std.proofs.Common.{◌≡◌, ℕ, Bool, true, false, cond, eqb, List, [], ◌∷◌, ◌++◌, length, refl, sym, ◌∙◌, subst}
use Rattle.std.specs.List.{AllByRecursion}
use Rattle.instructions.specs.Programs.{Program}
use Rattle.instructions.specs.declared.stop.Outcome.{Outcome}
use Rattle.instructions.specs.declared.stop.Outcome.TheVariants.{Pair, Address, Next, Stop as Stops, Value}
use Rattle.inorder.specs.declared.history.Act.TheVariants.{Claim, Finish, Load}
use Rattle.inorder.specs.declared.history.Step.{Step}
use Rattle.inorder.specs.declared.history.Step.TheVariants.{On}
use Rattle.inorder.specs.Steps.{IsNoRetiredStop, MayClaim, MayLoad, finished, settled}
use Rattle.inorder.specs.Tenants.{Busy, Done, Live, Miss, Retired, Tenant, computed}
use Rattle.inorder.specs.Unit.{Sizes, UpdateUnit}
use Rattle.inorder.proofs.Sound.{IsSound}
use Rattle.inorder.specs.Moves.{IsDeliver, Leads, with_tenants}
use Rattle.inorder.specs.Quiescent.{AreQuiescent, IsNotBusy}
use Rattle.inorder.proofs.OneCaller.Alike.{AreAlike, stops_alike, stops_put}
use Rattle.inorder.proofs.OneCaller.Deliveries.{AllRun, all_run, asked_middle}
use Rattle.inorder.proofs.OneCaller.Middle.{allowed_middle, changed_middle}
use Rattle.inorder.proofs.OneCaller.Sequences.{leads_more, leads_once, sound_on}

-- these steps, and then all deliveries that are due, with u in the place of t
pub record ActRun (P : Program) (C : Sizes) (by : ℕ) (U : UpdateUnit) (ys : List Tenant) (t u : Tenant) (ts : List Tenant) (steps : List Step) : Type 0 where
  pub delivers : List Step
  pub are : AllByRecursion IsDeliver delivers
  pub later : List Tenant
  pub leads : Leads P C by (with_tenants U (ys ++ t ∷ ts)) (delivers ++ steps) (with_tenants U later)
  pub still : AreQuiescent later
  pub alike : AreAlike (ys ++ u ∷ ts) later
  pub stops : AllByRecursion IsNoRetiredStop later

-- what such steps keep of the tenant
pub record Keeps (t u : Tenant) : Type 0 where
  pub standing : u.standing ≡ t.standing
  pub first : u.first ≡ t.first
  pub second : u.second ≡ t.second
  pub free : IsNotBusy u.fate

pub act_run : (P : Program) (C : Sizes) (by : ℕ) (U : UpdateUnit) (ys : List Tenant) (t u : Tenant) (ts : List Tenant) (steps : List Step) → IsSound P (ys ++ t ∷ ts) → AreQuiescent (ys ++ t ∷ ts) →
    AllByRecursion IsNoRetiredStop (ys ++ t ∷ ts) → t.standing ≡ Live → Keeps t u → Leads P C by (with_tenants U (ys ++ t ∷ ts)) steps (with_tenants U (ys ++ u ∷ ts)) → ActRun P C by U ys t u ts steps
act_run P C by U ys t u ts steps s h ns live k l = go (all_run P C by U [] V (asked_middle P ys t u ts k.first k.second k.free sound' h))
  where
    V : List Tenant
    V = ys ++ u ∷ ts

    sound' : IsSound P V
    sound' = subst (λ W. IsSound P W.tenants) l.is (sound_on P C by (with_tenants U (ys ++ t ∷ ts)) steps l.may s)

    no_stop : IsNoRetiredStop u
    no_stop = λ e c q. let no : Live ≡ Retired = sym live ∙ sym k.standing ∙ e in absurd (cc)

    go : AllRun P C by U [] V → ActRun P C by U ys t u ts steps
    go r =
        record {
          delivers = r.steps;
          are = r.are;
          later = r.later;
          leads = leads_more P C by (with_tenants U (ys ++ t ∷ ts)) (with_tenants U V) (with_tenants U r.later) r.steps steps l r.leads;
          still = r.still;
          alike = r.alike;
          stops = stops_alike V r.later r.alike (stops_put ys t u ts no_stop ns);
        }

finished_keeps : (t : Tenant) (o : Outcome) → Keeps t (finished t o)
finished_keeps t (Value v) = record { standing = refl; first = refl; second = refl; free = tt }
finished_keeps t (Address v) = record { standing = refl; first = refl; second = refl; free = tt }
finished_keeps t (Stops v) = record { standing = refl; first = refl; second = refl; free = tt }
finished_keeps t (Pair l h) = record { standing = refl; first = refl; second = refl; free = tt }
finished_keeps t (Next x) = record { standing = refl; first = refl; second = refl; free = go (eqb x t.predicted) }
  where
    go : (b : Bool) → IsNotBusy (cond b (Done x) (Miss x))
    go true = tt
    go false = tt

-- the tenant as it is when it was claimed
abbrev pub claimed : ℕ → Tenant → Tenant
claimed by t = record t { fate = Busy by }

abbrev pub ran_steps : List Tenant → List Step
ran_steps ts = On (length ts) Finish ∷ On (length ts) Claim ∷ []

pub ran_run : (P : Program) (C : Sizes) (by : ℕ) (U : UpdateUnit) (ys : List Tenant) (t : Tenant) (ts : List Tenant) → IsSound P (ys ++ t ∷ ts) → AreQuiescent (ys ++ t ∷ ts) →
    AllByRecursion IsNoRetiredStop (ys ++ t ∷ ts) → MayClaim P t → ActRun P C by U ys t (finished (claimed by t) (computed P t)) ts (ran_steps ts)
ran_run P C by U ys t ts s h ns m = act_run P C by U ys t u ts (ran_steps ts) s h ns m.live (record { standing = k.standing; first = k.first; second = k.second; free = k.free }) both
  where
    u : Tenant
    u = finished (claimed by t) (computed P t)

    k : Keeps (claimed by t) u
    k = finished_keeps (claimed by t) (computed P t)

    claim : Leads P C by (with_tenants U (ys ++ t ∷ ts)) (On (length ts) Claim ∷ []) (with_tenants U (ys ++ claimed by t ∷ ts))
    claim = leads_once P C by (with_tenants U (ys ++ t ∷ ts)) (with_tenants U (ys ++ claimed by t ∷ ts)) (On (length ts) Claim) (allowed_middle P C by U Claim ys t ts m)
        (changed_middle P C by U Claim ys t ts)

    finish : Leads P C by (with_tenants U (ys ++ claimed by t ∷ ts)) (On (length ts) Finish ∷ []) (with_tenants U (ys ++ u ∷ ts))
    finish = leads_once P C by (with_tenants U (ys ++ claimed by t ∷ ts)) (with_tenants U (ys ++ u ∷ ts)) (On (length ts) Finish)
        (allowed_middle P C by U Finish ys (claimed by t) ts (record { live = m.live; fate = refl })) (changed_middle P C by U Finish ys (claimed by t) ts)

    both : Leads P C by (with_tenants U (ys ++ t ∷ ts)) (ran_steps ts) (with_tenants U (ys ++ u ∷ ts))
    both = leads_more P C by (with_tenants U (ys ++ t ∷ ts)) (with_tenants U (ys ++ claimed by t ∷ ts)) (with_tenants U (ys ++ u ∷ ts)) (On (length ts) Finish ∷ []) (On (length ts) Claim ∷ []) claim
        finish

pub loaded_run : (P : Program) (C : Sizes) (by : ℕ) (U : UpdateUnit) (ys : List Tenant) (t : Tenant) (ts : List Tenant) → IsSound P (ys ++ t ∷ ts) → AreQuiescent (ys ++ t ∷ ts) →
    AllByRecursion IsNoRetiredStop (ys ++ t ∷ ts) → MayLoad P ts t → ActRun P C by U ys t (settled P ts t) ts (On (length ts) Load ∷ [])
loaded_run P C by U ys t ts s h ns m =
    act_run P C by U ys t (settled P ts t) ts (On (length ts) Load ∷ []) s h ns m.live (record { standing = refl; first = refl; second = refl; free = tt })
    (leads_once P C by (with_tenants U (ys ++ t ∷ ts)) (with_tenants U (ys ++ settled P ts t ∷ ts)) (On (length ts) Load) (allowed_middle P C by U Load ys t ts m)
    (changed_middle P C by U Load ys t ts))

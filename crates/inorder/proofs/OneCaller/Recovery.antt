-- All tenants after the oldest miss are squashed, and it is mended.
use Rattle.std.proofs.Common.{◌≡◌, ℕ, List, [], ◌∷◌, ◌++◌, length, refl, sym, ap, ◌∙◌, subst, append_assoc}
use Rattle.std.specs.List.{AllByRecursion}
use Rattle.instructions.specs.Programs.{Program}
use Rattle.inorder.specs.declared.history.Act.TheVariants.{Mend, Squash}
use Rattle.inorder.specs.declared.history.Step.{Step}
use Rattle.inorder.specs.declared.history.Step.TheVariants.{On}
use Rattle.inorder.specs.Steps.{IsNoRetiredStop, mended_as, squashed}
use Rattle.inorder.specs.Tenants.{Done, IsNotLive, Live, Miss, Retired, Squashed, Standing, Tenant}
use Rattle.inorder.specs.Unit.{Sizes, UpdateUnit}
use Rattle.inorder.specs.Moves.{IsSquash, Leads, with_tenants}
use Rattle.inorder.specs.Quiescent.{AreQuiescent}
use Rattle.inorder.proofs.OneCaller.Alike.{still_put, stops_put}
use Rattle.inorder.proofs.OneCaller.Middle.{allowed_middle, at_middle, changed_middle, still_from}
use Rattle.inorder.proofs.OneCaller.Sequences.{all_more, leads_more, leads_nowhere, leads_once}

-- the same tenants, with those that are live squashed
abbrev pub gone_by : Standing → Tenant → Tenant
gone_by Live t = squashed t
gone_by _ t = t

abbrev pub gone : List Tenant → List Tenant
gone [] = []
gone (t ∷ ts) = gone_by t.standing t ∷ gone ts

pub gone_left : (ts : List Tenant) → AllByRecursion IsNotLive (gone ts)
gone_left [] = tt
gone_left (t ∷ ts) = (go t.standing refl, gone_left ts)
  where
    go : (st : Standing) → t.standing ≡ st → IsNotLive (gone_by t.standing t)
    go Live e = subst (λ s. IsNotLive (gone_by s t)) (sym e) (λ q. let no : Squashed ≡ Live = q in absurd (cc))
    go Retired e = subst (λ s. IsNotLive (gone_by s t)) (sym e) (λ q. let no : Live ≡ Retired = sym q ∙ e in absurd (cc))
    go Squashed e = subst (λ s. IsNotLive (gone_by s t)) (sym e) (λ q. let no : Live ≡ Squashed = sym q ∙ e in absurd (cc))

record SquashRun (P : Program) (C : Sizes) (by : ℕ) (U : UpdateUnit) (zs ys : List Tenant) (t : Tenant) (ts : List Tenant) : Type 0 where
  pub steps : List Step
  pub are : AllByRecursion IsSquash steps
  pub leads : Leads P C by (with_tenants U (zs ++ (ys ++ t ∷ ts))) steps (with_tenants U (zs ++ (gone ys ++ t ∷ ts)))
  pub still : AreQuiescent (zs ++ (ys ++ t ∷ ts)) → AreQuiescent (zs ++ (gone ys ++ t ∷ ts))
  pub stops : AllByRecursion IsNoRetiredStop (zs ++ (ys ++ t ∷ ts)) → AllByRecursion IsNoRetiredStop (zs ++ (gone ys ++ t ∷ ts))

pub left_more : (zs : List Tenant) (y : Tenant) → AllByRecursion IsNotLive zs → IsNotLive y → AllByRecursion IsNotLive (zs ++ y ∷ [])
left_more [] y a b = (b, tt)
left_more (z ∷ zs) y a b = (a.0, left_more zs y a.1 b)

squash_run : (P : Program) (C : Sizes) (by : ℕ) (U : UpdateUnit) (zs ys : List Tenant) (t : Tenant) (ts : List Tenant) (x : ℕ) → AllByRecursion IsNotLive zs → t.standing ≡ Live → t.fate ≡ Miss x →
    SquashRun P C by U zs ys t ts
squash_run P C by U zs [] t ts x a live miss = record { steps = []; are = tt; leads = leads_nowhere P C by (with_tenants U (zs ++ t ∷ ts)); still = λ h. h; stops = λ h. h }
squash_run P C by U zs (y ∷ ys) t ts x a live miss = go y.standing refl (λ u n. squash_run P C by U (zs ++ u ∷ []) ys t ts x (left_more zs u a n) live miss)
  where
    before : List Tenant
    before = ys ++ t ∷ ts

    after : List Tenant
    after = gone ys ++ t ∷ ts

    moved : (u : Tenant) (us : List Tenant) → (zs ++ u ∷ []) ++ us ≡ zs ++ u ∷ us
    moved u us = append_assoc zs (u ∷ []) us

    -- the rest, seen from zs
    rest : (u : Tenant) (r : SquashRun P C by U (zs ++ u ∷ []) ys t ts) → Leads P C by (with_tenants U (zs ++ u ∷ before)) r.steps (with_tenants U (zs ++ u ∷ after))
    rest u r =
        subst (λ X. Leads P C by (with_tenants U X) r.steps (with_tenants U (zs ++ u ∷ after))) (moved u before)
        (subst (λ X. Leads P C by (with_tenants U ((zs ++ u ∷ []) ++ before)) r.steps (with_tenants U X)) (moved u after) r.leads)

    stills : (u : Tenant) (r : SquashRun P C by U (zs ++ u ∷ []) ys t ts) → AreQuiescent (zs ++ u ∷ before) → AreQuiescent (zs ++ u ∷ after)
    stills u r h = subst AreQuiescent (moved u after) (r.still (subst AreQuiescent (sym (moved u before)) h))

    stopped : (u : Tenant) (r : SquashRun P C by U (zs ++ u ∷ []) ys t ts) → AllByRecursion IsNoRetiredStop (zs ++ u ∷ before) → AllByRecursion IsNoRetiredStop (zs ++ u ∷ after)
    stopped u r h = subst (AllByRecursion IsNoRetiredStop) (moved u after) (r.stops (subst (AllByRecursion IsNoRetiredStop) (sym (moved u before)) h))

    stay : gone_by y.standing y ≡ y → SquashRun P C by U (zs ++ y ∷ []) ys t ts → SquashRun P C by U zs (y ∷ ys) t ts
    stay e r =
        record {
          steps = r.steps;
          are = r.are;
          leads = subst (λ v. Leads P C by (with_tenants U (zs ++ y ∷ before)) r.steps (with_tenants U (zs ++ v ∷ after))) (sym e) (rest y r);
          still = λ h. subst (λ v. AreQuiescent (zs ++ v ∷ after)) (sym e) (stills y r h);
          stops = λ h. subst (λ v. AllByRecursion IsNoRetiredStop (zs ++ v ∷ after)) (sym e) (stopped y r h);
        }

    go : (st : Standing) → y.standing ≡ st → ((u : Tenant) → IsNotLive u → SquashRun P C by U (zs ++ u ∷ []) ys t ts) → SquashRun P C by U zs (y ∷ ys) t ts
    go Retired e more = stay (ap (λ s. gone_by s y) e) (more y (λ q. let no : Live ≡ Retired = sym q ∙ e in absurd (cc)))
    go Squashed e more = stay (ap (λ s. gone_by s y) e) (more y (λ q. let no : Live ≡ Squashed = sym q ∙ e in absurd (cc)))
    go Live e more = ends (more u n)
      where
        u : Tenant
        u = squashed y

        n : IsNotLive u
        n = λ q. let no : Squashed ≡ Live = q in absurd (cc)

        is : gone_by y.standing y ≡ u
        is = ap (λ s. gone_by s y) e

        once : Leads P C by (with_tenants U (zs ++ y ∷ before)) (On (length before) Squash ∷ []) (with_tenants U (zs ++ u ∷ before))
        once = leads_once P C by (with_tenants U (zs ++ y ∷ before)) (with_tenants U (zs ++ u ∷ before)) (On (length before) Squash)
            (allowed_middle P C by U Squash zs y before (record { live = e; youngest = a; p = length ts; miss = t; x = x; miss_at = at_middle ys t ts; miss_live = live; miss_fate = miss }))
            (changed_middle P C by U Squash zs y before)

        ends : SquashRun P C by U (zs ++ u ∷ []) ys t ts → SquashRun P C by U zs (y ∷ ys) t ts
        ends r =
            let both = leads_more P C by (with_tenants U (zs ++ y ∷ before)) (with_tenants U (zs ++ u ∷ before)) (with_tenants U (zs ++ u ∷ after)) r.steps (On (length before) Squash ∷ []) once
            (rest u r) in
            record {
              steps = r.steps ++ On (length before) Squash ∷ [];
              are = all_more IsSquash r.steps (On (length before) Squash ∷ []) r.are (tt, tt);
              leads = subst (λ v. Leads P C by (with_tenants U (zs ++ y ∷ before)) (r.steps ++ On (length before) Squash ∷ []) (with_tenants U (zs ++ v ∷ after))) (sym is) both;
              still = λ h. subst (λ v. AreQuiescent (zs ++ v ∷ after)) (sym is) (stills u r (still_put zs y u before refl refl refl (still_from zs (y ∷ before) h).0.2 h));
              stops = λ h. subst (λ v. AllByRecursion IsNoRetiredStop (zs ++ v ∷ after)) (sym is) (stopped u r (stops_put zs y u before (λ q c f. let no : Squashed ≡ Retired = q in absurd (cc)) h));
            }

-- a miss that was mended
abbrev pub mended_to : ℕ → Tenant → Tenant
mended_to x t = record t { fate = Done x; next = x }

pub record RecoverRun (P : Program) (C : Sizes) (by : ℕ) (U : UpdateUnit) (ys : List Tenant) (t : Tenant) (ts : List Tenant) (x : ℕ) : Type 0 where
  pub squashes : List Step
  pub are : AllByRecursion IsSquash squashes
  pub leads : Leads P C by (with_tenants U (ys ++ t ∷ ts)) (On (length ts) Mend ∷ squashes) (with_tenants U (gone ys ++ mended_to x t ∷ ts))
  pub still : AreQuiescent (ys ++ t ∷ ts) → AreQuiescent (gone ys ++ mended_to x t ∷ ts)
  pub stops : AllByRecursion IsNoRetiredStop (ys ++ t ∷ ts) → AllByRecursion IsNoRetiredStop (gone ys ++ mended_to x t ∷ ts)

pub recover_run : (P : Program) (C : Sizes) (by : ℕ) (U : UpdateUnit) (ys : List Tenant) (t : Tenant) (ts : List Tenant) (x : ℕ) → t.standing ≡ Live → t.fate ≡ Miss x → RecoverRun P C by U ys t ts x
recover_run P C by U ys t ts x live miss = go (squash_run P C by U [] ys t ts x tt live miss)
  where
    V : UpdateUnit
    V = with_tenants U (gone ys ++ t ∷ ts)

    W : UpdateUnit
    W = with_tenants U (gone ys ++ mended_to x t ∷ ts)

    mends : Leads P C by V (On (length ts) Mend ∷ []) W
    mends =
        leads_once P C by V W (On (length ts) Mend)
        (allowed_middle P C by U Mend (gone ys) t ts (record { live = live; youngest = gone_left ys; x = x; fate = miss }))
        (changed_middle P C by U Mend (gone ys) t ts ∙ ap (λ f. with_tenants U (gone ys ++ mended_as t f ∷ ts)) miss)

    go : SquashRun P C by U [] ys t ts → RecoverRun P C by U ys t ts x
    go r =
        record {
          squashes = r.steps;
          are = r.are;
          leads = leads_more P C by (with_tenants U (ys ++ t ∷ ts)) V W (On (length ts) Mend ∷ []) r.steps r.leads mends;
          still = λ h. still_put (gone ys) t (mended_to x t) ts refl refl refl tt (r.still h);
          stops = λ h. stops_put (gone ys) t (mended_to x t) ts (λ q c f. let no : Live ≡ Retired = sym live ∙ q in absurd (cc)) (r.stops h);
        }

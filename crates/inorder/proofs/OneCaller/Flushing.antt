-- The tenants after a point are flushed, the youngest first: an interrupt, or the replay of what follows.
use Rattle.std.proofs.Common.{◌≡◌, List, [], ◌∷◌, ◌++◌, length, ℕ, refl, sym, ap, ◌∙◌, subst, append_assoc}
use Rattle.std.specs.List.{AllByRecursion}
use Rattle.instructions.specs.Programs.{Program}
use Rattle.inorder.specs.declared.history.Act.TheVariants.{Speculate}
use Rattle.inorder.specs.declared.history.Speculation.TheVariants.{Flush}
use Rattle.inorder.specs.declared.history.Step.{Step}
use Rattle.inorder.specs.declared.history.Step.TheVariants.{On}
use Rattle.inorder.specs.Laws.{IsNoRetire}
use Rattle.inorder.specs.Moves.{Leads, with_tenants}
use Rattle.inorder.specs.Steps.{IsNoRetiredStop, squashed}
use Rattle.inorder.specs.Tenants.{IsNotLive, Live, Retired, Squashed, Standing, Tenant}
use Rattle.inorder.specs.Unit.{Sizes, UpdateUnit}
use Rattle.inorder.proofs.OneCaller.Alike.{stops_put}
use Rattle.inorder.proofs.OneCaller.Middle.{allowed_middle, changed_middle}
use Rattle.inorder.proofs.OneCaller.Recovery.{gone, gone_by, left_more}
use Rattle.inorder.proofs.OneCaller.Sequences.{all_more, leads_more, leads_nowhere, leads_once}

-- from the tenants ys, with zs after them and us before, those that are live have left
pub record FlushRun (P : Program) (C : Sizes) (by : ℕ) (U : UpdateUnit) (zs ys us : List Tenant) : Type 0 where
  pub steps : List Step
  pub quiet : AllByRecursion IsNoRetire steps
  pub leads : Leads P C by (with_tenants U (zs ++ (ys ++ us))) steps (with_tenants U (zs ++ (gone ys ++ us)))
  pub stops : AllByRecursion IsNoRetiredStop (zs ++ (ys ++ us)) → AllByRecursion IsNoRetiredStop (zs ++ (gone ys ++ us))

flushed_from : (P : Program) (C : Sizes) (by : ℕ) (U : UpdateUnit) (zs ys us : List Tenant) → AllByRecursion IsNotLive zs → FlushRun P C by U zs ys us
flushed_from P C by U zs [] us a = record { steps = []; quiet = tt; leads = leads_nowhere P C by (with_tenants U (zs ++ us)); stops = λ h. h }
flushed_from P C by U zs (y ∷ ys) us a = go y.standing refl (λ u n. flushed_from P C by U (zs ++ u ∷ []) ys us (left_more zs u a n))
  where
    before : List Tenant
    before = ys ++ us

    after : List Tenant
    after = gone ys ++ us

    moved : (u : Tenant) (vs : List Tenant) → (zs ++ u ∷ []) ++ vs ≡ zs ++ u ∷ vs
    moved u vs = append_assoc zs (u ∷ []) vs

    rest : (u : Tenant) (r : FlushRun P C by U (zs ++ u ∷ []) ys us) → Leads P C by (with_tenants U (zs ++ u ∷ before)) r.steps (with_tenants U (zs ++ u ∷ after))
    rest u r =
        subst (λ X. Leads P C by (with_tenants U X) r.steps (with_tenants U (zs ++ u ∷ after))) (moved u before)
        (subst (λ X. Leads P C by (with_tenants U ((zs ++ u ∷ []) ++ before)) r.steps (with_tenants U X)) (moved u after) r.leads)

    stopped : (u : Tenant) (r : FlushRun P C by U (zs ++ u ∷ []) ys us) → AllByRecursion IsNoRetiredStop (zs ++ u ∷ before) → AllByRecursion IsNoRetiredStop (zs ++ u ∷ after)
    stopped u r h = subst (AllByRecursion IsNoRetiredStop) (moved u after) (r.stops (subst (AllByRecursion IsNoRetiredStop) (sym (moved u before)) h))

    stay : gone_by y.standing y ≡ y → FlushRun P C by U (zs ++ y ∷ []) ys us → FlushRun P C by U zs (y ∷ ys) us
    stay e r =
        record {
          steps = r.steps;
          quiet = r.quiet;
          leads = subst (λ v. Leads P C by (with_tenants U (zs ++ y ∷ before)) r.steps (with_tenants U (zs ++ v ∷ after))) (sym e) (rest y r);
          stops = λ h. subst (λ v. AllByRecursion IsNoRetiredStop (zs ++ v ∷ after)) (sym e) (stopped y r h);
        }

    go : (st : Standing) → y.standing ≡ st → ((u : Tenant) → IsNotLive u → FlushRun P C by U (zs ++ u ∷ []) ys us) → FlushRun P C by U zs (y ∷ ys) us
    go Retired e more = stay (ap (λ s. gone_by s y) e) (more y (λ q. let no : Live ≡ Retired = sym q ∙ e in absurd (cc)))
    go Squashed e more = stay (ap (λ s. gone_by s y) e) (more y (λ q. let no : Live ≡ Squashed = sym q ∙ e in absurd (cc)))
    go Live e more = ends (more u n)
      where
        u : Tenant
        u = squashed y

        n : IsNotLive u
        n = λ q. let no : Squashed ≡ Live = q in absurd (cc)

        is : gone_by y.standing y ≡ u
        is = ap (λ s. gone_by s y) e

        once : Leads P C by (with_tenants U (zs ++ y ∷ before)) (On (length before) (Speculate Flush) ∷ []) (with_tenants U (zs ++ u ∷ before))
        once = leads_once P C by (with_tenants U (zs ++ y ∷ before)) (with_tenants U (zs ++ u ∷ before)) (On (length before) (Speculate Flush))
            (allowed_middle P C by U (Speculate Flush) zs y before (record { live = e; youngest = a })) (changed_middle P C by U (Speculate Flush) zs y before)

        ends : FlushRun P C by U (zs ++ u ∷ []) ys us → FlushRun P C by U zs (y ∷ ys) us
        ends r =
            let both = leads_more P C by (with_tenants U (zs ++ y ∷ before)) (with_tenants U (zs ++ u ∷ before)) (with_tenants U (zs ++ u ∷ after)) r.steps
            (On (length before) (Speculate Flush) ∷ []) once (rest u r) in
            record {
              steps = r.steps ++ On (length before) (Speculate Flush) ∷ [];
              quiet = all_more IsNoRetire r.steps (On (length before) (Speculate Flush) ∷ []) r.quiet (tt, tt);
              leads = subst (λ v. Leads P C by (with_tenants U (zs ++ y ∷ before)) (r.steps ++ On (length before) (Speculate Flush) ∷ []) (with_tenants U (zs ++ v ∷ after))) (sym is) both;
              stops = λ h. subst (λ v. AllByRecursion IsNoRetiredStop (zs ++ v ∷ after)) (sym is)
                  (stopped u r (stops_put zs y u before (λ q c f. let no : Squashed ≡ Retired = q in absurd (cc)) h));
            }

pub flush_run : (P : Program) (C : Sizes) (by : ℕ) (U : UpdateUnit) (ys us : List Tenant) → FlushRun P C by U [] ys us
flush_run P C by U ys us = flushed_from P C by U [] ys us tt

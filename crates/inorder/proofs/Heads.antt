-- The oldest live tenant: where it stands, and what of it the steps of others keep.
use Rattle.std.proofs.Common.{◌≡◌, ◌≢◌, ◌⊎◌, ℕ, suc, ◌%◌, ◌<◌, cond, List, [], ◌∷◌, ◌++◌, length, Some, refl, sym, ap, ◌∙◌, subst, inl, inr, ⊎_elim, arith}
use Rattle.std.specs.List.{AllByRecursion}
use Rattle.std.proofs.lemmas.Option.{same_Some}
use Rattle.instructions.specs.Programs.{Program}
use Rattle.inorder.specs.declared.history.Act.{Act}
use Rattle.inorder.specs.declared.history.Act.TheVariants.{Claim, Deliver, Finish, Link, Load, Mend, Retire, Speculate, Squash}
use Rattle.inorder.specs.declared.history.Source.TheVariants.{First, Second}
use Rattle.inorder.specs.declared.history.Step.{Step}
use Rattle.inorder.specs.declared.history.Step.TheVariants.{Let, On, Renew}
use Rattle.inorder.specs.Callers.{GoesOn, IsHead, head_station, is_retired, stands_retired}
use Rattle.inorder.specs.Laws.{FitsRing}
use Rattle.inorder.specs.Legal.{Allowed, May, applied, changed}
use Rattle.inorder.specs.Replies.{IsOver, IsRetiredStop}
use Rattle.inorder.specs.Steps.{IsNoRetiredStop, new_tenant}
use Rattle.inorder.specs.Tenants.{Addr, IsNotLive, Live, Retired, Squashed, Standing, Tenant, computed, on_path, stands_on_path}
use Rattle.inorder.specs.Unit.{Sizes, UpdateUnit, at, how_many, older, recent, younger}
use Rattle.inorder.proofs.Basics.{split_at}
use Rattle.inorder.proofs.Creators.{at_cases}
use Rattle.inorder.proofs.Ends.{Acted, IsNotBacks, IsNotBacksAct, exact, oldest_live, retired_on, still_oldest}
use Rattle.inorder.proofs.Grows.{all_mid}
use Rattle.inorder.proofs.Moves.{came, goes}
use Rattle.inorder.proofs.Positions.{all_at, at_below, at_more, at_new, older_from}
use Rattle.inorder.proofs.Sound.{IsSettled, IsSound, SettledBy}
use Rattle.inorder.proofs.Recent.{among_all, counts_same, live_recent, recent_at}
use Rattle.inorder.proofs.Stations.{AreSettling, OldGone, finished_station, mended_station, settling, settling_newest}
use Rattle.inorder.proofs.Speculating.{speculates_live}

-- The oldest live tenant, or none

pub record Oldest (ts : List Tenant) : Type 0 where
  pub p : ℕ
  pub tenant : Tenant
  pub is : at ts p ≡ Some tenant
  pub live : tenant.standing ≡ Live
  pub oldest : (q : ℕ) (u : Tenant) → q < p → at ts q ≡ Some u → u.standing ≢ Live

pub find_oldest : (ts : List Tenant) → AllByRecursion IsNotLive ts ⊎ Oldest ts
find_oldest [] = inl tt
find_oldest (t ∷ ts) = ⊎_elim
    (λ (none : AllByRecursion IsNotLive ts). new none t.standing refl)
    (λ (o : Oldest ts). inr (record {
      p = o.p;
      tenant = o.tenant;
      is = at_more t ts o.p o.tenant o.is;
      live = o.live;
      oldest = λ q u lt e. ⊎_elim
          (λ old. o.oldest q u lt old)
          (λ (n : (q ≡ length ts) × (t ≡ u)). let b = at_below ts o.p o.tenant o.is in absurd (omega (arith, n.0)))
          (at_cases t ts q u e);
    }))
    (find_oldest ts)
  where
    new : AllByRecursion IsNotLive ts → (st : Standing) → t.standing ≡ st → AllByRecursion IsNotLive (t ∷ ts) ⊎ Oldest (t ∷ ts)
    new none Live e = inr (record {
      p = length ts;
      tenant = t;
      is = at_new t ts;
      live = e;
      oldest = λ q u lt f. ⊎_elim
          (λ old. all_at IsNotLive ts none q u old)
          (λ (n : (q ≡ length ts) × (t ≡ u)). absurd (omega (arith, n.0)))
          (at_cases t ts q u f);
    })
    new none Retired e = inl ((λ live. let x = sym e ∙ live in cc x), none)
    new none Squashed e = inl ((λ live. let x = sym e ∙ live in cc x), none)

-- It stands after those that have retired

-- before the oldest live tenant the path has retired
path_retired : (ts : List Tenant) → AllByRecursion IsNotLive ts → how_many on_path ts ≡ how_many is_retired ts
path_retired [] h = refl
path_retired (t ∷ ts) h = go t.standing refl (path_retired ts h.1)
  where
    go : (st : Standing) → t.standing ≡ st → how_many on_path ts ≡ how_many is_retired ts → how_many on_path (t ∷ ts) ≡ how_many is_retired (t ∷ ts)
    go Live e r = absurd (h.0 e)
    go Retired e r =
        ap (λ s. cond (stands_on_path s) (suc (how_many on_path ts)) (how_many on_path ts)) e
        ∙ (ap suc r ∙ sym (ap (λ s. cond (stands_retired s) (suc (how_many is_retired ts)) (how_many is_retired ts)) e))
    go Squashed e r =
        ap (λ s. cond (stands_on_path s) (suc (how_many on_path ts)) (how_many on_path ts)) e
        ∙ (r ∙ sym (ap (λ s. cond (stands_retired s) (suc (how_many is_retired ts)) (how_many is_retired ts)) e))

-- after a live one none has retired
pub none_behind : (t : Tenant) (ts ys : List Tenant) → t.standing ≡ Live → AreSettling (ys ++ t ∷ ts) → how_many is_retired (ys ++ t ∷ ts) ≡ how_many is_retired ts
none_behind t ts [] live s = ap (λ z. cond (stands_retired z) (suc (how_many is_retired ts)) (how_many is_retired ts)) live
none_behind t ts (y ∷ ys) live s = go y.standing refl (none_behind t ts ys live s.1)
  where
    go : (st : Standing) → y.standing ≡ st → how_many is_retired (ys ++ t ∷ ts) ≡ how_many is_retired ts → how_many is_retired (y ∷ (ys ++ t ∷ ts)) ≡ how_many is_retired ts
    go Live e r = ap (λ z. cond (stands_retired z) (suc (how_many is_retired (ys ++ t ∷ ts))) (how_many is_retired (ys ++ t ∷ ts))) e ∙ r
    go Squashed e r = ap (λ z. cond (stands_retired z) (suc (how_many is_retired (ys ++ t ∷ ts))) (how_many is_retired (ys ++ t ∷ ts))) e ∙ r
    go Retired e r =
        let q = all_mid IsSettled t ts ys (s.0 e) in
        absurd (subst (λ x. SettledBy x t.fate) live q)

pub head_at : (P : Program) (C : Sizes) (U : UpdateUnit) → IsSound P U.tenants → FitsRing C (recent U) → OldGone U → (o : Oldest U.tenants) → o.tenant.station ≡ head_station C U
head_at P C U ok ring gone o =
    let us = recent U in
    let here = recent_at U o.p o.tenant o.is (live_recent U gone o.p o.tenant o.is o.live) in
    let position = here.position in
    let below = at_below us here.r o.tenant here.is in
    let older_all = older_from IsNotLive us here.r below (λ q u lt e.
    let all = among_all U q u e in
    let there = all.position in
    o.oldest all.p u (omega (arith, lt, position, there)) all.is) in
    let split = split_at us here.r o.tenant here.is in
    let counted : how_many is_retired us ≡ how_many is_retired (older us here.r) =
    ap (how_many is_retired) split ∙ none_behind o.tenant (older us here.r) (younger us here.r) o.live
    (subst AreSettling split (settling_newest U.fresh U.tenants (settling P U.tenants ok))) in
    ring.place here.r o.tenant here.is (ap stands_on_path o.live) ∙ (λ i. (path_retired (older us here.r) older_all ∙ sym counted) i % C.ring)

-- What others keep

retired_same : (P : Program) (by : ℕ) (act : Act) (ys : List Tenant) (t : Tenant) (ts : List Tenant) → IsNotBacksAct act → May P by act ys t ts → is_retired (changed P by act t ts) ≡ is_retired t
retired_same P by (Link First) ys t ts b m = refl
retired_same P by (Link Second) ys t ts b m = refl
retired_same P by (Deliver First) ys t ts b m = refl
retired_same P by (Deliver Second) ys t ts b m = refl
retired_same P by Claim ys t ts b m = refl
retired_same P by Finish ys t ts b m = ap stands_retired (finished_station t (computed P t)).1
retired_same P by Load ys t ts b m = absurd b
retired_same P by (Retire n) ys t ts b m = absurd b
retired_same P by Squash ys t ts b m = sym (ap stands_retired m.live)
retired_same P by (Speculate s) ys t ts b m = absurd b
retired_same P by Mend ys t ts b m = ap stands_retired (mended_station t t.fate).1

pub head_stays : (P : Program) (C : Sizes) (U : UpdateUnit) (by : ℕ) (s : Step) → IsNotBacks s → Allowed P C U by s → head_station C (applied P C U by s) ≡ head_station C U
head_stays P C U by (Let index predicted first second) b a = refl
head_stays P C U by (On p act) b a =
    let us = U.tenants in
    let t = a.tenant in
    ap (λ z. z % C.ring) (counts_same P U by p act t a.is is_retired (retired_same P by act (younger us p) t (older us p) b a.may))
head_stays P C U by Renew b a = absurd b

no_stop_kept : (t t' : Tenant) → IsNoRetiredStop t → (t'.standing ≡ Retired → (t.standing ≡ Retired) × (t'.fate ≡ t.fate)) → IsNoRetiredStop t'
no_stop_kept t t' n f e c g = let x = f e in n x.0 c (sym x.1 ∙ g)

pub live_goes_on : (t : Tenant) → t.standing ≡ Live → IsNoRetiredStop t
live_goes_on t live = λ gone c f. let x = sym live ∙ gone in cc x

pub goes_on_stays : (P : Program) (C : Sizes) (U : UpdateUnit) (by : ℕ) (s : Step) → IsNotBacks s → Allowed P C U by s → IsSound P U.tenants → GoesOn U → GoesOn (applied P C U by s)
goes_on_stays P C U by (Let index predicted first second) b a ok g p t is = ⊎_elim
    (λ old. g p t old)
    (λ (n : (p ≡ length U.tenants) × (new_tenant P C U index predicted first second ≡ t)). subst IsNoRetiredStop n.1 (live_goes_on (new_tenant P C U index predicted first second) refl))
    (at_cases (new_tenant P C U index predicted first second) U.tenants p t is)
goes_on_stays P C U by (On r act) b a ok g p t is =
    let V = applied P C U by (On r act) in
    let was = came P C U by r act a ok p t is in ⊎_elim
    (λ (e : at V.tenants p ≡ Some was.tenant). subst IsNoRetiredStop (same_Some was.tenant t (sym e ∙ is)) (g p was.tenant was.is))
    (λ (z : Acted P U by (On r act) V.tenants p was.tenant).
    subst IsNoRetiredStop (same_Some (changed P by z.act was.tenant (older U.tenants p)) t (sym z.now ∙ is))
    (no_stop_kept was.tenant (changed P by z.act was.tenant (older U.tenants p)) (g p was.tenant was.is)
    (retired_on P by z.act (younger U.tenants p) was.tenant (older U.tenants p) (subst IsNotBacks z.step b) z.may)))
    (exact P C U by (On r act) a p was.tenant was.is)
goes_on_stays P C U by Renew b a ok g p t is = g p t is

-- an address stays, but for the back
pub addr_on : (P : Program) (by : ℕ) (act : Act) (ys : List Tenant) (t : Tenant) (ts : List Tenant) (x : ℕ) → IsNotBacksAct act → May P by act ys t ts → t.fate ≡ Addr x →
    (changed P by act t ts).fate ≡ Addr x
addr_on P by (Link First) ys t ts x b m e = e
addr_on P by (Link Second) ys t ts x b m e = e
addr_on P by (Deliver First) ys t ts x b m e = e
addr_on P by (Deliver Second) ys t ts x b m e = e
addr_on P by Claim ys t ts x b m e = let f = m.fate in absurd (cc)
addr_on P by Finish ys t ts x b m e = let f = m.fate in absurd (cc)
addr_on P by Load ys t ts x b m e = absurd b
addr_on P by (Retire n) ys t ts x b m e = absurd b
addr_on P by Squash ys t ts x b m e = e
addr_on P by (Speculate s) ys t ts x b m e = absurd b
addr_on P by Mend ys t ts x b m e = let f = m.fate in absurd (cc)

-- the head with its address, and its instruction
pub record HasAddr (station tag index x : ℕ) (t : Tenant) : Type 0 where
  pub station_is : t.station ≡ station
  pub tag_is : t.tag ≡ tag
  pub index_is : t.index ≡ index
  pub fate : t.fate ≡ Addr x

pub addr_head_stays : (P : Program) (C : Sizes) (U : UpdateUnit) (by : ℕ) (s : Step) → IsNotBacks s → Allowed P C U by s → IsSound P U.tenants → (p station tag index x : ℕ) →
    IsHead U p (HasAddr station tag index x) → IsHead (applied P C U by s) p (HasAddr station tag index x)
addr_head_stays P C U by s b a ok p station tag index x i =
    let m = goes P C U by s a ok p i.tenant i.is in
    record {
      tenant = m.tenant;
      is = m.is;
      live = oldest_live P C U by s b a ok p i.tenant i.is i.live i.oldest m.tenant m.is;
      oldest = still_oldest P C U by s b a ok p i.tenant i.is i.live i.oldest;
      goes_on = goes_on_stays P C U by s b a ok i.goes_on;
      fact = record { station_is = m.goes.station ∙ i.fact.station_is; tag_is = m.goes.tag ∙ i.fact.tag_is; index_is = m.goes.index ∙ i.fact.index_is; fate = fate m.tenant m.is };
    }
  where
    fate : (t : Tenant) → at (applied P C U by s).tenants p ≡ Some t → t.fate ≡ Addr x
    fate t is = ⊎_elim
        (λ e. ap (λ (z : Tenant). z.fate) (same_Some t i.tenant (sym is ∙ e)) ∙ i.fact.fate)
        (λ (z : Acted P U by s (applied P C U by s).tenants p i.tenant). ap (λ (z : Tenant). z.fate) (same_Some t (changed P by z.act i.tenant (older U.tenants p)) (sym is ∙ z.now)) ∙
        addr_on P by z.act (younger U.tenants p) i.tenant (older U.tenants p) x (subst IsNotBacks z.step b) z.may i.fact.fate)
        (exact P C U by s a p i.tenant i.is)

-- a retired stop stays one
stop_on : (P : Program) (by : ℕ) (act : Act) (ys : List Tenant) (t : Tenant) (ts : List Tenant) → May P by act ys t ts → IsRetiredStop t → IsRetiredStop (changed P by act t ts)
stop_on P by (Link First) ys t ts m r = record { code = r.code; standing = r.standing; fate = r.fate }
stop_on P by (Link Second) ys t ts m r = record { code = r.code; standing = r.standing; fate = r.fate }
stop_on P by (Deliver First) ys t ts m r = record { code = r.code; standing = r.standing; fate = r.fate }
stop_on P by (Deliver Second) ys t ts m r = record { code = r.code; standing = r.standing; fate = r.fate }
stop_on P by Claim ys t ts m r = let x = sym m.live ∙ r.standing in absurd (cc x)
stop_on P by Finish ys t ts m r = let x = sym m.live ∙ r.standing in absurd (cc x)
stop_on P by Load ys t ts m r = let x = sym m.live ∙ r.standing in absurd (cc x)
stop_on P by (Retire n) ys t ts m r = let x = sym m.live ∙ r.standing in absurd (cc x)
stop_on P by Squash ys t ts m r = let x = sym m.live ∙ r.standing in absurd (cc x)
stop_on P by (Speculate s) ys t ts m r = let x = sym (speculates_live P s ys t ts m) ∙ r.standing in absurd (cc x)
stop_on P by Mend ys t ts m r = let x = sym m.live ∙ r.standing in absurd (cc x)

pub over_stays : (P : Program) (C : Sizes) (U : UpdateUnit) (by : ℕ) (s : Step) → Allowed P C U by s → IsOver U → IsOver (applied P C U by s)
over_stays P C U by s a o = ⊎_elim
    (λ e. record { p = o.p; stop = record { tenant = o.stop.tenant; is = e; fact = o.stop.fact } })
    (λ (z : Acted P U by s (applied P C U by s).tenants o.p o.stop.tenant).
    record {
      p = o.p;
      stop = record {
        tenant = changed P by z.act o.stop.tenant (older U.tenants o.p);
        is = z.now;
        fact = stop_on P by z.act (younger U.tenants o.p) o.stop.tenant (older U.tenants o.p) z.may o.stop.fact;
      };
    })
    (exact P C U by s a o.p o.stop.tenant o.stop.is)

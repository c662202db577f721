-- The tenant of a station.
use Rattle.std.proofs.lemmas.Grind.{common_steps}
use Rattle.std.proofs.Common.{◌≡◌, ◌⊎◌, ℕ, zero, suc, Bool, true, false, cond, List, [], ◌∷◌, ◌++◌, length, drop, Some, refl, sym, ap, ◌∙◌, inl, inr, ⊎_elim, arith, append_assoc, length-append}
use Rattle.std.proofs.Common.{true≢false}
use Rattle.std.specs.Prelude.{slice_get}
use Rattle.std.specs.List.{AllByRecursion}
use Rattle.instructions.specs.Programs.{Program}
use Rattle.inorder.specs.Tenants.{IsNotLive, Live, Standing, Tenant, is_live, stands_live}
use Rattle.one_thread.specs.declared.station.Station.{Station}
use Rattle.one_thread.specs.Window.{station_of, window}
use Rattle.one_thread.proofs.Windows.{window_append, window_if, window_live}
use Rattle.inorder.proofs.OneCaller.Alike.{AreAlike, IsAlike}
use Rattle.inorder.proofs.OneCaller.Recovery.{gone, gone_left}

pub record Found (P : Program) (U : List Tenant) (i : ℕ) (w : Station) : Type 0 where
  pub ys : List Tenant
  pub t : Tenant
  pub ts : List Tenant
  pub split : U ≡ ys ++ t ∷ ts
  pub live : t.standing ≡ Live
  pub station : station_of P t ≡ w
  pub place : i ≡ length (window P ts)

pub get_append : {X : Type 0} → (xs : List X) (x w : X) (i : ℕ) → slice_get (xs ++ x ∷ []) i ≡ Some w → (slice_get xs i ≡ Some w) ⊎ ((i ≡ length xs) × (x ≡ w))
get_append [] x w zero h = inr (refl, cc)
get_append [] x w (suc i) h = absurd (cc)
get_append (y ∷ xs) x w zero h = inl h
get_append (y ∷ xs) x w (suc i) h = ⊎_elim inl (λ q. inr (ap suc q.0, q.1)) (get_append xs x w i h)

live_of : (t : Tenant) (st : Standing) → t.standing ≡ st → is_live t ≡ true → t.standing ≡ Live
live_of t st e h = grind (arith, common_steps, true≢false)

pub found : (P : Program) (U : List Tenant) (i : ℕ) (w : Station) → slice_get (window P U) i ≡ Some w → Found P U i w
found P [] i w h = absurd (cc)
found P (t ∷ ts) i w h = go (is_live t) refl (found P ts i w)
  where
    deeper : Found P ts i w → Found P (t ∷ ts) i w
    deeper f = record { ys = t ∷ f.ys; t = f.t; ts = f.ts; split = ap (λ x. t ∷ x) f.split; live = f.live; station = f.station; place = f.place }

    go : (b : Bool) → is_live t ≡ b → (slice_get (window P ts) i ≡ Some w → Found P ts i w) → Found P (t ∷ ts) i w
    go true e more =
        let h' : slice_get (window P ts ++ station_of P t ∷ []) i ≡ Some w = sym (ap (λ x. slice_get x i) (window_if P t ts true e)) ∙ h in
        ⊎_elim
        (λ q. deeper (more q))
        (λ q. record { ys = []; t = t; ts = ts; split = refl; live = live_of t t.standing refl e; station = q.1; place = q.0 })
        (get_append (window P ts) (station_of P t) w i h')
    go false e more = deeper (more (sym (ap (λ x. slice_get x i) (window_if P t ts false e)) ∙ h))

-- the window round a live tenant
pub window_middle : (P : Program) (ys : List Tenant) (t : Tenant) (ts : List Tenant) → t.standing ≡ Live → window P (ys ++ t ∷ ts) ≡ window P ts ++ station_of P t ∷ window P ys
window_middle P ys t ts e = grind (arith, common_steps, window_append, window_live, append_assoc)

-- Nobody is live

pub window_none : (P : Program) (ys : List Tenant) → AllByRecursion IsNotLive ys → window P ys ≡ []
window_none P [] h = refl
window_none P (y ∷ ys) h = go y.standing refl (window_none P ys h.1)
  where
    go : (st : Standing) → y.standing ≡ st → window P ys ≡ [] → window P (y ∷ ys) ≡ []
    go st e more = grind (arith, common_steps, window_if, ys)

pub nobody : (P : Program) (ts : List Tenant) → length (window P ts) ≡ 0 → AllByRecursion IsNotLive ts
nobody P [] h = tt
nobody P (t ∷ ts) h = go t.standing refl (nobody P ts)
  where
    go : (st : Standing) → t.standing ≡ st → (length (window P ts) ≡ 0 → AllByRecursion IsNotLive ts) → AllByRecursion IsNotLive (t ∷ ts)
    go st e more = grind (arith, common_steps, ts, t, window_live, length-append, window_if)

empty : (xs : List Station) → length xs ≡ 0 → xs ≡ []
empty xs h = grind (arith, common_steps)

pub drop_first : (P : Program) (ys : List Tenant) (t : Tenant) (ts : List Tenant) → length (window P ts) ≡ 0 → drop 1 (window P ts ++ station_of P t ∷ window P ys) ≡ window P ys
drop_first P ys t ts e = ap (λ x. drop 1 (x ++ station_of P t ∷ window P ys)) (empty (window P ts) e)

pub window_behind : (P : Program) (ys : List Tenant) (t : Tenant) (ts : List Tenant) → length (window P ts) ≡ 0 → is_live t ≡ false → window P (ys ++ t ∷ ts) ≡ window P ys
window_behind P ys t ts e f = grind (arith, common_steps, window_append, window_if, empty)

-- the window after a recovery
pub window_gone : (P : Program) (ys : List Tenant) (t : Tenant) (ts : List Tenant) → t.standing ≡ Live → window P (gone ys ++ t ∷ ts) ≡ window P ts ++ station_of P t ∷ []
window_gone P ys t ts e = window_middle P (gone ys) t ts e ∙ ap (λ l. window P ts ++ station_of P t ∷ l) (window_none P (gone ys) (gone_left ys))

-- Tenants that are alike show the same

pub station_alike : (P : Program) (t u : Tenant) → IsAlike t u → station_of P u ≡ station_of P t
station_alike P t u a = grind (arith, common_steps)

pub window_alike : (P : Program) (ts us : List Tenant) → AreAlike ts us → window P us ≡ window P ts
window_alike P [] [] a = refl
window_alike P [] (u ∷ us) a = absurd a
window_alike P (t ∷ ts) [] a = absurd a
window_alike P (t ∷ ts) (u ∷ us) a =
    ap (λ s. cond (stands_live s) (window P us ++ station_of P u ∷ []) (window P us)) a.0.standing
    ∙ ap (λ x. cond (is_live t) (window P us ++ x ∷ []) (window P us)) (station_alike P t u a.0)
    ∙ ap (λ x. cond (is_live t) (x ++ station_of P t ∷ []) x) (window_alike P ts us a.1)

-- The positions of the live tenants, step by step.
use Rattle.std.proofs.Common.{◌≡◌, ℕ, suc, Bool, true, false, cond, eqb, eqb-true, List, [], ◌∷◌, ◌++◌, length, Some, refl, sym, ap, ◌∙◌, append_assoc}
use Rattle.std.proofs.lemmas.List.{append-nil}
use Rattle.std.specs.List.{AllByRecursion}
use Rattle.instructions.specs.Programs.{Program}
use Rattle.inorder.specs.declared.history.Act.{Act}
use Rattle.inorder.specs.declared.history.Act.TheVariants.{Claim, Deliver, Finish, Link, Load, Mend, Retire, Speculate, Squash}
use Rattle.inorder.specs.declared.history.Source.TheVariants.{First, Second}
use Rattle.inorder.specs.declared.history.Step.{Step}
use Rattle.inorder.specs.declared.history.Step.TheVariants.{Let, On, Renew}
use Rattle.inorder.specs.Legal.{applied, change_at, changed}
use Rattle.inorder.specs.Tenants.{IsNotLive, Live, Retired, Squashed, Standing, Tenant, computed, is_live, stands_live}
use Rattle.inorder.specs.Unit.{Sizes, UpdateUnit, at, older, younger}
use Rattle.inorder.proofs.Basics.{split_at}
use Rattle.inorder.proofs.Grows.{same_length}
use Rattle.inorder.proofs.Kept.{parts}
use Rattle.inorder.proofs.Positions.{at_replaced_else, at_replaced_here, not_eqb}
use Rattle.inorder.proofs.Stations.{finished_station, mended_station}
use Rattle.inorder.specs.Moves.{IsSquash, MayRun, MayTake, run_on}
use Rattle.inorder.proofs.OneCaller.Middle.{at_middle}
use Rattle.chart.specs.Happened.{StandsAs}
use Rattle.chart.specs.Named.{live_positions}

-- The list

positions_if : (t : Tenant) (ts : List Tenant) (b : Bool) → is_live t ≡ b → live_positions (t ∷ ts) ≡ cond b (live_positions ts ++ length ts ∷ []) (live_positions ts)
positions_if t ts b e = ap (λ x. cond x (live_positions ts ++ length ts ∷ []) (live_positions ts)) e

pub positions_live : (t : Tenant) (ts : List Tenant) → t.standing ≡ Live → live_positions (t ∷ ts) ≡ live_positions ts ++ length ts ∷ []
positions_live t ts e = positions_if t ts true (ap stands_live e)

not_live : (t : Tenant) → IsNotLive t → is_live t ≡ false
not_live t n = go t.standing refl
  where
    go : (st : Standing) → t.standing ≡ st → stands_live t.standing ≡ false
    go Live e = absurd (n e)
    go Retired e = ap stands_live e
    go Squashed e = ap stands_live e

pub positions_past : (t : Tenant) (ts : List Tenant) → IsNotLive t → live_positions (t ∷ ts) ≡ live_positions ts
positions_past t ts n = positions_if t ts false (not_live t n)

-- none of the younger is live
none_younger : (ys ts : List Tenant) → AllByRecursion IsNotLive ys → live_positions (ys ++ ts) ≡ live_positions ts
none_younger [] ts n = refl
none_younger (y ∷ ys) ts n = positions_past y (ys ++ ts) n.0 ∙ none_younger ys ts n.1

-- nobody is live
none_live : (ts : List Tenant) → AllByRecursion IsNotLive ts → live_positions ts ≡ []
none_live [] n = refl
none_live (t ∷ ts) n = positions_past t ts n.0 ∙ none_live ts n.1

-- One tenant changes

-- it stays where it stands
stays : (t t' : Tenant) (ts ys : List Tenant) → t'.standing ≡ t.standing → live_positions (ys ++ t' ∷ ts) ≡ live_positions (ys ++ t ∷ ts)
stays t t' ts [] e = ap (λ s. cond (stands_live s) (live_positions ts ++ length ts ∷ []) (live_positions ts)) e
stays t t' ts (y ∷ ys) e =
    ap (λ n. cond (is_live y) (live_positions (ys ++ t' ∷ ts) ++ n ∷ []) (live_positions (ys ++ t' ∷ ts))) (sym (same_length t t' ts ys))
    ∙ ap (λ l. cond (is_live y) (l ++ length (ys ++ t ∷ ts) ∷ []) l) (stays t t' ts ys e)

-- the youngest leaves
youngest_leaves : (t t' : Tenant) (ts ys : List Tenant) → AllByRecursion IsNotLive ys → t.standing ≡ Live → t'.standing ≡ Squashed →
    live_positions (ys ++ t ∷ ts) ≡ live_positions (ys ++ t' ∷ ts) ++ length ts ∷ []
youngest_leaves t t' ts ys n live gone =
    none_younger ys (t ∷ ts) n
    ∙ positions_live t ts live
    ∙ ap (λ l. l ++ length ts ∷ []) (sym (positions_if t' ts false (ap stands_live gone)))
    ∙ ap (λ l. l ++ length ts ∷ []) (sym (none_younger ys (t' ∷ ts) n))

-- the oldest leaves
oldest_leaves : (t t' : Tenant) (ts ys : List Tenant) → AllByRecursion IsNotLive ts → t.standing ≡ Live → t'.standing ≡ Retired →
    live_positions (ys ++ t ∷ ts) ≡ length ts ∷ live_positions (ys ++ t' ∷ ts)
oldest_leaves t t' ts [] n live gone =
    positions_live t ts live
    ∙ ap (λ l. l ++ length ts ∷ []) (none_live ts n)
    ∙ ap (λ l. length ts ∷ l) (sym (positions_if t' ts false (ap stands_live gone) ∙ none_live ts n))
oldest_leaves t t' ts (y ∷ ys) n live gone = go (is_live y) refl (oldest_leaves t t' ts ys n live gone)
  where
    go : (b : Bool) → is_live y ≡ b → live_positions (ys ++ t ∷ ts) ≡ length ts ∷ live_positions (ys ++ t' ∷ ts) →
        live_positions (y ∷ (ys ++ t ∷ ts)) ≡ length ts ∷ live_positions (y ∷ (ys ++ t' ∷ ts))
    go true e more =
        positions_if y (ys ++ t ∷ ts) true e
        ∙ ap (λ l. l ++ length (ys ++ t ∷ ts) ∷ []) more
        ∙ ap (λ k. length ts ∷ (live_positions (ys ++ t' ∷ ts) ++ k ∷ [])) (same_length t t' ts ys)
        ∙ ap (λ l. length ts ∷ l) (sym (positions_if y (ys ++ t' ∷ ts) true e))
    go false e more =
        positions_if y (ys ++ t ∷ ts) false e
        ∙ more
        ∙ ap (λ l. length ts ∷ l) (sym (positions_if y (ys ++ t' ∷ ts) false e))

-- A step

-- an act that lets a tenant stand where it stands
abbrev pub IsQuietAct : Act → Type 0
IsQuietAct Squash = ⊥
IsQuietAct (Retire n) = ⊥
IsQuietAct (Speculate s) = ⊥
IsQuietAct act = Unit {0}

abbrev pub IsQuiet : Step → Type 0
IsQuiet (On p act) = IsQuietAct act
IsQuiet step = ⊥

act_stays : (P : Program) (by : ℕ) (act : Act) (t : Tenant) (ts : List Tenant) → IsQuietAct act → (changed P by act t ts).standing ≡ t.standing
act_stays P by (Link First) t ts q = refl
act_stays P by (Link Second) t ts q = refl
act_stays P by (Deliver First) t ts q = refl
act_stays P by (Deliver Second) t ts q = refl
act_stays P by Claim t ts q = refl
act_stays P by Finish t ts q = (finished_station t (computed P t)).1
act_stays P by Load t ts q = refl
act_stays P by (Retire n) t ts q = absurd q
act_stays P by Squash t ts q = absurd q
act_stays P by (Speculate s) t ts q = absurd q
act_stays P by Mend t ts q = (mended_station t t.fate).1

-- a position of who was squashed
abbrev pub IsSquashed : List Tenant → ℕ → Type 0
IsSquashed ts p = StandsAs ts p Squashed

pub all_stand : {us vs : List Tenant} (ps : List ℕ) → ((p : ℕ) → IsSquashed us p → IsSquashed vs p) → AllByRecursion (IsSquashed us) ps →
    AllByRecursion (IsSquashed vs) ps
all_stand [] f h = tt
all_stand (p ∷ ps) f h = (f p h.0, all_stand ps f h.1)

all_both : (ts : List Tenant) (ps qs : List ℕ) → AllByRecursion (IsSquashed ts) ps → AllByRecursion (IsSquashed ts) qs →
    AllByRecursion (IsSquashed ts) (ps ++ qs)
all_both ts [] qs h k = k
all_both ts (p ∷ ps) qs h k = (h.0, all_both ts ps qs h.1 k)

-- Nobody has come or left
pub record Stay (us vs : List Tenant) : Type 0 where
  pub positions : live_positions vs ≡ live_positions us
  pub count : length vs ≡ length us

-- The oldest has left
pub record OneLess (us vs : List Tenant) : Type 0 where
  pub first : ℕ
  pub left : StandsAs vs first Retired
  pub positions : live_positions us ≡ first ∷ live_positions vs
  pub count : length vs ≡ length us

-- Some of the youngest have left
pub record Fewer (us vs : List Tenant) : Type 0 where
  pub gone : List ℕ
  pub left : AllByRecursion (IsSquashed vs) gone
  pub positions : live_positions us ≡ live_positions vs ++ gone
  pub count : length vs ≡ length us

-- One has come
pub record OneMore (us vs : List Tenant) : Type 0 where
  pub positions : live_positions vs ≡ live_positions us ++ length us ∷ []
  pub count : length vs ≡ suc (length us)

-- who acts stands where it stood before, between the same others
module _ (P : Program) (C : Sizes) (by : ℕ) where
  count_on : (U : UpdateUnit) (p : ℕ) (act : Act) (m : MayTake P C U by (On p act)) →
      length (applied P C U by (On p act)).tenants ≡ length U.tenants
  count_on U p act m =
      ap (λ l. length l) (parts P U.tenants by p act m.tenant m.is)
      ∙ sym (same_length m.tenant (changed P by act m.tenant (older U.tenants p)) (older U.tenants p) (younger U.tenants p))
      ∙ ap (λ l. length l) (sym (split_at U.tenants p m.tenant m.is))

  quiet_once : (U : UpdateUnit) (s : Step) → IsQuiet s → MayTake P C U by s → Stay U.tenants (applied P C U by s).tenants
  quiet_once U (Let index predicted first second) q m = absurd q
  quiet_once U (On p act) q m =
      let ts = older U.tenants p in
      let ys = younger U.tenants p in
      let u = changed P by act m.tenant ts in
      record {
        positions =
            ap live_positions (parts P U.tenants by p act m.tenant m.is)
            ∙ stays m.tenant u ts ys (act_stays P by act m.tenant ts q)
            ∙ ap live_positions (sym (split_at U.tenants p m.tenant m.is));
        count = count_on U p act m;
      }
  quiet_once U Renew q m = absurd q

  -- quiet steps behind others
  pub quiet_after : (U : UpdateUnit) (more ss : List Step) → AllByRecursion IsQuiet more → MayRun P C by U (more ++ ss) →
      Stay (run_on P C by U ss).tenants (run_on P C by U (more ++ ss)).tenants
  quiet_after U [] ss q m = record { positions = refl; count = refl }
  quiet_after U (s ∷ more) ss q m =
      let before = quiet_after U more ss q.1 m.0 in
      let last = quiet_once (run_on P C by U (more ++ ss)) s q.0 m.1 in
      record { positions = last.positions ∙ before.positions; count = last.count ∙ before.count }

  pub quiet_run : (U : UpdateUnit) (ss : List Step) → AllByRecursion IsQuiet ss → MayRun P C by U ss → Stay U.tenants (run_on P C by U ss).tenants
  quiet_run U [] q m = record { positions = refl; count = refl }
  quiet_run U (s ∷ ss) q m =
      let before = quiet_run U ss q.1 m.0 in
      let last = quiet_once (run_on P C by U ss) s q.0 m.1 in
      record { positions = last.positions ∙ before.positions; count = last.count ∙ before.count }

  -- who acts is at its position
  now_at : (U : UpdateUnit) (p : ℕ) (act : Act) (m : MayTake P C U by (On p act)) →
      at (applied P C U by (On p act)).tenants p ≡ Some (changed P by act m.tenant (older U.tenants p))
  now_at U p act m =
      let u = changed P by act m.tenant (older U.tenants p) in
      ap (λ o. at (change_at P U.tenants by p act o) p) m.is ∙ at_replaced_here U.tenants p m.tenant u m.is

  -- who was squashed stays so
  squashed_keeps : (U : UpdateUnit) (p : ℕ) (act : Act) (m : MayTake P C U by (On p act)) →
      (m.tenant.standing ≡ Squashed → (changed P by act m.tenant (older U.tenants p)).standing ≡ Squashed) →
      (q : ℕ) → IsSquashed U.tenants q → IsSquashed (applied P C U by (On p act)).tenants q
  squashed_keeps U p act m keeps q h = go (eqb q p) refl
    where
      u : Tenant
      u = changed P by act m.tenant (older U.tenants p)

      go : (b : Bool) → eqb q p ≡ b → IsSquashed (applied P C U by (On p act)).tenants q
      go true e =
          let here : q ≡ p = eqb-true q p e in
          let found : Some h.tenant ≡ Some m.tenant = sym h.is ∙ ap (at U.tenants) here ∙ m.is in
          let same : h.tenant ≡ m.tenant = cc in
          record {
            tenant = u;
            is = ap (at (applied P C U by (On p act)).tenants) here ∙ now_at U p act m;
            stands = keeps (ap (λ (t : Tenant). t.standing) (sym same) ∙ h.stands);
          }
      go false e =
          record {
            tenant = h.tenant;
            is = ap (λ o. at (change_at P U.tenants by p act o) q) m.is ∙ at_replaced_else U.tenants p q u (not_eqb q p e) ∙ h.is;
            stands = h.stands;
          }

  pub mend_keeps : (U : UpdateUnit) (p : ℕ) (m : MayTake P C U by (On p Mend)) (q : ℕ) → IsSquashed U.tenants q →
      IsSquashed (applied P C U by (On p Mend)).tenants q
  mend_keeps U p m q h = squashed_keeps U p Mend m (λ e. act_stays P by Mend m.tenant (older U.tenants p) tt ∙ e) q h

  squash_once : (U : UpdateUnit) (s : Step) → IsSquash s → MayTake P C U by s → Fewer U.tenants (applied P C U by s).tenants
  squash_once U (On p Squash) q m =
      let ts = older U.tenants p in
      let ys = younger U.tenants p in
      let u = changed P by Squash m.tenant ts in
      let last : at (applied P C U by (On p Squash)).tenants (length ts) ≡ Some u =
      ap (λ l. at l (length ts)) (parts P U.tenants by p Squash m.tenant m.is) ∙ at_middle ys u ts in
      record {
        gone = length ts ∷ [];
        left = (record { tenant = u; is = last; stands = refl }, tt);
        positions =
            ap live_positions (split_at U.tenants p m.tenant m.is)
            ∙ youngest_leaves m.tenant u ts ys m.may.youngest m.may.live refl
            ∙ ap (λ l. live_positions l ++ length ts ∷ []) (sym (parts P U.tenants by p Squash m.tenant m.is));
        count = count_on U p Squash m;
      }
  squash_once U (Let index predicted first second) q m = absurd q
  squash_once U Renew q m = absurd q
  squash_once U (On p (Link k)) q m = absurd q
  squash_once U (On p (Deliver k)) q m = absurd q
  squash_once U (On p Claim) q m = absurd q
  squash_once U (On p Finish) q m = absurd q
  squash_once U (On p Load) q m = absurd q
  squash_once U (On p (Retire n)) q m = absurd q
  squash_once U (On p (Speculate s)) q m = absurd q
  squash_once U (On p Mend) q m = absurd q

  squash_keeps : (U : UpdateUnit) (s : Step) → IsSquash s → MayTake P C U by s → (q : ℕ) → IsSquashed U.tenants q → IsSquashed (applied P C U by s).tenants q
  squash_keeps U (On p Squash) i m q h = squashed_keeps U p Squash m (λ e. refl) q h
  squash_keeps U (Let index predicted first second) i m q h = absurd i
  squash_keeps U Renew i m q h = absurd i
  squash_keeps U (On p (Link k)) i m q h = absurd i
  squash_keeps U (On p (Deliver k)) i m q h = absurd i
  squash_keeps U (On p Claim) i m q h = absurd i
  squash_keeps U (On p Finish) i m q h = absurd i
  squash_keeps U (On p Load) i m q h = absurd i
  squash_keeps U (On p (Retire n)) i m q h = absurd i
  squash_keeps U (On p (Speculate s)) i m q h = absurd i
  squash_keeps U (On p Mend) i m q h = absurd i

  pub squash_run : (U : UpdateUnit) (ss : List Step) → AllByRecursion IsSquash ss → MayRun P C by U ss → Fewer U.tenants (run_on P C by U ss).tenants
  squash_run U [] q m = record { gone = []; left = tt; positions = sym (append-nil (live_positions U.tenants)); count = refl }
  squash_run U (s ∷ ss) q m =
      let before = squash_run U ss q.1 m.0 in
      let last = squash_once (run_on P C by U ss) s q.0 m.1 in
      let now = live_positions (applied P C (run_on P C by U ss) by s).tenants in
      record {
        gone = last.gone ++ before.gone;
        left = all_both (applied P C (run_on P C by U ss) by s).tenants last.gone before.gone last.left (all_stand before.gone (squash_keeps (run_on P C by U ss) s q.0 m.1) before.left);
        positions =
            before.positions
            ∙ ap (λ l. l ++ before.gone) last.positions
            ∙ append_assoc now last.gone before.gone;
        count = last.count ∙ before.count;
      }

  pub retire_once : (U : UpdateUnit) (p n : ℕ) → MayTake P C U by (On p (Retire n)) → OneLess U.tenants (applied P C U by (On p (Retire n))).tenants
  retire_once U p n m =
      let ts = older U.tenants p in
      let ys = younger U.tenants p in
      let u = changed P by (Retire n) m.tenant ts in
      record {
        first = length ts;
        left =
            record {
              tenant = u;
              is = ap (λ l. at l (length ts)) (parts P U.tenants by p (Retire n) m.tenant m.is) ∙ at_middle ys u ts;
              stands = refl;
            };
        positions =
            ap live_positions (split_at U.tenants p m.tenant m.is)
            ∙ oldest_leaves m.tenant u ts ys m.may.oldest m.may.live refl
            ∙ ap (λ l. length ts ∷ live_positions l) (sym (parts P U.tenants by p (Retire n) m.tenant m.is));
        count = count_on U p (Retire n) m;
      }

-- What an allowed step leaves of the facts about single tenants.
use Rattle.std.proofs.Common.{◌≡◌, ℕ, List, Option, Some, None, refl, sym, ap, ◌∙◌, ⊎_elim, inl, inr}
use Rattle.instructions.specs.Programs.{Program}
use Rattle.inorder.specs.declared.history.Act.{Act}
use Rattle.inorder.specs.declared.history.Act.TheVariants.{Claim, Deliver, Finish, Link, Load, Mend, Retire, Speculate, Squash}
use Rattle.inorder.specs.declared.history.Source.TheVariants.{First, Second}
use Rattle.inorder.specs.declared.history.Step.{Step}
use Rattle.inorder.specs.declared.history.Step.TheVariants.{On}
use Rattle.inorder.specs.Legal.{Allowed, May, applied, changed}
use Rattle.inorder.specs.Tenants.{Retired, Tenant}
use Rattle.inorder.specs.Unit.{Sizes, UpdateUnit, at, value_made, older, value_of, younger}
use Rattle.inorder.proofs.Ends.{Acted, exact}
use Rattle.inorder.proofs.Moves.{came, goes}
use Rattle.inorder.proofs.Sound.{IsSound}
use Rattle.front.specs.Knows.{IsFolded, IsGone, IsNewest, IsReused}
use Rattle.front.specs.Trail.{Note}
use Rattle.inorder.proofs.Speculating.{speculates_live}

-- a tenant that has retired changes no more
pub record StaysGone (t t' : Tenant) : Type 0 where
  pub standing : t'.standing ≡ Retired
  pub fate : t'.fate ≡ t.fate
  pub made : t'.made ≡ t.made

pub gone_on : (P : Program) (by : ℕ) (act : Act) (ys : List Tenant) (t : Tenant) (ts : List Tenant) → May P by act ys t ts → t.standing ≡ Retired → StaysGone t (changed P by act t ts)
gone_on P by (Link First) ys t ts m r = record { standing = r; fate = refl; made = refl }
gone_on P by (Link Second) ys t ts m r = record { standing = r; fate = refl; made = refl }
gone_on P by (Deliver First) ys t ts m r = record { standing = r; fate = refl; made = refl }
gone_on P by (Deliver Second) ys t ts m r = record { standing = r; fate = refl; made = refl }
gone_on P by Claim ys t ts m r = let x = sym m.live ∙ r in absurd (cc x)
gone_on P by Finish ys t ts m r = let x = sym m.live ∙ r in absurd (cc x)
gone_on P by Load ys t ts m r = let x = sym m.live ∙ r in absurd (cc x)
gone_on P by (Retire n) ys t ts m r = let x = sym m.live ∙ r in absurd (cc x)
gone_on P by Squash ys t ts m r = let x = sym m.live ∙ r in absurd (cc x)
gone_on P by (Speculate s) ys t ts m r = let x = sym (speculates_live P s ys t ts m) ∙ r in absurd (cc x)
gone_on P by Mend ys t ts m r = let x = sym m.live ∙ r in absurd (cc x)

pub record GoneThere (us : List Tenant) (p : ℕ) (t : Tenant) : Type 0 where
  pub tenant : Tenant
  pub is : at us p ≡ Some tenant
  pub stays : StaysGone t tenant

module _ (P : Program) (C : Sizes) (U : UpdateUnit) (by : ℕ) (s : Step) (a : Allowed P C U by s) (ok : IsSound P U.tenants) where
  abbrev V : UpdateUnit
  V = applied P C U by s

  pub gone_there : (p : ℕ) (t : Tenant) → at U.tenants p ≡ Some t → t.standing ≡ Retired → GoneThere V.tenants p t
  gone_there p t is r = ⊎_elim
      (λ e. record { tenant = t; is = e; stays = record { standing = r; fate = refl; made = refl } })
      (λ (z : Acted P U by s V.tenants p t). record { tenant = changed P by z.act t (older U.tenants p); is = z.now; stays = gone_on P by z.act (younger U.tenants p) t (older U.tenants p) z.may r })
      (exact P C U by s a p t is)

  pub still_gone : (n : Note) → IsGone U n → IsGone V n
  still_gone n i = let g = gone_there n.at i.tenant i.is i.fact in record { tenant = g.tenant; is = g.is; fact = g.stays.standing }

  pub still_reused : (n : Note) → IsReused U n → IsReused V n
  still_reused n i =
      let g = goes P C U by s a ok i.p i.tenant.tenant i.tenant.is in
      record { p = i.p; behind = i.behind; tenant = record { tenant = g.tenant; is = g.is; fact = g.goes.station ∙ i.tenant.fact } }

  pub still_folded : (told : ℕ) (n : Note) → IsFolded U told n → IsFolded V told n
  still_folded told n h = ⊎_elim (λ r. inl (still_reused n r)) (λ l. inr l) h

  pub still_value : (c : Option ℕ) (v : ℕ) → value_of U.tenants c ≡ Some v → value_of V.tenants c ≡ Some v
  still_value None v e = e
  still_value (Some p) v e = go (at U.tenants p) refl e
    where
      go : (o : Option Tenant) → at U.tenants p ≡ o → value_made o ≡ Some v → value_of V.tenants (Some p) ≡ Some v
      go None f g = absurd (cc g)
      go (Some t) f g = let m = goes P C U by s a ok p t f in ap value_made m.is ∙ m.goes.made v g

-- an act lets nobody
pub still_newest : (P : Program) (C : Sizes) (U : UpdateUnit) (by p : ℕ) (act : Act) → Allowed P C U by (On p act) → IsSound P U.tenants → (n : Note) → IsNewest U n →
    IsNewest (applied P C U by (On p act)) n
still_newest P C U by p act a ok n newest = λ q u lt is same. let was = came P C U by p act a ok q u is in newest q was.tenant lt was.is (sym was.goes.station ∙ same)

-- A delivery reaches the source that was asked for, and nothing else changes a source's value.
use Rattle.std.proofs.Common.{◌≡◌, ◌≢◌, ℕ, List, ◌∷◌, Some, refl, sym, ap, ◌∙◌, subst, ⊎_elim}
use Rattle.instructions.specs.Programs.{Program}
use Rattle.instructions.specs.declared.stop.Outcome.{Outcome}
use Rattle.instructions.specs.declared.stop.Outcome.TheVariants.{Pair, Address, Next, Stop as Stops, Value}
use Rattle.inorder.specs.declared.history.Act.{Act}
use Rattle.inorder.specs.declared.history.Act.TheVariants.{Claim, Deliver, Finish, Link, Load, Mend, Retire, Speculate, Squash}
use Rattle.inorder.specs.declared.history.Source.{Source}
use Rattle.inorder.specs.declared.history.Source.TheVariants.{First, Second}
use Rattle.inorder.specs.declared.history.Step.{Step}
use Rattle.inorder.specs.declared.history.Step.TheVariants.{Let, On, Renew}
use Rattle.inorder.specs.Guards.{Delivers, IsGivenRight}
use Rattle.inorder.specs.Legal.{Allowed, May, Taken, applied, changed, reached}
use Rattle.inorder.specs.Steps.{delivered, finished, linked, mended_as, new_tenant}
use Rattle.inorder.specs.Tenants.{Fate, Miss, Tenant, computed, operand}
use Rattle.inorder.specs.Unit.{Sizes, UpdateUnit, at, older, value_of, younger}
use Rattle.inorder.proofs.Moves.{IsActed, IsLeft, at_changed}
use Rattle.inorder.proofs.Positions.{at_more}
use Rattle.inorder.proofs.Theorem.Forbidden.{same_tenant}
use Rattle.inorder.specs.declared.history.Speculation.TheVariants.{Confirm, Flush, Guess}

-- the source that a delivery is for
here : (ts : List Tenant) (t : Tenant) (k : Source) → (operand k (delivered ts t k)).value ≡ value_of ts (operand k t).creator
here ts t First = refl
here ts t Second = refl

-- the other same_tenant of the same tenant
beside : (ts : List Tenant) (t : Tenant) (j k : Source) → k ≢ j → (operand k (delivered ts t j)).value ≡ (operand k t).value
beside ts t First First ne = absurd (ne refl)
beside ts t First Second ne = refl
beside ts t Second First ne = refl
beside ts t Second Second ne = absurd (ne refl)

link_gives_none : (ts : List Tenant) (t : Tenant) (j k : Source) → (operand k (linked ts t j)).value ≡ (operand k t).value
link_gives_none ts t First First = refl
link_gives_none ts t First Second = refl
link_gives_none ts t Second First = refl
link_gives_none ts t Second Second = refl

finish_gives_none : (t : Tenant) (k : Source) (o : Outcome) → (operand k (finished t o)).value ≡ (operand k t).value
finish_gives_none t First (Value v) = refl
finish_gives_none t First (Next x) = refl
finish_gives_none t First (Address a) = refl
finish_gives_none t First (Stops c) = refl
finish_gives_none t First (Pair l h) = refl
finish_gives_none t Second (Value v) = refl
finish_gives_none t Second (Next x) = refl
finish_gives_none t Second (Address a) = refl
finish_gives_none t Second (Stops c) = refl
finish_gives_none t Second (Pair l h) = refl

-- an act other than a delivery to source k leaves its value
act_keeps : (P : Program) (by p : ℕ) (act : Act) (ys : List Tenant) (t : Tenant) (ts : List Tenant) (k : Source) →
    May P by act ys t ts → act ≢ Deliver k → (operand k (changed P by act t ts)).value ≡ (operand k t).value
act_keeps P by p (Link j) ys t ts k m ne = link_gives_none ts t j k
act_keeps P by p (Deliver j) ys t ts k m ne = beside ts t j k (λ e. ne (ap Deliver (sym e)))
act_keeps P by p Claim ys t ts First m ne = refl
act_keeps P by p Claim ys t ts Second m ne = refl
act_keeps P by p Finish ys t ts k m ne = finish_gives_none t k (computed P t)
act_keeps P by p Load ys t ts First m ne = refl
act_keeps P by p Load ys t ts Second m ne = refl
act_keeps P by p (Retire n) ys t ts First m ne = refl
act_keeps P by p (Retire n) ys t ts Second m ne = refl
act_keeps P by p Squash ys t ts First m ne = refl
act_keeps P by p Squash ys t ts Second m ne = refl
act_keeps P by p (Speculate (Guess v)) ys t ts First m ne = refl
act_keeps P by p (Speculate (Guess v)) ys t ts Second m ne = refl
act_keeps P by p (Speculate Confirm) ys t ts First m ne = refl
act_keeps P by p (Speculate Confirm) ys t ts Second m ne = refl
act_keeps P by p (Speculate Flush) ys t ts First m ne = refl
act_keeps P by p (Speculate Flush) ys t ts Second m ne = refl
act_keeps P by p Mend ys t ts k m ne =
    subst (λ (f : Fate). (operand k (mended_as t f)).value ≡ (operand k t).value) (sym m.fate) (both k)
  where
    both : (k : Source) → (operand k (mended_as t (Miss m.x))).value ≡ (operand k t).value
    both First = refl
    both Second = refl

module _ (P : Program) (C : Sizes) (U : UpdateUnit) where
  gives : (by p : ℕ) (k : Source) (t u : Tenant) → Allowed P C U by (On p (Deliver k)) → at U.tenants p ≡ Some t →
      at (applied P C U by (On p (Deliver k))).tenants p ≡ Some u → IsGivenRight (older U.tenants p) k t u
  gives by p k t u a is now = go (same_tenant U.tenants p a.tenant t a.is is)
    where
      ts : List Tenant
      ts = older U.tenants p

      went : IsActed P U.tenants by p (Deliver k) a.tenant p a.tenant
      went = ⊎_elim (λ (z : IsActed P U.tenants by p (Deliver k) a.tenant p a.tenant). z)
          (λ (z : IsLeft P U.tenants by p (Deliver k) p a.tenant). absurd (z.position refl))
          (at_changed P U.tenants by p (Deliver k) a.tenant a.is p a.tenant a.is)

      go : a.tenant ≡ t → IsGivenRight ts k t u
      go same =
          let became : u ≡ delivered ts a.tenant k = same_tenant (applied P C U by (On p (Deliver k))).tenants p u (delivered ts a.tenant k) now went.now in
          let value : (operand k u).value ≡ value_of ts (operand k t).creator =
          ap (λ (z : Tenant). (operand k z).value) became ∙ (here ts a.tenant k ∙ ap (λ (z : Tenant). value_of ts (operand k z).creator) same) in
          let made : value_of ts (operand k t).creator ≡ Some a.may.value = ap (λ (z : Tenant). value_of ts (operand k z).creator) (sym same) ∙ a.may.is_made in
          record {
            asked = record {
              in_time = a.may.in_time;
              way = ap (λ (z : Tenant). (operand k z).way) (sym same) ∙ a.may.way;
              waits = ap (λ (z : Tenant). (operand k z).value) (sym same) ∙ a.may.waits;
            };
            there = (a.may.value, value ∙ made);
            value = value;
          }

  others : (by p : ℕ) (s : Step) (k : Source) (t u : Tenant) → Allowed P C U by s → s ≢ On p (Deliver k) →
      at U.tenants p ≡ Some t → at (applied P C U by s).tenants p ≡ Some u → (operand k u).value ≡ (operand k t).value
  others by p (Let index predicted first second) k t u a ne is now =
      let new = new_tenant P C U index predicted first second in
      ap (λ (z : Tenant). (operand k z).value) (same_tenant (new ∷ U.tenants) p u t now (at_more new U.tenants p t is))
  others by p (On q act) k t u a ne is now = ⊎_elim
      (λ (z : IsActed P U.tenants by q act a.tenant p t).
      let became : u ≡ changed P by act a.tenant (older U.tenants q) = same_tenant _ p u _ now z.now in
      let other : act ≢ Deliver k = λ e. ne (ap (λ x. On q x) e ∙ ap (λ x. On x (Deliver k)) (sym z.position)) in
      ap (λ (z : Tenant). (operand k z).value) became
      ∙ (act_keeps P by q act (younger U.tenants q) a.tenant (older U.tenants q) k a.may other
      ∙ ap (λ (z : Tenant). (operand k z).value) (sym z.tenant)))
      (λ (z : IsLeft P U.tenants by q act p t). ap (λ (x : Tenant). (operand k x).value) (same_tenant _ p u t now z.now))
      (at_changed P U.tenants by q act a.tenant a.is p t is)
  others by p Renew k t u a ne is now = ap (λ (z : Tenant). (operand k z).value) (same_tenant U.tenants p u t now is)

pub delivers : (P : Program) (C : Sizes) (history : List Taken) → Delivers P C history
delivers P C history = record { gives = gives P C (reached P C history); others = others P C (reached P C history) }

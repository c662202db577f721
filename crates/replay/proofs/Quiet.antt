-- Where no link and no delivery is due, each source of which the creator has made a value has one.
use Rattle.std.proofs.Common.{◌≡◌, ℕ, Bool, cond, List, [], ◌∷◌, length, Option, Some, None, refl, ap, subst}
use Rattle.std.specs.List.{AllByRecursion}
use Rattle.instructions.specs.Programs.{Program}
use Rattle.inorder.specs.declared.history.Act.TheVariants.{Deliver, Link}
use Rattle.inorder.specs.declared.history.Source.{Source}
use Rattle.inorder.specs.declared.history.Source.TheVariants.{First, Second}
use Rattle.inorder.specs.declared.history.Step.TheVariants.{On as UnitOn}
use Rattle.inorder.specs.Legal.{AreAllowed, Taken, reached}
use Rattle.inorder.specs.Tenants.{AtLet, IsThere, Linked, Operand, Tenant, Unlinked, Way, operand}
use Rattle.inorder.specs.Unit.{Sizes, UpdateUnit, at, older, value_of}
use Rattle.inorder.proofs.Basics.{eqb_less, eqb_self}
use Rattle.inorder.proofs.GoesOn.Supplied.{AreSupplied, are_supplied}
use Rattle.inorder.proofs.Positions.{all_at, at_below, at_more, at_new}
use Rattle.replay.specs.Placing.{HasNothingDue}

-- a source has a value, if its creator has made one
abbrev pub IsDelivered : List Tenant → Operand → Type 0
IsDelivered ts o = (v : ℕ) → value_of ts o.creator ≡ Some v → IsThere o.value

abbrev pub AreDelivered : List Tenant → Type 0
AreDelivered [] = Unit {0}
AreDelivered (t ∷ ts) = (IsDelivered ts t.first × IsDelivered ts t.second) × AreDelivered ts

-- the same by positions
AtEach : List Tenant → Type 0
AtEach ts = (p : ℕ) (t : Tenant) (k : Source) → at ts p ≡ Some t → IsDelivered (older ts p) (operand k t)

by_position : (ts : List Tenant) → AtEach ts → AreDelivered ts
unfolding AtEach
by_position [] each = tt
by_position (t ∷ ts) each = ((here First, here Second), by_position ts (λ p u k e. deeper p u k e))
  where
    here : (k : Source) → IsDelivered ts (operand k t)
    here k =
        subst (λ us. IsDelivered us (operand k t)) (ap (λ b. cond b ts (older ts (length ts))) (eqb_self (length ts)))
        (each (length ts) t k (at_new t ts))

    deeper : (p : ℕ) (u : Tenant) (k : Source) → at ts p ≡ Some u → IsDelivered (older ts p) (operand k u)
    deeper p u k e =
        subst (λ us. IsDelivered us (operand k u)) (ap (λ b. cond b ts (older ts p)) (eqb_less p (length ts) (at_below ts p u e)))
        (each p u k (at_more t ts p u e))

module _ (P : Program) (C : Sizes) (U : UpdateUnit) (quiet : HasNothingDue P C U) where
  source : (p : ℕ) (t : Tenant) (k : Source) → at U.tenants p ≡ Some t → AreSupplied t →
      IsDelivered (older U.tenants p) (operand k t)
  source p t k e supplied v made = go (operand k t).way refl
    where
      linked : (b : Bool) → (operand k t).way ≡ Linked b → (o : Option ℕ) → (operand k t).value ≡ o → IsThere (operand k t).value
      linked b w None n =
          absurd (quiet (UnitOn p (Deliver k)) tt
          (record { tenant = t; is = e; may = record { in_time = b; way = w; waits = n; value = v; is_made = made } }))
      linked b w (Some x) n = (x, n)

      go : (w : Way) → (operand k t).way ≡ w → IsThere (operand k t).value
      go AtLet w = supplied k w
      go Unlinked w = absurd (quiet (UnitOn p (Link k)) tt (record { tenant = t; is = e; may = record { way = w } }))
      go (Linked b) w = linked b w (operand k t).value refl

  pub all_delivered : AllByRecursion AreSupplied U.tenants → AreDelivered U.tenants
  unfolding AtEach
  all_delivered all = by_position U.tenants (λ p t k e. source p t k e (all_at AreSupplied U.tenants all p t e))

pub delivered : (P : Program) (C : Sizes) (history : List Taken) → AreAllowed P C history → HasNothingDue P C (reached P C history) →
    AreDelivered (reached P C history).tenants
delivered P C history allowed quiet = all_delivered P C (reached P C history) quiet (are_supplied P C history allowed)

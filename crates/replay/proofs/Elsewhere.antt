-- What is due where one tenant changes: what was due before, and deliveries from that tenant.
use Rattle.std.proofs.Common.{◌≡◌, ◌≢◌, ◌⊎◌, ℕ, ◌<◌, ◌≤◌, Bool, true, false, eqb, eqb-true, List, length, Option, Some, None, refl, sym, ap, ◌∙◌, inl, inr, ⊎_elim, arith}
use Rattle.instructions.specs.Programs.{Program}
use Rattle.inorder.specs.declared.history.Act.TheVariants.{Link}
use Rattle.inorder.specs.declared.history.Source.{Source}
use Rattle.inorder.specs.Legal.{MayAct}
use Rattle.inorder.specs.Steps.{MayDeliver, MayLink}
use Rattle.inorder.specs.Tenants.{Operand, Tenant, operand}
use Rattle.inorder.specs.Unit.{at, older, replaced, value_of}
use Rattle.inorder.proofs.Positions.{at_below, at_replaced_else, at_replaced_here, length_replaced, not_eqb}
use Rattle.replay.specs.Placing.{AreDueFrom, AreNotDue, IsDueFrom, IsNotDue}
use Rattle.replay.proofs.Values.{same_values, value_late}

-- One source

-- who has this source among the tenants before
record Seen (ts : List Tenant) (q : ℕ) (j : Source) (u : Tenant) : Type 0 where
  pub tenant : Tenant
  pub is : at ts q ≡ Some tenant
  pub same : operand j u ≡ operand j tenant

link_back : (P : Program) (ts : List Tenant) (q : ℕ) (j : Source) (u : Tenant) → Seen ts q j u → MayLink u j → MayAct P ts 0 q (Link j)
link_back P ts q j u s m =
    record { tenant = s.tenant; is = s.is; may = record { way = sym (ap (λ (o : Operand). o.way) s.same) ∙ m.way } }

deliver_back : (ts us : List Tenant) (j : Source) (u t : Tenant) → operand j u ≡ operand j t →
    value_of us (operand j u).creator ≡ value_of ts (operand j u).creator → MayDeliver us u j → MayDeliver ts t j
deliver_back ts us j u t same value m = record {
  in_time = m.in_time;
  way = sym (ap (λ (o : Operand). o.way) same) ∙ m.way;
  waits = sym (ap (λ (o : Operand). o.value) same) ∙ m.waits;
  value = m.value;
  is_made = ap (λ (o : Operand). value_of ts o.creator) (sym same) ∙ sym value ∙ m.is_made;
}

from_or : (c : Option ℕ) (p : ℕ) → (c ≡ Some p) ⊎ (c ≢ Some p)
from_or None p = inr (λ e. absurd (cc))
from_or (Some r) p = go (eqb r p) refl
  where
    go : (b : Bool) → eqb r p ≡ b → (Some r ≡ Some p) ⊎ (Some r ≢ Some p)
    go true e = inl (ap (λ n. Some n) (eqb-true r p e))
    go false e = inr (λ f. let same : r ≡ p = cc in absurd (not_eqb r p e same))

-- a producer is before its consumers
pub none_from_later : (P : Program) (ts : List Tenant) (p q : ℕ) (j : Source) → q ≤ p → IsDueFrom P ts p q j → IsNotDue P ts q j
none_from_later P ts p q j late n = record {
  link = n.link;
  delivery = λ m.
      let from = n.delivery m.tenant m.is m.may in
      let made = m.may.is_made in
      let none = ap (value_of (older ts q)) from ∙ value_late ts q p late in
      absurd (cc);
}

pub from_none : (P : Program) (ts : List Tenant) (p q : ℕ) (j : Source) → IsNotDue P ts q j → IsDueFrom P ts p q j
from_none P ts p q j n = record {
  link = n.link;
  delivery = λ u is m. absurd (n.delivery (record { tenant = u; is = is; may = m }));
}

-- The tenant t at position p becomes another one

module _ (P : Program) (ts : List Tenant) (p : ℕ) (t new : Tenant) (is : at ts p ≡ Some t) where
  seen : (q : ℕ) (j : Source) (u : Tenant) → (q ≡ p → operand j new ≡ operand j t) → at (replaced ts p new) q ≡ Some u → Seen ts q j u
  seen q j u kept there = go (eqb q p) refl
    where
      go : (b : Bool) → eqb q p ≡ b → Seen ts q j u
      go true e =
          let here : q ≡ p = eqb-true q p e in
          let two : Some new ≡ Some u =
          sym (at_replaced_here ts p t new is) ∙ ap (at (replaced ts p new)) (sym here) ∙ there in
          let one : new ≡ u = cc in
          record { tenant = t; is = ap (at ts) here ∙ is; same = ap (operand j) (sym one) ∙ kept here }
      go false e = record { tenant = u; is = sym (at_replaced_else ts p q new (not_eqb q p e)) ∙ there; same = refl }

  inside : (q : ℕ) (u : Tenant) → at (replaced ts p new) q ≡ Some u → q < length ts
  inside q u there =
      let below = at_below (replaced ts p new) q u there in
      let long = length_replaced ts p new in
      omega arith

  -- a source that stays, where nothing more was made
  module _ (q : ℕ) (j : Source) (kept : q ≡ p → operand j new ≡ operand j t) (made : new.made ≡ t.made) where
    back : (u : Tenant) → at (replaced ts p new) q ≡ Some u → (s : Seen ts q j u) → MayDeliver (older (replaced ts p new) q) u j →
        MayDeliver (older ts q) s.tenant j
    back u there s m =
        deliver_back (older ts q) (older (replaced ts p new) q) j u s.tenant s.same
        (same_values ts p q t new (operand j u).creator is (inl made) (inside q u there)) m

    pub still_not_due : IsNotDue P ts q j → IsNotDue P (replaced ts p new) q j
    still_not_due n = record {
      link = λ m. n.link (link_back P ts q j m.tenant (seen q j m.tenant kept m.is) m.may);
      delivery = λ m.
          let s = seen q j m.tenant kept m.is in
          n.delivery (record { tenant = s.tenant; is = s.is; may = back m.tenant m.is s m.may });
    }

    pub still_due_from : (r : ℕ) → IsDueFrom P ts r q j → IsDueFrom P (replaced ts p new) r q j
    still_due_from r n = record {
      link = λ m. n.link (link_back P ts q j m.tenant (seen q j m.tenant kept m.is) m.may);
      delivery = λ u there m.
          let s = seen q j u kept there in
          ap (λ (o : Operand). o.creator) s.same ∙ n.delivery s.tenant s.is (back u there s m);
    }

  -- sources that stay, where the tenant may have made a value
  pub due_from_it : ((j : Source) → operand j new ≡ operand j t) → AreNotDue P ts → AreDueFrom P (replaced ts p new) p
  due_from_it kept none q j = record {
    link = λ m. (none q j).link (link_back P ts q j m.tenant (seen q j m.tenant (λ _. kept j) m.is) m.may);
    delivery = λ u there m.
        let s = seen q j u (λ _. kept j) there in
        ⊎_elim (λ e. e)
        (λ ne.
        absurd ((none q j).delivery (record {
          tenant = s.tenant;
          is = s.is;
          may = deliver_back (older ts q) (older (replaced ts p new) q) j u s.tenant s.same
              (same_values ts p q t new (operand j u).creator is (inr ne) (inside q u there)) m;
        })))
        (from_or (operand j u).creator p);
  }

-- A broadcast: after it nothing is due, where only deliveries from its producer were due before.
use Rattle.std.proofs.Common.{◌≡◌, ◌≢◌, ◌⊎◌, ℕ, ◌<◌, ◌≤◌, ◌+◌, Bool, true, false, eqb, eqb-true, ltb, ltb-true, ltb-false, List, Some, None, refl, sym, ap, ◌∙◌, subst, inl, inr, ⊎_elim, arith}
use Rattle.std.specs.Prelude.{slice_get}
use Rattle.instructions.specs.Programs.{Program}
use Rattle.inorder.specs.declared.history.Act.TheVariants.{Deliver}
use Rattle.inorder.specs.declared.history.Source.{Source}
use Rattle.inorder.specs.declared.history.Source.TheVariants.{First, Second}
use Rattle.inorder.specs.Tenants.{Operand, operand}
use Rattle.inorder.proofs.Positions.{not_eqb}
use Rattle.replay.specs.declared.tenant.Operand.{Operand as HeldOperand}
use Rattle.replay.specs.declared.tenant.Tenant.{Tenant as HeldTenant}
use Rattle.replay.specs.declared.unit.Unit.{Unit as Held}
use Rattle.replay.specs.Placing.{AreDueFrom, Delivers, IsDelivery, IsDueFrom, IsNotDue, IsTried, LeadsSilently, Tries}
use Rattle.replay.specs.Shown.{operand_of, shown, tenant_of}
use Rattle.replay.proofs.Due.{NotDueIn, dropped_not_due, from_by_delivery, not_due_after, silently_nowhere, stays_by_delivery, tried_silently}
use Rattle.replay.proofs.Elsewhere.{from_none, none_from_later}
use Rattle.replay.proofs.Laid.{shown_at, shown_none}

abbrev pub DueFromIn : Held → (p q : ℕ) → Source → Type 0
DueFromIn u p q k = IsDueFrom u.program.now (shown u.tenants.items) p q k

-- only the producer's deliveries are due, and none before position q
pub record IsDeliveredTo (u : Held) (p q : ℕ) : Type 0 where
  pub from : AreDueFrom u.program.now (shown u.tenants.items) p
  pub done : (r : ℕ) (k : Source) → r < q → NotDueIn u r k

pub none_before : (u : Held) (p : ℕ) → AreDueFrom u.program.now (shown u.tenants.items) p → IsDeliveredTo u p p
none_before u p due = record {
  from = due;
  done = λ r k less. none_from_later u.program.now (shown u.tenants.items) p r k (omega arith) (due r k);
}

module _ (u v : Held) (p q : ℕ) (k : Source) (d : Delivers u p q k v) where
  pub delivers_silently : LeadsSilently u v
  delivers_silently =
      ⊎_elim (tried_silently u v q (Deliver k) tt) (λ m. subst (LeadsSilently u) (sym m.1) (silently_nowhere u)) d

  -- what is not due from the producer is not due at all
  module _ (due : AreDueFrom u.program.now (shown u.tenants.items) p) where
    delivery_tried : Tries u q (Deliver k) v
    delivery_tried =
        ⊎_elim (λ t. t)
        (λ m.
        subst (Tries u q (Deliver k)) (sym m.1)
        (record {
          program = refl;
          sizes = refl;
          length = refl;
          tenants =
              inr (
                λ n. m.0 (record { tenant = n.tenant; is = n.is; may = n.may; from = (due q k).delivery n.tenant n.is n.may }),
                refl,
              );
        }))
        d

    same : v.program.now ≡ u.program.now
    same = ap (λ x. x.now) delivery_tried.program

    tried : IsTried u.program.now (shown u.tenants.items) q (Deliver k) (shown v.tenants.items)
    tried = delivery_tried.tenants

    pub here_done : NotDueIn v q k
    here_done =
        subst (λ P. IsNotDue P (shown v.tenants.items) q k) (sym same)
        (not_due_after u.program.now (shown u.tenants.items) (shown v.tenants.items) q k (due q k).link tried)

    pub else_done : (r : ℕ) (j : Source) → (r ≢ q) ⊎ (j ≢ k) → NotDueIn u r j → NotDueIn v r j
    else_done r j away n =
        subst (λ P. IsNotDue P (shown v.tenants.items) r j) (sym same)
        (stays_by_delivery u.program.now (shown u.tenants.items) (shown v.tenants.items) q r k j away n tried)

    else_due : (r : ℕ) (j : Source) → (r ≢ q) ⊎ (j ≢ k) → DueFromIn v p r j
    else_due r j away =
        subst (λ P. IsDueFrom P (shown v.tenants.items) p r j) (sym same)
        (from_by_delivery u.program.now (shown u.tenants.items) (shown v.tenants.items) p q r k j away (due r j) tried)

    pub all_due : AreDueFrom v.program.now (shown v.tenants.items) p
    all_due r j = by_place (eqb r q) refl
      where
        by_source : (i : Source) → i ≡ k → DueFromIn v p q i
        by_source i e =
            subst (DueFromIn v p q) (sym e) (from_none v.program.now (shown v.tenants.items) p q k here_done)

        itself : (i l : Source) → l ≡ k → DueFromIn v p q i
        itself First First e = by_source First e
        itself First Second e = else_due q First (inr (λ f. absurd (cc)))
        itself Second First e = else_due q Second (inr (λ f. absurd (cc)))
        itself Second Second e = by_source Second e

        by_place : (b : Bool) → eqb r q ≡ b → DueFromIn v p r j
        by_place true e = subst (λ n. DueFromIn v p n j) (sym (eqb-true r q e)) (itself j k refl)
        by_place false e = else_due r j (inl (not_eqb r q e))

-- both sources of the tenant at position q
pub delivered_more : (u m v : Held) (p q : ℕ) → Delivers u p q First m → Delivers m p q Second v → IsDeliveredTo u p q → IsDeliveredTo v p (q + 1)
delivered_more u m v p q a b d =
    let due = all_due u m p q First a d.from in
    record { from = all_due m v p q Second b due; done = λ r k less. by_place due r k less (eqb r q) refl }
  where
    both : AreDueFrom m.program.now (shown m.tenants.items) p → (k : Source) → NotDueIn v q k
    both due First = else_done m v p q Second b due q First (inr (λ e. absurd (cc))) (here_done u m p q First a d.from)
    both due Second = here_done m v p q Second b due

    by_place : AreDueFrom m.program.now (shown m.tenants.items) p → (r : ℕ) (k : Source) → r < q + 1 → (c : Bool) → eqb r q ≡ c → NotDueIn v r k
    by_place due r k less true e = subst (λ n. NotDueIn v n k) (sym (eqb-true r q e)) (both due k)
    by_place due r k less false e =
        let ne = not_eqb r q e in
        else_done m v p q Second b due r k (inl ne) (else_done u m p q First a d.from r k (inl ne) (d.done r k (omega arith)))

-- Who waits

-- nobody who was never let, or is dropped
pub nobody_waits : (u : Held) (p q : ℕ) (k : Source) → (u.tenants.from ≤ q → slice_get u.tenants.items q ≡ None) →
    ¬ IsDelivery u.program.now (shown u.tenants.items) p q k
nobody_waits u p q k gone d = go (ltb q u.tenants.from) refl
  where
    go : (b : Bool) → ltb q u.tenants.from ≡ b → ⊥
    go true e =
        (dropped_not_due u.program.now u.tenants.items u.tenants.from u.settled.upto q k u.drops u.settles.within
        (ltb-true q u.tenants.from e)).delivery (record { tenant = d.tenant; is = d.is; may = d.may })
    go false e =
        let none = shown_none u.tenants.items q (gone (ltb-false q u.tenants.from e)) in
        let there = d.is in
        absurd (cc)

-- a source that comes from the producer, and has no value
pub record WaitsFor (o : HeldOperand) (p : ℕ) : Type 0 where
  pub creator : o.creator ≡ Some p
  pub value : o.value ≡ None

pub waits : (P : Program) (hs : List HeldTenant) (p q : ℕ) (k : Source) (t : HeldTenant) (o : HeldOperand) → slice_get hs q ≡ Some t →
    operand_of o ≡ operand k (tenant_of t) → IsDelivery P (shown hs) p q k → WaitsFor o p
waits P hs p q k t o is source d =
    let there = shown_at hs q t is in
    let two = sym there ∙ d.is in
    let one : tenant_of t ≡ d.tenant = cc in
    let same : operand_of o ≡ operand k d.tenant = source ∙ ap (operand k) one in
    record {
      creator = ap (λ (x : Operand). x.creator) same ∙ d.from;
      value = ap (λ (x : Operand). x.value) same ∙ d.may.waits;
    }

-- Links and deliveries that are tried: what is not due any more after them, and that they lead to the later unit.
use Rattle.std.proofs.Common.{◌≡◌, ◌≢◌, ◌⊎◌, ℕ, ◌<◌, ◌≤◌, ◌+◌, Bool, true, false, eqb, eqb-true, List, [], ◌∷◌, ◌++◌, length, Some, refl, sym, ap, ◌∙◌, subst, inl, inr, ⊎_elim, arith}
use Rattle.instructions.specs.Programs.{Program}
use Rattle.inorder.specs.declared.history.Act.{Act}
use Rattle.inorder.specs.declared.history.Act.TheVariants.{Claim, Deliver, Finish, Link, Load, Mend, Retire, Speculate, Squash}
use Rattle.inorder.specs.declared.history.Source.{Source}
use Rattle.inorder.specs.declared.history.Source.TheVariants.{First, Second}
use Rattle.inorder.specs.declared.history.Step.TheVariants.{Let as UnitLet, On as UnitOn, Renew}
use Rattle.inorder.specs.Legal.{MayAct, change_at, changed}
use Rattle.inorder.specs.Moves.{Leads}
use Rattle.inorder.specs.Tenants.{Operand, Tenant, operand, with_operand}
use Rattle.inorder.specs.Unit.{Sizes, UpdateUnit, at, older, replaced, value_of}
use Rattle.inorder.proofs.OneCaller.Sequences.{all_more, leads_more, leads_nowhere, leads_once}
use Rattle.inorder.proofs.Positions.{at_below, at_replaced_here, not_eqb}
use Rattle.replay.specs.declared.acting.Deed.{Deed}
use Rattle.replay.specs.declared.acting.Deed.TheVariants.{Deliver as ToDeliver, Link as ToLink}
use Rattle.replay.specs.declared.refusal.Refusal.{Refusal}
use Rattle.replay.specs.declared.refusal.Refusal.TheVariants.{Gone, HasAsked}
use Rattle.replay.specs.declared.tenant.Tenant.{Tenant as HeldTenant}
use Rattle.replay.specs.declared.unit.Unit.{Unit as Held}
use Rattle.replay.specs.Dropping.{IsDropped}
use Rattle.replay.specs.Lets.{sizes_of, unit_of}
use Rattle.replay.specs.Placing.{AreDueTo, HasNothingDue, IsDueFrom, IsNotDue, IsSilent, IsTried, LeadsSilently, Supplies, SuppliesBoth, Tries}
use Rattle.replay.specs.Reasons.{Reason, act_of}
use Rattle.replay.specs.Shown.{shown}
use Rattle.replay.proofs.Dropped.{dropped_deliver, dropped_link}
use Rattle.replay.proofs.Elsewhere.{still_due_from, still_not_due}
use Rattle.replay.proofs.Forbidden.{each_forbids}
use Rattle.replay.proofs.Laid.{laid_length}

-- A source elsewhere

other_source : (j k : Source) (t : Tenant) (o : Operand) → j ≢ k → operand j (with_operand k t o) ≡ operand j t
other_source First First t o ne = absurd (ne refl)
other_source First Second t o ne = refl
other_source Second First t o ne = refl
other_source Second Second t o ne = absurd (ne refl)

same_made : (k : Source) (t : Tenant) (o : Operand) → (with_operand k t o).made ≡ t.made
same_made First t o = refl
same_made Second t o = refl

-- a source of another tenant, or the other source of the tenant itself
abbrev pub IsElsewhere : (p q : ℕ) (k j : Source) → Type 0
IsElsewhere p q k j = (q ≢ p) ⊎ (j ≢ k)

kept : (p q : ℕ) (k j : Source) (t : Tenant) (o : Operand) → IsElsewhere p q k j → q ≡ p → operand j (with_operand k t o) ≡ operand j t
kept p q k j t o away here = ⊎_elim (λ ne. absurd (ne here)) (other_source j k t o) away

-- it is not due after a link or a delivery that is tried
module _ (P : Program) (ts us : List Tenant) (p q : ℕ) (k j : Source) (away : IsElsewhere p q k j) (n : IsNotDue P ts q j) where
  put : (t : Tenant) (o : Operand) → at ts p ≡ Some t → us ≡ replaced ts p (with_operand k t o) → IsNotDue P us q j
  put t o is e =
      subst (λ vs. IsNotDue P vs q j) (sym e)
      (still_not_due P ts p t (with_operand k t o) is q j (kept p q k j t o away) (same_made k t o) n)

  stays_by_link : IsTried P ts p (Link k) us → IsNotDue P us q j
  stays_by_link tried =
      ⊎_elim (λ m. put m.0.tenant _ m.0.is (m.1 ∙ ap (change_at P ts 0 p (Link k)) m.0.is))
      (λ m. subst (λ vs. IsNotDue P vs q j) (sym m.1) n) tried

  pub stays_by_delivery : IsTried P ts p (Deliver k) us → IsNotDue P us q j
  stays_by_delivery tried =
      ⊎_elim (λ m. put m.0.tenant _ m.0.is (m.1 ∙ ap (change_at P ts 0 p (Deliver k)) m.0.is))
      (λ m. subst (λ vs. IsNotDue P vs q j) (sym m.1) n) tried

-- or due from the same one
pub from_by_delivery : (P : Program) (ts us : List Tenant) (r p q : ℕ) (k j : Source) → IsElsewhere p q k j → IsDueFrom P ts r q j →
    IsTried P ts p (Deliver k) us → IsDueFrom P us r q j
from_by_delivery P ts us r p q k j away n tried =
    ⊎_elim
    (λ m.
    let t = m.0.tenant in
    let o = record (operand k t) { value = value_of (older ts p) (operand k t).creator } in
    subst (λ vs. IsDueFrom P vs r q j) (sym (m.1 ∙ ap (change_at P ts 0 p (Deliver k)) m.0.is))
    (still_due_from P ts p t (with_operand k t o) m.0.is q j (kept p q k j t o away) (same_made k t o) r n))
    (λ m. subst (λ vs. IsDueFrom P vs r q j) (sym m.1) n)
    tried

-- The source itself

same_source : (k : Source) (t : Tenant) (o : Operand) → operand k (with_operand k t o) ≡ o
same_source First t o = refl
same_source Second t o = refl

-- who is at the position after an act
acted_tenant : (P : Program) (ts us : List Tenant) (p : ℕ) (act : Act) (u : Tenant) (m : MayAct P ts 0 p act) →
    us ≡ change_at P ts 0 p act (at ts p) → at us p ≡ Some u → u ≡ changed P 0 act m.tenant (older ts p)
acted_tenant P ts us p act u m e there =
    let new = changed P 0 act m.tenant (older ts p) in
    let here : at us p ≡ Some new =
    ap (λ vs. at vs p) (e ∙ ap (change_at P ts 0 p act) m.is) ∙ at_replaced_here ts p m.tenant new m.is in
    cc

no_link_after : (P : Program) (ts us : List Tenant) (p : ℕ) (k : Source) → IsTried P ts p (Link k) us → ¬ MayAct P us 0 p (Link k)
no_link_after P ts us p k tried n =
    ⊎_elim
    (λ m.
    let is = acted_tenant P ts us p (Link k) n.tenant m.0 m.1 n.is in
    let source : operand k n.tenant ≡ _ = ap (operand k) is ∙ same_source k m.0.tenant _ in
    let way = sym n.may.way ∙ ap (λ (o : Operand). o.way) source in
    absurd (cc))
    (λ m. m.0 (subst (λ vs. MayAct P vs 0 p (Link k)) m.1 n))
    tried

pub not_due_after : (P : Program) (ts us : List Tenant) (p : ℕ) (k : Source) → ¬ MayAct P ts 0 p (Link k) →
    IsTried P ts p (Deliver k) us → IsNotDue P us p k
not_due_after P ts us p k none tried =
    ⊎_elim
    (λ m. record {
      link = λ n.
          let is = acted_tenant P ts us p (Deliver k) n.tenant m.0 m.1 n.is in
          let source : operand k n.tenant ≡ _ = ap (operand k) is ∙ same_source k m.0.tenant _ in
          none (record {
            tenant = m.0.tenant;
            is = m.0.is;
            may = record { way = sym (ap (λ (o : Operand). o.way) source) ∙ n.may.way };
          });
      delivery = λ n.
          let is = acted_tenant P ts us p (Deliver k) n.tenant m.0 m.1 n.is in
          let source : operand k n.tenant ≡ _ = ap (operand k) is ∙ same_source k m.0.tenant _ in
          let value = sym n.may.waits ∙ ap (λ (o : Operand). o.value) source ∙ m.0.may.is_made in
          absurd (cc);
    })
    (λ m. record {
      link = λ n. none (subst (λ vs. MayAct P vs 0 p (Link k)) m.1 n);
      delivery = λ n. m.0 (subst (λ vs. MayAct P vs 0 p (Deliver k)) m.1 n);
    })
    tried

-- Units

abbrev pub NotDueIn : Held → ℕ → Source → Type 0
NotDueIn u q j = IsNotDue u.program.now (shown u.tenants.items) q j

module _ (u v : Held) (p : ℕ) (k : Source) (s : Supplies u p k v) where
  deliveries : IsTried u.program.now (shown s.linked.tenants.items) p (Deliver k) (shown v.tenants.items)
  deliveries =
      subst (λ P. IsTried P (shown s.linked.tenants.items) p (Deliver k) (shown v.tenants.items))
      (ap (λ x. x.now) s.links.program) s.delivers.tenants

  program : v.program.now ≡ u.program.now
  program = ap (λ x. x.now) (s.delivers.program ∙ s.links.program)

  pub is_supplied : NotDueIn v p k
  is_supplied =
      subst (λ P. IsNotDue P (shown v.tenants.items) p k) (sym program)
      (not_due_after u.program.now (shown s.linked.tenants.items) (shown v.tenants.items) p k
      (no_link_after u.program.now (shown u.tenants.items) (shown s.linked.tenants.items) p k s.links.tenants) deliveries)

  pub stays_supplied : (q : ℕ) (j : Source) → IsElsewhere p q k j → NotDueIn u q j → NotDueIn v q j
  stays_supplied q j away n =
      subst (λ P. IsNotDue P (shown v.tenants.items) q j) (sym program)
      (stays_by_delivery u.program.now (shown s.linked.tenants.items) (shown v.tenants.items) p q k j away
      (stays_by_link u.program.now (shown u.tenants.items) (shown s.linked.tenants.items) p q k j away n s.links.tenants)
      deliveries)

pub both_supplied : (u v : Held) (p : ℕ) (s : SuppliesBoth u p v) (j : Source) → NotDueIn v p j
both_supplied u v p s First =
    stays_supplied s.middle v p Second s.second p First (inr (λ e. absurd (cc))) (is_supplied u s.middle p First s.first)
both_supplied u v p s Second = is_supplied s.middle v p Second s.second

pub both_stay : (u v : Held) (p : ℕ) (s : SuppliesBoth u p v) (q : ℕ) (j : Source) → q ≢ p → NotDueIn u q j → NotDueIn v q j
both_stay u v p s q j other n =
    stays_supplied s.middle v p Second s.second q j (inl other) (stays_supplied u s.middle p First s.first q j (inl other) n)

-- where nothing was due but to the tenant that is supplied
pub all_supplied : (u v : Held) (p : ℕ) → SuppliesBoth u p v → AreDueTo u.program.now (shown u.tenants.items) p → (q : ℕ) (k : Source) → NotDueIn v q k
all_supplied u v p s due q k = go (eqb q p) refl
  where
    go : (b : Bool) → eqb q p ≡ b → NotDueIn v q k
    go true e = subst (λ n. NotDueIn v n k) (sym (eqb-true q p e)) (both_supplied u v p s k)
    go false e = let ne = not_eqb q p e in both_stay u v p s q k ne (due q k ne)

-- Where they lead

abbrev as_unit : List Tenant → ℕ → UpdateUnit
as_unit ts n = record { tenants = ts; fresh = n }

pub silently_nowhere : (u : Held) → LeadsSilently u u
silently_nowhere u = record {
  program = refl;
  sizes = refl;
  length = refl;
  steps = [];
  silent = tt;
  leads = leads_nowhere u.program.now (sizes_of u) 0 (unit_of u);
}

pub silently_then : (u v w : Held) → LeadsSilently u v → LeadsSilently v w → LeadsSilently u w
silently_then u v w a b =
    let more = subst (λ (P : Program). Leads P (sizes_of v) 0 (unit_of v) b.steps (unit_of w)) (ap (λ x. x.now) a.program) b.leads in
    let same = subst (λ (C : Sizes). Leads u.program.now C 0 (unit_of v) b.steps (unit_of w)) a.sizes more in
    record {
      program = b.program ∙ a.program;
      sizes = b.sizes ∙ a.sizes;
      length = b.length ∙ a.length;
      steps = b.steps ++ a.steps;
      silent = all_more IsSilent b.steps a.steps b.silent a.silent;
      leads = leads_more u.program.now (sizes_of u) 0 (unit_of u) (unit_of v) (unit_of w) b.steps a.steps a.leads same;
    }

pub tried_silently : (u v : Held) (p : ℕ) (act : Act) → IsSilent (UnitOn p act) → Tries u p act v → LeadsSilently u v
tried_silently u v p act silent t =
    ⊎_elim
    (λ m. record {
      program = t.program;
      sizes = t.sizes;
      length = t.length;
      steps = UnitOn p act ∷ [];
      silent = (silent, tt);
      leads = leads_once u.program.now (sizes_of u) 0 (unit_of u) (unit_of v) (UnitOn p act) m.0
          (ap (λ ts. as_unit ts (length u.tenants.items)) (sym m.1) ∙ ap (as_unit (shown v.tenants.items)) (sym t.length));
    })
    (λ m. record {
      program = t.program;
      sizes = t.sizes;
      length = t.length;
      steps = [];
      silent = tt;
      leads = subst (Leads u.program.now (sizes_of u) 0 (unit_of u) [])
          (ap (λ ts. as_unit ts (length u.tenants.items)) (sym m.1) ∙ ap (as_unit (shown v.tenants.items)) (sym t.length))
          (leads_nowhere u.program.now (sizes_of u) 0 (unit_of u));
    })
    t.tenants

supplied_silently : (u v : Held) (p : ℕ) (k : Source) → Supplies u p k v → LeadsSilently u v
supplied_silently u v p k s =
    silently_then u s.linked v (tried_silently u s.linked p (Link k) tt s.links)
    (tried_silently s.linked v p (Deliver k) tt s.delivers)

pub both_silently : (u v : Held) (p : ℕ) → SuppliesBoth u p v → LeadsSilently u v
both_silently u v p s =
    silently_then u s.middle v (supplied_silently u s.middle p First s.first) (supplied_silently s.middle v p Second s.second)

-- nothing is due to a tenant that is dropped
pub dropped_not_due : (P : Program) (hs : List HeldTenant) (n upto r : ℕ) (k : Source) → IsDropped hs n upto → upto ≤ length hs → r < n →
    IsNotDue P (shown hs) r k
dropped_not_due P hs n upto r k is inside less = record {
  link = each_forbids P (shown hs) (ToLink k) r HasAsked (dropped_link hs n upto r k is inside less);
  delivery = each_forbids P (shown hs) (ToDeliver k) r Gone (dropped_deliver hs n upto r k is inside less);
}

-- an act that is refused
pub not_tried : (u v : Held) (p : ℕ) (deed : Deed) (r : Refusal) → Reason u.program.now (shown u.tenants.items) deed p r → v ≡ u →
    Tries u p (act_of deed) v
not_tried u v p deed r why same =
    subst (Tries u p (act_of deed)) (sym same)
    (record {
      program = refl;
      sizes = refl;
      length = refl;
      tenants = inr (each_forbids u.program.now (shown u.tenants.items) deed p r why, refl);
    })

below : (u : Held) (p : ℕ) (t : Tenant) → at (shown u.tenants.items) p ≡ Some t → p < length u.tenants.items
below u p t is =
    let inside = at_below (shown u.tenants.items) p t is in
    let long = laid_length u.tenants.items [] in
    omega arith

-- where no tenant that was let has a source that is due
pub quiet_by : (u : Held) → ((r : ℕ) (k : Source) → r < length u.tenants.items → NotDueIn u r k) →
    HasNothingDue u.program.now (sizes_of u) (unit_of u)
quiet_by u each (UnitOn p (Link k)) silent m = (each p k (below u p m.tenant m.is)).link m
quiet_by u each (UnitOn p (Deliver k)) silent m = (each p k (below u p m.tenant m.is)).delivery m
quiet_by u each (UnitOn p Claim) silent m = silent
quiet_by u each (UnitOn p Finish) silent m = silent
quiet_by u each (UnitOn p Load) silent m = silent
quiet_by u each (UnitOn p (Retire n)) silent m = silent
quiet_by u each (UnitOn p Squash) silent m = silent
quiet_by u each (UnitOn p Mend) silent m = silent
quiet_by u each (UnitOn p (Speculate s)) silent m = silent
quiet_by u each (UnitLet index predicted first second) silent m = silent
quiet_by u each Renew silent m = silent

-- one position more
pub supplied_more : (u v : Held) (q : ℕ) → SuppliesBoth u q v → ((r : ℕ) (k : Source) → r < q → NotDueIn u r k) →
    (r : ℕ) (k : Source) → r < q + 1 → NotDueIn v r k
supplied_more u v q s before r k less = go (eqb r q) refl
  where
    go : (b : Bool) → eqb r q ≡ b → NotDueIn v r k
    go true e = subst (λ n. NotDueIn v n k) (sym (eqb-true r q e)) (both_supplied u v q s k)
    go false e =
        let ne = not_eqb r q e in
        both_stay u v q s r k ne (before r k (omega arith))

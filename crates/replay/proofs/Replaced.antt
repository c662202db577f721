-- Which tenants may stand in the place of others.
use Rattle.std.proofs.Common.{◌≡◌, ℕ, ◌<◌, ◌≤◌, Bool, true, false, List, Option, Some, None, refl, sym, ap, ◌∙◌, subst, inl, inr, arith}
use Rattle.std.specs.Prelude.{slice_get}
use Rattle.instructions.specs.Instruction.{width}
use Rattle.instructions.specs.Programs.{Program}
use Rattle.instructions.specs.declared.op.Kind.{Kind}
use Rattle.instructions.specs.declared.op.Kind.TheVariants.{Computes, Jumps, Links, Loads, Stores}
use Rattle.inorder.specs.declared.history.Source.{Source}
use Rattle.inorder.specs.declared.history.Source.TheVariants.{First, Second}
use Rattle.inorder.specs.Memory.{stored, stored_by}
use Rattle.inorder.specs.Steps.{MayDeliver}
use Rattle.inorder.specs.Tenants.{Addr, Busy, Done, Fate, Guessed, Miss, Open, Operand, Stopped, Tenant, Unlinked, instr, kind_of, on_path, operand, with_operand}
use Rattle.inorder.specs.Unit.{older}
use Rattle.replay.specs.declared.settled.Settled.{Settled}
use Rattle.replay.specs.declared.tenant.Standing.TheVariants.{Live as HeldLive}
use Rattle.replay.specs.declared.tenant.Tenant.{Tenant as Held}
use Rattle.replay.specs.Dropping.{IsClosed, IsDropped, TurnsTo}
use Rattle.replay.specs.Settlement.{IsAlike, IsHeldDataless, IsSettled, LacksData, MayReplace}
use Rattle.replay.specs.Shown.{operand_of, shown, tenant_of}
use Rattle.replay.proofs.First.{older_first}
use Rattle.replay.proofs.Laid.{get_below}
use Rattle.replay.proofs.Settlement.{is_after}

one : (hs : List Held) (who : ℕ) (t u : Held) → slice_get hs who ≡ Some t → slice_get hs who ≡ Some u → t ≡ u
one hs who t u e f = cc

-- one in flight
pub replaces_live : (P : Program) (hs : List Held) (n : ℕ) (s : Settled) (who : ℕ) (t h : Held) → IsSettled P hs s → IsDropped hs n s.upto →
    slice_get hs who ≡ Some t → t.standing ≡ HeldLive → h.station ≡ t.station → h.first ≡ t.first → h.second ≡ t.second →
    MayReplace P hs n s.upto who h
replaces_live P hs n s who t h is drops there live same first second = record {
  there = get_below hs who t there;
  kept = let late = is_after P hs s who t is there live in let w = drops.within in omega arith;
  turns = λ u k e. inl (source k ∙ ap (λ (x : Held). operand k (tenant_of x)) (one hs who t u there e));
  station = λ u e. same ∙ ap (λ (x : Held). x.station) (one hs who t u there e);
  alike = λ u e lt. let late = is_after P hs s who t is there live in absurd (omega arith);
}
  where
    source : (k : Source) → operand k (tenant_of h) ≡ operand k (tenant_of t)
    source First = ap operand_of first
    source Second = ap operand_of second

no_data : (b : Bool) (k : Kind) (f : Fate) (w : ℕ) (v : Option ℕ) → ¬ LacksData (stored_by b k f w None) → stored_by b k f w None ≡ stored_by b k f w v
no_data true Stores (Addr a) w v never = absurd (never refl)
no_data true Stores Open w v never = refl
no_data true Stores (Busy c) w v never = refl
no_data true Stores (Done c) w v never = refl
no_data true Stores (Guessed c) w v never = refl
no_data true Stores (Miss c) w v never = refl
no_data true Stores (Stopped c) w v never = refl
no_data true Computes f w v never = refl
no_data true Jumps f w v never = refl
no_data true Links f w v never = refl
no_data true Loads f w v never = refl
no_data false k f w v never = refl

abbrev stores : Program → Tenant → Option ℕ → Option Rattle.inorder.specs.Memory.Stored
stores P t v = stored_by (on_path t) (kind_of P t) t.fate (width (instr P t).op) v

-- the same value
linked_stored : (P : Program) (k : Source) (t : Tenant) (o : Operand) → o.value ≡ (operand k t).value → stored P t ≡ stored P (with_operand k t o)
linked_stored P First t o e = refl
linked_stored P Second t o e = ap (stores P t) (sym e)

-- another value of a source that had none
delivered_stored : (P : Program) (k : Source) (t : Tenant) (o : Operand) → (operand k t).value ≡ None → ¬ LacksData (stored P t) →
    stored P t ≡ stored P (with_operand k t o)
delivered_stored P First t o e never = refl
delivered_stored P Second t o e never =
    ap (stores P t) e
    ∙ no_data (on_path t) (kind_of P t) t.fate (width (instr P t).op) o.value (λ lacks. never (subst LacksData (sym (ap (stores P t) e)) lacks))

alike_source : (P : Program) (k : Source) (t : Tenant) (o : Operand) → stored P t ≡ stored P (with_operand k t o) → IsAlike P t (with_operand k t o)
alike_source P First t o e = record { index = refl; half = refl; next = refl; made = refl; fate = refl; standing = refl; stored = e }
alike_source P Second t o e = record { index = refl; half = refl; next = refl; made = refl; fate = refl; standing = refl; stored = e }

same_station : (k : Source) (t : Tenant) (o : Operand) → (with_operand k t o).station ≡ t.station
same_station First t o = refl
same_station Second t o = refl

-- source k is another one, and the other source stays
turned_source : (hs : List Held) (who : ℕ) (t h : Held) (k j : Source) (o : Operand) → tenant_of h ≡ with_operand k (tenant_of t) o →
    ¬ IsClosed hs who t k → o.creator ≡ (operand k (tenant_of t)).creator → TurnsTo hs who t h j
turned_source hs who t h First First o is asks made =
    inr (asks, ap (λ (x : Tenant). x.first.creator) is ∙ made)
turned_source hs who t h First Second o is asks made = inl (ap (λ (x : Tenant). x.second) is)
turned_source hs who t h Second First o is asks made = inl (ap (λ (x : Tenant). x.first) is)
turned_source hs who t h Second Second o is asks made =
    inr (asks, ap (λ (x : Tenant). x.second.creator) is ∙ made)

with_source : (P : Program) (hs : List Held) (n : ℕ) (s : Settled) (who : ℕ) (t h : Held) (k : Source) (o : Operand) → n ≤ who →
    slice_get hs who ≡ Some t → tenant_of h ≡ with_operand k (tenant_of t) o → ¬ IsClosed hs who t k →
    o.creator ≡ (operand k (tenant_of t)).creator →
    (who < s.upto → stored P (tenant_of t) ≡ stored P (with_operand k (tenant_of t) o)) → MayReplace P hs n s.upto who h
with_source P hs n s who t h k o kept there is asks made same = record {
  there = get_below hs who t there;
  kept = kept;
  turns = λ u j e. subst (λ (x : Held). TurnsTo hs who x h j) (one hs who t u there e) (turned_source hs who t h k j o is asks made);
  station = λ u e.
      ap (λ (x : Tenant). x.station) is ∙ same_station k (tenant_of t) o ∙ ap (λ (x : Held). x.station) (one hs who t u there e);
  alike = λ u e lt.
      subst (λ (x : Tenant). IsAlike P (tenant_of u) x) (sym is)
      (subst (λ (x : Held). IsAlike P (tenant_of x) (with_operand k (tenant_of t) o)) (one hs who t u there e)
      (alike_source P k (tenant_of t) o (same lt)));
}

-- a source is linked
pub replaces_linked : (P : Program) (hs : List Held) (n : ℕ) (s : Settled) (who : ℕ) (t h : Held) (k : Source) (o : Operand) → n ≤ who →
    slice_get hs who ≡ Some t → tenant_of h ≡ with_operand k (tenant_of t) o → (operand k (tenant_of t)).way ≡ Unlinked →
    o.creator ≡ (operand k (tenant_of t)).creator → o.value ≡ (operand k (tenant_of t)).value → MayReplace P hs n s.upto who h
replaces_linked P hs n s who t h k o kept there is way made same =
    with_source P hs n s who t h k o kept there is (λ shut. shut.unlinked (record { way = way })) made
    (λ lt. linked_stored P k (tenant_of t) o same)

-- a source is delivered
pub replaces_delivered : (P : Program) (hs : List Held) (n : ℕ) (s : Settled) (who : ℕ) (t h : Held) (k : Source) (o : Operand) → IsSettled P hs s →
    n ≤ who → slice_get hs who ≡ Some t → tenant_of h ≡ with_operand k (tenant_of t) o → MayDeliver (older (shown hs) who) (tenant_of t) k →
    o.creator ≡ (operand k (tenant_of t)).creator → MayReplace P hs n s.upto who h
replaces_delivered P hs n s who t h k o settled kept there is may made =
    with_source P hs n s who t h k o kept there is
    (λ shut. shut.undelivered (subst (λ ts. MayDeliver ts (tenant_of t) k) (older_first hs who (get_below hs who t there)) may)) made
    (λ lt. delivered_stored P k (tenant_of t) o may.waits (λ lacks. settled.whole who lt (subst (IsHeldDataless P) (sym there) lacks)))

-- What an allowed step does to each tenant.
use Rattle.std.proofs.Common.{◌≡◌, ◌≢◌, ◌⊎◌, ℕ, Bool, true, false, cond, eqb, List, length, Option, Some, refl, sym, ap, ◌∙◌, subst, inl, inr, ⊎_elim, arith}
use Rattle.std.proofs.lemmas.Option.{same_Some}
use mathlib.Core.Logic.{dite}
use native.Mathlib.Decide.{ℕ_discrete}
use Rattle.instructions.specs.Programs.{Program}
use Rattle.instructions.specs.declared.stop.Outcome.{Outcome}
use Rattle.instructions.specs.declared.stop.Outcome.TheVariants.{Pair, Address, Next, Stop as Stops, Value}
use Rattle.inorder.specs.declared.history.Act.{Act}
use Rattle.inorder.specs.declared.history.Act.TheVariants.{Claim, Deliver, Finish, Link, Load, Mend, Retire, Speculate, Squash}
use Rattle.inorder.specs.declared.history.Source.{Source}
use Rattle.inorder.specs.declared.history.Source.TheVariants.{First, Second}
use Rattle.inorder.specs.declared.history.Step.{Step}
use Rattle.inorder.specs.declared.history.Step.TheVariants.{Let, On, Renew}
use Rattle.inorder.specs.Callers.{IsHeld}
use Rattle.inorder.specs.Legal.{Allowed, May, MayAct, applied, change_at, changed}
use Rattle.inorder.specs.Replies.{IsOpen}
use Rattle.inorder.specs.Steps.{CanRetire, finished, linked, mended_as, new_tenant}
use Rattle.inorder.specs.Speculation.{CanGuess}
use Rattle.inorder.specs.Tenants.{Addr, Busy, Done, Fate, Guessed, Linked, Live, Miss, Open, Operand, Retired, Squashed, Standing, Stopped, Tenant, computed, instr, kind_of, operand, with_operand}
use Rattle.inorder.specs.Unit.{Sizes, UpdateUnit, at, older, replaced, younger}
use Rattle.inorder.proofs.Basics.{split_at}
use Rattle.inorder.proofs.Grows.{MadeGrows, sound_mid}
use Rattle.inorder.proofs.Theorem.FinishKept.{never_pair}
use Rattle.inorder.proofs.Kept.{finish_grows, guess_grows, load_may_grow, retire_grows}
use Rattle.inorder.proofs.Positions.{at_below, at_more, at_replaced_else, at_replaced_here, at_there, length_replaced}
use Rattle.inorder.proofs.Sound.{IsSound, IsSoundAt}
use Rattle.inorder.specs.declared.history.Speculation.TheVariants.{Confirm, Flush, Guess}

abbrev pub IsNoLinkAct : Act → Type 0
IsNoLinkAct (Link k) = ⊥
IsNoLinkAct _ = Unit {0}

abbrev pub IsNoLink : Step → Type 0
IsNoLink (On p act) = IsNoLinkAct act
IsNoLink _ = Unit {0}

-- what a step of a caller leaves of a tenant t, which is t' afterwards
pub record Goes (by : ℕ) (s : Step) (t t' : Tenant) : Type 0 where
  pub station : t'.station ≡ t.station
  pub tag : t'.tag ≡ t.tag
  pub index : t'.index ≡ t.index
  pub half : t'.half ≡ t.half
  pub predicted : t'.predicted ≡ t.predicted
  pub pc : t'.pc ≡ t.pc
  pub creator : (k : Source) → (operand k t').creator ≡ (operand k t).creator
  pub linked : (k : Source) (b : Bool) → (operand k t).way ≡ Linked b → (operand k t').way ≡ Linked b
  pub way : IsNoLink s → (k : Source) → (operand k t').way ≡ (operand k t).way
  pub value : (k : Source) (v : ℕ) → (operand k t).value ≡ Some v → (operand k t').value ≡ Some v
  pub live : t'.standing ≡ Live → t.standing ≡ Live
  pub made : MadeGrows t t'
  pub opens : IsOpen t' → IsOpen t
  -- only its caller finishes a claimed tenant, and it does not retire before
  pub held : (caller : ℕ) → by ≢ caller → IsHeld caller t → IsHeld caller t'

pub stays : (by : ℕ) (s : Step) (t : Tenant) → Goes by s t t
stays by s t = record {
  station = refl;
  tag = refl;
  index = refl;
  half = refl;
  predicted = refl;
  pc = refl;
  creator = λ k. refl;
  linked = λ k b e. e;
  way = λ n k. refl;
  value = λ k v e. e;
  live = λ e. e;
  made = λ v e. e;
  opens = λ o. o;
  held = λ c n b. b;
}

-- another fate, standing, value made and next pc
module _ (by : ℕ) (s : Step) (t : Tenant) (fate : Fate) (standing : Standing) (made : Option ℕ) (next : ℕ) where
  refated : (standing ≡ Live → t.standing ≡ Live) → ((v : ℕ) → t.made ≡ Some v → made ≡ Some v)
      → ((standing ≡ Live) → (fate ≡ Open) → IsOpen t)
      → ((caller : ℕ) → by ≢ caller → IsHeld caller t → IsHeld caller (record t { fate = fate; standing = standing; made = made; next = next }))
      → Goes by s t (record t { fate = fate; standing = standing; made = made; next = next })
  refated live grows opens held = record {
    station = refl;
    tag = refl;
    index = refl;
    half = refl;
    predicted = refl;
    pc = refl;
    creator = both_creator;
    linked = both_linked;
    way = λ n k. both_way k;
    value = both_value;
    live = live;
    made = grows;
    opens = λ o. opens o.live o.fate;
    held = held;
  }
    where
      t' : Tenant
      t' = record t { fate = fate; standing = standing; made = made; next = next }

      both_creator : (k : Source) → (operand k t').creator ≡ (operand k t).creator
      both_creator First = refl
      both_creator Second = refl

      both_linked : (k : Source) (b : Bool) → (operand k t).way ≡ Linked b → (operand k t').way ≡ Linked b
      both_linked First b e = e
      both_linked Second b e = e

      both_way : (k : Source) → (operand k t').way ≡ (operand k t).way
      both_way First = refl
      both_way Second = refl

      both_value : (k : Source) (v : ℕ) → (operand k t).value ≡ Some v → (operand k t').value ≡ Some v
      both_value First v e = e
      both_value Second v e = e

-- another operand, with the same creator
module _ (by : ℕ) (s : Step) (t : Tenant) (k : Source) (o : Operand) where
  resourced : o.creator ≡ (operand k t).creator → ((b : Bool) → (operand k t).way ≡ Linked b → o.way ≡ Linked b)
      → (IsNoLink s → o.way ≡ (operand k t).way) → ((v : ℕ) → (operand k t).value ≡ Some v → o.value ≡ Some v)
      → Goes by s t (with_operand k t o)
  resourced creator linked way value = go k creator linked way value
    where
      go : (k : Source) → o.creator ≡ (operand k t).creator → ((b : Bool) → (operand k t).way ≡ Linked b → o.way ≡ Linked b)
          → (IsNoLink s → o.way ≡ (operand k t).way) → ((v : ℕ) → (operand k t).value ≡ Some v → o.value ≡ Some v) → Goes by s t (with_operand k t o)
      go First creator linked way value = record {
        station = refl;
        tag = refl;
        index = refl;
        half = refl;
        predicted = refl;
        pc = refl;
        creator = creators;
        linked = links;
        way = ways;
        value = values;
        live = λ e. e;
        made = λ v e. e;
        opens = λ o. record { live = o.live; fate = o.fate };
        held = λ c n b. record { fate = b.fate; stays = b.stays };
      }
        where
          creators : (j : Source) → (operand j (with_operand First t o)).creator ≡ (operand j t).creator
          creators First = creator
          creators Second = refl

          links : (j : Source) (b : Bool) → (operand j t).way ≡ Linked b → (operand j (with_operand First t o)).way ≡ Linked b
          links First b e = linked b e
          links Second b e = e

          ways : IsNoLink s → (j : Source) → (operand j (with_operand First t o)).way ≡ (operand j t).way
          ways n First = way n
          ways n Second = refl

          values : (j : Source) (v : ℕ) → (operand j t).value ≡ Some v → (operand j (with_operand First t o)).value ≡ Some v
          values First v e = value v e
          values Second v e = e
      go Second creator linked way value = record {
        station = refl;
        tag = refl;
        index = refl;
        half = refl;
        predicted = refl;
        pc = refl;
        creator = creators;
        linked = links;
        way = ways;
        value = values;
        live = λ e. e;
        made = λ v e. e;
        opens = λ o. record { live = o.live; fate = o.fate };
        held = λ c n b. record { fate = b.fate; stays = b.stays };
      }
        where
          creators : (j : Source) → (operand j (with_operand Second t o)).creator ≡ (operand j t).creator
          creators First = refl
          creators Second = creator

          links : (j : Source) (b : Bool) → (operand j t).way ≡ Linked b → (operand j (with_operand Second t o)).way ≡ Linked b
          links First b e = e
          links Second b e = linked b e

          ways : IsNoLink s → (j : Source) → (operand j (with_operand Second t o)).way ≡ (operand j t).way
          ways n First = refl
          ways n Second = way n

          values : (j : Source) (v : ℕ) → (operand j t).value ≡ Some v → (operand j (with_operand Second t o)).value ≡ Some v
          values First v e = e
          values Second v e = value v e

pub changed_goes : (P : Program) (by p : ℕ) (act : Act) (ys : List Tenant) (t : Tenant) (ts : List Tenant) → May P by act ys t ts → IsSoundAt P ts t → Goes by (On p act) t (changed P by act t ts)
changed_goes P by p (Link k) ys t ts m q =
    resourced by (On p (Link k)) t k _ refl (λ b e. let was = m.way in absurd (cc)) (λ n. absurd n) (λ v e. e)
changed_goes P by p (Deliver k) ys t ts m q =
    resourced by (On p (Deliver k)) t k _ refl (λ b e. e) (λ n. refl) (λ v e. let none = m.waits in absurd (cc))
changed_goes P by p Claim ys t ts m q =
    refated by (On p Claim) t (Busy by) t.standing t.made t.next (λ e. e) (λ v e. e) (λ l f. absurd (cc)) (λ c n b. let f = b.fate in let was = m.fate in absurd (cc))
changed_goes P by p Finish ys t ts m q = go (computed P t) refl
  where
    same : (a b : ℕ) → Busy a ≡ Busy b → a ≡ b
    same a b e = cc e

    Held : Tenant → Type 0
    Held t' = (c : ℕ) → by ≢ c → IsHeld c t → IsHeld c t'

    none_held : (t' : Tenant) → Held t'
    none_held t' c n b = absurd (n (same by c (sym m.fate ∙ b.fate)))

    go : (o : Outcome) → computed P t ≡ o → Goes by (On p Finish) t (finished t o)
    go (Value v) e = refated by (On p Finish) t (Done v) t.standing (Some v) t.next (λ e. e) (finish_grows P ts t by (Value v) e m q).made (λ l f. absurd (cc)) (none_held _)
    go (Next x) e = refated by (On p Finish) t (cond (eqb x t.predicted) (Done x) (Miss x)) t.standing t.made t.next (λ e. e) (λ v e. e) (λ l f. absurd (neither (eqb x t.predicted) f)) (none_held _)
      where
        neither : (b : Bool) → cond b (Done x) (Miss x) ≡ Open → ⊥
        neither true f = cc
        neither false f = cc
    go (Address a) e = refated by (On p Finish) t (Addr a) t.standing t.made t.next (λ e. e) (λ v e. e) (λ l f. absurd (cc)) (none_held _)
    go (Stops c) e = refated by (On p Finish) t (Stopped c) t.standing t.made t.next (λ e. e) (λ v e. e) (λ l f. absurd (cc)) (none_held _)
    go (Pair l h) e = absurd (never_pair (instr P t) t.half t.pc _ _ _ (kind_of P t) l h e)
changed_goes P by p Load ys t ts m q =
    refated by (On p Load) t (Done _) t.standing (Some _) t.next (λ e. e) (load_may_grow P ts t m q).made (λ l f. absurd (cc)) (λ c n b. let f = b.fate in let was = m.fate in absurd (cc))
changed_goes P by p (Retire n) ys t ts m q =
    refated by (On p (Retire n)) t t.fate Retired _ t.next (λ e. m.live) (retire_grows P ts t n m q).made (λ l f. absurd (cc))
    (λ c n b. absurd (subst (CanRetire (kind_of P t) t.second.value) b.fate m.can))
changed_goes P by p Squash ys t ts m q =
    refated by (On p Squash) t t.fate Squashed t.made t.next (λ e. m.live) (λ v e. e) (λ l f. absurd (cc)) (λ c n b. record { fate = b.fate; stays = inr refl })
changed_goes P by p (Speculate (Guess v)) ys t ts m q =
    refated by (On p (Speculate (Guess v))) t (Guessed v) t.standing (Some v) t.next (λ e. e) (guess_grows P ts t v m q).made (λ l f. absurd (cc)) (λ c n b. absurd (subst CanGuess b.fate m.fate))
changed_goes P by p (Speculate Confirm) ys t ts m q =
    refated by (On p (Speculate Confirm)) t (Done _) t.standing t.made t.next (λ e. e) (λ v e. e) (λ l f. absurd (cc)) (λ c n b. let f = b.fate in let was = m.fate in absurd (cc))
changed_goes P by p (Speculate Flush) ys t ts m q =
    refated by (On p (Speculate Flush)) t t.fate Squashed t.made t.next (λ e. m.live) (λ v e. e) (λ l f. absurd (cc)) (λ c n b. record { fate = b.fate; stays = inr refl })
changed_goes P by p Mend ys t ts m q =
    subst (λ f. Goes by (On p Mend) t (mended_as t f)) (sym m.fate)
    (refated by (On p Mend) t (Done m.x) t.standing t.made m.x (λ e. e) (λ v e. e) (λ l f. absurd (cc)) (λ c n b. let f = b.fate in let was = m.fate in absurd (cc)))

-- Positions under a step

-- the tenant at q after an act on p
pub record IsActed (P : Program) (ts : List Tenant) (by p : ℕ) (act : Act) (t : Tenant) (q : ℕ) (u : Tenant) : Type 0 where
  pub position : q ≡ p
  pub tenant : u ≡ t
  pub now : at (change_at P ts by p act (at ts p)) q ≡ Some (changed P by act t (older ts p))

pub record IsLeft (P : Program) (ts : List Tenant) (by p : ℕ) (act : Act) (q : ℕ) (u : Tenant) : Type 0 where
  pub position : q ≢ p
  pub now : at (change_at P ts by p act (at ts p)) q ≡ Some u

pub at_changed : (P : Program) (ts : List Tenant) (by p : ℕ) (act : Act) (t : Tenant) → at ts p ≡ Some t → (q : ℕ) (u : Tenant) → at ts q ≡ Some u → IsActed P ts by p act t q u ⊎
    IsLeft P ts by p act q u
at_changed P ts by p act t is q u here =
    let t' = changed P by act t (older ts p) in
    let put : change_at P ts by p act (at ts p) ≡ replaced ts p t' = ap (change_at P ts by p act) is in
    dite (ℕ_discrete q p)
    (λ e. inl (record { position = e; tenant = same_Some u t (sym here ∙ (ap (at ts) e ∙ is)); now = ap (λ z. at z q) put ∙ (ap (at (replaced ts p t')) e ∙ at_replaced_here ts p t t' is) }))
    (λ ne. inr (record { position = ne; now = ap (λ z. at z q) put ∙ (at_replaced_else ts p q t' ne ∙ here) }))

pub length_changed : (P : Program) (ts : List Tenant) (by p : ℕ) (act : Act) (t : Tenant) → at ts p ≡ Some t → length (change_at P ts by p act (at ts p)) ≡ length ts
length_changed P ts by p act t is = ap (λ o. length (change_at P ts by p act o)) is ∙ length_replaced ts p (changed P by act t (older ts p))

-- each tenant afterwards, or before
pub record Forward (by : ℕ) (s : Step) (ts : List Tenant) (q : ℕ) (u : Tenant) : Type 0 where
  pub tenant : Tenant
  pub is : at ts q ≡ Some tenant
  pub goes : Goes by s u tenant

pub record Backward (by : ℕ) (s : Step) (ts : List Tenant) (q : ℕ) (u : Tenant) : Type 0 where
  pub tenant : Tenant
  pub is : at ts q ≡ Some tenant
  pub goes : Goes by s tenant u

pub goes_at : (P : Program) (ts : List Tenant) (by p : ℕ) (act : Act) → MayAct P ts by p act → IsSound P ts → (q : ℕ) (u : Tenant) → at ts q ≡ Some u →
    Forward by (On p act) (change_at P ts by p act (at ts p)) q u
goes_at P ts by p act a sound q u here =
    let t = a.tenant in
    let own = sound_mid P t (older ts p) (younger ts p) (subst (IsSound P) (split_at ts p t a.is) sound) in
    let move = changed_goes P by p act (younger ts p) t (older ts p) a.may own in
    ⊎_elim
    (λ (z : IsActed P ts by p act t q u). record {
      tenant = changed P by act t (older ts p);
      is = z.now;
      goes = subst (λ x. Goes by (On p act) x (changed P by act t (older ts p))) (sym z.tenant) move;
    })
    (λ (z : IsLeft P ts by p act q u). record { tenant = u; is = z.now; goes = stays by (On p act) u })
    (at_changed P ts by p act t a.is q u here)

pub goes : (P : Program) (C : Sizes) (U : UpdateUnit) (by : ℕ) (s : Step) → Allowed P C U by s → IsSound P U.tenants → (q : ℕ) (u : Tenant) → at U.tenants q ≡ Some u →
    Forward by s (applied P C U by s).tenants q u
goes P C U by (Let index predicted first second) a sound q u here = record { tenant = u; is = at_more (new_tenant P C U index predicted first second) U.tenants q u here; goes = stays by _ u }
goes P C U by (On p act) a sound q u here = goes_at P U.tenants by p act a sound q u here
goes P C U by Renew a sound q u here = record { tenant = u; is = here; goes = stays by _ u }

-- each tenant was there before an act
pub came : (P : Program) (C : Sizes) (U : UpdateUnit) (by p : ℕ) (act : Act) → Allowed P C U by (On p act) → IsSound P U.tenants → (q : ℕ) (u : Tenant) →
    at (applied P C U by (On p act)).tenants q ≡ Some u → Backward by (On p act) U.tenants q u
came P C U by p act a sound q u here =
    let ts = U.tenants in
    let below = at_below (change_at P ts by p act (at ts p)) q u here in
    let wide = length_changed P ts by p act a.tenant a.is in
    let there = at_there ts q (omega arith) in
    let go = goes_at P ts by p act a sound q there.0 there.1 in
    record { tenant = there.0; is = there.1; goes = subst (Goes by (On p act) there.0) (same_Some go.tenant u (sym go.is ∙ here)) go.goes }

-- A load that is allowed stays allowed, with its value, or is squashed, as far as others than the back step.
use Rattle.std.proofs.Common.{◌≡◌, ◌⊎◌, ℕ, ◌<◌, ◌≤◌, Bool, true, false, cond, eqb, List, [], ◌∷◌, length, Some, refl, sym, ap, ◌∙◌, subst, inl, inr, ⊎_elim, arith, eqb-true, ne_eqb}
use Rattle.std.specs.Prelude.{unwrap_or}
use native.Mathlib.Decide.{dec_lt}
use Rattle.instructions.specs.Instruction.{kind}
use Rattle.instructions.specs.Operations.{loaded}
use Rattle.instructions.specs.Programs.{Program, instr_of}
use Rattle.instructions.specs.declared.op.Kind.TheVariants.{Loads}
use Rattle.instructions.specs.declared.stop.Outcome.TheVariants.{Address}
use Rattle.inorder.specs.declared.history.Act.{Act}
use Rattle.inorder.specs.declared.history.Act.TheVariants.{Claim, Deliver, Finish, Link, Load, Mend, Retire, Speculate, Squash}
use Rattle.inorder.specs.declared.history.Source.TheVariants.{First, Second}
use Rattle.inorder.specs.declared.history.Step.{Step}
use Rattle.inorder.specs.declared.history.Step.TheVariants.{Let, On, Renew}
use Rattle.inorder.specs.Callers.{CanLoad}
use Rattle.inorder.specs.Legal.{Allowed, May, MayAct, applied, change_at, changed}
use Rattle.inorder.specs.Memory.{raw, raw_at}
use Rattle.inorder.specs.Replies.{IsStale}
use Rattle.inorder.specs.Tenants.{Addr, IsNotLive, Live, Squashed, Tenant, instr, kind_of}
use Rattle.inorder.specs.Unit.{Sizes, UpdateUnit, at, older, replaced, younger}
use Rattle.inorder.proofs.Basics.{eqb_less, replaced_split, split_at}
use Rattle.inorder.proofs.Ends.{Acted, IsNotBacks, IsNotBacksAct, at_older, exact, is_flushed, is_squashed, retires, stands_on}
use Rattle.inorder.proofs.Grows.{Grows, read_grows, sound_mid}
use Rattle.inorder.proofs.Kept.{link_grows}
use Rattle.inorder.proofs.Letting.{besides_grows}
use Rattle.inorder.proofs.Positions.{at_below, length_replaced, not_eqb, younger_at}
use Rattle.inorder.proofs.Sound.{HasRead, IsSound, IsSoundAt}

-- the tenants before p, where one at r becomes another
older_replaced : (U : List Tenant) (r p : ℕ) (u : Tenant) → p < length U → r < p → older (replaced U r u) p ≡ replaced (older U p) r u
older_replaced [] r p u below lt = refl
older_replaced (x ∷ us) r p u below lt = go (eqb p (length us)) refl (older_replaced us r p u)
  where
    off : eqb r (length us) ≡ false
    off = eqb_less r (length us) (omega arith)

    go : (b : Bool) → eqb p (length us) ≡ b → (p < length us → r < p → older (replaced us r u) p ≡ replaced (older us p) r u) →
        older (cond (eqb r (length us)) (u ∷ us) (x ∷ replaced us r u)) p ≡ replaced (cond (eqb p (length us)) us (older us p)) r u
    go true e more =
        ap (λ b. older (cond b (u ∷ us) (x ∷ replaced us r u)) p) off
        ∙ (ap (λ n. cond (eqb p n) (replaced us r u) (older (replaced us r u) p)) (length_replaced us r u)
        ∙ (ap (λ b. cond b (replaced us r u) (older (replaced us r u) p)) e ∙ sym (ap (λ b. replaced (cond b us (older us p)) r u) e)))
    go false e more =
        let ne = not_eqb p (length us) e in
        ap (λ b. older (cond b (u ∷ us) (x ∷ replaced us r u)) p) off
        ∙ (ap (λ n. cond (eqb p n) (replaced us r u) (older (replaced us r u) p)) (length_replaced us r u)
        ∙ (ap (λ b. cond b (replaced us r u) (older (replaced us r u) p)) e ∙ (more (omega arith) lt ∙ sym (ap (λ b. replaced (cond b us (older us p)) r u) e))))

older_replaced_after : (U : List Tenant) (r p : ℕ) (u : Tenant) → p ≤ r → older (replaced U r u) p ≡ older U p
older_replaced_after [] r p u le = refl
older_replaced_after (x ∷ us) r p u le = go (eqb r (length us)) refl (eqb p (length us)) refl (older_replaced_after us r p u le)
  where
    go : (b : Bool) → eqb r (length us) ≡ b → (b' : Bool) → eqb p (length us) ≡ b' → older (replaced us r u) p ≡ older us p →
        older (cond b (u ∷ us) (x ∷ replaced us r u)) p ≡ cond (eqb p (length us)) us (older us p)
    go true e b' f more = refl
    go false e true f more =
        let same = eqb-true p (length us) f in
        let ne = not_eqb r (length us) e in
        ap (λ n. cond (eqb p n) (replaced us r u) (older (replaced us r u) p)) (length_replaced us r u)
        ∙ (ap (λ b. cond b (replaced us r u) (older (replaced us r u) p)) f ∙ (beyond us r u (omega arith) ∙ sym (ap (λ b. cond b us (older us p)) f)))
      where
        -- after the end nothing changes
        beyond : (us : List Tenant) (r : ℕ) (u : Tenant) → length us ≤ r → replaced us r u ≡ us
        beyond [] r u h = refl
        beyond (y ∷ ys) r u h = ap (λ b. cond b (u ∷ ys) (y ∷ replaced ys r u)) (ne_eqb r (length ys) (omega arith)) ∙ ap (λ z. y ∷ z) (beyond ys r u (omega arith))
    go false e false f more =
        ap (λ n. cond (eqb p n) (replaced us r u) (older (replaced us r u) p)) (length_replaced us r u)
        ∙ (ap (λ b. cond b (replaced us r u) (older (replaced us r u) p)) f ∙ (more ∙ sym (ap (λ b. cond b us (older us p)) f)))

-- the load at p has its address a, and its value is v
pub record Reads (P : Program) (U : UpdateUnit) (p a v : ℕ) : Type 0 where
  pub t : Tenant
  pub is : at U.tenants p ≡ Some t
  pub live : t.standing ≡ Live
  pub kind_is : kind_of P t ≡ Loads
  pub fate : t.fate ≡ Addr a
  pub read : HasRead P (older U.tenants p) (instr P t) (Address a) v

-- what becomes of the load itself
pub record LoadOn (P : Program) (by : ℕ) (act : Act) (t : Tenant) (ts : List Tenant) (a : ℕ) : Type 0 where
  pub live : (changed P by act t ts).standing ≡ Live
  pub fate : (changed P by act t ts).fate ≡ Addr a
  pub index : (changed P by act t ts).index ≡ t.index

load_on : (P : Program) (by : ℕ) (act : Act) (ys : List Tenant) (t : Tenant) (ts : List Tenant) (a : ℕ) → IsNotBacksAct act → May P by act ys t ts → t.standing ≡ Live → t.fate ≡ Addr a
    → LoadOn P by act t ts a ⊎ ((changed P by act t ts).standing ≡ Squashed)
load_on P by (Link First) ys t ts a b m live fate = inl (record { live = live; fate = fate; index = refl })
load_on P by (Link Second) ys t ts a b m live fate = inl (record { live = live; fate = fate; index = refl })
load_on P by (Deliver First) ys t ts a b m live fate = inl (record { live = live; fate = fate; index = refl })
load_on P by (Deliver Second) ys t ts a b m live fate = inl (record { live = live; fate = fate; index = refl })
load_on P by Claim ys t ts a b m live fate = let f = m.fate in absurd (cc)
load_on P by Finish ys t ts a b m live fate = let f = m.fate in absurd (cc)
load_on P by Load ys t ts a b m live fate = absurd b
load_on P by (Retire n) ys t ts a b m live fate = absurd b
load_on P by Squash ys t ts a b m live fate = inr refl
load_on P by (Speculate s) ys t ts a b m live fate = absurd b
load_on P by Mend ys t ts a b m live fate = let f = m.fate in absurd (cc)

-- an older tenant grows, since only the youngest live one is squashed or mended
older_grows : (P : Program) (us : List Tenant) (by r p : ℕ) (act : Act) (t : Tenant) → IsNotBacksAct act → (a : MayAct P us by r act) → IsSound P us → at us p ≡ Some t → t.standing ≡ Live → r < p →
    Grows P a.tenant (changed P by act a.tenant (older us r))
older_grows P us by r p act t b a ok is live lt = go act b a.may
  where
    x : Tenant
    x = a.tenant

    sound_x : IsSoundAt P (older us r) x
    sound_x = sound_mid P x (older us r) (younger us r) (subst (IsSound P) (split_at us r x a.is) ok)

    go : (act : Act) → IsNotBacksAct act → May P by act (younger us r) x (older us r) → Grows P x (changed P by act x (older us r))
    go (Link k) b m = link_grows P (older us r) x k
    go (Deliver k) b m = besides_grows P by (Deliver k) (younger us r) x (older us r) tt m sound_x
    go Claim b m = besides_grows P by Claim (younger us r) x (older us r) tt m sound_x
    go Finish b m = besides_grows P by Finish (younger us r) x (older us r) tt m sound_x
    go Load b m = absurd b
    go (Retire n) b m = absurd b
    go Squash b m = absurd (younger_at IsNotLive us r m.youngest p t lt is live)
    go (Speculate s) b m = absurd b
    go Mend b m = absurd (younger_at IsNotLive us r m.youngest p t lt is live)

read_at : (P : Program) (U : UpdateUnit) (by r p a v : ℕ) (act : Act) → IsNotBacksAct act → MayAct P U.tenants by r act → IsSound P U.tenants → (c : Reads P U p a v) →
    HasRead P (older (change_at P U.tenants by r act (at U.tenants r)) p) (instr P c.t) (Address a) v
read_at P U by r p a v act b may ok c =
    let us = U.tenants in
    let x = may.tenant in
    let x' = changed P by act x (older us r) in
    let put : change_at P us by r act (at us r) ≡ replaced us r x' = ap (change_at P us by r act) may.is in
    let below = at_below us p c.t c.is in
    elim (dec_lt r p) [
      | yes lt ↦ (
          let W = older us p in
          let there = at_older us p r x below lt may.is in
          let g = older_grows P us by r p act c.t b may ok c.is c.live lt in
          let read' = read_grows P x x' (older W r) (younger W r) (instr P c.t) (Address a) v g (subst (λ z. HasRead P z (instr P c.t) (Address a) v) (split_at W r x there) c.read) in
          subst (λ z. HasRead P z (instr P c.t) (Address a) v) (sym (ap (λ z. older z p) put ∙ (older_replaced us r p x' below lt ∙ replaced_split W r x x' there))) read')
      | no le ↦ subst (λ z. HasRead P z (instr P c.t) (Address a) v) (sym (ap (λ z. older z p) put ∙ older_replaced_after us r p x' (omega arith))) c.read
    ]

reads : (P : Program) (C : Sizes) (U : UpdateUnit) (by : ℕ) (s : Step) → IsNotBacks s → Allowed P C U by s → IsSound P U.tenants → (p a v : ℕ) → (c : Reads P U p a v) →
    HasRead P (older (applied P C U by s).tenants p) (instr P c.t) (Address a) v
reads P C U by (Let index predicted first second) b may ok p a v c =
    let below = at_below U.tenants p c.t c.is in
    subst (λ z. HasRead P z (instr P c.t) (Address a) v) (sym (ap (λ b. cond b U.tenants (older U.tenants p)) (eqb_less p (length U.tenants) below))) c.read
reads P C U by (On r act) b may ok p a v c = read_at P U by r p a v act b may ok c
reads P C U by Renew b may ok p a v c = c.read

reads_stays : (P : Program) (C : Sizes) (U : UpdateUnit) (by : ℕ) (s : Step) → IsNotBacks s → Allowed P C U by s → IsSound P U.tenants → (p a v : ℕ) → Reads P U p a v →
    Reads P (applied P C U by s) p a v ⊎ IsStale (applied P C U by s) p
reads_stays P C U by s b may ok p a v c =
    let V = applied P C U by s in
    let read = reads P C U by s b may ok p a v c in ⊎_elim
    (λ e. inl (record { t = c.t; is = e; live = c.live; kind_is = c.kind_is; fate = c.fate; read = read }))
    (λ (z : Acted P U by s V.tenants p c.t).
    let t' : Tenant = changed P by z.act c.t (older U.tenants p) in ⊎_elim
    (λ (w : LoadOn P by z.act c.t (older U.tenants p) a). inl (record {
      t = t';
      is = z.now;
      live = w.live;
      kind_is = ap (λ k. kind (instr_of P k).op) w.index ∙ c.kind_is;
      fate = w.fate;
      read = subst (λ k. HasRead P (older V.tenants p) (instr_of P k) (Address a) v) (sym w.index) read;
    }))
    (λ w. inr (record { tenant = t'; is = z.now; fact = w }))
    (load_on P by z.act (younger U.tenants p) c.t (older U.tenants p) a (subst IsNotBacks z.step b) z.may c.live c.fate))
    (exact P C U by s may p c.t c.is)

-- between the two ways to say it
reads_of : (P : Program) (U : UpdateUnit) (p a v : ℕ) → CanLoad P U p a v → Reads P U p a v
reads_of P U p a v c =
    let us = U.tenants in
    let i = instr P c.tenant in
    let same : c.may.a ≡ a = one c.may.a a (sym c.may.fate ∙ c.fate) in
    let raw_is : raw_at P (older us p) i a ≡ Some c.may.bytes = ap (raw_at P (older us p) i) (sym same) ∙ c.may.read in
    record {
      t = c.tenant;
      is = c.is;
      live = c.may.live;
      kind_is = c.may.kind;
      fate = c.fate;
      read = record {
        a = a;
        n = c.may.bytes;
        computes = refl;
        raw = raw_is;
        value = sym c.value_is ∙ (ap (λ f. loaded i.op (unwrap_or (raw P (older us p) i f) 0)) c.fate ∙ ap (λ z. loaded i.op (unwrap_or z 0)) raw_is);
        addresses = c.may.addresses;
      };
    }
  where
    one : (x y : ℕ) → Addr x ≡ Addr y → x ≡ y
    one x y e = cc e

of_reads : (P : Program) (U : UpdateUnit) (p a v : ℕ) → Reads P U p a v → CanLoad P U p a v
of_reads P U p a v c =
    let us = U.tenants in
    let i = instr P c.t in
    let same : a ≡ c.read.a = cc c.read.computes in
    let raw_is : raw_at P (older us p) i a ≡ Some c.read.n = ap (raw_at P (older us p) i) same ∙ c.read.raw in
    record {
      tenant = c.t;
      is = c.is;
      may = record { live = c.live; kind = c.kind_is; a = a; fate = c.fate; addresses = c.read.addresses; bytes = c.read.n; read = raw_is };
      fate = c.fate;
      value_is = ap (λ f. loaded i.op (unwrap_or (raw P (older us p) i f) 0)) c.fate ∙ (ap (λ z. loaded i.op (unwrap_or z 0)) raw_is ∙ sym c.read.value);
    }

pub load_stays : (P : Program) (C : Sizes) (U : UpdateUnit) (by : ℕ) (s : Step) → IsNotBacks s → Allowed P C U by s → IsSound P U.tenants → (p a v : ℕ) → CanLoad P U p a v →
    CanLoad P (applied P C U by s) p a v ⊎ IsStale (applied P C U by s) p
load_stays P C U by s b may ok p a v c = ⊎_elim
    (λ r. inl (of_reads P (applied P C U by s) p a v r))
    (λ g. inr g)
    (reads_stays P C U by s b may ok p a v (reads_of P U p a v c))

pub gone_stays : (P : Program) (C : Sizes) (U : UpdateUnit) (by : ℕ) (s : Step) → Allowed P C U by s → (p : ℕ) → IsStale U p → IsStale (applied P C U by s) p
gone_stays P C U by s may p g = ⊎_elim
    (λ e. record { tenant = g.tenant; is = e; fact = g.fact })
    (λ (z : Acted P U by s (applied P C U by s).tenants p g.tenant). ⊎_elim
    (λ e. record { tenant = changed P by z.act g.tenant (older U.tenants p); is = z.now; fact = e ∙ g.fact })
    (λ w. absurd (elim w [ retires n m ↦ not_both m.live | is_squashed m ↦ not_both m.live | is_flushed m ↦ not_both m.live ]))
    (stands_on P by z.act (younger U.tenants p) g.tenant (older U.tenants p) z.may))
    (exact P C U by s may p g.tenant g.is)
  where
    apart : Live ≡ Squashed → ⊥
    apart e = cc e

    not_both : g.tenant.standing ≡ Live → ⊥
    not_both live = apart (sym live ∙ g.fact)

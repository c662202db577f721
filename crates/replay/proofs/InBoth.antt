-- A step in two sound units that differ in their sources alone: what the one allows, the other one allows once each delivery
-- that is due was made; and they differ in their sources alone after it.
use Rattle.std.proofs.Common.{◌≡◌, ℕ, suc, cond, eqb, List, [], ◌∷◌, ◌++◌, Option, Some, None, true, refl, sym, ap, ◌∙◌, subst}
use Rattle.std.specs.List.{AllByRecursion}
use Rattle.std.specs.Prelude.{unwrap_or}
use Rattle.instructions.specs.Operations.{loaded}
use Rattle.instructions.specs.Programs.{Program}
use Rattle.instructions.specs.declared.instr.Instr.{Instr}
use Rattle.instructions.specs.declared.stop.Outcome.{Outcome}
use Rattle.instructions.specs.declared.stop.Outcome.TheVariants.{Address, Next, Pair, Stop as Stops, Value}
use Rattle.inorder.specs.declared.history.Act.{Act}
use Rattle.inorder.specs.declared.history.Act.TheVariants.{Claim, Deliver, Finish, Link, Load, Mend, Retire, Speculate, Squash}
use Rattle.inorder.specs.declared.history.Source.{Source}
use Rattle.inorder.specs.declared.history.Source.TheVariants.{First, Second}
use Rattle.inorder.specs.declared.history.Step.{Step as UnitStep}
use Rattle.inorder.specs.declared.history.Step.TheVariants.{Let as UnitLet, On as UnitOn, Renew}
use Rattle.inorder.specs.Legal.{Allowed, May, MayAct, applied, change_at, changed}
use Rattle.inorder.specs.Memory.{load_value, raw, raw_at, sure_raw_at}
use Rattle.inorder.specs.Speculation.{CanGuess}
use Rattle.inorder.specs.Steps.{CanRetire, HasAddress, MayLoad, finished, made_at_end, mended_as}
use Rattle.inorder.specs.Tenants.{Addr, Busy, Done, Fate, Guessed, IsNotLive, Live, Miss, Open, Operand, Retired, Squashed, Standing, Stopped, Tenant, computed, instr, kind_of, missing, missing_of, on_path, stands_on_path, with_operand}
use Rattle.inorder.specs.Unit.{Sizes, UpdateUnit, at, older, replaced, younger}
use Rattle.inorder.proofs.Basics.{split_at}
use Rattle.inorder.proofs.Grows.{sound_mid}
use Rattle.inorder.proofs.OneCaller.Alike.{AreAlike, IsAlike, stops_alike}
use Rattle.inorder.proofs.Sound.{FateIs, IsSound, IsSoundAt, Needs}
use Rattle.replay.specs.declared.acting.Deed.{Deed}
use Rattle.replay.specs.declared.acting.Deed.TheVariants.{Claim as ToClaim, Confirm as ToConfirm, Deliver as ToDeliver, Finish as ToFinish, Flush as ToFlush, Guess as ToGuess, Link as ToLink, Load as ToLoad, Mend as ToMend, Retire as ToRetire, Squash as ToSquash}
use Rattle.replay.specs.declared.step.Step.{Step}
use Rattle.replay.specs.declared.step.Step.TheVariants.{Let, On}
use Rattle.replay.specs.Placing.{IsSilent, IsSpoken}
use Rattle.replay.specs.Reasons.{act_of}
use Rattle.replay.specs.Verdicts.{IsNamed}
use Rattle.replay.proofs.Quiet.{AreDelivered, IsDelivered}
use Rattle.replay.proofs.SameShape.{AreTwins, FoundAt, are_back, are_both, are_self, found_at, let_in_both, new_in_both, same_all, same_instr, same_kind, same_put, same_replaced}
use Rattle.replay.proofs.SameValues.{Agrees, ArePlaced, Grows, agrees, all_agree, all_grow, grows, missing_grows, needed, raw_related, same_outcome, source_grows, sure_related}

-- Both sides of a position

-- the same tenant of two units, with those after and before it
record AreSides (P : Program) (ys ts zs us : List Tenant) (t u : Tenant) : Type 0 where
  pub after : AreAlike ys zs
  pub before : AreAlike ts us
  pub alike : IsAlike t u
  pub left : IsSoundAt P ts t
  pub right : IsSoundAt P us u
  pub old_left : IsSound P ts
  pub old_right : IsSound P us

-- what is due was delivered to it and to those before it
record IsReady (us : List Tenant) (u : Tenant) : Type 0 where
  pub first : IsDelivered us u.first
  pub second : IsDelivered us u.second
  pub before : AreDelivered us

sound_old : (P : Program) (t : Tenant) (ts ys : List Tenant) → IsSound P (ys ++ t ∷ ts) → IsSound P ts
sound_old P t ts [] s = s.1
sound_old P t ts (y ∷ ys) s = sound_old P t ts ys s.1

ready_mid : (t : Tenant) (ts ys : List Tenant) → AreDelivered (ys ++ t ∷ ts) → IsReady ts t
ready_mid t ts [] d = record { first = d.0.0; second = d.0.1; before = d.1 }
ready_mid t ts (y ∷ ys) d = ready_mid t ts ys d.1

sides : (P : Program) (ts us : List Tenant) (p : ℕ) (t : Tenant) → at ts p ≡ Some t → IsSound P ts → IsSound P us →
    (f : FoundAt ts us p t) → AreSides P (younger ts p) (older ts p) (younger us p) (older us p) t f.tenant
sides P ts us p t is s z f =
    let left = subst (IsSound P) (split_at ts p t is) s in
    let right = subst (IsSound P) (split_at us p f.tenant f.is) z in
    record {
      after = f.after;
      before = f.before;
      alike = f.alike;
      left = sound_mid P t (older ts p) (younger ts p) left;
      right = sound_mid P f.tenant (older us p) (younger us p) right;
      old_left = sound_old P t (older ts p) (younger ts p) left;
      old_right = sound_old P f.tenant (older us p) (younger us p) right;
    }

module _ (P : Program) (ys ts zs us : List Tenant) (t u : Tenant) (b : AreSides P ys ts zs us t u) where
  on : t.standing ≡ Live → on_path t ≡ true
  on live = ap stands_on_path live

  placed : t.standing ≡ Live → ArePlaced P ts us t u
  placed live = record { before = b.before; alike = b.alike; left = b.left; right = b.right; path = on live }

  also_live : t.standing ≡ Live → u.standing ≡ Live
  also_live live = b.alike.standing ∙ live

  also_youngest : AllByRecursion IsNotLive ys → AllByRecursion IsNotLive zs
  also_youngest all = same_all IsNotLive ys zs (λ x y a n e. n (sym a.standing ∙ e)) b.after all

  also_oldest : AllByRecursion IsNotLive ts → AllByRecursion IsNotLive us
  also_oldest all = same_all IsNotLive ts us (λ x y a n e. n (sym a.standing ∙ e)) b.before all

  also_addresses : AllByRecursion (HasAddress P) ts → AllByRecursion (HasAddress P) us
  also_addresses all =
      same_all (HasAddress P) ts us
      (λ x y a h live stores.
      let has = h (sym a.standing ∙ live) (sym (same_kind P x y a) ∙ stores) in
      (has.0, a.fate ∙ has.1)) b.before all

  -- What the one allows

  also_needs : IsReady us u → t.standing ≡ Live → missing P t ≡ None → missing P u ≡ None
  also_needs r live m =
      ap (λ k. missing_of k u.first.value u.second.value) (same_kind P t u b.alike)
      ∙ missing_grows (kind_of P t) t.first.value t.second.value u.first.value u.second.value
      (source_grows P ts us t u First (placed live) r.first) (source_grows P ts us t u Second (placed live) r.second) m

  also_retires : (f : Fate) → Grows t.second.value u.second.value → CanRetire (kind_of P t) t.second.value f →
      CanRetire (kind_of P t) u.second.value f
  also_retires Open g c = c
  also_retires (Busy by) g c = c
  also_retires (Addr a) g c = (c.0, (c.1.0, g c.1.0 c.1.1))
  also_retires (Done v) g c = c
  also_retires (Miss x) g c = c
  also_retires (Stopped s) g c = c
  also_retires (Guessed v) g c = c

  also_may : (deed : Deed) (p : ℕ) → IsSpoken (On p deed) → IsReady us u → May P 0 (act_of deed) ys t ts →
      May P 0 (act_of deed) zs u us
  also_may (ToLink k) p s r m = absurd s
  also_may (ToDeliver k) p s r m = absurd s
  also_may ToClaim p s r m =
      record { live = also_live m.live; fate = b.alike.fate ∙ m.fate; needs = also_needs r m.live m.needs }
  also_may ToFinish p s r m = record { live = also_live m.live; fate = b.alike.fate ∙ m.fate }
  also_may ToLoad p s r m = record {
    live = also_live m.live;
    kind = same_kind P t u b.alike ∙ m.kind;
    a = m.a;
    fate = b.alike.fate ∙ m.fate;
    addresses = also_addresses m.addresses;
    bytes = m.bytes;
    read =
        ap (λ i. raw_at P us i m.a) (same_instr P t u b.alike)
        ∙ raw_related Grows P ts us (instr P t) m.a grows b.before (all_grow P ts us b.before b.old_left b.old_right r.before)
        m.bytes m.read;
  }
  also_may ToRetire p s r m = record {
    small = m.small;
    live = also_live m.live;
    oldest = also_oldest m.oldest;
    no_stop = stops_alike ts us b.before m.no_stop;
    can =
        subst (λ k. CanRetire k u.second.value u.fate) (sym (same_kind P t u b.alike))
        (subst (CanRetire (kind_of P t) u.second.value) (sym b.alike.fate)
        (also_retires t.fate (source_grows P ts us t u Second (placed m.live) r.second) m.can));
  }
  also_may ToSquash p s r m =
      let f = found_at ts us m.p m.miss b.before m.miss_at in
      record {
        live = also_live m.live;
        youngest = also_youngest m.youngest;
        p = m.p;
        miss = f.tenant;
        x = m.x;
        miss_at = f.is;
        miss_live = f.alike.standing ∙ m.miss_live;
        miss_fate = f.alike.fate ∙ m.miss_fate;
      }
  also_may ToMend p s r m =
      record { live = also_live m.live; youngest = also_youngest m.youngest; x = m.x; fate = b.alike.fate ∙ m.fate }
  also_may (ToGuess v) p s r m = record {
    small = m.small;
    live = also_live m.live;
    kind = same_kind P t u b.alike ∙ m.kind;
    fate = subst CanGuess (sym b.alike.fate) m.fate;
  }
  also_may ToConfirm p s r m =
      let needs = also_needs r m.live m.needs in
      record {
        live = also_live m.live;
        v = m.v;
        fate = b.alike.fate ∙ m.fate;
        needs = needs;
        a = m.a;
        computes =
            same_outcome P ts us t u (placed m.live) (needed (kind_of P t) t.first.value t.second.value m.needs)
            (needed (kind_of P u) u.first.value u.second.value needs) ∙ m.computes;
        bytes = m.bytes;
        read =
            ap (λ i. sure_raw_at P us i m.a) (same_instr P t u b.alike)
            ∙ sure_related Grows P ts us (instr P t) m.a grows b.before (all_grow P ts us b.before b.old_left b.old_right r.before)
            m.bytes m.read;
        right = m.right ∙ ap (λ (i : Instr). loaded i.op m.bytes) (sym (same_instr P t u b.alike));
      }
  also_may ToFlush p s r m = record { live = also_live m.live; youngest = also_youngest m.youngest }

  -- What is left

  put_both : (f g : Fate) (m n : Option ℕ) (s r : Standing) (x y : ℕ) → g ≡ f → n ≡ m → r ≡ s → y ≡ x →
      IsAlike (record t { fate = f; made = m; standing = s; next = x }) (record u { fate = g; made = n; standing = r; next = y })
  put_both f g m n s r x y fate made standing next = record {
    station = b.alike.station;
    index = b.alike.index;
    half = b.alike.half;
    pc = b.alike.pc;
    predicted = b.alike.predicted;
    next = next;
    made = made;
    fate = fate;
    standing = standing;
  }

  finished_both : (o : Outcome) → IsAlike (finished t o) (finished u o)
  finished_both (Value v) =
      put_both (Done v) (Done v) (Some v) (Some v) t.standing u.standing t.next u.next refl refl b.alike.standing b.alike.next
  finished_both (Next x) =
      put_both (cond (eqb x t.predicted) (Done x) (Miss x)) (cond (eqb x u.predicted) (Done x) (Miss x)) t.made u.made
      t.standing u.standing t.next u.next (ap (λ n. cond (eqb x n) (Done x) (Miss x)) b.alike.predicted) b.alike.made
      b.alike.standing b.alike.next
  finished_both (Address a) =
      put_both (Addr a) (Addr a) t.made u.made t.standing u.standing t.next u.next refl b.alike.made b.alike.standing b.alike.next
  finished_both (Stops c) =
      put_both (Stopped c) (Stopped c) t.made u.made t.standing u.standing t.next u.next refl b.alike.made b.alike.standing b.alike.next
  finished_both (Pair v h) =
      put_both (Done v) (Done v) (Some v) (Some v) t.standing u.standing t.next u.next refl refl b.alike.standing b.alike.next

  squashed_both : IsAlike (record t { standing = Squashed }) (record u { standing = Squashed })
  squashed_both =
      put_both t.fate u.fate t.made u.made Squashed Squashed t.next u.next b.alike.fate b.alike.made refl b.alike.next

  mended_both : (x : ℕ) → t.fate ≡ Miss x → IsAlike (mended_as t t.fate) (mended_as u u.fate)
  mended_both x e =
      subst (λ f. IsAlike (mended_as t t.fate) (mended_as u f)) (sym (b.alike.fate ∙ e))
      (subst (λ f. IsAlike (mended_as t f) (mended_as u (Miss x))) (sym e)
      (put_both (Done x) (Done x) t.made u.made t.standing u.standing x x refl b.alike.made b.alike.standing refl))

  loaded_as : (os : List Tenant) (o : Tenant) (m : MayLoad P os o) → load_value P os o ≡ loaded (instr P o).op m.bytes
  loaded_as os o m =
      ap (λ f. loaded (instr P o).op (unwrap_or (raw P os (instr P o) f) 0)) m.fate
      ∙ ap (λ r. loaded (instr P o).op (unwrap_or r 0)) m.read

  same_load : MayLoad P ts t → MayLoad P us u → load_value P us u ≡ load_value P ts t
  same_load m n =
      let one : Addr n.a ≡ Addr m.a = sym n.fate ∙ b.alike.fate ∙ m.fate in
      let place : n.a ≡ m.a = cc in
      let there : raw_at P us (instr P t) m.a ≡ Some n.bytes =
      ap (raw_at P us (instr P t)) (sym place) ∙ ap (λ i. raw_at P us i n.a) (sym (same_instr P t u b.alike)) ∙ n.read in
      let bytes : m.bytes ≡ n.bytes =
      raw_related Agrees P ts us (instr P t) m.a agrees b.before (all_agree P ts us b.before b.old_left b.old_right) m.bytes n.bytes
      m.read there in
      loaded_as us u n
      ∙ ap (λ (i : Instr). loaded i.op n.bytes) (same_instr P t u b.alike)
      ∙ ap (loaded (instr P t).op) (sym bytes)
      ∙ sym (loaded_as ts t m)

  busy : (by : ℕ) (os : List Tenant) (o : Tenant) → IsSoundAt P os o → o.fate ≡ Busy by → Needs (kind_of P o) o.first.value o.second.value
  busy by os o s e = (subst (FateIs P o) e s.own.fate).2

  source_both : (k : Source) (o q : Operand) → IsAlike (with_operand k t o) (with_operand k u q)
  source_both First o q = record {
    station = b.alike.station;
    index = b.alike.index;
    half = b.alike.half;
    pc = b.alike.pc;
    predicted = b.alike.predicted;
    next = b.alike.next;
    made = b.alike.made;
    fate = b.alike.fate;
    standing = b.alike.standing;
  }
  source_both Second o q = record {
    station = b.alike.station;
    index = b.alike.index;
    half = b.alike.half;
    pc = b.alike.pc;
    predicted = b.alike.predicted;
    next = b.alike.next;
    made = b.alike.made;
    fate = b.alike.fate;
    standing = b.alike.standing;
  }

  also_changed : (deed : Deed) → May P 0 (act_of deed) ys t ts → May P 0 (act_of deed) zs u us →
      IsAlike (changed P 0 (act_of deed) t ts) (changed P 0 (act_of deed) u us)
  also_changed (ToLink k) m n = source_both k _ _
  also_changed (ToDeliver k) m n = source_both k _ _
  also_changed ToClaim m n =
      put_both (Busy 0) (Busy 0) t.made u.made t.standing u.standing t.next u.next refl b.alike.made b.alike.standing b.alike.next
  also_changed ToFinish m n =
      let same = same_outcome P ts us t u (placed m.live) (busy 0 ts t b.left m.fate) (busy 0 us u b.right n.fate) in
      subst (λ o. IsAlike (finished t (computed P t)) (finished u o)) (sym same) (finished_both (computed P t))
  also_changed ToLoad m n =
      let same = same_load m n in
      put_both (Done (load_value P ts t)) (Done (load_value P us u)) (Some (load_value P ts t)) (Some (load_value P us u))
      t.standing u.standing t.next u.next (ap Done same) (ap Some same) b.alike.standing b.alike.next
  also_changed ToRetire m n =
      put_both t.fate u.fate (made_at_end t.fate t.made 0) (made_at_end u.fate u.made 0) Retired Retired t.next u.next
      b.alike.fate (ap (λ f. made_at_end f u.made 0) b.alike.fate ∙ ap (λ v. made_at_end t.fate v 0) b.alike.made) refl b.alike.next
  also_changed ToSquash m n = squashed_both
  also_changed ToMend m n = mended_both m.x m.fate
  also_changed (ToGuess v) m n =
      put_both (Guessed v) (Guessed v) (Some v) (Some v) t.standing u.standing t.next u.next refl refl b.alike.standing b.alike.next
  also_changed ToConfirm m n =
      put_both (Done (unwrap_or t.made 0)) (Done (unwrap_or u.made 0)) t.made u.made t.standing u.standing t.next u.next
      (ap (λ v. Done (unwrap_or v 0)) b.alike.made) b.alike.made b.alike.standing b.alike.next
  also_changed ToFlush m n = squashed_both

-- Units

-- two sound units that differ in their sources alone
pub record ArePair (P : Program) (U V : UpdateUnit) : Type 0 where
  pub twins : AreTwins U V
  pub left : IsSound P U.tenants
  pub right : IsSound P V.tenants

pub twins_self : (U : UpdateUnit) → AreTwins U U
twins_self U = record { tenants = are_self U.tenants; fresh = refl }

pub twins_back : (U V : UpdateUnit) → AreTwins U V → AreTwins V U
twins_back U V w = record { tenants = are_back U.tenants V.tenants w.tenants; fresh = sym w.fresh }

pub twins_both : (U V W : UpdateUnit) → AreTwins U V → AreTwins V W → AreTwins U W
twins_both U V W v w =
    record { tenants = are_both U.tenants V.tenants W.tenants v.tenants w.tenants; fresh = w.fresh ∙ v.fresh }

changed_at : (P : Program) (ts : List Tenant) (p : ℕ) (act : Act) (t : Tenant) → at ts p ≡ Some t →
    change_at P ts 0 p act (at ts p) ≡ replaced ts p (changed P 0 act t (older ts p))
changed_at P ts p act t is = ap (change_at P ts 0 p act) is

act_in_both : (P : Program) (U V : UpdateUnit) (p : ℕ) (deed : Deed) → ArePair P U V → AreDelivered V.tenants →
    IsSpoken (On p deed) → MayAct P U.tenants 0 p (act_of deed) → MayAct P V.tenants 0 p (act_of deed)
act_in_both P U V p deed pair due spoken m =
    let f = found_at U.tenants V.tenants p m.tenant pair.twins.tenants m.is in
    let ready = ready_mid f.tenant (older V.tenants p) (younger V.tenants p)
    (subst AreDelivered (split_at V.tenants p f.tenant f.is) due) in
    record {
      tenant = f.tenant;
      is = f.is;
      may =
          also_may P (younger U.tenants p) (older U.tenants p) (younger V.tenants p) (older V.tenants p) m.tenant f.tenant
          (sides P U.tenants V.tenants p m.tenant m.is pair.left pair.right f) deed p spoken ready m.may;
    }

acts_on_both : (P : Program) (C : Sizes) (U V : UpdateUnit) (p : ℕ) (deed : Deed) → ArePair P U V →
    MayAct P U.tenants 0 p (act_of deed) → MayAct P V.tenants 0 p (act_of deed) →
    AreTwins (applied P C U 0 (UnitOn p (act_of deed))) (applied P C V 0 (UnitOn p (act_of deed)))
acts_on_both P C U V p deed pair m n =
    let ts = U.tenants in
    let us = V.tenants in
    let act = act_of deed in
    let f = found_at ts us p m.tenant pair.twins.tenants m.is in
    let both : Some n.tenant ≡ Some f.tenant = sym n.is ∙ f.is in
    let same : n.tenant ≡ f.tenant = cc in
    let may = subst (λ u. May P 0 act (younger us p) u (older us p)) same n.may in
    let new = also_changed P (younger ts p) (older ts p) (younger us p) (older us p) m.tenant f.tenant
    (sides P ts us p m.tenant m.is pair.left pair.right f) deed m.may may in
    record {
      tenants =
          subst (λ vs. AreAlike vs (change_at P us 0 p act (at us p))) (sym (changed_at P ts p act m.tenant m.is))
          (subst (AreAlike (replaced ts p (changed P 0 act m.tenant (older ts p)))) (sym (changed_at P us p act f.tenant f.is))
          (same_replaced ts us p (changed P 0 act m.tenant (older ts p)) (changed P 0 act f.tenant (older us p))
          pair.twins.tenants new));
      fresh = pair.twins.fresh;
    }

-- A named step

pub step_in_both : (P : Program) (C : Sizes) (U V : UpdateUnit) (s : Step) (t : UnitStep) → ArePair P U V →
    AreDelivered V.tenants → IsSpoken s → IsNamed s t → Allowed P C U 0 t → Allowed P C V 0 t
step_in_both P C U V (Let i p) (UnitLet index predicted first second) pair due spoken named m =
    let_in_both P C U V index predicted first second pair.twins m
step_in_both P C U V (Let i p) (UnitOn q act) pair due spoken named m = absurd named
step_in_both P C U V (Let i p) Renew pair due spoken named m = absurd named
step_in_both P C U V (On p deed) (UnitLet index predicted first second) pair due spoken named m = absurd named
step_in_both P C U V (On p deed) (UnitOn q act) pair due spoken named m =
    let here = subst (λ x. MayAct P U.tenants 0 x act) named.0 m in
    let there = act_in_both P U V p deed pair due spoken (subst (MayAct P U.tenants 0 p) named.1 here) in
    subst (λ x. MayAct P V.tenants 0 x act) (sym named.0) (subst (MayAct P V.tenants 0 p) (sym named.1) there)
step_in_both P C U V (On p deed) Renew pair due spoken named m = absurd named

lets_in_both : (P : Program) (C : Sizes) (U V : UpdateUnit) (i p j q : ℕ) (a b c d : _) → i ≡ j → p ≡ q → AreTwins U V →
    AreTwins (applied P C U 0 (UnitLet i p a b)) (applied P C V 0 (UnitLet j q c d))
lets_in_both P C U V i p j q a b c d index predicted w =
    subst (λ n. AreTwins (applied P C U 0 (UnitLet i p a b)) (applied P C V 0 (UnitLet n q c d))) index
    (subst (λ n. AreTwins (applied P C U 0 (UnitLet i p a b)) (applied P C V 0 (UnitLet i n c d))) predicted
    (record { tenants = (new_in_both P C U V i p a b c d w, w.tenants); fresh = ap suc w.fresh }))

pub steps_in_both : (P : Program) (C : Sizes) (U V : UpdateUnit) (s : Step) (t r : UnitStep) → ArePair P U V →
    IsNamed s t → IsNamed s r → Allowed P C U 0 t → Allowed P C V 0 r → AreTwins (applied P C U 0 t) (applied P C V 0 r)
steps_in_both P C U V (Let i p) (UnitLet j q a b) (UnitLet k r c d) pair named also m n =
    lets_in_both P C U V j q k r a b c d (named.0 ∙ sym also.0) (named.1 ∙ sym also.1) pair.twins
steps_in_both P C U V (Let i p) (UnitLet j q a b) (UnitOn k act) pair named also m n = absurd also
steps_in_both P C U V (Let i p) (UnitLet j q a b) Renew pair named also m n = absurd also
steps_in_both P C U V (Let i p) (UnitOn q act) r pair named also m n = absurd named
steps_in_both P C U V (Let i p) Renew r pair named also m n = absurd named
steps_in_both P C U V (On p deed) (UnitLet j q a b) r pair named also m n = absurd named
steps_in_both P C U V (On p deed) (UnitOn q act) (UnitLet j k a b) pair named also m n = absurd also
steps_in_both P C U V (On p deed) (UnitOn q act) (UnitOn r other) pair named also m n =
    let one : UnitOn q act ≡ UnitOn p (act_of deed) = ap (λ x. UnitOn x act) named.0 ∙ ap (UnitOn p) named.1 in
    let two : UnitOn r other ≡ UnitOn p (act_of deed) = ap (λ x. UnitOn x other) also.0 ∙ ap (UnitOn p) also.1 in
    subst (λ x. AreTwins (applied P C U 0 x) (applied P C V 0 (UnitOn r other))) (sym one)
    (subst (λ x. AreTwins (applied P C U 0 (UnitOn p (act_of deed))) (applied P C V 0 x)) (sym two)
    (acts_on_both P C U V p deed pair (subst (λ x. Allowed P C U 0 x) one m) (subst (λ x. Allowed P C V 0 x) two n)))
steps_in_both P C U V (On p deed) (UnitOn q act) Renew pair named also m n = absurd also
steps_in_both P C U V (On p deed) Renew r pair named also m n = absurd named

-- A link or a delivery

source_alone : (t : Tenant) (k : Source) (o : Operand) → IsAlike t (with_operand k t o)
source_alone t First o =
    record { station = refl; index = refl; half = refl; pc = refl; predicted = refl; next = refl; made = refl; fate = refl; standing = refl }
source_alone t Second o =
    record { station = refl; index = refl; half = refl; pc = refl; predicted = refl; next = refl; made = refl; fate = refl; standing = refl }

act_alone : (P : Program) (C : Sizes) (U : UpdateUnit) (by p : ℕ) (act : Act) (k : Source) →
    ((t : Tenant) (ts : List Tenant) → IsAlike t (changed P by act t ts)) → AreTwins U (applied P C U by (UnitOn p act))
act_alone P C U by p act k alone = record { tenants = go (at U.tenants p) refl; fresh = refl }
  where
    go : (o : Option Tenant) → at U.tenants p ≡ o → AreAlike U.tenants (change_at P U.tenants by p act (at U.tenants p))
    go None e = subst (λ o. AreAlike U.tenants (change_at P U.tenants by p act o)) (sym e) (are_self U.tenants)
    go (Some t) e =
        subst (λ o. AreAlike U.tenants (change_at P U.tenants by p act o)) (sym e)
        (same_put U.tenants p t (changed P by act t (older U.tenants p)) e (alone t (older U.tenants p)))

pub silent_alone : (P : Program) (C : Sizes) (U : UpdateUnit) (by : ℕ) (t : UnitStep) → IsSilent t →
    AreTwins U (applied P C U by t)
silent_alone P C U by (UnitOn p (Link k)) s = act_alone P C U by p (Link k) k (λ t ts. source_alone t k _)
silent_alone P C U by (UnitOn p (Deliver k)) s = act_alone P C U by p (Deliver k) k (λ t ts. source_alone t k _)
silent_alone P C U by (UnitOn p Claim) s = absurd s
silent_alone P C U by (UnitOn p Finish) s = absurd s
silent_alone P C U by (UnitOn p Load) s = absurd s
silent_alone P C U by (UnitOn p (Retire n)) s = absurd s
silent_alone P C U by (UnitOn p Squash) s = absurd s
silent_alone P C U by (UnitOn p Mend) s = absurd s
silent_alone P C U by (UnitOn p (Speculate x)) s = absurd s
silent_alone P C U by (UnitLet i x f g) s = absurd s
silent_alone P C U by Renew s = absurd s

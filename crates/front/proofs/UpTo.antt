-- The tenants up to one of them: they stay, and so do their creators as long as it is live.
use Rattle.std.proofs.Common.{◌≡◌, ◌≢◌, ℕ, suc, ◌+◌, ◌<◌, ◌≤◌, Bool, true, false, cond, eqb, List, [], ◌∷◌, ◌++◌, length, Some, refl, sym, ap, ◌∙◌, subst, ⊎_elim, arith, length-append, eq-eqb, ne_eqb}
use mathlib.Core.Logic.{dite}
use native.Mathlib.Decide.{ℕ_discrete}
use Rattle.std.proofs.lemmas.Bool.{cases_lt}
use Rattle.std.proofs.lemmas.Option.{same_Some}
use Rattle.instructions.specs.Programs.{Program}
use Rattle.inorder.specs.declared.history.Act.{Act}
use Rattle.inorder.specs.declared.history.Act.TheVariants.{Claim, Deliver, Finish, Link, Load, Mend, Retire, Speculate, Squash}
use Rattle.inorder.specs.declared.history.Entry.{Entry}
use Rattle.inorder.specs.declared.history.Step.{Step}
use Rattle.inorder.specs.declared.history.Step.TheVariants.{Let, On, Renew}
use Rattle.inorder.specs.History.{IsLegal, unit_of}
use Rattle.inorder.specs.Legal.{Allowed, May, MayAct, applied, change_at, changed}
use Rattle.inorder.specs.Replies.{Has}
use Rattle.inorder.specs.Steps.{mended_as, new_tenant}
use Rattle.inorder.specs.Tenants.{Fate, IsNotLive, Live, Squashed, Tenant, on_path}
use Rattle.inorder.specs.Unit.{Sizes, UpdateUnit, at, creator, older, younger}
use Rattle.inorder.proofs.Basics.{eqb_less, split_at}
use Rattle.inorder.proofs.Grows.{creator_grows, sound_mid}
use Rattle.inorder.proofs.Histories.{unit_lasts}
use Rattle.inorder.proofs.Kept.{link_grows, parts}
use Rattle.inorder.proofs.Letting.{besides_grows}
use Rattle.inorder.proofs.Moves.{IsActed, IsLeft, at_changed, came, changed_goes, length_changed}
use Rattle.inorder.proofs.Positions.{at_below, younger_at}
use Rattle.inorder.proofs.QueuePlaces.{older_length}
use Rattle.inorder.proofs.Sound.{IsSound, IsSoundAt}
use Rattle.front.specs.Mended.{up_to}
use Rattle.inorder.specs.declared.history.Speculation.TheVariants.{Confirm, Flush, Guess}
use Rattle.std.specs.List.{AllByRecursion}

-- The tenants up to a position

pub up_to_is : (us : List Tenant) (p : ℕ) (t : Tenant) → at us p ≡ Some t → up_to us p ≡ t ∷ older us p
up_to_is [] p t h = absurd (cc)
up_to_is (u ∷ us) p t h = go (eqb p (length us)) refl (up_to_is us p t)
  where
    go : (b : Bool) → eqb p (length us) ≡ b → (at us p ≡ Some t → up_to us p ≡ t ∷ older us p) → up_to (u ∷ us) p ≡ t ∷ older (u ∷ us) p
    go true e more = let same : u ≡ t = cc (rw e at h) in rw e (ap (λ x. x ∷ us) same)
    go false e more = rw e (more (rw e at h))

-- one that is younger than these is not among them
up_to_before : (ys ts : List Tenant) (p : ℕ) (z : Tenant) → p < length ts → up_to (ys ++ z ∷ ts) p ≡ up_to ts p
up_to_before [] ts p z less = ap (λ b. cond b (z ∷ ts) (up_to ts p)) (eqb_less p (length ts) less)
up_to_before (y ∷ ys) ts p z less =
    let n = length-append ys (z ∷ ts) in
    ap (λ b. cond b (y ∷ (ys ++ z ∷ ts)) (up_to (ys ++ z ∷ ts) p)) (eqb_less p (length (ys ++ z ∷ ts)) (omega (arith, n, less)))
    ∙ up_to_before ys ts p z less

-- another is, wherever these end
record EndsSo (ys ts : List Tenant) (p : ℕ) : Type 0 where
  pub front : List Tenant
  pub is : (z : Tenant) → up_to (ys ++ z ∷ ts) p ≡ front ++ z ∷ ts

up_to_behind : (ys ts : List Tenant) (p : ℕ) → length ts ≤ p → p ≤ length ys + length ts → EndsSo ys ts p
up_to_behind [] ts p least most = record { front = []; is = λ z. ap (λ b. cond b (z ∷ ts) (up_to ts p)) (eq-eqb p (length ts) (omega (arith, least, most))) }
up_to_behind (y ∷ ys) ts p least most = dite (ℕ_discrete p (length ys + suc (length ts)))
    (λ e. record {
      front = y ∷ ys;
      is = λ z. ap (λ b. cond b (y ∷ (ys ++ z ∷ ts)) (up_to (ys ++ z ∷ ts) p)) (eq-eqb p (length (ys ++ z ∷ ts)) (wide z e));
    })
    (λ ne. let m = up_to_behind ys ts p least (omega (arith, most, ne)) in record {
      front = m.front;
      is = λ z. ap (λ b. cond b (y ∷ (ys ++ z ∷ ts)) (up_to (ys ++ z ∷ ts) p)) (ne_eqb p (length (ys ++ z ∷ ts)) (λ e. ne (narrow z e)))
          ∙ m.is z;
    })
  where
    wide : (z : Tenant) → p ≡ length ys + suc (length ts) → p ≡ length (ys ++ z ∷ ts)
    wide z e = let n = length-append ys (z ∷ ts) in omega (arith, n, e)

    narrow : (z : Tenant) → p ≡ length (ys ++ z ∷ ts) → p ≡ length ys + suc (length ts)
    narrow z e = let n = length-append ys (z ∷ ts) in omega (arith, n, e)

-- Their creators stay, as long as the last of them is live

stays_on_path : (P : Program) (by : ℕ) (act : Act) (ys : List Tenant) (t : Tenant) (ts : List Tenant) → act ≢ Squash → act ≢ Speculate Flush → May P by act ys t ts → IsSoundAt P ts t →
    on_path (changed P by act t ts) ≡ on_path t
stays_on_path P by (Link k) ys t ts other others m ok = (link_grows P ts t k).path
stays_on_path P by (Deliver k) ys t ts other others m ok = (besides_grows P by (Deliver k) ys t ts tt m ok).path
stays_on_path P by Claim ys t ts other others m ok = (besides_grows P by Claim ys t ts tt m ok).path
stays_on_path P by Finish ys t ts other others m ok = (besides_grows P by Finish ys t ts tt m ok).path
stays_on_path P by Load ys t ts other others m ok = (besides_grows P by Load ys t ts tt m ok).path
stays_on_path P by (Retire n) ys t ts other others m ok = (besides_grows P by (Retire n) ys t ts tt m ok).path
stays_on_path P by Squash ys t ts other others m ok = absurd (other refl)
stays_on_path P by (Speculate (Guess v)) ys t ts other others m ok = refl
stays_on_path P by (Speculate Confirm) ys t ts other others m ok = refl
stays_on_path P by (Speculate Flush) ys t ts other others m ok = absurd (others refl)
stays_on_path P by Mend ys t ts other others m ok = ap (λ (f : Fate). on_path (mended_as t f)) m.fate

abbrev pub IsLiveAt : UpdateUnit → ℕ → Type 0
IsLiveAt V p = Has V p (λ t. t.standing ≡ Live)

module _ (P : Program) (C : Sizes) (p : ℕ) where
  -- none up to a live tenant leaves the path, since only the youngest does
  none_leaves : (V : UpdateUnit) (by q : ℕ) (act : Act) (a : MayAct P V.tenants by q act) → AllByRecursion IsNotLive (younger V.tenants q) →
      (changed P by act a.tenant (older V.tenants q)).standing ≡ Squashed → q ≤ p → IsLiveAt V p → IsLiveAt (applied P C V by (On q act)) p → ⊥
  none_leaves V by q act a youngest gone le was now =
      let ts = V.tenants in
      ⊎_elim
      (λ (z : IsActed P ts by q act a.tenant p was.tenant).
      let same : changed P by act a.tenant (older ts q) ≡ now.tenant = same_Some (changed P by act a.tenant (older ts q)) now.tenant (sym z.now ∙ now.is) in
      let other : Squashed ≡ Live = sym gone ∙ (ap (λ (t : Tenant). t.standing) same ∙ now.fact) in absurd (cc other))
      (λ (z : IsLeft P ts by q act p was.tenant).
      let ne : p ≢ q = z.position in
      younger_at IsNotLive ts q youngest p was.tenant (omega (arith, le, ne)) was.is was.fact)
      (at_changed P ts by q act a.tenant a.is p was.tenant was.is)

  none_squashed : (V : UpdateUnit) (by q : ℕ) → MayAct P V.tenants by q Squash → q ≤ p → IsLiveAt V p → IsLiveAt (applied P C V by (On q Squash)) p → ⊥
  none_squashed V by q a le was now = none_leaves V by q Squash a a.may.youngest refl le was now

  none_flushed : (V : UpdateUnit) (by q : ℕ) → MayAct P V.tenants by q (Speculate Flush) → q ≤ p → IsLiveAt V p → IsLiveAt (applied P C V by (On q (Speculate Flush))) p → ⊥
  none_flushed V by q a le was now = none_leaves V by q (Speculate Flush) a a.may.youngest refl le was now

  creators_under : (V : UpdateUnit) (by q : ℕ) (act : Act) → MayAct P V.tenants by q act → IsSound P V.tenants → IsLiveAt V p → IsLiveAt (applied P C V by (On q act)) p → (r : ℕ) →
      creator P (up_to (applied P C V by (On q act)).tenants p) r ≡ creator P (up_to V.tenants p) r
  creators_under V by q act a ok was now r =
      let us = V.tenants in
      let t = a.tenant in
      let ts = older us q in
      let ys = younger us q in
      let t' = changed P by act t ts in
      let split : us ≡ ys ++ t ∷ ts = split_at us q t a.is in
      let put : change_at P us by q act (at us q) ≡ ys ++ t' ∷ ts = parts P us by q act t a.is in
      let long : length ts ≡ q = older_length us q t a.is in
      let parted = length-append ys (t ∷ ts) in
      let all = ap (λ (z : List Tenant). length z) split in
      let own = sound_mid P t ts ys (subst (IsSound P) split ok) in
      let move = changed_goes P by q act ys t ts a.may own in
      ap (λ (z : List Tenant). creator P (up_to z p) r) put
      ∙ (⊎_elim
      (λ less. ap (λ (z : List Tenant). creator P z r) (up_to_before ys ts p t' (omega (arith, less, long)) ∙ sym (up_to_before ys ts p t (omega (arith, less, long)))))
      (λ le.
      let below = at_below us p was.tenant was.is in
      let e = up_to_behind ys ts p (omega (arith, le, long)) (omega (arith, below, all, parted)) in
      let other : act ≢ Squash = λ is. none_squashed V by q (subst (MayAct P us by q) is a) le was (subst (λ (z : Act). IsLiveAt (applied P C V by (On q z)) p) is now) in
      let others : act ≢ Speculate Flush = λ is. none_flushed V by q (subst (MayAct P us by q) is a) le was (subst (λ (z : Act). IsLiveAt (applied P C V by (On q z)) p) is now) in
      ap (λ (z : List Tenant). creator P z r) (e.is t')
      ∙ (creator_grows P t t' ts e.front r move.index move.half (stays_on_path P by act ys t ts other others a.may own)
      ∙ ap (λ (z : List Tenant). creator P z r) (sym (e.is t))))
      (cases_lt p q)
      ∙ ap (λ (z : List Tenant). creator P (up_to z p) r) (sym split))

  -- the tenants up to p are those that the unit had
  record StillSo (U V : UpdateUnit) (r : ℕ) : Type 0 where
    pub there : p < length V.tenants
    pub creator_is : IsLiveAt V p → creator P (up_to V.tenants p) r ≡ creator P (up_to U.tenants p) r

  still_so : (U V : UpdateUnit) (r by : ℕ) (s : Step) → Allowed P C V by s → IsSound P V.tenants → StillSo U V r → StillSo U (applied P C V by s) r
  still_so U V r by (Let index predicted first second) a ok k =
      let n = new_tenant P C V index predicted first second in
      let more = eqb_less p (length V.tenants) k.there in
      record {
        there = let l = k.there in omega (arith, l);
        creator_is = λ h. ap (λ b. creator P (cond b (n ∷ V.tenants) (up_to V.tenants p)) r) more
            ∙ k.creator_is (record { tenant = h.tenant; is = sym (ap (λ b. cond b (Some n) (at V.tenants p)) more) ∙ h.is; fact = h.fact });
      }
  still_so U V r by Renew a ok k = record {
    there = k.there;
    creator_is = λ h. k.creator_is (record { tenant = h.tenant; is = h.is; fact = h.fact });
  }
  still_so U V r by (On q act) a ok k = record {
    there = subst (λ n. p < n) (sym (length_changed P V.tenants by q act a.tenant a.is)) k.there;
    creator_is = λ h.
        let b = came P C V by q act a ok p h.tenant h.is in
        let was : IsLiveAt V p = record { tenant = b.tenant; is = b.is; fact = b.goes.live h.fact } in
        creators_under V by q act a ok was h r ∙ k.creator_is was;
  }

  pub same_up_to : (more old : List Entry) → IsLegal P C (more ++ old) → p < length (unit_of P C old).tenants → IsLiveAt (unit_of P C (more ++ old)) p → (r : ℕ) →
      creator P (up_to (unit_of P C (more ++ old)).tenants p) r ≡ creator P (up_to (unit_of P C old).tenants p) r
  same_up_to more old legal there live r =
      let U : UpdateUnit = unit_of P C old in
      (unit_lasts P C (λ (V : UpdateUnit). StillSo U V r) (λ V by s a ok k. still_so U V r by s a ok k) more old legal (record { there = there; creator_is = λ h. refl })).creator_is live

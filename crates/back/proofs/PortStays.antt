-- What the port has seen stays true under the steps of others.
use Rattle.std.proofs.Common.{◌≡◌, ◌⊎◌, ℕ, ◌≤◌, Bool, false, true, ◌&&◌, List, [], ◌++◌, length, Some, None, refl, sym, ap, ◌∙◌, subst, inl, inr, ⊎_elim, arith}
use Rattle.std.proofs.lemmas.Option.{same_Some}
use Rattle.instructions.specs.Instruction.{kind}
use Rattle.instructions.specs.Programs.{Program, instr_of}
use Rattle.inorder.specs.declared.history.Act.{Act}
use Rattle.inorder.specs.declared.history.Act.TheVariants.{Claim, Deliver, Finish, Link, Load as LoadIt, Mend, Retire, Speculate, Squash}
use Rattle.inorder.specs.declared.history.Entry.{Entry}
use Rattle.inorder.specs.declared.history.Source.TheVariants.{First, Second}
use Rattle.inorder.specs.declared.history.Step.{Step}
use Rattle.inorder.specs.declared.history.Step.TheVariants.{Let, On, Renew}
use Rattle.inorder.specs.History.{IsLegal, back, own, unit_of, renewals}
use Rattle.inorder.specs.OneHistory.{Adds}
use Rattle.inorder.specs.Legal.{Allowed, May, applied, changed}
use Rattle.inorder.specs.Loads.{access_width, address_by, entry_of, is_store}
use Rattle.inorder.specs.Replies.{Has, IsStale}
use Rattle.inorder.specs.Tenants.{Addr, Live, Squashed, Tenant, computed, instr, kind_of}
use Rattle.inorder.specs.Unit.{Sizes, UpdateUnit, at, older, younger}
use Rattle.inorder.proofs.Ends.{Acted, IsNotBacks, IsNotBacksAct, exact}
use Rattle.inorder.proofs.Loading.{gone_stays}
use Rattle.inorder.proofs.Moves.{goes, length_changed}
use Rattle.inorder.proofs.Positions.{at_there}
use Rattle.inorder.proofs.Sound.{IsSound}
use Rattle.lsq.specs.declared.entry.Entry.{Entry as QueueEntry}
use Rattle.lsq.specs.LoadRule.{meets, overlaps}
use Rattle.lsq.specs.Entries.{bytes}
use Rattle.inorder.proofs.Heads.{addr_on}
use Rattle.ruu_words.proofs.Stays.{back_stays}
use Rattle.back.specs.Port.{AtStation, IsAskedInOrder, IsKnown, IsMet, DoesNotWaitFor}
use Rattle.back.specs.Trials.{ShowsAddress}
use Rattle.back.specs.declared.port.Load.{Load}
use Rattle.back.proofs.OwnEntries.{added_legal, added_own}

-- a live tenant with its address stays so, or is squashed
addr_live : (P : Program) (by : ℕ) (act : Act) (ys : List Tenant) (t : Tenant) (ts : List Tenant) (x : ℕ) →
    IsNotBacksAct act → May P by act ys t ts → t.standing ≡ Live → t.fate ≡ Addr x →
    ((changed P by act t ts).standing ≡ Live) ⊎ ((changed P by act t ts).standing ≡ Squashed)
addr_live P by (Link First) ys t ts x b m l e = inl l
addr_live P by (Link Second) ys t ts x b m l e = inl l
addr_live P by (Deliver First) ys t ts x b m l e = inl l
addr_live P by (Deliver Second) ys t ts x b m l e = inl l
addr_live P by Claim ys t ts x b m l e = let f = m.fate in absurd (cc)
addr_live P by Finish ys t ts x b m l e = let f = m.fate in absurd (cc)
addr_live P by LoadIt ys t ts x b m l e = absurd b
addr_live P by (Retire n) ys t ts x b m l e = absurd b
addr_live P by Squash ys t ts x b m l e = inr refl
addr_live P by (Speculate s) ys t ts x b m l e = absurd b
addr_live P by Mend ys t ts x b m l e = let f = m.fate in absurd (cc)

-- what a step of others leaves of a tenant
record Left (u u' : Tenant) : Type 0 where
  pub index : u'.index ≡ u.index
  pub station : u'.station ≡ u.station
  pub tag : u'.tag ≡ u.tag
  pub live : u'.standing ≡ Live → u.standing ≡ Live
  pub fate : (b : ℕ) → u.fate ≡ Addr b → u'.fate ≡ Addr b
  pub stays : (b : ℕ) → u.fate ≡ Addr b → u.standing ≡ Live → (u'.standing ≡ Live) ⊎ (u'.standing ≡ Squashed)

record LeftAt (V : UpdateUnit) (q : ℕ) (u : Tenant) : Type 0 where
  pub tenant : Tenant
  pub is : at V.tenants q ≡ Some tenant
  pub left : Left u tenant

left_at : (P : Program) (C : Sizes) (U : UpdateUnit) (by : ℕ) (s : Step) → IsNotBacks s → Allowed P C U by s →
    IsSound P U.tenants → (q : ℕ) (u : Tenant) → at U.tenants q ≡ Some u → LeftAt (applied P C U by s) q u
left_at P C U by s b a ok q u is =
    let m = goes P C U by s a ok q u is in
    record {
      tenant = m.tenant;
      is = m.is;
      left = record { index = m.goes.index; station = m.goes.station; tag = m.goes.tag; live = m.goes.live; fate = λ x e. fate_at m.tenant m.is x e; stays = λ x e l. standing_at m.tenant m.is x e l };
    }
  where
    fate_at : (u' : Tenant) → at (applied P C U by s).tenants q ≡ Some u' → (x : ℕ) → u.fate ≡ Addr x → u'.fate ≡ Addr x
    fate_at u' is' x e = ⊎_elim
        (λ same. ap (λ (z : Tenant). z.fate) (same_Some u' u (sym is' ∙ same)) ∙ e)
        (λ (z : Acted P U by s (applied P C U by s).tenants q u).
        ap (λ (y : Tenant). y.fate) (same_Some u' (changed P by z.act u (older U.tenants q)) (sym is' ∙ z.now)) ∙
        addr_on P by z.act (younger U.tenants q) u (older U.tenants q) x (subst IsNotBacks z.step b) z.may e)
        (exact P C U by s a q u is)

    standing_at : (u' : Tenant) → at (applied P C U by s).tenants q ≡ Some u' → (x : ℕ) → u.fate ≡ Addr x → u.standing ≡ Live → (u'.standing ≡ Live) ⊎ (u'.standing ≡ Squashed)
    standing_at u' is' x e l = ⊎_elim
        (λ same. inl (ap (λ (z : Tenant). z.standing) (same_Some u' u (sym is' ∙ same)) ∙ l))
        (λ (z : Acted P U by s (applied P C U by s).tenants q u).
        let same = ap (λ (y : Tenant). y.standing) (same_Some u' (changed P by z.act u (older U.tenants q)) (sym is' ∙ z.now)) in ⊎_elim
        (λ v. inl (same ∙ v))
        (λ v. inr (same ∙ v))
        (addr_live P by z.act (younger U.tenants q) u (older U.tenants q) x (subst IsNotBacks z.step b) z.may l e))
        (exact P C U by s a q u is)

-- Facts of the tenants of a station

-- a fact that lasts while its tenant does
abbrev pub Lasting : (Tenant → Type 0) → Type 0
Lasting Fact = (u u' : Tenant) → u'.index ≡ u.index → ((b : ℕ) → u.fate ≡ Addr b → u'.fate ≡ Addr b) → Fact u → Fact u'

abbrev Known_at : (n station : ℕ) → (Tenant → Type 0) → UpdateUnit → Type 0
Known_at n station Fact U = (n ≤ length U.tenants) × AtStation U n station Fact

longer : (P : Program) (C : Sizes) (U : UpdateUnit) (by : ℕ) (s : Step) → Allowed P C U by s → length U.tenants ≤ length (applied P C U by s).tenants
longer P C U by (Let index predicted first second) a = omega arith
longer P C U by Renew a = omega arith
longer P C U by (On p act) a = let e = length_changed P U.tenants by p act a.tenant a.is in omega (arith, e)

at_station_step : (P : Program) (C : Sizes) (n station : ℕ) (Fact : Tenant → Type 0) → Lasting Fact →
    (U : UpdateUnit) (by : ℕ) (s : Step) → IsNotBacks s → Allowed P C U by s → IsSound P U.tenants →
    Known_at n station Fact U → Known_at n station Fact (applied P C U by s)
at_station_step P C n station Fact lasting U by s b a ok k =
    let more = longer P C U by s a in
    let few = k.0 in (
      omega (arith, more, few),
      λ q u' l is live st.
          let o = at_there U.tenants q (omega (arith, l, few)) in
          let m = left_at P C U by s b a ok q o.0 o.1 in
          let same = same_Some m.tenant u' (sym m.is ∙ is) in
          let left = subst (Left o.0) same m.left in
          lasting o.0 u' left.index left.fate (k.1 q o.0 l o.1 (left.live live) (sym left.station ∙ st)),
    )

module _ (P : Program) (C : Sizes) (old new : List Entry) (a : Adds P C back old new []) where
  none_own : own back a.begins.more ≡ []
  none_own = added_own P C back old new [] a

  legal : IsLegal P C (a.begins.more ++ old)
  legal = added_legal P C back old new [] a

  calm : renewals (a.begins.more ++ old) ≡ renewals old
  calm = sym (ap renewals a.begins.is) ∙ a.one_table

  to_new : (Q : UpdateUnit → Type 0) → Q (unit_of P C (a.begins.more ++ old)) → Q (unit_of P C new)
  to_new Q q = subst (λ h. Q (unit_of P C h)) (sym a.begins.is) q

  pub station_stays : (n station : ℕ) (Fact : Tenant → Type 0) → Lasting Fact →
      n ≤ length (unit_of P C old).tenants → AtStation (unit_of P C old) n station Fact →
      AtStation (unit_of P C new) n station Fact
  station_stays n station Fact lasting few k =
      (to_new (Known_at n station Fact) (back_stays P C (Known_at n station Fact) (λ U by s b al ok q. at_station_step P C n station Fact lasting U by s b al ok q) a.begins.more old legal calm
      none_own (few, k))).1

  pub length_grows : length (unit_of P C old).tenants ≤ length (unit_of P C new).tenants
  length_grows = to_new (λ U. length (unit_of P C old).tenants ≤ length U.tenants)
      (back_stays P C (λ U. length (unit_of P C old).tenants ≤ length U.tenants) (λ U by s b al ok q.
      let l = longer P C U by s al in omega (arith, l, q)) a.begins.more old legal calm none_own (omega arith))

  -- a load that waits goes on, or was squashed
  pub asked_stays : (p station : ℕ) (l : Load) → IsAskedInOrder P (unit_of P C old) p station l → IsAskedInOrder P (unit_of P C new) p station l
  asked_stays p station l q = to_new (λ U. IsAskedInOrder P U p station l) (back_stays P C (λ U. IsAskedInOrder P U p station l) step a.begins.more old legal calm none_own q)
    where
      step : (U : UpdateUnit) (by : ℕ) (s : Step) → IsNotBacks s → Allowed P C U by s → IsSound P U.tenants → IsAskedInOrder P U p station l → IsAskedInOrder P (applied P C U by s) p station l
      step U by s b al ok (inr gone) = inr (gone_stays P C U by s al p gone)
      step U by s b al ok (inl it) =
          let m = left_at P C U by s b al ok p it.tenant it.is in ⊎_elim
          (λ live. inl (record {
            tenant = m.tenant;
            is = m.is;
            fact = record {
              load = record { live = live; kind = ap (λ i. kind (instr_of P i).op) m.left.index ∙ it.fact.load.kind };
              station_is = m.left.station ∙ it.fact.station_is;
              tag_is = m.left.tag ∙ it.fact.tag_is;
              fate = m.left.fate l.address it.fact.fate;
              op_is = ap (λ i. (instr_of P i).op) m.left.index ∙ it.fact.op_is;
            };
          }))
          (λ squashed. inr (record { tenant = m.tenant; is = m.is; fact = squashed }))
          (m.left.stays l.address it.fact.fate it.fact.load.live)

  -- the same of what a station shows
  pub shown_stays : (p station tag address : ℕ) → Has (unit_of P C old) p (ShowsAddress station tag address) → Has (unit_of P C new) p (ShowsAddress station tag address) ⊎ IsStale (unit_of P C new) p
  shown_stays p station tag address q = to_new (λ U. Has U p (ShowsAddress station tag address) ⊎ IsStale U p)
      (back_stays P C (λ U. Has U p (ShowsAddress station tag address) ⊎ IsStale U p) step a.begins.more old legal calm none_own (inl q))
    where
      step : (U : UpdateUnit) (by : ℕ) (s : Step) → IsNotBacks s → Allowed P C U by s → IsSound P U.tenants →
          Has U p (ShowsAddress station tag address) ⊎ IsStale U p →
          Has (applied P C U by s) p (ShowsAddress station tag address) ⊎ IsStale (applied P C U by s) p
      step U by s b al ok (inr gone) = inr (gone_stays P C U by s al p gone)
      step U by s b al ok (inl it) =
          let m = left_at P C U by s b al ok p it.tenant it.is in ⊎_elim
          (λ live. inl (record {
            tenant = m.tenant;
            is = m.is;
            fact = record {
              live = live;
              station_is = m.left.station ∙ it.fact.station_is;
              tag_is = m.left.tag ∙ it.fact.tag_is;
              fate = m.left.fate address it.fact.fate;
            };
          }))
          (λ squashed. inr (record { tenant = m.tenant; is = m.is; fact = squashed }))
          (m.left.stays address it.fact.fate it.fact.live)

-- The facts of the port last

pub known_lasts : (P : Program) → Lasting (IsKnown P)
known_lasts P u u' i f (inl e) = inl (ap (λ k. is_store (kind (instr_of P k).op)) i ∙ e)
known_lasts P u u' i f (inr h) = inr (h.0, f h.0 h.1)

-- whether a store with this address overlaps
over_by : (P : Program) (a w : ℕ) → ℕ → ℕ → Bool
over_by P a w i b = is_store (kind (instr_of P i).op) && meets (Some b) (bytes (access_width (instr_of P i).op)) a w

over_is : (P : Program) (a w : ℕ) (u : Tenant) (b : ℕ) → u.fate ≡ Addr b → overlaps a w (entry_of P u) ≡ over_by P a w u.index b
unfolding over_by
over_is P a w u b e = ap (λ f. is_store (kind_of P u) && meets (address_by (kind_of P u) f (computed P u)) (bytes (access_width (instr P u).op)) a w) e

pub passed_lasts : (P : Program) (a w : ℕ) → Lasting (DoesNotWaitFor P a w)
passed_lasts P a w u u' i f h = go h.known
  where
    go : IsKnown P u → DoesNotWaitFor P a w u'
    go (inl e) =
        let e' : is_store (kind_of P u') ≡ false = ap (λ k. is_store (kind (instr_of P k).op)) i ∙ e in
        record { known = inl e'; apart = ap (λ b. b && meets (entry_of P u').address (bytes (entry_of P u').width) a w) e' }
    go (inr k) = record {
      known = inr (k.0, f k.0 k.1);
      apart = over_is P a w u' k.0 (f k.0 k.1) ∙ (ap (λ j. over_by P a w j k.0) i ∙ (sym (over_is P a w u k.0 k.1) ∙ h.apart));
    }

pub met_lasts : (P : Program) (a w : ℕ) (e : QueueEntry) → Lasting (IsMet P a w e)
met_lasts P a w e u u' i f h = record {
  base = h.base;
  store = ap (λ k. is_store (kind (instr_of P k).op)) i ∙ h.store;
  fate = f h.base h.fate;
  entry = h.entry ∙ ap (λ k. record { store = true; width = access_width (instr_of P k).op; address = Some h.base; content = None }) (sym i);
  meets = h.meets;
}

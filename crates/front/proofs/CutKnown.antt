-- What the front knows after a squash and a mending of its own.
use Rattle.std.proofs.Common.{◌≡◌, ◌≢◌, ℕ, ◌+◌, ◌<◌, true, List, [], ◌∷◌, ◌++◌, length, Some, refl, sym, ap, ◌∙◌, subst, ⊎_elim, arith, length-append, append_assoc, true≢false, ◌≤◌}
use Rattle.std.proofs.lemmas.Bool.{cases_lt}
use Rattle.std.specs.List.{AllByRecursion}
use Rattle.std.specs.Prelude.{slice_index}
use Rattle.std.proofs.lemmas.Option.{same_Some}
use Rattle.instructions.specs.Programs.{Program}
use Rattle.inorder.specs.declared.history.Act.{Act}
use Rattle.inorder.specs.declared.history.Act.TheVariants.{Mend, Squash}
use Rattle.inorder.specs.declared.history.Step.TheVariants.{On}
use Rattle.inorder.specs.Callers.{CanMend, CanSquash, IsMissing, IsYoungestLive}
use Rattle.inorder.specs.Legal.{Allowed, applied, changed}
use Rattle.inorder.specs.Replies.{Has}
use Rattle.inorder.specs.Steps.{mended, mended_as, squashed}
use Rattle.inorder.specs.Tenants.{IsNotLive, Live, Miss, Retired, Squashed, Standing, Tenant, on_path, stands_on_path}
use Rattle.inorder.specs.Unit.{Sizes, UpdateUnit, at, older, younger}
use Rattle.inorder.proofs.Kept.{parts}
use Rattle.inorder.proofs.Positions.{all_at, younger_at}
use Rattle.inorder.proofs.Sound.{IsSettled, IsSound, SettledBy}
use Rattle.inorder.proofs.Stations.{mended_station}
use Rattle.inorder.proofs.OneCaller.Middle.{at_middle, older_middle, sound_from, younger_middle}
use Rattle.front.proofs.Stays.{long_under}
use Rattle.front.specs.Path.{rested_at}
use Rattle.front.specs.declared.path.base_state.Base.{Base}
use Rattle.front.specs.declared.path.record.Record.{Record}
use Rattle.front.specs.Creators.{creator_note, position}
use Rattle.front.specs.Knows.{IsGone, IsNewest, IsFolded, FrontKnows, whats}
use Rattle.front.specs.Trail.{Note, note, trail}
use Rattle.front.proofs.Acts.{still_gone, still_newest, still_folded, still_value}
use Rattle.front.proofs.Lists.{all_both, all_front, all_map, all_rest, whats_append}
use Rattle.front.proofs.Trails.{IsLastOn, IsOff, last_on, trail_off, trail_on, trail_past}

-- one that is not on the path is not live
off_not_live : (t : Tenant) → IsOff t → IsNotLive t
off_not_live t off live = true≢false (sym (ap stands_on_path live) ∙ off)

off_at : (ys : List Tenant) (t : Tenant) (ts : List Tenant) → AllByRecursion IsOff ys → (q : ℕ) (u : Tenant) → length ts < q → at (ys ++ t ∷ ts) q ≡ Some u → IsOff u
off_at ys t ts off q u lt is = younger_at IsOff (ys ++ t ∷ ts) (length ts) (subst (AllByRecursion IsOff) (sym (younger_middle ys t ts)) off) q u lt is

-- older ones that are live: a tenant of the path is live
pub live_on : (P : Program) (t : Tenant) (ts : List Tenant) → IsSound P (t ∷ ts) → on_path t ≡ true → (q : ℕ) (u : Tenant) → at ts q ≡ Some u → u.standing ≡ Live → t.standing ≡ Live
live_on P t ts ok on q u is live = go t.standing refl
  where
    go : (st : Standing) → t.standing ≡ st → t.standing ≡ Live
    go Live e = e
    go Squashed e = absurd (true≢false (sym on ∙ ap stands_on_path e))
    go Retired e = absurd (subst (λ x. SettledBy x u.fate) live (all_at IsSettled ts ((ok.0.placed on).settled e) q u is))

at_older_part : (ys : List Tenant) (t : Tenant) (ts : List Tenant) (q : ℕ) (u : Tenant) → q < length ts → at (ys ++ t ∷ ts) q ≡ Some u → at ts q ≡ Some u
at_older_part ys t ts q u lt is =
    let below : length ts < length (ys ++ t ∷ ts) = omega (arith, length-append ys (t ∷ ts)) in
    subst (λ z. at z q ≡ Some u) (older_middle ys t ts) (Rattle.inorder.proofs.Ends.at_older (ys ++ t ∷ ts) (length ts) q u below lt is)

-- the youngest live tenant is the last of the path
pub record IsThisOne (p : ℕ) (u : Tenant) (t : Tenant) (ts : List Tenant) : Type 0 where
  pub position : p ≡ length ts
  pub tenant : u ≡ t

this_one : (P : Program) (ys : List Tenant) (t : Tenant) (ts : List Tenant) → IsSound P (ys ++ t ∷ ts) → AllByRecursion IsOff ys → on_path t ≡ true
    → (p : ℕ) (u : Tenant) → at (ys ++ t ∷ ts) p ≡ Some u → u.standing ≡ Live → AllByRecursion IsNotLive (younger (ys ++ t ∷ ts) p) → IsThisOne p u t ts
this_one P ys t ts ok off on p u is live youngest = ⊎_elim below (λ ge. ⊎_elim above (λ le. here (omega (arith, ge, le))) (cases_lt (length ts) p)) (cases_lt p (length ts))
  where
    us : List Tenant
    us = ys ++ t ∷ ts

    here : p ≡ length ts → IsThisOne p u t ts
    here e = record { position = e; tenant = same_Some u t (sym is ∙ (ap (at us) e ∙ at_middle ys t ts)) }

    below : p < length ts → IsThisOne p u t ts
    below lt =
        let t_live = live_on P t ts (sound_from P ys (t ∷ ts) ok) on p u (at_older_part ys t ts p u lt is) live in
        absurd (younger_at IsNotLive us p youngest (length ts) t lt (at_middle ys t ts) t_live)

    above : length ts < p → IsThisOne p u t ts
    above gt = absurd (off_not_live u (off_at ys t ts off p u gt is) live)

module _ (P : Program) (C : Sizes) (U : UpdateUnit) (ok : IsSound P U.tenants) (fs : List Note) (x : Note) (o : IsLastOn P U.tenants fs x) where
  abbrev t : Tenant
  t = o.tenant

  abbrev ts : List Tenant
  ts = o.ts

  split_sound : IsSound P (o.ys ++ t ∷ ts)
  split_sound = subst (IsSound P) o.split ok

  -- the one that a squash or a mending acts on
  pub acted : (p : ℕ) (u : Tenant) → at U.tenants p ≡ Some u → u.standing ≡ Live → AllByRecursion IsNotLive (younger U.tenants p) → IsThisOne p u t ts
  acted p u is live youngest =
      this_one P o.ys t ts split_sound o.off o.on p u (subst (λ z. at z p ≡ Some u) o.split is) live (subst (λ z. AllByRecursion IsNotLive (younger z p)) o.split youngest)

  pub at_last : at U.tenants x.at ≡ Some t
  at_last = ap (at U.tenants) (ap (λ z. z.at) o.is) ∙ (ap (λ z. at z (length ts)) o.split ∙ at_middle o.ys t ts)

  pub youngest_last : IsYoungestLive U x.at
  youngest_last = λ q u lt is live.
      off_not_live u (off_at o.ys t ts o.off q u (subst (λ (z : Note). z.at < q) o.is lt) (subst (λ z. at z q ≡ Some u) o.split is)) live

  -- a live miss that is older: the last one may be squashed
  pub can_squash : (q next : ℕ) → q < x.at → Has U q (IsMissing next) → CanSquash U x.at
  can_squash q next lt m =
      let older_one = at_older_part o.ys t ts q m.tenant (subst (λ (z : Note). q < z.at) o.is lt) (subst (λ z. at z q ≡ Some m.tenant) o.split m.is) in
      record {
        tenant = record { tenant = t; is = at_last; fact = live_on P t ts (sound_from P o.ys (t ∷ ts) split_sound) o.on q m.tenant older_one m.fact.live };
        youngest = youngest_last;
        q = q;
        x = next;
        before = lt;
        miss = m;
      }

  -- the last one is a live miss: it may be mended
  pub can_mend : (next : ℕ) → Has U x.at (IsMissing next) → CanMend U x.at next
  can_mend next m = record { miss = m; youngest = youngest_last }

  -- the list after an act on it
  pub act_list : (by p : ℕ) (act : Act) → (a : Allowed P C U by (On p act)) → IsThisOne p a.tenant t ts → (applied P C U by (On p act)).tenants ≡ o.ys ++ changed P by act t ts ∷ ts
  act_list by p act a one =
      let us = U.tenants in
      let younger_is : younger us p ≡ o.ys = (λ i. younger (o.split i) (one.position i)) ∙ younger_middle o.ys t ts in
      let older_is : older us p ≡ ts = (λ i. older (o.split i) (one.position i)) ∙ older_middle o.ys t ts in
      parts P us by p act a.tenant a.is ∙ (λ i. younger_is i ++ changed P by act (one.tenant i) (older_is i) ∷ older_is i)

  pub squash_trail : (by p : ℕ) → (a : Allowed P C U by (On p Squash)) → IsThisOne p a.tenant t ts → trail P (applied P C U by (On p Squash)).tenants ≡ fs
  squash_trail by p a one = ap (trail P) (act_list by p Squash a one) ∙ (trail_past P o.ys (squashed t ∷ ts) o.off ∙ (trail_off P (squashed t) ts refl ∙ sym o.before))

  -- where it goes on
  abbrev pub mended_note : ℕ → Note
  mended_note next = record { at = x.at; what = record x.what { next = next } }

  mended_is : (next : ℕ) → t.standing ≡ Live → t.fate ≡ Miss next → note P ts (mended t) ≡ mended_note next
  mended_is next live f =
      ap (λ z. note P ts (mended_as t z)) f ∙ ap (λ (z : Note). record { at = z.at; what = record z.what { next = next } }) (sym o.is)

  pub mend_trail : (by p next : ℕ) → (a : Allowed P C U by (On p Mend)) → IsThisOne p a.tenant t ts → t.fate ≡ Miss next → trail P (applied P C U by (On p Mend)).tenants ≡ fs ++ mended_note next ∷ []
  mend_trail by p next a one f =
      let live : t.standing ≡ Live = ap (λ (z : Tenant). z.standing) (sym one.tenant) ∙ a.may.live in
      let on : on_path (mended t) ≡ true = ap stands_on_path ((mended_station t t.fate).1 ∙ live) in
      ap (trail P) (act_list by p Mend a one)
      ∙ (trail_past P o.ys (mended t ∷ ts) o.off
      ∙ (trail_on P (mended t) ts on ∙ (λ i. sym o.before i ++ mended_is next live f i ∷ [])))

module _ (P : Program) (C : Sizes) (U : UpdateUnit) (ok : IsSound P U.tenants) (by p : ℕ) (base : Base) where
  -- the youngest is no more there, and there are others
  pub squash_known : (a : Allowed P C U by (On p Squash)) →
      (rest : List Record) (one : Record) (k : FrontKnows P C U (rest ++ one ∷ []) base) →
      (fs : List Note) (x : Note) → k.notes ≡ fs ++ x ∷ [] → rest ≢ [] →
      FrontKnows P C (applied P C U by (On p Squash)) rest base
  squash_known a rest one k fs x e some =
      let V = applied P C U by (On p Squash) in
      let whole : trail P U.tenants ≡ (k.gone ++ fs) ++ x ∷ [] = k.path ∙ (ap (λ z. k.gone ++ z) e ∙ sym (append_assoc k.gone fs (x ∷ []))) in
      let o = last_on P U.tenants (k.gone ++ fs) x whole in
      let this = acted P C U ok (k.gone ++ fs) x o p a.tenant a.is a.may.live a.may.youngest in
      let long = length-append fs (x ∷ []) in
      let all : length k.notes ≡ length (fs ++ x ∷ []) = ap (λ z. length z) e in
      let are : rest ≡ whats fs = Rattle.front.proofs.Cuts.front_same rest (whats fs) one x.what (k.are ∙ (ap whats e ∙ whats_append fs (x ∷ []))) in
      record {
        gone = k.gone;
        notes = fs;
        path = squash_trail P C U ok (k.gone ++ fs) x o by p a this;
        are = are;
        room = omega (arith, k.room);
        begun = λ none. absurd (some (are ∙ ap whats none));
        retired = all_map (IsGone U) (IsGone V) (still_gone P C U by (On p Squash) a ok) k.gone k.retired;
        again = all_map (IsFolded U (rested_at base)) (IsFolded V (rested_at base)) (still_folded P C U by (On p Squash) a ok (rested_at base)) k.gone k.again;
        newest = all_map (IsNewest U) (IsNewest V) (still_newest P C U by p Squash a ok) fs (all_front (IsNewest U) fs (x ∷ []) (subst (AllByRecursion (IsNewest U)) e k.newest));
        past = subst (λ z. rested_at base ≤ z) (sym (long_under P C U by p Squash a)) k.past;
        since = subst (λ z. z ≤ rested_at base + U.fresh) (sym (long_under P C U by p Squash a)) k.since;
        untold = all_front (λ n. rested_at base ≤ n.at) fs (x ∷ []) (subst (AllByRecursion (λ n. rested_at base ≤ n.at)) e k.untold);
        wide = k.wide;
        base_is = λ r h. still_value P C U by (On p Squash) a ok (position (creator_note k.gone r)) (slice_index base.registers r) (k.base_is r h);
      }

  -- the youngest goes on elsewhere
  pub mend_known : (a : Allowed P C U by (On p Mend)) → (rest : List Record) (one : Record) (k : FrontKnows P C U (rest ++ one ∷ []) base) → (fs : List Note) (x : Note) → k.notes ≡ fs ++ x ∷ [] →
      (next : ℕ) → Has U x.at (IsMissing next) → FrontKnows P C (applied P C U by (On p Mend)) (rest ++ record one { next = next } ∷ []) base
  mend_known a rest one k fs x e next m =
      let V = applied P C U by (On p Mend) in
      let whole : trail P U.tenants ≡ (k.gone ++ fs) ++ x ∷ [] = k.path ∙ (ap (λ z. k.gone ++ z) e ∙ sym (append_assoc k.gone fs (x ∷ []))) in
      let o = last_on P U.tenants (k.gone ++ fs) x whole in
      let this = acted P C U ok (k.gone ++ fs) x o p a.tenant a.is a.may.live a.may.youngest in
      let fate : o.tenant.fate ≡ Miss next = ap (λ (z : Tenant). z.fate) (same_Some o.tenant m.tenant (sym (at_last P C U ok (k.gone ++ fs) x o) ∙ m.is)) ∙ m.fact.fate in
      let y : Note = mended_note P C U ok (k.gone ++ fs) x o next in
      let same = Rattle.front.proofs.Cuts.both_same rest (whats fs) one x.what (k.are ∙ (ap whats e ∙ whats_append fs (x ∷ []))) in
      let long = length-append fs (x ∷ []) in
      let long' = length-append fs (y ∷ []) in
      let all : length k.notes ≡ length (fs ++ x ∷ []) = ap (λ z. length z) e in
      let newest : AllByRecursion (IsNewest U) (fs ++ x ∷ []) = subst (AllByRecursion (IsNewest U)) e k.newest in
      let untold : AllByRecursion (λ n. rested_at base ≤ n.at) (fs ++ x ∷ []) = subst (AllByRecursion (λ n. rested_at base ≤ n.at)) e k.untold in
      let last : IsNewest U y = (all_rest (IsNewest U) fs (x ∷ []) newest).0 in
      record {
        gone = k.gone;
        notes = fs ++ y ∷ [];
        path = mend_trail P C U ok (k.gone ++ fs) x o by p next a this fate ∙ append_assoc k.gone fs (y ∷ []);
        are = (λ i. same.fronts i ++ record (same.ones i) { next = next } ∷ []) ∙ sym (whats_append fs (y ∷ []));
        room = omega (arith, k.room);
        begun = λ none. absurd (Rattle.front.proofs.Lists.last_not fs y (sym none));
        retired = all_map (IsGone U) (IsGone V) (still_gone P C U by (On p Mend) a ok) k.gone k.retired;
        again = all_map (IsFolded U (rested_at base)) (IsFolded V (rested_at base)) (still_folded P C U by (On p Mend) a ok (rested_at base)) k.gone k.again;
        newest = all_map (IsNewest U) (IsNewest V) (still_newest P C U by p Mend a ok) (fs ++ y ∷ []) (all_both (IsNewest U) fs (y ∷ []) (all_front (IsNewest U) fs (x ∷ []) newest) (last, tt));
        past = subst (λ z. rested_at base ≤ z) (sym (long_under P C U by p Mend a)) k.past;
        since = subst (λ z. z ≤ rested_at base + U.fresh) (sym (long_under P C U by p Mend a)) k.since;
        untold = all_both (λ n. rested_at base ≤ n.at) fs (y ∷ []) (all_front (λ n. rested_at base ≤ n.at) fs (x ∷ []) untold) ((all_rest (λ n. rested_at base ≤ n.at) fs (x ∷ []) untold).0, tt);
        wide = k.wide;
        base_is = λ r h. still_value P C U by (On p Mend) a ok (position (creator_note k.gone r)) (slice_index base.registers r) (k.base_is r h);
      }

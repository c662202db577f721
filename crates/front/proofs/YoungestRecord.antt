-- The youngest record of the front: its tenant, and the misses that are older.
use Rattle.std.proofs.Common.{◌≡◌, ℕ, ◌<◌, List, [], ◌∷◌, ◌++◌, length, Some, sym, ap, ◌∙◌, subst, ⊎_elim, arith, append_assoc, ◌≤◌, false}
use Rattle.std.specs.List.{AllByRecursion}
use Rattle.std.specs.Prelude.{slice_get}
use Rattle.std.proofs.lemmas.Option.{same_Some}
use Rattle.instructions.specs.Programs.{Program}
use Rattle.inorder.specs.declared.history.Entry.{Entry}
use Rattle.inorder.specs.declared.history.Event.{Event}
use Rattle.inorder.specs.History.{IsLegal, entry, front, unit_of}
use Rattle.inorder.specs.OneHistory.{Adds}
use Rattle.inorder.specs.Callers.{CanMend, CanSquash, IsMissing}
use Rattle.inorder.specs.Replies.{Has}
use Rattle.inorder.specs.Tenants.{Tenant}
use Rattle.inorder.specs.Unit.{Sizes, UpdateUnit, at, is_old}
use Rattle.inorder.proofs.Ends.{miss_stays}
use Rattle.inorder.proofs.Histories.{unit_sound}
use Rattle.inorder.proofs.Moves.{goes}
use Rattle.inorder.proofs.Positions.{at_below}
use Rattle.inorder.proofs.Sound.{IsSound}
use Rattle.ruu_words.specs.Kinds.{IsTenant}
use Rattle.ruu_words.proofs.StationWords.{one_tag}
use Rattle.front.specs.Path.{rested_at}
use Rattle.front.specs.declared.path.base_state.Base.{Base}
use Rattle.front.specs.declared.path.record.Record.{Record}
use Rattle.front.specs.Knows.{FrontKnows, whats, IsFolded}
use Rattle.front.specs.Trail.{Note, record_of}
use Rattle.front.proofs.CutKnown.{acted, at_last, can_mend, can_squash}
use Rattle.front.proofs.Cuts.{both_same, not_none}
use Rattle.front.proofs.Lists.{Last, all_front, all_rest, all_two, last_cases, whats_append}
use Rattle.front.proofs.Named.{all_get, all_whats, at_past}
use Rattle.front.proofs.Places.{kept_new}
use Rattle.front.proofs.Splitting.{IsStable, event_legal}
use Rattle.front.proofs.Stays.{still_knows}
use Rattle.front.proofs.Trails.{IsLastOn, IsNoted, last_on, trail_noted}
use Rattle.inorder.proofs.Letting.{IsBesides}
use Rattle.inorder.proofs.Recent.{old_kept}
use Rattle.station.proofs.Splitting.{LastEvent, last_event}

-- a live miss of this name
abbrev pub IsMissOf : ℕ → Record → ℕ → UpdateUnit → Type 0
IsMissOf p x next U = IsTenant U p x.station x.tag (IsMissing next)

pub missing_stable : (P : Program) (C : Sizes) (p : ℕ) (x : Record) (next : ℕ) → IsStable P C (IsMissOf p x next)
missing_stable P C p x next U by s b a ok i =
    let m = miss_stays P C U by s b a p next (record { tenant = i.tenant; is = i.is; fact = i.fact }) in
    let g = goes P C U by s a ok p i.tenant i.is in
    let one = same_Some g.tenant m.tenant (sym g.is ∙ m.is) in
    record {
      tenant = m.tenant;
      is = m.is;
      new = old_kept P C U by s (λ e. subst IsBesides e b) a p ∙ i.new;
      station_is = ap (λ (z : Tenant). z.station) (sym one) ∙ (g.goes.station ∙ i.station_is);
      tag_is = ap (λ (z : Tenant). z.tag) (sym one) ∙ (g.goes.tag ∙ i.tag_is);
      fact = m.fact;
    }

module _ (P : Program) (C : Sizes) (h : List Entry) (legal : IsLegal P C h) (rest : List Record) (one : Record) (base : Base) (k : FrontKnows P C (unit_of P C h) (rest ++ one ∷ []) base) where
  abbrev U : UpdateUnit
  U = unit_of P C h

  ok : IsSound P U.tenants
  ok = unit_sound P C h legal

  pub youngest_note : Last k.notes
  youngest_note = ⊎_elim (λ e. absurd (not_none rest one (k.are ∙ ap whats e))) (λ l. l) (last_cases k.notes)

  abbrev fs : List Note
  fs = youngest_note.front

  abbrev x : Note
  x = youngest_note.one

  untold : AllByRecursion (λ n. rested_at base ≤ n.at) (fs ++ x ∷ [])
  untold = subst (AllByRecursion (λ n. rested_at base ≤ n.at)) youngest_note.is k.untold

  pub same_records : Rattle.front.proofs.Cuts.AreSame rest (whats fs) one x.what
  same_records = both_same rest (whats fs) one x.what (k.are ∙ (ap whats youngest_note.is ∙ whats_append fs (x ∷ [])))

  pub last_of_path : IsLastOn P U.tenants (k.gone ++ fs) x
  last_of_path = last_on P U.tenants (k.gone ++ fs) x (k.path ∙ (ap (λ z. k.gone ++ z) youngest_note.is ∙ sym (append_assoc k.gone fs (x ∷ []))))

  -- the tenants of the others are older
  pub others_older : AllByRecursion (λ r. (p : ℕ) (t : Tenant) → at U.tenants p ≡ Some t → is_old U p ≡ false → t.station ≡ r.station → t.tag ≡ r.tag → p < x.at) rest
  others_older =
      let o = last_of_path in
      let Q : Record → Type 0 = λ r. (p : ℕ) (t : Tenant) → at U.tenants p ≡ Some t → is_old U p ≡ false → t.station ≡ r.station → t.tag ≡ r.tag → p < x.at in
      let noted : AllByRecursion (IsNoted P o.ts) fs = all_rest (IsNoted P o.ts) k.gone fs (subst (AllByRecursion (IsNoted P o.ts)) (sym o.before) (trail_noted P o.ts)) in
      subst (AllByRecursion Q) (sym same_records.fronts) (all_whats Q fs (all_two (IsNoted P o.ts) (λ n. rested_at base ≤ n.at) (λ n. Q n.what) older fs noted
      (all_front (λ n. rested_at base ≤ n.at) fs (x ∷ []) untold)))
    where
      older : (n : Note) → IsNoted P last_of_path.ts n → rested_at base ≤ n.at → (p : ℕ) (t : Tenant) →
          at U.tenants p ≡ Some t → is_old U p ≡ false → t.station ≡ n.what.station → t.tag ≡ n.what.tag →
          p < x.at
      older n i behind p t is new place tag =
          let o = last_of_path in
          let below = at_below o.ts n.at i.tenant i.is in
          let there : at U.tenants n.at ≡ Some i.tenant = ap (λ z. at z n.at) o.split ∙ at_past o.ys (o.tenant ∷ o.ts) n.at i.tenant
          (Rattle.inorder.proofs.Positions.at_more o.tenant o.ts n.at i.tenant i.is) in
          let same : p ≡ n.at = one_tag P C h legal p n.at t i.tenant is there new (kept_new P C U (rest ++ one ∷ []) base (IsFolded U (rested_at base)) k n.at behind)
          (place ∙ ap (λ (z : Record). z.station) (sym i.what)) (tag ∙ ap (λ (z : Record). z.tag) (sym i.what)) in
          let last : x.at ≡ length o.ts = ap (λ (z : Note). z.at) o.is in
          omega (arith, same, below, last)

  pub miss_older : (i : ℕ) (r : Record) (next p : ℕ) → slice_get rest i ≡ Some r → IsMissOf p r next U → p < x.at
  miss_older i r next p e m = all_get _ rest others_older i r e p m.tenant m.is m.new m.station_is m.tag_is

  -- the last one may be squashed
  pub may_squash : (i : ℕ) (r : Record) (next p : ℕ) → slice_get rest i ≡ Some r → IsMissOf p r next U → CanSquash U x.at
  may_squash i r next p e m = can_squash P C U ok (k.gone ++ fs) x last_of_path p next (miss_older i r next p e m) (record { tenant = m.tenant; is = m.is; fact = m.fact })

  -- the last one's own tenant
  pub last_position : (next p : ℕ) → IsMissOf p one next U → p ≡ x.at
  last_position next p m =
      let o = last_of_path in
      let there = at_last P C U ok (k.gone ++ fs) x o in
      let what : record_of P o.tenant ≡ one = ap (λ (z : Note). z.what) (sym o.is) ∙ sym same_records.ones in
      let new = kept_new P C U (rest ++ one ∷ []) base (IsFolded U (rested_at base)) k x.at (all_rest (λ n. rested_at base ≤ n.at) fs (x ∷ []) untold).0 in
      one_tag P C h legal p x.at m.tenant o.tenant m.is there m.new new (m.station_is ∙ ap (λ (z : Record). z.station) (sym what)) (m.tag_is ∙ ap (λ (z : Record). z.tag) (sym what))

  pub last_missing : (next p : ℕ) → IsMissOf p one next U → Has U x.at (IsMissing next)
  last_missing next p m = record { tenant = m.tenant; is = ap (at U.tenants) (sym (last_position next p m)) ∙ m.is; fact = m.fact }

  pub may_mend : (next p : ℕ) → IsMissOf p one next U → CanMend U x.at next
  may_mend next p m = can_mend P C U ok (k.gone ++ fs) x last_of_path next (last_missing next p m)

  -- where a squash or a mending acts
  pub acts_at : (p : ℕ) (u : Tenant) → at U.tenants p ≡ Some u → u.standing ≡ Rattle.inorder.specs.Tenants.Live
      → AllByRecursion Rattle.inorder.specs.Tenants.IsNotLive (Rattle.inorder.specs.Unit.younger U.tenants p) → p ≡ x.at
  acts_at p u is live youngest = let o = last_of_path in (acted P C U ok (k.gone ++ fs) x o p u is live youngest).position ∙ ap (λ (z : Note). z.at) (sym o.is)

-- What the front knew at the point of an event of its own, the only one that it has added
module _ (P : Program) (C : Sizes) (old new : List Entry) (records : List Record) (base : Base) (k : FrontKnows P C (unit_of P C old) records base) where
  pub record KnowsAt (event : Event) : Type 0 where
    pub last : LastEvent P C front old new event []
    pub legal : IsLegal P C (entry front event ∷ last.point)
    pub knows : FrontKnows P C (unit_of P C last.point) records base

  pub knows_at : (event : Event) → Adds P C front old new (event ∷ []) → KnowsAt event
  knows_at event adds =
      let l = last_event P C front old new event [] adds in
      record {
        last = l;
        legal = event_legal P C old new event [] l;
        knows = still_knows l.before k;
      }

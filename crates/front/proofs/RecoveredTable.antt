-- The create vector after the steps of a recovery.
use Rattle.std.proofs.Common.{◌≡◌, ℕ, refl, List, [], ◌∷◌, ◌++◌, Some, sym, ap, ◌∙◌, subst, append_assoc, ◌≤◌}
use Rattle.std.specs.List.{AllByRecursion}
use Rattle.std.proofs.lemmas.Option.{same_Some}
use Rattle.instructions.specs.Programs.{Program}
use Rattle.inorder.specs.declared.history.Act.TheVariants.{Mend, Squash}
use Rattle.inorder.specs.declared.history.Entry.{Entry}
use Rattle.inorder.specs.declared.history.Event.TheVariants.{Does}
use Rattle.inorder.specs.declared.history.Step.TheVariants.{On}
use Rattle.inorder.specs.History.{IsLegal, entry, front, unit_of}
use Rattle.inorder.specs.OneHistory.{Adds}
use Rattle.inorder.specs.Replies.{Has}
use Rattle.inorder.specs.Tenants.{Miss, Tenant}
use Rattle.inorder.specs.Unit.{Sizes, at}
use Rattle.inorder.proofs.Histories.{unit_sound}
use Rattle.ruu_words.specs.Kinds.{IsNamed}
use Rattle.ruu_words.proofs.Stays.{place_stays}
use Rattle.front.specs.Path.{rested_at}
use Rattle.front.specs.declared.path.base_state.Base.{Base}
use Rattle.front.specs.declared.path.record.Record.{Record}
use Rattle.front.specs.Knows.{IsNewest, FrontKnows}
use Rattle.front.specs.CreateTable.{HasTable, IsRestored}
use Rattle.front.specs.declared.path.counted.Table.{Table}
use Rattle.front.proofs.TableStays.{table_cut, table_mended, table_stable, still_has_table}
use Rattle.front.specs.Trail.{Note, trail}
use Rattle.front.proofs.CutKnown.{acted, at_last, mend_trail, mended_note, squash_trail}
use Rattle.front.proofs.Lists.{all_rest}
use Rattle.front.proofs.Splitting.{stays, stays_behind}
use Rattle.station.proofs.Splitting.{LastEvent}
use Rattle.front.proofs.Trails.{IsNoted, trail_noted}
use Rattle.front.proofs.YoungestRecord.{IsMissOf, acts_at, knows_at, last_missing, last_of_path, missing_stable, youngest_note}

module _ (P : Program) (C : Sizes) (old new : List Entry) (rest : List Record) (one : Record) (base : Base) (k : FrontKnows P C (unit_of P C old) (rest ++ one ∷ []) base) where
  -- the station of the one that was squashed
  its_station : (p : ℕ) (l : LastEvent P C front old new (Does (On p Squash)) []) (station tag : ℕ) → IsNamed (unit_of P C new) p station tag
      → (n : Note) → IsNoted P (unit_of P C l.point).tenants n → p ≡ n.at → station ≡ n.what.station
  its_station p l station tag named n noted at_p =
      let t = noted.tenant in
      let at_point : at (unit_of P C l.point).tenants p ≡ Some t = ap (at (unit_of P C l.point).tenants) at_p ∙ noted.is in
      let long : (l.after ++ entry front (Does (On p Squash)) ∷ []) ++ l.point ≡ l.after ++ entry front (Does (On p Squash)) ∷ l.point = append_assoc l.after (entry front (Does (On p Squash)) ∷ [])
      l.point in
      let later = place_stays P C p t (l.after ++ entry front (Does (On p Squash)) ∷ []) l.point (subst (IsLegal P C) (sym long) l.legal) at_point in
      let here : Has (unit_of P C new) p (λ u. (u.station ≡ t.station) × (u.tag ≡ t.tag)) = subst (λ z. Has (unit_of P C z) p (λ u. (u.station ≡ t.station) × (u.tag ≡ t.tag))) (long ∙ sym l.is) later
      in
      sym named.station_is ∙ (ap (λ (z : Tenant). z.station) (same_Some named.tenant here.tenant (sym named.is ∙ here.is)) ∙ (here.fact.0 ∙ ap (λ (z : Record). z.station) noted.what))

  -- its table
  pub squash_table : (p : ℕ) → Adds P C front old new (Does (On p Squash) ∷ []) → (station tag : ℕ) → IsNamed (unit_of P C new) p station tag → (T T' : Table)
      → HasTable P (unit_of P C old) (rested_at base) T → IsRestored T T' station → HasTable P (unit_of P C new) (rested_at base) T'
  squash_table p adds station tag named T T' table restored =
      let s = knows_at P C old new (rest ++ one ∷ []) base k (Does (On p Squash)) adds in
      let l = s.last in
      let a = s.legal.1.1 in
      let ok = unit_sound P C l.point s.legal.0 in
      let last = youngest_note P C l.point s.legal.0 rest one base s.knows in
      let path : List Note = s.knows.gone ++ last.front in
      let whole : trail P (unit_of P C l.point).tenants ≡ path ++ last.one ∷ [] = s.knows.path ∙ (ap (λ z. s.knows.gone ++ z) last.is ∙ sym (append_assoc s.knows.gone last.front (last.one ∷ []))) in
      let noted : IsNoted P (unit_of P C l.point).tenants last.one = (all_rest (IsNoted P (unit_of P C l.point).tenants) path (last.one ∷ [])
      (subst (AllByRecursion (IsNoted P (unit_of P C l.point).tenants)) whole (trail_noted P (unit_of P C l.point).tenants))).0 in
      let newest : IsNewest (unit_of P C l.point) last.one = (all_rest (IsNewest (unit_of P C l.point)) last.front (last.one ∷ [])
      (subst (AllByRecursion (IsNewest (unit_of P C l.point))) last.is s.knows.newest)).0 in
      let untold : rested_at base ≤ last.one.at = (all_rest (λ n. rested_at base ≤ n.at) last.front (last.one ∷ []) (subst (AllByRecursion (λ n. rested_at base ≤ n.at)) last.is s.knows.untold)).0 in
      let o = last_of_path P C l.point s.legal.0 rest one base s.knows in
      let this = acted P C (unit_of P C l.point) ok path last.one o p a.tenant a.is a.may.live a.may.youngest in
      let at_p = acts_at P C l.point s.legal.0 rest one base s.knows p a.tenant a.is a.may.live a.may.youngest in
      let cut = squash_trail P C (unit_of P C l.point) ok path last.one o front p a this in
      let same = its_station p l station tag named last.one noted at_p in
      let before = still_has_table l.before table in
      let behind = table_cut P C (unit_of P C l.point) front p Squash a ok (rested_at base) T T' before path last.one untold whole cut newest noted (subst (IsRestored T T') same restored) in
      stays_behind P C (λ U. HasTable P U (rested_at base) T') (table_stable P C (rested_at base) T') old new (Does (On p Squash)) [] l behind

  -- after a mending
  pub mend_table : (p : ℕ) → Adds P C front old new (Does (On p Mend) ∷ []) → (next q : ℕ) → IsMissOf q one next (unit_of P C old) → (T : Table) → HasTable P (unit_of P C old) (rested_at base) T
      → HasTable P (unit_of P C new) (rested_at base) T
  mend_table p adds next q m T table =
      let s = knows_at P C old new (rest ++ one ∷ []) base k (Does (On p Mend)) adds in
      let l = s.last in
      let a = s.legal.1.1 in
      let missing : IsMissOf q one next (unit_of P C l.point) = stays P C (IsMissOf q one next) (missing_stable P C q one next) old l.point l.before m in
      let ok = unit_sound P C l.point s.legal.0 in
      let last = youngest_note P C l.point s.legal.0 rest one base s.knows in
      let its = last_missing P C l.point s.legal.0 rest one base s.knows next q missing in
      let path : List Note = s.knows.gone ++ last.front in
      let whole : trail P (unit_of P C l.point).tenants ≡ path ++ last.one ∷ [] = s.knows.path ∙ (ap (λ z. s.knows.gone ++ z) last.is ∙ sym (append_assoc s.knows.gone last.front (last.one ∷ []))) in
      let o = last_of_path P C l.point s.legal.0 rest one base s.knows in
      let this = acted P C (unit_of P C l.point) ok path last.one o p a.tenant a.is a.may.live a.may.youngest in
      let fate : o.tenant.fate ≡ Miss next = ap (λ (z : Tenant). z.fate) (same_Some o.tenant its.tenant (sym (at_last P C (unit_of P C l.point) ok path last.one o) ∙ its.is)) ∙ its.fact.fate in
      let y : Note = mended_note P C (unit_of P C l.point) ok path last.one o next in
      let on = mend_trail P C (unit_of P C l.point) ok path last.one o front p next a this fate in
      let before = still_has_table l.before table in
      let behind = table_mended P C (unit_of P C l.point) front p Mend a ok (rested_at base) T before path last.one y whole on refl refl refl refl in
      stays_behind P C (λ U. HasTable P U (rested_at base) T) (table_stable P C (rested_at base) T) old new (Does (On p Mend)) [] l behind

-- What the front knows after a let of its own.
use Rattle.std.proofs.Common.{◌≡◌, ◌≢◌, ℕ, ◌<◌, List, [], ◌∷◌, ◌++◌, length, refl, sym, ap, ◌∙◌, subst, ⊎_elim, arith, length-append, append_assoc, ◌≤◌, inl}
use Rattle.std.specs.Prelude.{slice_index}
use Rattle.instructions.specs.Programs.{Program}
use Rattle.inorder.specs.declared.history.Step.TheVariants.{Let}
use Rattle.inorder.specs.declared.history.Supply.{Supply}
use Rattle.inorder.specs.Legal.{Allowed, applied}
use Rattle.inorder.specs.Steps.{new_tenant}
use Rattle.inorder.specs.Tenants.{Tenant}
use Rattle.inorder.specs.Unit.{Sizes, UpdateUnit, next_station, recent}
use Rattle.inorder.proofs.Creators.{at_cases}
use Rattle.inorder.proofs.Positions.{at_below, at_new}
use Rattle.inorder.proofs.Sound.{IsSound}
use Rattle.front.specs.Path.{rested_at}
use Rattle.front.specs.declared.path.base_state.Base.{Base}
use Rattle.front.specs.declared.path.record.Record.{Record}
use Rattle.front.specs.Creators.{creator_note, position}
use Rattle.front.specs.Knows.{IsFolded, IsGone, IsNewest, IsPassed, RecordsAreReady, FrontKnows}
use Rattle.front.specs.Trail.{Note, note, record_of}
use Rattle.front.proofs.Acts.{still_folded, still_gone, still_value}
use Rattle.front.proofs.Lists.{all_both, all_map, all_two, last_not, whats_append}
use Rattle.inorder.proofs.Stations.{Stands as StandsRight}
use Rattle.front.proofs.Places.{notes_length, others_next}
use Rattle.front.proofs.Trails.{trail_on}

module _ (P : Program) (C : Sizes) (U : UpdateUnit) (by index predicted : ℕ) (first second : Supply)
    (a : Allowed P C U by (Let index predicted first second)) (ok : IsSound P U.tenants) (st : StandsRight C (recent U))
    (records : List Record) (base : Base) (k : RecordsAreReady P C U records base) where
  abbrev new : Tenant
  new = new_tenant P C U index predicted first second

  abbrev V : UpdateUnit
  V = applied P C U by (Let index predicted first second)

  reused : (n : Note) → IsGone U n → IsPassed C U (rested_at base) n → IsFolded V (rested_at base) n
  reused n gone h = ⊎_elim
      (λ r. still_folded P C U by (Let index predicted first second) a ok (rested_at base) n r)
      (λ e. inl (record { p = length U.tenants; behind = at_below U.tenants n.at gone.tenant gone.is; tenant = record { tenant = new; is = at_new new U.tenants; fact = sym e } }))
      h

  newest_old : (n : Note) → IsNewest U n → n.what.station ≢ next_station C (recent U) → IsNewest V n
  newest_old n newest other = λ q u lt is same. ⊎_elim
      (λ old. newest q u lt old same)
      (λ (x : (q ≡ length U.tenants) × (new ≡ u)). other (sym same ∙ ap (λ (z : Tenant). z.station) (sym x.1)))
      (at_cases new U.tenants q u is)

  newest_new : IsNewest V (note P U.tenants new)
  newest_new = λ q u lt is same. let b = at_below V.tenants q u is in absurd (omega arith)

  pub let_known : FrontKnows P C V (records ++ record_of P new ∷ []) base
  let_known =
      let s = k.stands in
      let one = note P U.tenants new ∷ [] in
      let free : length s.notes < C.ring = subst (λ z. z < C.ring) (notes_length P C U records base _ s) k.free in
      let long = length-append s.notes one in
      let others = others_next P C U records base _ s st k.free in
      record {
        gone = s.gone;
        notes = s.notes ++ one;
        path = trail_on P new U.tenants refl ∙ (ap (λ z. z ++ one) s.path ∙ append_assoc s.gone s.notes one);
        are = ap (λ z. z ++ record_of P new ∷ []) s.are ∙ sym (whats_append s.notes one);
        room = omega arith;
        begun = λ e. absurd (last_not s.notes (note P U.tenants new) (sym e));
        retired = all_map (IsGone U) (IsGone V) (still_gone P C U by (Let index predicted first second) a ok) s.gone s.retired;
        again = all_two (IsGone U) _ (IsFolded V (rested_at base)) reused s.gone s.retired s.again;
        newest = all_both (IsNewest V) s.notes one (all_two (IsNewest U) _ (IsNewest V) newest_old s.notes s.newest others) (newest_new, tt);
        past = omega (arith, s.past);
        since = omega (arith, s.since);
        untold = all_both (λ n. rested_at base ≤ n.at) s.notes one s.untold (s.past, tt);
        wide = s.wide;
        base_is = λ r h. still_value P C U by (Let index predicted first second) a ok (position (creator_note s.gone r)) (slice_index base.registers r) (s.base_is r h);
      }

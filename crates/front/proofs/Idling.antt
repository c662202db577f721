-- The look of a rest: nobody is live.
use Rattle.std.proofs.Common.{◌≡◌, ◌≤◌, ℕ, List, [], ◌∷◌, length, Option, Some, None, refl, sym, ap, ◌∙◌, subst, ⊎_elim}
use Rattle.std.specs.List.{AllByRecursion}
use Rattle.inorder.specs.History.{IsLegal, front, unit_of}
use Rattle.inorder.specs.OneHistory.{Adds}
use Rattle.ruu_words.specs.declared.station.StationState.{StationState}
use Rattle.ruu_words.specs.declared.station.StationState.TheVariants.{Free}
use Rattle.station.specs.declared.answers.Seen.{Seen}
use Rattle.station.specs.Looking.{SeesStation}
use Rattle.station.specs.Seats.{Caller, IsSameSeat, TheCore}
use Rattle.front.specs.declared.path.Path.{Path}
use Rattle.front.specs.declared.path.record.Record.{Record}
use Rattle.front.specs.Knows.{IsFolded, IsNewest, FrontKnows}
use Rattle.front.specs.Path.{youngest_record, rested_at}
use Rattle.front.specs.Rests.{TellsEach, TellsRecords, all_untold}
use Rattle.inorder.proofs.Histories.{adds_on, unit_sound}
use Rattle.station.specs.Renewals.{HasNobody}
use Rattle.front.proofs.Lists.{Last, all_rest, last_cases}
use Rattle.front.proofs.Named.{notes_noted}
use Rattle.front.proofs.Places.{kept_new, last_record}
use Rattle.front.proofs.Lefts.{all_told}
use Rattle.front.proofs.Resting.{nobody_stable, none_kept, note_left, youngest_left}
use Rattle.front.proofs.Splitting.{stays}
use Rattle.front.proofs.Stays.{still_knows}
use Rattle.front.proofs.Trails.{IsNoted}

-- A seat has seen that nobody is live, has added nothing, and knows its path as before
pub record HasSeen (core : TheCore) (path : Path) (v w : Caller) : Type 0 where
  pub same : IsSameSeat v w
  pub adds : Adds core.program core.sizes front v.seen w.seen []
  pub nobody : HasNobody (unit_of core.program core.sizes w.seen)
  pub knows : FrontKnows core.program core.sizes (unit_of core.program core.sizes w.seen) path.records path.base

module _ (core : TheCore) (v w : Caller) (same : IsSameSeat v w) (path : Path) (k : FrontKnows core.program core.sizes (unit_of core.program core.sizes v.seen) path.records path.base)
    (adds : Adds core.program core.sizes front v.seen w.seen []) where
  knows_now : FrontKnows core.program core.sizes (unit_of core.program core.sizes w.seen) path.records path.base
  knows_now = still_knows adds k

  -- no tenant is kept
  seen_none : youngest_record path.records ≡ None → HasSeen core path v w
  seen_none e = record {
    same = same;
    adds = adds;
    knows = knows_now;
    nobody = none_kept core.program core.sizes w.seen adds.legal path.records path.base (IsFolded (unit_of core.program core.sizes w.seen) (rested_at path.base)) knows_now
        (⊎_elim (λ n. n) (λ (l : Last knows_now.notes).
        let no : None ≡ Some l.one.what = sym e ∙ last_record core.program core.sizes (unit_of core.program core.sizes w.seen) path.records path.base
        (IsFolded (unit_of core.program core.sizes w.seen) (rested_at path.base)) knows_now l in absurd (cc no)) (last_cases knows_now.notes));
  }

  -- the youngest one's station is free
  seen_free : (youngest : Record) → youngest_record path.records ≡ Some youngest →
      (seen : Seen StationState) → SeesStation core.program core.sizes w.seen youngest.station seen →
      seen.state ≡ Free → HasSeen core path v w
  seen_free youngest e seen sees free = record { same = same; adds = adds; nobody = ⊎_elim none some (last_cases knows_now.notes); knows = knows_now }
    where
      none : knows_now.notes ≡ [] → HasNobody (unit_of core.program core.sizes w.seen)
      none n = none_kept core.program core.sizes w.seen adds.legal path.records path.base (IsFolded (unit_of core.program core.sizes w.seen) (rested_at path.base)) knows_now n

      some : Last knows_now.notes → HasNobody (unit_of core.program core.sizes w.seen)
      some l =
          let there : Some youngest ≡ Some l.one.what = sym e ∙ last_record core.program core.sizes (unit_of core.program core.sizes w.seen) path.records path.base
          (IsFolded (unit_of core.program core.sizes w.seen) (rested_at path.base)) knows_now l in
          let one : youngest ≡ l.one.what = cc there in
          let U = unit_of core.program core.sizes w.seen in
          let noted : IsNoted core.program U.tenants l.one = (all_rest (IsNoted core.program U.tenants) l.front (l.one ∷ [])
          (subst (AllByRecursion (IsNoted core.program U.tenants)) l.is (notes_noted core.program core.sizes w.seen adds.legal path.records path.base (IsFolded U (rested_at path.base))
          knows_now))).0 in
          let newest : IsNewest U l.one = (all_rest (IsNewest U) l.front (l.one ∷ []) (subst (AllByRecursion (IsNewest U)) l.is knows_now.newest)).0 in
          let untold = (all_rest (λ n. rested_at path.base ≤ n.at) l.front (l.one ∷ []) (subst (AllByRecursion (λ n. rested_at path.base ≤ n.at)) l.is knows_now.untold)).0 in
          let new = kept_new core.program core.sizes U path.records path.base (IsFolded U (rested_at path.base)) knows_now l.one.at untold in
          let left = note_left core.program core.sizes w.seen adds.legal l.one noted new newest seen (subst (λ (z : Record). SeesStation core.program core.sizes w.seen z.station seen) one sees) free
          in
          youngest_left core.program core.sizes w.seen adds.legal path.records path.base (IsFolded U (rested_at path.base)) knows_now l noted left.retired

-- A rest has seen that nobody is live: it keeps no tenant, or found the youngest one's station free
module _ {core : TheCore} {v : Caller} {path : Path} {last : Option Record} (by_is : v.by ≡ front)
    (k : FrontKnows core.program core.sizes (unit_of core.program core.sizes v.seen) path.records path.base) (last_is : last ≡ youngest_record path.records) where
  pub rests_empty : {seat : Caller} → IsLegal core.program core.sizes v.seen → last ≡ None → seat ≡ v → HasSeen core path v seat
  rests_empty legal none here = subst (HasSeen core path v) (sym here) (seen_none core v v (record { core = refl; by = refl }) path k
      (record { begins = record { more = []; is = refl }; legal = legal; mine = refl; one_table = refl }) (sym last_is ∙ none))

  pub rests_free : {w seat : Caller} {youngest : Record} → IsSameSeat v w → Adds core.program core.sizes v.by v.seen w.seen [] → last ≡ Some youngest →
      (seen : Seen StationState) → SeesStation core.program core.sizes w.seen youngest.station seen → seen.state ≡ Free → seat ≡ w → HasSeen core path v seat
  rests_free {w} {seat} {youngest} same adds is seen sees free here = subst (HasSeen core path v) (sym here)
      (seen_free core v w same path k (subst (λ i. Adds core.program core.sizes i v.seen w.seen []) by_is adds) youngest (sym last_is ∙ is) seen sees free)

-- After the fold of all records, which adds nothing
module _ {core : TheCore} {path : Path} {v w : Caller} (s : HasSeen core path v w) (x : Caller) (more : Adds core.program core.sizes front w.seen x.seen []) where
  pub rested_adds : Adds core.program core.sizes front v.seen x.seen []
  rested_adds = adds_on core.program core.sizes front v.seen w.seen x.seen [] [] s.adds more

  pub rested_nobody : HasNobody (unit_of core.program core.sizes x.seen)
  rested_nobody = stays core.program core.sizes HasNobody (nobody_stable core.program core.sizes) w.seen x.seen more s.nobody

  pub rested_tells : {S : Type 0} (Learns : S → ℕ → ℕ → S → Type 0) {records : List Record} (a b : S) → records ≡ path.records → TellsRecords Learns records a b →
      TellsEach Learns core.program (all_untold (rested_at path.base) [] (unit_of core.program core.sizes x.seen).tenants) a b
  rested_tells Learns {records} a b are tells =
      all_told Learns core.program core.sizes (unit_of core.program core.sizes x.seen) (unit_sound core.program core.sizes x.seen more.legal) rested_nobody path.records path.base
      (still_knows more s.knows)
      a b (subst (λ z. TellsRecords Learns z a b) are tells)

  -- The length of what the seat has seen by then
  pub rested_told : {told : Caller} → told ≡ x → v.core ≡ core → x.core ≡ w.core → length (unit_of told.core.program told.core.sizes told.seen).tenants ≡
      length (unit_of core.program core.sizes x.seen).tenants
  rested_told is here same = ap (λ (z : Caller). length (unit_of z.core.program z.core.sizes z.seen).tenants) is
      ∙ ap (λ (z : TheCore). length (unit_of z.program z.sizes x.seen).tenants) (same ∙ (s.same.core ∙ here))

-- Where the tenants of the path stand, and where the next one goes.
use Rattle.std.proofs.Common.{◌≡◌, ◌≢◌, ℕ, false, suc, ◌+◌, ◌-◌, ◌%◌, ◌<◌, ◌≤◌, List, [], ◌∷◌, ◌++◌, length, Some, None, refl, sym, ap, ◌∙◌, subst, ⊎_elim, arith, append_assoc}
use Rattle.std.proofs.Common.{length-append}
use Rattle.std.proofs.Math.Nat.{add-mod_right, mod-add-mod}
use Rattle.std.specs.Prelude.{slice_get}
use Rattle.std.specs.List.{AllByRecursion}
use Rattle.instructions.specs.Programs.{Program}
use Rattle.inorder.specs.Tenants.{on_path}
use Rattle.inorder.specs.Unit.{Sizes, UpdateUnit, front_half, front_pc, how_many, is_old, next_station, recent}
use Rattle.inorder.proofs.Recent.{gone_below, new_by}
use Rattle.inorder.proofs.Stations.{Stands as StandsRight, apart}
use Rattle.inorder.proofs.Tags.{passed}
use Rattle.front.specs.declared.path.base_state.Base.{Base}
use Rattle.front.specs.declared.path.record.Record.{Record}
use Rattle.front.specs.Knows.{Stands, whats}
use Rattle.front.specs.Path.{next_half, half_behind_last, youngest_record, station_of_next, pc_after, pc_behind, place_after, rested_at}
use Rattle.front.specs.Trail.{Note, trail}
use Rattle.front.proofs.Lists.{Last, last_cases, whats_append, whats_length}
use Rattle.front.proofs.Parted.{cut_twice, parted}
use Rattle.front.proofs.Trails.{ArePlacedFrom, half_of_last, pc_of_last, placed_rest}

-- fewer than all places: none is the next
not_next : (ring g : ℕ) (ns : List Note) → ArePlacedFrom ring g ns → length ns < ring → AllByRecursion (λ n. n.what.station ≢ (g + length ns) % ring) ns
not_next ring g [] a h = tt
not_next ring g (n ∷ ns) a h =
    let rest = not_next ring (suc g) ns a.1 (omega arith) in
    let same : suc g + length ns ≡ g + suc (length ns) = omega arith in
    ((λ e. apart g (suc (length ns)) ring (omega arith) h (sym e ∙ a.0)), subst (λ z. AllByRecursion (λ n. n.what.station ≢ z % ring) ns) same rest)

-- all places: the oldest's is the next
oldest_next : (ring g : ℕ) (n : Note) (ns : List Note) → ArePlacedFrom ring g (n ∷ ns) → ring ≡ length (n ∷ ns) → n.what.station ≡ (g + length (n ∷ ns)) % ring
oldest_next ring g n ns a h = a.0 ∙ (sym (whole g ring) ∙ ap (λ z. (g + z) % ring) h)
  where
    whole : (g ring : ℕ) → (g + ring) % ring ≡ g % ring
    whole g ring = add-mod_right g ring

last_there : (xs : List Record) (x : Record) → youngest_record (xs ++ x ∷ []) ≡ Some x
last_there xs x =
    let long = length-append xs (x ∷ []) in
    let n : length (xs ++ x ∷ []) - 1 ≡ length xs = omega arith in
    ap (slice_get (xs ++ x ∷ [])) n ∙ at_end xs x
  where
    at_end : (xs : List Record) (x : Record) → slice_get (xs ++ x ∷ []) (length xs) ≡ Some x
    at_end [] x = refl
    at_end (y ∷ ys) x = at_end ys x

-- where the kept tenants stand: of the path let since the last renewal, this number are before them
pub record ArePlacedNow (C : Sizes) (U : UpdateUnit) (notes : List Note) : Type 0 where
  pub before : ℕ
  pub placed : ArePlacedFrom C.ring before notes
  pub count : how_many on_path (recent U) ≡ before + length notes

module _ (P : Program) (C : Sizes) (U : UpdateUnit) (records : List Record) (base : Base) (Again : Note → Type 0) (k : Stands P C U records base Again) where
  -- after the first ones all are recent
  pub kept_new : (p : ℕ) → rested_at base ≤ p → is_old U p ≡ false
  kept_new p le = new_by U p (omega (arith, k.since, le))

  pub notes_length : length records ≡ length k.notes
  notes_length = ap (λ z. length z) k.are ∙ whats_length k.notes

  pub notes_placed : StandsRight C (recent U) → ArePlacedNow C U k.notes
  notes_placed st =
      let parts = parted P C U.fresh U.tenants st.placed in
      let few = gone_below U.fresh U.tenants (rested_at base) k.since in
      let apart = cut_twice (λ n. n.at < length (passed U.fresh U.tenants)) (λ n. rested_at base ≤ n.at) (λ n old new. absurd (omega (arith, few, old, new))) k.gone k.notes parts.olds parts.news
      (sym k.path ∙ parts.path) parts.before k.untold in
      let none : 0 + length apart.middle ≡ length apart.middle = omega arith in
      let all = ap (λ z. length z) apart.rest in
      let long = length-append apart.middle k.notes in
      record {
        before = length apart.middle;
        placed = subst (λ z. ArePlacedFrom C.ring z k.notes) none (placed_rest C.ring 0 apart.middle k.notes (subst (ArePlacedFrom C.ring 0) apart.rest parts.placed));
        count = omega (arith, parts.count, all, long);
      }

  last_of_whole : (l : Last k.notes) → trail P U.tenants ≡ (k.gone ++ l.front) ++ l.one ∷ []
  last_of_whole l = k.path ∙ (ap (λ z. k.gone ++ z) l.is ∙ sym (append_assoc k.gone l.front (l.one ∷ [])))

  pub last_record : (l : Last k.notes) → youngest_record records ≡ Some l.one.what
  last_record l = ap youngest_record (k.are ∙ (ap whats l.is ∙ whats_append l.front (l.one ∷ []))) ∙ last_there (whats l.front) l.one.what

  no_record : k.notes ≡ [] → youngest_record records ≡ None
  no_record e = ap youngest_record (k.are ∙ ap whats e)

  -- the front pc
  pub known_pc : front_pc U.tenants ≡ pc_behind base records
  known_pc = ⊎_elim
      (λ e. (k.begun e).pc ∙ sym (ap (pc_after base.pc) (no_record e)))
      (λ (l : Last k.notes). pc_of_last P U.tenants (k.gone ++ l.front) l.one (last_of_whole l) ∙ sym (ap (pc_after base.pc) (last_record l)))
      (last_cases k.notes)

  -- the half that comes next
  pub known_half : front_half P U.tenants ≡ next_half base records
  known_half = ⊎_elim
      (λ e. (k.begun e).half ∙ sym (ap (half_behind_last base.half) (no_record e)))
      (λ (l : Last k.notes). half_of_last P U.tenants (k.gone ++ l.front) l.one (last_of_whole l) ∙ sym (ap (half_behind_last base.half) (last_record l)))
      (last_cases k.notes)

  -- the next tenant's station
  pub known_place : StandsRight C (recent U) → next_station C (recent U) ≡ station_of_next C.ring base records
  known_place st = ⊎_elim
      (λ e. (k.begun e).station ∙ sym (ap (place_after C.ring base.station) (no_record e)))
      (λ (l : Last k.notes).
      let now = notes_placed st in
      let long = length-append l.front (l.one ∷ []) in
      let all : length k.notes ≡ length (l.front ++ l.one ∷ []) = ap (λ z. length z) l.is in
      let count : how_many on_path (recent U) ≡ now.before + length l.front + 1 = omega (arith, now.count, all, long) in
      let its : l.one.what.station ≡ (now.before + length l.front) % C.ring = (placed_rest C.ring now.before l.front (l.one ∷ []) (subst (ArePlacedFrom C.ring now.before) l.is now.placed)).0 in
      ap (λ z. z % C.ring) count
      ∙ (sym (mod-add-mod (now.before + length l.front) C.ring 1) ∙ (ap (λ z. (z + 1) % C.ring) (sym its) ∙ sym (ap (place_after C.ring base.station) (last_record l)))))
      (last_cases k.notes)

  -- with fewer tenants than stations, none of theirs is the next
  pub others_next : StandsRight C (recent U) → length records < C.ring → AllByRecursion (λ n. n.what.station ≢ next_station C (recent U)) k.notes
  others_next st h =
      let now = notes_placed st in
      subst (λ z. AllByRecursion (λ n. n.what.station ≢ z % C.ring) k.notes) (sym now.count)
      (not_next C.ring now.before k.notes now.placed (subst (λ z. z < C.ring) notes_length h))

  -- with as many, the oldest's is the next
  pub oldest_place : StandsRight C (recent U) → (n : Note) (ns : List Note) → k.notes ≡ n ∷ ns → C.ring ≡ length (n ∷ ns) → n.what.station ≡ next_station C (recent U)
  oldest_place st n ns e whole =
      let now = notes_placed st in
      oldest_next C.ring now.before n ns (subst (ArePlacedFrom C.ring now.before) e now.placed) whole
      ∙ ap (λ z. z % C.ring) (sym (now.count ∙ ap (λ z. now.before + length z) e))

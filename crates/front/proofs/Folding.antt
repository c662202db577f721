-- The records go to the base registers, the oldest first.
use Rattle.std.proofs.Common.{◌≡◌, ℕ, suc, ◌+◌, ◌%◌, ◌<◌, ◌≤◌, List, [], ◌∷◌, ◌++◌, length, Option, Some, None, refl, sym, ap, ◌∙◌, subst, inr, arith, append_assoc, mod-eq_of_lt, mod-lt}
use Rattle.std.specs.List.{AllByRecursion}
use Rattle.std.specs.Prelude.{IfNone, IfSome, slice_get, slice_index}
use Rattle.std.proofs.lemmas.List.{append-nil}
use Rattle.instructions.specs.Guesses.{IsTold}
use Rattle.instructions.specs.Programs.{Program}
use Rattle.inorder.specs.declared.history.Entry.{Entry}
use Rattle.inorder.specs.History.{IsLegal, front, unit_of}
use Rattle.inorder.specs.OneHistory.{Adds}
use Rattle.inorder.specs.Tenants.{IsNotLive}
use Rattle.inorder.specs.Unit.{Sizes, UpdateUnit}
use Rattle.inorder.proofs.Basics.{length_write}
use Rattle.inorder.proofs.Positions.{all_at, at_below}
use Rattle.ruu_words.specs.declared.station.StationState.{StationState}
use Rattle.station.specs.declared.answers.Seen.{Seen}
use Rattle.station.specs.Looking.{SeesStation}
use Rattle.station.specs.Seats.{TheCore}
use Rattle.front.specs.declared.path.base_state.Base.{Base}
use Rattle.front.specs.declared.path.Path.{Path}
use Rattle.front.specs.declared.path.record.Record.{Record}
use Rattle.front.specs.Fetching.{IsLeft}
use Rattle.front.specs.Folding.{IsFolding}
use Rattle.front.specs.Knows.{GoesOnAt, IsFolded, IsGone, IsNewest, FrontKnows, Stands, whats}
use Rattle.front.specs.Path.{GoesOnWith, Released, youngest_record, made_of, station_of_next, place_after, rested_at, with_left}
use Rattle.front.specs.Rests.{TellsFirst, TellsRecords}
use Rattle.front.specs.Training.{leaver_if}
use Rattle.front.specs.Trail.{Note}
use Rattle.station.specs.Renewals.{HasNobody}
use Rattle.front.proofs.Lefts.{tells_more}
use Rattle.front.proofs.Lists.{all_both, all_front, all_map}
use Rattle.front.proofs.Looked.{first_note}
use Rattle.front.proofs.Named.{notes_noted, stands_right}
use Rattle.front.proofs.Places.{kept_new, known_half, known_pc, known_place}
use Rattle.front.proofs.Releasing.{base_more, note_gone}
use Rattle.front.proofs.Resting.{left_path, nobody_stable, retired_left}
use Rattle.front.proofs.Splitting.{IsStable, stays}
use Rattle.front.proofs.Stays.{goes_stays, quiet_of, stands_stay}
use Rattle.front.proofs.Trails.{IsNoted, trail_noted}
use Rattle.front.proofs.Cuts.{tail_of}

-- any tenant
abbrev pub IsAnyone : Note → Type 0
IsAnyone n = Unit {0}

module _ (P : Program) (C : Sizes) (records : List Record) (base : Base) where
  pub anyone_stable : IsStable P C (λ U. Stands P C U records base IsAnyone)
  anyone_stable U by s b a ok k = stands_stay P C U by s (quiet_of s b) a ok records base IsAnyone IsAnyone (λ n x. x) k

  pub goes_stable : IsStable P C (λ U. GoesOnAt P C U base)
  goes_stable U by s b a ok g = goes_stays P C U by s (quiet_of s b) a ok base g

-- which one was taken out
pub taken_out : (left : ℕ) (old new : Path) (x : Record) (result : Option Record) →
    IfSome result (λ r. Released left old r new) → IfNone result (old.records ≡ []) →
    slice_get old.records 0 ≡ Some x → Released left old x new
taken_out left old new x None some none e = let no : None ≡ Some x = ap (λ z. slice_get z 0) (sym none) ∙ e in absurd (cc no)
taken_out left old new x (Some r) some none e =
    let same : Some r ≡ Some x = ap (λ z. slice_get z 0) (sym some.records) ∙ e in
    let one : r ≡ x = cc same in
    subst (λ z. Released left old z new) one some

module _ (core : TheCore) (old new : List Entry) (path path' : Path) (adds : Adds core.program core.sizes front old new []) (f : IsFolding core old path)
    (nobody : HasNobody (unit_of core.program core.sizes old)) where
  abbrev P : Program
  P = core.program

  abbrev C : Sizes
  C = core.sizes

  abbrev U : UpdateUnit
  U = unit_of P C new

  pub nobody_now : HasNobody U
  nobody_now = stays P C HasNobody (nobody_stable P C) old new adds nobody

  k : Stands P C U path.records path.base IsAnyone
  k = stays P C (λ V. Stands P C V path.records path.base IsAnyone) (anyone_stable P C path.records path.base) old new adds f.stands

  goes : GoesOnAt P C U path.base
  goes = stays P C (λ V. GoesOnAt P C V path.base) (goes_stable P C path.records path.base) old new adds f.goes

  -- one more
  pub fold_more : (x : Record) (seen : Seen StationState) → SeesStation P C new x.station seen → Released seen.value path x path' → IsFolding core new path'
  fold_more x seen sees r =
      let one = first_note k.notes x path'.records (sym k.are ∙ r.records) in
      let n = one.one in
      let ns = one.rest in
      let noted : IsNoted P U.tenants n = (subst (AllByRecursion (IsNoted P U.tenants)) one.is (notes_noted P C new adds.legal path.records path.base IsAnyone k)).0 in
      let newest = subst (AllByRecursion (IsNewest U)) one.is k.newest in
      let untold = subst (AllByRecursion (λ z. rested_at path.base ≤ z.at)) one.is k.untold in
      let retired = left_path noted.tenant noted.on (all_at IsNotLive U.tenants nobody_now n.at noted.tenant noted.is) in
      let sees_it : SeesStation P C new n.what.station seen = subst (λ (z : Record). SeesStation P C new z.station seen) (sym one.what) sees in
      let recent_one = kept_new P C U path.records path.base IsAnyone k n.at untold.0 in
      let left = retired_left P C new adds.legal n noted recent_one newest.0 seen sees_it retired in
      let gone : IsLeft U n.what seen.value = record {
        p = n.at;
        tenant = record { tenant = noted.tenant; is = noted.is; new = recent_one; station_is = ap (λ (z : Record). z.station) noted.what; tag_is = ap (λ (z : Record). z.tag) noted.what; fact = left };
      } in
      let rest : path'.records ≡ whats ns = tail_of x n.what path'.records (whats ns) (sym r.records ∙ (k.are ∙ ap whats one.is)) in
      let count : length k.notes ≡ suc (length ns) = ap (λ z. length z) one.is in
      let base_is : path'.base ≡ with_left path.base n.what seen.value = r.base ∙ ap (λ z. with_left path.base z seen.value) (sym one.what) in
      let stands : Stands P C U path'.records (with_left path.base n.what seen.value) IsAnyone = record {
        gone = k.gone ++ n ∷ [];
        notes = ns;
        path = k.path ∙ (ap (λ z. k.gone ++ z) one.is ∙ sym (append_assoc k.gone (n ∷ []) ns));
        are = rest;
        room = omega (arith, k.room, count);
        begun = λ none. record { pc = goes.pc; half = goes.half; station = goes.station };
        retired = all_both (IsGone U) k.gone (n ∷ []) k.retired (note_gone P C new adds.legal path.records path.base IsAnyone k n ns one.is seen.value gone, tt);
        again = all_both IsAnyone k.gone (n ∷ []) k.again (tt, tt);
        newest = newest.1;
        past = k.past;
        since = k.since;
        untold = untold.1;
        wide = length_write path.base.registers n.what.destination (made_of n.what seen.value) ∙ k.wide;
        base_is = base_more P C new adds.legal path.records path.base IsAnyone k n ns one.is seen.value gone;
      } in
      record {
        stands = subst (λ z. Stands P C U path'.records z IsAnyone) (sym base_is) stands;
        goes = subst (GoesOnAt P C U) (sym base_is) (record { pc = goes.pc; half = goes.half; station = goes.station });
      }

-- the predictor is told of one more
pub told_more : {S : Type 0} (Learns : S → ℕ → ℕ → S → Type 0) (all left rest : List Record) (x : Record) (a b c : S) →
    TellsFirst Learns all left a b → left ≡ x ∷ rest → IsTold Learns (leaver_if x.guessed x.pc x.next) b c →
    TellsFirst Learns all rest a c
told_more Learns all left rest x a b c t e u = record {
  done = t.done ++ x ∷ [];
  are = t.are ∙ (ap (λ z. t.done ++ z) e ∙ sym (append_assoc t.done (x ∷ []) rest));
  tells = tells_more Learns t.done x a b c t.tells u;
}

-- of all
pub told_all : {S : Type 0} (Learns : S → ℕ → ℕ → S → Type 0) (all left : List Record) (a b : S) → TellsFirst Learns all left a b → left ≡ [] → TellsRecords Learns all a b
told_all Learns all left a b t e = subst (λ z. TellsRecords Learns z a b) (sym (t.are ∙ (ap (λ z. t.done ++ z) e ∙ append-nil t.done))) t.tells

-- no record is left where the first is not there
pub none_left : (xs : List Record) → slice_get xs 0 ≡ None → xs ≡ []
none_left [] e = refl
none_left (x ∷ xs) e = absurd (cc e)

module _ (core : TheCore) (h : List Entry) (legal : IsLegal core.program core.sizes h) (path : Path) (k : FrontKnows core.program core.sizes (unit_of core.program core.sizes h) path.records path.base)
  where
    -- the front is kept apart from the tenants
    pub folding_begins : (ring : ℕ) → ring ≡ core.sizes.ring → 0 < core.sizes.ring → (path' : Path) → path'.records ≡ path.records → GoesOnWith ring path path'.base → IsFolding core h path'
    folding_begins ring ring_is pos path' records_are base_is =
        let goes : GoesOnAt core.program core.sizes (unit_of core.program core.sizes h) path'.base = record {
          pc = known_pc core.program core.sizes (unit_of core.program core.sizes h) path.records path.base (IsFolded (unit_of core.program core.sizes h) (rested_at path.base)) k ∙
              sym (ap (λ (z : Base). z.pc) base_is);
          half = known_half core.program core.sizes (unit_of core.program core.sizes h) path.records path.base (IsFolded (unit_of core.program core.sizes h) (rested_at path.base)) k ∙
              sym (ap (λ (z : Base). z.half) base_is);
          station = known_place core.program core.sizes (unit_of core.program core.sizes h) path.records path.base (IsFolded (unit_of core.program core.sizes h) (rested_at path.base)) k
              (stands_right core.program core.sizes h legal) ∙ place_small (youngest_record path.records) ∙
              ap (λ z. z % core.sizes.ring) (ap (λ z. station_of_next z path.base path.records) (sym ring_is) ∙ sym (ap (λ (z : Base). z.station) base_is));
        } in
        record {
          stands = record {
            gone = k.gone;
            notes = k.notes;
            path = k.path;
            are = records_are ∙ k.are;
            room = k.room;
            begun = λ none. goes;
            retired = k.retired;
            again = all_map (IsFolded (unit_of core.program core.sizes h) (rested_at path.base)) IsAnyone (λ n x. tt) k.gone k.again;
            newest = k.newest;
            past = subst (λ z. rested_at z ≤ length (unit_of core.program core.sizes h).tenants) (sym base_is) k.past;
            since = subst (λ z. length (unit_of core.program core.sizes h).tenants ≤ rested_at z + (unit_of core.program core.sizes h).fresh) (sym base_is) k.since;
            untold = subst (λ z. AllByRecursion (λ n. rested_at z ≤ n.at) k.notes) (sym base_is) k.untold;
            wide = ap (λ (z : Base). length z.registers) base_is ∙ k.wide;
            base_is = λ r less. k.base_is r less ∙ ap (λ (z : Base). Some (slice_index z.registers r)) (sym base_is);
          };
          goes = goes;
        }
      where
        place_small : (o : Option Record) → place_after core.sizes.ring path.base.station o ≡ place_after core.sizes.ring path.base.station o % core.sizes.ring
        place_small None = sym (mod-eq_of_lt (mod-lt path.base.station pos))
        place_small (Some x) = sym (mod-eq_of_lt (mod-lt (x.station + 1) pos))

-- The records are gone: the front has rested
module _ (core : TheCore) (h : List Entry) (path path' : Path) (f : IsFolding core h path) (none : path.records ≡ []) (records_are : path'.records ≡ path.records) where
  pub knows_rested : rested_at path'.base ≡ length (unit_of core.program core.sizes h).tenants →
      path'.base.registers ≡ path.base.registers → path'.base.pc ≡ path.base.pc →
      path'.base.half ≡ path.base.half → path'.base.station ≡ path.base.station
      → FrontKnows core.program core.sizes (unit_of core.program core.sizes h) path'.records path'.base
  knows_rested told registers pc half station =
      let s = f.stands in
      let empty : s.notes ≡ [] = no_notes s.notes (sym s.are ∙ none) in
      record {
        gone = s.gone;
        notes = [];
        path = s.path ∙ ap (λ z. s.gone ++ z) empty;
        are = records_are ∙ none;
        room = omega arith;
        begun = λ e. record { pc = f.goes.pc ∙ sym pc; half = f.goes.half ∙ sym half; station = f.goes.station ∙ ap (λ z. z % core.sizes.ring) (sym station) };
        retired = s.retired;
        again = all_map (IsNoted core.program (unit_of core.program core.sizes h).tenants) (IsFolded (unit_of core.program core.sizes h) (rested_at path'.base))
            (λ n i. inr (subst (λ z. n.at < z) (sym told) (at_below (unit_of core.program core.sizes h).tenants n.at i.tenant i.is))) s.gone gone_noted;
        newest = tt;
        past = omega (arith, told);
        since = omega (arith, told);
        untold = tt;
        wide = ap (λ z. length z) registers ∙ s.wide;
        base_is = λ r less. s.base_is r less ∙ ap (λ z. Some (slice_index z r)) (sym registers);
      }
    where
      no_notes : (ns : List Note) → whats ns ≡ [] → ns ≡ []
      no_notes [] e = refl
      no_notes (n ∷ ns) e = absurd (cc e)

      gone_noted : AllByRecursion (IsNoted core.program (unit_of core.program core.sizes h).tenants) f.stands.gone
      gone_noted = all_front (IsNoted core.program (unit_of core.program core.sizes h).tenants) f.stands.gone f.stands.notes
          (subst (AllByRecursion (IsNoted core.program (unit_of core.program core.sizes h).tenants)) f.stands.path (trail_noted core.program (unit_of core.program core.sizes h).tenants))

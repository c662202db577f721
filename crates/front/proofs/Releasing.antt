-- The oldest goes to the base registers.
use Rattle.std.proofs.Common.{◌≡◌, ◌≢◌, ℕ, zero, suc, ◌<◌, ◌≤◌, Bool, true, false, cond, eqb, eqb-true, List, [], ◌∷◌, ◌++◌, length, Option, Some, None, refl, sym, ap, ◌∙◌, subst, inl, inr, arith}
use Rattle.std.proofs.Common.{append_assoc, true≢false}
use Rattle.std.proofs.lemmas.Bool.{le-leb}
use Rattle.std.specs.List.{AllByRecursion}
use Rattle.std.specs.Prelude.{slice_index}
use Rattle.std.proofs.lemmas.Option.{same_Some}
use Rattle.instructions.specs.Instruction.{pc_plus_4}
use Rattle.instructions.specs.Programs.{Program}
use Rattle.instructions.specs.declared.op.Kind.TheVariants.{Links}
use Rattle.instructions.specs.declared.stop.Stop.{Stop}
use Rattle.inorder.specs.declared.history.Entry.{Entry}
use Rattle.inorder.specs.History.{IsLegal, taken_of, unit_of}
use Rattle.inorder.specs.Machine.{write}
use Rattle.inorder.specs.Tenants.{IsThere, Stopped, Tenant, destination_of, kind_of, stands_on_path}
use Rattle.inorder.specs.Unit.{Sizes, UpdateUnit, at, can_be_written, next_station, recent, value_made, value_of}
use Rattle.inorder.proofs.Basics.{length_write, read_other, read_same, read_zero}
use Rattle.inorder.proofs.Histories.{allowed_steps, unit_sound}
use Rattle.inorder.proofs.Positions.{not_eqb}
use Rattle.inorder.proofs.Makers.{left_when_retired, stops_made}
use Rattle.ruu_words.specs.Content.{HasValue}
use Rattle.ruu_words.proofs.StationWords.{one_tag}
use Rattle.front.specs.declared.path.base_state.Base.{Base}
use Rattle.front.specs.declared.path.Path.{Path}
use Rattle.front.specs.declared.path.record.Record.{Record}
use Rattle.front.specs.Creators.{creator_note, newest_note, position}
use Rattle.front.specs.Fetching.{HasLeft, IsLeft, OldestLeft}
use Rattle.front.specs.Knows.{IsFolded, IsGone, IsNewest, IsPassed, RecordsAreReady, FrontKnows, Stands, whats}
use Rattle.front.specs.Path.{Releases, made_of, rested_at, with_left}
use Rattle.front.specs.Trail.{Note, is_link, record_of}
use Rattle.front.proofs.CreateVector.{newest_both}
use Rattle.front.proofs.Lists.{all_both, all_map, whats_length}
use Rattle.front.proofs.Named.{notes_noted, stands_right}
use Rattle.front.proofs.Places.{kept_new, notes_length, oldest_place}
use Rattle.front.proofs.Supplies.{link_made}
use Rattle.front.proofs.Trails.{IsNoted}
use Rattle.front.proofs.Cuts.{head_of, tail_of}

-- whoever leaves, nobody more is told
pub released_told : (ring left : ℕ) (old : Path) (result : Option Record) (new : Path) → Releases ring left old result new → rested_at new.base ≡ rested_at old.base
released_told ring left old None new r = ap (λ (z : Path). rested_at z.base) r.1
released_told ring left old (Some x) new r = ap rested_at r.1.base

module _ (P : Program) (C : Sizes) (h : List Entry) (legal : IsLegal P C h) where
  abbrev U : UpdateUnit
  U = unit_of P C h

  -- what a writer that has retired made
  left_made : (p : ℕ) (t : Tenant) → at U.tenants p ≡ Some t → (left : ℕ) → HasLeft left t → destination_of P t ≢ 0 → t.made ≡ Some (made_of (record_of P t) left)
  left_made p t is left gone writes = go (is_link (kind_of P t)) refl
    where
      stops : (c : Stop) → t.fate ≡ Stopped c → IsThere t.made
      stops c e = stops_made P C (taken_of h) (allowed_steps P C h legal) p t c is gone.retired e

      go : (b : Bool) → is_link (kind_of P t) ≡ b → t.made ≡ Some (cond (is_link (kind_of P t)) (pc_plus_4 t.pc) left)
      go true e = link_made P U.tenants (unit_sound P C h legal) p t is e ∙ ap (λ b. Some (cond b (pc_plus_4 t.pc) left)) (sym e)
      go false e =
          let waits : kind_of P t ≢ Links = λ k. true≢false (sym (ap is_link k) ∙ e) in
          let v = left_when_retired P U.tenants (unit_sound P C h legal) p t is waits (record { path = ap stands_on_path gone.retired; writes = writes }) stops gone.retired in
          let shown : HasValue (Some v.0) left = subst (λ o. HasValue o left) v.1 gone.value in
          v.2 ∙ (ap Some (sym shown) ∙ ap (λ b. Some (cond b (pc_plus_4 t.pc) left)) (sym e))

  module _ (records : List Record) (base : Base) (Again : Note → Type 0) (k : Stands P C U records base Again) where
    -- one note more is gone
    module _ (n : Note) (ns : List Note) (e : k.notes ≡ n ∷ ns) (left : ℕ) (gone : IsLeft U n.what left) where
      noted : IsNoted P U.tenants n
      noted = (subst (AllByRecursion (IsNoted P U.tenants)) e (notes_noted P C h legal records base Again k)).0

      its_left : HasLeft left noted.tenant
      its_left =
          let i = gone.tenant in
          let new = kept_new P C U records base Again k n.at (subst (AllByRecursion (λ n. rested_at base ≤ n.at)) e k.untold).0 in
          let p : gone.p ≡ n.at = one_tag P C h legal gone.p n.at i.tenant noted.tenant i.is noted.is i.new new (i.station_is ∙ ap (λ (z : Record). z.station) (sym noted.what))
          (i.tag_is ∙ ap (λ (z : Record). z.tag) (sym noted.what)) in
          subst (HasLeft left) (same_Some i.tenant noted.tenant (sym i.is ∙ (ap (at U.tenants) p ∙ noted.is))) i.fact

      pub note_gone : IsGone U n
      note_gone = record { tenant = noted.tenant; is = noted.is; fact = its_left.retired }

      note_made : n.what.destination ≢ 0 → value_of U.tenants (Some n.at) ≡ Some (made_of n.what left)
      note_made writes =
          ap value_made noted.is ∙ (left_made n.at noted.tenant noted.is left its_left (λ z. writes (ap (λ (y : Record). y.destination) (sym noted.what) ∙ z)) ∙
          ap (λ (y : Record). Some (made_of y left)) noted.what)

      pub base_more : (r : ℕ) → r < 34 → value_of U.tenants (position (creator_note (k.gone ++ n ∷ []) r)) ≡ Some (slice_index (write base.registers n.what.destination (made_of n.what left)) r)
      base_more zero small = ap Some (sym (read_zero base.registers n.what.destination (made_of n.what left) (sym (same_Some 0 (slice_index base.registers 0) (k.base_is 0 small)))))
      base_more (suc r) small = go (can_be_written (suc r)) refl (eqb n.what.destination (suc r)) refl
        where
          noted_as : (b : Bool) → can_be_written (suc r) ≡ b → (xs : List Note) → creator_note xs (suc r) ≡ cond b (newest_note None xs (suc r)) None
          noted_as b f xs = ap (λ b. cond b (newest_note None xs (suc r)) None) f

          other : n.what.destination ≢ suc r → value_of U.tenants (position (creator_note k.gone (suc r))) ≡ Some (slice_index (write base.registers n.what.destination (made_of n.what left)) (suc r))
          other ne = k.base_is (suc r) small ∙ ap Some (sym (read_other base.registers n.what.destination r (made_of n.what left) ne))

          go : (b : Bool) → can_be_written (suc r) ≡ b → (y : Bool) → eqb n.what.destination (suc r) ≡ y →
              value_of U.tenants (position (creator_note (k.gone ++ n ∷ []) (suc r))) ≡ Some (slice_index (write base.registers n.what.destination (made_of n.what left)) (suc r))
          go false f y g = absurd (true≢false (sym (le-leb (suc (suc r)) 34 (omega arith)) ∙ f))
          go true f true g =
              let same : n.what.destination ≡ suc r = eqb-true n.what.destination (suc r) g in
              let writes : n.what.destination ≢ 0 = λ z. absurd (omega (arith, same, z)) in
              ap (λ z. value_of U.tenants (position z)) (noted_as true f (k.gone ++ n ∷ []) ∙ (newest_both None k.gone (n ∷ []) (suc r) ∙
              ap (λ b. cond b (Some n) (newest_note None k.gone (suc r))) g))
              ∙ (note_made writes
              ∙ ap Some (sym (read_same base.registers r (made_of n.what left) (omega (arith, k.wide, small))) ∙
              ap (λ z. slice_index (write base.registers z (made_of n.what left)) (suc r)) (sym same)))
          go true f false g =
              let ne : n.what.destination ≢ suc r = not_eqb n.what.destination (suc r) g in
              ap (λ z. value_of U.tenants (position z)) (noted_as true f (k.gone ++ n ∷ []) ∙ (newest_both None k.gone (n ∷ []) (suc r) ∙
              (ap (λ b. cond b (Some n) (newest_note None k.gone (suc r))) g ∙ sym (noted_as true f k.gone))))
              ∙ other ne

    pub next_is : (n : Note) (ns : List Note) → k.notes ≡ n ∷ ns → C.ring ≤ length records → n.what.station ≡ next_station C (recent U)
    next_is n ns e full =
        let long = notes_length P C U records base Again k in
        let whole : C.ring ≡ length (n ∷ ns) = omega (arith, full, long, k.room, ap (λ z. length z) e) in
        oldest_place P C U records base Again k (stands_right P C h legal) n ns e whole

  module _ (records : List Record) (base : Base) (k : FrontKnows P C U records base) where
    -- ready for the next one
    pub ready_now : 2 ≤ C.ring → (left : ℕ) → OldestLeft C U records left → (old : Path) →
        old.records ≡ records → old.base ≡ base → (result : Option Record) (new : Path) →
        Releases C.ring left old result new → RecordsAreReady P C U new.records new.base
    ready_now least left oldest old is_records is_base None new r =
        let same : RecordsAreReady P C U old.records old.base = subst (λ (z : List Record × Base). RecordsAreReady P C U z.0 z.1) (λ i. (sym is_records i, sym is_base i)) (record {
          stands = record {
            gone = k.gone;
            notes = k.notes;
            path = k.path;
            are = k.are;
            room = k.room;
            begun = k.begun;
            retired = k.retired;
            again = all_map (IsFolded U (rested_at base)) (IsPassed C U (rested_at base)) (λ n x. inl x) k.gone k.again;
            newest = k.newest;
            past = k.past;
            since = k.since;
            untold = k.untold;
            wide = k.wide;
            base_is = k.base_is;
          };
          free = subst (λ z. length z < C.ring) is_records r.0;
        }) in
        subst (λ (z : Path). RecordsAreReady P C U z.records z.base) (sym r.1) same
    ready_now least left oldest old is_records is_base (Some x) new r = go k.notes refl
      where
        are : records ≡ x ∷ new.records
        are = sym is_records ∙ r.1.records

        full : C.ring ≤ length records
        full = subst (λ z. C.ring ≤ length z) is_records r.0

        go : (xs : List Note) → k.notes ≡ xs → RecordsAreReady P C U new.records new.base
        go [] e = let n = ap (λ z. length z) (sym are ∙ (k.are ∙ ap whats e)) in absurd (omega arith)
        go (n ∷ ns) e =
            let both : n.what ∷ whats ns ≡ x ∷ new.records = sym (ap whats e) ∙ (sym k.are ∙ are) in
            let one : n.what ≡ x = head_of n.what x (whats ns) new.records both in
            let rest : new.records ≡ whats ns = sym (tail_of n.what x (whats ns) new.records both) in
            let gone : IsLeft U n.what left = subst (λ z. IsLeft U z left) (sym one) (oldest x new.records are full) in
            let base_is : new.base ≡ with_left base n.what left = r.1.base ∙ (λ i. with_left (is_base i) (sym one i) left) in
            let long = notes_length P C U records base (IsFolded U (rested_at base)) k in
            let count : length k.notes ≡ suc (length ns) = ap (λ z. length z) e in
            let few : length new.records ≡ length ns = ap (λ z. length z) rest ∙ whats_length ns in
            let stands : Stands P C U new.records (with_left base n.what left) (IsPassed C U (rested_at base)) = record {
              gone = k.gone ++ n ∷ [];
              notes = ns;
              path = k.path ∙ (ap (λ z. k.gone ++ z) e ∙ sym (append_assoc k.gone (n ∷ []) ns));
              are = rest;
              room = omega (arith, k.room, count);
              begun = λ none. let zero_long : length ns ≡ 0 = ap (λ z. length z) none in absurd (omega (arith, least, full, long, count, zero_long));
              retired = all_both (IsGone U) k.gone (n ∷ []) k.retired (note_gone records base (IsFolded U (rested_at base)) k n ns e left gone, tt);
              again = all_both (IsPassed C U (rested_at base)) k.gone (n ∷ []) (all_map (IsFolded U (rested_at base)) (IsPassed C U (rested_at base)) (λ n x. inl x) k.gone k.again)
                  (inr (next_is records base (IsFolded U (rested_at base)) k n ns e full), tt);
              newest = (subst (AllByRecursion (IsNewest U)) e k.newest).1;
              past = k.past;
              since = k.since;
              untold = (subst (AllByRecursion (λ n. rested_at base ≤ n.at)) e k.untold).1;
              wide = length_write base.registers n.what.destination (made_of n.what left) ∙ k.wide;
              base_is = base_more records base (IsFolded U (rested_at base)) k n ns e left gone;
            } in
            record {
              stands = subst (λ z. Stands P C U new.records z (IsPassed C U (rested_at z))) (sym base_is) stands;
              free = omega (arith, few, count, k.room);
            }

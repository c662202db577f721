-- What the table says of a register is its creator.
use Rattle.std.proofs.Common.{◌≡◌, ℕ, ◌<◌, List, ◌++◌, Option, Some, None, refl, sym, ap, ◌∙◌, subst, cond, ⊎_elim, arith, ◌≤◌}
use Rattle.std.specs.List.{AllByRecursion}
use Rattle.std.specs.Prelude.{slice_get, slice_index}
use Rattle.std.proofs.lemmas.Option.{same_Some}
use Rattle.instructions.specs.Programs.{Program}
use Rattle.inorder.specs.Callers.{IsLastAt}
use Rattle.inorder.specs.Tenants.{Tenant}
use Rattle.inorder.specs.Unit.{Sizes, UpdateUnit, at, creator, value_of}
use Rattle.front.specs.Path.{rested_at}
use Rattle.front.proofs.TableEntries.{entry_there, entry_untold}
use Rattle.front.specs.declared.path.base_state.Base.{Base}
use Rattle.front.specs.declared.path.creators.Creator.{Creator}
use Rattle.front.specs.declared.path.counted.Maker.{Maker}
use Rattle.front.specs.declared.path.counted.Table.{Table}
use Rattle.front.specs.declared.path.record.Record.{Record}
use Rattle.front.specs.CreateTable.{EntryFinds, HasTable, table_entry, maker_of}
use Rattle.front.specs.Creating.{IsBase, IsMaker}
use Rattle.front.specs.Creators.{creator_note, newest_note, position}
use Rattle.front.specs.Knows.{IsFolded, IsNewest, IsReused, FrontKnows, whats}
use Rattle.front.specs.Trail.{Note}
use Rattle.front.proofs.CreateVector.{Creates, Kept, Older, creates, creator_is, newest_among, written}
use Rattle.front.proofs.Lists.{all_front, all_rest, all_two}
use Rattle.front.proofs.Places.{kept_new}
use Rattle.front.proofs.Supplied.{no_maker, written_by}
use Rattle.front.proofs.Trails.{IsNoted, trail_noted}

module _ (P : Program) (C : Sizes) (U : UpdateUnit) (records : List Record) (base : Base) (k : FrontKnows P C U records base) (T : Table) (table : HasTable P U (rested_at base) T) (r : ℕ)
    (small : r < 34) where
  abbrev IsOlder : Note → Type 0
  IsOlder n = IsFolded U (rested_at base) n × IsNoted P U.tenants n

  abbrev IsYoung : Note → Type 0
  IsYoung n = (IsNewest U n × (rested_at base ≤ n.at)) × IsNoted P U.tenants n

  noted : AllByRecursion (IsNoted P U.tenants) (k.gone ++ k.notes)
  noted = subst (AllByRecursion (IsNoted P U.tenants)) k.path (trail_noted P U.tenants)

  older : AllByRecursion IsOlder k.gone
  older = all_two (IsFolded U (rested_at base)) (IsNoted P U.tenants) IsOlder (λ n a b. (a, b)) k.gone k.again (all_front (IsNoted P U.tenants) k.gone k.notes noted)

  young : AllByRecursion IsYoung k.notes
  young = all_two (λ n. IsNewest U n × (rested_at base ≤ n.at)) (IsNoted P U.tenants) IsYoung (λ n a b. (a, b)) k.notes
      (all_two (IsNewest U) (λ n. rested_at base ≤ n.at) (λ n. IsNewest U n × (rested_at base ≤ n.at)) (λ n a b. (a, b)) k.notes k.newest k.untold)
      (all_rest (IsNoted P U.tenants) k.gone k.notes noted)

  abbrev whole : Option Note
  whole = creator_note (k.gone ++ k.notes) r

  creator_whole : creator P U.tenants r ≡ position whole
  creator_whole = creator_is P U.tenants r ∙ ap (λ z. position (creator_note z r)) k.path

  noted_by : (xs : List Note) → 0 < r → creator_note xs r ≡ newest_note None xs r
  noted_by xs pos = ap (λ b. cond b (newest_note None xs r) None) (written r (λ z. omega (arith, z, pos)) small)

  entry_is : 0 < r → slice_get T.entries r ≡ Some (table_entry (rested_at base) whole)
  entry_is pos =
      table.entries r pos small
      ∙ (ap (λ z. Some (table_entry (rested_at base) (newest_note None z r))) k.path
      ∙ ap (λ z. Some (table_entry (rested_at base) z)) (sym (noted_by (k.gone ++ k.notes) pos)))

  all_of : Creates IsYoung k.gone (whats k.notes) r whole
  all_of = creates IsYoung k.gone k.notes r young

  older_one : (n : Note) → creator_note k.gone r ≡ Some n → IsOlder n
  older_one n e =
      let there : newest_note None k.gone r ≡ Some n = sym (noted_by k.gone (written_by k.gone r n e)) ∙ e in
      ⊎_elim (λ (no : None ≡ Some n). absurd (cc no)) (λ q. q) (newest_among IsOlder None k.gone r n older there)

  -- one that was found
  pub made : (c : Creator) → EntryFinds T r (Some c) → IsMaker P U (rested_at base) r c.station c.tag
  made c f = go all_of
    where
      go : Creates IsYoung k.gone (whats k.notes) r whole → IsMaker P U (rested_at base) r c.station c.tag
      go (Kept n e y g) =
          let one = (entry_untold (rested_at base) n (record { station = c.station; tag = c.tag }) (sym f.entry ∙ (entry_is f.written ∙ ap (λ z. Some (table_entry (rested_at base) z)) e))).same in
          let station : n.what.station ≡ c.station = ap (λ (z : Maker). z.station) (sym one) in
          let tag : n.what.tag ≡ c.tag = ap (λ (z : Maker). z.tag) (sym one) in
          record {
            p = n.at;
            creates = creator_whole ∙ ap position e;
            untold = y.0.1;
            named = record {
              tenant = y.1.tenant;
              is = y.1.is;
              new = kept_new P C U records base (IsFolded U (rested_at base)) k n.at y.0.1;
              station_is = ap (λ (z : Record). z.station) y.1.what ∙
                  station;
              tag_is = ap (λ (z : Record). z.tag) y.1.what ∙ tag;
              fact = tt;
            };
            last = subst (IsLastAt U n.at) station y.0.0;
          }
      go (Older e g) = by (creator_note k.gone r) refl
        where
          entry : Some (Some (record { station = c.station; tag = c.tag })) ≡ Some (table_entry (rested_at base) (creator_note k.gone r))
          entry = sym f.entry ∙ (entry_is f.written ∙ ap (λ z. Some (table_entry (rested_at base) z)) e)

          by : (o : Option Note) → creator_note k.gone r ≡ o → IsMaker P U (rested_at base) r c.station c.tag
          by None x = absurd (no_maker (record { station = c.station; tag = c.tag }) (entry ∙ ap (λ z. Some (table_entry (rested_at base) z)) x))
          by (Some n) x =
              let named = entry_untold (rested_at base) n (record { station = c.station; tag = c.tag }) (entry ∙ ap (λ z. Some (table_entry (rested_at base) z)) x) in
              let one = named.same in
              let station : c.station ≡ n.what.station = ap (λ (z : Maker). z.station) one in
              let tag : c.tag ≡ n.what.tag = ap (λ (z : Maker). z.tag) one in
              let its = older_one n x in
              let place : its.1.tenant.station ≡ n.what.station = ap (λ (z : Record). z.station) its.1.what in
              ⊎_elim
              (λ (i : IsReused U n). absurd (table.stale n.at i.p its.1.tenant i.tenant.tenant named.untold i.behind its.1.is i.tenant.is (i.tenant.fact ∙ sym place) f.saved
              (ap (slice_get T.latest) (place ∙ sym station) ∙ f.is) (f.tag ∙ (tag ∙ ap (λ (z : Record). z.tag) (sym its.1.what)))))
              (λ (l : n.at < rested_at base). absurd (omega (arith, l, named.untold)))
              its.0

  -- nothing was found
  pub based : EntryFinds T r None → IsBase P U (rested_at base) r (slice_index base.registers r)
  based f = go all_of
    where
      go : Creates IsYoung k.gone (whats k.notes) r whole → IsBase P U (rested_at base) r (slice_index base.registers r)
      go (Kept n e y g) =
          let place : y.1.tenant.station ≡ n.what.station = ap (λ (z : Record). z.station) y.1.what in
          let l = table.latest n.at y.1.tenant y.0.1 y.1.is (subst (IsLastAt U n.at) (sym place) y.0.0) in
          absurd (f (maker_of n) l.saved (written_by (k.gone ++ k.notes) r n e) (entry_is (written_by (k.gone ++ k.notes) r n e) ∙
          (ap (λ z. Some (table_entry (rested_at base) z)) e ∙ ap Some (entry_there (rested_at base) n y.0.1))) (ap (slice_get T.latest) (sym place) ∙ l.is)
          (l.of.tag ∙ ap (λ (z : Record). z.tag) y.1.what))
      go (Older e g) = record {
        value = ap (value_of U.tenants) (creator_whole ∙ ap position e) ∙ k.base_is r small;
        again = λ p t creates is new last. by (creator_note k.gone r) refl p t (sym (creator_whole ∙ ap position e) ∙ creates) is new last;
      }
        where
          by : (o : Option Note) → creator_note k.gone r ≡ o → (p : ℕ) (t : Tenant) →
              position (creator_note k.gone r) ≡ Some p → at U.tenants p ≡ Some t → rested_at base ≤ p →
              IsLastAt U p t.station → ⊥
          by None x p t creates is new last = let no : None ≡ Some p = ap position (sym x) ∙ creates in cc no
          by (Some n) x p t creates is new last =
              let here : n.at ≡ p = same_Some n.at p (ap position (sym x) ∙ creates) in
              let its = older_one n x in
              let same : its.1.tenant ≡ t = same_Some its.1.tenant t (sym its.1.is ∙ (ap (at U.tenants) here ∙ is)) in
              let place : t.station ≡ n.what.station = ap (λ (z : Tenant). z.station) (sym same) ∙ ap (λ (z : Record). z.station) its.1.what in
              ⊎_elim
              (λ (i : IsReused U n). last i.p i.tenant.tenant (subst (λ z. z < i.p) here i.behind) i.tenant.is (i.tenant.fact ∙ sym place))
              (λ (l : n.at < rested_at base). absurd (omega (arith, l, new, here)))
              its.0

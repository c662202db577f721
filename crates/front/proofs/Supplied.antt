-- What the table gives a new tenant is what a search gives it.
use Rattle.std.proofs.Common.{◌≡◌, ◌≢◌, ℕ, zero, suc, ◌<◌, Bool, true, false, cond, List, ◌++◌, Option, Some, None, refl, sym, ap, ◌∙◌, subst, ⊎_elim, arith, eq-eqb, ne_eqb}
use Rattle.std.specs.List.{AllByRecursion}
use Rattle.std.specs.Prelude.{slice_get, slice_index}
use Rattle.std.proofs.lemmas.Option.{same_Some}
use Rattle.instructions.specs.Instruction.{pc_plus_4}
use Rattle.instructions.specs.Programs.{Program}
use Rattle.inorder.specs.declared.history.Entry.{Entry}
use Rattle.inorder.specs.Callers.{IsLastAt}
use Rattle.inorder.specs.History.{IsLegal, unit_of}
use Rattle.inorder.specs.Tenants.{Tenant}
use Rattle.inorder.specs.Unit.{Sizes, UpdateUnit, next_station, recent}
use Rattle.station.specs.declared.answers.Supply.{Supply}
use Rattle.station.specs.declared.answers.Supply.TheVariants.{From, Known}
use Rattle.front.specs.Path.{rested_at}
use Rattle.front.specs.declared.path.base_state.Base.{Base}
use Rattle.front.specs.declared.path.creators.Creator.{Creator}
use Rattle.front.specs.declared.path.counted.Maker.{Maker}
use Rattle.front.specs.declared.path.counted.Saved.{Saved}
use Rattle.front.specs.declared.path.counted.Table.{Table}
use Rattle.front.specs.declared.path.record.Record.{Record}
use Rattle.front.specs.CreateTable.{EntryFinds, HasTable, IsLatest, IsSupplied, table_entry, made_from_start, maker_of, supply_found, supply_made}
use Rattle.front.specs.Creators.{creator_note, newest_note, supply_by, supply_in}
use Rattle.front.specs.Knows.{IsFolded, IsPassed, RecordsAreReady, IsReused}
use Rattle.front.specs.Trail.{Note, record_of}
use Rattle.front.proofs.CreateVector.{Creates, Kept, Older, newest_among, written}
use Rattle.front.proofs.Lists.{all_front, all_two}
use Rattle.front.proofs.Supplies.{IsGiver, found}
use Rattle.front.proofs.TableEntries.{entry_there, entry_untold}
use Rattle.front.proofs.Trails.{IsNoted, trail_noted}

pub no_maker : (a : Maker) → Some (Some a) ≢ Some None
no_maker a e = cc e

pub written_by : (xs : List Note) (r : ℕ) (n : Note) → creator_note xs r ≡ Some n → 0 < r
written_by xs zero n e = absurd (cc e)
written_by xs (suc r) n e = omega arith

by_link : (base : ℕ) (x : Record) → supply_made x.station x.tag (made_from_start x) ≡ supply_by base (Some x)
by_link base x = go x.links
  where
    go : (b : Bool) → supply_made x.station x.tag (cond b (Some (pc_plus_4 x.pc)) None) ≡ cond b (Known (pc_plus_4 x.pc)) (From x.station x.tag)
    go true = refl
    go false = refl

module _ (P : Program) (C : Sizes) (h : List Entry) (legal : IsLegal P C h) (records : List Record) (base : Base) (k : RecordsAreReady P C (unit_of P C h) records base) (T : Table)
    (table : HasTable P (unit_of P C h) (rested_at base) T) where
  abbrev U : UpdateUnit
  U = unit_of P C h

  abbrev own : ℕ
  own = next_station C (recent U)

  abbrev IsAgain : Note → Type 0
  IsAgain n = IsPassed C U (rested_at base) n

  gone_all : AllByRecursion (λ n. IsAgain n × IsNoted P U.tenants n) k.stands.gone
  gone_all =
      let noted : AllByRecursion (IsNoted P U.tenants) (k.stands.gone ++ k.stands.notes) = subst (AllByRecursion (IsNoted P U.tenants)) k.stands.path (trail_noted P U.tenants) in
      all_two IsAgain (IsNoted P U.tenants) (λ n. IsAgain n × IsNoted P U.tenants n) (λ n a b. (a, b)) k.stands.gone k.stands.again (all_front (IsNoted P U.tenants) k.stands.gone k.stands.notes noted)

  module _ (r : ℕ) (small : r < 34) where
    abbrev whole : Option Note
    whole = creator_note (k.stands.gone ++ k.stands.notes) r

    noted_by : (xs : List Note) → 0 < r → creator_note xs r ≡ newest_note None xs r
    noted_by xs pos = ap (λ b. cond b (newest_note None xs r) None) (written r (λ z. omega (arith, z, pos)) small)

    entry_is : 0 < r → slice_get T.entries r ≡ Some (table_entry (rested_at base) whole)
    entry_is pos =
        table.entries r pos small
        ∙ (ap (λ z. Some (table_entry (rested_at base) (newest_note None z r))) k.stands.path
        ∙ ap (λ z. Some (table_entry (rested_at base) z)) (sym (noted_by (k.stands.gone ++ k.stands.notes) pos)))

    -- what is kept of one whose station was not let again
    record IsKept (n : Note) : Type 0 where
      pub saved : Saved
      pub is : slice_get T.latest n.what.station ≡ Some saved
      pub tag : saved.tag ≡ n.what.tag
      pub made : saved.made ≡ made_from_start n.what

    kept : (n : Note) → IsGiver P C U (rested_at base) n → IsKept n
    kept n g =
        let place : g.noted.tenant.station ≡ n.what.station = ap (λ (z : Record). z.station) g.noted.what in
        let l : IsLatest T.latest (record_of P g.noted.tenant) = table.latest n.at g.noted.tenant g.untold g.noted.is (subst (IsLastAt U n.at) (sym place) g.newest) in
        record {
          saved = l.saved;
          is = ap (slice_get T.latest) (sym place) ∙ l.is;
          tag = l.of.tag ∙ ap (λ (z : Record). z.tag) g.noted.what;
          made = l.of.made ∙ ap made_from_start g.noted.what;
        }

    go : (o : Option Creator) → EntryFinds T r o → Creates (IsGiver P C U (rested_at base)) k.stands.gone records r whole → supply_found own (slice_index base.registers r) o ≡ supply_in records base r
    go None f (Older e g) = ap (supply_by (slice_index base.registers r)) (sym g)
    go None f (Kept n e gv g) =
        let pos = written_by (k.stands.gone ++ k.stands.notes) r n e in
        let x = kept n gv in
        absurd (f (maker_of n) x.saved pos (entry_is pos ∙ (ap (λ z. Some (table_entry (rested_at base) z)) e ∙ ap Some (entry_there (rested_at base) n gv.untold))) x.is x.tag)
    go (Some c) f (Kept n e gv g) =
        let x = kept n gv in
        let one = (entry_untold (rested_at base) n (record { station = c.station; tag = c.tag }) (sym f.entry ∙ (entry_is f.written ∙ ap (λ z. Some (table_entry (rested_at base) z)) e))).same in
        let station : c.station ≡ n.what.station = ap (λ (z : Maker). z.station) one in
        let tag : c.tag ≡ n.what.tag = ap (λ (z : Maker). z.tag) one in
        let same : f.saved ≡ x.saved = same_Some f.saved x.saved (sym f.is ∙ (ap (slice_get T.latest) station ∙ x.is)) in
        let made : c.made ≡ made_from_start n.what = f.made ∙ (ap (λ (z : Saved). z.made) same ∙ x.made) in
        ap (λ b. cond b (Known (slice_index base.registers r)) (supply_made c.station c.tag c.made)) (ne_eqb c.station own (λ y. gv.other (sym station ∙ y)))
        ∙ ((λ i. supply_made (station i) (tag i) (made i))
        ∙ (by_link (slice_index base.registers r) n.what ∙ ap (supply_by (slice_index base.registers r)) (sym g)))
    go (Some c) f (Older e g) = older (creator_note k.stands.gone r) refl ∙ ap (supply_by (slice_index base.registers r)) (sym g)
      where
        entry : Some (Some (record { station = c.station; tag = c.tag })) ≡ Some (table_entry (rested_at base) (creator_note k.stands.gone r))
        entry = sym f.entry ∙ (entry_is f.written ∙ ap (λ z. Some (table_entry (rested_at base) z)) e)

        older : (o : Option Note) → creator_note k.stands.gone r ≡ o → supply_found own (slice_index base.registers r) (Some c) ≡ Known (slice_index base.registers r)
        older None x = absurd (no_maker (record { station = c.station; tag = c.tag }) (entry ∙ ap (λ z. Some (table_entry (rested_at base) z)) x))
        older (Some n) x =
            let named = entry_untold (rested_at base) n (record { station = c.station; tag = c.tag }) (entry ∙ ap (λ z. Some (table_entry (rested_at base) z)) x) in
            let one = named.same in
            let station : c.station ≡ n.what.station = ap (λ (z : Maker). z.station) one in
            let tag : c.tag ≡ n.what.tag = ap (λ (z : Maker). z.tag) one in
            let there : newest_note None k.stands.gone r ≡ Some n = sym (noted_by k.stands.gone f.written) ∙ x in
            let its : IsAgain n × IsNoted P U.tenants n = ⊎_elim (λ (no : None ≡ Some n). absurd (cc no)) (λ q. q)
            (newest_among (λ n. IsAgain n × IsNoted P U.tenants n) None k.stands.gone r n gone_all there) in
            let t : Tenant = its.1.tenant in
            let place : t.station ≡ n.what.station = ap (λ (z : Record). z.station) its.1.what in
            ⊎_elim
            (λ (r : IsFolded U (rested_at base) n). ⊎_elim (λ (i : IsReused U n). absurd (table.stale n.at i.p t i.tenant.tenant named.untold i.behind its.1.is i.tenant.is (i.tenant.fact ∙ sym place)
            f.saved (ap (slice_get T.latest) (place ∙ sym station) ∙ f.is) (f.tag ∙ (tag ∙ ap (λ (z : Record). z.tag) (sym its.1.what)))))
            (λ (l : n.at < rested_at base). absurd (omega (arith, l, named.untold))) r)
            (λ (o : n.what.station ≡ own). ap (λ b. cond b (Known (slice_index base.registers r)) (supply_made c.station c.tag c.made)) (eq-eqb c.station own (station ∙ o)))
            its.0

    pub supplied : (given : Supply) → IsSupplied T own base r given → given ≡ supply_in records base r
    supplied given s = s.is ∙ go s.found s.finds (found P C h legal records base k r small)

  pub supplied_at : (place : ℕ) → place ≡ own → (T' : Table) → T' ≡ T → (r r' : ℕ) → r ≡ r' → r' < 34 → (given : Supply) → IsSupplied T' place base r given → given ≡ supply_in records base r'
  supplied_at place e T' f r r' g small given s =
      supplied r' small given (subst (λ (z : ℕ × (Table × ℕ)). IsSupplied z.1.0 z.0 base z.1.1 given) (λ i. (e i, (f i, g i))) s)

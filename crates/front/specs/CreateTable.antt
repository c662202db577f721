-- The create vector as a table: for each register its newest writer, and for each station what the
-- let of its last tenant replaced.
use Rattle.std.specs.Prelude.{◌≡◌, ◌≢◌, ℕ, ◌+◌, ◌%◌, ◌^◌, ◌<◌, ◌≤◌, List, ◌∷◌, ◌++◌, length, Option, Some, None, ◌==◌, nat_le, if◌then◌else◌, slice_get, slice_set, slice_index}
use Rattle.instructions.specs.Instruction.{pc_plus_4}
use Rattle.instructions.specs.Programs.{Program}
use Rattle.inorder.specs.Callers.{IsLastAt}
use Rattle.inorder.specs.Tenants.{Tenant}
use Rattle.inorder.specs.Unit.{UpdateUnit, at}
use Rattle.station.specs.declared.answers.Supply.{Supply}
use Rattle.station.specs.declared.answers.Supply.TheVariants.{From, Known}
use Rattle.front.specs.declared.path.base_state.Base.{Base}
use Rattle.front.specs.declared.path.creators.Creator.{Creator}
use Rattle.front.specs.declared.path.counted.Maker.{Maker}
use Rattle.front.specs.declared.path.counted.Saved.{Saved}
use Rattle.front.specs.declared.path.counted.Table.{Table}
use Rattle.front.specs.declared.path.record.Record.{Record}
use Rattle.front.specs.Creators.{newest_note}
use Rattle.front.specs.Knows.{IsNewest}
use Rattle.front.specs.Trail.{Note, record_of, trail}

-- How an entry names a tenant
abbrev pub maker_of : Note → Maker
maker_of n = record { station = n.what.station; tag = n.what.tag }

-- The entry of a tenant, if there is one: those before `told` have none
abbrev pub table_entry : ℕ → Option Note → Option Maker
table_entry told None = None
table_entry told (Some n) = if nat_le told n.at then Some (maker_of n) else None

-- The newest of these that writes register r
abbrev pub table_entry_in : ℕ → List Note → ℕ → Option Maker
table_entry_in told notes r = table_entry told (newest_note None notes r)

-- A jump that links has made its value from the start
abbrev pub made_from_start : Record → Option ℕ
made_from_start x = if x.links then Some (pc_plus_4 x.pc) else None

-- The table keeps s of the tenant of record x
pub record IsSaved (x : Record) (s : Saved) : Type 0 where
  pub tag : s.tag ≡ x.tag
  pub register : s.register ≡ x.destination
  pub made : s.made ≡ made_from_start x

-- The table keeps the tenant of record x as the last one of its station
pub record IsLatest (latest : List Saved) (x : Record) : Type 0 where
  pub saved : Saved
  pub is : slice_get latest x.station ≡ Some saved
  pub of : IsSaved x saved

-- The entries are the create vector of the path without the tenants before `told`, and each station
-- keeps of its last tenant what its let replaced. An entry whose tenant's station was let again has
-- another tag than that station's last tenant
pub record HasTable (P : Program) (U : UpdateUnit) (told : ℕ) (T : Table) : Type 0 where
  pub wide : length T.entries ≡ 34
  pub deep : length T.latest ≡ 32
  pub entries : (r : ℕ) → 0 < r → r < 34 →
      slice_get T.entries r ≡ Some (table_entry_in told (trail P U.tenants) r)
  pub latest : (p : ℕ) (t : Tenant) → told ≤ p → at U.tenants p ≡ Some t → IsLastAt U p t.station →
      IsLatest T.latest (record_of P t)
  pub stale : (p q : ℕ) (t u : Tenant) → told ≤ p → p < q → at U.tenants p ≡ Some t → at U.tenants q ≡ Some u →
      u.station ≡ t.station → (s : Saved) → slice_get T.latest t.station ≡ Some s → s.tag ≢ t.tag
  pub replaced : (xs ys : List Note) (n : Note) → trail P U.tenants ≡ xs ++ n ∷ ys → told ≤ n.at →
      IsNewest U n → 0 < n.what.destination → n.what.destination < 34 → (s : Saved) →
      slice_get T.latest n.what.station ≡ Some s → s.replaced ≡ table_entry_in told xs n.what.destination

-- What is found of register r: its newest writer, if that one's station was not let again

-- No entry, or an entry of a station that was let again
abbrev pub FindsNone : Table → ℕ → Type 0
FindsNone T r =
    (m : Maker) (s : Saved) → 0 < r → slice_get T.entries r ≡ Some (Some m) →
    slice_get T.latest m.station ≡ Some s → s.tag ≢ m.tag

-- The entry of r names the last tenant of its station, and this is what that made from the start
pub record FindsOne (T : Table) (r : ℕ) (c : Creator) : Type 0 where
  pub written : 0 < r
  pub saved : Saved
  pub entry : slice_get T.entries r ≡ Some (Some (record { station = c.station; tag = c.tag }))
  pub is : slice_get T.latest c.station ≡ Some saved
  pub tag : saved.tag ≡ c.tag
  pub made : c.made ≡ saved.made

-- A look at the entry of r finds this creator, or none
abbrev pub EntryFinds : Table → ℕ → Option Creator → Type 0
EntryFinds T r None = FindsNone T r
EntryFinds T r (Some c) = FindsOne T r c

-- What a new tenant is given, by what was found; the one at its own station leaves

-- A source that comes from this tenant, unless that made its value from the start
abbrev pub supply_made : ℕ → ℕ → Option ℕ → Supply
supply_made station tag None = From station tag
supply_made station tag (Some v) = Known v

-- A source by the creator that was found; the base registers have it where there is none
abbrev pub supply_found : ℕ → ℕ → Option Creator → Supply
supply_found own base None = Known base
supply_found own base (Some c) =
    if c.station == own then Known base else supply_made c.station c.tag c.made

-- The source that reads register r is given so
pub record IsSupplied (T : Table) (own : ℕ) (base : Base) (r : ℕ) (given : Supply) : Type 0 where
  pub found : Option Creator
  pub finds : EntryFinds T r found
  pub is : given ≡ supply_found own (slice_index base.registers r) found

-- Changes of the table

-- A let saves the entry that it replaces, and names its tenant in that entry's place
pub record IsEntered (old new : Table) (x : Record) : Type 0 where
  pub saved : Saved
  pub of : IsSaved x saved
  pub replaced : (m : Option Maker) → slice_get old.entries x.destination ≡ Some m →
      saved.replaced ≡ m
  pub latest : new.latest ≡ slice_set old.latest x.station saved
  pub none : ¬ ((0 < x.destination) × (x.destination < 34)) → new.entries ≡ old.entries
  pub entries : 0 < x.destination → x.destination < 34 →
      new.entries ≡ slice_set old.entries x.destination (Some (record { station = x.station; tag = x.tag }))

-- A squash puts back the entry that the let had replaced
pub record IsRestored (old new : Table) (station : ℕ) : Type 0 where
  pub latest : new.latest ≡ old.latest
  pub none : (s : Saved) → slice_get old.latest station ≡ Some s →
      ¬ ((0 < s.register) × (s.register < 34)) → new.entries ≡ old.entries
  pub entries : (s : Saved) → slice_get old.latest station ≡ Some s → 0 < s.register →
      s.register < 34 → new.entries ≡ slice_set old.entries s.register s.replaced

-- How many readings and writings there were, modulo 2 ^ 64
pub record IsTouched (most old new : ℕ) : Type 0 where
  pub more : ℕ
  pub few : more ≤ most
  pub is : new % 2 ^ 64 ≡ (old + more) % 2 ^ 64

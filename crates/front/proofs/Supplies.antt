-- What a new tenant is given: it is right, and what comes from its creator can be asked for.
use Rattle.std.proofs.Common.{◌≡◌, ◌≢◌, ℕ, ◌<◌, Bool, true, false, cond, List, ◌++◌, Option, Some, refl, sym, ap, ◌∙◌, subst, arith, true≢false, ◌≤◌}
use Rattle.std.specs.List.{AllByRecursion}
use Rattle.std.specs.Prelude.{slice_index}
use Rattle.instructions.specs.Instruction.{pc_plus_4}
use Rattle.instructions.specs.Programs.{Program}
use Rattle.instructions.specs.declared.op.Kind.{Kind}
use Rattle.instructions.specs.declared.op.Kind.TheVariants.{Computes, Jumps, Links, Loads, Stores}
use Rattle.instructions.specs.declared.stop.Outcome.{Outcome}
use Rattle.instructions.specs.declared.stop.Outcome.TheVariants.{Address, Next, Stop as Stops}
use Rattle.inorder.specs.declared.history.Entry.{Entry}
use Rattle.inorder.specs.History.{IsLegal, unit_of}
use Rattle.inorder.specs.Steps.{MayComeFrom, MaySupply}
use Rattle.inorder.specs.Tenants.{Addr, Busy, Done, Fate, Guessed, Miss, Open, Standing, Stopped, Tenant, computed, kind_of}
use Rattle.inorder.specs.Unit.{Sizes, UpdateUnit, at, creator, value_made, next_station, older, recent, value_of, younger}
use Rattle.inorder.proofs.Basics.{split_at}
use Rattle.inorder.proofs.Grows.{sound_mid}
use Rattle.inorder.proofs.Histories.{unit_sound}
use Rattle.inorder.proofs.Positions.{at_below, younger_from}
use Rattle.inorder.proofs.Sound.{FateBy, IsSound}
use Rattle.inorder.proofs.OneCaller.Creators.{links_go}
use Rattle.station.specs.declared.answers.Supply.TheVariants.{From as GivenFrom, Known as GivenKnown}
use Rattle.station.specs.Letting.{supply_of}
use Rattle.front.specs.Path.{rested_at}
use Rattle.front.specs.declared.path.base_state.Base.{Base}
use Rattle.front.specs.declared.path.record.Record.{Record}
use Rattle.front.specs.Creators.{creator_note, position, supply_by, supply_in}
use Rattle.front.specs.Knows.{IsNewest, RecordsAreReady}
use Rattle.front.specs.Trail.{Note, is_link}
use Rattle.front.proofs.CreateVector.{Creates, Kept, Older, creates, creator_is}
use Rattle.front.proofs.Lists.{all_two}
use Rattle.front.proofs.Named.{notes_noted, notes_small, stands_right}
use Rattle.front.proofs.Places.{kept_new, others_next}
use Rattle.front.proofs.Trails.{IsNoted}

-- a jump that links has made its return address from the start
links_made : (o : Outcome) (pc pr nx : ℕ) (made a b : Option ℕ) (st : Standing) (f : Fate) →
    ((x : ℕ) → o ≢ Address x) → ((c : _) → o ≢ Stops c) → FateBy Links o pc pr nx made a b st f →
    made ≡ Some (pc_plus_4 pc)
links_made o pc pr nx made a b st Open na nh h = h.0
links_made o pc pr nx made a b st (Busy x) na nh h = h.0
links_made o pc pr nx made a b st (Addr x) na nh h = absurd (na x h.1)
links_made o pc pr nx made a b st (Done x) na nh h = h.0.2
links_made o pc pr nx made a b st (Guessed x) na nh h = let no = h.0 in absurd (cc no)
links_made o pc pr nx made a b st (Miss x) na nh h = h.0
links_made o pc pr nx made a b st (Stopped x) na nh h = absurd (nh x h.1)

pub is_links : (k : Kind) → is_link k ≡ true → k ≡ Links
is_links Computes e = absurd (cc e)
is_links Jumps e = absurd (cc e)
is_links Links e = refl
is_links Loads e = absurd (cc e)
is_links Stores e = absurd (cc e)

pub link_made : (P : Program) (us : List Tenant) → IsSound P us → (p : ℕ) (t : Tenant) → at us p ≡ Some t → is_link (kind_of P t) ≡ true → t.made ≡ Some (pc_plus_4 t.pc)
link_made P us ok p t is e =
    let k = is_links (kind_of P t) e in
    let g = links_go P t k in
    let own = sound_mid P t (older us p) (younger us p) (subst (IsSound P) (split_at us p t is) ok) in
    links_made (computed P t) t.pc t.predicted t.next t.made t.first.value t.second.value t.standing t.fate
    (λ x q. let no : Next g.0 ≡ Address x = sym g.1 ∙ q in absurd (cc no))
    (λ c q. let no : Next g.0 ≡ Stops c = sym g.1 ∙ q in absurd (cc no))
    (subst (λ k. FateBy k (computed P t) t.pc t.predicted t.next t.made t.first.value t.second.value t.standing t.fate) k own.own.fate)

-- a tenant that may be asked for a value
pub record IsGiver (P : Program) (C : Sizes) (U : UpdateUnit) (told : ℕ) (n : Note) : Type 0 where
  pub untold : told ≤ n.at
  pub noted : IsNoted P U.tenants n
  pub newest : IsNewest U n
  pub other : n.what.station ≢ next_station C (recent U)
  pub small : n.what.station < C.ring

module _ (P : Program) (C : Sizes) (h : List Entry) (legal : IsLegal P C h) (records : List Record) (base : Base) (k : RecordsAreReady P C (unit_of P C h) records base) where
  abbrev U : UpdateUnit
  U = unit_of P C h

  givers : AllByRecursion (IsGiver P C U (rested_at base)) k.stands.notes
  givers =
      let s = k.stands in
      let noted = notes_noted P C h legal records base _ s in
      let others = others_next P C U records base _ s (stands_right P C h legal) k.free in
      let both = all_two (IsNoted P U.tenants) (IsNewest U) (λ n. IsNoted P U.tenants n × IsNewest U n) (λ n a b. (a, b)) s.notes noted s.newest in
      let small = notes_small P C h legal records base _ s (omega (arith, k.free)) in
      let apart = all_two (λ n. n.what.station ≢ next_station C (recent U)) (λ n. n.what.station < C.ring) (λ n. (n.what.station ≢ next_station C (recent U)) × (n.what.station < C.ring))
      (λ n a b. (a, b)) s.notes others small in
      let young = all_two (λ n. IsNoted P U.tenants n × IsNewest U n) (λ n. rested_at base ≤ n.at) (λ n. (IsNoted P U.tenants n × IsNewest U n) × (rested_at base ≤ n.at)) (λ n a b. (a, b)) s.notes
      both s.untold in
      all_two (λ n. (IsNoted P U.tenants n × IsNewest U n) × (rested_at base ≤ n.at)) (λ n. (n.what.station ≢ next_station C (recent U)) × (n.what.station < C.ring)) (IsGiver P C U (rested_at base))
      (λ n a b. record { untold = a.1; noted = a.0.0; newest = a.0.1; other = b.0; small = b.1 }) s.notes young apart

  -- a source of register r
  module _ (r : ℕ) (small : r < 34) where
    whole : creator P U.tenants r ≡ position (creator_note (k.stands.gone ++ k.stands.notes) r)
    whole = creator_is P U.tenants r ∙ ap (λ z. position (creator_note z r)) k.stands.path

    pub found : Creates (IsGiver P C U (rested_at base)) k.stands.gone records r (creator_note (k.stands.gone ++ k.stands.notes) r)
    found = subst (λ z. Creates (IsGiver P C U (rested_at base)) k.stands.gone z r (creator_note (k.stands.gone ++ k.stands.notes) r)) (sym k.stands.are)
        (creates (IsGiver P C U (rested_at base)) k.stands.gone k.stands.notes r givers)

    kept_by : (n : Note) → creator P U.tenants r ≡ Some n.at → IsGiver P C U (rested_at base) n →
        MaySupply P U (next_station C (recent U)) (creator P U.tenants r) (supply_of (supply_by (slice_index base.registers r) (Some n.what)))
    kept_by n c g = go n.what.links refl
      where
        t : Tenant
        t = g.noted.tenant

        go : (b : Bool) → n.what.links ≡ b →
            MaySupply P U (next_station C (recent U)) (creator P U.tenants r) (supply_of (cond n.what.links (GivenKnown (pc_plus_4 n.what.pc)) (GivenFrom n.what.station n.what.tag)))
        go true e =
            let made : t.made ≡ Some (pc_plus_4 t.pc) = link_made P U.tenants (unit_sound P C h legal) n.at t g.noted.is (ap (λ (z : Record). z.links) g.noted.what ∙ e) in
            let value : value_of U.tenants (creator P U.tenants r) ≡ Some (pc_plus_4 n.what.pc) = ap (value_of U.tenants) c ∙
            (ap value_made g.noted.is ∙ (made ∙ ap (λ (z : Record). Some (pc_plus_4 z.pc)) g.noted.what)) in
            subst (λ b. MaySupply P U (next_station C (recent U)) (creator P U.tenants r) (supply_of (cond b (GivenKnown (pc_plus_4 n.what.pc)) (GivenFrom n.what.station n.what.tag)))) (sym e) value
        go false e =
            let place : t.station ≡ n.what.station = ap (λ (z : Record). z.station) g.noted.what in
            let comes : MayComeFrom P U (next_station C (recent U)) (creator P U.tenants r) = record {
              p = n.at;
              tenant = t;
              creates = c;
              is = g.noted.is;
              waits = λ l. true≢false (sym (ap is_link l) ∙ (ap (λ (z : Record). z.links) g.noted.what ∙ e));
              other = λ same. g.other (sym place ∙ same);
              last = younger_from (λ u. u.station ≢ t.station) U.tenants n.at (at_below U.tenants n.at t g.noted.is) (λ q u lt is same. g.newest q u lt is (same ∙ place));
              new = kept_new P C U records base _ k.stands n.at g.untold;
            } in
            subst (λ b. MaySupply P U (next_station C (recent U)) (creator P U.tenants r) (supply_of (cond b (GivenKnown (pc_plus_4 n.what.pc)) (GivenFrom n.what.station n.what.tag)))) (sym e) comes

    pub may_supply : MaySupply P U (next_station C (recent U)) (creator P U.tenants r) (supply_of (supply_in records base r))
    may_supply = go found
      where
        go : Creates (IsGiver P C U (rested_at base)) k.stands.gone records r (creator_note (k.stands.gone ++ k.stands.notes) r) →
            MaySupply P U (next_station C (recent U)) (creator P U.tenants r) (supply_of (supply_in records base r))
        go (Older e f) =
            let c : creator P U.tenants r ≡ position (creator_note k.stands.gone r) = whole ∙ ap position e in
            subst (λ z. MaySupply P U (next_station C (recent U)) (creator P U.tenants r) (supply_of (supply_by (slice_index base.registers r) z))) (sym f)
            (ap (value_of U.tenants) c ∙ k.stands.base_is r small)
        go (Kept n e g f) =
            let c : creator P U.tenants r ≡ Some n.at = whole ∙ ap position e in
            subst (λ z. MaySupply P U (next_station C (recent U)) (creator P U.tenants r) (supply_of (supply_by (slice_index base.registers r) z))) (sym f) (kept_by n c g)

    -- one that comes from its creator
    pub record ComesFrom (s g : ℕ) : Type 0 where
      pub n : Note
      pub giver : IsGiver P C U (rested_at base) n
      pub creates : creator P U.tenants r ≡ Some n.at
      pub station : n.what.station ≡ s
      pub tag : n.what.tag ≡ g

    pub comes_from : (s g : ℕ) → supply_in records base r ≡ GivenFrom s g → ComesFrom s g
    comes_from s g e = go found
      where
        known : (v : ℕ) → GivenKnown v ≢ GivenFrom s g
        known v x = cc x

        station_of : (a b : ℕ) → GivenFrom a b ≡ GivenFrom s g → a ≡ s
        station_of a b x = cc x

        tag_of : (a b : ℕ) → GivenFrom a b ≡ GivenFrom s g → b ≡ g
        tag_of a b x = cc x

        by : (b : Bool) (n : Note) → n.what.links ≡ b → supply_by (slice_index base.registers r) (Some n.what) ≡ GivenFrom s g → GivenFrom n.what.station n.what.tag ≡ GivenFrom s g
        by true n l x = absurd (known (pc_plus_4 n.what.pc) (ap (λ z. cond z (GivenKnown (pc_plus_4 n.what.pc)) (GivenFrom n.what.station n.what.tag)) (sym l) ∙ x))
        by false n l x = ap (λ z. cond z (GivenKnown (pc_plus_4 n.what.pc)) (GivenFrom n.what.station n.what.tag)) (sym l) ∙ x

        go : Creates (IsGiver P C U (rested_at base)) k.stands.gone records r (creator_note (k.stands.gone ++ k.stands.notes) r) → ComesFrom s g
        go (Older x f) = absurd (known (slice_index base.registers r) (ap (supply_by (slice_index base.registers r)) (sym f) ∙ e))
        go (Kept n x gv f) =
            let its = by n.what.links n refl (ap (supply_by (slice_index base.registers r)) (sym f) ∙ e) in
            record { n = n; giver = gv; creates = whole ∙ ap position x; station = station_of n.what.station n.what.tag its; tag = tag_of n.what.station n.what.tag its }

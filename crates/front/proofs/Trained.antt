-- What the predictor is told is what the last tenant of the station did.
use Rattle.std.proofs.Common.{◌≡◌, ◌≢◌, ℕ, ◌<◌, Bool, ◌&&◌, List, ◌∷◌, ◌++◌, length, Option, Some, None, refl, sym, ap, ◌∙◌, subst, zero, suc, ◌+◌, ◌-◌, ◌≤◌, [], cond, eqb, eqb-true, eq-eqb, true}
use Rattle.std.proofs.Common.{false, true≢false, inl, inr, ⊎_elim, arith}
use Rattle.std.specs.List.{AllByRecursion}
use Rattle.std.proofs.lemmas.Option.{same_Some}
use Rattle.instructions.specs.Guesses.{IsTold}
use Rattle.instructions.specs.Operations.{outcome_by}
use Rattle.instructions.specs.Programs.{Program}
use Rattle.instructions.specs.declared.op.Kind.{Kind}
use Rattle.instructions.specs.declared.op.Kind.TheVariants.{Computes, Jumps, Links, Loads, Stores}
use Rattle.instructions.specs.declared.stop.Outcome.{Outcome}
use Rattle.instructions.specs.declared.stop.Outcome.TheVariants.{Address, Next, Pair, Stop as Stops, Value}
use Rattle.inorder.specs.declared.history.Entry.{Entry}
use Rattle.inorder.specs.History.{IsLegal, unit_of}
use Rattle.inorder.specs.Callers.{IsLastAt, is_retired, stands_retired}
use Rattle.inorder.specs.StationWords.{last_of}
use Rattle.inorder.specs.Steps.{CanRetire}
use Rattle.inorder.specs.Tenants.{Addr, Busy, Done, Fate, Guessed, Live, Miss, Open, Retired, Squashed, Standing, Stopped, Tenant, behind, computed, computed_next, instr, kind_of, next_by, operand_value}
use Rattle.inorder.specs.Tenants.{stands_on_path}
use Rattle.inorder.specs.Unit.{Sizes, UpdateUnit, at, newest_of, next_station, older, recent, younger}
use Rattle.inorder.proofs.Basics.{split_at}
use Rattle.inorder.proofs.Fated.{follows_from}
use Rattle.inorder.proofs.Grows.{sound_mid}
use Rattle.inorder.proofs.Histories.{unit_sound}
use Rattle.inorder.proofs.Sound.{GoesOn, IsSound, IsSoundAt}
use Rattle.inorder.proofs.Creators.{at_cases}
use Rattle.inorder.proofs.Positions.{at_below, at_more, at_new}
use Rattle.front.specs.Path.{rested_at}
use Rattle.front.specs.declared.path.base_state.Base.{Base}
use Rattle.front.specs.declared.path.record.Record.{Record}
use Rattle.front.specs.Fetching.{IsLeft}
use Rattle.front.specs.Knows.{IsFolded, IsNewest, FrontKnows}
use Rattle.front.specs.Training.{leaver_if, leaver_in, untold}
use Rattle.front.specs.Trail.{Note, is_guessed, trail}
use Rattle.front.proofs.Lists.{all_both, all_front, all_two}
use Rattle.front.proofs.Named.{notes_noted, stands_right}
use Rattle.front.proofs.Places.{kept_new, others_next}
use Rattle.front.proofs.Stations.{LastSpot}
use Rattle.front.proofs.Trails.{IsNoted, trail_all, trail_noted}
use Rattle.inorder.proofs.Recent.{last_of_recent, new_by}
use Rattle.inorder.proofs.OneCaller.Creators.{links_go}
use Rattle.ruu_words.proofs.StationWords.{one_tag}

-- Where a tenant that has retired went on

plain_next : (k : Kind) (after next : ℕ) (o : Outcome) → GoesOn k after next → k ≢ Jumps → k ≢ Links →
    ((x : ℕ) → o ≢ Next x) → next_by after o ≡ next
plain_next k after next o g a b n = plain o n ∙ sym (goes k g a b)
  where
    plain : (o : Outcome) → ((x : ℕ) → o ≢ Next x) → next_by after o ≡ after
    plain (Value v) n = refl
    plain (Pair l h) n = refl
    plain (Next x) n = absurd (n x refl)
    plain (Address x) n = refl
    plain (Stops c) n = refl

    goes : (k : Kind) → GoesOn k after next → k ≢ Jumps → k ≢ Links → next ≡ after
    goes Computes g a b = g
    goes Jumps g a b = absurd (a refl)
    goes Links g a b = absurd (b refl)
    goes Loads g a b = g
    goes Stores g a b = g

jumps_go : (P : Program) (t : Tenant) → kind_of P t ≡ Jumps → (x : ℕ) × (computed P t ≡ Next x)
jumps_go P t e = (_, ap (λ k. outcome_by k (instr P t) t.half t.pc (operand_value t.first) (operand_value t.second) (length P.bytes)) e)

no_jump : (P : Program) (t : Tenant) (o : Outcome) → computed P t ≡ o → ((x : ℕ) → o ≢ Next x) → kind_of P t ≢ Jumps
no_jump P t o e n k = let g = jumps_go P t k in n g.0 (sym e ∙ g.1)

no_link : (P : Program) (t : Tenant) (o : Outcome) → computed P t ≡ o → ((x : ℕ) → o ≢ Next x) → kind_of P t ≢ Links
no_link P t o e n k = let g = links_go P t k in n g.0 (sym e ∙ g.1)

address_not : (a x : ℕ) → Address a ≢ Next x
address_not a x e = cc e

stop_not : (c : _) (x : ℕ) → Stops c ≢ Next x
stop_not c x e = cc e

pub went_on : (P : Program) (us : List Tenant) → IsSound P us → (p : ℕ) (t : Tenant) → at us p ≡ Some t → t.standing ≡ Retired → computed_next P t ≡ t.next
went_on P us ok p t is gone =
    let s = sound_mid P t (older us p) (younger us p) (subst (IsSound P) (split_at us p t is) ok) in
    let can = (s.placed (ap stands_on_path gone)).can gone in
    go t.fate refl (subst (CanRetire (kind_of P t) t.second.value) refl can) s
  where
    away : (o : Outcome) → computed P t ≡ o → ((x : ℕ) → o ≢ Next x) → GoesOn (kind_of P t) (behind P t) t.next → computed_next P t ≡ t.next
    away o e n g = ap (next_by (behind P t)) e ∙ plain_next (kind_of P t) (behind P t) t.next o g (no_jump P t o e n) (no_link P t o e n) n

    go : (f : Fate) → t.fate ≡ f → CanRetire (kind_of P t) t.second.value t.fate → IsSoundAt P (older us p) t → computed_next P t ≡ t.next
    go Open e c s = absurd (subst (CanRetire (kind_of P t) t.second.value) e c)
    go (Busy by) e c s = absurd (subst (CanRetire (kind_of P t) t.second.value) e c)
    go (Addr a) e c s = away (Address a) ((follows_from P (older us p) t s.own).fate.address a e) (λ x. address_not a x) s.own.goes_on
    go (Done v) e c s = (follows_from P (older us p) t s.own).fate.goes_on v e
    go (Guessed x) e c s = absurd (subst (CanRetire (kind_of P t) t.second.value) e c)
    go (Miss x) e c s = absurd (subst (CanRetire (kind_of P t) t.second.value) e c)
    go (Stopped c') e c s = away (Stops c') ((follows_from P (older us p) t s.own).fate.stop c' e) (λ x. stop_not c' x) s.own.goes_on

-- The last tenant of a station after the first ones

pub record UntoldSpot (us : List Tenant) (told s : ℕ) (t : Tenant) : Type 0 where
  pub spot : LastSpot us s t
  pub new : told ≤ spot.p

spot_among : (n : ℕ) (us : List Tenant) (s : ℕ) (t : Tenant) → last_of (newest_of n us) s ≡ Some t → (l : LastSpot us s t) × (length us ≤ l.p + n)
spot_among zero us s t e = absurd (cc e)
spot_among (suc n) [] s t e = absurd (cc e)
spot_among (suc n) (u ∷ us) s t e = go (eqb u.station s) refl (spot_among n us s t)
  where
    go : (b : Bool) → eqb u.station s ≡ b → (last_of (newest_of n us) s ≡ Some t → (l : LastSpot us s t) × (length us ≤ l.p + n)) → (l : LastSpot (u ∷ us) s t) × (length (u ∷ us) ≤ l.p + suc n)
    go true f more =
        let is : Some u ≡ Some t = ap (λ b. cond b (Some u) (last_of (newest_of n us) s)) (sym f) ∙ e in
        let same : u ≡ t = cc is in (
          record {
            p = length us;
            is = at_new u us ∙ is;
            place = ap (λ (z : Tenant). z.station) (sym same) ∙ eqb-true u.station s f;
            last = λ q v lt there. let b = at_below (u ∷ us) q v there in absurd (omega arith);
          },
          omega arith,
        )
    go false f more =
        let l = more (ap (λ b. cond b (Some u) (last_of (newest_of n us) s)) (sym f) ∙ e) in (
          record {
            p = l.0.p;
            is = at_more u us l.0.p t l.0.is;
            place = l.0.place;
            last = λ q v lt there. ⊎_elim
                (λ old. l.0.last q v lt old)
                (λ (n : (q ≡ length us) × (u ≡ v)). λ same. true≢false (sym (eq-eqb u.station s (ap (λ (z : Tenant). z.station) n.1 ∙ same)) ∙ f))
                (at_cases u us q v there);
          },
          omega (arith, l.1),
        )

pub untold_spot : (us : List Tenant) (told s : ℕ) (t : Tenant) → last_of (untold told us) s ≡ Some t → UntoldSpot us told s t
untold_spot us told s t e =
    let l = spot_among (length us - told) us s t e in
    let below = at_below us l.0.p t l.0.is in
    record { spot = l.0; new = omega (arith, l.1, below) }

pub untold_last : (us : List Tenant) (told p s : ℕ) (t : Tenant) → at us p ≡ Some t → told ≤ p →
    t.station ≡ s → ((q : ℕ) (u : Tenant) → p < q → at us q ≡ Some u → u.station ≢ s) →
    last_of (untold told us) s ≡ Some t
untold_last us told p s t is new place last =
    let V : UpdateUnit = record { tenants = us; fresh = length us - told } in
    let below = at_below us p t is in
    ap (last_of (untold told us)) (sym place)
    ∙ last_of_recent V p t is (new_by V p (omega (arith, new, below))) (λ q u lt e f. last q u lt e (f ∙ place))

module _ {S : Type 0} (Learns : S → ℕ → ℕ → S → Type 0) (P : Program) (C : Sizes) (h : List Entry) (legal : IsLegal P C h) (records : List Record) (base : Base)
    (k : FrontKnows P C (unit_of P C h) records base) where
  abbrev U : UpdateUnit
  U = unit_of P C h

  abbrev next : ℕ
  next = next_station C (recent U)

  -- fewer tenants than stations: nobody is told of
  pub nobody_told : length records < C.ring → (s : S) → IsTold Learns (leaver_in P (last_of (untold (rested_at base) U.tenants) next)) s s
  nobody_told few s = go (last_of (untold (rested_at base) U.tenants) next) refl
    where
      reused_never : (n : Note) → IsNoted P U.tenants n → IsFolded U (rested_at base) n → (t : Tenant) →
          at U.tenants n.at ≡ Some t → rested_at base ≤ n.at → t.station ≡ next → IsLastAt U n.at next → ⊥
      reused_never n i (inr l) t is new place last = absurd (omega (arith, l, new))
      reused_never n i (inl r) t is new place last =
          let one = same_Some i.tenant t (sym i.is ∙ is) in
          let same : n.what.station ≡ next = ap (λ (z : Record). z.station) (sym i.what) ∙ (ap (λ (z : Tenant). z.station) one ∙ place) in
          last r.p r.tenant.tenant r.behind r.tenant.is (r.tenant.fact ∙ same)

      other_never : (n : Note) → IsNoted P U.tenants n → n.what.station ≢ next → (t : Tenant) → at U.tenants n.at ≡ Some t → rested_at base ≤ n.at → t.station ≡ next → IsLastAt U n.at next → ⊥
      other_never n i ne t is new place last =
          let one = same_Some i.tenant t (sym i.is ∙ is) in
          ne (ap (λ (z : Record). z.station) (sym i.what) ∙ (ap (λ (z : Tenant). z.station) one ∙ place))

      all_never : AllByRecursion (λ n. (t : Tenant) → at U.tenants n.at ≡ Some t → rested_at base ≤ n.at → t.station ≡ next → IsLastAt U n.at next → ⊥) (trail P U.tenants)
      all_never =
          let Q : Note → Type 0 = λ n. (t : Tenant) → at U.tenants n.at ≡ Some t → rested_at base ≤ n.at → t.station ≡ next → IsLastAt U n.at next → ⊥ in
          let noted : AllByRecursion (IsNoted P U.tenants) (k.gone ++ k.notes) = subst (AllByRecursion (IsNoted P U.tenants)) k.path (trail_noted P U.tenants) in
          subst (AllByRecursion Q) (sym k.path)
          (all_both Q k.gone k.notes
          (all_two (IsNoted P U.tenants) (IsFolded U (rested_at base)) Q reused_never k.gone (all_front (IsNoted P U.tenants) k.gone k.notes noted) k.again)
          (all_two (IsNoted P U.tenants) (λ n. n.what.station ≢ next) Q other_never k.notes (notes_noted P C h legal records base (IsFolded U (rested_at base)) k)
          (others_next P C U records base (IsFolded U (rested_at base)) k (stands_right P C h legal) few)))

      by : (t : Tenant) (st : Standing) → t.standing ≡ st → last_of (untold (rested_at base) U.tenants) next ≡ Some t →
          IsTold Learns (leaver_if (stands_retired st && is_guessed P t) t.pc (computed_next P t)) s s
      by t Live e f = refl
      by t Squashed e f = refl
      by t Retired e f =
          let l = untold_spot U.tenants (rested_at base) next t f in
          absurd (trail_all P (λ n. (t : Tenant) → at U.tenants n.at ≡ Some t → rested_at base ≤ n.at → t.station ≡ next → IsLastAt U n.at next → ⊥) U.tenants all_never l.spot.p t l.spot.is
          (ap stands_on_path e) t l.spot.is l.new l.spot.place l.spot.last)

      go : (o : Option Tenant) → last_of (untold (rested_at base) U.tenants) next ≡ o → IsTold Learns (leaver_in P o) s s
      go None e = refl
      go (Some t) e = by t t.standing refl e

  -- the oldest leaves: it is told of
  pub oldest_told : (n : Note) (ns : List Note) → k.notes ≡ n ∷ ns → n.what.station ≡ next → (left : ℕ) →
      IsLeft U n.what left → (s s' : S) → IsTold Learns (leaver_if n.what.guessed n.what.pc n.what.next) s s' →
      IsTold Learns (leaver_in P (last_of (untold (rested_at base) U.tenants) next)) s s'
  oldest_told n ns e place left gone s s' told =
      let noted : IsNoted P U.tenants n = (subst (AllByRecursion (IsNoted P U.tenants)) e (notes_noted P C h legal records base (IsFolded U (rested_at base)) k)).0 in
      let newest : IsNewest U n = (subst (AllByRecursion (IsNewest U)) e k.newest).0 in
      let t = noted.tenant in
      let i = gone.tenant in
      let untold_one = (subst (AllByRecursion (λ n. rested_at base ≤ n.at)) e k.untold).0 in
      let new = kept_new P C U records base (IsFolded U (rested_at base)) k n.at untold_one in
      let p : gone.p ≡ n.at = one_tag P C h legal gone.p n.at i.tenant t i.is noted.is i.new new (i.station_is ∙ ap (λ (z : Record). z.station) (sym noted.what))
      (i.tag_is ∙ ap (λ (z : Record). z.tag) (sym noted.what)) in
      let one : i.tenant ≡ t = same_Some i.tenant t (sym i.is ∙ (ap (at U.tenants) p ∙ noted.is)) in
      let retired : t.standing ≡ Retired = ap (λ (z : Tenant). z.standing) (sym one) ∙ i.fact.retired in
      let last : last_of (untold (rested_at base) U.tenants) next ≡ Some t = untold_last U.tenants (rested_at base) n.at next t noted.is untold_one (ap (λ (z : Record). z.station) noted.what ∙ place)
      (λ q u lt is same. newest q u lt is (same ∙ sym place)) in
      let went : computed_next P t ≡ n.what.next = went_on P U.tenants (unit_sound P C h legal) n.at t noted.is retired ∙ ap (λ (z : Record). z.next) noted.what in
      let guessed : is_retired t && is_guessed P t ≡ n.what.guessed = ap (λ z. stands_retired z && is_guessed P t) retired ∙ ap (λ (z : Record). z.guessed) noted.what in
      let pc : t.pc ≡ n.what.pc = ap (λ (z : Record). z.pc) noted.what in
      subst (λ o. IsTold Learns (leaver_in P o) s s') (sym last)
      (subst (λ (z : Bool × (ℕ × ℕ)). IsTold Learns (leaver_if z.0 z.1.0 z.1.1) s s') (λ j. (sym guessed j, (sym pc j, sym went j))) told)

-- The look at the oldest of as many loads and stores as the queue takes.
use Rattle.std.proofs.Common.{◌≡◌, ◌≢◌, ℕ, suc, ◌≤◌, List, [], ◌∷◌, ◌++◌, Some, sym, ap, ◌∙◌, subst, arith, false}
use Rattle.std.specs.List.{AllByRecursion}
use Rattle.std.proofs.lemmas.Option.{same_Some}
use Rattle.instructions.specs.Programs.{Program}
use Rattle.inorder.specs.declared.history.Entry.{Entry}
use Rattle.inorder.specs.History.{IsLegal, unit_of}
use Rattle.inorder.specs.StationWords.{last_of, station_word, station_word_of, word_by}
use Rattle.inorder.specs.Tenants.{Live, Tenant}
use Rattle.inorder.specs.Unit.{Sizes, UpdateUnit, at, recent, tag_after, is_old}
use Rattle.ruu_words.specs.declared.station.StationState.{StationState}
use Rattle.ruu_words.specs.declared.station.StationState.TheVariants.{Free}
use Rattle.ruu_words.specs.States.{state_code}
use Rattle.station.specs.declared.answers.Seen.{Seen}
use Rattle.station.specs.Looking.{SeesStation}
use Rattle.front.specs.declared.path.base_state.Base.{Base}
use Rattle.front.specs.declared.path.record.Record.{Record}
use Rattle.front.specs.Knows.{IsNewest, FrontKnows, IsFolded}
use Rattle.front.specs.Queues.{IsBefore, how_many_accesses}
use Rattle.front.proofs.PathParts.{IsSplit}
use Rattle.front.proofs.InQueue.{behind_left, behind_live, one_noted, queue_room, s}
use Rattle.front.proofs.Lists.{all_rest}
use Rattle.front.proofs.Looks.{free_is, live_there, NamedNow, same_place}
use Rattle.front.proofs.Stations.{last_now, left_there}
use Rattle.front.proofs.Trails.{IsNoted}
use Rattle.front.specs.Path.{rested_at}
use Rattle.front.proofs.Places.{kept_new}

pub all_in : (Q : Record → Type 0) (older : List Record) (x : Record) (younger : List Record) → AllByRecursion Q (older ++ x ∷ younger) → Q x
all_in Q [] x younger a = a.0
all_in Q (y ∷ older) x younger a = all_in Q older x younger a.1

module _ (P : Program) (C : Sizes) (h : List Entry) (legal : IsLegal P C h) (records : List Record) (base : Base) (k : FrontKnows P C (unit_of P C h) records base) (n : ℕ) (x : Record)
    (b : IsBefore records n x) (seen : Seen StationState) (sees : SeesStation P C h x.station seen) where
  abbrev U : UpdateUnit
  U = unit_of P C h

  abbrev split : IsSplit k.notes b.older x b.younger
  split = s P C h legal records base k b.older x b.younger b.are

  abbrev its : IsNoted P U.tenants split.one
  its = one_noted P C h legal records base k b.older x b.younger b.are

  newest : IsNewest U split.one
  newest = (all_rest (IsNewest U) split.before (split.one ∷ split.after) (subst (AllByRecursion (IsNewest U)) split.is k.newest)).0

  untold : rested_at base ≤ split.one.at
  untold = (all_rest (λ n. rested_at base ≤ n.at) split.before (split.one ∷ split.after) (subst (AllByRecursion (λ n. rested_at base ≤ n.at)) split.is k.untold)).0

  new : is_old U split.one.at ≡ false
  new = kept_new P C U records base (IsFolded U (rested_at base)) k split.one.at untold

  place : its.tenant.station ≡ x.station
  place = ap (λ (z : Record). z.station) (its.what ∙ split.what)

  at_place : split.one.what.station ≡ x.station
  at_place = ap (λ (z : Record). z.station) split.what

  pub room_there : seen.state ≡ Free → how_many_accesses P U ≤ n
  room_there free =
      let last : last_of (recent U) x.station ≡ Some its.tenant = last_now U split.one.at x.station its.tenant its.is new place (λ q u lt is same. newest q u lt is (same ∙ sym at_place)) in
      let word : station_word C (recent U) x.station ≡ word_by (tag_after C (recent U) x.station) its.tenant.standing its.tenant.tag its.tenant.fate its.tenant.made = ap
      (station_word_of (tag_after C (recent U) x.station)) last in
      let left = left_there its.tenant (tag_after C (recent U) x.station) (station_word C (recent U) x.station) word (free_is _ (sym sees.state_is ∙ ap state_code free)) its.on seen.value
      sees.value_is in
      let few = behind_left P C h legal records base k b.older x b.younger b.are left.retired in
      omega (arith, few, b.behind)

  pub full_there : seen.state ≢ Free → suc n ≡ C.queue → how_many_accesses P U ≡ C.queue
  full_there ne e =
      let named : NamedNow C U x.station = live_there P C h legal x.station seen sees ne in
      let same = same_place P C h legal x.station seen sees named split.one.at its.tenant its.is place (λ q u lt is here. newest q u lt is (here ∙ sym at_place)) in
      let one : named.tenant ≡ its.tenant = same_Some named.tenant its.tenant (sym named.is ∙ (ap (at U.tenants) same ∙ its.is)) in
      let live : its.tenant.standing ≡ Live = ap (λ (z : Tenant). z.standing) (sym one) ∙ named.live in
      let many = behind_live P C h legal records base k b.older x b.younger b.are live b.access in
      let most = queue_room P C h legal in
      omega (arith, many, most, b.behind, e)

-- Nobody is live: it stays so, and the youngest tenant of the path tells it.
use Rattle.std.proofs.Common.{◌≡◌, ◌≢◌, ℕ, ◌<◌, true, false, List, [], ◌∷◌, ◌++◌, Some, refl, sym, ap, ◌∙◌, subst, append_assoc, length}
use Rattle.std.specs.List.{AllByRecursion}
use Rattle.std.proofs.lemmas.Option.{same_Some}
use Rattle.instructions.specs.Programs.{Program}
use Rattle.inorder.specs.declared.history.Entry.{Entry}
use Rattle.inorder.specs.declared.history.Step.TheVariants.{Let, On, Renew}
use Rattle.inorder.specs.History.{IsLegal, unit_of}
use Rattle.inorder.specs.Legal.{applied}
use Rattle.inorder.specs.StationWords.{station_word, station_word_of, word_by}
use Rattle.inorder.specs.Tenants.{IsNotLive, Live, Retired, Squashed, Standing, Tenant, on_path, stands_on_path}
use Rattle.inorder.specs.Unit.{Sizes, UpdateUnit, at, is_old, recent, tag_after}
use Rattle.inorder.proofs.Histories.{unit_sound}
use Rattle.inorder.proofs.Moves.{came}
use Rattle.inorder.proofs.Positions.{all_at, all_from}
use Rattle.ruu_words.specs.Content.{HasValue}
use Rattle.ruu_words.specs.declared.station.StationState.{StationState}
use Rattle.ruu_words.specs.declared.station.StationState.TheVariants.{Free}
use Rattle.ruu_words.specs.States.{state_code}
use Rattle.station.specs.declared.answers.Seen.{Seen}
use Rattle.station.specs.Looking.{SeesStation}
use Rattle.front.proofs.Stays.{long_under}
use Rattle.front.specs.declared.path.base_state.Base.{Base}
use Rattle.front.specs.declared.path.record.Record.{Record}
use Rattle.front.specs.Fetching.{HasLeft}
use Rattle.front.specs.Knows.{IsGone, IsNewest, Stands}
use Rattle.front.specs.Trail.{Note, trail}
use Rattle.station.specs.Renewals.{HasNobody}
use Rattle.front.proofs.InQueue.{live_behind}
use Rattle.front.proofs.PathParts.{ordered}
use Rattle.front.proofs.Lists.{Last, all_both, all_map}
use Rattle.front.proofs.Looks.{free_is, live_there}
use Rattle.front.proofs.Splitting.{IsStable}
use Rattle.front.proofs.Stations.{last_now, left_there}
use Rattle.front.proofs.Trails.{IsNoted, trail_all}

gone_live : Retired ≢ Live
gone_live e = cc e

-- others let nobody
pub nobody_stable : (P : Program) (C : Sizes) → IsStable P C HasNobody
nobody_stable P C U by (Let i pr f g) b a ok none = absurd b
nobody_stable P C U by Renew b a ok none = absurd b
nobody_stable P C U by (On p act) b a ok none =
    all_from IsNotLive (applied P C U by (On p act)).tenants
    (λ q u is live. let w = came P C U by p act a ok q u is in all_at IsNotLive U.tenants none q w.tenant w.is (w.goes.live live))

pub told_stable : (P : Program) (C : Sizes) (told : ℕ) → IsStable P C (λ U. told ≡ length U.tenants)
told_stable P C told U by (Let i pr f g) b a ok e = absurd b
told_stable P C told U by Renew b a ok e = absurd b
told_stable P C told U by (On p act) b a ok e = e ∙ sym (long_under P C U by p act a)

-- who is on the path and not live has retired
pub left_path : (t : Tenant) → on_path t ≡ true → IsNotLive t → t.standing ≡ Retired
left_path t on dead = go t.standing refl
  where
    go : (s : Standing) → t.standing ≡ s → t.standing ≡ Retired
    go Live e = absurd (dead e)
    go Retired e = e
    go Squashed e = let no : false ≡ true = sym (ap stands_on_path e) ∙ on in absurd (cc no)

live_path : (t : Tenant) → t.standing ≡ Live → on_path t ≡ true
live_path t live = ap stands_on_path live

module _ (P : Program) (C : Sizes) (h : List Entry) (legal : IsLegal P C h) where
  abbrev U : UpdateUnit
  U = unit_of P C h

  -- a word that is not free: somebody is live
  pub somebody : (s : ℕ) (seen : Seen StationState) → SeesStation P C h s seen → seen.state ≢ Free → ¬ HasNobody U
  somebody s seen sees ne none = let b = live_there P C h legal s seen sees ne in all_at IsNotLive U.tenants none b.p b.tenant b.is b.live

  module _ (n : Note) (noted : IsNoted P U.tenants n) (new : is_old U n.at ≡ false) (newest : IsNewest U n) (seen : Seen StationState) (sees : SeesStation P C h n.what.station seen) where
    place : noted.tenant.station ≡ n.what.station
    place = ap (λ (z : Record). z.station) noted.what

    word : station_word C (recent U) n.what.station ≡ word_by (tag_after C (recent U) n.what.station) noted.tenant.standing noted.tenant.tag noted.tenant.fate noted.tenant.made
    word = ap (station_word_of (tag_after C (recent U) n.what.station)) (last_now U n.at n.what.station noted.tenant noted.is new place newest)

    -- a free word: the last tenant of the station has left this value
    pub note_left : seen.state ≡ Free → HasLeft seen.value noted.tenant
    note_left free =
        left_there noted.tenant (tag_after C (recent U) n.what.station) (station_word C (recent U) n.what.station) word
        (free_is _ (sym sees.state_is ∙ ap state_code free)) noted.on seen.value sees.value_is

    -- it has retired: this is what it has left
    pub retired_left : noted.tenant.standing ≡ Retired → HasLeft seen.value noted.tenant
    retired_left gone = record {
      retired = gone;
      value = subst (λ o. HasValue o seen.value) (ap (λ z. z.value) (word ∙ ap (λ s. word_by (tag_after C (recent U) n.what.station) s noted.tenant.tag noted.tenant.fate noted.tenant.made) gone))
          sees.value_is;
    }

  module _ (records : List Record) (base : Base) (Again : Note → Type 0) (k : Stands P C U records base Again) where
    gone_dead : (n : Note) → IsGone U n → (t : Tenant) → at U.tenants n.at ≡ Some t → IsNotLive t
    gone_dead n g t is live = gone_live (sym g.fact ∙ (ap (λ (z : Tenant). z.standing) (same_Some g.tenant t (sym g.is ∙ is)) ∙ live))

    dead_all : AllByRecursion (λ n. (t : Tenant) → at U.tenants n.at ≡ Some t → IsNotLive t) (trail P U.tenants) → HasNobody U
    dead_all all = all_from IsNotLive U.tenants
        (λ q u is live. trail_all P (λ n. (t : Tenant) → at U.tenants n.at ≡ Some t → IsNotLive t) U.tenants all q u is (live_path u live) u is live)

    gone_all : AllByRecursion (λ n. (t : Tenant) → at U.tenants n.at ≡ Some t → IsNotLive t) k.gone
    gone_all = all_map (IsGone U) (λ n. (t : Tenant) → at U.tenants n.at ≡ Some t → IsNotLive t) gone_dead k.gone k.retired

    -- no tenant is kept: nobody is live
    pub none_kept : k.notes ≡ [] → HasNobody U
    none_kept e = dead_all (subst (AllByRecursion (λ n. (t : Tenant) → at U.tenants n.at ≡ Some t → IsNotLive t))
        (sym (k.path ∙ (ap (λ z. k.gone ++ z) e ∙ Rattle.std.proofs.lemmas.List.append-nil k.gone))) gone_all)

    -- the youngest has retired: nobody is live
    pub youngest_left : (l : Last k.notes) → (i : IsNoted P U.tenants l.one) → i.tenant.standing ≡ Retired → HasNobody U
    youngest_left l i gone =
        let whole : trail P U.tenants ≡ (k.gone ++ l.front) ++ l.one ∷ [] = k.path ∙ (ap (λ z. k.gone ++ z) l.is ∙ sym (append_assoc k.gone l.front (l.one ∷ []))) in
        let order = ordered P U.tenants (k.gone ++ l.front) l.one [] whole in
        let Dead : Note → Type 0 = λ n. (t : Tenant) → at U.tenants n.at ≡ Some t → IsNotLive t in
        let before : AllByRecursion Dead (k.gone ++ l.front) = all_map (λ n. n.at < l.one.at) Dead (λ n lt t is live. gone_live
        (sym gone ∙ live_behind P U.tenants (unit_sound P C h legal) n.at l.one.at t i.tenant lt is live i.is i.on)) (k.gone ++ l.front) order.before in
        let last : Dead l.one = λ t is live. gone_live (sym gone ∙ (ap (λ (z : Tenant). z.standing) (same_Some i.tenant t (sym i.is ∙ is)) ∙ live)) in
        dead_all (subst (AllByRecursion Dead) (sym whole) (all_both Dead (k.gone ++ l.front) (l.one ∷ []) before (last, tt)))

-- The store and the load of a link word.
use Rattle.std.proofs.Common.{◌≡◌, ◌≢◌, ℕ, false, List, [], ◌∷◌, ◌++◌, Some, refl, sym, ap, ◌∙◌, subst, inl, inr, ⊎_elim, arith}
use Rattle.std.specs.Prelude.{is_none}
use Rattle.std.proofs.lemmas.Option.{same_Some}
use mathlib.Core.Logic.{dite}
use native.Mathlib.Decide.{ℕ_discrete, dec_lt}
use Rattle.instructions.specs.Programs.{Program}
use Rattle.inorder.specs.declared.history.Act.{Act}
use Rattle.inorder.specs.declared.history.Act.TheVariants.{Claim, Deliver, Finish, Link, Load, Mend, Retire, Speculate, Squash}
use Rattle.inorder.specs.declared.history.Entry.{Entry}
use Rattle.inorder.specs.declared.history.Event.TheVariants.{Does}
use Rattle.inorder.specs.declared.history.Source.{Source}
use Rattle.inorder.specs.declared.history.Source.TheVariants.{First, Second}
use Rattle.inorder.specs.declared.history.Step.{Step}
use Rattle.inorder.specs.declared.history.Step.TheVariants.{Let, On, Renew}
use Rattle.inorder.specs.Callers.{CanAsk, IsLastAt}
use Rattle.inorder.specs.History.{IsLegal, IsTheirAct, IsTheirs, front, own, taken_of, unit_of}
use Rattle.inorder.specs.Legal.{Allowed, applied}
use Rattle.inorder.specs.Steps.{linked}
use Rattle.inorder.specs.Tenants.{Live, Tenant, operand}
use Rattle.inorder.specs.Unit.{Sizes, UpdateUnit, at, is_old, older, recent, value_of}
use Rattle.inorder.proofs.Letting.{IsBesides}
use Rattle.inorder.proofs.Moves.{Goes, IsActed, IsLeft, IsNoLink, IsNoLinkAct, at_changed, came, goes}
use Rattle.inorder.proofs.OperandsShown.{operands_follow}
use Rattle.inorder.proofs.Positions.{younger_at}
use Rattle.inorder.proofs.Recent.{live_is_last, old_are_gone, old_kept}
use Rattle.inorder.proofs.Serving.{linked_creator, linked_way, other_way, source_same}
use Rattle.inorder.proofs.Sound.{IsSound}
use Rattle.inorder.proofs.Stations.{is_ring, stands}
use Rattle.inorder.proofs.StationsShown.{stations_follow}
use Rattle.ruu_words.specs.declared.place.Place.{Place}
use Rattle.ruu_words.specs.declared.place.Place.TheVariants.{Info, Link as LinkPlace, Operand, Station}
use Rattle.ruu_words.specs.declared.rule.Draft.{Draft}
use Rattle.ruu_words.specs.declared.rule.Draft.TheVariants.{Nothing}
use Rattle.ruu_words.specs.declared.rule.View.{View}
use Rattle.ruu_words.specs.Content.{Content, IsDraft, IsLinkWord, IsStation}
use Rattle.ruu_words.specs.Fields.{pack_link}
use Rattle.ruu_words.specs.Kinds.{Asks, IsNamed, IsTenant, ReadsLink}
use Rattle.ruu_words.proofs.Building.{looks}
use Rattle.ruu_words.specs.Plans.{Plans}
use Rattle.ruu_words.proofs.Groups.{WasLinked, draft_stays, info_stays, link_stays, operand_drafted}
use Rattle.inorder.proofs.Histories.{allowed_steps, unit_sound}
use Rattle.ruu_words.proofs.Stays.{front_stays, named_stays, tenant_stays_apart}

linked_name : (ts : List Tenant) (k : Source) (t : Tenant) → ((linked ts t k).station ≡ t.station) × ((linked ts t k).tag ≡ t.tag)
linked_name ts First t = (refl, refl)
linked_name ts Second t = (refl, refl)

no_link : (C : Sizes) (U : UpdateUnit) (by : ℕ) (s : Step) → by ≢ front → IsTheirs C U by s → IsNoLink s
no_link C U by (Let index predicted first second) ne h = tt
no_link C U by Renew ne h = tt
no_link C U by (On p act) ne h = go act h
  where
    go : (act : Act) → IsTheirAct by act → IsNoLinkAct act
    go (Link k) h = absurd (ne h)
    go (Deliver k) h = tt
    go Claim h = tt
    go Finish h = tt
    go Load h = tt
    go (Retire n) h = tt
    go Squash h = tt
    go (Speculate s) h = absurd h
    go Mend h = tt

pub last_stays : (P : Program) (C : Sizes) (U : UpdateUnit) (by : ℕ) (s : Step) → IsBesides s →
    Allowed P C U by s → IsSound P U.tenants → (r c : ℕ) → IsLastAt U r c → IsLastAt (applied P C U by s) r c
last_stays P C U by (Let i x f n) b a ok r c l = absurd b
last_stays P C U by Renew b a ok r c l = absurd b
last_stays P C U by (On p act) b a ok r c l = λ q u lt is e. let was = came P C U by p act a ok q u is in l q was.tenant lt was.is (sym was.goes.station ∙ e)

module _ (P : Program) (C : Sizes) where
  pub link_read_plan : (id : ℕ) (v : View) (p c : ℕ) (k : Source) → Plans P C id v (LinkPlace p c k) (λ n. n) (ReadsLink P C p c k)
  link_read_plan id v p c k between d legal same apart caller mine draft n small content = looks P C id (between ++ v.seen) d legal draft (LinkPlace p c k) n content (ReadsLink P C p c k n)
      (record { none = refl; word = content })

  ask_stays : (k : Source) (q : ℕ) (by : ℕ) (s : Step) (t t' : Tenant) → IsNoLink s → Goes by s t t' → CanAsk k q t → CanAsk k q t'
  ask_stays k q by s t t' plain m a = record { way = m.way plain k ∙ a.way; creator = m.creator k ∙ a.creator }

  module _ (id : ℕ) (h : List Entry) (legal : IsLegal P C h) (r c q p : ℕ) (k : Source) (t u : Tenant) (is : at (unit_of P C h).tenants r ≡ Some t) (there : at (unit_of P C h).tenants q ≡ Some u)
      (t_new : is_old (unit_of P C h) r ≡ false) (u_new : is_old (unit_of P C h) q ≡ false) (can : CanAsk k q t) (at_c : t.station ≡ c) (at_p : u.station ≡ p) (last : IsLastAt (unit_of P C h) r c)
      (may : Allowed P C (unit_of P C h) id (On r (Link k))) where
    abbrev U : UpdateUnit
    U = unit_of P C h

    abbrev us : List Tenant
    us = U.tenants

    abbrev V : UpdateUnit
    V = applied P C U id (On r (Link k))

    abbrev t' : Tenant
    t' = linked (older us r) t k

    -- the tenant that asked, afterwards
    here : at V.tenants r ≡ Some (linked (older us r) t k)
    here = ⊎_elim (λ (z : IsActed P us id r (Link k) t r t). z.now) (λ (z : IsLeft P us id r (Link k) r t). absurd (z.position refl)) (at_changed P us id r (Link k) t is r t is)

    -- a live tenant of the station is that one
    only : (x : ℕ) (y : Tenant) → at us x ≡ Some y → y.standing ≡ Live → y.station ≡ c → x ≡ r
    only x y at_x live e = dite (ℕ_discrete x r) (λ z. z)
        (λ ne. elim (dec_lt r x) [
          | yes l ↦ absurd (last x y l at_x e)
          | no l ↦ (let ring = is_ring C (recent U) (stands P C (taken_of h) (allowed_steps P C h legal)) in
              absurd (younger_at (λ z. z.station ≢ y.station) us x (live_is_last C U ring (old_are_gone P C h legal) x y at_x live) r t (omega arith) is (at_c ∙ sym e)))
        ])

    pub new_word : IsLinkWord V p c k (pack_link u.tag t.tag)
    new_word =
        let g = goes P C U id (On r (Link k)) may (unit_sound P C h legal) q u there in
        let name = linked_name (older us r) k t in
        record {
          names = inr (record {
            q = q;
            r = r;
            producer = g.tenant;
            consumer = linked (older us r) t k;
            is = record {
              producer_is = g.is;
              consumer_is = here;
              in_time = is_none (value_of (older us r) (operand k t).creator);
              way = linked_way (older us r) k t;
              creator = linked_creator (older us r) k k t ∙ can.creator;
            };
            producer_new = old_kept P C U id (On r (Link k)) (λ e. cc e) may q ∙ u_new;
            consumer_new = old_kept P C U id (On r (Link k)) (λ e. cc e) may r ∙ t_new;
            at_p = g.goes.station ∙ at_p;
            at_c = name.0 ∙ at_c;
            word = λ i. pack_link (sym g.goes.tag i) (sym name.1 i);
          });
          stands = λ q2 r2 producer consumer i live e f.
              let y = came P C U id r (Link k) may (unit_sound P C h legal) r2 consumer i.consumer_is in
              let one : r2 ≡ r = only r2 y.tenant y.is (y.goes.live live) (sym y.goes.station ∙ f) in
              let same : consumer ≡ linked (older us r) t k = same_Some consumer (linked (older us r) t k) (sym i.consumer_is ∙ (ap (at V.tenants) one ∙ here)) in
              let from : q2 ≡ q = same_Some q2 q (sym i.creator ∙ (ap (λ (x : Tenant). (operand k x).creator) same ∙ (linked_creator (older us r) k k t ∙ can.creator))) in
              let producer_is : producer ≡ g.tenant = same_Some producer g.tenant (sym i.producer_is ∙ (ap (at V.tenants) from ∙ g.is)) in
              λ j. pack_link ((sym g.goes.tag ∙ ap (λ (x : Tenant). x.tag) (sym producer_is)) j) ((sym name.1 ∙ ap (λ (x : Tenant). x.tag) (sym same)) j);
        }

    -- another link word
    pub other_word : (p2 c2 : ℕ) (k2 : Source) (n : ℕ) → LinkPlace p2 c2 k2 ≢ LinkPlace p c k → IsLinkWord U p2 c2 k2 n → IsLinkWord V p2 c2 k2 n
    other_word p2 c2 k2 n other l = link_stays P C U id r (Link k) may (unit_sound P C h legal) p2 c2 k2 n back l
      where
        back : WasLinked P C U id r (Link k) p2 c2 k2
        back q2 r2 producer consumer consumer' at_r2 i m e f = ⊎_elim
            (λ (z : IsActed P us id r (Link k) t r2 consumer).
            let same : consumer' ≡ linked (older us r) t k = same_Some consumer' (linked (older us r) t k) (sym i.consumer_is ∙ z.now) in ⊎_elim
            (λ (kk : k2 ≡ k).
            let from : q2 ≡ q = same_Some q2 q (sym i.creator ∙ (ap (λ (x : Tenant). (operand k2 x).creator) same ∙
            (linked_creator (older us r) k2 k t ∙ (ap (λ j. (operand j t).creator) kk ∙ can.creator)))) in
            let g = goes P C U id (On r (Link k)) may (unit_sound P C h legal) q u there in
            let producer_is : producer ≡ g.tenant = same_Some producer g.tenant (sym i.producer_is ∙ (ap (at V.tenants) from ∙ g.is)) in
            let pp : p2 ≡ p = sym e ∙ (ap (λ (x : Tenant). x.station) producer_is ∙ (g.goes.station ∙ at_p)) in
            let cc' : c2 ≡ c = sym f ∙ (ap (λ (x : Tenant). x.station) same ∙ ((linked_name (older us r) k t).0 ∙ at_c)) in
            absurd (other (λ j. LinkPlace (pp j) (cc' j) (kk j))))
            (λ (ne : k2 ≢ k). (i.in_time, ap (λ (x : Tenant). (operand k2 x).way) z.tenant ∙ (sym (other_way (older us r) k2 k t ne) ∙ (ap (λ (x : Tenant). (operand k2 x).way) (sym same) ∙ i.way))))
            (source_same k2 k))
            (λ (z : IsLeft P us id r (Link k) r2 consumer).
            let same : consumer' ≡ consumer = same_Some consumer' consumer (sym i.consumer_is ∙ z.now) in
            (i.in_time, ap (λ (x : Tenant). (operand k2 x).way) (sym same) ∙ i.way))
            (at_changed P us id r (Link k) t is r2 consumer at_r2)

    pub others : (d : Draft) → d ≡ Nothing → IsDraft P C U d → (y : Place) (n : ℕ) → y ≢ LinkPlace p c k → Content P C U d y n → Content P C V d y n
    others d none draft (Station x) n other w =
        subst (λ z. IsStation z n) (sym (((stations_follow P C (taken_of h) id).moves (allowed_steps P C h legal)).kept r (Link k) x tt may)) w
    others d none draft (Info x) n other w = info_stays P C U id r (Link k) may (unit_sound P C h legal) d (draft_stays P C U id (On r (Link k)) d (inl none) may (unit_sound P C h legal) draft).1 x n
        w
    others d none draft (Operand x j) n other w =
        operand_drafted P C U V x j n ((operands_follow P C (taken_of h) id (allowed_steps P C h legal)).kept r (Link k) x j tt may) d
        (draft_stays P C U id (On r (Link k)) d (inl none) may (unit_sound P C h legal) draft).1 w
    others d none draft (LinkPlace p2 c2 k2) n other w = other_word p2 c2 k2 n other w

  pub link_plan : (id : ℕ) (v : View) (p c gp gc : ℕ) (k : Source) (r q new : ℕ) → id ≡ front →
      v.draft ≡ Nothing → IsTenant (unit_of P C v.seen) r c gc (CanAsk k q) →
      IsNamed (unit_of P C v.seen) q p gp → IsLastAt (unit_of P C v.seen) r c → new ≡ pack_link gp gc
      → Plans P C id v (LinkPlace p c k) (λ _. new) (λ _. Asks P C r k)
  link_plan id v p c gp gc k r q new is_front none consumer producer last new_is between d legal same apart caller mine draft n small content =
      let h : List Entry = between ++ v.seen in
      let U : UpdateUnit = unit_of P C h in
      let not_own : own front between ≡ [] = subst (λ z. own z between ≡ []) is_front apart in
      let i = tenant_stays_apart P C front r c gc (CanAsk k q) (λ U by step t t' other theirs may m f. ask_stays k q by step t t' (no_link C U by step other theirs) m f) between v.seen legal same
      not_own consumer in
      let j = named_stays P C q p gp between v.seen legal same producer in
      let l = front_stays P C (λ U. IsLastAt U r c) (λ U by s b a ok x. last_stays P C U by s b a ok r c x) between v.seen legal not_own last in
      let may : Allowed P C U id (On r (Link k)) = record { tenant = i.tenant; is = i.is; may = record { way = i.fact.way } } in
      let quiet : d ≡ Nothing = sym (mine is_front) ∙ none in
      record {
        events = Does (On r (Link k)) ∷ [];
        draft = d;
        mine = λ _. refl;
        legal = (legal, (is_front, may));
        same = refl;
        proper = (draft_stays P C U id (On r (Link k)) d (inl quiet) may (unit_sound P C h legal) draft).0;
        here = subst (λ z. IsLinkWord (applied P C U id (On r (Link k))) p c k z) ((λ x. pack_link (j.tag_is x) (i.tag_is x)) ∙ sym new_is)
            (new_word id h legal r c q p k i.tenant j.tenant i.is j.is i.new j.new i.fact i.station_is j.station_is l may);
        else = λ y m _ other w. others id h legal r c q p k i.tenant j.tenant i.is j.is i.new j.new i.fact i.station_is j.station_is l may d quiet draft y m other w;
        kind = record { added = refl; draft = quiet };
      }

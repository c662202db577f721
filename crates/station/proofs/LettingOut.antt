-- The steps of a let, one after another: what the front knew stays true up to the last.
use Rattle.std.proofs.Common.{◌≡◌, ℕ, suc, ◌+◌, ◌%◌, ◌^◌, ◌<◌, List, [], ◌∷◌, ◌++◌, map, Option, refl, sym, ap, ◌∙◌, subst, arith}
use Rattle.std.proofs.Math.Nat.{mod-add-mod}
use Rattle.instructions.specs.Programs.{Program}
use Rattle.inorder.specs.declared.history.Entry.{Entry}
use Rattle.inorder.specs.declared.history.Event.{Event}
use Rattle.inorder.specs.History.{IsLegal, entry, front, own, taken_of, unit_of}
use Rattle.inorder.specs.OneHistory.{Adds}
use Rattle.inorder.specs.Replies.{last_tag}
use Rattle.inorder.specs.StationWords.{station_word}
use Rattle.inorder.specs.Tenants.{on_path}
use Rattle.inorder.specs.Unit.{how_many, next_station, next_tag, recent, Sizes, UpdateUnit}
use Rattle.inorder.proofs.Histories.{adds_on, allowed_steps}
use Rattle.inorder.proofs.StationsShown.{stations_follow}
use Rattle.ruu_words.specs.declared.place.Place.TheVariants.{Station}
use Rattle.ruu_words.specs.declared.rule.Draft.{Draft}
use Rattle.ruu_words.specs.declared.rule.Draft.TheVariants.{Nothing}
use Rattle.ruu_words.specs.declared.rule.View.{View}
use Rattle.ruu_words.specs.Content.{IsOperandOf, IsStation}
use Rattle.ruu_words.specs.Fields.{half_of, index_of, pack_info, predicted_of, tag_of}
use Rattle.ruu_words.specs.Kinds.{Drafts, Lets}
use Rattle.ruu_words.specs.Telling.{Grows}
use Rattle.ruu_words.proofs.Drafting.{still_let}
use Rattle.ruu_words.proofs.Packing.{infos_read_back}
use Rattle.station.specs.declared.answers.Tenant.{Tenant}
use Rattle.station.specs.Letting.{IsLetOut, MayLetOut, ShowsTenant, let_of, supply_of}
use Rattle.station.specs.Steps.{Sees}
use Rattle.station.specs.Answers.{IsLetNow, MayLetNow}
use Rattle.station.specs.Calls.{IsAbout, IsLegalCall, IsSameCall, LetsTenant, TakesStep, TheCall, caller, let_place, new_operand, new_tag}
use Rattle.station.proofs.Adding.{adds_these}
use Rattle.station.proofs.Calls.{after, joined, taken}

-- a caller that has added nothing
pub adds_none : (P : Program) (C : Sizes) (by : ℕ) (h : List Entry) → IsLegal P C h → Adds P C by h h []
adds_none P C by h legal = record { begins = record { more = []; is = refl }; legal = legal; one_table = refl; mine = refl }

module _ (P : Program) (C : Sizes) (by : ℕ) (t : Tenant) (old : List Entry) where
  abbrev pub U : List Entry → UpdateUnit
  U h = unit_of P C h

  -- the front on its way
  pub record Ready (draft : Draft) (station tag : ℕ) (me : View) : Type 0 where
    pub by_is : by ≡ front
    pub draft_is : me.draft ≡ draft
    pub may : MayLetOut P C (U me.seen) t
    pub station_is : next_station C (recent (U me.seen)) ≡ station
    pub tag_is : next_tag C (recent (U me.seen)) ≡ tag
    pub adds : Adds P C by old me.seen []

  pub starts : (me : View) → old ≡ me.seen → IsLegal P C me.seen → by ≡ front → me.draft ≡ Nothing → MayLetOut P C (U me.seen) t
      → Ready Nothing (next_station C (recent (U me.seen))) (next_tag C (recent (U me.seen))) me
  starts me e legal by_is draft may = record {
    by_is = by_is;
    draft_is = draft;
    may = may;
    station_is = refl;
    tag_is = refl;
    adds = subst (λ h. Adds P C by h me.seen []) (sym e) (adds_none P C by me.seen legal);
  }

  -- a step that adds nothing
  pub goes_on : (draft next : Draft) (station tag : ℕ) (v w : View) (Kind : List Entry → Draft → List Event → Type 0) → Ready draft station tag v → (g : Grows P C by v w Kind) → g.events ≡ [] →
      w.draft ≡ next → Ready next station tag w
  goes_on draft next station tag v w Kind r g none is =
      let seen : w.seen ≡ g.between ++ v.seen = g.is ∙ ap (λ es. map (entry by) es ++ (g.between ++ v.seen)) none in
      let legal : IsLegal P C (g.between ++ v.seen) = subst (IsLegal P C) seen g.legal in
      let apart : own front g.between ≡ [] = subst (λ i. own i g.between ≡ []) r.by_is g.not_own in
      let stay = still_let P C t.index t.predicted (supply_of t.sources.0) (supply_of t.sources.1) g.between v.seen legal apart r.may.may in
      let tag_same : next_tag C (recent (U (g.between ++ v.seen))) ≡ next_tag C (recent (U v.seen)) = stay.tag in
      let station_same : next_station C (recent (U (g.between ++ v.seen))) ≡ next_station C (recent (U v.seen)) = ap (λ x. x.station) stay.new in
      let there : MayLetOut P C (U (g.between ++ v.seen)) t = record {
        may = stay.may;
        half = r.may.half ∙ sym (ap (λ x. x.half) stay.new);
        tag = subst (λ n. n < last_tag) (sym tag_same)
            r.may.tag;
      }
      in
      record {
        by_is = r.by_is;
        draft_is = is;
        may = subst (λ h. MayLetOut P C (U h) t) (sym seen) there;
        station_is = ap (λ h. next_station C (recent (U h))) seen ∙ (station_same ∙ r.station_is);
        tag_is = ap (λ h. next_tag C (recent (U h))) seen ∙ (tag_same ∙ r.tag_is);
        adds = adds_on P C by old v.seen w.seen [] [] r.adds (adds_these P C by v w Kind [] g none);
      }

  -- the tag that a look at its station finds
  pub tag_found : (draft : Draft) (station tag n : ℕ) (me : View) → Ready draft station tag me → IsStation (station_word C (recent (U me.seen)) station) n → tag_of n ≡ tag
  tag_found draft station tag n me r word =
      let moves = (stations_follow P C (taken_of me.seen) by).moves (allowed_steps P C me.seen r.adds.legal) in
      let free = moves.before_let t.index t.predicted (supply_of t.sources.0) (supply_of t.sources.1) r.may.may in
      word.tag ∙ (ap (λ s. (station_word C (recent (U me.seen)) s).tag) (sym r.station_is) ∙ (free.1 ∙ r.tag_is))

  -- the last step
  pub lets_out : (draft : Draft) (tag : ℕ) (v w : View) → Ready draft (next_station C (recent (U old))) tag v
      → (g : Grows P C by v w (Lets P C t.index t.predicted (supply_of t.sources.0) (supply_of t.sources.1))) → IsLetOut P C by t old w.seen
  lets_out draft tag v w r g =
      let Kind = Lets P C t.index t.predicted (supply_of t.sources.0) (supply_of t.sources.1) in
      let added : g.events ≡ let_of t ∷ [] = g.kind.added in
      let seen : w.seen ≡ entry by (let_of t) ∷ (g.between ++ v.seen) = g.is ∙ ap (λ es. map (entry by) es ++ (g.between ++ v.seen)) added in
      let legal : IsLegal P C (entry by (let_of t) ∷ (g.between ++ v.seen)) = subst (IsLegal P C) seen g.legal in
      let apart : own front g.between ≡ [] = subst (λ i. own i g.between ≡ []) r.by_is g.not_own in
      let stay = still_let P C t.index t.predicted (supply_of t.sources.0) (supply_of t.sources.1) g.between v.seen legal.0 apart r.may.may in
      let station_same : next_station C (recent (U (g.between ++ v.seen))) ≡ next_station C (recent (U v.seen)) = ap (λ x. x.station) stay.new in
      record {
        adds = adds_on P C by old v.seen w.seen [] (let_of t ∷ []) r.adds (adds_these P C by v w Kind (let_of t ∷ []) g added);
        point = g.between ++ v.seen;
        is = seen;
        station = station_same ∙ r.station_is;
      }

-- A call of the front that lets a tenant, begun as v and now at w, for the station and the tag that it has read
pub record IsReady (v : TheCall) (t : Tenant) (station tag : ℕ) (draft : Draft) (w : TheCall) : Type 0 where
  pub same : IsSameCall v w
  pub ready : Ready v.core.program v.core.sizes v.view.by t v.view.seen draft (let_place v) (new_tag v) w.view
  pub station_is : let_place v ≡ station
  pub tag_is : tag ≡ new_tag v

module _ {v : TheCall} {t : Tenant} {station tag : ℕ} {draft : Draft} {w : TheCall} (r : IsReady v t station tag draft w) where
  may_at : MayLetNow t w.core (caller w)
  may_at = after (λ z. MayLetOut z.0.program z.0.sizes (unit_of z.0.program z.0.sizes w.view.seen) t) r.same r.ready.may

  place_at : let_place w ≡ let_place v
  place_at = after (λ z. next_station z.0.sizes (recent (unit_of z.0.program z.0.sizes w.view.seen)) ≡ let_place v) r.same r.ready.station_is

  pub tag_at : tag ≡ new_tag w
  tag_at = r.tag_is ∙ sym (after (λ z. next_tag z.0.sizes (recent (unit_of z.0.program z.0.sizes w.view.seen)) ≡ new_tag v) r.same r.ready.tag_is)

  -- the call is about to let the tenant at that station
  pub about_at : IsAbout w station draft t
  about_at = record { draft_is = r.ready.draft_is; may = may_at; station_is = place_at ∙ r.station_is }

  -- an operand's word with that tag is one of the tenant's
  pub operand_at : {value : Option ℕ} {word : ℕ} → IsOperandOf (record { tag = tag; value = value }) word → IsOperandOf (new_operand w value) word
  operand_at {value} {word} = subst (λ z. IsOperandOf (record { tag = z; value = value }) word) tag_at

  -- a store of one of the tenant's words
  pub stored : {next : Draft} {x : TheCall} → TakesStep w x (λ P C. Drafts P C next) → IsReady v t station tag next x
  stored {next} {x} s =
      let g = taken r.same s in
      record {
        same = joined r.same s.same;
        ready = goes_on v.core.program v.core.sizes v.view.by t v.view.seen draft next (let_place v) (new_tag v) w.view x.view (Drafts v.core.program v.core.sizes next) r.ready g g.kind.none
            g.kind.draft;
        station_is = r.station_is;
        tag_is = r.tag_is;
      }

  pub let_now : {x : TheCall} → TakesStep w x (LetsTenant t) → IsLetNow t v.core (caller v) (caller x)
  let_now {x} s = lets_out v.core.program v.core.sizes v.view.by t v.view.seen draft (new_tag v) w.view x.view r.ready (taken r.same s)

-- a packed info word shows its tenant
pub shows_tenant : (t : Tenant) {n : ℕ} → n ≡ pack_info t.half t.index t.predicted → t.index < 2 ^ 31 → t.predicted < 2 ^ 32 → ShowsTenant t n
shows_tenant t is small word =
    let back = infos_read_back t.half t.index t.predicted small word in
    record { half = ap half_of is ∙ back.half_is; index = ap index_of is ∙ back.index_is; predicted = ap predicted_of is ∙ back.predicted_is }

-- The first step: a look at the station where it goes, and the tag that it finds
pub looked : {v w : TheCall} {t : Tenant} {station n tag : ℕ} → IsLegalCall v → v.view.by ≡ front → IsAbout v station Nothing t →
    TakesStep v w (λ P C. Sees P C v.view.by v.view (Station station) n) → tag ≡ tag_of n → IsReady v t station tag Nothing w
looked {v} {w} {t} {station} {n} {tag} legal by_is about took is =
    let P = v.core.program in
    let C = v.core.sizes in
    let h : List Entry = took.grows.between ++ v.view.seen in
    let seen : w.view.seen ≡ h = took.grows.is ∙ ap (λ es. map (entry v.view.by) es ++ h) took.grows.kind.none in
    let word : IsStation (station_word C (recent (unit_of P C w.view.seen)) (let_place v)) n = subst (λ (z : List Entry × ℕ). IsStation (station_word C (recent (unit_of P C z.0)) z.1) n)
    (λ i. (sym seen i, sym about.station_is i)) took.grows.kind.content in
    let begun = starts P C v.view.by t v.view.seen v.view refl legal by_is about.draft_is about.may in
    let ready = goes_on P C v.view.by t v.view.seen Nothing Nothing (let_place v) (new_tag v) v.view w.view (Sees P C v.view.by v.view (Station station) n) begun took.grows took.grows.kind.none
    (took.grows.kind.mine by_is ∙ about.draft_is) in
    record { same = took.same; ready = ready; station_is = about.station_is; tag_is = is ∙ tag_found P C v.view.by t v.view.seen Nothing (let_place v) (new_tag v) n w.view ready word }

-- the station after a let
pub next_out : {v w : TheCall} {t : Tenant} → IsSameCall v w → IsLetNow t v.core (caller v) (caller w) → let_place w ≡ (let_place v + 1) % v.core.sizes.ring
next_out {v} {w} {t} on out =
    let P = v.core.program in
    let C = v.core.sizes in
    let n : ℕ = how_many on_path (recent (unit_of P C out.point)) in
    let one : n + 1 ≡ suc n = omega arith in
    let next : (let_place v + 1) % C.ring ≡ suc n % C.ring = ap (λ s. (s + 1) % C.ring) (sym out.station) ∙ (mod-add-mod n C.ring 1 ∙ ap (λ z. z % C.ring) one) in
    after (λ z. next_station z.0.sizes (recent (unit_of z.0.program z.0.sizes w.view.seen)) ≡ (let_place v + 1) % C.ring) on
    (ap (λ h. next_station C (recent (unit_of P C h))) out.is ∙ sym next)

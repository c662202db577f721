-- What stays while a question is asked: the path, the last tenants of stations, and the next station.
use Rattle.std.proofs.Common.{◌≡◌, ℕ, ◌%◌, true, List, [], ◌∷◌, ◌++◌, map, refl, sym, ap, ◌∙◌, subst, ⊎_elim}
use Rattle.instructions.specs.Programs.{Program}
use Rattle.inorder.specs.declared.history.Act.{Act}
use Rattle.inorder.specs.declared.history.Act.TheVariants.{Link}
use Rattle.inorder.specs.declared.history.Entry.{Entry}
use Rattle.inorder.specs.declared.history.Event.{Event}
use Rattle.inorder.specs.declared.history.Event.TheVariants.{Does}
use Rattle.inorder.specs.declared.history.Source.{Source}
use Rattle.inorder.specs.declared.history.Source.TheVariants.{First, Second}
use Rattle.inorder.specs.declared.history.Step.{Step}
use Rattle.inorder.specs.declared.history.Step.TheVariants.{On}
use Rattle.inorder.specs.Callers.{IsLastAt}
use Rattle.inorder.specs.History.{IsLegal, entry, front, own, unit_of, renewals}
use Rattle.inorder.specs.Legal.{Allowed, applied, changed}
use Rattle.inorder.specs.Replies.{Has}
use Rattle.inorder.specs.Steps.{delivered, linked}
use Rattle.inorder.specs.Tenants.{Tenant, on_path}
use Rattle.inorder.specs.Unit.{Sizes, UpdateUnit, next_station, older, recent, younger}
use Rattle.inorder.proofs.Ends.{Acted, exact}
use Rattle.inorder.proofs.Histories.{legal_before, unit_sound}
use Rattle.inorder.proofs.Letting.{IsBesides}
use Rattle.inorder.proofs.Moves.{came}
use Rattle.ruu_words.specs.declared.rule.Draft.{Draft}
use Rattle.ruu_words.specs.declared.rule.View.{View}
use Rattle.ruu_words.specs.Telling.{Grows}
use Rattle.ruu_words.proofs.Asking.{path_on}
use Rattle.ruu_words.proofs.Linking.{last_stays}
use Rattle.ruu_words.proofs.Stays.{front_stays, same_before}
use Rattle.station.proofs.Seated.{next_stays}
use Rattle.inorder.proofs.Recent.{counts_same}

-- a link and a delivery leave the path
pub linked_path : (ts : List Tenant) (k : Source) (t : Tenant) → on_path (linked ts t k) ≡ on_path t
linked_path ts First t = refl
linked_path ts Second t = refl

pub delivered_path : (ts : List Tenant) (k : Source) (t : Tenant) → on_path (delivered ts t k) ≡ on_path t
delivered_path ts First t = refl
delivered_path ts Second t = refl

module _ (P : Program) (C : Sizes) where
  pub path_stays : (U : UpdateUnit) (by : ℕ) (s : Step) → IsBesides s → Allowed P C U by s → (r : ℕ) → Has U r (λ t. on_path t ≡ true) → Has (applied P C U by s) r (λ t. on_path t ≡ true)
  path_stays U by s b a r i = ⊎_elim
      (λ e. record { tenant = i.tenant; is = e; fact = i.fact })
      (λ (z : Acted P U by s (applied P C U by s).tenants r i.tenant).
      record {
        tenant = changed P by z.act i.tenant (older U.tenants r);
        is = z.now;
        fact = path_on P by z.act (younger U.tenants r) i.tenant (older U.tenants r) (subst IsBesides z.step b) z.may
            i.fact;
      })
      (exact P C U by s a r i.tenant i.is)

  pub last_on : (r s : ℕ) (more seen : List Entry) → IsLegal P C (more ++ seen) → own front more ≡ [] → IsLastAt (unit_of P C seen) r s → IsLastAt (unit_of P C (more ++ seen)) r s
  last_on r s more seen legal none last = front_stays P C (λ U. IsLastAt U r s) (λ U by st b a ok x. last_stays P C U by st b a ok r s x) more seen legal none last

  -- also under the front's link
  pub last_linked : (by p r s : ℕ) (k : Source) (h : List Entry) → IsLegal P C (entry by (Does (On p (Link k))) ∷ h) → IsLastAt (unit_of P C h) r s →
      IsLastAt (unit_of P C (entry by (Does (On p (Link k))) ∷ h)) r s
  last_linked by p r s k h legal last = λ q u lt is e.
      let was = came P C (unit_of P C h) by p (Link k) legal.1.1 (unit_sound P C h legal.0) q u is in
      last q was.tenant lt was.is (sym was.goes.station ∙ e)

  -- The front's next station

  abbrev pub Next : List Entry → ℕ
  Next h = next_station C (recent (unit_of P C h))

  next_between : (more seen : List Entry) → IsLegal P C (more ++ seen) → own front more ≡ [] → Next (more ++ seen) ≡ Next seen
  next_between more seen legal none = front_stays P C (λ U. next_station C (recent U) ≡ Next seen) (λ U b st ok a sound q. next_stays P C U b st ok a sound ∙ q) more seen legal none refl

  pub next_act : (U : UpdateUnit) (by p : ℕ) (act : Act) → (a : Allowed P C U by (On p act)) → on_path (changed P by act a.tenant (older U.tenants p)) ≡ on_path a.tenant →
      next_station C (recent (applied P C U by (On p act))) ≡ next_station C (recent U)
  next_act U by p act a same =
      ap (λ n. n % C.ring) (counts_same P U by p act a.tenant a.is on_path same)

  -- Each step of the front

  module _ (by : ℕ) (is : by ≡ front) (v w : View) (Kind : List Entry → Draft → List Event → Type 0) (e : Grows P C by v w Kind) where
    pub behind : IsLegal P C (e.between ++ v.seen)
    behind = legal_before P C (map (entry by) e.events) (e.between ++ v.seen) (subst (IsLegal P C) e.is e.legal)

    pub apart : own front e.between ≡ []
    apart = subst (λ z. own z e.between ≡ []) is e.not_own

    pub no_renewal : renewals (e.between ++ v.seen) ≡ renewals v.seen
    no_renewal = same_before P C by v w Kind e

    pub seen_by : (es : List Event) → e.events ≡ es → w.seen ≡ map (entry by) es ++ (e.between ++ v.seen)
    seen_by es added = e.is ∙ ap (λ z. map (entry by) z ++ (e.between ++ v.seen)) added

    pub next_by : (es : List Event) → e.events ≡ es → Next (map (entry by) es ++ (e.between ++ v.seen)) ≡ Next (e.between ++ v.seen) → Next w.seen ≡ Next v.seen
    next_by es added same = ap Next (seen_by es added) ∙ (same ∙ next_between e.between v.seen behind apart)

-- What a call of the front has added, taken apart: what others keep after its last event, and what stays.
use Rattle.std.proofs.Common.{◌≡◌, ℕ, List, [], ◌∷◌, sym, ap, ◌∙◌, subst}
use Rattle.std.specs.List.{AllByRecursion}
use Rattle.instructions.specs.Programs.{Program}
use Rattle.inorder.specs.declared.history.Entry.{Entry}
use Rattle.inorder.specs.declared.history.Event.{Event}
use Rattle.inorder.specs.declared.history.Event.TheVariants.{Does, Marks, Refuses}
use Rattle.inorder.specs.declared.history.Step.{Step}
use Rattle.inorder.specs.History.{IsLegal, entry, front, own, unit_of}
use Rattle.inorder.specs.OneHistory.{Adds}
use Rattle.inorder.specs.Legal.{Allowed, applied}
use Rattle.inorder.specs.Unit.{Sizes, UpdateUnit}
use Rattle.inorder.proofs.Histories.{legal_before, own-append, unit_sound}
use Rattle.inorder.proofs.Letting.{IsBesides}
use Rattle.inorder.proofs.Sound.{IsSound}
use Rattle.ruu_words.proofs.Stays.{front_stays}
use Rattle.station.proofs.Splitting.{LastEvent, last_event, no_more}

module _ (P : Program) (C : Sizes) where
  pub no_event : (by : ℕ) (old new : List Entry) → (a : Adds P C by old new []) → own by a.begins.more ≡ []
  no_event by old new a = no_more (own by a.begins.more) (own by old) (sym (own-append by a.begins.more old) ∙ (ap (own by) (sym a.begins.is) ∙ a.mine))

  -- What others keep

  abbrev pub IsStable : (UpdateUnit → Type 0) → Type 0
  IsStable Q = (U : UpdateUnit) (by : ℕ) (s : Step) → IsBesides s → Allowed P C U by s → IsSound P U.tenants → Q U → Q (applied P C U by s)

  pub stays : (Q : UpdateUnit → Type 0) → IsStable Q → (old new : List Entry) → Adds P C front old new [] → Q (unit_of P C old) → Q (unit_of P C new)
  stays Q keeps old new a q =
      subst (λ h. Q (unit_of P C h)) (sym a.begins.is)
      (front_stays P C Q keeps a.begins.more old (subst (IsLegal P C) a.begins.is a.legal) (no_event front old new a) q)

  pub stays_behind : (Q : UpdateUnit → Type 0) → IsStable Q → (old new : List Entry) (e : Event) (es : List Event) → (l : LastEvent P C front old new e es) →
      Q (unit_of P C (entry front e ∷ l.point)) → Q (unit_of P C new)
  stays_behind Q keeps old new e es l q =
      subst (λ h. Q (unit_of P C h)) (sym l.is) (front_stays P C Q keeps l.after (entry front e ∷ l.point) l.legal l.none q)

  -- What others keep, and the caller's own events of a kind

  abbrev pub KeepsEvent : (UpdateUnit → Type 0) → Event → Type 0
  KeepsEvent Q (Does s) = (U : UpdateUnit) → Allowed P C U front s → IsSound P U.tenants → Q U → Q (applied P C U front s)
  KeepsEvent Q (Refuses r) = Unit {0}
  KeepsEvent Q (Marks m) = Unit {0}

  kept_event : (Q : UpdateUnit → Type 0) (e : Event) (h : List Entry) → IsLegal P C (entry front e ∷ h) → KeepsEvent Q e → Q (unit_of P C h) → Q (unit_of P C (entry front e ∷ h))
  kept_event Q (Does s) h l k q = k (unit_of P C h) l.1.1 (unit_sound P C h l.0) q
  kept_event Q (Refuses r) h l k q = q
  kept_event Q (Marks m) h l k q = q

  pub stays_under : (Q : UpdateUnit → Type 0) → IsStable Q → (es : List Event) → AllByRecursion (KeepsEvent Q) es → (old new : List Entry) → Adds P C front old new es → Q (unit_of P C old) →
      Q (unit_of P C new)
  stays_under Q keeps [] ks old new a q = stays Q keeps old new a q
  stays_under Q keeps (e ∷ es) ks old new a q =
      let l = last_event P C front old new e es a in
      let there = stays_under Q keeps es ks.1 old l.point l.before q in
      stays_behind Q keeps old new e es l (kept_event Q e l.point (legal_before P C l.after (entry front e ∷ l.point) l.legal) ks.0 there)

  -- one call's moments
  pub event_legal : (old new : List Entry) (e : Event) (es : List Event) → (l : LastEvent P C front old new e es) → IsLegal P C (entry front e ∷ l.point)
  event_legal old new e es l = legal_before P C l.after (entry front e ∷ l.point) l.legal

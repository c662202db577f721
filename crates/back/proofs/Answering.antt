-- The answer to a load, at the end of the search.
use Rattle.std.proofs.Common.{◌≡◌, ◌⊎◌, ℕ, ◌<◌, List, [], length, Option, Some, None, refl, sym, ap, ◌∙◌, subst, inl, inr, ⊎_elim, arith}
use Rattle.std.specs.Prelude.{slice_index}
use Rattle.instructions.specs.Instruction.{width}
use Rattle.instructions.specs.Operations.{loaded}
use Rattle.instructions.specs.Programs.{Program}
use Rattle.lsq.specs.Bytes.{little_endian}
use Rattle.lsq.specs.declared.entry.Entry.{Entry as QueueEntry}
use Rattle.lsq.specs.Entries.{bytes}
use Rattle.lsq.specs.LoadRule.{taken_from}
use Rattle.inorder.specs.declared.history.Entry.{Entry}
use Rattle.inorder.specs.declared.history.Source.TheVariants.{Second}
use Rattle.inorder.specs.Callers.{CanLoad, head_station}
use Rattle.inorder.specs.Committed.{committed}
use Rattle.inorder.specs.History.{back, unit_of, renewals}
use Rattle.inorder.specs.OneHistory.{Adds}
use Rattle.inorder.specs.Replies.{Has, IsStale}
use Rattle.inorder.specs.Tenants.{Live, Tenant, operand}
use Rattle.inorder.specs.Unit.{Sizes, UpdateUnit, at}
use Rattle.inorder.proofs.Commits.{by_others}
use Rattle.inorder.proofs.Heads.{head_stays}
use Rattle.inorder.proofs.Histories.{unit_sound}
use Rattle.inorder.proofs.Positions.{at_below}
use Rattle.inorder.proofs.Sound.{IsSound}
use Rattle.ruu_words.specs.Content.{value_field}
use Rattle.ruu_words.proofs.Stays.{back_stays}
use Rattle.station.specs.Looking.{ShowsOperand, source_state}
use Rattle.station.specs.declared.answers.SourceState.{SourceState}
use Rattle.back.specs.Port.{AtStation, HasFound, HasMet, HasUnknown, IsAskedInOrder, IsBlockedAt, IsLoadOf, station_behind, content_in}
use Rattle.back.specs.declared.port.Load.{Load}
use Rattle.back.proofs.OwnEntries.{added_legal, added_own}
use Rattle.back.proofs.PortRule.{by_none, by_store, by_unknown, by_waiting, x}
use Rattle.back.proofs.PortStays.{asked_stays, length_grows}
use Rattle.back.proofs.UnitKept.{no_retire, not_retire}
use Rattle.back.proofs.Searching.{found_stays}
use Rattle.back.proofs.Ranks.{InRing, in_ring}

-- What an operand shows

content_shown : (v : Option ℕ) (state : SourceState) (value : ℕ) → state ≡ source_state v → value ≡ value_field v → content_in state value ≡ v
content_shown None state value e f = ap (λ s. content_in s value) e
content_shown (Some y) state value e f = λ i. content_in (e i) (f i)

pub shows_content : (U : UpdateUnit) (station tag : ℕ) (state : SourceState) (value : ℕ)
    → ((q : ℕ) (t : Tenant) → at U.tenants q ≡ Some t → t.station ≡ station → t.standing ≡ Live → ShowsOperand (Some (record { tag = t.tag; value = (operand Second t).value })) tag state value)
    → (n : ℕ) → AtStation U n station (λ u. u.second.value ≡ content_in state value)
shows_content U station tag state value its n q u l is live st = let s = its q u is st live in sym (content_shown u.second.value state value s.1 s.2)

module _ (P : Program) (C : Sizes) (old new : List Entry) (a : Adds P C back old new []) where
  -- the head and what was committed stay
  pub head_same : head_station C (unit_of P C new) ≡ head_station C (unit_of P C old)
  head_same = subst (λ h. head_station C (unit_of P C h) ≡ head_station C (unit_of P C old)) (sym a.begins.is)
      (back_stays P C (λ U. head_station C U ≡ head_station C (unit_of P C old)) (λ U by s b al ok q. head_stays P C U by s b al ∙ q) a.begins.more old (added_legal P C back old new [] a)
      (sym (ap renewals a.begins.is) ∙ a.one_table) (added_own P C back old new [] a) refl)

  pub committed_same : committed P (unit_of P C new).tenants ≡ committed P (unit_of P C old).tenants
  committed_same = subst (λ h. committed P (unit_of P C h).tenants ≡ committed P (unit_of P C old).tenants) (sym a.begins.is)
      (back_stays P C (λ U. committed P U.tenants ≡ committed P (unit_of P C old).tenants) (λ U by s b al ok q. by_others P C U by s ok (no_retire s (not_retire s b)) al ∙ q) a.begins.more old
      (added_legal P C back old new [] a) (sym (ap renewals a.begins.is) ∙ a.one_table) (added_own P C back old new [] a) refl)

  module _ (head place : ℕ) (head_is : head ≡ head_station C (unit_of P C old)) (inside : head < C.ring) (small : place < C.ring) (p : ℕ) (l : Load)
      (asked : IsAskedInOrder P (unit_of P C old) p (station_behind head C.ring place) l) where
    abbrev U : UpdateUnit
    U = unit_of P C new

    abbrev n : ℕ
    n = length (unit_of P C old).tenants

    ok : IsSound P U.tenants
    ok = unit_sound P C new a.legal

    ring : InRing C U
    ring = in_ring P C new a.legal

    head_now : head ≡ head_station C U
    head_now = head_is ∙ sym head_same

    below : p < n
    below = ⊎_elim
        (λ (h : Has (unit_of P C old) p (IsLoadOf P (station_behind head C.ring place) l)). at_below (unit_of P C old).tenants p h.tenant h.is)
        (λ (g : IsStale (unit_of P C old) p). at_below (unit_of P C old).tenants p g.tenant g.is)
        asked

    now : IsAskedInOrder P U p (station_behind head C.ring place) l
    now = asked_stays P C old new a p (station_behind head C.ring place) l asked

    pub none_answers : HasFound P U n head C.ring 0 place l.address (width l.op) None →
        CanLoad P U p l.address (loaded l.op (little_endian (slice_index (committed P U.tenants).memory) l.address (width l.op))) ⊎ IsStale U p
    none_answers h = ⊎_elim
        (λ it. inl (by_none P C U ok ring n head place head_now inside small p below l it h))
        (λ g. inr g)
        now

    pub unknown_answers : (s : ℕ) → HasUnknown P U n head C.ring place s → IsBlockedAt P U p (station_behind head C.ring s) ⊎ IsStale U p
    unknown_answers s h = ⊎_elim
        (λ it. inl (by_unknown P C U ok ring n head place head_now inside small p below l it s h))
        (λ g. inr g)
        now

    module _ (s : ℕ) (e : QueueEntry) (h : HasMet P U n head C.ring 0 place l.address (width l.op) s e) (content : Option ℕ)
        (shows : AtStation U n (station_behind head C.ring s) (λ u. u.second.value ≡ content)) where
      module _ (it : Has U p (IsLoadOf P (station_behind head C.ring place) l)) where
        small_q : (q : ℕ) → q < p → q < n
        small_q q lt = let b = below in omega (arith, lt, b)

        pub forwards_it : (raw : ℕ) → taken_from e.address (bytes e.width) content l.address (width l.op) ≡ Some raw → CanLoad P U p l.address (loaded l.op raw)
        forwards_it raw ans =
            let o = x P C U ok ring n head place head_now inside small p below l it s e h in
            by_store P C U ok ring n head place head_now inside small p below l it s e h raw
            (λ u is live st. ap (λ d. taken_from e.address (bytes e.width) d l.address (width l.op)) (shows o.q u (small_q o.q o.before_it) is live st) ∙ ans)

        pub waits_for_it : taken_from e.address (bytes e.width) content l.address (width l.op) ≡ None → IsBlockedAt P U p (station_behind head C.ring s)
        waits_for_it none =
            let o = x P C U ok ring n head place head_now inside small p below l it s e h in
            by_waiting P C U ok ring n head place head_now inside small p below l it s e h
            (λ u is live st. ap (λ d. taken_from e.address (bytes e.width) d l.address (width l.op)) (shows o.q u (small_q o.q o.before_it) is live st) ∙ none)

      pub forward_answers : (raw : ℕ) → taken_from e.address (bytes e.width) content l.address (width l.op) ≡ Some raw → CanLoad P U p l.address (loaded l.op raw) ⊎ IsStale U p
      forward_answers raw ans = ⊎_elim (λ it. inl (forwards_it it raw ans)) (λ g. inr g) now

      pub waiting_answers : taken_from e.address (bytes e.width) content l.address (width l.op) ≡ None → IsBlockedAt P U p (station_behind head C.ring s) ⊎ IsStale U p
      waiting_answers none = ⊎_elim (λ it. inl (waits_for_it it none)) (λ g. inr g) now

-- what was found stays so, while the data is looked at
pub found_later : (P : Program) (C : Sizes) (old mid new : List Entry) → Adds P C back old mid [] → Adds P C back mid new [] → (head ring k place a w : ℕ) (f : ℕ × QueueEntry)
    → HasMet P (unit_of P C mid) (length (unit_of P C old).tenants) head ring k place a w f.0 f.1 → HasMet P (unit_of P C new) (length (unit_of P C old).tenants) head ring k place a w f.0 f.1
found_later P C old mid new a b head ring k place x w f h = found_stays P C mid new b (length (unit_of P C old).tenants) head ring k place x w (length_grows P C old mid a) (Some f) h

-- The miss that a scan finds first is the oldest.
use Rattle.std.proofs.Common.{◌≡◌, ℕ, zero, suc, ◌+◌, ◌<◌, ◌≤◌, List, [], ◌∷◌, ◌++◌, length, map, take, drop, Some, refl, sym, ap, ◌∙◌, subst, arith, append_assoc}
use Rattle.std.proofs.lemmas.List.{append-nil, take-append-drop}
use Rattle.std.specs.List.{AllByRecursion}
use Rattle.std.specs.Prelude.{slice_get}
use Rattle.instructions.specs.Programs.{Program}
use Rattle.inorder.specs.declared.history.Entry.{Entry}
use Rattle.inorder.specs.History.{IsLegal, front, unit_of, renewals}
use Rattle.instructions.specs.Histories.{StartsWith}
use Rattle.inorder.specs.OneHistory.{Adds}
use Rattle.inorder.specs.Callers.{IsMissing}
use Rattle.inorder.specs.Tenants.{Tenant, stands_on_path}
use Rattle.inorder.specs.Unit.{Sizes, UpdateUnit, at}
use Rattle.inorder.proofs.Histories.{adds_on}
use Rattle.ruu_words.specs.Kinds.{IsNamed}
use Rattle.ruu_words.proofs.Stays.{named_of, place_stays}
use Rattle.ruu_words.proofs.StationWords.{one_tag}
use Rattle.front.specs.Path.{rested_at}
use Rattle.front.specs.declared.path.base_state.Base.{Base}
use Rattle.front.specs.declared.path.record.Record.{Record}
use Rattle.front.specs.Knows.{IsFolded, IsGone, FrontKnows}
use Rattle.front.specs.Recoveries.{IsCut, NoOlderMiss, IsMissAt, IsNoLiveMiss, squash_event}
use Rattle.front.specs.declared.recovery.Missed.{Missed}
use Rattle.station.specs.Recovery.{IsMended as IsMendedThere}
use Rattle.front.proofs.Recovered.{Mended, mend_done}
use Rattle.front.specs.Trail.{Note, record_of, trail}
use Rattle.front.proofs.PathParts.{IsOrdered, IsSplit, drop_get, ordered, split_whats}
use Rattle.front.proofs.Lists.{all_both, all_front, all_map, all_rest, all_two}
use Rattle.front.proofs.Misses.{gone_miss, named_miss}
use Rattle.front.proofs.Named.{notes_noted, of_whats}
use Rattle.front.proofs.Trails.{IsNoted, trail_all}
use Rattle.inorder.specs.Replies.{Has}
use Rattle.inorder.proofs.Recent.{old_since}
use Rattle.front.proofs.Places.{kept_new}

-- Lists

pub take_fewer : (xs : List Record) (y : Record) (n : ℕ) → n ≤ length xs → take n (xs ++ y ∷ []) ≡ take n xs
take_fewer [] y zero h = refl
take_fewer [] y (suc n) h = absurd (omega arith)
take_fewer (x ∷ xs) y zero h = refl
take_fewer (x ∷ xs) y (suc n) h = ap (λ z. x ∷ z) (take_fewer xs y n (omega arith))

pub get_taken : (xs : List Record) (i : ℕ) → slice_get (take (i + 1) xs) i ≡ slice_get xs i
get_taken xs i = let one : i + 1 ≡ suc i = omega arith in ap (λ z. slice_get (take z xs) i) one ∙ go xs i
  where
    go : (xs : List Record) (i : ℕ) → slice_get (take (suc i) xs) i ≡ slice_get xs i
    go [] i = refl
    go (x ∷ xs) zero = refl
    go (x ∷ xs) (suc i) = go xs i

less_not : (p q : ℕ) → p < q → p ≡ q → ⊥
less_not p q h e = absurd (omega (arith, h, e))

after_not : (p q : ℕ) → p < q → q < p → ⊥
after_not p q h e = absurd (omega (arith, h, e))

module _ (P : Program) (C : Sizes) (h : List Entry) (legal : IsLegal P C h) (records : List Record) (base : Base) (k : FrontKnows P C (unit_of P C h) records base)
    (i : ℕ) (one : Record) (here : slice_get records i ≡ Some one) (first : AllByRecursion (IsNoLiveMiss (unit_of P C h)) (take i records)) where
  abbrev U : UpdateUnit
  U = unit_of P C h

  abbrev s : IsSplit k.notes (take i records) one (drop (suc i) records)
  s = split_whats k.notes (take i records) one (drop (suc i) records) (sym k.are ∙ (sym (take-append-drop i records) ∙ ap (λ z. take i records ++ z) (drop_get records i one here)))

  whole : trail P U.tenants ≡ (k.gone ++ s.before) ++ s.one ∷ s.after
  whole = k.path ∙ (ap (λ z. k.gone ++ z) s.is ∙ sym (append_assoc k.gone s.before (s.one ∷ s.after)))

  order : IsOrdered (k.gone ++ s.before) s.one s.after
  order = ordered P U.tenants (k.gone ++ s.before) s.one s.after whole

  noted_all : AllByRecursion (IsNoted P U.tenants) (s.before ++ s.one ∷ s.after)
  noted_all = subst (AllByRecursion (IsNoted P U.tenants)) s.is (notes_noted P C h legal records base (IsFolded U (rested_at base)) k)

  abbrev NoMissBefore : Note → Type 0
  NoMissBefore n = n.at < s.one.at → (x : ℕ) (t : Tenant) → at U.tenants n.at ≡ Some t → ¬ IsMissing x t

  none_before : AllByRecursion NoMissBefore (trail P U.tenants)
  none_before =
      let prior : AllByRecursion (λ n. IsNoLiveMiss U n.what) s.before = of_whats (IsNoLiveMiss U) s.before (subst (AllByRecursion (IsNoLiveMiss U)) (sym s.prior) first) in
      let gone = all_map (IsGone U) NoMissBefore (λ n g lt. gone_miss P C h legal records base k n g) k.gone k.retired in
      let before = all_two (IsNoted P U.tenants) (λ n. IsNoLiveMiss U n.what) NoMissBefore (λ n a b lt. named_miss P C h legal records base k n a b) s.before
      (all_front (IsNoted P U.tenants) s.before (s.one ∷ s.after) noted_all) prior in
      let after = all_map (λ n. s.one.at < n.at) NoMissBefore (λ n gt lt x t is m. after_not n.at s.one.at lt gt) s.after order.after in
      subst (AllByRecursion NoMissBefore) (sym whole)
      (all_both NoMissBefore (k.gone ++ s.before) (s.one ∷ s.after) (all_both NoMissBefore k.gone s.before gone before) ((λ lt x t is m. less_not s.one.at s.one.at lt refl), after))

  -- the miss that has its name is the first
  pub is_first : (new : List Entry) → IsLegal P C new → StartsWith new h → renewals new ≡ renewals h → (p : ℕ) → IsNamed (unit_of P C new) p one.station one.tag → NoOlderMiss U p
  is_first new new_legal starts renewed p named =
      let noted : IsNoted P U.tenants s.one = (all_rest (IsNoted P U.tenants) s.before (s.one ∷ s.after) noted_all).0 in
      let t = noted.tenant in
      let what : record_of P t ≡ one = noted.what ∙ s.what in
      let still = place_stays P C s.one.at t starts.more h (subst (IsLegal P C) starts.is new_legal) noted.is in
      let there : Has (unit_of P C new) s.one.at (λ u. (u.station ≡ t.station) × (u.tag ≡ t.tag)) = subst (λ z. Has (unit_of P C z) s.one.at (λ u. (u.station ≡ t.station) × (u.tag ≡ t.tag)))
      (sym starts.is) still in
      let untold = (all_rest (λ n. rested_at base ≤ n.at) s.before (s.one ∷ s.after) (subst (AllByRecursion (λ n. rested_at base ≤ n.at)) s.is k.untold)).0 in
      let recent_one = old_since P C new h starts new_legal renewed s.one.at ∙ kept_new P C U records base (IsFolded U (rested_at base)) k s.one.at untold in
      let same : p ≡ s.one.at = one_tag P C new new_legal p s.one.at named.tenant there.tenant named.is there.is named.new recent_one
      (named.station_is ∙ sym (there.fact.0 ∙ ap (λ (z : Record). z.station) what)) (named.tag_is ∙ sym (there.fact.1 ∙ ap (λ (z : Record). z.tag) what)) in
      λ q x u lt is m. trail_all P NoMissBefore U.tenants none_before q u is (ap stands_on_path m.live) (subst (λ z. q < z) same lt) x u is m

-- The whole recovery
pub recovered : (P : Program) (C : Sizes) (begin mid old new : List Entry) → IsLegal P C begin →
    (records : List Record) (base : Base) → FrontKnows P C (unit_of P C begin) records base → (m : Missed) →
    AllByRecursion (IsNoLiveMiss (unit_of P C begin)) (take m.at records) → Adds P C front begin mid []
    → (kept : List Record) (kept_base : Base) → kept ≡ take (m.at + 1) records → FrontKnows P C (unit_of P C old) kept kept_base → IsMissAt P C old kept m → length kept ≡ m.at + 1 → (squashed : ℕ) →
    IsCut P C mid old squashed → IsMendedThere P C front m.station old new → Mended P C begin new kept kept_base m squashed
recovered P C begin mid old new legal records base k m first adds kept kept_base rest k' i long squashed cut s =
    let events = map squash_event cut.squashes in
    let both : Adds P C front begin old events = subst (λ z. Adds P C front begin old z) (append-nil events) (adds_on P C front begin mid old [] events adds cut.adds) in
    let here : slice_get records m.at ≡ Some i.one = sym (get_taken records m.at) ∙ (ap (λ z. slice_get z m.at) (sym rest) ∙ i.here) in
    let oldest = is_first P C begin legal records base k m.at i.one here first old both.legal both.begins both.one_table i.miss.p
    (named_of i.miss.tenant) in
    mend_done P C begin old new kept kept_base k' m i long oldest squashed (record { squashes = cut.squashes; count = cut.count; adds = both }) s

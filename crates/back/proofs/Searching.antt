-- What a load waits for, store by store, and the search among the older stores.
use Rattle.std.proofs.Common.{◌≡◌, ◌⊎◌, ℕ, ◌+◌, ◌<◌, ◌≤◌, Bool, true, false, ◌&&◌, List, [], length, Option, Some, None, refl, sym, ap, ◌∙◌, subst, inl, inr, ⊎_elim, arith, true≢false}
use Rattle.std.proofs.lemmas.Bool.{cases_lt}
use Rattle.std.specs.Prelude.{IfNone, IfSome, is_none, is_some, not}
use Rattle.std.specs.Option.{option_or}
use Rattle.instructions.specs.Instruction.{width}
use Rattle.instructions.specs.Programs.{Program}
use Rattle.instructions.specs.declared.op.Kind.TheVariants.{Stores}
use Rattle.instructions.specs.declared.stop.Outcome.{Outcome}
use Rattle.lsq.specs.declared.entry.Entry.{Entry as QueueEntry}
use Rattle.lsq.specs.Entries.{bytes}
use Rattle.lsq.specs.LoadRule.{lacks_address, meets, overlaps}
use Rattle.inorder.specs.declared.history.Entry.{Entry}
use Rattle.inorder.specs.History.{back, unit_of}
use Rattle.inorder.specs.OneHistory.{Adds}
use Rattle.inorder.specs.Loads.{address_by, entry_of, is_store}
use Rattle.inorder.specs.Tenants.{Addr, Busy, Done, Fate, Guessed, Miss, Open, Stopped, Tenant, computed, kind_of}
use Rattle.inorder.specs.Unit.{Sizes, UpdateUnit}
use Rattle.inorder.proofs.QueueBytes.{store_is}
use Rattle.inorder.proofs.Pairs.{and_left}
use Rattle.back.specs.Port.{AtStation, HasFound, HasMet, HasUnknown, IsEntryOf, IsKnown, IsMet, DoesNotWaitFor, Lacks, shown_address, station_behind}
use Rattle.back.specs.declared.port.Load.{Load}
use Rattle.back.proofs.PortStays.{known_lasts, length_grows, met_lasts, passed_lasts, station_stays}

-- One store

by_stores : (f : Fate) (o : Outcome) → address_by Stores f o ≡ shown_address f
by_stores Open o = refl
by_stores (Busy by) o = refl
by_stores (Addr a) o = refl
by_stores (Done v) o = refl
by_stores (Guessed x) o = refl
by_stores (Miss x) o = refl
by_stores (Stopped c) o = refl

address_back : (f : Fate) (b : ℕ) → shown_address f ≡ Some b → f ≡ Addr b
address_back Open b e = absurd (cc e)
address_back (Busy by) b e = absurd (cc e)
address_back (Addr a) b e = ap Addr (cc e)
address_back (Done v) b e = absurd (cc e)
address_back (Guessed x) b e = absurd (cc e)
address_back (Miss x) b e = absurd (cc e)
address_back (Stopped c) b e = absurd (cc e)

module _ (e : QueueEntry) (l : Load) where
  abbrev a : ℕ
  a = l.address

  abbrev w : ℕ
  w = width l.op

  -- Of the tenant that the entry is of
  module _ (P : Program) (u : Tenant) (i : IsEntryOf P e u) where
    address_same : e.store ≡ true → (entry_of P u).address ≡ e.address
    address_same st =
        ap (λ k. address_by k u.fate (computed P u)) (store_is (kind_of P u) (sym i.store ∙ st))
        ∙ (by_stores u.fate (computed P u) ∙ sym i.address)

    overlaps_same : e.store ≡ true → overlaps a w (entry_of P u) ≡ overlaps a w e
    overlaps_same st = λ j. (sym i.store j) && meets (address_same st j) (bytes (sym i.width j)) a w

    known_by : (b : ℕ) → e.address ≡ Some b → IsKnown P u
    known_by b ad = inr (b, address_back u.fate b (sym i.address ∙ ad))

    -- its address, if it does not lack one
    has_address : e.store ≡ true → lacks_address e ≡ false → (b : ℕ) × (e.address ≡ Some b)
    has_address st has = go e.address refl
      where
        go : (o : Option ℕ) → e.address ≡ o → (b : ℕ) × (e.address ≡ Some b)
        go None ad = let x : true ≡ false = sym (λ j. (st j) && is_none (ad j)) ∙ has in absurd (true≢false x)
        go (Some b) ad = (b, ad)

    pub known_of : lacks_address e ≡ false → IsKnown P u
    known_of has = go e.store refl
      where
        go : (b : Bool) → e.store ≡ b → IsKnown P u
        go false st = inl (sym i.store ∙ st)
        go true st = let a = has_address st has in known_by a.0 a.1

    pub passed_of : lacks_address e ≡ false → overlaps a w e ≡ false → DoesNotWaitFor P a w u
    passed_of has over = go e.store refl
      where
        go : (b : Bool) → e.store ≡ b → DoesNotWaitFor P a w u
        go false st =
            let none : is_store (kind_of P u) ≡ false = sym i.store ∙ st in
            record { known = inl none; apart = ap (λ z. z && meets (entry_of P u).address (bytes (entry_of P u).width) a w) none }
        go true st = record { known = known_of has; apart = overlaps_same st ∙ over }

    pub lacks_of : lacks_address e ≡ true → Lacks P u
    lacks_of lacks =
        let st = and_left e.store (is_none e.address) lacks in
        (λ j. (sym i.store j) && is_none (address_same st j)) ∙ lacks

    pub met_of : lacks_address e ≡ false → overlaps a w e ≡ true → IsMet P a w e u
    met_of has over =
        let st = and_left e.store (meets e.address (bytes e.width) a w) over in
        let x = has_address st has in
        record {
          base = x.0;
          store = sym i.store ∙ st;
          fate = address_back u.fate x.0 (sym i.address ∙ x.1);
          entry = λ j. record { store = st j; width = i.width j; address = x.1 j; content = i.content j };
          meets = over;
        }

-- The search

pub fewer : (U : UpdateUnit) (n m station : ℕ) (Fact : Tenant → Type 0) → n ≤ m → AtStation U m station Fact → AtStation U n station Fact
fewer U n m station Fact le h q u l is live st = h q u (omega (arith, l, le)) is live st

pub weaker : (U : UpdateUnit) (n station : ℕ) (Fact Other : Tenant → Type 0) → ((u : Tenant) → Fact u → Other u) → AtStation U n station Fact → AtStation U n station Other
weaker U n station Fact Other f h q u l is live st = f u (h q u l is live st)

module _ (P : Program) (U : UpdateUnit) (n head ring k k' place a w : ℕ) (next : k' ≡ k + 1) where
  here_or : (j : ℕ) → k ≤ j → (j ≡ k) ⊎ (k' ≤ j)
  here_or j le = elim (cases_lt k j) [
    | inl more ↦ inr (omega (arith, more, next))
    | inr same ↦ inl (omega (arith, same, le))
  ]

  each_more : (Fact : Tenant → Type 0) →
      ((j : ℕ) → k' ≤ j → j < place → AtStation U n (station_behind head ring j) Fact) →
      AtStation U n (station_behind head ring k) Fact → (j : ℕ) → k ≤ j → j < place →
      AtStation U n (station_behind head ring j) Fact
  each_more Fact h new j le lt = ⊎_elim
      (λ (e : j ≡ k). subst (λ x. AtStation U n (station_behind head ring x) Fact) (sym e) new)
      (λ more. h j more lt)
      (here_or j le)

  pub none_more : HasFound P U n head ring k' place a w None → AtStation U n (station_behind head ring k) (DoesNotWaitFor P a w) → HasFound P U n head ring k place a w None
  none_more h new = each_more (DoesNotWaitFor P a w) h new

  pub some_more : (s : ℕ) (e : QueueEntry) → HasMet P U n head ring k' place a w s e → AtStation U n (station_behind head ring k) (IsKnown P) → HasMet P U n head ring k place a w s e
  some_more s e h new = record {
    here = let l = h.here in omega (arith, l, next);
    bound = h.bound;
    known = each_more (IsKnown P) h.known new;
    younger = h.younger;
    it = h.it;
  }

  pub first_met : (e : QueueEntry) → k < place → HasFound P U n head ring k' place a w None → AtStation U n (station_behind head ring k) (IsMet P a w e) → HasMet P U n head ring k place a w k e
  first_met e small h new = record {
    here = omega arith;
    bound = small;
    known = each_more (IsKnown P) (λ j le lt. weaker U n (station_behind head ring j) (DoesNotWaitFor P a w) (IsKnown P) (λ u x. x.known) (h j le lt))
        (weaker U n (station_behind head ring k) (IsMet P a w e) (IsKnown P) (λ u x. inr (x.base, x.fate)) new);
    younger = λ j more lt. h j (omega (arith, more, next)) lt;
    it = new;
  }

  known_from : (o : Option (ℕ × QueueEntry)) → HasFound P U n head ring k' place a w o → (j : ℕ) → k' ≤ j → j < place → AtStation U n (station_behind head ring j) (IsKnown P)
  known_from None h j le lt = weaker U n (station_behind head ring j) (DoesNotWaitFor P a w) (IsKnown P) (λ u x. x.known) (h j le lt)
  known_from (Some f) h j le lt = h.known j le lt

  pub unknown : (o : Option (ℕ × QueueEntry)) → k < place → HasFound P U n head ring k' place a w o → AtStation U n (station_behind head ring k) (Lacks P) → HasUnknown P U n head ring place k
  unknown o small h new = record {
    bound = small;
    younger = λ j more lt. known_from o h j (omega (arith, more, next)) lt;
    it = new;
  }

-- what was found stays so
module _ (P : Program) (C : Sizes) (old new : List Entry) (added : Adds P C back old new []) (n head ring k place a w : ℕ) (few : n ≤ length (unit_of P C old).tenants) where
  pub found_stays : (o : Option (ℕ × QueueEntry)) → HasFound P (unit_of P C old) n head ring k place a w o → HasFound P (unit_of P C new) n head ring k place a w o
  found_stays None h = λ j le lt. station_stays P C old new added n (station_behind head ring j) (DoesNotWaitFor P a w) (passed_lasts P a w) few (h j le lt)
  found_stays (Some f) h = record {
    here = h.here;
    bound = h.bound;
    known = λ j le lt. station_stays P C old new added n (station_behind head ring j) (IsKnown P) (known_lasts P) few (h.known j le lt);
    younger = λ j more lt. station_stays P C old new added n (station_behind head ring j) (DoesNotWaitFor P a w) (passed_lasts P a w) few (h.younger j more lt);
    it = station_stays P C old new added n (station_behind head ring f.0) (IsMet P a w f.1) (met_lasts P a w f.1) few h.it;
  }

-- one store further
module _ (P : Program) (C : Sizes) (old mid new : List Entry) (before : Adds P C back old mid []) (added : Adds P C back mid new []) (head ring k k' place : ℕ) (l : Load) (next : k' ≡ k + 1)
    (small : k' ≤ place)
    (e : QueueEntry) (shows : AtStation (unit_of P C new) (length (unit_of P C mid).tenants) (station_behind head ring k) (IsEntryOf P e)) where
  abbrev n : ℕ
  n = length (unit_of P C old).tenants

  few : n ≤ length (unit_of P C mid).tenants
  few = length_grows P C old mid before

  abbrev Found_at : ℕ → List Entry → Option (ℕ × QueueEntry) → Type 0
  Found_at x h o = HasFound P (unit_of P C h) n head ring x place l.address (width l.op) o

  stayed : (o : Option (ℕ × QueueEntry)) → Found_at k' mid o → Found_at k' new o
  stayed o h = found_stays P C mid new added n head ring k' place l.address (width l.op) few o h

  -- of the tenant at the station
  at_k : (Fact : Tenant → Type 0) → ((u : Tenant) → IsEntryOf P e u → Fact u) → AtStation (unit_of P C new) n (station_behind head ring k) Fact
  at_k Fact f = weaker (unit_of P C new) n (station_behind head ring k) (IsEntryOf P e) Fact f (fewer (unit_of P C new) n (length (unit_of P C mid).tenants) (station_behind head ring k)
      (IsEntryOf P e) few shows)

  below : k < place
  below = omega (arith, next, small)

  pub step_unknown : (o : Option (ℕ × QueueEntry)) → Found_at k' mid o → lacks_address e ≡ true → HasUnknown P (unit_of P C new) n head ring place k
  step_unknown o h lacks = unknown P (unit_of P C new) n head ring k k' place l.address (width l.op) next o below (stayed o h) (at_k (Lacks P) (λ u x. lacks_of e l P u x lacks))

  pub step_met : (o : Option (ℕ × QueueEntry)) → Found_at k' mid o → lacks_address e ≡ false → overlaps l.address (width l.op) e ≡ true → Found_at k new (option_or o (Some (k, e)))
  step_met None h has over = first_met P (unit_of P C new) n head ring k k' place l.address (width l.op) next e below (stayed None h)
      (at_k (IsMet P l.address (width l.op) e) (λ u x. met_of e l P u x has over))
  step_met (Some f) h has over =
      some_more P (unit_of P C new) n head ring k k' place l.address (width l.op) next f.0 f.1 (stayed (Some f) h) (at_k (IsKnown P) (λ u x. known_of e l P u x has))

  pub step_memory : (o : Option (ℕ × QueueEntry)) → Found_at k' mid o → lacks_address e ≡ false → overlaps l.address (width l.op) e ≡ false → Found_at k new o
  step_memory None h has over = none_more P (unit_of P C new) n head ring k k' place l.address (width l.op) next (stayed None h)
      (at_k (DoesNotWaitFor P l.address (width l.op)) (λ u x. passed_of e l P u x has over))
  step_memory (Some f) h has over =
      some_more P (unit_of P C new) n head ring k k' place l.address (width l.op) next f.0 f.1 (stayed (Some f) h) (at_k (IsKnown P) (λ u x. known_of e l P u x has))

-- options
pub is_nothing : {X : Type 0} → (o : Option X) (b : Bool) → is_some o ≡ not b → b ≡ true → o ≡ None
is_nothing None b e f = refl
is_nothing (Some x) b e f = absurd (true≢false (e ∙ ap not f))

pub is_something : {X : Type 0} → (o : Option X) (b : Bool) → is_some o ≡ not b → b ≡ false → (x : X) × (o ≡ Some x)
is_something None b e f = absurd (true≢false (sym (e ∙ ap not f)))
is_something (Some x) b e f = (x, refl)

pub some_of : {X : Type 0} → (o : Option X) → is_some o ≡ true → (x : X) × (o ≡ Some x)
some_of None e = absurd (true≢false (sym e))
some_of (Some x) e = (x, refl)

pub if_none : {X : Type 0} → (o : Option X) (Q : Type 0) → (o ≡ None → Q) → IfNone o Q
if_none None Q f = f refl
if_none (Some x) Q f = tt

pub if_some : {X : Type 0} → (o : Option X) (Q : X → Type 0) → ((x : X) → o ≡ Some x → Q x) → IfSome o Q
if_some None Q f = tt
if_some (Some x) Q f = f x refl

-- What each kind of step tells: of the history before it, of the let in progress after it, and of
-- the events that it adds.
use Rattle.std.specs.Prelude.{⊤, ◌≡◌, ◌≢◌, ◌⊎◌, ℕ, Bool, false, List, [], ◌∷◌, Some, None, ◌==◌, if◌then◌else◌}
use Rattle.instructions.specs.Programs.{Program}
use Rattle.instructions.specs.declared.stop.Outcome.{Outcome}
use Rattle.instructions.specs.declared.stop.Outcome.TheVariants.{Address, Next, Pair, Stop as Stops, Value}
use Rattle.inorder.specs.declared.history.Act.TheVariants.{Claim, Deliver, Finish, Link, Load}
use Rattle.inorder.specs.declared.history.Entry.{Entry}
use Rattle.inorder.specs.declared.history.Event.{Event}
use Rattle.inorder.specs.declared.history.Event.TheVariants.{Does, Marks, Refuses}
use Rattle.inorder.specs.declared.history.Mark.TheVariants.{Asked, Walked}
use Rattle.inorder.specs.declared.history.Refusal.{Refusal}
use Rattle.inorder.specs.declared.history.Refusal.TheVariants.{Empty, Moved, NotDone, NotOpen, Stale, Waiting}
use Rattle.inorder.specs.declared.history.Source.{Source}
use Rattle.inorder.specs.declared.history.Step.TheVariants.{Let, On}
use Rattle.inorder.specs.declared.history.Supply.{Supply}
use Rattle.inorder.specs.Callers.{HasMade, IsHead}
use Rattle.inorder.specs.History.{unit_of}
use Rattle.inorder.specs.Replies.{Has, IsAskedInTime, IsDelivered, IsOpen, IsSquashed}
use Rattle.inorder.specs.StationWords.{live_word, station_word}
use Rattle.inorder.specs.Tenants.{Addr, Done, Fate, Linked, Live, Miss, Stopped, Tenant, computed, missing, operand}
use Rattle.inorder.specs.Unit.{Sizes, UpdateUnit, at, is_old, recent}
use Rattle.ruu_words.specs.declared.place.Place.{Place}
use Rattle.ruu_words.specs.declared.rule.Draft.{Draft}
use Rattle.ruu_words.specs.declared.rule.Draft.TheVariants.{Nothing}
use Rattle.ruu_words.specs.Content.{Content, IsDraft, IsInfoOf, IsLinkWord, IsStation}
use Rattle.ruu_words.specs.Fields.{state_of, tag_of, word_value}

-- The tenant at p, let since the last renewal, of this station and tag, and what is true of it
pub record IsTenant (U : UpdateUnit) (p station tag : ℕ) (Fact : Tenant → Type 0) : Type 0 where
  pub tenant : Tenant
  pub is : at U.tenants p ≡ Some tenant
  pub new : is_old U p ≡ false
  pub station_is : tenant.station ≡ station
  pub tag_is : tenant.tag ≡ tag
  pub fact : Fact tenant

-- True of every tenant
abbrev pub IsAny : Tenant → Type 0
IsAny t = ⊤

-- The tenant at p, let since the last renewal, is of this station, with this tag
abbrev pub IsNamed : UpdateUnit → ℕ → ℕ → ℕ → Type 0
IsNamed U p station tag = IsTenant U p station tag IsAny

-- The tenant is not open
abbrev pub IsClosed : Tenant → Type 0
IsClosed t = ¬ IsOpen t

-- A step finds this true of a tenant of this station and tag, and adds these events, which may name
-- it
pub record Finds (U : UpdateUnit) (s g : ℕ) (events : List Event) (Fact : Tenant → Type 0)
    (adds : ℕ → List Event) : Type 0 where
  pub p : ℕ
  pub tenant : IsTenant U p s g Fact
  pub added : events ≡ adds p

-- No events
abbrev pub adds_nothing : ℕ → List Event
adds_nothing p = []

-- The event of a refusal that names a tenant
abbrev pub refuses : (ℕ → Refusal) → ℕ → List Event
refuses r p = Refuses (r p) ∷ []

-- The fate that an outcome gives
abbrev pub fate_of : ℕ → Outcome → Fate
fate_of predicted (Value v) = Done v
fate_of predicted (Next x) = if x == predicted then Done x else Miss x
fate_of predicted (Address a) = Addr a
fate_of predicted (Stops c) = Stopped c
fate_of predicted (Pair low high) = Done low

-- Source k was asked for, and tenant q is its creator
pub record HasLink (k : Source) (q : ℕ) (t : Tenant) : Type 0 where
  pub in_time : Bool
  pub way : (operand k t).way ≡ Linked in_time
  pub creator : (operand k t).creator ≡ Some q

-- Source k of tenant r was asked for in time, and its creator q has made nothing
pub record IsInTime (U : UpdateUnit) (r : ℕ) (k : Source) (q : ℕ) : Type 0 where
  pub asked : IsAskedInTime U r k
  pub unmade : Has U q (λ t. t.made ≡ None)

-- A station that is neither free nor done has made nothing for a register
abbrev pub IsUnmade : ℕ → Type 0
IsUnmade n = (n ≢ 0) × (n ≢ 4)

-- A station that is free or done
abbrev pub IsMade : ℕ → Type 0
IsMade n = (n ≡ 0) ⊎ (n ≡ 4)

-- A state in which a tenant cannot retire: open, busy, or a miss
abbrev pub IsEarly : ℕ → Type 0
IsEarly n = (n ≡ 1) ⊎ (n ≡ 2) ⊎ (n ≡ 5)

-- A state in which a tenant has its address, is done or stops
abbrev pub IsLate : ℕ → Type 0
IsLate n = (n ≡ 3) ⊎ (n ≡ 4) ⊎ (n ≡ 6)

module _ (P : Program) (C : Sizes) where
  -- Loads that add nothing

  -- A look at a station
  pub record Looks (s n : ℕ) (h : List Entry) (d : Draft) (events : List Event) : Type 0 where
    pub none : events ≡ []
    pub word : IsStation (station_word C (recent (unit_of P C h)) s) n

  -- An info word is that of each live tenant of the station
  pub record ReadsInfo (s n : ℕ) (h : List Entry) (d : Draft) (events : List Event) : Type 0 where
    pub none : events ≡ []
    pub its : (p : ℕ) (t : Tenant) → at (unit_of P C h).tenants p ≡ Some t → t.station ≡ s →
        t.standing ≡ Live → IsInfoOf t n

  pub record ReadsLink (p c : ℕ) (k : Source) (n : ℕ) (h : List Entry) (d : Draft)
      (events : List Event) : Type 0 where
    pub none : events ≡ []
    pub word : IsLinkWord (unit_of P C h) p c k n

  -- Any word, with the let in progress at its point
  pub record Reads (x : Place) (n : ℕ) (h : List Entry) (d : Draft) (events : List Event) :
      Type 0 where
    pub none : events ≡ []
    pub draft : Draft
    pub proper : IsDraft P C (unit_of P C h) draft
    pub content : Content P C (unit_of P C h) draft x n

  -- The last load of a walk along the links of tenant q
  pub record Walks (q : ℕ) (h : List Entry) (d : Draft) (events : List Event) : Type 0 where
    pub added : events ≡ Marks (Walked q) ∷ []

  -- A load with which its caller is refused
  pub record Tells (r : Refusal) (h : List Entry) (d : Draft) (events : List Event) : Type 0 where
    pub added : events ≡ Refuses r ∷ []

  -- The look of a question at the station of the creator q of source k of tenant r: the creator is live and
  -- not done, so that the source was asked for in time, or it has made the value of the word. No let is in
  -- progress
  abbrev pub Questions : (r : ℕ) (k : Source) (q n : ℕ) → List Entry → Draft → List Event → Type 0
  Questions r k q n h d events =
      (d ≡ Nothing)
      × ((IsUnmade (state_of n) × (events ≡ Marks (Asked r k) ∷ []) × IsInTime (unit_of P C h) r k q)
      ⊎ (IsMade (state_of n) × (events ≡ []) × HasMade (unit_of P C h) q (word_value n)))

  -- The exchange that ends a question: the source has its value, or had it before
  abbrev pub Answers : (r : ℕ) (k : Source) (old n : ℕ) → List Entry → Draft → List Event → Type 0
  Answers r k old n h d events =
      (d ≡ Nothing)
      × (((n ≡ old) × (events ≡ Marks (Asked r k) ∷ Does (On r (Deliver k)) ∷ []))
      ⊎ ((n ≢ old) × (events ≡ Marks (Asked r k) ∷ []) × IsDelivered (unit_of P C h) r k))

  -- Loads of a retirement

  -- The look at the station of the oldest live tenant: nobody is live, or that tenant cannot retire
  -- yet, or it has its address, is done or stops
  abbrev pub Heads : (s n : ℕ) → List Entry → Draft → List Event → Type 0
  Heads s n h d events =
      ((state_of n ≡ 0) × (events ≡ Refuses Empty ∷ []))
      ⊎ (IsEarly (state_of n) × (events ≡ Refuses NotDone ∷ []))
      ⊎ (IsLate (state_of n) × (events ≡ [])
      × ((p : ℕ) ×
      IsHead (unit_of P C h) p (λ t. (t.station ≡ s) × IsStation (live_word t.tag t.fate) n)))

  -- The load of the data of the oldest store: it is there, or the store cannot retire yet
  abbrev pub ReadsData : (p n : ℕ) → List Entry → Draft → List Event → Type 0
  ReadsData p n h d events =
      ((state_of n ≡ 2) × (events ≡ [])
      × IsHead (unit_of P C h) p (λ t. t.second.value ≡ Some (word_value n)))
      ⊎ ((state_of n ≢ 2) × (events ≡ Refuses NotDone ∷ []))

  -- Loads of a claim

  -- The first look of a claim finds an open tenant, or tells that there is none
  abbrev pub Peeks : (s n : ℕ) → List Entry → Draft → List Event → Type 0
  Peeks s n h d events =
      ((state_of n ≡ 1) × Finds (unit_of P C h) s (tag_of n) events IsOpen adds_nothing)
      ⊎ ((state_of n ≢ 1) × (events ≡ Refuses (NotOpen s) ∷ []))

  -- The second look finds the same word, and its tenant open, or tells that it has moved
  abbrev pub Rechecks : (s g old n : ℕ) → List Entry → Draft → List Event → Type 0
  Rechecks s g old n h d events =
      ((n ≡ old) × Finds (unit_of P C h) s g events IsOpen adds_nothing)
      ⊎ ((n ≢ old) × Finds (unit_of P C h) s g events IsClosed (refuses Moved))

  -- The load of a needed source of the tenant with tag g finds its value, that it waits, or another
  -- tag
  abbrev pub ReadsSource : (s g : ℕ) (k : Source) (n : ℕ) → List Entry → Draft → List Event → Type 0
  ReadsSource s g k n h d events =
      ((tag_of n ≡ g) × (state_of n ≡ 2)
      × Finds (unit_of P C h) s g events (λ t. (operand k t).value ≡ Some (word_value n))
      adds_nothing)
      ⊎ ((tag_of n ≡ g) × (state_of n ≢ 2)
      × Finds (unit_of P C h) s g events (λ t. missing P t ≡ Some k) (refuses (λ p. Waiting p k)))
      ⊎ ((tag_of n ≢ g) × Finds (unit_of P C h) s g events IsClosed (refuses Moved))

  -- Exchanges of a station's word. Each finds the word `old`, that of its tenant with tag g, or
  -- another one

  abbrev pub Claims : (s g old n : ℕ) → List Entry → Draft → List Event → Type 0
  Claims s g old n h d events =
      ((n ≡ old) × Finds (unit_of P C h) s g events IsOpen (λ p. Does (On p Claim) ∷ []))
      ⊎ ((n ≢ old) × Finds (unit_of P C h) s g events IsClosed (refuses Moved))

  abbrev pub Finishes : (s g : ℕ) → Outcome → (old n : ℕ) → List Entry → Draft → List Event → Type 0
  Finishes s g outcome old n h d events =
      ((n ≡ old)
      × Finds (unit_of P C h) s g events (λ t. computed P t ≡ outcome)
      (λ p. Does (On p Finish) ∷ []))
      ⊎ ((n ≢ old) × Finds (unit_of P C h) s g events IsSquashed (refuses Stale))

  abbrev pub Settles : (s g old n : ℕ) → List Entry → Draft → List Event → Type 0
  Settles s g old n h d events =
      ((n ≡ old) × Finds (unit_of P C h) s g events IsAny (λ p. Does (On p Load) ∷ []))
      ⊎ ((n ≢ old) × Finds (unit_of P C h) s g events IsSquashed (refuses Stale))

  -- The exchange of an operand that waits, that of source k of the tenant with tag g, for its
  -- value. Where it fails, that source has its value already, or the tenant has left
  abbrev pub Delivers : (s : ℕ) (k : Source) (g old n : ℕ) →
      List Entry → Draft → List Event → Type 0
  Delivers s k g old n h d events =
      ((n ≡ old) × Finds (unit_of P C h) s g events IsAny (λ r. Does (On r (Deliver k)) ∷ []))
      ⊎ ((n ≢ old) × (events ≡ [])
      × ((r : ℕ) (t : Tenant) → at (unit_of P C h).tenants r ≡ Some t → t.station ≡ s → t.tag ≡ g →
      IsDelivered (unit_of P C h) r k ⊎ (t.standing ≢ Live)))

  -- Stores

  -- A word of the tenant in progress
  pub record Drafts (new : Draft) (h : List Entry) (d : Draft) (events : List Event) : Type 0 where
    pub none : events ≡ []
    pub draft : d ≡ new

  pub record Lets (index predicted : ℕ) (first second : Supply) (h : List Entry) (d : Draft)
      (events : List Event) : Type 0 where
    pub added : events ≡ Does (Let index predicted first second) ∷ []
    pub draft : d ≡ Nothing

  -- A tenant leaves or is mended by one write, and the word found was its own
  pub record Writes (event : Event) (p s n : ℕ) (h : List Entry) (d : Draft)
      (events : List Event) : Type 0 where
    pub added : events ≡ event ∷ []
    pub found : IsTenant (unit_of P C h) p s (tag_of n) (λ t. IsStation (live_word t.tag t.fate) n)

  -- The store of a link
  pub record Asks (r : ℕ) (k : Source) (h : List Entry) (d : Draft) (events : List Event) :
      Type 0 where
    pub added : events ≡ Does (On r (Link k)) ∷ []
    pub draft : d ≡ Nothing

-- The stations that are hinted, and where a unit looks for work.
use Rattle.std.specs.Prelude.{⊤, ◌≡◌, ◌⊎◌, ℕ, zero, suc, ◌+◌, ◌<◌, ◌≤◌, ◌%◌, ◌^◌, List, [], ◌∷◌, ◌++◌, All}
use Rattle.std.specs.Int.{bit_at}
use Rattle.hints.specs.Hinted.{HasOffered, IsEndOf, TheHinter, TheHints, deal, putting, taking}
use Rattle.workers.specs.declared.search.Candidate.{Candidate}
use Rattle.workers.specs.declared.search.Candidate.TheVariants.{Hinted, Next}
use Rattle.workers.specs.declared.search.Search.{Search}
use Rattle.station.specs.declared.answers.Finish.{Finish}
use Rattle.station.specs.declared.answers.Finish.TheVariants.{Finished, Stale}
use Rattle.station.specs.Waking.{IsSet}

-- How many of the bits below `below` are set
abbrev pub set_below : (woken below : ℕ) → ℕ
set_below woken zero = 0
set_below woken (suc below) = set_below woken below + bit_at woken below

-- Each of these stations is at least `from`, and above the one before it
abbrev pub Rises : (from : ℕ) → List ℕ → Type 0
Rises from [] = ⊤
Rises from (s ∷ ss) = (from ≤ s) × Rises (s + 1) ss

-- The queue took some of the stations below `below` whose bit is set, each once and the lowest first, and no other. As
-- many were offered to it, modulo 2^64, as there are of these stations; which were offered and not taken is not said
pub record HasHinted (woken below : ℕ) (old new : TheHinter) : Type 0 where
  pub of : new.of ≡ old.of
  pub stations : List ℕ
  pub set : All (IsSet woken) stations
  pub rising : Rises 0 stations
  pub inside : All (λ s. s < below) stations
  pub put : new.deal ≡ deal (old.deal.put ++ stations) old.deal.taken
  pub offered : new.offered % 2 ^ 64 ≡ (old.offered + set_below woken below) % 2 ^ 64
  pub asked : new.asked ≡ old.asked

-- This station was offered to the queue once, which took it or was full
pub record HasHintedOne (station : ℕ) (old new : TheHinter) : Type 0 where
  pub of : new.of ≡ old.of
  pub put : (new.deal ≡ putting station old.deal) ⊎ (new.deal ≡ old.deal)
  pub offered : HasOffered old new

-- A unit that has finished a job hints the stations that its result woke; one that came too late hints none
abbrev pub HintsWoken : (ring woken : ℕ) → Finish → TheHinter → TheHinter → Type 0
HintsWoken ring woken Finished old new = HasHinted woken ring old new
HintsWoken ring woken Stale old new = new ≡ old

-- No station was offered, or as many as these that woke, modulo 2^64
abbrev pub OffersWoken : (ring woken : ℕ) → TheHinter → TheHinter → Type 0
OffersWoken ring woken old new =
    (new.offered ≡ old.offered) ⊎ (new.offered % 2 ^ 64 ≡ (old.offered + set_below woken ring) % 2 ^ 64)

-- The station at which a unit looks
abbrev pub candidate_station : Candidate → ℕ
candidate_station (Hinted station) = station
candidate_station (Next station) = station

-- The search found a hint; or there was none, and it found the next station in ring order
abbrev pub FindsStation : (ring : ℕ) → Search → Search → Candidate → Type 0
FindsStation ring old new (Hinted station) =
    (new.hinter.deal ≡ taking station old.hinter.deal) × (new.next ≡ old.next)
FindsStation ring old new (Next station) =
    (station ≡ old.next) × (new.next ≡ (old.next + 1) % ring) × (new.hinter.deal ≡ old.hinter.deal)

-- One hint was asked for, whether there was one or not
abbrev pub AsksOnce : Search → Search → Type 0
AsksOnce old new = new.hinter.asked ≡ (old.hinter.asked + 1) % 2 ^ 64

-- The search is in this queue, and goes on from a station of its ring
pub record Searches (hints : TheHints) (search : Search) : Type 0 where
  pub of : IsEndOf hints search.hinter
  pub next : search.next < hints.ring

-- The hints in a queue, and those that each thread has put and taken, offered and asked for.
use Rattle.std.specs.Prelude.{◌≡◌, ℕ, ◌+◌, ◌%◌, ◌^◌, ◌<◌, ◌≤◌, ◌==◌, List, [], ◌∷◌, ◌++◌, length, map, All, if◌then◌else◌}
use mathlib.Core.Option.{some}
use lib.ListN.{get_elem?}
use Rattle.atomic_table.specs.Seated.{TableId}
use Rattle.hints.specs.declared.deals.Deal.{Deal}

-- A queue of hints: which one, and how many stations there are
pub record TheHints : Type 0 where
  pub id : TableId
  pub ring : ℕ

-- A thread's end of a queue: of which one, what it has put and taken, and how often it has offered a hint and asked for
-- one, modulo 2^64
pub record TheHinter : Type 0 where
  pub of : TableId
  pub deal : Deal
  pub offered : ℕ
  pub asked : ℕ

-- A thread's end of this queue
abbrev pub IsEndOf : TheHints → TheHinter → Type 0
IsEndOf hints hinter = hinter.of ≡ hints.id

-- The hints that a thread has put and those that it has taken, the last one last
abbrev pub deal : List ℕ → List ℕ → Deal
deal put taken = record { put = put; taken = taken }

-- A new thread's end of this queue
abbrev pub fresh : TheHints → TheHinter
fresh hints = record { of = hints.id; deal = deal [] []; offered = 0; asked = 0 }

-- A hint was offered once, and none was asked for
pub record HasOffered (old new : TheHinter) : Type 0 where
  pub once : new.offered ≡ (old.offered + 1) % 2 ^ 64
  pub asked : new.asked ≡ old.asked

-- A hint was asked for once, and none was offered
pub record HasAskedForHint (old new : TheHinter) : Type 0 where
  pub once : new.asked ≡ (old.asked + 1) % 2 ^ 64
  pub offered : new.offered ≡ old.offered

-- One hint more was put
abbrev pub putting : ℕ → Deal → Deal
putting x v = deal (v.put ++ x ∷ []) v.taken

-- One hint more was taken
abbrev pub taking : ℕ → Deal → Deal
taking x v = deal v.put (v.taken ++ x ∷ [])

-- A hint that was moved, and by which thread
pub record Move : Type 0 where
  pub by : ℕ
  pub hint : ℕ

-- The hints that were moved
abbrev pub hints_of : List Move → List ℕ
hints_of moves = map (λ m. m.hint) moves

-- The hints that this thread has moved
abbrev pub by_thread : ℕ → List Move → List ℕ
by_thread thread [] = []
by_thread thread (m ∷ ms) =
    if m.by == thread then m.hint ∷ by_thread thread ms else by_thread thread ms

-- A thread has put and taken its own, of all puts and all takes
pub record ThreadKnows (puts takes : List Move) (thread : ℕ) (v : Deal) : Type 0 where
  pub put : v.put ≡ by_thread thread puts
  pub taken : v.taken ≡ by_thread thread takes

-- All puts in one order are all takes, and after these the hints that the queue holds, each of which is a station;
-- and each thread has put and taken its own
pub record Hinted (ring : ℕ) (items : List ℕ) (views : List Deal) : Type 0 where
  pub puts : List Move
  pub takes : List Move
  pub in_order : hints_of puts ≡ hints_of takes ++ items
  pub stations : All (λ x. x < ring) items
  pub knows : (thread : ℕ) (v : Deal) → get_elem? views thread ≡ some v → ThreadKnows puts takes thread v
  pub nobody_else : (thread : ℕ) → length views ≤ thread → ThreadKnows puts takes thread (deal [] [])

-- What a recovery answers.
use Rattle.std.specs.Prelude.{◌≡◌, ℕ, Bool, not, ◌&&◌, ◌||◌, ◌==◌, ◌<◌, List, [], ◌∷◌, map, length, take, Option, Some, None, slice_get}
use Rattle.std.specs.List.{AllByRecursion}
use Rattle.instructions.specs.Programs.{Program}
use Rattle.inorder.specs.declared.history.Act.TheVariants.{Mend, Squash}
use Rattle.inorder.specs.declared.history.Entry.{Entry}
use Rattle.inorder.specs.declared.history.Event.{Event}
use Rattle.inorder.specs.declared.history.Event.TheVariants.{Does}
use Rattle.inorder.specs.declared.history.Step.TheVariants.{On}
use Rattle.inorder.specs.Callers.{IsMissing}
use Rattle.inorder.specs.History.{front, unit_of}
use Rattle.inorder.specs.OneHistory.{Adds}
use Rattle.inorder.specs.Replies.{HasNoMiss}
use Rattle.inorder.specs.Tenants.{Tenant}
use Rattle.inorder.specs.Unit.{Sizes, UpdateUnit, at}
use Rattle.ruu_words.specs.Kinds.{IsNamed, IsTenant}
use Rattle.front.specs.declared.answers.Recovery.{Recovery}
use Rattle.front.specs.declared.answers.Recovery.TheVariants.{Mended, NoMiss}
use Rattle.front.specs.declared.path.record.Record.{Record}
use Rattle.front.specs.declared.recovery.Missed.{Missed}

-- The event of the squash of tenant p
abbrev pub squash_event : ℕ → Event
squash_event p = Does (On p Squash)

-- No tenant before p is a live miss
abbrev pub NoOlderMiss : UpdateUnit → ℕ → Type 0
NoOlderMiss U p =
    (q x : ℕ) (t : Tenant) → q < p → at U.tenants q ≡ Some t → ¬ IsMissing x t

-- A miss was mended after the squashes of all younger tenants, the last one first. It was the oldest at the
-- beginning of the call
pub record MissIsMended (P : Program) (C : Sizes) (old new : List Entry) (station squashed : ℕ) : Type 0 where
  pub p : ℕ
  pub tag : ℕ
  pub named : IsNamed (unit_of P C new) p station tag
  pub first : NoOlderMiss (unit_of P C old) p
  pub squashes : List ℕ
  pub count : length squashes ≡ squashed
  pub adds : Adds P C front old new (Does (On p Mend) ∷ map squash_event squashes)

-- A recovery answers that a miss was mended, or that there was none when it began
abbrev pub RecoverAnswers : Program → Sizes → List Entry → List Entry → Recovery → Type 0
RecoverAnswers P C old new (Mended station squashed) = MissIsMended P C old new station squashed
RecoverAnswers P C old new NoMiss = Adds P C front old new [] × HasNoMiss (unit_of P C old)

-- How many were squashed
abbrev pub squashed_by : Recovery → ℕ
squashed_by (Mended station squashed) = squashed
squashed_by NoMiss = 0

-- The stages of a recovery

-- The tenant may be a jump: it reaches no memory, and writes a register only as a link
abbrev pub may_miss : Record → Bool
may_miss r = not r.access && (r.links || r.destination == 0)

-- No live miss has this station and tag
abbrev pub IsNoLiveMiss : UpdateUnit → Record → Type 0
IsNoLiveMiss U r =
    (p x : ℕ) (t : Tenant) → at U.tenants p ≡ Some t → t.station ≡ r.station → t.tag ≡ r.tag →
    ¬ IsMissing x t

-- In what was seen the tenant of this station and tag is a live miss that goes on at `next`
pub record IsMiss (P : Program) (C : Sizes) (seen : List Entry) (r : Record) (next : ℕ) : Type 0 where
  pub p : ℕ
  pub tenant : IsTenant (unit_of P C seen) p r.station r.tag (IsMissing next)

-- The found miss m is, in what was seen, the tenant of one of these records
pub record IsMissAt (P : Program) (C : Sizes) (seen : List Entry) (records : List Record) (m : Missed) : Type 0 where
  pub one : Record
  pub here : slice_get records m.at ≡ Some one
  pub station : m.station ≡ one.station
  pub small : m.station < C.ring
  pub miss : IsMiss P C seen one m.next

-- The found miss m is the first among these records
pub record IsFound (P : Program) (C : Sizes) (old new : List Entry) (records : List Record) (m : Missed) : Type 0 where
  pub miss : IsMissAt P C new records m
  pub first : AllByRecursion (IsNoLiveMiss (unit_of P C old)) (take m.at records)

-- The scan of the records finds no miss, or the first
abbrev pub ScanFinds : Program → Sizes → List Entry → List Entry → List Record → Option Missed → Type 0
ScanFinds P C old new records None = AllByRecursion (IsNoLiveMiss (unit_of P C old)) records
ScanFinds P C old new records (Some m) = IsFound P C old new records m

-- All after one of the tenants were squashed
pub record IsCut (P : Program) (C : Sizes) (old new : List Entry) (squashed : ℕ) : Type 0 where
  pub squashes : List ℕ
  pub count : length squashes ≡ squashed
  pub adds : Adds P C front old new (map squash_event squashes)

-- Views: what a seat of a table has seen, whose it is, and which numbers it may give away.
use Rattle.std.specs.Prelude.{⊤, ◌≡◌, ◌⊎◌, ℕ, ◌+◌, ◌*◌, ◌<◌, ◌≤◌, List, []}
use Rattle.inorder.specs.declared.history.Entry.{Entry}
use Rattle.inorder.specs.History.{IsUnit, back, front, own}
use Rattle.instructions.specs.Histories.{StartsWith}
use Rattle.ruu_words.specs.declared.rule.Draft.{Draft}
use Rattle.ruu_words.specs.declared.rule.Draft.TheVariants.{Nothing}
use Rattle.ruu_words.specs.declared.rule.SpareNumbers.{SpareNumbers}
use Rattle.ruu_words.specs.declared.rule.Role.{Role}
use Rattle.ruu_words.specs.declared.rule.Role.TheVariants.{Back, Front, Spent, Start, Worker}
use Rattle.ruu_words.specs.declared.rule.Setup.{Setup}
use Rattle.ruu_words.specs.declared.rule.View.{View}
use Rattle.ruu_words.specs.Openings.{opening_of}

-- The numbers of callers

-- No numbers to give away
abbrev pub nobody : SpareNumbers
nobody = record { first = 0; every = 0 }

-- One of the numbers that a seat may give away
pub record IsSpare (spare : SpareNumbers) (n : ℕ) : Type 0 where
  pub some : 1 ≤ spare.every
  pub k : ℕ
  pub is : n ≡ spare.first + k * spare.every

-- The number is the seat's own, or one that the seat may give away
abbrev pub IsOf : View → ℕ → Type 0
IsOf v n = (n ≡ v.by) ⊎ IsSpare v.spare n

-- The numbers that are left when the first is given away
abbrev pub without_first : SpareNumbers → SpareNumbers
without_first spare = record { first = spare.first + spare.every; every = spare.every }

-- What the old seat keeps when the first number goes to a new seat: the second number, the fourth, and so on
abbrev pub half : SpareNumbers → SpareNumbers
half spare = record { first = spare.first + spare.every; every = 2 * spare.every }

-- What the new seat may give away then: the third number, the fifth, and so on
abbrev pub other_half : SpareNumbers → SpareNumbers
other_half spare = record { first = spare.first + 2 * spare.every; every = 2 * spare.every }

-- Views

-- A seat's view, which nobody has told anything
abbrev pub view : Role → ℕ → SpareNumbers → List Entry → Draft → View
view role by spare seen draft =
    record { role = role; by = by; spare = spare; seen = seen; told = []; draft = draft }

-- What the first seat knows: all numbers are its own
abbrev pub first_view : Setup → View
first_view c = view Start front (record { first = 1; every = 1 }) (opening_of c) Nothing

-- The seat v, told of what the seat w has seen
abbrev pub informed : View → View → View
informed v w =
    record {
      role = v.role;
      by = v.by;
      spare = v.spare;
      seen = v.seen;
      told = w.seen;
      draft = v.draft;
    }

-- Nobody whose number it may still give away has done anything since the opening, in what it has seen
abbrev pub Unborn : List Entry → View → Type 0
Unborn opening v = (n : ℕ) → IsSpare v.spare n → own n v.seen ≡ own n opening

-- Roles. The first seat is the front's once the back's is cut from it, and a spent one makes no
-- calls

-- The number is one for this role
abbrev pub IsCaller : Role → ℕ → Type 0
IsCaller Start by = by ≡ front
IsCaller Front by = by ≡ front
IsCaller Back by = by ≡ back
IsCaller Worker by = IsUnit by
IsCaller Spent by = ⊤

-- The seat is not spent
abbrev pub IsAlive : Role → Type 0
IsAlive Spent = ⊥
IsAlive _ = ⊤

-- What a seat has seen begins the history, and has all entries of its caller; it goes on from the
-- history that the table opened with, and nobody whose number it may still give away has done anything
-- since
pub record ViewFits (opening h : List Entry) (v : View) : Type 0 where
  pub begins : StartsWith h v.seen
  pub told : StartsWith h v.told
  pub opened : IsAlive v.role → StartsWith v.seen opening
  pub all_own : IsAlive v.role → own v.by h ≡ own v.by v.seen
  pub unborn : IsAlive v.role → (n : ℕ) → IsSpare v.spare n → own n h ≡ own n opening
  pub caller : IsCaller v.role v.by
  pub above : 1 ≤ v.spare.every → v.by < v.spare.first

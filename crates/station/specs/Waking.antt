-- Whom a caller has woken: the stations whose tenants it took a value to.
use Rattle.std.specs.Prelude.{◌≡◌, ◌⊎◌, ℕ, Bool, true, List, [], ◌∷◌}
use Rattle.std.specs.Int.{bit_at}
use Rattle.instructions.specs.Programs.{Program}
use Rattle.inorder.specs.declared.history.Act.TheVariants.{Deliver}
use Rattle.inorder.specs.declared.history.Entry.{Entry}
use Rattle.inorder.specs.declared.history.Event.{Event}
use Rattle.inorder.specs.declared.history.Event.TheVariants.{Does}
use Rattle.inorder.specs.declared.history.Source.{Source}
use Rattle.inorder.specs.declared.history.Step.TheVariants.{On}
use Rattle.inorder.specs.History.{unit_of}
use Rattle.inorder.specs.OneHistory.{Adds}
use Rattle.inorder.specs.Replies.{Has}
use Rattle.inorder.specs.Unit.{Sizes, UpdateUnit}

-- Bit s of this number is set
abbrev pub IsSet : ℕ → ℕ → Type 0
IsSet n s = bit_at n s ≡ 1

-- The event is one of these
abbrev pub IsAmong : Event → List Event → Type 0
IsAmong e [] = ⊥
IsAmong e (x ∷ xs) = (e ≡ x) ⊎ IsAmong e xs

-- One of these events takes a value to a tenant of this station
pub record IsWoken (U : UpdateUnit) (events : List Event) (station : ℕ) : Type 0 where
  pub p : ℕ
  pub k : Source
  pub among : IsAmong (Does (On p (Deliver k))) events
  pub tenant : Has U p (λ t. t.station ≡ station)

-- Of what a caller has added to the history, each delivery is to a tenant of one of these stations,
-- and there is one for each of them
pub record Wakes (P : Program) (C : Sizes) (by : ℕ) (old new : List Entry) (Station : ℕ → Type 0) :
    Type 0 where
  pub events : List Event
  pub adds : Adds P C by old new events
  pub each : (p : ℕ) (k : Source) → IsAmong (Does (On p (Deliver k))) events →
      Has (unit_of P C new) p (λ t. Station t.station)
  pub woken : (s : ℕ) → Station s → IsWoken (unit_of P C new) events s

-- Bit s of this number is set exactly where the caller has added a delivery to a tenant of station s
abbrev pub HasWoken : Program → Sizes → ℕ → List Entry → List Entry → ℕ → Type 0
HasWoken P C by old new woken = Wakes P C by old new (IsSet woken)

-- The number with bit s too, if it is to be set
pub record IsWith (old s : ℕ) (wakes : Bool) (new : ℕ) : Type 0 where
  pub kept : (i : ℕ) → IsSet old i → IsSet new i
  pub set : wakes ≡ true → IsSet new s
  pub only : (i : ℕ) → IsSet new i → IsSet old i ⊎ ((wakes ≡ true) × (i ≡ s))

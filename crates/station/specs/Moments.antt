-- Moments of a call.
use Rattle.std.specs.Prelude.{ℕ, List}
use Rattle.instructions.specs.Programs.{Program}
use Rattle.inorder.specs.declared.history.Entry.{Entry}
use Rattle.inorder.specs.History.{unit_of}
use Rattle.instructions.specs.Histories.{IsWithin}
use Rattle.inorder.specs.Replies.{Has, IsOpen}
use Rattle.inorder.specs.Unit.{Sizes, UpdateUnit}

-- This was true of the unit at a moment of the call
pub record WasOnce (P : Program) (C : Sizes) (old new : List Entry) (Fact : UpdateUnit → Type 0) : Type 0 where
  pub point : List Entry
  pub within : IsWithin old new point
  pub fact : Fact (unit_of P C point)

-- The tenant at position p was open at a moment of the call
abbrev pub WasOpenOnce : Program → Sizes → List Entry → List Entry → ℕ → Type 0
WasOpenOnce P C old new p = WasOnce P C old new (λ U. Has U p IsOpen)

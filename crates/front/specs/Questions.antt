-- The questions after a let.
use Rattle.std.specs.Prelude.{⊤, ◌≡◌, ℕ, ◌<◌, List}
use Rattle.instructions.specs.Programs.{Program}
use Rattle.inorder.specs.declared.history.Entry.{Entry}
use Rattle.inorder.specs.declared.history.Event.{Event}
use Rattle.inorder.specs.declared.history.Source.{Source}
use Rattle.inorder.specs.History.{front, unit_of}
use Rattle.inorder.specs.OneHistory.{Adds}
use Rattle.inorder.specs.Unit.{Sizes, front_half}
use Rattle.ruu_words.specs.Kinds.{IsNamed}
use Rattle.station.specs.declared.answers.Supply.{Supply}
use Rattle.station.specs.declared.answers.Supply.TheVariants.{From, Known}
use Rattle.station.specs.Asking.{IsQuestion, MayAsk}
use Rattle.front.specs.declared.fetch.Fetched.{Fetched}
use Rattle.front.specs.Turns.{LetsOut}
use Rattle.instructions.specs.Programs.{instr_of}

-- A source that comes from its creator can be asked for
abbrev pub MayAskFor : Program → Sizes → List Entry → ℕ → ℕ → Source → Supply → Type 0
MayAskFor P C seen station tag k (Known v) = ⊤
MayAskFor P C seen station tag k (From s g) = (s < C.ring) × MayAsk P C seen station tag k s g

-- Source k of the tenant of this station and tag was asked for
pub record WasAsked (P : Program) (C : Sizes) (old new : List Entry) (station tag : ℕ) (k : Source) : Type 0 where
  pub r : ℕ
  pub named : IsNamed (unit_of P C new) r station tag
  pub events : List Event
  pub question : IsQuestion r k events
  pub adds : Adds P C front old new events

-- A source that comes from its creator was asked for; for one with a known value nothing was done
abbrev pub Asks : Program → Sizes → List Entry → List Entry → ℕ → ℕ → Source → Supply → Type 0
Asks P C old new station tag k (Known v) = new ≡ old
Asks P C old new station tag k (From s g) = WasAsked P C old new station tag k

-- The instruction was let
pub record IsDispatched (P : Program) (C : Sizes) (old new : List Entry) (f : Fetched) (predicted tag : ℕ) : Type 0 where
  pub lets : LetsOut P C old new f.station tag f.pc predicted
  pub instr : instr_of P lets.index ≡ f.instr
  pub half : front_half P (unit_of P C lets.point).tenants ≡ f.half

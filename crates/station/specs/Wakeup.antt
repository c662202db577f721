-- The steps of a question.
use Rattle.std.specs.Prelude.{ℕ, List}
use Rattle.instructions.specs.Programs.{Program}
use Rattle.inorder.specs.declared.history.Entry.{Entry}
use Rattle.inorder.specs.declared.history.Event.{Event}
use Rattle.inorder.specs.declared.history.Source.{Source}
use Rattle.inorder.specs.Callers.{HasAsked, HasMade, IsLastAt}
use Rattle.inorder.specs.History.{unit_of}
use Rattle.inorder.specs.Unit.{Sizes}
use Rattle.ruu_words.specs.declared.rule.Draft.{Draft}
use Rattle.ruu_words.specs.Kinds.{Answers, Asks, HasLink, IsNamed, IsTenant, Questions}
use Rattle.station.specs.Carrying.{OfTenant}

-- Tenant r, the station's last, has asked for its source k from tenant q, the last of another station
pub record HasAskedOf (P : Program) (C : Sizes) (seen : List Entry) (station tag : ℕ) (k : Source) (from_station from_tag r q : ℕ) : Type 0 where
  pub asks : IsTenant (unit_of P C seen) r station tag (HasAsked k q)
  pub last : IsLastAt (unit_of P C seen) r station
  pub creator : IsNamed (unit_of P C seen) q from_station from_tag
  pub creator_last : IsLastAt (unit_of P C seen) q from_station

-- In what was seen there are two such tenants
pub record HasAskedFrom (P : Program) (C : Sizes) (seen : List Entry) (station tag : ℕ) (k : Source) (from_station from_tag : ℕ) : Type 0 where
  pub r : ℕ
  pub q : ℕ
  pub of : HasAskedOf P C seen station tag k from_station from_tag r q

-- Source k of the station's last tenant was asked for, and its creator has made this value
pub record CanAnswer (P : Program) (C : Sizes) (seen : List Entry) (station tag : ℕ) (k : Source) (value : ℕ) : Type 0 where
  pub r : ℕ
  pub q : ℕ
  pub asks : IsTenant (unit_of P C seen) r station tag (HasLink k q)
  pub last : IsLastAt (unit_of P C seen) r station
  pub made : HasMade (unit_of P C seen) q value

module _ (P : Program) (C : Sizes) where
  -- What the steps tell of the tenants that are named: of the link, of the look, and of the exchange

  abbrev pub Links : (station tag : ℕ) (k : Source) → List Entry → Draft → List Event → Type 0
  Links station tag k h d events = OfTenant P C h station tag (λ r. Asks P C r k h d events)

  abbrev pub Finds : (station tag : ℕ) (k : Source) (from_station from_tag n : ℕ) → List Entry → Draft → List Event → Type 0
  Finds station tag k from_station from_tag n h d events =
      OfTenant P C h station tag (λ r. OfTenant P C h from_station from_tag (λ q. Questions P C r k q n h d events))

  abbrev pub Ends : (station tag : ℕ) (k : Source) (old n : ℕ) → List Entry → Draft → List Event → Type 0
  Ends station tag k old n h d events = OfTenant P C h station tag (λ r. Answers P C r k old n h d events)

-- Asking for a source.
use Rattle.std.specs.Prelude.{◌≡◌, ◌⊎◌, ℕ, true, List, [], ◌∷◌, None}
use Rattle.instructions.specs.Programs.{Program}
use Rattle.inorder.specs.declared.history.Act.TheVariants.{Deliver, Link}
use Rattle.inorder.specs.declared.history.Entry.{Entry}
use Rattle.inorder.specs.declared.history.Event.{Event}
use Rattle.inorder.specs.declared.history.Event.TheVariants.{Does, Marks}
use Rattle.inorder.specs.declared.history.Mark.TheVariants.{Asked}
use Rattle.inorder.specs.declared.history.Source.{Source}
use Rattle.inorder.specs.declared.history.Step.TheVariants.{On}
use Rattle.inorder.specs.Callers.{CanAsk, IsLastAt}
use Rattle.inorder.specs.History.{unit_of}
use Rattle.inorder.specs.OneHistory.{Adds}
use Rattle.inorder.specs.Replies.{Has, IsAskedInTime, IsDelivered}
use Rattle.inorder.specs.Tenants.{Tenant, on_path}
use Rattle.inorder.specs.Unit.{Sizes, UpdateUnit}
use Rattle.ruu_words.specs.Kinds.{HasLink, IsNamed, IsTenant}
use Rattle.station.specs.declared.answers.Ask.{Ask}
use Rattle.station.specs.declared.answers.Ask.TheVariants.{Delivered, Linked}
use Rattle.station.specs.Moments.{WasOnce}

-- The tenant on the path whose source k comes from tenant q and was not asked for
pub record IsAsking (k : Source) (q : ℕ) (t : Tenant) : Type 0 where
  pub can : CanAsk k q t
  pub path : on_path t ≡ true

-- Source k of the station's last tenant, which has this tag, comes from the last tenant of another
-- station, and was not asked for
pub record MayAsk (P : Program) (C : Sizes) (seen : List Entry) (station tag : ℕ) (k : Source) (from_station from_tag : ℕ) : Type 0 where
  pub r : ℕ
  pub q : ℕ
  pub asks : IsTenant (unit_of P C seen) r station tag (IsAsking k q)
  pub last : IsLastAt (unit_of P C seen) r station
  pub creator : IsNamed (unit_of P C seen) q from_station from_tag
  pub creator_last : IsLastAt (unit_of P C seen) q from_station

-- The tenant has made nothing
abbrev pub HasMadeNothing : ℕ → UpdateUnit → Type 0
HasMadeNothing q U = Has U q (λ t. t.made ≡ None)

-- The source was asked for: a link, a delivery where the question itself finds the value and nobody
-- else was faster, and the mark, the last one first
abbrev pub IsQuestion : ℕ → Source → List Event → Type 0
IsQuestion r k events =
    (events ≡ Marks (Asked r k) ∷ Does (On r (Link k)) ∷ [])
    ⊎ (events ≡ Marks (Asked r k) ∷ Does (On r (Deliver k)) ∷ Does (On r (Link k)) ∷ [])

-- The answer to the question for source k of tenant r, which tenant q creates
abbrev pub IsAnswer : Program → Sizes → List Entry → List Entry → ℕ → Source → ℕ → Ask → Type 0
IsAnswer P C old new r k q Delivered = IsDelivered (unit_of P C new) r k
IsAnswer P C old new r k q Linked =
    IsAskedInTime (unit_of P C new) r k × WasOnce P C old new (HasMadeNothing q)

-- A question for source k, once answered: its entries, and an answer that is true
pub record AskAnswers (P : Program) (C : Sizes) (by : ℕ) (old new : List Entry) (station tag : ℕ) (k : Source) (from_station from_tag : ℕ) (answer : Ask) : Type 0 where
  pub r : ℕ
  pub q : ℕ
  pub asks : IsTenant (unit_of P C new) r station tag (HasLink k q)
  pub creator : IsNamed (unit_of P C new) q from_station from_tag
  pub events : List Event
  pub question : IsQuestion r k events
  pub adds : Adds P C by old new events
  pub is : IsAnswer P C old new r k q answer

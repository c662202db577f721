-- Letting a tenant out.
use Rattle.std.specs.Prelude.{◌≡◌, ℕ, ◌<◌, List, [], ◌∷◌, Option, Some, None}
use Rattle.instructions.specs.Programs.{Program}
use Rattle.inorder.specs.declared.history.Entry.{Entry}
use Rattle.inorder.specs.declared.history.Event.{Event}
use Rattle.inorder.specs.declared.history.Event.TheVariants.{Does}
use Rattle.inorder.specs.declared.history.Step.TheVariants.{Let}
use Rattle.inorder.specs.declared.history.Supply.{Supply}
use Rattle.inorder.specs.declared.history.Supply.TheVariants.{From, Known}
use Rattle.inorder.specs.History.{entry, unit_of}
use Rattle.inorder.specs.OneHistory.{Adds}
use Rattle.inorder.specs.Replies.{last_tag}
use Rattle.ruu_words.specs.Fields.{half_of, index_of, predicted_of}
use Rattle.inorder.specs.Steps.{MayLet}
use Rattle.inorder.specs.Unit.{Sizes, UpdateUnit, front_half, next_station, next_tag, recent}
use Rattle.ruu_words.specs.declared.rule.Draft.{Draft}
use Rattle.ruu_words.specs.declared.rule.Draft.TheVariants.{Of}
use Rattle.ruu_words.specs.declared.rule.Stage.{Stage}
use Rattle.station.specs.declared.answers.Supply.{Supply as Given}
use Rattle.station.specs.declared.answers.Supply.TheVariants.{From as GivenFrom, Known as GivenKnown}
use Rattle.station.specs.declared.answers.Tenant.{Tenant}

-- The source as the unit sees it, which looks for the creator itself: station and tag of `From` say nothing here
abbrev pub supply_of : Given → Supply
supply_of (GivenKnown v) = Known v
supply_of (GivenFrom station tag) = From

-- The value that it has from the start
abbrev pub given_value : Given → Option ℕ
given_value (GivenKnown v) = Some v
given_value (GivenFrom station tag) = None

-- An info word is this tenant's
pub record ShowsTenant (t : Tenant) (word : ℕ) : Type 0 where
  pub half : half_of word ≡ t.half
  pub index : index_of word ≡ t.index
  pub predicted : predicted_of word ≡ t.predicted

-- The let of this tenant in progress, at a stage
abbrev pub draft_of : Stage → Tenant → Draft
draft_of stage t = Of stage t.index t.predicted (supply_of t.sources.0) (supply_of t.sources.1)

-- The event of its let
abbrev pub let_of : Tenant → Event
let_of t = Does (Let t.index t.predicted (supply_of t.sources.0) (supply_of t.sources.1))

-- This tenant may be let, as the half that comes next, and its tag has its bits
pub record MayLetOut (P : Program) (C : Sizes) (U : UpdateUnit) (t : Tenant) : Type 0 where
  pub may : MayLet P C U t.index t.predicted (supply_of t.sources.0) (supply_of t.sources.1)
  pub half : t.half ≡ front_half P U.tenants
  pub tag : next_tag C (recent U) < last_tag

-- The tenant was let, by the last entry of what was seen
pub record IsLetOut (P : Program) (C : Sizes) (by : ℕ) (t : Tenant) (old new : List Entry) : Type 0 where
  pub adds : Adds P C by old new (let_of t ∷ [])
  pub point : List Entry
  pub is : new ≡ entry by (let_of t) ∷ point
  pub station : next_station C (recent (unit_of P C point)) ≡ next_station C (recent (unit_of P C old))

-- What a refusal of an event says wherever links and deliveries stand.
use Rattle.std.specs.Prelude.{⊤, ◌≡◌, ◌⊎◌, ℕ, List, [], ◌∷◌, ◌++◌}
use Rattle.instructions.specs.Programs.{Program}
use Rattle.inorder.specs.Legal.{Taken}
use Rattle.inorder.specs.Unit.{Sizes}
use Rattle.replay.specs.declared.acting.Deed.TheVariants.{Mend}
use Rattle.replay.specs.declared.step.Step.{Step}
use Rattle.replay.specs.declared.step.Step.TheVariants.{Let, On}
use Rattle.replay.specs.declared.unit.Unit.{Unit as Held}
use Rattle.replay.specs.Lets.{IsNoLet, sizes_of, unit_of}
use Rattle.replay.specs.Placing.{IsInterleaved, IsPlacedTo}
use Rattle.replay.specs.Verdicts.{turned}
use Rattle.events.specs.declared.event.Event.{Event}
use Rattle.events.specs.declared.why.Why.{Why}
use Rattle.events.specs.declared.why.Why.TheVariants.{Let as NoLet, Act as NoAct}
use Rattle.events.specs.Logs.{AreTaken, Say}
use Rattle.events.specs.Told.{Begins, IsNext, Refuses}

-- A misprediction is mended
abbrev pub IsMend : Step → Type 0
IsMend (On p Mend) = ⊤
IsMend _ = ⊥

-- These steps are those that are told, with mends among them; the last one is the first of each list
abbrev pub AreMended : (told steps : List Step) → Type 0
AreMended [] [] = ⊤
AreMended [] (r ∷ rr) = IsMend r × AreMended [] rr
AreMended (s ∷ ss) [] = ⊥
AreMended (s ∷ ss) (r ∷ rr) = ((r ≡ s) × AreMended ss rr) ⊎ (IsMend r × AreMended (s ∷ ss) rr)

-- The reason speaks against this step in the unit w
abbrev pub IsAgainst : Held → Why → Step → Type 0
IsAgainst w (NoAct p deed reason) step = step ≡ On p deed
IsAgainst w (NoLet reason) (Let index predicted) = IsNoLet w index predicted reason
IsAgainst w why step = ⊥

-- Events are taken, and the next one is refused for a reason after the first ones of its steps. With the mends that the
-- judge has made, these steps lead to the unit w; and wherever links and deliveries stand, no legal history makes them and
-- then a step against which the reason speaks
pub record IsRefusedFreely (P : Program) (C : Sizes) (events : List Event) (event : Event) (why : Why)
    (w : Held) : Type 0 where
  pub before : List Step
  pub say : Say events before
  pub begun : List Step
  pub next : IsNext w (Begins event) begun why
  pub steps : List Step
  pub mended : AreMended (begun ++ before) steps
  pub placed : IsPlacedTo P C (turned steps []) (unit_of w)
  pub free : (step : Step) → IsAgainst w why step → (history : List Taken) →
      ¬ IsInterleaved P C (turned steps [] ++ step ∷ []) history

-- Events that are taken in turn, from a unit before its first let on, and then one that is refused are so
abbrev pub EachRefusalIsFreeOfPlacing : Type 0
EachRefusalIsFreeOfPlacing =
    (u v w : Held) (events : List Event) (event : Event) (why : Why) → u.tenants.items ≡ [] →
    AreTaken u events v → Refuses v (Begins event) why w →
    IsRefusedFreely u.program.now (sizes_of u) events event why w

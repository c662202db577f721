-- The order of turns: a turn in order is the first of these that is possible.
use Rattle.std.specs.Prelude.{⊤, ℕ, List}
use Rattle.std.specs.List.{AllByRecursion}
use Rattle.instructions.specs.Programs.{Program}
use Rattle.instructions.specs.declared.instr.Instr.{Instr}
use Rattle.instructions.specs.declared.stop.Stop.{Stop}
use Rattle.inorder.specs.declared.history.Supply.{Supply}
use Rattle.inorder.specs.Moves.{IsReached}
use Rattle.inorder.specs.Plain.{StaysPlain}
use Rattle.inorder.specs.Steps.{MayClaim, MayLet}
use Rattle.inorder.specs.Tenants.{Tenant}
use Rattle.inorder.specs.Unit.{Sizes, UpdateUnit}
use Rattle.one_thread.specs.declared.bench.Turn.{Turn}
use Rattle.one_thread.specs.declared.bench.Turn.TheVariants.{Halved, Let, Loaded, Over, Ran, Recovered, Retired}
use Rattle.one_thread.specs.Blocked.{AreBlocked}
use Rattle.one_thread.specs.StandsFor.{StandsFor, sizes}
use Rattle.one_thread.specs.Turns.{Before, BenchFields, Does, EndsHere, IsNoMiss, Now, Nowhere, Trains}

-- A tenant that nobody may claim
abbrev pub IsUnclaimable : Program → Tenant → Type 0
IsUnclaimable P t = MayClaim P t → ⊥

-- No let is legal
abbrev pub NoLet : Program → Sizes → UpdateUnit → Type 0
NoLet P C U =
    (index predicted : ℕ) (first second : Supply) → MayLet P C U index predicted first second → ⊥

-- Nothing recovers and nothing can be let, and none of the tenants ts, which are older, can be claimed
pub record ClaimIsFirst (P : Program) (C : Sizes) (U : UpdateUnit) (ts : List Tenant) : Type 0 where
  pub no_miss : AllByRecursion IsNoMiss U.tenants
  pub no_let : NoLet P C U
  pub oldest : AllByRecursion (IsUnclaimable P) ts

-- Nothing recovers, can be let or can be claimed, and each load among ts, which are older, is blocked
pub record LoadIsFirst (P : Program) (C : Sizes) (U : UpdateUnit) (ts : List Tenant) : Type 0 where
  pub no_miss : AllByRecursion IsNoMiss U.tenants
  pub no_let : NoLet P C U
  pub no_claim : AllByRecursion (IsUnclaimable P) U.tenants
  pub oldest : AreBlocked P ts

-- Nothing recovers, can be let or can be claimed, and each load is blocked
pub record RetirementIsFirst (P : Program) (C : Sizes) (U : UpdateUnit) : Type 0 where
  pub no_miss : AllByRecursion IsNoMiss U.tenants
  pub no_let : NoLet P C U
  pub no_claim : AllByRecursion (IsUnclaimable P) U.tenants
  pub no_load : AreBlocked P U.tenants

-- An end is first, if a retirement comes with it
abbrev pub EndIsFirst : (P : Program) (C : Sizes) (U V : UpdateUnit) (c : Stop) → EndsHere P C U V c → Type 0
EndIsFirst P C U V c (Before stopped same) = ⊤
EndIsFirst P C U V c (Now retires stopped) = RetirementIsFirst P C U
EndIsFirst P C U V c (Nowhere bad nowhere same) = ⊤

-- Nothing that stands before a turn in the order of turns is possible in the unit U
abbrev pub IsFirst : (P : Program) (C : Sizes) (U V : UpdateUnit) (answer : Turn) → Does P C U V answer → Type 0
IsFirst P C U V (Recovered age) does = ⊤
IsFirst P C U V Let does = AllByRecursion IsNoMiss U.tenants
IsFirst P C U V (Ran age) does = ClaimIsFirst P C U does.ts
IsFirst P C U V (Loaded age) does = LoadIsFirst P C U does.ts
IsFirst P C U V Halved does = RetirementIsFirst P C U
IsFirst P C U V Retired does = RetirementIsFirst P C U
IsFirst P C U V (Over c) does = EndIsFirst P C U V c does

-- A turn from the unit U to the unit V is made of legal steps, and is the first that is possible
abbrev pub DoesFirst : Program → Sizes → UpdateUnit → UpdateUnit → Turn → Type 0
DoesFirst P C U V answer = (does : Does P C U V answer) × IsFirst P C U V answer does

-- Turns with what they do to a predictor, by what it says of being asked and told
module _ {S : Type 0} (Predicts : S → ℕ → Instr → ℕ → S → Type 0) (Learns : S → ℕ → ℕ → S → Type 0) where
  -- From the unit U the first possible turn leads to one that the bench stands for then, without speculation, and
  -- changes the predictor
  pub record Turned (b : BenchFields S) (U : UpdateUnit) (answer : Turn) (later : BenchFields S) : Type 0 where
    pub unit : UpdateUnit
    pub reached : IsReached b.pipeline.program.now (sizes b.pipeline) unit
    pub plain : StaysPlain b.pipeline.program.now (sizes b.pipeline) U unit
    pub stands : StandsFor later.pipeline unit
    pub does : DoesFirst b.pipeline.program.now (sizes b.pipeline) U unit answer
    pub trains : Trains Predicts Learns b.pipeline.program.now U unit answer b.predictor later.predictor

  -- A turn is made so from each unit that the bench stands for
  abbrev pub IsTurn : BenchFields S → Turn → BenchFields S → Type 0
  IsTurn b answer later =
      (U : UpdateUnit) → IsReached b.pipeline.program.now (sizes b.pipeline) U → StandsFor b.pipeline U →
      Turned b U answer later

-- What a turn does, as steps of the unit, and what it does to the measure and to the predictor. Which of the possible
-- turns is taken stands in `Order` and in `Choices`.
use Rattle.std.specs.Prelude.{◌≡◌, ◌≢◌, ℕ, zero, suc, ◌+◌, ◌*◌, ◌^◌, ◌<◌, true, List, [], ◌∷◌, ◌++◌, length, Some, None, is_some}
use Rattle.std.specs.List.{AllByRecursion}
use Rattle.instructions.specs.Guesses.{Guesses}
use Rattle.instructions.specs.Programs.{Program, instr_at}
use Rattle.instructions.specs.declared.instr.Instr.{Instr}
use Rattle.instructions.specs.declared.stop.Stop.{Stop}
use Rattle.instructions.specs.declared.stop.Stop.TheVariants.{BadPc}
use Rattle.inorder.specs.declared.history.Act.TheVariants.{Claim, Finish, Load, Mend, Retire}
use Rattle.inorder.specs.declared.history.Step.{Step}
use Rattle.inorder.specs.declared.history.Step.TheVariants.{Let as LetStep, On}
use Rattle.inorder.specs.declared.history.Supply.{Supply}
use Rattle.inorder.specs.Committed.{ahead, ahead_by, committed}
use Rattle.inorder.specs.Tenants.{IsNotLive, Live, Miss, Tenant, instr, is_first, is_live}
use Rattle.inorder.specs.Unit.{Sizes, UpdateUnit, how_many}
use Rattle.one_thread.specs.declared.bench.Turn.{Turn}
use Rattle.one_thread.specs.declared.bench.Turn.TheVariants.{Halved, Let, Loaded, Over, Ran, Recovered, Retired}
use Rattle.one_thread.specs.declared.pipeline.Pipeline.{Pipeline}
use Rattle.one_thread.specs.declared.station.Stage.{Stage}
use Rattle.one_thread.specs.declared.station.Stage.TheVariants.{Open, Addr, Miss as Misses}
use Rattle.one_thread.specs.declared.station.Station.{Station}
use Rattle.one_thread.specs.Leavers.{leaver}
use Rattle.one_thread.specs.Blocked.{IsUnblocked}
use Rattle.one_thread.specs.StandsFor.{HasStopped, NoStopRetired, StandsFor, sizes}
use Rattle.inorder.specs.Moves.{IsDeliver, IsLink, IsReached, IsSquash, Leads}
use Rattle.inorder.specs.Plain.{StaysPlain}
use Rattle.inorder.specs.Quiescent.{AreQuiescent}

-- A tenant that is no live miss
abbrev pub IsNoMiss : Tenant → Type 0
IsNoMiss t = t.standing ≡ Live → (x : ℕ) → t.fate ≢ Miss x

-- The tenant t stands in the unit, with ys after it and ts before it
abbrev pub IsIn : UpdateUnit → List Tenant → Tenant → List Tenant → Type 0
IsIn U ys t ts = U.tenants ≡ ys ++ t ∷ ts

-- The oldest miss, which has this age: all after it are squashed, and it is mended
pub record Recovers (P : Program) (C : Sizes) (age : ℕ) (U V : UpdateUnit) : Type 0 where
  pub goes_on : NoStopRetired U.tenants
  pub ys : List Tenant
  pub tenant : Tenant
  pub ts : List Tenant
  pub stands : IsIn U ys tenant ts
  pub aged : how_many is_live ts ≡ age
  pub live : tenant.standing ≡ Live
  pub x : ℕ
  pub miss : tenant.fate ≡ Miss x
  pub oldest : AllByRecursion IsNoMiss ts
  pub squashes : List Step
  pub are : AllByRecursion IsSquash squashes
  pub leads : Leads P C 0 U (On (length ts) Mend ∷ squashes) V

-- A tenant is let, with its links
pub record Lets (P : Program) (C : Sizes) (U V : UpdateUnit) : Type 0 where
  pub goes_on : NoStopRetired U.tenants
  pub index : ℕ
  pub predicted : ℕ
  pub first : Supply
  pub second : Supply
  pub links : List Step
  pub are : AllByRecursion IsLink links
  pub leads : Leads P C 0 U (links ++ LetStep index predicted first second ∷ []) V

-- The tenant of this age is claimed and finished, and every delivery that is due is made
pub record Runs (P : Program) (C : Sizes) (age : ℕ) (U V : UpdateUnit) : Type 0 where
  pub goes_on : NoStopRetired U.tenants
  pub ys : List Tenant
  pub tenant : Tenant
  pub ts : List Tenant
  pub stands : IsIn U ys tenant ts
  pub aged : how_many is_live ts ≡ age
  pub delivers : List Step
  pub are : AllByRecursion IsDeliver delivers
  pub leads : Leads P C 0 U (delivers ++ On (length ts) Finish ∷ On (length ts) Claim ∷ []) V
  pub every : AreQuiescent V.tenants

-- The load of this age, which has its address and which no store blocks, gets its value, and every delivery that is
-- due is made
pub record LoadsOne (P : Program) (C : Sizes) (age : ℕ) (U V : UpdateUnit) : Type 0 where
  pub goes_on : NoStopRetired U.tenants
  pub ys : List Tenant
  pub tenant : Tenant
  pub ts : List Tenant
  pub stands : IsIn U ys tenant ts
  pub aged : how_many is_live ts ≡ age
  pub unblocked : IsUnblocked P ts tenant
  pub delivers : List Step
  pub are : AllByRecursion IsDeliver delivers
  pub leads : Leads P C 0 U (delivers ++ On (length ts) Load ∷ []) V
  pub every : AreQuiescent V.tenants

-- The oldest live tenant retires
pub record Retires (P : Program) (C : Sizes) (U V : UpdateUnit) : Type 0 where
  pub goes_on : NoStopRetired U.tenants
  pub ys : List Tenant
  pub tenant : Tenant
  pub ts : List Tenant
  pub stands : IsIn U ys tenant ts
  pub leads : Leads P C 0 U (On (length ts) (Retire 0) ∷ []) V

-- The oldest live tenant retires, and is a first half: nothing is committed, and what it made is
-- what the next tenants find in LO
pub record Halves (P : Program) (C : Sizes) (U V : UpdateUnit) : Type 0 where
  pub retires : Retires P C U V
  pub first : is_first P retires.tenant ≡ true
  pub stays : committed P V.tenants ≡ committed P U.tenants
  pub made : ℕ
  pub makes : retires.tenant.made ≡ Some made
  pub waits : ahead P V.tenants ≡ ahead_by (Some made) (committed P U.tenants)

-- Nobody is live, and there is no instruction to go on with
pub record IsNowhere (P : Program) (U : UpdateUnit) : Type 0 where
  pub goes_on : NoStopRetired U.tenants
  pub nobody : AllByRecursion IsNotLive U.tenants
  pub no_instr : instr_at P (committed P U.tenants).pc ≡ None

-- The unit has ended before, or a stop retires, or nobody is live and there is no instruction
pub data EndsHere (P : Program) (C : Sizes) (U V : UpdateUnit) (c : Stop) : Type 0 where
  Before : HasStopped V.tenants c → V ≡ U → EndsHere P C U V c
  Now : Retires P C U V → HasStopped V.tenants c → EndsHere P C U V c
  Nowhere : c ≡ BadPc → IsNowhere P U → V ≡ U → EndsHere P C U V c

-- What each answer of a turn says of the unit before it and after it
abbrev pub Does : Program → Sizes → UpdateUnit → UpdateUnit → Turn → Type 0
Does P C U V (Recovered age) = Recovers P C age U V
Does P C U V Let = Lets P C U V
Does P C U V (Ran age) = Runs P C age U V
Does P C U V (Loaded age) = LoadsOne P C age U V
Does P C U V Halved = Halves P C U V
Does P C U V Retired = Retires P C U V
Does P C U V (Over c) = EndsHere P C U V c

-- From the unit U a turn makes steps that lead to one that the later fields stand for
pub record Moved (b : Pipeline) (U : UpdateUnit) (answer : Turn) (later : Pipeline) : Type 0 where
  pub unit : UpdateUnit
  pub reached : IsReached b.program.now (sizes b) unit
  pub stands : StandsFor later unit
  pub does : Does b.program.now (sizes b) U unit answer

-- A turn is made so from each unit that b stands for
abbrev pub Moves : Pipeline → Turn → Pipeline → Type 0
Moves b answer later =
    (U : UpdateUnit) → IsReached b.program.now (sizes b) U → StandsFor b U → Moved b U answer later

-- The measure: a turn that retires nothing lowers a number below 7 ^ 32, one that retires a first
-- half makes its value wait where none did, and one that retires anything else raises the count

-- A digit for each stage: it falls as the tenant goes on
abbrev pub digit : Stage → ℕ
digit Open = 5
digit (Addr a) = 3
digit (Misses x) = 2
digit _ = 1

-- k places from the oldest on
abbrev pub rank : ℕ → List Station → ℕ
rank zero ws = 0
rank (suc k) [] = 6 * 7 ^ k + rank k []
rank (suc k) (w ∷ ws) = digit w.stage * 7 ^ k + rank k ws

-- What falls or rises at each answer
abbrev pub Falls : Turn → Pipeline → Pipeline → Type 0
Falls (Over c) b later = later.committed ≡ b.committed
Falls Halved b later = (later.committed ≡ b.committed) × (b.low ≡ None) × (is_some later.low ≡ true)
Falls Retired b later = later.committed.count ≡ suc b.committed.count
Falls _ b later =
    (later.committed ≡ b.committed) × (later.low ≡ b.low) ×
    (rank 32 later.window < rank 32 b.window)

-- The sizes and the program stay
pub record SizesStay (b later : Pipeline) : Type 0 where
  pub program : later.program ≡ b.program
  pub code : later.code ≡ b.code
  pub ring : later.ring ≡ b.ring
  pub queue : later.queue ≡ b.queue
  pub first_tag : later.first_tag ≡ b.first_tag

-- The fields of a bench
pub record BenchFields (S : Type 0) : Type 0 where
  pub pipeline : Pipeline
  pub predictor : S

-- The fields of a bench, of a pipeline and a predictor
abbrev pub fields : {S : Type 0} → Pipeline → S → BenchFields S
fields b s = record { pipeline = b; predictor = s }

-- What a turn does to a predictor, by what it says of being asked and told
module _ {S : Type 0} (Predicts : S → ℕ → Instr → ℕ → S → Type 0) (Learns : S → ℕ → ℕ → S → Type 0) where
  -- A let tells it of who has left the station of the new tenant, and then asks it for the next pc of that, if it
  -- is not fixed
  pub record TrainsAtLet (P : Program) (U V : UpdateUnit) (old new : S) : Type 0 where
    pub tenant : Tenant
    pub joins : V.tenants ≡ tenant ∷ U.tenants
    pub guesses :
        Guesses Predicts Learns (leaver P U.tenants tenant.station) (instr P tenant) tenant.half tenant.pc
        tenant.predicted old new

  -- Nothing else changes it
  abbrev pub Trains : Program → UpdateUnit → UpdateUnit → Turn → S → S → Type 0
  Trains P U V Let old new = TrainsAtLet P U V old new
  Trains P U V _ old new = new ≡ old

  -- From the unit U a turn makes steps that lead to one that the bench stands for then, and changes the
  -- predictor by them. None of them speculates
  pub record Made (b : BenchFields S) (U : UpdateUnit) (answer : Turn) (later : BenchFields S) : Type 0 where
    pub unit : UpdateUnit
    pub reached : IsReached b.pipeline.program.now (sizes b.pipeline) unit
    pub plain : StaysPlain b.pipeline.program.now (sizes b.pipeline) U unit
    pub stands : StandsFor later.pipeline unit
    pub does : Does b.pipeline.program.now (sizes b.pipeline) U unit answer
    pub trains : Trains b.pipeline.program.now U unit answer b.predictor later.predictor

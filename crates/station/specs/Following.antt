-- What one call of the front leaves for the next.
use Rattle.std.specs.Prelude.{◌≡◌, ◌≢◌, ◌⊎◌, ℕ, List, [], ◌∷◌, Some}
use Rattle.instructions.specs.Instruction.{first_of, second_of}
use Rattle.instructions.specs.Programs.{Program, instr_of}
use Rattle.instructions.specs.declared.instr.Instr.{Instr}
use Rattle.inorder.specs.declared.history.Entry.{Entry}
use Rattle.inorder.specs.declared.history.Source.{Source}
use Rattle.inorder.specs.declared.history.Source.TheVariants.{First, Second}
use Rattle.inorder.specs.Callers.{IsMissing}
use Rattle.inorder.specs.History.{front, unit_of}
use Rattle.inorder.specs.OneHistory.{Adds}
use Rattle.inorder.specs.Unit.{Sizes, creator, next_station, next_tag, recent}
use Rattle.ruu_words.specs.Kinds.{IsNamed}
use Rattle.station.specs.declared.answers.Ask.{Ask}
use Rattle.station.specs.declared.answers.Supply.{Supply}
use Rattle.station.specs.declared.answers.Supply.TheVariants.{From}
use Rattle.station.specs.declared.answers.Tenant.{Tenant}
use Rattle.station.specs.Asking.{AskAnswers, MayAsk}
use Rattle.station.specs.Letting.{MayLetOut, let_of}
use Rattle.station.specs.Recovery.{HasMiss, SeesWrongPath, WasSquashed}
use Rattle.station.specs.Writeback.{HasTenant}

-- From a let to its questions

-- The register that a source reads
abbrev pub register : Source → Instr → ℕ
register First i = first_of i
register Second i = second_of i

-- Where it gets its value
abbrev pub supply : Source → Tenant → Supply
supply First t = t.sources.0
supply Second t = t.sources.1

-- Source k of the next tenant is made by the tenant of this station with this tag
pub record ComesFrom (P : Program) (C : Sizes) (seen : List Entry) (t : Tenant) (k : Source) (station tag : ℕ) : Type 0 where
  pub q : ℕ
  pub given : supply k t ≡ From station tag
  pub creates : creator P (unit_of P C seen).tenants (register k (instr_of P t.index)) ≡ Some q
  pub named : IsNamed (unit_of P C seen) q station tag

-- The tenant that was let can be asked for it
abbrev pub LetsAreAsked : Type 0
LetsAreAsked =
    (P : Program) (C : Sizes) (old new : List Entry) (t : Tenant) (k : Source) (station tag : ℕ) →
    MayLetOut P C (unit_of P C old) t → ComesFrom P C old t k station tag → Adds P C front old new (let_of t ∷ []) →
    MayAsk P C new (next_station C (recent (unit_of P C old))) (next_tag C (recent (unit_of P C old))) k station tag

-- From a question to another

-- A question for one source leaves allowed what the front may ask for the other
abbrev pub QuestionsLeaveOthers : Type 0
QuestionsLeaveOthers =
    (P : Program) (C : Sizes) (old new : List Entry) (station tag : ℕ) (k : Source) (from_station from_tag : ℕ) (answer : Ask) →
    AskAnswers P C front old new station tag k from_station from_tag answer →
    (s g : ℕ) (other : Source) (a b : ℕ) → other ≢ k → MayAsk P C old s g other a b → MayAsk P C new s g other a b

-- From a squash to the next one, and to the mending

-- In what was seen the station's tenant with this tag is a live miss that goes on at `next`
abbrev pub SeesLiveMiss : Program → Sizes → List Entry → ℕ → ℕ → ℕ → Type 0
SeesLiveMiss P C seen station tag next = HasTenant P C seen station tag (IsMissing next)

-- A live miss that was seen stays one while the front looks and meets
abbrev pub MissesStaySeen : Type 0
MissesStaySeen =
    (P : Program) (C : Sizes) (old new : List Entry) (station tag next : ℕ) →
    Adds P C front old new [] → SeesLiveMiss P C old station tag next → SeesLiveMiss P C new station tag next

-- A live miss that was seen stays one while the front squashes another tenant
abbrev pub MissesStaySquashing : Type 0
MissesStaySquashing =
    (P : Program) (C : Sizes) (old new : List Entry) (s g station tag next : ℕ) →
    WasSquashed P C front s g old new → (station ≢ s) ⊎ (tag ≢ g) →
    SeesLiveMiss P C old station tag next → SeesLiveMiss P C new station tag next

-- Where a live miss was seen, the youngest live tenant may be squashed, or this miss can be mended
abbrev pub MissesAreRecovered : Type 0
MissesAreRecovered =
    (P : Program) (C : Sizes) (seen : List Entry) (station tag next : ℕ) →
    SeesLiveMiss P C seen station tag next → SeesWrongPath P C seen ⊎ HasMiss P C seen station tag next

-- Progress: a unit that has not ended can go on, and its acts run out where no tenant is let.
use Rattle.std.specs.Prelude.{⊤, ◌≡◌, ◌⊎◌, ℕ, suc, ◌+◌, ◌*◌, ◌<◌, ◌≤◌, List, [], ◌∷◌, Option, Some, None}
use Rattle.std.specs.List.{AllByRecursion}
use Rattle.instructions.specs.Programs.{Program, instr_at}
use Rattle.instructions.specs.declared.stop.Stop.{Stop}
use Rattle.instructions.specs.declared.stop.Stop.TheVariants.{BadPc}
use Rattle.inorder.specs.declared.history.Act.{Act}
use Rattle.inorder.specs.declared.history.Act.TheVariants.{Speculate}
use Rattle.inorder.specs.declared.history.Speculation.TheVariants.{Confirm, Flush}
use Rattle.inorder.specs.declared.history.Step.{Step}
use Rattle.inorder.specs.declared.history.Step.TheVariants.{Let, On, Renew}
use Rattle.inorder.specs.declared.history.Supply.{Supply}
use Rattle.inorder.specs.Committed.{committed}
use Rattle.inorder.specs.Legal.{Allowed, AreAllowed, Taken, applied, reached}
use Rattle.inorder.specs.Numbers.{HasWords}
use Rattle.inorder.specs.Plain.{WasPlain}
use Rattle.inorder.specs.Runs.{stop}
use Rattle.inorder.specs.Speculation.{MayConfirm}
use Rattle.inorder.specs.Tenants.{Addr, AtLet, Busy, Done, Fate, Guessed, IsNotLive, Linked, Live, Miss, Open, Operand, Retired, Standing, Stopped, Tenant, Unlinked, Way, missing}
use Rattle.inorder.specs.Unit.{Sizes, UpdateUnit, at, older}

-- What can be done

-- An act that brings the unit on: it guesses nothing, and flushes nobody
abbrev pub BringsOnAct : Act → Type 0
BringsOnAct (Speculate Confirm) = ⊤
BringsOnAct (Speculate s) = ⊥
BringsOnAct act = ⊤

-- A step that brings the unit on: no guess, no flush, and no renewal
abbrev pub BringsOn : Step → Type 0
BringsOn (Let index predicted first second) = ⊤
BringsOn (On p act) = BringsOnAct act
BringsOn Renew = ⊥

-- Some caller may take such a step
pub record CanGoOn (P : Program) (C : Sizes) (U : UpdateUnit) : Type 0 where
  pub by : ℕ
  pub step : Step
  pub brings_on : BringsOn step
  pub may : Allowed P C U by step

-- The oldest live tenant has guessed what cannot be confirmed, though its sources are delivered. The
-- youngest live tenant may be flushed
pub record HasWrongGuess (P : Program) (C : Sizes) (U : UpdateUnit) : Type 0 where
  pub p : ℕ
  pub tenant : Tenant
  pub is : at U.tenants p ≡ Some tenant
  pub live : tenant.standing ≡ Live
  pub oldest : AllByRecursion IsNotLive (older U.tenants p)
  pub value : ℕ
  pub guessed : tenant.fate ≡ Guessed value
  pub needs : missing P tenant ≡ None
  pub wrong : ¬ MayConfirm P (older U.tenants p) tenant
  pub youngest : ℕ
  pub flush : (by : ℕ) → Allowed P C U by (On youngest (Speculate Flush))

-- Nothing is left to do: a stop has retired with this code, or nobody is live and the committed pc is
-- the address of no instruction
pub data IsAtEnd (P : Program) (U : UpdateUnit) (c : Stop) : Type 0 where
  Stops : (p : ℕ) (t : Tenant) → at U.tenants p ≡ Some t → t.standing ≡ Retired → t.fate ≡ Stopped c →
      IsAtEnd P U c
  Nowhere : c ≡ BadPc → AllByRecursion IsNotLive U.tenants →
      instr_at P (committed P U.tenants).pc ≡ None → IsAtEnd P U c

-- The unit has ended where the in-order machine ends
pub record HasEnded (P : Program) (U : UpdateUnit) : Type 0 where
  pub code : Stop
  pub at_end : IsAtEnd P U code
  pub in_order : stop P (committed P U.tenants).count ≡ Some code

-- What comes next of a unit
pub data Outlook (P : Program) (C : Sizes) (U : UpdateUnit) : Type 0 where
  GoesOn : CanGoOn P C U → Outlook P C U
  Flushes : HasWrongGuess P C U → Outlook P C U
  Ends : HasEnded P U → Outlook P C U

-- There is a station, and room for a load or store
pub record HasRoom (C : Sizes) : Type 0 where
  pub ring : 0 < C.ring
  pub queue : 0 < C.queue

-- Each unit that allowed steps reach goes on or has ended; where nobody has speculated, without a flush
pub record NeverStuck (P : Program) (C : Sizes) (history : List Taken) : Type 0 where
  pub outlook : HasWords P → HasRoom C → AreAllowed P C history → Outlook P C (reached P C history)
  pub plain : HasWords P → HasRoom C → AreAllowed P C history → WasPlain history →
      CanGoOn P C (reached P C history) ⊎ HasEnded P (reached P C history)

-- How much is left to do

-- For a source: to link it, and to deliver its value
abbrev pub source_work : Way → Option ℕ → ℕ
source_work AtLet value = 0
source_work Unlinked value = 2
source_work (Linked in_time) None = 1
source_work (Linked in_time) (Some v) = 0

-- For a live tenant of this fate: the acts until it has left
abbrev pub fate_work : Fate → ℕ
fate_work Open = 5
fate_work (Busy by) = 4
fate_work (Addr a) = 3
fate_work (Guessed v) = 2
fate_work (Miss x) = 2
fate_work (Done v) = 1
fate_work (Stopped c) = 1

-- One that has left has its links and deliveries alone
abbrev pub standing_work : Standing → Fate → ℕ
standing_work Live f = fate_work f
standing_work _ f = 0

-- For a tenant
abbrev pub tenant_work : Tenant → ℕ
tenant_work t =
    standing_work t.standing t.fate +
    (source_work t.first.way t.first.value + source_work t.second.way t.second.value)

-- For all of them
abbrev pub work : List Tenant → ℕ
work [] = 0
work (t ∷ ts) = tenant_work t + work ts

-- Each act, also a guess and a flush, makes it less; a let adds at most 9, and a renewal nothing
pub record MovesWork (P : Program) (C : Sizes) (U : UpdateUnit) (by : ℕ) : Type 0 where
  pub act : (p : ℕ) (act : Act) → Allowed P C U by (On p act) →
      work (applied P C U by (On p act)).tenants < work U.tenants
  pub lets : (index predicted : ℕ) (first second : Supply) →
      work (applied P C U by (Let index predicted first second)).tenants ≤ 9 + work U.tenants
  pub renew : work (applied P C U by Renew).tenants ≡ work U.tenants

-- How many tenants a history lets, with those of a step
abbrev pub lets_by : Step → ℕ → ℕ
lets_by (Let index predicted first second) n = suc n
lets_by _ n = n

-- How many tenants a history lets
abbrev pub lets : List Taken → ℕ
lets [] = 0
lets (s ∷ ss) = lets_by s.step (lets ss)

-- How many acts a history has, with that of a step
abbrev pub acts_by : Step → ℕ → ℕ
acts_by (On p act) n = suc n
acts_by _ n = n

-- How many acts a history has
abbrev pub acts : List Taken → ℕ
acts [] = 0
acts (s ∷ ss) = acts_by s.step (acts ss)

-- At most nine acts for each tenant that is let. So where the in-order machine stops after n
-- instructions, a history that lets at most k tenants for each that it has committed, and k more, has
-- at most 9 * (n + 1) * k acts
pub record ActsRunOut (P : Program) (C : Sizes) (history : List Taken) : Type 0 where
  pub bound : AreAllowed P C history → acts history ≤ 9 * lets history
  pub ends : AreAllowed P C history → (n k : ℕ) (c : Stop) → stop P n ≡ Some c →
      lets history ≤ suc (committed P (reached P C history).tenants).count * k →
      acts history ≤ 9 * (suc n * k)

-- Two instructions, of which the second waits for what the first makes.
use Rattle.std.specs.Prelude.{◌≡◌, ◌≢◌, ℕ, ◌<◌, List, length, Some}
use Rattle.instructions.specs.Instruction.{destination, first_of, fixed_next, kind, second_of}
use Rattle.instructions.specs.Operations.{outcome_of}
use Rattle.instructions.specs.Programs.{Program, address, instr_of, text_start}
use Rattle.instructions.specs.Registers.{register_count}
use Rattle.instructions.specs.declared.op.Half.TheVariants.{Low}
use Rattle.instructions.specs.declared.op.Kind.TheVariants.{Computes}
use Rattle.instructions.specs.declared.stop.Outcome.{Outcome}
use Rattle.instructions.specs.declared.stop.Outcome.TheVariants.{Value}
use Rattle.inorder.specs.declared.history.Entry.{Entry}
use Rattle.inorder.specs.Replies.{job_of}
use Rattle.inorder.specs.Tenants.{Tenant}
use Rattle.ruu_words.specs.Kinds.{IsTenant}
use Rattle.station.specs.declared.answers.Finish.{Finish}
use Rattle.station.specs.declared.job.Job.{Job}
use Rattle.station.specs.Claiming.{IsClaimed}
use Rattle.station.specs.Quiet.{IsClaimable}
use Rattle.station.specs.Seats.{TheCore}
use Rattle.station.specs.Writeback.{FinishAnswers, job_outcome}
use Rattle.inorder.specs.History.{own}
use Rattle.client.specs.Done.{unit_after}

-- The outcome of the first instruction, where all registers are 0
abbrev pub first_result : Program → Outcome
first_result P = outcome_of (instr_of P 0) Low text_start 0 0 (length P.bytes)

-- The register that it writes
abbrev pub passed : Program → ℕ
passed P = destination (instr_of P 0) Low

-- The first instruction makes a value for a register and goes on, and the second reads that register
-- as its first source, and not as its second
pub record IsChain (P : Program) : Type 0 where
  pub two : 1 < length P.code
  pub computes : kind (instr_of P 0).op ≡ Computes
  pub goes_on : fixed_next (instr_of P 0) Low text_start ≡ Some (address 1)
  pub makes : (v : ℕ) × (first_result P ≡ Value v)
  pub writes : 0 < passed P
  pub small : passed P < register_count
  pub reads : first_of (instr_of P 1) ≡ passed P
  pub alone : second_of (instr_of P 1) ≢ passed P

-- The outcome of the second instruction, where its first source is what the first has made
abbrev pub IsSecondOutcome : Program → Outcome → Type 0
IsSecondOutcome P found =
    (v : ℕ) → first_result P ≡ Value v →
    found ≡ outcome_of (instr_of P 1) Low (address 1) v 0 (length P.bytes)

-- A unit has claimed the tenant t of this station and finished its job, and nobody else has done
-- anything
pub record IsWorkedOut (core : TheCore) (by : ℕ) (t : Tenant) (station : ℕ) (outcome : Outcome)
    (old new : List Entry) : Type 0 where
  pub job : Job
  pub fields_are : job ≡ job_of core.program t
  pub outcome_is : outcome ≡ job_outcome core.program job
  pub mid : List Entry
  pub claimed : IsClaimed core.program core.sizes by old mid station job
  pub alone : (n : ℕ) → n ≢ by → own n mid ≡ own n old
  pub answer : Finish
  pub finished : FinishAnswers core.program core.sizes by mid new job answer

-- A unit has claimed whichever tenant of this station was ready and finished its job, and nobody else
-- has done anything
abbrev pub WorksOut : TheCore → ℕ → ℕ → Outcome → List Entry → List Entry → Type 0
WorksOut core by station outcome old new =
    (p tag : ℕ) → (t : IsTenant (unit_after core old) p station tag (IsClaimable core.program)) →
    IsWorkedOut core by t.tenant station outcome old new

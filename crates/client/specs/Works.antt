-- What comes of an instruction that is let, claimed and finished.
use Rattle.std.specs.Prelude.{◌≡◌, ℕ, List, [], ◌∷◌, length, Some, if◌then◌else◌}
use Rattle.instructions.specs.Instruction.{first_of, kind, second_of}
use Rattle.instructions.specs.Operations.{outcome_of}
use Rattle.instructions.specs.Programs.{Program, instr_of, text_start}
use Rattle.instructions.specs.declared.op.Half.TheVariants.{Low}
use Rattle.instructions.specs.declared.stop.Outcome.{Outcome}
use Rattle.inorder.specs.declared.history.Entry.{Entry}
use Rattle.inorder.specs.declared.history.Source.TheVariants.{Second}
use Rattle.inorder.specs.History.{unit_of}
use Rattle.inorder.specs.OneHistory.{Adds}
use Rattle.inorder.specs.Tenants.{needs}
use Rattle.inorder.specs.Unit.{UpdateUnit, creator, front_pc, next_tag, recent, value_of}
use Rattle.ruu_words.specs.Kinds.{IsTenant}
use Rattle.station.specs.declared.answers.Finish.TheVariants.{Finished}
use Rattle.station.specs.declared.answers.Supply.TheVariants.{Known}
use Rattle.station.specs.declared.answers.Tenant.{Tenant}
use Rattle.station.specs.declared.job.Job.{Job}
use Rattle.station.specs.Claiming.{IsClaimed}
use Rattle.station.specs.Finishing.{HasOutcome}
use Rattle.station.specs.Letting.{let_of}
use Rattle.station.specs.Moments.{WasOnce}
use Rattle.station.specs.Seats.{TheCore}
use Rattle.station.specs.Writeback.{FinishAnswers, job_outcome}
use Rattle.client.specs.declared.seats.Seats.{Seats}
use Rattle.client.specs.declared.drive.Worked.{Worked}

-- The unit as the front has seen it
abbrev pub unit_at : TheCore → Seats → UpdateUnit
unit_at core s = unit_of core.program core.sizes s.front.seen

-- Both sources have their values from the start
pub record HasBothValues (t : Tenant) : Type 0 where
  pub a : ℕ
  pub b : ℕ
  pub first : t.sources.0 ≡ Known a
  pub second : t.sources.1 ≡ Known b

-- In this unit the tenant of the station and tag has come to this outcome
pub record HasCome (station tag : ℕ) (outcome : Outcome) (U : UpdateUnit) : Type 0 where
  pub p : ℕ
  pub tenant : IsTenant U p station tag (HasOutcome outcome)

-- The values that a unit works out by the definitions, for a tenant that is let in the unit U
pub record IsWorkedRight (P : Program) (U : UpdateUnit) (t : Tenant) (w : Worked) : Type 0 where
  pub pc : w.pc ≡ front_pc U.tenants
  -- its values are what the creators of its sources have made
  pub first : (v : ℕ) →
      value_of U.tenants (creator P U.tenants (first_of (instr_of P t.index))) ≡ Some v → w.a ≡ v
  -- the second value is 0 where the instruction does not need it
  pub second : (v : ℕ) →
      value_of U.tenants (creator P U.tenants (second_of (instr_of P t.index))) ≡ Some v →
      w.b ≡ (if needs (kind (instr_of P t.index).op) Second then v else 0)
  -- its outcome is that of the program's instruction
  pub outcome : w.outcome ≡ outcome_of (instr_of P t.index) t.half w.pc w.a w.b (length P.bytes)

-- The tenant was let with the next tag, worked out, and has come to its outcome at a moment of the
-- call
pub record IsWorked (core : TheCore) (old new : Seats) (station : ℕ) (t : Tenant) (w : Worked) :
    Type 0 where
  pub tag : w.tag ≡ next_tag core.sizes (recent (unit_at core old))
  pub right : IsWorkedRight core.program (unit_at core old) t w
  pub written : WasOnce core.program core.sizes old.one.seen new.one.seen
      (HasCome station w.tag w.outcome)

-- The unit has claimed a job of the station and tag, has finished that job with this outcome, and
-- has done nothing else
pub record HasClaimedAndFinished (core : TheCore) (by : ℕ) (old new : List Entry) (station tag : ℕ)
    (outcome : Outcome) : Type 0 where
  pub job : Job
  pub tag_is : job.tag ≡ tag
  pub outcome_is : outcome ≡ job_outcome core.program job
  pub mid : List Entry
  pub claimed : IsClaimed core.program core.sizes by old mid station job
  pub end : List Entry
  pub finished : FinishAnswers core.program core.sizes by mid end job Finished
  pub idle : Adds core.program core.sizes by end new []

-- All that was done: the front has let the tenant, and the first unit has worked on it; the back
-- and the other unit have done nothing
pub record HaveWorked (core : TheCore) (old new : Seats) (station : ℕ) (t : Tenant) (w : Worked) :
    Type 0 where
  pub front : Adds core.program core.sizes old.front.by old.front.seen new.front.seen
      (let_of t ∷ [])
  pub one : HasClaimedAndFinished core old.one.by old.one.seen new.one.seen station w.tag w.outcome
  pub back : Adds core.program core.sizes old.back.by old.back.seen new.back.seen []
  pub other : Adds core.program core.sizes old.other.by old.other.seen new.other.seen []

-- The outcome of the first instruction, where all registers are 0
abbrev pub IsFirstOutcome : Program → Outcome → Type 0
IsFirstOutcome P found = found ≡ outcome_of (instr_of P 0) Low text_start 0 0 (length P.bytes)

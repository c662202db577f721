-- What each stage of a turn does to the fields.
use Rattle.std.specs.Prelude.{◌≡◌, ◌<◌, ℕ, ◌-◌, List, length, Option, Some, None, slice_get, slice_set}
use Rattle.instructions.specs.Operations.{outcome_of}
use Rattle.instructions.specs.declared.end.Ending.{Ending}
use Rattle.inorder.specs.Committed.{ahead_by, with_low}
use Rattle.inorder.specs.Machine.{State}
use Rattle.inorder.specs.Runs.{end_from}
use Rattle.one_thread.specs.declared.dispatch.Fetched.{Fetched}
use Rattle.one_thread.specs.declared.execute.Ready.{Ready}
use Rattle.one_thread.specs.declared.memory_port.Answered.{Answered}
use Rattle.one_thread.specs.declared.pipeline.Pipeline.{Pipeline}
use Rattle.one_thread.specs.declared.station.Stage.TheVariants.{Done}
use Rattle.one_thread.specs.declared.station.Station.{Station}
use Rattle.one_thread.specs.Producers.{NoneGives, gives}
use Rattle.one_thread.specs.Loads.{load_in}
use Rattle.one_thread.specs.Notes.{miss_in}
use Rattle.one_thread.specs.Stages.{NextIs}
use Rattle.one_thread.specs.Window.{further_on, operands_in, station_after}

-- The state that a new tenant finds where nobody is live
abbrev pub ahead_of : Pipeline → State
ahead_of b = ahead_by b.low b.committed

-- What each register holds there
abbrev pub registers_of : Pipeline → List ℕ
registers_of b = with_low b.low b.committed.registers

-- Recovery

-- No station is a miss
abbrev pub NoneRecovers : Pipeline → Type 0
NoneRecovers b = NoneGives miss_in b.window

-- Dispatch

-- What can be let next, or that nothing can
abbrev pub NextOf : Pipeline → Option Fetched → Type 0
NextOf b next = NextIs b.program.now b.ring b.queue b.committed.pc b.low b.window next

-- Execution

-- The tenant at a place can be claimed, with these sources
abbrev pub CanClaim : Pipeline → Ready → Type 0
CanClaim b r = gives (operands_in (registers_of b)) b.window r.at ≡ Some r.operands

-- What its station becomes
abbrev pub ran_at : Pipeline → Ready → Station → Station
ran_at b r w =
    station_after w
    (outcome_of w.instr w.half w.pc r.operands.a r.operands.b (length b.program.now.bytes))

-- A tenant at a place is claimed and finished
abbrev pub RunsAt : Pipeline → Ready → Pipeline → Type 0
RunsAt b r later =
    (w : Station) → slice_get b.window r.at ≡ Some w →
    later.window ≡ slice_set b.window r.at (ran_at b r w)

-- No station can be claimed
abbrev pub NoneRuns : Pipeline → Type 0
NoneRuns b = NoneGives (operands_in (registers_of b)) b.window

-- The memory port

-- The load at a place is not blocked, and has this value
abbrev pub LoadGives : Pipeline → Answered → Type 0
LoadGives b l = gives (load_in (registers_of b) b.committed.memory) b.window l.at ≡ Some l.value

-- A load at a place gets its value
abbrev pub LoadsAt : Pipeline → Answered → Pipeline → Type 0
LoadsAt b l later =
    (w : Station) → slice_get b.window l.at ≡ Some w →
    later.window ≡ slice_set b.window l.at (further_on w Done (Some l.value))

-- No load gets a value
abbrev pub NoneLoads : Pipeline → Type 0
NoneLoads b = NoneGives (load_in (registers_of b) b.committed.memory) b.window

-- Runs

-- The in-order run from here until the count has reached a limit
abbrev pub run_from : Pipeline → ℕ → Ending × State
run_from b limit = end_from b.program.now (limit - b.committed.count) b.committed

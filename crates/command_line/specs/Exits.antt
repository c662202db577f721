-- How programs end.
use Rattle.std.specs.Prelude.{ℕ, ⊤, List, [], ◌++◌, codes, decimal, Option, IfSome}
use Rattle.counted_io.specs.Counted.{known_by}
use Rattle.counted_io.specs.declared.counted.Counted.{Counted}
use Rattle.counted_io.specs.declared.fault.Fault.{Fault}
use Rattle.counted_io.specs.declared.fault.Fault.TheVariants as fault
use Rattle.counts.specs.declared.tally.Tally.{Tally as Totals}
use Rattle.command_line.specs.declared.exit.Exit.{Exit}
use Rattle.command_line.specs.declared.exit.Line.{Line}
use Rattle.command_line.specs.declared.exit.Line.TheVariants.{Nothing, Tally, Refused}
use Rattle.command_line.specs.declared.exit.Refusal.{Refusal}
use Rattle.command_line.specs.declared.exit.Refusal.TheVariants.{Open, Read, Memory, Thread, Write, Trace}

-- the exit of a program that did not get what it wanted
abbrev pub refused : Refusal → Exit
refused refusal = record { status = 5; line = Refused refusal }

-- what is refused where an input was not read, or a text not written
abbrev pub fault_refusal : Fault → Refusal
fault_refusal fault.Read = Read
fault_refusal fault.Memory = Memory
fault_refusal fault.Write = Write

-- the reasons for which a text may not be written
abbrev pub IsOfWriting : Refusal → Type 0
IsOfWriting Memory = ⊤
IsOfWriting Write = ⊤
IsOfWriting _ = ⊥

-- how many calls of the writer have failed where that is refused
abbrev pub failed_writes : Refusal → ℕ
failed_writes Write = 1
failed_writes _ = 0

-- the line may be told of a run without threads: none was refused, and none has counted
abbrev pub IsOfOneThread : Line → Type 0
IsOfOneThread Nothing = ⊤
IsOfOneThread (Tally totals) = ⊥
IsOfOneThread (Refused Thread) = ⊥
IsOfOneThread (Refused refusal) = ⊤

-- the line for standard error
abbrev pub refusal_line : Refusal → List ℕ
refusal_line Open = codes "open"
refusal_line Read = codes "read"
refusal_line Memory = codes "memory"
refusal_line Thread = codes "thread"
refusal_line Write = codes "write"
refusal_line Trace = codes "trace"

-- each number of a tally after its name
abbrev pub totals_text : Totals → List ℕ
totals_text t =
    codes "lets " ++ (decimal t.lets ++ (codes " claims " ++ (decimal t.claims
    ++ (codes " finishes " ++ (decimal t.finishes ++ (codes " stale " ++ (decimal t.stale
    ++ (codes " loads " ++ (decimal t.loads ++ (codes " retires " ++ (decimal t.retires
    ++ (codes " squashes " ++ (decimal t.squashes ++ (codes " mends " ++ (decimal t.mends
    ++ (codes " hints " ++ (decimal t.hints ++ (codes " renewals " ++ decimal t.renewals))))))))))))))))))

-- the line after a run
abbrev pub tally_text : Totals → List ℕ
tally_text totals = codes "tally " ++ totals_text totals

-- the line while it runs
abbrev pub progress_text : Totals → List ℕ
progress_text totals = codes "progress " ++ totals_text totals

-- the line for standard error, if there is one
abbrev pub line_text : Line → List ℕ
line_text Nothing = []
line_text (Tally totals) = tally_text totals
line_text (Refused refusal) = codes "ruu: " ++ refusal_line refusal

-- P of the bytes that the reader has left, if there is a reader that tells them
abbrev pub HoldsOfInput : {R : Type 0} → (R → Option (List ℕ)) → Option (Counted R) → (List ℕ → Type 0) → Type 0
HoldsOfInput remaining reader P = IfSome reader (λ r. IfSome (known_by remaining r) P)

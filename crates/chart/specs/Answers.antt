-- Report, chart and log of a run: written whole, or broken off.
use Rattle.std.specs.Prelude.{◌≡◌, ℕ, Bool, true, false, is_some, List, ◌++◌, Option, IfSome, Result, Ok, Err}
use Rattle.std.specs.Io.KnownBytes.{Appends}
use Rattle.isa.specs.Listing.{listing}
use Rattle.isa.specs.declared.listing.fault.FaultKind.{FaultKind}
use Rattle.instructions.specs.Programs.{Program}
use Rattle.answers.specs.Answer.{most_taken, status_for, status_number, text_for}
use Rattle.answers.specs.declared.outcome.Status.{Status}
use Rattle.answers.specs.declared.outcome.Status.TheVariants.{TextFault}
use Rattle.counted_io.specs.Counted.{known_by}
use Rattle.counted_io.specs.Replies.{HasBegunToRead, HasRead}
use Rattle.counted_io.specs.Writes.{HasWritten, IsBeginning}
use Rattle.counted_io.specs.declared.counted.Counted.{Counted}
use Rattle.counted_io.specs.declared.fault.Fault.{Fault}
use Rattle.counted_io.specs.declared.fault.Fault.TheVariants as fault
use Rattle.command_line.specs.Answered.{HasNoReader, HasReader}
use Rattle.command_line.specs.Exits.{fault_refusal}
use Rattle.command_line.specs.declared.exit.Line.{Line}
use Rattle.command_line.specs.declared.exit.Line.TheVariants.{Nothing, Refused, Tally}
use Rattle.command_line.specs.declared.exit.Refusal.{Refusal}
use Rattle.command_line.specs.declared.exit.Refusal.TheVariants.{Memory, Open, Read, Trace, Write}
use Rattle.command_line.specs.declared.request.Charted.{Charted}
use Rattle.chart.specs.declared.kanata.TheConstants.{HEAD}

-- A text that begins so was written
pub record HasTextFrom (head : List ℕ) (before after : Option (List ℕ)) : Type 0 where
  pub more : List ℕ
  pub says : Appends before after (head ++ more)

-- A beginning of such a text was written
pub record HasBegunFrom (head : List ℕ) (before after : Option (List ℕ)) : Type 0 where
  pub more : List ℕ
  pub begun : IsBeginning (head ++ more) before after

-- What belongs to a listing was written: the report of its run and a chart, or the line of its fault; with the status
abbrev pub IsShown : (limit : ℕ) → Result Program (ℕ × FaultKind) → Status → (before after : Option (List ℕ)) → Type 0
IsShown limit (Ok P) status before after =
    (status ≡ status_for limit (Ok P)) × HasTextFrom (text_for limit (Ok P)) before after
IsShown limit (Err f) status before after =
    (status ≡ status_for limit (Err f)) × Appends before after (text_for limit (Err f))

-- A beginning of that was written
abbrev pub IsShownInPart : (limit : ℕ) → Result Program (ℕ × FaultKind) → (before after : Option (List ℕ)) → Type 0
IsShownInPart limit (Ok P) before after = HasBegunFrom (text_for limit (Ok P)) before after
IsShownInPart limit (Err f) before after = IsBeginning (text_for limit (Err f)) before after

-- The first lines of a log
abbrev pub log_head : List ℕ
log_head = HEAD.now

-- How the log is left, if it is wanted, with n failed calls; else it stays
abbrev pub IsLogged : {L : Type 0} → (L → Option (List ℕ)) → (wanted : Bool) → (n : ℕ)
    → (Says : (before after : Option (List ℕ)) → Type 0) → (log log_new : Counted L) → Type 0
IsLogged logs true n Says l l' = HasWritten logs l l' n Says
IsLogged logs false n Says l l' = (n ≡ 0) × (l' ≡ l)

-- A log is written, if it is wanted, but for a listing with a fault
abbrev pub is_logged : (wanted : Bool) → Status → Bool
is_logged wanted TextFault = false
is_logged wanted _ = wanted

-- What is refused where a log was not written
abbrev pub log_refusal : Fault → Refusal
log_refusal fault.Write = Trace
log_refusal other = fault_refusal other

-- How the writer and the log are left by a call that writes all into the first, and only then into the second: each is
-- blamed for one failed call, and only then
abbrev pub Shows : {W L : Type 0} → (W → Option (List ℕ)) → (L → Option (List ℕ)) → (wanted : Bool)
    → (All : Status → (before after : Option (List ℕ)) → Type 0) → (Begun : (before after : Option (List ℕ)) → Type 0)
    → (writer writer_new : Counted W) → (log log_new : Counted L) → Result Status Refusal → Type 0
Shows contents logs wanted All Begun w w' l l' (Ok status) =
    HasWritten contents w w' 0 (All status) × IsLogged logs (is_logged wanted status) 0 (HasTextFrom log_head) l l'
Shows contents logs wanted All Begun w w' l l' (Err Memory) =
    HasWritten contents w w' 0 Begun × IsLogged logs wanted 0 (HasBegunFrom log_head) l l'
Shows contents logs wanted All Begun w w' l l' (Err Write) = HasWritten contents w w' 1 Begun × (l' ≡ l)
Shows contents logs wanted All Begun w w' l l' (Err Trace) =
    (status : Status) × HasWritten contents w w' 0 (All status) × IsLogged logs wanted 1 (HasBegunFrom log_head) l l'
Shows contents logs wanted All Begun w w' l l' (Err _) = ⊥

-- How the writer and the log are left by a call that shows the input of a reader, if that tells it
abbrev pub ShowsInput : {R W L : Type 0} → (R → Option (List ℕ)) → (W → Option (List ℕ)) → (L → Option (List ℕ)) → Charted → (reader : Counted R)
    → (writer writer_new : Counted W) → (log log_new : Counted L) → Result Status Refusal → Type 0
ShowsInput remaining contents logs asked r w w' l l' result =
    Shows contents logs (is_some asked.log)
    (λ status before after. IfSome (known_by remaining r) (λ input. IsShown asked.run.config.limit (listing input) status before after))
    (λ before after. IfSome (known_by remaining r) (λ input. IsShownInPart asked.run.config.limit (listing input) before after))
    w w' l l' result

-- How the devices are left by a call that reads a listing and then writes what belongs to it: the reader is blamed for one
-- failed call, and only then, and nothing is written where reading failed
abbrev pub Charts : {R W L : Type 0} → (R → Option (List ℕ)) → (W → Option (List ℕ)) → (L → Option (List ℕ)) → Charted
    → (reader reader_new : Counted R) → (writer writer_new : Counted W) → (log log_new : Counted L)
    → Result Status Refusal → Type 0
Charts remaining contents logs asked r r' w w' l l' (Err Read) =
    HasBegunToRead 1 remaining most_taken r r' × (w' ≡ w) × (l' ≡ l)
Charts remaining contents logs asked r r' w w' l l' (Err Memory) =
    HasBegunToRead 0 remaining most_taken r r' × ShowsInput remaining contents logs asked r w w' l l' (Err Memory)
Charts remaining contents logs asked r r' w w' l l' result =
    HasRead remaining most_taken r r' × ShowsInput remaining contents logs asked r w w' l l' result

-- How the program leaves its devices, by its status and the line that it ends with: without a reader, and only then,
-- opening is blamed, and nothing is written
abbrev pub IsChartedWith : {R W L : Type 0} → (R → Option (List ℕ)) → (W → Option (List ℕ)) → (L → Option (List ℕ)) → Charted
    → (reader reader_new : Option (Counted R)) → (writer writer_new : Counted W) → (log log_new : Counted L)
    → (status : ℕ) → Line → Type 0
IsChartedWith remaining contents logs asked r r' w w' l l' status Nothing =
    (of_run : Status) × (status ≡ status_number of_run)
    × HasReader r r' (λ old new. Charts remaining contents logs asked old new w w' l l' (Ok of_run))
IsChartedWith remaining contents logs asked r r' w w' l l' status (Refused Open) = HasNoReader r w w' × (l' ≡ l)
IsChartedWith remaining contents logs asked r r' w w' l l' status (Refused refusal) =
    HasReader r r' (λ old new. Charts remaining contents logs asked old new w w' l l' (Err refusal))
IsChartedWith remaining contents logs asked r r' w w' l l' status (Tally totals) = ⊥

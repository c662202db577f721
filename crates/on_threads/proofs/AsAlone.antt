-- An answer of a run that came to its end is that of one thread.
use Rattle.std.proofs.Common.{◌≡◌, ◌∙◌, ◌<◌, ℕ, Bool, true, false, List, sym, ap, subst, arith, Option, Some, None, Result, Ok, Err, IfSome}
use Rattle.instructions.specs.declared.end.Ending.{Ending}
use Rattle.isa.specs.declared.listing.fault.FaultKind.{FaultKind}
use Rattle.isa.specs.Listing.{listing}
use Rattle.instructions.specs.Programs.{Program}
use Rattle.instructions.specs.Settings.{Settings}
use Rattle.inorder.specs.Machine.{State}
use Rattle.inorder.specs.Runs.{end_of}
use Rattle.counted_io.specs.Counted.{known_by}
use Rattle.counted_io.specs.Replies.{HasText, HasTextFor}
use Rattle.counted_io.specs.declared.counted.Counted.{Counted}
use Rattle.answers.specs.Answer.{ending_status, report_of_run, status_for, status_of, text_for, text_of}
use Rattle.command_line.specs.declared.request.Asked.{Asked}
use Rattle.command_line.specs.declared.exit.Line.{Line}
use Rattle.command_line.specs.declared.exit.Exit.{Exit}
use Rattle.on_threads.specs.Answers.{AsAlone, Early, IsAnswerFor, IsAnswerTo, IsAsAlone, EndedEarly, IsRunEnd, IsLineWith}
use Rattle.on_threads.specs.Runs.{AtAStop, AtTheLimit, CameToItsEnd, WithoutThreads}
use Rattle.answers.specs.Answer.{status_number}
use Rattle.command_line.specs.Exits.{HoldsOfInput}

not_early : (limit : ℕ) (P : Program) (ending : Ending) (state : State) (exit : Exit) → CameToItsEnd limit exit
    → exit.status ≡ status_number (ending_status ending) → IsLineWith false state.count exit.line
    → EndedEarly limit P ending state → ⊥
not_early limit P ending state exit (WithoutThreads none) status line early =
    subst (λ (l : Line). IsLineWith false state.count l) none line
not_early limit P ending state exit (AtAStop other) status line early =
    other (status ∙ ap (λ (e : Ending). status_number (ending_status e)) early.outcome)
not_early limit P ending state exit (AtTheLimit totals is all) status line early =
    let count : totals.retires ≡ state.count = subst (λ (l : Line). IsLineWith false state.count l) is line in
    let below : state.count < limit = early.below in
    absurd (omega (arith, count, all, below))

ends_alone : (is_alone : Bool) (config : Settings) (P : Program) (ending : Ending) (state : State) (exit : Exit)
    → CameToItsEnd config.limit exit → exit.status ≡ status_number (ending_status ending)
    → IsLineWith is_alone state.count exit.line → IsRunEnd is_alone config P ending state
    → ◌≡◌ {A = Ending × State} (ending, state) (end_of P config.limit)
ends_alone true config P ending state exit ended status line is = is
ends_alone false config P ending state exit ended status line (AsAlone same, turns) = same
ends_alone false config P ending state exit ended status line (Early early, turns) =
    absurd (not_early config.limit P ending state exit ended status line early)

answers_alone : (asked : Asked) (found : Result Program (ℕ × FaultKind)) (text : List ℕ) (exit : Exit)
    → CameToItsEnd asked.config.limit exit → IsAnswerFor asked found text exit
    → (exit.status ≡ status_number (status_for asked.config.limit found)) × (text ≡ text_for asked.config.limit found)
answers_alone asked (Ok P) text exit ended is =
    let same = ends_alone asked.alone asked.config P is.ending is.state exit ended is.status is.line is.is in (
      is.status ∙ ap (λ (e : Ending × State). status_number (ending_status e.0)) same,
      is.report ∙ ap report_of_run same,
    )
answers_alone asked (Err fault) text exit ended is = (ap (λ (w : Exit). w.status) is.1, is.0)

as_alone : (asked : Asked) (input : List ℕ) (exit : Exit) (P : List ℕ → Type 0) → CameToItsEnd asked.config.limit exit
    → HasText (IsAnswerTo asked exit input) P → IsAsAlone asked.config.limit input exit P
unfolding text_of status_of
as_alone asked input exit P ended has =
    let both = answers_alone asked (listing input) has.text exit ended has.is in
    record { status = both.0; holds = subst P both.1 has.holds }

-- what answers the bytes that are known is what one thread answers
known_as_alone : (asked : Asked) (known : Option (List ℕ)) (exit : Exit) (P : List ℕ → Type 0)
    → CameToItsEnd asked.config.limit exit → HasTextFor known (IsAnswerTo asked exit) P
    → IfSome known (λ input. IsAsAlone asked.config.limit input exit P)
known_as_alone asked None exit P ended has = tt
known_as_alone asked (Some input) exit P ended has = as_alone asked input exit P ended has

-- what answers a reader's bytes, where there is a reader, is what one thread answers
pub reader_as_alone : {R : Type 0} (remaining : R → Option (List ℕ)) (reader : Option (Counted R)) (r : Counted R)
    → reader ≡ Some r → (asked : Asked) (exit : Exit) (P : List ℕ → Type 0) → CameToItsEnd asked.config.limit exit
    → HasTextFor (known_by remaining r) (IsAnswerTo asked exit) P
    → HoldsOfInput remaining reader (λ input. IsAsAlone asked.config.limit input exit P)
reader_as_alone remaining reader r is asked exit P ended has =
    subst (λ o. HoldsOfInput remaining o (λ input. IsAsAlone asked.config.limit input exit P)) (sym is)
    (known_as_alone asked (known_by remaining r) exit P ended has)

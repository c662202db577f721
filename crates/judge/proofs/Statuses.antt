-- The exit status of a verdict on a text.
use Rattle.std.specs.Prelude.{◌≡◌, ℕ, IfOk, IfSome, List, Option, Some, None, Result, Ok, Err}
use Rattle.replay.specs.declared.unit.Unit.{Unit as Held}
use Rattle.events.specs.declared.event.Issue.{Issue}
use Rattle.events.specs.declared.verdict.Verdict.{Verdict}
use Rattle.events.specs.Text.{IsVerdict}
use Rattle.judge.specs.declared.log.Ended.{Ended}
use Rattle.judge.specs.Statuses.{IsStatus, status_of}

-- where the bytes are known, the status is that of a verdict on them
status_known : (meant : Issue) (u v : Held) (known : Option (List ℕ)) (verdict : Verdict) (status : ℕ)
    → IfSome known (λ text. IsVerdict meant u text verdict v) → status ≡ status_of verdict
    → IfSome known (λ text. IsStatus meant u status text)
status_known meant u v None verdict status is says = tt
status_known meant u v (Some text) verdict status is says =
    record { verdict = verdict; after = v; is = is; says = says }

-- so is the status with which the program ends
pub status_is : {E : Type 0} (meant : Issue) (u v : Held) (known : Option (List ℕ)) (verdict : Verdict) (result : Result Ended E)
    → IfSome known (λ text. IsVerdict meant u text verdict v) → IfOk result (λ ended. ended.status ≡ status_of verdict)
    → IfOk result (λ ended. IfSome known (λ text. IsStatus meant u ended.status text))
status_is meant u v known verdict (Ok ended) is says = status_known meant u v known verdict ended.status is says
status_is meant u v known verdict (Err e) is says = tt

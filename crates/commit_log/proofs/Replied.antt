-- A listing that was read, and its log: how the devices are left.
use Rattle.std.proofs.Common.{◌≡◌, ℕ, List, Option, Some, None, IfSome, Ok, Err, sym, ap, subst}
use Rattle.instructions.specs.Programs.{Program}
use Rattle.isa.specs.Listing.{listing}
use Rattle.answers.specs.Answer.{most_taken, status_number}
use Rattle.answers.specs.declared.outcome.Status.{Status}
use Rattle.counted_io.specs.Counted.{known_by}
use Rattle.counted_io.specs.Replies.{HasRead}
use Rattle.counted_io.specs.Writes.{Answers, IsBeginning, Writes}
use Rattle.counted_io.specs.declared.counted.Counted.{Counted}
use Rattle.counted_io.specs.declared.fault.Fault.{Fault}
use Rattle.counted_io.specs.declared.fault.Fault.TheVariants.{Memory, Read, Write}
use Rattle.counted_io.proofs.Replied.{has_begun}
use Rattle.command_line.specs.Answered.{IsAnsweredWith}
use Rattle.command_line.specs.Exits.{fault_refusal, refused}
use Rattle.command_line.specs.declared.exit.Exit.{Exit}
use Rattle.command_line.specs.declared.logged.Logged.{Logged}
use Rattle.commit_log.specs.Logs.{IsLogOf, IsLogOfRun, log, log_for}

some_begun : (asked : Logged) (P : Program) (known before after : Option (List ℕ)) → IfSome known (λ input. listing input ≡ Ok P) →
    IsBeginning (log asked P) before after → IfSome known (λ input. IsBeginning (log_for asked (listing input)) before after)
some_begun asked P None before after is h = tt
some_begun asked P (Some input) before after is h =
    subst (λ found. IsBeginning (log_for asked found) before after) (sym is) h

module _ {R W : Type 0} (remaining : R → Option (List ℕ)) (contents : W → Option (List ℕ)) (r r' : Counted R) (w w' : Counted W) (asked : Logged) where
  -- a log that broke off
  pub broken : (P : Program) (fault : Fault) → HasRead remaining most_taken r r' → IfSome (known_by remaining r) (λ input. listing input ≡ Ok P) →
      Writes contents w w' (IsLogOfRun asked P) (IsBeginning (log asked P)) (Err fault) →
      Answers {A = Status} remaining contents most_taken r r' w w' (λ status input. IsLogOf asked (listing input) (status_number status))
      (λ input. IsBeginning (log_for asked (listing input))) (Err fault)
  broken P Read read is h = absurd h
  broken P Memory read is h =
      (has_begun remaining most_taken r r' read, record { says = some_begun asked P (known_by remaining r) _ _ is h.says; failures = h.failures })
  broken P Write read is h = (read, record { says = some_begun asked P (known_by remaining r) _ _ is h.says; failures = h.failures })

  -- the exit of a log that was written
  pub answered : (status : Status) (n : ℕ) → n ≡ status_number status →
      Answers {A = Status} remaining contents most_taken r r' w w' (λ status input. IsLogOf asked (listing input) (status_number status))
      (λ input. IsBeginning (log_for asked (listing input))) (Ok status) →
      Answers {A = Unit {0}} remaining contents most_taken r r' w w' (λ it input. IsLogOf asked (listing input) n)
      (λ input. IsBeginning (log_for asked (listing input))) (Ok tt)
  answered status n e h = rw e h

  -- the exit of one that was not
  pub unanswered : (All : List ℕ → (before after : Option (List ℕ)) → Type 0) (reader reader' : Option (Counted R)) (fault : Fault) (exit : Exit) →
      exit ≡ refused (fault_refusal fault) → reader ≡ Some r → reader' ≡ Some r' →
      Answers {A = Status} remaining contents most_taken r r' w w' (λ status input. IsLogOf asked (listing input) (status_number status))
      (λ input. IsBeginning (log_for asked (listing input))) (Err fault) →
      IsAnsweredWith remaining contents most_taken reader reader' w w' All (λ input. IsBeginning (log_for asked (listing input))) exit.line
  unanswered All reader reader' fault exit e was is h =
      subst (λ line. IsAnsweredWith remaining contents most_taken reader reader' w w' All (λ input. IsBeginning (log_for asked (listing input))) line)
      (sym (ap (λ x. x.line) e)) (go fault h)
    where
      go : (fault : Fault) →
          Answers {A = Status} remaining contents most_taken r r' w w' (λ status input. IsLogOf asked (listing input) (status_number status))
          (λ input. IsBeginning (log_for asked (listing input))) (Err fault) →
          IsAnsweredWith remaining contents most_taken reader reader' w w' All (λ input. IsBeginning (log_for asked (listing input)))
          (refused (fault_refusal fault)).line
      go Read h = record { old = r; new = r'; was = was; is = is; holds = h }
      go Memory h = record { old = r; new = r'; was = was; is = is; holds = h }
      go Write h = record { old = r; new = r'; was = was; is = is; holds = h }

-- How a check ends that was refused.
use Rattle.std.proofs.Common.{◌≡◌, List, ℕ, Bool, Option, Some, refl, sym, subst}
use Rattle.answers.specs.Answer.{most_taken}
use Rattle.counted_io.specs.Replies.{IsUnanswered}
use Rattle.counted_io.specs.declared.counted.Counted.{Counted}
use Rattle.counted_io.specs.declared.fault.Fault.{Fault}
use Rattle.counted_io.specs.declared.fault.Fault.TheVariants.{Memory, Read, Write}
use Rattle.command_line.specs.Answered.{IsRepliedWith}
use Rattle.command_line.specs.Exits.{fault_refusal, refused}
use Rattle.command_line.specs.declared.exit.Exit.{Exit}
use Rattle.checker.specs.Checked.{IsCheckBy, IsExitOfOneThread, IsSomeCheck}

-- a refusal has a status of its own
pub one_thread : (fault : Fault) (exit : Exit) → exit ≡ refused (fault_refusal fault) → IsExitOfOneThread exit
one_thread fault exit is = subst IsExitOfOneThread (sym is) (go fault)
  where
    go : (fault : Fault) → IsExitOfOneThread (refused (fault_refusal fault))
    go Read = (tt, refl)
    go Memory = (tt, refl)
    go Write = (tt, refl)

-- devices are left as the refusal says
pub unanswered : {R W : Type 0} (remaining : R → Option (List ℕ)) (contents : W → Option (List ℕ)) (r r' : Counted R) (w w' : Counted W)
    (file : List ℕ) (all : Bool) (reader reader' : Option (Counted R)) (fault : Fault) (exit : Exit) → exit ≡ refused (fault_refusal fault)
    → reader ≡ Some r → reader' ≡ Some r' → IsUnanswered remaining contents most_taken r r' w w' (IsSomeCheck file all) fault
    → IsRepliedWith remaining contents most_taken reader reader' w w' (IsCheckBy exit.line file all exit.status) exit.line
unanswered remaining contents r r' w w' file all reader reader' fault exit e was is h =
    subst (λ (x : Exit). IsRepliedWith remaining contents most_taken reader reader' w w' (IsCheckBy x.line file all x.status) x.line) (sym e)
    (go fault h)
  where
    go : (fault : Fault) → IsUnanswered remaining contents most_taken r r' w w' (IsSomeCheck file all) fault
        → IsRepliedWith remaining contents most_taken reader reader' w w'
        (IsCheckBy (refused (fault_refusal fault)).line file all (refused (fault_refusal fault)).status) (refused (fault_refusal fault)).line
    go Read h = record { old = r; new = r'; was = was; is = is; holds = h }
    go Memory h = record { old = r; new = r'; was = was; is = is; holds = h }
    go Write h = record { old = r; new = r'; was = was; is = is; holds = h }

-- A run with two renewals, computed by the definitions alone, and steps that are not allowed.
use Rattle.std.proofs.Common.{◌≡◌, ℕ, List, [], ◌∷◌, Some, refl, sym, ap, ◌∙◌, true, true≢false}
use Rattle.instructions.specs.declared.op.Op.TheVariants.{Addiu, Break}
use Rattle.instructions.specs.declared.stop.Stop.TheVariants.{Break as BreakStop}
use Rattle.instructions.specs.Operations.{computed_by}
use Rattle.instructions.specs.Programs.{Program, instr_at}
use Rattle.inorder.specs.declared.history.Act.TheVariants.{Claim, Finish, Retire}
use Rattle.inorder.specs.declared.history.Step.TheVariants.{Let, On, Renew}
use Rattle.inorder.specs.declared.history.Supply.{Supply}
use Rattle.inorder.specs.declared.history.Supply.TheVariants.{From, Known}
use Rattle.inorder.specs.Committed.{committed}
use Rattle.inorder.specs.Legal.{Allowed, AreAllowed, Taken, reached}
use Rattle.inorder.specs.Runs.{after}
use Rattle.inorder.specs.StationWords.{IsFree, IsOpen, station_word}
use Rattle.inorder.specs.Unit.{is_old, recent}
use Rattle.inorder.proofs.Runs.Decided.{given}
use Rattle.inorder.proofs.Runs.DecidedSteps.{are_allowed}
use Rattle.inorder.proofs.Runs.Examples.{instr, program, taken, two_stations}

-- addiu $1,$0,1 / addiu $1,$1,1 / break
abbrev counts : Program
counts = program (instr Addiu 1 0 0 1 ∷ instr Addiu 1 1 0 1 ∷ instr Break 0 0 0 0 ∷ [])

-- the first instruction has retired, and the core was renewed
abbrev once : List Taken
once =
    taken 0 Renew ∷ taken 1 (On 0 (Retire 0)) ∷ taken 2 (On 0 Finish) ∷ taken 2 (On 0 Claim)
    ∷ taken 0 (Let 0 0x00400004 (Known 0) (Known 0)) ∷ []

once_allowed : AreAllowed counts two_stations once
unfolding instr_at computed_by
once_allowed = given (are_allowed counts two_stations once) refl

-- the second takes the value of the first, which is of before, and the core was renewed again
abbrev twice : List Taken
twice =
    taken 0 Renew ∷ taken 1 (On 1 (Retire 0)) ∷ taken 2 (On 1 Finish) ∷ taken 2 (On 1 Claim)
    ∷ taken 0 (Let 1 0x00400008 (Known 1) (Known 0)) ∷ once

twice_allowed : AreAllowed counts two_stations twice
unfolding instr_at computed_by
twice_allowed = given (are_allowed counts two_stations twice) refl

-- the stop takes the first station, with the first tag, again
abbrev stop_let : List Taken
stop_let = taken 0 (Let 2 0x0040000c (Known 0) (Known 0)) ∷ twice

stop_let_allowed : AreAllowed counts two_stations stop_let
unfolding instr_at computed_by
stop_let_allowed = given (are_allowed counts two_stations stop_let) refl

renewed_free : station_word two_stations (recent (reached counts two_stations twice)) 0 ≡ record { tag = 1; state = IsFree; value = Some 0 }
unfolding instr_at computed_by
renewed_free = refl

stop_open : station_word two_stations (recent (reached counts two_stations stop_let)) 0 ≡ record { tag = 1; state = IsOpen; value = Some 0 }
unfolding instr_at computed_by
stop_open = refl

-- both instructions are committed
both_committed : Some (committed counts (reached counts two_stations stop_let).tenants) ≡ after counts 2
unfolding instr_at computed_by
both_committed = refl

-- Not allowed

-- a renewal with a live tenant
with_live_tenant : ¬ Allowed counts two_stations (reached counts two_stations stop_let) 0 Renew
unfolding instr_at computed_by
with_live_tenant a = a.none.0 refl

-- a renewal after a retired stop
abbrev stop_retired : List Taken
stop_retired = taken 1 (On 2 (Retire 0)) ∷ taken 2 (On 2 Finish) ∷ taken 2 (On 2 Claim) ∷ stop_let

behind_stop : ¬ Allowed counts two_stations (reached counts two_stations stop_retired) 0 Renew
unfolding instr_at computed_by
behind_stop a = a.goes_on.0 refl BreakStop refl

-- a source that waits for a creator of before
same_some : (p : ℕ) → Some 0 ≡ Some p → 0 ≡ p
same_some p e = cc e

waits_for_before : (second : Supply) → ¬ Allowed counts two_stations (reached counts two_stations once) 0 (Let 1 0x00400008 From second)
unfolding instr_at computed_by
waits_for_before second a =
    let from = a.first_is in
    let one : 0 ≡ from.p = same_some from.p from.creates in
    let old : is_old (reached counts two_stations once) 0 ≡ true = refl in
    true≢false (sym old ∙ (ap (is_old (reached counts two_stations once)) one ∙ from.new))

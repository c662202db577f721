-- A unit goes on, or has ended where the in-order machine ends.
use Rattle.std.proofs.Common.{◌≡◌, ◌⊎◌, ℕ, List, Option, Some, None, refl, ap, ◌∙◌, inl, inr, ⊎_elim}
use Rattle.std.specs.List.{AllByRecursion}
use Rattle.instructions.specs.Programs.{Program, instr_at}
use Rattle.instructions.specs.declared.instr.Instr.{Instr}
use Rattle.instructions.specs.declared.stop.Stop.TheVariants.{BadPc}
use Rattle.inorder.specs.Committed.{committed}
use Rattle.inorder.specs.Legal.{AreAllowed, Taken, reached}
use Rattle.inorder.specs.Machine.{fetched}
use Rattle.inorder.specs.Numbers.{HasWords}
use Rattle.inorder.specs.Plain.{WasPlain}
use Rattle.inorder.specs.Progress.{CanGoOn, Ends, Flushes, GoesOn, HasEnded, HasRoom, HasWrongGuess, NeverStuck, Nowhere, Outlook, Stops}
use Rattle.inorder.specs.Runs.{stop_of, then_stop}
use Rattle.inorder.specs.Steps.{IsNoRetiredStop}
use Rattle.inorder.specs.Tenants.{IsNotLive, Tenant}
use Rattle.inorder.specs.Unit.{Sizes, UpdateUnit}
use Rattle.inorder.proofs.Follows.{state_of, stops_of}
use Rattle.inorder.proofs.Heads.{Oldest, find_oldest}
use Rattle.inorder.proofs.Kept.{sound}
use Rattle.inorder.proofs.Positions.{all_at}
use Rattle.inorder.proofs.GoesOn.Going.{head_goes_on}
use Rattle.inorder.proofs.GoesOn.Letting.{can_let}
use Rattle.inorder.proofs.GoesOn.Supplied.{are_supplied, plain_guesses_not}
use Rattle.inorder.proofs.Shared.{IsNoGuess}
use Rattle.inorder.proofs.Sound.{IsSound}
use Rattle.inorder.proofs.Theorem.EachAnswered.{StopAt, find_stop}

module _ (P : Program) (C : Sizes) (history : List Taken) (words : HasWords P) (room : HasRoom C) (a : AreAllowed P C history) where
  abbrev U : UpdateUnit
  U = reached P C history

  abbrev us : List Tenant
  us = U.tenants

  s : IsSound P us
  s = sound P C history a

  empty : AllByRecursion IsNoRetiredStop us → AllByRecursion IsNotLive us → Outlook P C U
  empty goes_on nobody = go (instr_at P (committed P us).pc) refl
    where
      go : (o : Option Instr) → instr_at P (committed P us).pc ≡ o → Outlook P C U
      go None e = Ends (record {
        code = BadPc;
        at_end = Nowhere refl nobody e;
        in_order = ap (then_stop P) (state_of P us s) ∙ ap (λ o. stop_of (fetched P (committed P us) o)) e;
      })
      go (Some i) e = GoesOn (can_let P C U s words room goes_on nobody i e)

  outlook_of : Outlook P C U
  outlook_of = ⊎_elim
      (λ (o : StopAt us). Ends (record {
        code = o.stop.code;
        at_end = Stops o.p o.tenant o.is o.stop.standing o.stop.fate;
        in_order = stops_of P us s o.p o.tenant o.stop.code o.is o.stop.standing o.stop.fate;
      }))
      (λ (goes_on : AllByRecursion IsNoRetiredStop us). ⊎_elim
      (λ (nobody : AllByRecursion IsNotLive us). empty goes_on nobody)
      (λ (o : Oldest us). ⊎_elim (λ g. GoesOn g) (λ w. Flushes w) (head_goes_on P C U s goes_on (are_supplied P C history a) o))
      (find_oldest us))
      (find_stop us)

  plain_outlook : WasPlain history → CanGoOn P C U ⊎ HasEnded P U
  plain_outlook plain = go outlook_of
    where
      go : Outlook P C U → CanGoOn P C U ⊎ HasEnded P U
      go (GoesOn g) = inl g
      go (Ends e) = inr e
      go (Flushes w) = absurd (all_at IsNoGuess us (plain_guesses_not P C history a plain) w.p w.tenant w.is w.value w.guessed)

pub never_stuck : (P : Program) (C : Sizes) (history : List Taken) → NeverStuck P C history
never_stuck P C history = record {
  outlook = λ words room a. outlook_of P C history words room a;
  plain = λ words room a plain. plain_outlook P C history words room a plain;
}

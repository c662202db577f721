-- What a renewal leaves and begins again, and what of the tenants of before.
use Rattle.std.proofs.Common.{◌≡◌, ◌≢◌, ℕ, ◌+◌, true, List, length, Option, Some, refl, sym, ap, ◌∙◌, subst, arith, true≢false}
use Rattle.std.proofs.Math.Nat.{zero-mod}
use Rattle.std.proofs.lemmas.Bool.{lt-ltb}
use Rattle.std.proofs.lemmas.Option.{same_Some}
use Rattle.instructions.specs.Programs.{Program}
use Rattle.inorder.specs.declared.history.Supply.{Supply}
use Rattle.inorder.specs.declared.history.Supply.TheVariants.{From}
use Rattle.inorder.specs.declared.history.Entry.{Entry}
use Rattle.inorder.specs.Legal.{AreAllowed, Taken, reached}
use Rattle.inorder.specs.Renewals.{BeginsAgain, IsKnownOfBefore, IsPast, PastStays}
use Rattle.inorder.specs.StationWords.{IsFree, StationWord}
use Rattle.inorder.specs.Steps.{MaySupply}
use Rattle.inorder.specs.Unit.{Sizes, UpdateUnit, is_old}
use Rattle.inorder.proofs.Recent.{let_since, live_recent, names_recent, old_since}
use Rattle.inorder.proofs.Stations.{old_gone}
use Rattle.inorder.proofs.Tags.{tagged}

free_word : ℕ → StationWord
free_word tag = record { tag = tag; state = IsFree; value = Some 0 }

pub begins_again : (P : Program) (C : Sizes) (U : UpdateUnit) (by : ℕ) → BeginsAgain P C U by
begins_again P C U by = record {
  kept = refl;
  stations = λ s. let first : C.first_tag + 0 ≡ C.first_tag = omega arith in λ i. record { tag = first i; state = IsFree; value = Some 0 };
  operands = λ s k. refl;
  next = zero-mod C.ring;
  before = λ p less. lt-ltb (p + 0) (length U.tenants) (omega (arith, less));
}

pub past : (P : Program) (C : Sizes) (history : List Taken) → AreAllowed P C history → IsPast (reached P C history)
past P C history allowed =
    let U = reached P C history in
    record {
      left = λ p t is old live. true≢false (sym old ∙ live_recent U (old_gone P C history allowed) p t is live);
      names = λ p q t u. names_recent C U (tagged P C history allowed) p q t u;
    }

-- a source that comes from its creator comes from a recent one
waits_not : (P : Program) (U : UpdateUnit) (station p : ℕ) (c : Option ℕ) (s : Supply) → MaySupply P U station c s → c ≡ Some p → is_old U p ≡ true → s ≢ From
waits_not P U station p c s may e old same =
    let from = subst (MaySupply P U station c) same may in
    let one : p ≡ from.p = same_Some p from.p (sym e ∙ from.creates) in
    true≢false (sym old ∙ (ap (is_old U) one ∙ from.new))

pub known_of_before : (P : Program) (C : Sizes) (U : UpdateUnit) (by : ℕ) → IsKnownOfBefore P C U by
known_of_before P C U by = record {
  first = λ index predicted p first second may e old. waits_not P U _ p _ first may.first_is e old;
  second = λ index predicted p first second may e old. waits_not P U _ p _ second may.second_is e old;
}

pub past_stays : (P : Program) (C : Sizes) (old new : List Entry) → PastStays P C old new
past_stays P C old new starts legal none = record {
  same = old_since P C new old starts legal none;
  since = let_since P C new old starts legal none;
}

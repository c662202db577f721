-- What a renewal leaves, what begins again with it, and what of the tenants of before.
use Rattle.std.specs.Prelude.{◌≡◌, ◌≢◌, ℕ, suc, ◌<◌, ◌≤◌, true, false, List, ◌∷◌, length, Some, None}
use Rattle.instructions.specs.Instruction.{first_of, second_of}
use Rattle.instructions.specs.Programs.{Program, instr_of}
use Rattle.instructions.specs.declared.stop.Stop.{Stop}
use Rattle.inorder.specs.declared.history.Entry.{Entry}
use Rattle.inorder.specs.declared.history.Event.TheVariants.{Does}
use Rattle.inorder.specs.declared.history.Source.{Source}
use Rattle.inorder.specs.declared.history.Step.TheVariants.{Let, Renew}
use Rattle.inorder.specs.declared.history.Supply.{Supply}
use Rattle.inorder.specs.declared.history.Supply.TheVariants.{From}
use Rattle.inorder.specs.History.{IsLegal, entry, renewals, unit_of}
use Rattle.instructions.specs.Histories.{StartsWith}
use Rattle.inorder.specs.Legal.{Allowed, AreAllowed, Taken, applied, reached}
use Rattle.inorder.specs.OperandWords.{operand_word}
use Rattle.inorder.specs.StationWords.{IsFree, station_word}
use Rattle.inorder.specs.Tenants.{IsNotLive, Retired, Stopped, Tenant}
use Rattle.inorder.specs.Unit.{Sizes, UpdateUnit, at, creator, is_old, next_station, recent}

-- A renewal changes no tenant. Each station is free, with the first tag and value 0, none has an
-- operand, the next tenant takes station 0, and all tenants are of before
pub record BeginsAgain (P : Program) (C : Sizes) (U : UpdateUnit) (by : ℕ) : Type 0 where
  pub kept : (applied P C U by Renew).tenants ≡ U.tenants
  pub stations : (s : ℕ) →
      station_word C (recent (applied P C U by Renew)) s ≡
      record { tag = C.first_tag; state = IsFree; value = Some 0 }
  pub operands : (s : ℕ) (k : Source) →
      operand_word (recent (applied P C U by Renew)) s k ≡ None
  pub next : next_station C (recent (applied P C U by Renew)) ≡ 0
  pub before : (p : ℕ) → p < length U.tenants → is_old (applied P C U by Renew) p ≡ true

-- A new tenant does not wait for one of before: its value is known
pub record IsKnownOfBefore (P : Program) (C : Sizes) (U : UpdateUnit) (by : ℕ) : Type 0 where
  pub first : (index predicted p : ℕ) (first second : Supply) →
      Allowed P C U by (Let index predicted first second) →
      creator P U.tenants (first_of (instr_of P index)) ≡ Some p → is_old U p ≡ true → first ≢ From
  pub second : (index predicted p : ℕ) (first second : Supply) →
      Allowed P C U by (Let index predicted first second) →
      creator P U.tenants (second_of (instr_of P index)) ≡ Some p → is_old U p ≡ true →
      second ≢ From

-- A tenant that was let before the last renewal has left, and of those let since, a station and a tag name one
pub record IsPast (U : UpdateUnit) : Type 0 where
  pub left : (p : ℕ) (t : Tenant) → at U.tenants p ≡ Some t → is_old U p ≡ true → IsNotLive t
  pub names : (p q : ℕ) (t u : Tenant) → at U.tenants p ≡ Some t → at U.tenants q ≡ Some u →
      is_old U p ≡ false → is_old U q ≡ false → t.station ≡ u.station → t.tag ≡ u.tag → p ≡ q

-- After a retired stop nothing is renewed
abbrev pub StopIsNotRenewed : Program → Sizes → List Taken → Type 0
StopIsNotRenewed P C history =
    (by q : ℕ) (t : Tenant) (c : Stop) → at (reached P C history).tenants q ≡ Some t →
    t.standing ≡ Retired → t.fate ≡ Stopped c → ¬ Allowed P C (reached P C history) by Renew

-- What is past is past in each unit that allowed steps reach
abbrev pub PastIsPast : Program → Sizes → List Taken → Type 0
PastIsPast P C history = AreAllowed P C history → IsPast (reached P C history)

-- The tenants of before are the same ones, and whoever was let since is recent
pub record HasSamePast (P : Program) (C : Sizes) (old new : List Entry) : Type 0 where
  pub same : (p : ℕ) → is_old (unit_of P C new) p ≡ is_old (unit_of P C old) p
  pub since : (p : ℕ) → length (unit_of P C old).tenants ≤ p →
      is_old (unit_of P C new) p ≡ false

-- The tenants of before stay the same ones where a legal history goes on with no renewal
abbrev pub PastStays : Program → Sizes → List Entry → List Entry → Type 0
PastStays P C old new =
    StartsWith new old → IsLegal P C new → renewals new ≡ renewals old → HasSamePast P C old new

-- A renewal is one more than there were
abbrev pub RenewalsCount : Type 0
RenewalsCount =
    (by : ℕ) (h : List Entry) → renewals (entry by (Does Renew) ∷ h) ≡ suc (renewals h)

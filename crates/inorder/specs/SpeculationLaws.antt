-- What follows of speculation in every unit, and that nobody of a shared unit speculates.
use Rattle.std.specs.Prelude.{◌≡◌, ◌≢◌, ℕ, true, List, Some}
use Rattle.instructions.specs.Operations.{loaded}
use Rattle.instructions.specs.Programs.{Program}
use Rattle.instructions.specs.declared.op.Kind.TheVariants.{Loads}
use Rattle.instructions.specs.declared.stop.Outcome.TheVariants.{Address}
use Rattle.inorder.specs.declared.history.Act.TheVariants.{Retire, Speculate}
use Rattle.inorder.specs.declared.history.Entry.{Entry}
use Rattle.inorder.specs.declared.history.Event.TheVariants.{Does}
use Rattle.inorder.specs.declared.history.Speculation.{Speculation}
use Rattle.inorder.specs.declared.history.Speculation.TheVariants.{Flush}
use Rattle.inorder.specs.declared.history.Step.TheVariants.{On}
use Rattle.inorder.specs.History.{IsLegal, MayAdd, unit_of}
use Rattle.inorder.specs.Legal.{Allowed, AreAllowed, Taken, applied, reached}
use Rattle.inorder.specs.Memory.{sure_raw_at}
use Rattle.inorder.specs.Tenants.{Done, Guessed, Tenant, computed, instr, kind_of, on_path}
use Rattle.inorder.specs.Unit.{Sizes, at, creator, front_pc, older}

-- A guess is confirmed before it retires
abbrev pub GuessStays : Program → Sizes → List Taken → Type 0
GuessStays P C history =
    (by p n v : ℕ) (t : Tenant) → at (reached P C history).tenants p ≡ Some t →
    t.fate ≡ Guessed v → ¬ Allowed P C (reached P C history) by (On p (Retire n))

-- The value v of a load is that of its bytes, which none of the stores before it can still change
pub record IsSure (P : Program) (ts : List Tenant) (t : Tenant) (v : ℕ) : Type 0 where
  pub a : ℕ
  pub bytes : ℕ
  pub computes : computed P t ≡ Address a
  pub read : sure_raw_at P ts (instr P t) a ≡ Some bytes
  pub value : v ≡ loaded (instr P t).op bytes

-- A load of the path that is done has such a value, whether it was guessed and confirmed, or not
abbrev pub DoneIsSure : Program → Sizes → List Taken → Type 0
DoneIsSure P C history =
    AreAllowed P C history → (p v : ℕ) (t : Tenant) → at (reached P C history).tenants p ≡ Some t →
    on_path t ≡ true → kind_of P t ≡ Loads → t.fate ≡ Done v →
    IsSure P (older (reached P C history).tenants p) t v

-- A flush leaves the create vector and the front pc that the tenants before the flushed one define
pub record FlushRestores (P : Program) (C : Sizes) (history : List Taken) : Type 0 where
  pub creators : (by p r : ℕ) → AreAllowed P C history →
      Allowed P C (reached P C history) by (On p (Speculate Flush)) →
      creator P (applied P C (reached P C history) by (On p (Speculate Flush))).tenants r ≡
      creator P (older (reached P C history).tenants p) r
  pub goes_on : (by p : ℕ) → AreAllowed P C history →
      Allowed P C (reached P C history) by (On p (Speculate Flush)) →
      front_pc (applied P C (reached P C history) by (On p (Speculate Flush))).tenants ≡
      front_pc (older (reached P C history).tenants p)

-- In a shared unit nobody speculates, so that no tenant has guessed
pub record NobodySpeculates (P : Program) (C : Sizes) (h : List Entry) : Type 0 where
  pub adds : (by p : ℕ) (s : Speculation) → ¬ MayAdd P C h by (Does (On p (Speculate s)))
  pub guesses : IsLegal P C h → (p v : ℕ) (t : Tenant) → at (unit_of P C h).tenants p ≡ Some t →
      t.fate ≢ Guessed v

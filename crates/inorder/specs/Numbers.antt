-- The numbers of a unit are 32-bit words.
use Rattle.std.specs.Prelude.{◌≡◌, ℕ, ◌<◌, ◌≤◌, List, length, Some, IfSome, slice_index, ⊤}
use Rattle.instructions.specs.Operations.{IsWord}
use Rattle.instructions.specs.Programs.{Program, instr_of}
use Rattle.inorder.specs.Legal.{AreAllowed, Taken, reached}
use Rattle.inorder.specs.Tenants.{Addr, Done, Fate, Guessed, Miss, Tenant}
use Rattle.inorder.specs.Unit.{Sizes, at}

-- What a listing gives: numbers that are words, bytes below 256, at most 16384 instructions
pub record HasWords (P : Program) : Type 0 where
  pub numbers : (k : ℕ) → IsWord (instr_of P k).number
  pub bytes : (x : ℕ) → slice_index P.bytes x < 256
  pub code : length P.code ≤ 16384

-- The address, value or next pc of a fate is a word
abbrev pub FateIsWord : Fate → Type 0
FateIsWord (Addr a) = IsWord a
FateIsWord (Done v) = IsWord v
FateIsWord (Miss x) = IsWord x
FateIsWord (Guessed v) = IsWord v
FateIsWord _ = ⊤

-- Each value, address and pc of a tenant
pub record AreWords (t : Tenant) : Type 0 where
  pub pc : IsWord t.pc
  pub predicted : IsWord t.predicted
  pub next : IsWord t.next
  pub first : IfSome t.first.value IsWord
  pub second : IfSome t.second.value IsWord
  pub made : IfSome t.made IsWord
  pub fate : FateIsWord t.fate

-- Each value, address and pc of each tenant is a word after these steps, if each was allowed, for such
-- a program
abbrev pub ValuesAreWords : Program → Sizes → List Taken → Type 0
ValuesAreWords P C history =
    HasWords P → AreAllowed P C history → (p : ℕ) (t : Tenant) →
    at (reached P C history).tenants p ≡ Some t → AreWords t

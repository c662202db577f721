-- The acts that run ahead of what the unit knows: a load guesses its value, the guess is confirmed,
-- and the youngest tenant is flushed. Nobody of a shared unit has one of them.
use Rattle.std.specs.Prelude.{⊤, ◌≡◌, ℕ, ◌^◌, ◌<◌, List, None, Some, unwrap_or}
use Rattle.std.specs.List.{AllByRecursion}
use Rattle.instructions.specs.Operations.{loaded}
use Rattle.instructions.specs.Programs.{Program}
use Rattle.instructions.specs.declared.op.Kind.TheVariants.{Loads}
use Rattle.instructions.specs.declared.stop.Outcome.TheVariants.{Address}
use Rattle.inorder.specs.declared.history.Speculation.{Speculation}
use Rattle.inorder.specs.declared.history.Speculation.TheVariants.{Confirm, Flush, Guess}
use Rattle.inorder.specs.Memory.{sure_raw_at}
use Rattle.inorder.specs.Steps.{squashed}
use Rattle.inorder.specs.Tenants.{Addr, Done, Fate, Guessed, IsNotLive, Live, Open, Tenant, computed, instr, kind_of, missing}

-- The acts on a tenant t, with the tenants ts before it and ys after it

-- Guess

-- With this fate a load can guess: its address waits, or is there and the older stores may not be known
abbrev pub CanGuess : Fate → Type 0
CanGuess Open = ⊤
CanGuess (Addr a) = ⊤
CanGuess _ = ⊥

-- A live load before its address, or with it. Any word is a guess
pub record MayGuess (P : Program) (t : Tenant) (v : ℕ) : Type 0 where
  pub small : v < 2 ^ 32
  pub live : t.standing ≡ Live
  pub kind : kind_of P t ≡ Loads
  pub fate : CanGuess t.fate

-- The load has made the value, which can be delivered; with this fate it cannot retire
abbrev pub guessed : Tenant → ℕ → Tenant
guessed t v = record t { fate = Guessed v; made = Some v }

-- Confirm

-- A live load with its sources, whose guess is the value of its bytes, which no older store can still
-- change. One that has guessed before its address is not claimed: its address is that of its sources
pub record MayConfirm (P : Program) (ts : List Tenant) (t : Tenant) : Type 0 where
  pub live : t.standing ≡ Live
  pub v : ℕ
  pub fate : t.fate ≡ Guessed v
  pub needs : missing P t ≡ None
  pub a : ℕ
  pub computes : computed P t ≡ Address a
  pub bytes : ℕ
  pub read : sure_raw_at P ts (instr P t) a ≡ Some bytes
  pub right : v ≡ loaded (instr P t).op bytes

-- The load is done with the value that it has made
abbrev pub confirmed : Tenant → Tenant
confirmed t = record t { fate = Done (unwrap_or t.made 0) }

-- Flush

-- The youngest live tenant
pub record MayFlush (ys : List Tenant) (t : Tenant) : Type 0 where
  pub live : t.standing ≡ Live
  pub youngest : AllByRecursion IsNotLive ys

-- What must hold of the tenant t, with ys after it and ts before it
abbrev pub MaySpeculate : Program → Speculation → List Tenant → Tenant → List Tenant → Type 0
MaySpeculate P (Guess v) ys t ts = MayGuess P t v
MaySpeculate P Confirm ys t ts = MayConfirm P ts t
MaySpeculate P Flush ys t ts = MayFlush ys t

-- The tenant t after such an act; a flush leaves it as a squash does
abbrev pub speculated : Speculation → Tenant → Tenant
speculated (Guess v) t = guessed t v
speculated Confirm t = confirmed t
speculated Flush t = squashed t

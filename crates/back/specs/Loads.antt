-- Loads that wait, and the stores that block them.
use Rattle.std.specs.Prelude.{◌≡◌, ◌<◌, ℕ, List, Some, slice_get}
use Rattle.instructions.specs.Programs.{Program}
use Rattle.instructions.specs.declared.op.Kind.TheVariants.{Loads, Stores}
use Rattle.inorder.specs.declared.history.Entry.{Entry}
use Rattle.inorder.specs.Loads.{live_accesses, place_of, queue_of}
use Rattle.inorder.specs.Replies.{Has}
use Rattle.inorder.specs.Tenants.{Addr, Live, Tenant, kind_of}
use Rattle.inorder.specs.Unit.{Sizes, UpdateUnit}
use Rattle.lsq.specs.declared.answer.Answer.TheVariants.{Blocked}
use Rattle.lsq.specs.declared.entry.Entry.{Entry as QueueEntry}
use Rattle.lsq.specs.LoadRule.{answer}
use Rattle.station.specs.Moments.{WasOnce}

-- The tenant is a live load
pub record IsLiveLoad (P : Program) (t : Tenant) : Type 0 where
  pub live : t.standing ≡ Live
  pub kind : kind_of P t ≡ Loads

-- A live load in fate Addr
pub record IsWaitingLoad (P : Program) (t : Tenant) : Type 0 where
  pub load : IsLiveLoad P t
  pub address : ℕ
  pub fate : t.fate ≡ Addr address

-- The tenant is a live store
pub record IsLiveStore (P : Program) (t : Tenant) : Type 0 where
  pub live : t.standing ≡ Live
  pub kind : kind_of P t ≡ Stores

-- By the rule for loads over the live loads and stores, load p waits for the older store q
pub record Blocks (P : Program) (U : UpdateUnit) (p q : ℕ) : Type 0 where
  pub load : Has U p (IsWaitingLoad P)
  pub store : Has U q (IsLiveStore P)
  pub before : q < p
  pub place : ℕ
  pub entry : QueueEntry
  pub there : slice_get (live_accesses P U.tenants) place ≡ Some (q, entry)
  pub answers : answer (queue_of P U.tenants) (place_of P U.tenants p) ≡ Blocked place

-- Tenant p was no load in fate Addr at a moment of the call
abbrev pub WasNotWaiting : Program → Sizes → List Entry → List Entry → ℕ → Type 0
WasNotWaiting P C old new p = WasOnce P C old new (λ U. ¬ Has U p (IsWaitingLoad P))

-- A store blocked load p at a moment of the call
abbrev pub WasBlocked : Program → Sizes → List Entry → List Entry → ℕ → Type 0
WasBlocked P C old new p = WasOnce P C old new (λ U. (q : ℕ) × Blocks P U p q)

-- The fate of a stage.
use Rattle.std.proofs.Common.{rules, ◌≡◌, ℕ}
use Rattle.instructions.specs.declared.stop.Stop.{Stop}
use Rattle.inorder.specs.Tenants.{Addr, Done, Fate, Stopped}
use Rattle.one_thread.specs.declared.station.Stage.TheVariants.{Addr as HasAddr, Done as IsDone, Stops}
use Rattle.one_thread.specs.Window.{stage_of}

pub stop_fate : (f : Fate) (c : Stop) → stage_of f ≡ Stops c → f ≡ Stopped c
stop_fate f c e = search rules

pub done_fate : (f : Fate) → stage_of f ≡ IsDone → (v : ℕ) × (f ≡ Done v)
done_fate f e = search rules

pub addr_fate : (f : Fate) (a : ℕ) → stage_of f ≡ HasAddr a → f ≡ Addr a
addr_fate f a e = search rules

-- What a tenant that is no stop commits.
use Rattle.std.proofs.Common.{rules, ◌≡◌, ℕ, true, List, [], Some}
use Rattle.instructions.specs.Instruction.{second_of}
use Rattle.instructions.specs.Programs.{Program}
use Rattle.instructions.specs.declared.op.Kind.TheVariants.{Stores}
use Rattle.inorder.specs.Committed.{commits, with_stored, with_tenant}
use Rattle.inorder.specs.Machine.{State}
use Rattle.inorder.specs.Memory.{stored}
use Rattle.inorder.specs.Steps.{CanRetire, IsNoRetiredStop, retired}
use Rattle.inorder.specs.Tenants.{Addr, Done, Tenant, computed_next, instr, is_first, kind_of}
use Rattle.inorder.proofs.Sound.{IsSoundAt}
use Rattle.inorder.specs.Quiescent.{IsNotBusy}
use Rattle.one_thread.specs.declared.pipeline.Pipeline.{Pipeline}
use Rattle.one_thread.specs.Changes.{ahead_of, registers_of}
use Rattle.one_thread.specs.Leavers.{told_at, told_of}
use Rattle.one_thread.specs.Leaves.{memory_with, with_station}
use Rattle.one_thread.specs.Window.{source_in, stage_of, station_of}

-- the station of the tenant, and the tenant that has retired, commit the same
pub record CommitsSame (P : Program) (t : Tenant) (s : State) : Type 0 where
  pub made : (retired t 0).made ≡ t.made
  pub stores : with_stored (stored P (retired t 0)) s.memory ≡ memory_with (instr P t) (stage_of t.fate) s.registers s.memory
  pub goes : computed_next P t ≡ t.next

pub commits_same : (P : Program) (t : Tenant) (s : State) → CommitsSame P t s → with_tenant P (retired t 0) s ≡ with_station (station_of P t) s
commits_same P t s c = search rules

-- What leaves

pub record Left (b : Pipeline) (t : Tenant) : Type 0 where
  pub can : CanRetire (kind_of b.program.now t) t.second.value t.fate
  pub commits : commits (retired t 0) ≡ true
  pub same : CommitsSame b.program.now t (ahead_of b)
  pub told : told_of b.program.now (retired t 0) ≡ told_at (station_of b.program.now t)
  pub made : (retired t 0).made ≡ t.made
  pub makes : is_first b.program.now t ≡ true → (v : ℕ) × (t.made ≡ Some v)
  pub free : IsNotBusy t.fate
  pub no_stop : IsNoRetiredStop (retired t 0)

pub done_left : (b : Pipeline) (t : Tenant) (ts : List Tenant) (v : ℕ) → IsSoundAt b.program.now ts t → t.fate ≡ Done v → Left b t
done_left b t ts v s e = search rules

pub store_left : (b : Pipeline) (t : Tenant) (ts : List Tenant) (a : ℕ) → IsSoundAt b.program.now ts t → t.fate ≡ Addr a →
    kind_of b.program.now t ≡ Stores →
    t.second.value ≡ source_in (registers_of b) [] (second_of (instr b.program.now t)) → Left b t
store_left b t ts a s e k d = search rules

use Rattle.std.proofs.Common.{◌≡◌, ◌&&◌, false, refl, sym, ap, arith}
use Rattle.std.specs.Prelude.{take}
use Rattle.instructions.specs.Instruction.{is_access}
use Rattle.instructions.specs.Programs.{Program}
use Rattle.inorder.specs.Tenants.{Tenant, is_live, kind_of, on_path}
use Rattle.replay.specs.declared.counting.Test.{Test}
use Rattle.replay.specs.declared.counting.Test.TheVariants.{IsLive, IsLiveAccess, IsOnPath}
use Rattle.replay.specs.Shown.{shown}
use Rattle.replay.specs.Tests.{passes}
use Rattle.replay.proofs.Counts.{how_many_le, none_pass}
use Rattle.replay.proofs.First.{first_length}
use Rattle.replay.proofs.Settlement.{none_live}
use Rattle.replay.proofs.unit.Unit.settled_count.Goals as goal

pub returns-in-IsOnPath-clause-small : goal.returns-in-IsOnPath-clause-small
returns-in-IsOnPath-clause-small c =
    let hs = c.args.self.now.tenants.items in
    let s = c.args.self.now.settled in
    let is = c.args.self.now.settles.path in
    let few = how_many_le on_path (shown (take s.upto hs)) in
    let long = first_length hs s.upto c.args.self.now.settles.within in
    omega arith

not_live : (P : Program) (test : Test) (t : Tenant) → (test ≡ IsOnPath → ⊥) → is_live t ≡ false → passes P test t ≡ false
not_live P IsLive t other e = e
not_live P IsLiveAccess t other e = ap (λ b. b && is_access (kind_of P t)) e
not_live P IsOnPath t other e = absurd (other refl)

pub returns-in_default : goal.returns-in_default
returns-in_default c =
    let P = c.args.self.now.program.now in
    let hs = c.args.self.now.tenants.items in
    let s = c.args.self.now.settled in
    record {
      value = sym (none_pass (passes P c.args.test) (shown (take s.upto hs))
          (λ q t e. not_live P c.args.test t c.in_default.not-IsOnPath (none_live P hs s q t c.args.self.now.settles e)));
      small = omega arith;
    }

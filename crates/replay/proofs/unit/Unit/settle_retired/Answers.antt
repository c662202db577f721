use Rattle.std.proofs.Common.{rules, ◌≡◌, ◌<◌, ◌≤◌, ◌+◌, Some, IfSome, length, ap, refl, ◌∙◌, subst, arith}
use Rattle.std.specs.Prelude.{take}
use Rattle.instructions.specs.Instruction.{destination}
use Rattle.inorder.specs.Tenants.{on_path}
use Rattle.replay.specs.Shown.{shown}
use Rattle.replay.proofs.Counts.{how_many_le}
use Rattle.replay.proofs.First.{first_length}
use Rattle.replay.specs.Settlement.{ends}
use Rattle.replay.proofs.Dropped.{dropped_later}
use Rattle.replay.proofs.Settlement.{settled_retired}
use Rattle.replay.proofs.unit.Unit.settle_retired.Goals as goal

pub advance-requires-clause-path : goal.advance-requires-clause-path
advance-requires-clause-path c =
    let hs = c.args.self.now.tenants.items in
    let s = c.args.self.now.settled in
    let is = c.args.self.now.settles.path in
    let few = how_many_le on_path (shown (take s.upto hs)) in
    let long = first_length hs s.upto c.args.self.now.settles.within in
    omega arith

pub advance-requires-clause-count : goal.advance-requires-clause-count
advance-requires-clause-count c =
    let P = c.args.self.now.program.now in
    let hs = c.args.self.now.tenants.items in
    let s = c.args.self.now.settled in
    let is = c.args.self.now.settles.count in
    let few = how_many_le (ends P) (shown (take s.upto hs)) in
    let long = first_length hs s.upto c.args.self.now.settles.within in
    omega arith

pub invariant_of-self : goal.invariant_of-self
invariant_of-self c =
    let h = c.args.tenant.now in
    let size : c.len.result ≡ length c.args.self.now.settled.memory.items = search rules in
    let wide : length c.args.self.now.settled.writers ≡ 34 = search rules in
    let broad : length c.args.self.now.settled.registers ≡ 34 = search rules in
    let written : 0 < c.number-register.result → h.made ≡ Some c.in-Some.value = rw c.in-Some.is at c.written.ensures in
    record {
      settles =
          settled_retired c.args.self.now.program.now c.args.self.now.tenants.items c.args.self.now.settled c.advance.new.self h
          (record { pc = h.next; half = c.half_behind-half.result }) c.number-register.result c.in-Some.value c.stored-stored.result
          c.args.self.now.settles c.requires.is c.requires.retired c.in_default.not-Stops
          (ap (λ x. record { pc = h.next; half = x }) c.half_behind-half.ensures)
          (c.number-register.ensures.value ∙ c.destination.ensures ∙ ap (λ i. destination i h.half) c.instr.ensures)
          c.number-register.ensures.small wide broad written c.stored-stored.ensures.value (c.if-not-is_whole.ensures.whole refl)
          (subst (λ n. IfSome c.stored-stored.result (λ w. w.at + w.width ≤ n)) size (c.if-not-is_whole.ensures.inside refl))
          c.advance.ensures;
      counts = c.args.self.now.counts;
      drops =
          dropped_later c.args.self.now.tenants.items c.args.self.now.tenants.from c.args.self.now.settled.upto c.advance.new.self.upto
          c.args.self.now.drops (let more = c.advance.ensures.upto in omega arith);
    }

use Rattle.std.proofs.Common.{◌≡◌, ◌∷◌, ◌++◌, [], rules}
use Rattle.checker.specs.Reach.HasPath.{First}
use Rattle.checker.proofs.Reached.{last_path, none_marked, other_paths}
use Rattle.checker.proofs.reach.reached.Goals as goal

pub reach-requires-clause-path : goal.reach-requires-clause-path
reach-requires-clause-path c = λ some. First some

pub reach-requires-clause-marked : goal.reach-requires-clause-marked
reach-requires-clause-marked c =
    none_marked c.args.paths c.args.program.now c.len.result _ c.new-reached.result.items c.resize.new.self.items c.new-reached.ensures.items
    c.in_ok-resize.ensures.items

pub reach_successors-requires-clause-path : goal.reach_successors-requires-clause-path
reach_successors-requires-clause-path c =
    let is : c.loop.next.items ≡ c.pop.new.self.items ++ c.in-Some.k ∷ [] = search rules in
    last_path c.args.paths c.args.program.now c.pop.new.self.items c.loop.next.items c.in-Some.k is c.loop.invariant.listed

pub reach_successors-requires-clause-listed : goal.reach_successors-requires-clause-listed
reach_successors-requires-clause-listed c =
    let is : c.loop.next.items ≡ c.pop.new.self.items ++ c.in-Some.k ∷ [] = search rules in
    other_paths c.args.paths c.args.program.now c.pop.new.self.items c.loop.next.items c.in-Some.k is c.loop.invariant.listed

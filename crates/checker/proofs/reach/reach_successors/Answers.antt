use Rattle.std.proofs.Common.{◌≡◌, false, rules, true}
use Rattle.instructions.specs.Programs.{address, instr_of}
use Rattle.instructions.specs.Targets.{names_target}
use Rattle.checker.specs.Reach.{ends_path, passes}
use Rattle.checker.specs.Reach.HasPath.{Behind, Target}
use Rattle.checker.proofs.reach.reach_successors.Goals as goal

pub reach-requires-clause-path : goal.reach-requires-clause-path
reach-requires-clause-path c =
    let leads_on : passes c.args.paths (instr_of c.args.program.now c.args.k) ≡ true = search rules in
    let goes_on : ends_path (instr_of c.args.program.now c.args.k) ≡ false = search rules in
    λ inside. Behind c.args.k c.requires.path leads_on goes_on inside

pub reach-requires-in-Some-clause-path : goal.reach-requires-in-Some-clause-path
reach-requires-in-Some-clause-path c =
    let leads_on : passes c.args.paths (instr_of c.args.program.now c.args.k) ≡ true = search rules in
    let names : names_target (instr_of c.args.program.now c.args.k).op ≡ true = search rules in
    let is : (instr_of c.args.program.now c.args.k).number ≡ address c.in-Some.target = search rules in
    λ inside. Target c.args.k c.in-Some.target c.requires.path leads_on names inside is

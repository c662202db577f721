use Rattle.std.proofs.Common.{Some, sym, subst, arith}
use Rattle.back.specs.Backs.{back_of}
use Rattle.back.specs.Commits.{CommitAnswers}
use Rattle.back.proofs.Calls.{head_inside}
use Rattle.back.proofs.CommitFacts.{CommitFacts, answers_ended, answers_nowhere, facts_of, is_not_over, kept_refused, was_refused}
use Rattle.back.proofs.CommitRetired.{answers_half, answers_stop, answers_whole, is_inside, kept_behind}
use Rattle.back.proofs.backs.Back.commit.Given.{Over}
use Rattle.back.proofs.backs.Back.commit.Goals.{After-retire, in-Some-default, in-None-Some, in-None-None}
use Rattle.back.proofs.backs.Back.commit.Goals as goal

pub returns-in-Some-clause-reply : goal.returns-in-Some-clause-reply
returns-in-Some-clause-reply g c = answers_ended c.self.invariant c.self.view_is c.in-Some.is

pub returns-in_default-fetch-clause-reply : goal.returns-in_default-fetch-clause-reply
returns-in_default-fetch-clause-reply g c =
    answers_nowhere (facts_of c.self.invariant c.self.view_is c.requires.core c.in_default.is c.program.ensures c.pc-pc.ensures c.fetch.ensures c.in_default-fetch.is)

-- The back has not ended, and there is an instruction at its pc
facts : (g : Over) (c : After-retire g) → CommitFacts g.J.OfProgram.program c.args.self.now c.args.core.now c.self.inside.seat c.self.inside.committed c.self.inside.low c.self.inside.head
    c.self.inside.ended c.self.inside.publisher (Some c.in-Some-fetch.instr)
facts g c = facts_of c.self.invariant c.self.view_is c.requires.core c.in_default.is c.program.ensures c.pc-pc.ensures c.fetch.ensures c.in-Some-fetch.is

pub invariant_of-self-in-NotDone : goal.invariant_of-self-in-NotDone
invariant_of-self-in-NotDone g c = kept_refused (facts g (goal.at.invariant_of-self-in-NotDone g c).After-retire) c.retire.ensures.kept tt c.in-NotDone.ensures.reply

pub returns-in-NotDone-clause-reply : goal.returns-in-NotDone-clause-reply
returns-in-NotDone-clause-reply g c = was_refused (facts g (goal.at.returns-in-NotDone-clause-reply g c).After-retire) c.retire.ensures.kept tt c.in-NotDone.ensures.reply

pub invariant_of-self-in-Empty : goal.invariant_of-self-in-Empty
invariant_of-self-in-Empty g c = kept_refused (facts g (goal.at.invariant_of-self-in-Empty g c).After-retire) c.retire.ensures.kept tt c.in-Empty.ensures.reply

pub returns-in-Empty-clause-reply : goal.returns-in-Empty-clause-reply
returns-in-Empty-clause-reply g c = was_refused (facts g (goal.at.returns-in-Empty-clause-reply g c).After-retire) c.retire.ensures.kept tt c.in-Empty.ensures.reply

pub invariant_of-self-in-Over : goal.invariant_of-self-in-Over
invariant_of-self-in-Over g c = kept_refused (facts g (goal.at.invariant_of-self-in-Over g c).After-retire) c.retire.ensures.kept tt c.in-Over.ensures.reply

pub returns-in-Over-clause-reply : goal.returns-in-Over-clause-reply
returns-in-Over-clause-reply g c = absurd (is_not_over (facts g (goal.at.returns-in-Over-clause-reply g c).After-retire) c.retire.ensures.kept c.in-Over.ensures.reply)

pub overflow_add-self-inside : goal.overflow_add-self-inside
overflow_add-self-inside g c =
    let small = head_inside c.self.invariant c.self.view_is c.requires.core c.ring-ring.ensures.value c.ring-ring.ensures.least in
    let most = c.ring-ring.ensures.most in omega (arith, small, most)

pub wrapped-self-inside-requires : goal.wrapped-self-inside-requires
wrapped-self-inside-requires g c =
    let small = head_inside c.self.invariant c.self.view_is c.requires.core c.ring-ring.ensures.value c.ring-ring.ensures.least in
    let least = c.ring-ring.ensures.least in omega (arith, small, least)

pub commit_tenant-self-inside-requires-clause-inside : goal.commit_tenant-self-inside-requires-clause-inside
commit_tenant-self-inside-requires-clause-inside g c = is_inside (facts g (goal.at.commit_tenant-self-inside-requires-clause-inside g c).After-retire) c.retire.ensures.kept c.in-Retired.ensures.reply

pub invariant_of-self-2 : goal.invariant_of-self-2
invariant_of-self-2 g c =
    kept_behind (facts g (goal.at.invariant_of-self-2 g c).After-retire) c.retire.ensures.kept c.in-Retired.ensures.reply c.commit_tenant-self-inside.ensures.state
    c.commit_tenant-self-inside.ensures.low c.wrapped-self-inside.ensures.value c.ring-ring.ensures.value c.stop-self-inside.ensures

pub returns-clause-reply : goal.returns-clause-reply
returns-clause-reply g c =
    let f = facts g (goal.at.returns-clause-reply g c).After-retire in
    let kept = c.retire.ensures.kept in
    let did = c.in-Retired.ensures.reply in
    let stop = c.stop-self-inside.ensures in
    let committed = c.commit_tenant-self-inside.ensures in
    let answers = CommitAnswers c.args.self.now (back_of c.retire.new.seat c.stop-self-inside.result c.self.inside.publisher) in
    elim c.match-self-2.branch [
      | in-Some-default w ↦ subst answers (sym w.result-is) (answers_stop f kept did stop w.in-Some-default.is-0)
      | in-None-Some w ↦ subst answers (sym w.result-is) (answers_half f kept did stop committed.low w.in-None-Some.is-1 c.pc-pc.ensures)
      | in-None-None w ↦
          subst answers (sym w.result-is)
          (answers_whole f kept did stop committed.low w.in-None-None.is-1 w.in-None-None.is-0 c.pc-pc.ensures committed.state w.count.ensures)
    ]

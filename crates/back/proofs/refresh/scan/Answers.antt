use Rattle.back.proofs.ScanSteps.{behind_first, behind_more, behind_passed, found_blocked, has_loaded, has_woken, head_there, state_there, was_idle}
use Rattle.back.proofs.Searching.{is_nothing, is_something}
use Rattle.back.proofs.refresh.scan.Goals as goal
use Rattle.back.proofs.refresh.scan.Goals.{in-Passed, in-Blocked+then-is_none, in-Blocked+else-is_none}

pub try_load-requires-clause-head_is : goal.try_load-requires-clause-head_is
try_load-requires-clause-head_is c = head_there c.loop-at.invariant c.requires.head_is

pub try_load-requires-clause-state : goal.try_load-requires-clause-state
try_load-requires-clause-state c = state_there c.loop-at.invariant c.requires.state

pub returns-in-Loaded-clause-reply : goal.returns-in-Loaded-clause-reply
returns-in-Loaded-clause-reply c =
    has_loaded c.loop-at.invariant c.requires.by c.try_load.ensures.kept c.requires.head_is c.requires.head c.loop-at-test.true c.requires.ring c.wrapped-station.ensures.value
    c.in-Loaded.ensures.reply

pub returns-in-Loaded-clause-woken : goal.returns-in-Loaded-clause-woken
returns-in-Loaded-clause-woken c = has_woken c.loop-at.invariant c.requires.by c.try_load.ensures.kept c.in-Loaded.ensures.woken

pub loop-at-preserved : goal.loop-at-preserved
loop-at-preserved c =
    let s = c.loop-at.invariant in
    let kept = c.try_load.ensures.kept in
    elim c.match-try_load.branch [
      | in-Passed w ↦ behind_passed s c.requires.by kept w.blocked-is w.in-Passed.ensures.reply w.in-Passed.ensures.woken
      | in-Blocked+then-is_none w ↦
          behind_first s c.requires.by kept w.in-Blocked.ensures.reply w.in-Blocked.ensures.woken w.blocked-is c.wrapped-station.ensures.value c.requires.ring
          (is_nothing c.loop-at.blocked w.is_none.result w.is_none.ensures w.if-is_none.true)
      | in-Blocked+else-is_none w ↦
          behind_more s c.requires.by kept w.in-Blocked.ensures.reply w.in-Blocked.ensures.woken w.blocked-is
          (is_something c.loop-at.blocked w.is_none.result w.is_none.ensures w.if-is_none.false)
    ]

pub returns-in-Some-clause-reply : goal.returns-in-Some-clause-reply
returns-in-Some-clause-reply c =
    found_blocked c.loop-at.invariant c.requires.by c.requires.head_is c.requires.head c.requires.ring c.loop-at-test.false c.loop-at.auto.at-end c.in-Some.is

pub returns-in-None-clause-reply : goal.returns-in-None-clause-reply
returns-in-None-clause-reply c =
    was_idle c.loop-at.invariant c.requires.by c.requires.head_is c.requires.head c.requires.ring c.loop-at-test.false c.loop-at.auto.at-end c.in-None.is

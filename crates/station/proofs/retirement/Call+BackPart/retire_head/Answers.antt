use Rattle.std.proofs.Common.{sym, ap, ◌∙◌}
use Rattle.ruu_words.specs.States.{state_code}
use Rattle.station.proofs.RetireSteps.{behind_look, early_state, end_there, has_state, late_state, none_there, not_done_there}
use Rattle.station.proofs.retirement.Call+BackPart.retire_head.Goals as goal

pub retire_at_end-requires-clause-end : goal.retire_at_end-requires-clause-end
retire_at_end-requires-clause-end c =
    let state = c.unpack-found.ensures.state (has_state c.args.station c.look_at_head-word.result c.look_at_head-word.ensures) in
    end_there c.args.station c.look_at_head-word.result c.look_at_head-word.ensures c.unpack-found.result c.unpack-found.ensures.tag state c.unpack-found.ensures.value (late_state c.in-Addr.is)

pub returns-in-Free : goal.returns-in-Free
returns-in-Free c =
    let state = c.unpack-found.ensures.state (has_state c.args.station c.look_at_head-word.result c.look_at_head-word.ensures) in
    none_there c.args.station c.look_at_head-word.result c.look_at_head-word.ensures (sym state ∙ ap state_code c.in-Free.is)

pub returns-in-Open : goal.returns-in-Open
returns-in-Open c =
    let state = c.unpack-found.ensures.state (has_state c.args.station c.look_at_head-word.result c.look_at_head-word.ensures) in
    not_done_there c.args.station c.look_at_head-word.result c.look_at_head-word.ensures (early_state state c.in-Open.is)

pub returns-in-Addr : goal.returns-in-Addr
returns-in-Addr c =
    let state = c.unpack-found.ensures.state (has_state c.args.station c.look_at_head-word.result c.look_at_head-word.ensures) in
    behind_look c.args.station c.look_at_head-word.result c.look_at_head-word.ensures c.unpack-found.result c.unpack-found.ensures.tag state c.unpack-found.ensures.value
    (late_state c.in-Addr.is) c.retire_at_end.ensures

use Rattle.std.proofs.Common.{◌≡◌, ◌≢◌, rules}
use Rattle.ruu_words.specs.declared.station.StationState.TheVariants.{Addr}
use Rattle.station.proofs.Calls.{caller_at}
use Rattle.station.proofs.RetireSteps.{access_there, behind_info, may_leave}
use Rattle.station.proofs.retirement.Call+BackPart.retire_at_end.Goals as goal

pub retire_access-requires : goal.retire_access-requires
retire_access-requires c =
    let addr : c.args.found.state ≡ Addr = search rules in
    access_there c.args.station c.read_info-info.result c.read_info-info.ensures (caller_at c.self.invariant c.self.view_is) c.args.found c.requires.end
    c.unpack-half.ensures.index c.unpack-half.ensures.half addr

pub returns-then-eq : goal.returns-then-eq
returns-then-eq c =
    behind_info c.args.station c.read_info-info.result c.read_info-info.ensures (caller_at c.self.invariant c.self.view_is) c.args.found c.requires.end c.retire_access.ensures

pub leave-requires : goal.leave-requires
leave-requires c =
    let other : c.args.found.state ≢ Addr = search rules in
    may_leave c.args.station c.read_info-info.result c.read_info-info.ensures (caller_at c.self.invariant c.self.view_is) c.args.found c.requires.end
    c.last_of-last.result c.unpack-half.ensures.index c.unpack-half.ensures.half other c.last_of-last.ensures

pub returns : goal.returns
returns c =
    behind_info c.args.station c.read_info-info.result c.read_info-info.ensures (caller_at c.self.invariant c.self.view_is) c.args.found c.requires.end c.leave.ensures

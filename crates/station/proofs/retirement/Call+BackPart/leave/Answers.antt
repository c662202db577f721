use Rattle.std.proofs.Common.{◌+◌, ◌%◌}
use Rattle.inorder.specs.History.{unit_of}
use Rattle.station.specs.Retirement.{is_stop}
use Rattle.station.specs.Seats.{IsAtHead}
use Rattle.station.proofs.Retiring.{head_next, leaving_small, retired_out}
use Rattle.station.proofs.Calls.{after, legal_at}
use Rattle.station.proofs.retirement.Call+BackPart.leave.Goals as goal

pub left_word-free-requires : goal.left_word-free-requires
left_word-free-requires c =
    let v = c.args.self.now in
    leaving_small v.core.program v.core.sizes v.view.seen (legal_at c.self.invariant c.self.view_is) c.args.leaving c.requires

pub returns : goal.returns
returns c =
    let v = c.args.self.now in
    let w = c.retire_tenant.new.self.view in
    let l = c.args.leaving in
    let left = c.retire_tenant.ensures in
    record {
      same = left.same;
      reply = retired_out v.core.program v.core.sizes v.view.by l v.view w left.grows;
      head = after (λ z. IsAtHead z.0.sizes (unit_of z.0.program z.0.sizes w.seen) ((l.station + 1) % z.0.sizes.ring) (is_stop l.last)) left.same
          (head_next v.core.program v.core.sizes v.view.by l v.view w left.grows);
    }

use Rattle.std.proofs.Common.{◌≡◌, rules, subst}
use Rattle.back.specs.Backs.{unit_in}
use Rattle.inorder.specs.Unit.{front_pc, next_station, recent}
use Rattle.session.specs.declared.replies.NextFetch.{NextFetch}
use Rattle.session.specs.Rows.{IsAheadOf}
use Rattle.station.specs.Seats.{TheCore}
use Rattle.session.proofs.Calls.{has_seen, was_seen}
use Rattle.session.proofs.session.Session.read_path.Goals as goal

pub returns-clause-stays : goal.returns-clause-stays
returns-clause-stays g c = record {
  grows = has_seen _ _ c.self.view_is _ _ c.meet.ensures.other_history;
  kept = search rules;
  commits = search rules;
}

pub returns-clause-reply : goal.returns-clause-reply
returns-clause-reply g c =
    let core = c.self.inside.core in
    let seen = c.meet.new.self.seen in
    let told : NextFetch = record { station = c.next_station-station.result; pc = c.next_pc-pc.result } in
    let says : IsAheadOf core seen told = record {
      station = subst (λ (k : TheCore). told.station ≡ next_station core.sizes (recent (unit_in k seen))) c.meet.ensures.core c.next_station-station.ensures;
      pc = subst (λ (k : TheCore). told.pc ≡ front_pc (unit_in k seen).tenants) c.meet.ensures.core c.next_pc-pc.ensures;
    } in
    was_seen _ _ c.self.view_is (λ s behind. IsAheadOf s.core behind told) _ _ c.meet.ensures.told says c.meet.ensures.other_told

use Rattle.std.proofs.Common.{◌+◌, ◌%◌, length, None, refl, sym, ap, ◌∙◌}
use Rattle.std.specs.Prelude.{slice_set}
use Rattle.streaming.specs.Slots.{slot_in}
use Rattle.streaming.proofs.Completions.{stations_long}
use Rattle.streaming.proofs.entering.enter_flow.Goals as goal

pub enter_after-requires : goal.enter_after-requires
enter_after-requires g c =
    let b = c.args.unit.now in
    let flow = c.args.flow.now in
    let size = c.requires.flow.size in
    let is = c.station_at-station.ensures.value ∙ ap (slot_in flow.ring.size flow.ring.oldest) c.len.ensures.value in
    let place = is ∙ ap (λ r. slot_in r flow.ring.oldest (length flow.ring.completed)) size ∙ ap (λ n. (flow.ring.oldest + n) % b.ring) (sym (stations_long b.program.now flow.ring.completed)) in
    record {
      placed = record {
        before = b;
        flows = c.requires.flow;
        can = c.requires.can;
        from = c.args.from;
        reopens = c.requires.reopens;
        leavers = c.take_leaver-left.ensures.none ∙ ap (λ k. slice_set b.leavers k None) place;
        rest = refl;
      };
      same = refl;
      small = c.station_at-station.ensures.small;
      is = is;
    }

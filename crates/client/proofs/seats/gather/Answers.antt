use Rattle.std.proofs.Common.{ap, ◌∙◌}
use Rattle.inorder.specs.History.{own}
use Rattle.station.specs.Seats.{TheCore}
use Rattle.client.proofs.Gathered.{later, later_on}
use Rattle.instructions.proofs.Histories.{starts_on}
use Rattle.client.proofs.Same.{on, same_all, then}
use Rattle.client.proofs.seats.gather.Goals as goal

pub returns-clause-met : goal.returns-clause-met
returns-clause-met c =
    let core = c.args.core.now in
    let s = c.args.seats.now in
    let one = c.meet.new.other in
    let two = c.meet-2.new.other in
    let three = c.meet-3.new.other in
    let a = c.meet.ensures in
    let b = c.meet-2.ensures in
    let d = c.meet-3.ensures in
    let one_core = d.other_kept.core ∙ (b.other_kept.core ∙ (a.other_kept.core ∙ c.requires.one_core)) in
    let other_core = d.one_kept.core ∙ c.requires.other_core in
    let begins = starts_on one.seen two.seen three.seen b.other_history.begins d.other_history.begins in
    record {
      front = later core s.front c.meet.new.one a.one_kept a.one_spare a.one_history;
      back = later core s.back c.meet-2.new.one b.one_kept b.one_spare b.one_history;
      one = later_on core s.one one three (later core s.one one a.other_kept a.other_spare a.other_history)
          (later_on core one two three (later core one two b.other_kept b.other_spare b.other_history) (later core two three d.other_kept d.other_spare d.other_history));
      other = later core s.other c.meet-3.new.one d.one_kept d.one_spare d.one_history;
      of_front = starts_on c.meet.new.one.seen one.seen three.seen a.other_told begins;
      of_back = starts_on c.meet-2.new.one.seen two.seen three.seen b.other_told d.other_history.begins;
      of_other = d.other_told;
      to_front = a.one_told;
      to_back = starts_on s.one.seen one.seen c.meet-2.new.one.seen a.other_history.begins b.one_told;
      to_other = starts_on s.one.seen two.seen c.meet-3.new.one.seen (starts_on s.one.seen one.seen two.seen a.other_history.begins b.other_history.begins) d.one_told;
      no_more_of_one = λ n h. c.no_seat_no_entry.ensures n h ∙ ap (own n) (ap (λ (z : TheCore). z.opening) one_core);
      no_more_of_other = λ n h. c.no_seat_no_entry-2.ensures n h ∙ ap (own n) (ap (λ (z : TheCore). z.opening) other_core);
    }

pub returns-clause-all : goal.returns-clause-all
returns-clause-all c =
    let core = c.args.core.now in
    let s = c.args.seats.now in
    let one = c.meet.new.other in
    let two = c.meet-2.new.other in
    let three = c.meet-3.new.other in
    let a = c.meet.ensures in
    let b = c.meet-2.ensures in
    let d = c.meet-3.ensures in
    same_all core s (record { front = c.meet.new.one; back = c.meet-2.new.one; one = three; other = c.meet-3.new.one }) c.requires
    (on s.front c.meet.new.one a.one_kept a.one_history.begins)
    (on s.back c.meet-2.new.one b.one_kept b.one_history.begins)
    (then s.one one three (on s.one one a.other_kept a.other_history.begins) (then one two three (on one two b.other_kept b.other_history.begins) (on two three d.other_kept d.other_history.begins)))
    (on s.other c.meet-3.new.one d.one_kept d.one_history.begins)
    (d.other_spare ∙ (b.other_spare ∙ a.other_spare))
    d.one_spare

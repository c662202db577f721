use Rattle.std.proofs.Common.{◌<◌, List, length, ap, sym, subst}
use Rattle.lsq.specs.declared.entry.Entry.{Entry}
use Rattle.lsq.specs.Entries.{HeldEntries, with_address}
use Rattle.lsq.proofs.Changes.{refill-changed}
use Rattle.lsq.proofs.queue.Queue.know.Goals as goal

pub returns : goal.returns
returns c =
    let holds : List Entry → HeldEntries = λ es. record { capacity = c.self.inside.capacity; entries = es } in
    let place = subst (λ (q : HeldEntries). c.args.at < length q.entries) (sym c.self.view_is) c.requires in
    rw (← c.self.view_is, c.as_mut_slice-entries.ensures.value)
    (ap holds (refill-changed (with_address c.args.address) c.self.inside.entries.items c.args.at _ place))

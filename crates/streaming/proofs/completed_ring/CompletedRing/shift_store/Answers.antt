use Rattle.std.proofs.Common.{◌+◌, drop, take, List, sym, ap, ◌∙◌}
use Rattle.std.proofs.lemmas.List.{drop-drop}
use Rattle.lsq.specs.declared.entry.Entry.{Entry}
use Rattle.streaming.specs.CompletedRing.{Contents}
use Rattle.streaming.specs.Slots.{ring_of}
use Rattle.streaming.proofs.completed_ring.CompletedRing.shift_store.Goals as goal

pub returns-then-self-len : goal.returns-then-self-len
returns-then-self-len c =
    let s = c.self.inside in
    let with : List Entry → Contents = λ l. record { completed = ring_of (take (s.last + 1) s.slots) s.oldest s.len; stores = l; oldest = s.oldest; size = (s.last + 1) } in
    ap with (sym (drop-drop 1 s.past s.stores.items)) ∙ ap (λ (r : Contents). record r { stores = drop 1 r.stores }) c.self.view_is

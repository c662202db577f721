use Rattle.std.proofs.Common.{◌≡◌, None, ap, sym, ◌∙◌}
use Rattle.inorder.specs.Tenants.{Operand}
use Rattle.inorder.specs.Unit.{older, value_of}
use Rattle.replay.specs.Shown.{shown, way_of}
use Rattle.replay.proofs.Dropped.{closed_nothing, known_delivered, nothing_there}
use Rattle.replay.proofs.Laid.{get_below}
use Rattle.replay.proofs.unit.Unit.is_closed.Goals as goal

pub returns-in-None : goal.returns-in-None
returns-in-None c = λ yes.
    let u = c.args.self.now in
    let hs = u.tenants.items in
    let t = c.args.tenant.now in
    let way = ap (λ (o : Operand). o.way) (sym c.operand-source.ensures) ∙ ap way_of c.in-Linked.is in
    let made =
    known_delivered hs u.tenants.from u.settled.upto c.args.who t c.args.k c.in-Linked.field-0 c.operand-source.result.creator
    c.value_before.result u.drops c.requires.kept c.requires.is way
    (ap (λ (o : Operand). o.value) (sym c.operand-source.ensures) ∙ c.in-None.is)
    (sym (ap (λ (o : Operand). o.creator) c.operand-source.ensures)) c.value_before.ensures in
    let none : c.value_before.result ≡ None = nothing_there c.value_before.result (sym c.is_nothing.ensures ∙ yes) in
    closed_nothing hs c.args.who t c.args.k c.in-Linked.field-0 (get_below hs c.args.who t c.requires.is) way
    (ap (λ (o : Operand). value_of (older (shown hs) c.args.who) o.creator) (sym c.operand-source.ensures) ∙ sym made ∙ none)

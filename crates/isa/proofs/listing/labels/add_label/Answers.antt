use Rattle.std.proofs.Common.{◌≡◌, None, ◌∙◌, sym, ap, refl}
use Rattle.std.specs.Prelude.{is_some}
use Rattle.isa.specs.Labels.{address_of}
use Rattle.isa.proofs.HeldLabels.{is_among, held_more}
use Rattle.isa.proofs.listing.labels.add_label.Goals as goal

pub returns-in-None-clause-ok : goal.returns-in-None-clause-ok
returns-in-None-clause-ok c = λ held are.
    let absent : address_of c.args.labels.now c.args.name.now ≡ None = sym (rw c.ending_of.ensures at c.in_ok-insert.ensures.old) ∙ c.in-None.is in
    let before = is_among c.args.labels.now c.insert.new.self c.args.name.now c.args.address held are in
    (sym before ∙ ap is_some absent, held_more c.args.labels.now c.insert.new.self c.args.name.now c.args.address held are absent (rw c.ending_of.ensures at c.in_ok-insert.ensures.updates))

pub returns-in-Some-clause-double : goal.returns-in-Some-clause-double
returns-in-Some-clause-double c = λ _. (
  refl,
  λ held are.
      let before = is_among c.args.labels.now c.insert.new.self c.args.name.now c.args.address held are in
      sym before ∙ ap is_some (sym (rw c.ending_of.ensures at c.in_ok-insert.ensures.old) ∙ c.in-Some.is),
)

use Rattle.std.proofs.Common.{◌≡◌, ℕ, arith, false, [], sym, ap, ◌∙◌, subst, rules}
use Rattle.atomic_table.specs.Table.{Me}
use Rattle.inorder.specs.History.{back}
use Rattle.ruu_words.specs.declared.rule.Draft.TheVariants.{Nothing}
use Rattle.ruu_words.specs.declared.rule.Setup.{Setup}
use Rattle.ruu_words.specs.declared.rule.Role.TheVariants.{Back}
use Rattle.ruu_words.specs.declared.rule.View.{View}
use Rattle.ruu_words.specs.Openings.{opening_of, sizes_of}
use Rattle.ruu_words.specs.Views.{nobody, view, without_first}
use Rattle.ruu_words.proofs.ViewCuts.{splits_back, splits_first}
use Rattle.station.specs.Seats.{IsSeated}
use Rattle.station.proofs.Renewing.{first_back}
use Rattle.station.proofs.SameUnit.{not_empty}
use Rattle.station.proofs.cores.Core.deal.Goals as goal

pub split_seat-back-requires : goal.split_seat-back-requires
split_seat-back-requires c =
    let key = c.args.table.shared.key in
    let v = c.requires.table.view in (
      search rules,
      not_empty c.args.setup.ring c.args.table.shared.table_id.words c.requires.core.wide c.requires.core.least,
      splits_back key.program (sizes_of key) (opening_of key) c.args.first.id c.args.first.me.0 (ap (λ m. m.0.role) v) (ap (λ m. m.0.spare) v),
    )

pub split_seat-unit-requires : goal.split_seat-unit-requires
split_seat-unit-requires c =
    let key = c.args.table.shared.key in
    let v = c.split_seat-back.ensures.2 in
    let spare = ap (λ m. m.0.spare) v ∙ ap (λ m. without_first m.0.spare) c.requires.table.view in (
      search rules,
      not_empty c.args.setup.ring c.args.table.shared.table_id.words c.requires.core.wide c.requires.core.least,
      splits_first key.program (sizes_of key) (opening_of key) c.split_seat-back.new.seat.id c.split_seat-back.new.seat.me.0 (ap (λ m. m.0.role) v) spare,
    )

pub first_seat-back_seat-requires-clause-seated : goal.first_seat-back_seat-requires-clause-seated
first_seat-back_seat-requires-clause-seated c =
    let setup = c.args.setup in
    let least = c.requires.core.least in
    let is : c.split_seat-back.result.me ≡ (view Back back nobody (opening_of setup) Nothing, []) =
    c.split_seat-back.ensures.4 ∙ ap (λ (m : Me ℕ View). (view Back m.0.spare.first nobody m.0.seen Nothing, [])) c.requires.table.view in
    let first = first_back setup.program (sizes_of setup) (opening_of setup) c.requires.opening (omega (arith, least)) in
    subst (λ (z : Setup × Me ℕ View). IsSeated z.0.program (sizes_of z.0) Back z.1.0.by 0 false z.1) (λ i. (sym c.requires.table.key_is i, sym is i)) first

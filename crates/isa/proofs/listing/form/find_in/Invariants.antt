use Rattle.std.proofs.Common.{◌≡◌, drop, map, Err}
use Rattle.std.specs.Prelude.{ok_or, if◌then◌else◌}
use Rattle.std.specs.List.{list_any, find}
use Rattle.isa.specs.declared.listing.fault.FaultKind.TheVariants.{BadOperands, UnknownOp}
use Rattle.isa.specs.Forms.{has_word, has_word_and_count, form_view}
use Rattle.isa.proofs.FormSearch.{among}
use Rattle.isa.proofs.listing.form.find_in.Given as goal

abbrev pub invariant-loop-form : goal.invariant-loop-form
invariant-loop-form l =
    (if list_any (has_word l.word) (map form_view l.table) then ok_or (find (has_word_and_count l.word l.count) (map form_view l.table)) BadOperands
    else Err UnknownOp) ≡ among l.fault l.word l.count (map form_view (drop l.form-index l.table))

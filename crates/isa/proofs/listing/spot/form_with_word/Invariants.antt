use Rattle.std.proofs.Common.{◌≡◌, drop, map}
use Rattle.std.specs.List.{find}
use Rattle.isa.specs.Forms.{has_word, form_view}
use Rattle.isa.proofs.listing.spot.form_with_word.Given as goal

abbrev pub invariant-loop-form : goal.invariant-loop-form
invariant-loop-form l =
    find (has_word l.word) (map form_view l.table) ≡ find (has_word l.word) (map form_view (drop l.form-index l.table))

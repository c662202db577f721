use Rattle.std.proofs.Common.{◌≡◌, ap, map}
use Rattle.isa.specs.Forms.{is_operation, form_with, forms, form_view}
use Rattle.isa.proofs.listing.form.form_of.Goals as goal

pub returns : goal.returns
unfolding is_operation form_with
returns c =
    let same : map form_view c.as_slice.result.now ≡ forms = ap (map form_view) c.as_slice.ensures in
    rw same at c.find_in.ensures

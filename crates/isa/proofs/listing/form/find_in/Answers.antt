use Rattle.std.proofs.Common.{sym, map}
use Rattle.isa.specs.Forms.{form_view}
use Rattle.isa.proofs.FormSearch.{among_all}
use Rattle.isa.proofs.listing.form.find_in.Goals as goal

pub loop-form-init : goal.loop-form-init
loop-form-init c = sym (among_all c.args.word.now c.args.count (map form_view c.args.table.now))

use Rattle.std.proofs.Common.{◌∙◌, ℕ, List, Bor, Option, ap}
use Rattle.std.specs.Option.{option_map}
use Rattle.lexical.specs.Line.{lines_left}
use Rattle.isa.specs.Listing.{Lines}
use Rattle.checker.proofs.LabelsNoted.{so_far_more}
use Rattle.checker.proofs.faults.labels_of.Goals as goal

abbrev left_of : Option (Bor (List ℕ)) → Lines
left_of rest = lines_left (option_map (λ t. t.now) rest)

pub loop-rest-preserved : goal.loop-rest-preserved
loop-rest-preserved c =
    so_far_more c.loop-rest.names c.note_labels.new.names _ _ c.next_line.result.0.now c.before_comment.result.now _ c.loop-rest.invariant
    (ap left_of c.in-Some.is ∙ c.next_line.ensures.lines) c.before_comment.ensures c.in_ok-note_labels.ensures.names

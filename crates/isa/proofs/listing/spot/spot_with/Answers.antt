use Rattle.std.proofs.Common.{◌∙◌, ◌≢◌, rules, sym}
use Rattle.std.specs.Option.{option_map}
use Rattle.lexical.specs.Operand.{operands_left}
use Rattle.isa.specs.declared.listing.fault.FaultKind.TheVariants.{UnknownOp}
use Rattle.isa.proofs.SpotSearch.{spot_of_other}
use Rattle.isa.proofs.listing.spot.spot_with.Goals as goal

pub returns-in-Err-2 : goal.returns-in-Err-2
returns-in-Err-2 c =
    let apart : c.in-Err.kind ≢ UnknownOp = search rules in
    spot_of_other c.args.word.now (operands_left (option_map (λ t. t.now) c.args.part)) c.count_operands-count.result c.most_operands.result c.in-Err.kind
    c.spot_of_count.result (sym c.same_word.ensures ∙ c.if-same_word.false) (sym c.same_word-2.ensures ∙ c.if-same_word-2.false)
    c.count_operands-count.ensures c.in-Err.ensures apart c.most_operands.ensures c.spot_of_count.ensures

use Rattle.std.proofs.Common.{◌≡◌, ℕ, List, [], Option, Bor, ◌∙◌, sym, ap}
use Rattle.std.specs.Option.{option_map}
use Rattle.std.proofs.lemmas.List.{append-nil}
use Rattle.lexical.specs.Operand.{operands, operands_left}
use Rattle.isa.specs.Statement.{statement, with_operands}
use Rattle.isa.proofs.Statements.{spot_is, statement_empty, statement_is}
use Rattle.isa.proofs.listing.statement.statement.Goals as goal

abbrev left_of : Option (Bor (List ℕ)) → List (List ℕ)
left_of rest = operands_left (option_map (λ t. t.now) rest)

pub returns-then-is_empty-clause-ok : goal.returns-then-is_empty-clause-ok
returns-then-is_empty-clause-ok c = record {
  bytes = [];
  grown = sym (append-nil _);
  is = statement_empty c.args.text.now (sym c.is_empty.ensures ∙ c.if-is_empty.true);
}

pub returns-in-Ok-clause-ok : goal.returns-in-Ok-clause-ok
returns-in-Ok-clause-ok c =
    let same : statement c.args.text.now ≡ with_operands c.cut_word.result.0.now (left_of c.operand_part-part.result) =
    statement_is c.args.text.now _ _ (sym c.is_empty.ensures ∙ c.if-is_empty.false) c.cut_word.ensures.word
    (c.operand_part-part.ensures ∙ ap operands c.cut_word.ensures.rest) in
    let added = c.in-Ok.ensures.ok in
    record { bytes = added.bytes; grown = added.grown; is = same ∙ added.is }

pub returns-in-Err-clause-fault : goal.returns-in-Err-clause-fault
returns-in-Err-clause-fault c = λ apart.
    let parts = c.operand_part-part.ensures ∙ ap operands c.cut_word.ensures.rest in
    let same : statement c.args.text.now ≡ with_operands c.cut_word.result.0.now (left_of c.operand_part-part.result) =
    statement_is c.args.text.now _ _ (sym c.is_empty.ensures ∙ c.if-is_empty.false) c.cut_word.ensures.word parts in
    (same ∙ c.in-Err.ensures.fault apart, c.spot_with-at.ensures ∙ spot_is c.args.text.now _ _ c.cut_word.ensures.word parts)

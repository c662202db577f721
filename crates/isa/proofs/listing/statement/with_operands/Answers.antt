use Rattle.std.proofs.Common.{◌≡◌, ℕ, List, Option, Bor, true, false, ◌∙◌, sym, replicate}
use Rattle.std.specs.Prelude.{codes}
use Rattle.std.specs.Option.{option_map}
use Rattle.std.proofs.lemmas.Result.{err_from_is_err_and}
use Rattle.std.proofs.lemmas.List.{append-nil}
use Rattle.lexical.specs.Operand.{operands_left}
use Rattle.isa.specs.Statement.{draft_view, is_word}
use Rattle.isa.proofs.Statements.{space_ok, space_fault, words_ok, words_fault, instruction_ok, instruction_fault}
use Rattle.isa.proofs.listing.statement.with_operands.Goals as goal

abbrev left_of : Option (Bor (List ℕ)) → List (List ℕ)
left_of rest = operands_left (option_map (λ t. t.now) rest)

pub returns-in_err-n-clause-fault : goal.returns-in_err-n-clause-fault
returns-in_err-n-clause-fault c =
    let p = err_from_is_err_and c.from_residual.result c.from_residual.ensures.1 in
    let is_space : is_word (codes ".space") c.args.word.now ≡ true = sym c.same_word.ensures ∙ c.if-same_word.true in
    rw (p.1, p.2) (λ _. space_fault c.args.word.now (left_of c.args.part) is_space _ c.in_err-n.ensures.value)

pub returns-then-same_word-clause-ok : goal.returns-then-same_word-clause-ok
returns-then-same_word-clause-ok c =
    let is_space : is_word (codes ".space") c.args.word.now ≡ true = sym c.same_word.ensures ∙ c.if-same_word.true in
    record {
      bytes = replicate c.in_ok-n.n 0;
      grown = c.in_ok-add_space.ensures.ok;
      is = space_ok c.args.word.now (left_of c.args.part) is_space _ c.in_ok-n.ensures.value;
    }

pub returns-in_err-add_words-clause-fault : goal.returns-in_err-add_words-clause-fault
returns-in_err-add_words-clause-fault c =
    let p = err_from_is_err_and c.from_residual-in_err-add_words.result c.from_residual-in_err-add_words.ensures.1 in
    let no_space : is_word (codes ".space") c.args.word.now ≡ false = sym c.same_word.ensures ∙ c.if-same_word.false in
    let is_words : is_word (codes ".word") c.args.word.now ≡ true = sym c.same_word-2.ensures ∙ c.if-same_word-2.true in
    rw (p.1, p.2) (λ apart. words_fault c.args.word.now (left_of c.args.part) no_space is_words _ (c.in_err-add_words.ensures.fault apart))

pub returns-then-same_word-2-clause-ok : goal.returns-then-same_word-2-clause-ok
returns-then-same_word-2-clause-ok c =
    let no_space : is_word (codes ".space") c.args.word.now ≡ false = sym c.same_word.ensures ∙ c.if-same_word.false in
    let is_words : is_word (codes ".word") c.args.word.now ≡ true = sym c.same_word-2.ensures ∙ c.if-same_word-2.true in
    let added = c.in_ok-add_words.ensures.ok in
    record {
      bytes = added.bytes;
      grown = added.grown;
      is = words_ok c.args.word.now (left_of c.args.part) no_space is_words _ added.is;
    }

pub returns-in_err-instruction-clause-fault : goal.returns-in_err-instruction-clause-fault
returns-in_err-instruction-clause-fault c =
    let p = err_from_is_err_and c.from_residual-in_err-instruction.result c.from_residual-in_err-instruction.ensures.1 in
    let no_space : is_word (codes ".space") c.args.word.now ≡ false = sym c.same_word.ensures ∙ c.if-same_word.false in
    let no_words : is_word (codes ".word") c.args.word.now ≡ false = sym c.same_word-2.ensures ∙ c.if-same_word-2.false in
    rw (p.1, p.2) (λ _. instruction_fault c.args.word.now (left_of c.args.part) no_space no_words _ c.in_err-instruction.ensures.err)

pub returns-clause-ok : goal.returns-clause-ok
returns-clause-ok c =
    let no_space : is_word (codes ".space") c.args.word.now ≡ false = sym c.same_word.ensures ∙ c.if-same_word.false in
    let no_words : is_word (codes ".word") c.args.word.now ≡ false = sym c.same_word-2.ensures ∙ c.if-same_word-2.false in
    record {
      bytes = _;
      grown = sym (append-nil _);
      is = instruction_ok c.args.word.now (left_of c.args.part) no_space no_words (draft_view c.instruction.new.draft) c.in_ok-instruction.ensures.ok;
    }

use Rattle.std.proofs.Common.{ℕ, List, Option, Bor, ◌∙◌, refl, sym, ap, arith}
use Rattle.std.specs.Option.{option_map}
use Rattle.std.proofs.lemmas.Result.{err_from_is_err_and}
use Rattle.isa.specs.Spots.{statement_spot}
use Rattle.isa.specs.Statement.{statement}
use Rattle.lexical.proofs.Lines.{code_given, code_none}
use Rattle.isa.proofs.NextLine.{fault_not_plain, fault_double, fault_statement, fault_long_memory, fault_long_code, reads_none, reads_some}
use Rattle.isa.proofs.listing.line.read_line.Goals as goal

abbrev text_of : Option (Bor (List ℕ)) → Option (List ℕ)
text_of source = option_map (λ t. t.now) source

pub returns-in_default-clause-fault : goal.returns-in_default-clause-fault
returns-in_default-clause-fault c = λ _ before line given is.
    rw (c.from.ensures.0, c.from.ensures.1)
    (fault_not_plain before line _ _ _ _ _ is refl (code_none line (sym given ∙ ap text_of c.in_default.is)))

pub returns-in_err-rest-clause-fault : goal.returns-in_err-rest-clause-fault
returns-in_err-rest-clause-fault c =
    let p = err_from_is_err_and c.from_residual.result c.from_residual.ensures.1 in
    rw (p.1, p.2) (λ apart before line given is.
    let code = code_given line _ (sym given ∙ ap text_of c.in-Some.is) in
    let twice = c.in_err-rest.ensures.double apart in
    rw twice.0 (fault_double before _ _ _ _ _ _ is code.0 code.1 _ twice.1))

pub returns-in_err-found-clause-fault : goal.returns-in_err-found-clause-fault
returns-in_err-found-clause-fault c =
    let p = err_from_is_err_and c.from_residual-in_err-found.result c.from_residual-in_err-found.ensures.1 in
    rw (p.1, p.2) (λ apart before line given is.
    let code = code_given line _ (sym given ∙ ap text_of c.in-Some.is) in
    let refused = c.in_err-found.ensures.fault apart in
    let found = fault_statement before _ _ _ _ _ _ is code.0 code.1 _ (omega (arith, c.len-index.ensures)) c.add_labels.new.labels c.in_ok-rest.ensures.added _
    (ap statement (sym c.in_ok-rest.ensures.ok) ∙ refused.0) in
    (found.0, refused.1 ∙ ap statement_spot c.in_ok-rest.ensures.ok ∙ found.1))

pub returns-then-len-gt-MOST_BYTES-clause-fault : goal.returns-then-len-gt-MOST_BYTES-clause-fault
returns-then-len-gt-MOST_BYTES-clause-fault c = λ _ before line given is.
    let code = code_given line _ (sym given ∙ ap text_of c.in-Some.is) in
    let added = rw c.in_ok-rest.ensures.ok at c.in_ok-found.ensures.ok in
    let long = c.from-then-len-gt-MOST_BYTES.ensures in
    rw (long.0, long.1)
    (fault_long_memory before _ _ _ _ _ _ is code.0 code.1 _
    (omega (arith, c.len-index.ensures)) c.add_labels.new.labels c.in_ok-rest.ensures.added _ _ added (omega arith))

pub returns-then-not-found-clause-ok : goal.returns-then-not-found-clause-ok
returns-then-not-found-clause-ok c = λ before line given n is.
    let code = code_given line _ (sym given ∙ ap text_of c.in-Some.is) in
    let added = rw (c.in_ok-rest.ensures.ok, c.if-not-found.true) at c.in_ok-found.ensures.ok in
    reads_none before _ _ _ _ _ _ is code.0 code.1 _
    (omega (arith, c.len-index.ensures)) c.add_labels.new.labels c.in_ok-rest.ensures.added _ added (omega arith) (omega arith)

pub returns-in_err-add_instruction-clause-fault : goal.returns-in_err-add_instruction-clause-fault
returns-in_err-add_instruction-clause-fault c =
    let p = err_from_is_err_and c.from_residual-in_err-add_instruction.result c.from_residual-in_err-add_instruction.ensures.1 in
    rw (p.1, p.2.0, p.2.1) (λ apart before line given is.
    let code = code_given line _ (sym given ∙ ap text_of c.in-Some.is) in
    let added = rw (c.in_ok-rest.ensures.ok, c.if-not-found.false) at c.in_ok-found.ensures.ok in
    let full = c.in_err-add_instruction.ensures.fault apart in
    rw full.0
    (fault_long_code before _ _ _ _ _ _ is code.0 code.1 _
    (omega (arith, c.len-index.ensures)) c.add_labels.new.labels c.in_ok-rest.ensures.added _ _ added (omega (arith, full.1))))

pub returns-clause-ok : goal.returns-clause-ok
returns-clause-ok c = λ before line given n is.
    let told = c.in_ok-add_instruction.ensures in
    let code = code_given line _ (sym given ∙ ap text_of c.in-Some.is) in
    let added = rw (c.in_ok-rest.ensures.ok, c.if-not-found.false) at c.in_ok-found.ensures.ok in
    rw (told.ok, told.target)
    (reads_some before _ _ _ _ _ _ is code.0 code.1 _
    (omega (arith, c.len-index.ensures)) c.add_labels.new.labels c.in_ok-rest.ensures.added _ _ _ (sym n) added (omega (arith, told.room, c.len-index.ensures)) (omega arith))

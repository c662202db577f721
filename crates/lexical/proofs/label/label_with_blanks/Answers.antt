use Rattle.std.proofs.Common.{◌≡◌, ◌∷◌, ℕ, List, Option, Bor, sym, ◌∙◌, ap, true, false}
use Rattle.std.specs.Option.{option_map}
use Rattle.lexical.specs.Blank.{trim}
use Rattle.lexical.specs.Cut.{parts_left}
use Rattle.lexical.specs.Name.{is_name}
use Rattle.lexical.specs.Label.{labels_of}
use Rattle.lexical.proofs.Labels.{labels_next, labels_none, labels_whole}
use Rattle.lexical.proofs.label.label_with_blanks.Goals as goal

abbrev parts : List ℕ → Option (Bor (List ℕ)) → List (List ℕ)
parts front rest = front ∷ parts_left 58 (option_map (λ t. t.now) rest)

pub returns-then-is_name-clause-label : goal.returns-then-is_name-clause-label
returns-then-is_name-clause-label c =
    let name : is_name (trim c.cut.result.0.now) ≡ true = ap is_name (sym c.trim-name.ensures) ∙ sym c.is_name.ensures ∙ c.if-is_name.true in
    (labels_next c.args.code.now c.cut.result.0.now c.in_ok-after.after.now (c.cut.ensures.parts ∙ ap (parts c.cut.result.0.now) c.in_ok-after.was) name).0
    ∙ ap (λ (n : List ℕ). n ∷ labels_of c.in_ok-after.after.now) (sym c.trim-name.ensures)

pub returns-then-is_name-clause-statement : goal.returns-then-is_name-clause-statement
returns-then-is_name-clause-statement c =
    let name : is_name (trim c.cut.result.0.now) ≡ true = ap is_name (sym c.trim-name.ensures) ∙ sym c.is_name.ensures ∙ c.if-is_name.true in
    (labels_next c.args.code.now c.cut.result.0.now c.in_ok-after.after.now (c.cut.ensures.parts ∙ ap (parts c.cut.result.0.now) c.in_ok-after.was) name).1

pub returns-else-is_name-clause-no_label : goal.returns-else-is_name-clause-no_label
returns-else-is_name-clause-no_label c =
    let name : is_name (trim c.cut.result.0.now) ≡ false = ap is_name (sym c.trim-name.ensures) ∙ sym c.is_name.ensures ∙ c.if-is_name.false in
    (labels_none c.args.code.now c.cut.result.0.now c.in_ok-after.after.now (c.cut.ensures.parts ∙ ap (parts c.cut.result.0.now) c.in_ok-after.was) name).0

pub returns-else-is_name-clause-all_statement : goal.returns-else-is_name-clause-all_statement
returns-else-is_name-clause-all_statement c =
    let name : is_name (trim c.cut.result.0.now) ≡ false = ap is_name (sym c.trim-name.ensures) ∙ sym c.is_name.ensures ∙ c.if-is_name.false in
    (labels_none c.args.code.now c.cut.result.0.now c.in_ok-after.after.now (c.cut.ensures.parts ∙ ap (parts c.cut.result.0.now) c.in_ok-after.was) name).1

pub returns-in_err-after-clause-no_label : goal.returns-in_err-after-clause-no_label
returns-in_err-after-clause-no_label c =
    rw c.from_residual.ensures (labels_whole c.args.code.now c.cut.result.0.now (c.cut.ensures.parts ∙ ap (parts c.cut.result.0.now) c.in_err-after.was)
    (rw c.in_err-after.was at c.cut.ensures.whole)).0

pub returns-in_err-after-clause-all_statement : goal.returns-in_err-after-clause-all_statement
returns-in_err-after-clause-all_statement c =
    rw c.from_residual.ensures (labels_whole c.args.code.now c.cut.result.0.now (c.cut.ensures.parts ∙ ap (parts c.cut.result.0.now) c.in_err-after.was)
    (rw c.in_err-after.was at c.cut.ensures.whole)).1

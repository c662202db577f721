use Rattle.std.proofs.Common.{◌≡◌, ◌≢◌, ◌∙◌, inl, inr, [], is_none, false, true, IfNone, IfSome, refl, sym, ap, subst, arith}
use Rattle.std.proofs.lemmas.Grind.{common_steps}
use Rattle.session.specs.declared.reading.Line.TheVariants.{Wants}
use Rattle.session.specs.declared.verbs.Verb.{Verb}
use Rattle.session.specs.Commands.{verb_name}
use Rattle.session.specs.Lines.{line_by, line_or, times_named}
use Rattle.session.specs.Tokens.{Texts}
use Rattle.session.proofs.reading.line_in.Goals as goal

pub returns-then-is_empty : goal.returns-then-is_empty
returns-then-is_empty c =
    let tokens = c.tokens_in-tokens in
    let none : tokens.result.verb.now ≡ [] = grind (arith, common_steps) in
    inl (record { none = sym (ap (λ (t : Texts). t.verb) tokens.ensures) ∙ none; is = refl })

pub returns-in_default : goal.returns-in_default
returns-in_default c =
    let tokens = c.tokens_in-tokens in
    let here = ap (λ (t : Texts). t.verb) tokens.ensures in
    let some : tokens.result.verb.now ≢ [] = grind (arith, common_steps) in
    let none = subst (λ r. IfNone r ((v : Verb) → tokens.result.verb.now ≢ verb_name v)) c.in_default.is c.verb_in.ensures.none in
    inr (inl (record { some = λ e. some (here ∙ e); none = λ v e. none v (here ∙ e); is = refl }))

pub returns-then-is_none : goal.returns-then-is_none
returns-then-is_none c =
    let tokens = c.tokens_in-tokens in
    let named = subst (λ r. IfSome r (λ v. tokens.result.verb.now ≡ verb_name v)) c.in-Some.is c.verb_in.ensures.some in
    let many : is_none c.times_named.result ≡ true = grind (arith, common_steps, c.if-is_none.true) in
    inr (inr (inl (record {
      verb = c.in-Some.verb;
      named = sym (ap (λ (t : Texts). t.verb) tokens.ensures) ∙ named;
      counted = ap is_none (ap times_named (sym tokens.ensures) ∙ sym c.times_named.ensures) ∙ many;
      is = refl;
    })))

pub returns-in-Some-line_by : goal.returns-in-Some-line_by
returns-in-Some-line_by c =
    let tokens = c.tokens_in-tokens in
    let verb = c.in-Some.verb in
    let named = subst (λ r. IfSome r (λ v. tokens.result.verb.now ≡ verb_name v)) c.in-Some.is c.verb_in.ensures.some in
    let few : is_none c.times_named.result ≡ false = grind (arith, common_steps, c.if-is_none.false) in
    inr (inr (inr (record {
      verb = verb;
      named = sym (ap (λ (t : Texts). t.verb) tokens.ensures) ∙ named;
      counted = ap is_none (ap times_named (sym tokens.ensures) ∙ sym c.times_named.ensures) ∙ few;
      is = sym (ap (line_or (Wants verb)) (ap (line_by verb) (sym tokens.ensures) ∙ (sym c.line_by.ensures ∙ c.in-Some-line_by.is)));
    })))

pub returns-in-None : goal.returns-in-None
returns-in-None c =
    let tokens = c.tokens_in-tokens in
    let verb = c.in-Some.verb in
    let named = subst (λ r. IfSome r (λ v. tokens.result.verb.now ≡ verb_name v)) c.in-Some.is c.verb_in.ensures.some in
    let few : is_none c.times_named.result ≡ false = grind (arith, common_steps, c.if-is_none.false) in
    inr (inr (inr (record {
      verb = verb;
      named = sym (ap (λ (t : Texts). t.verb) tokens.ensures) ∙ named;
      counted = ap is_none (ap times_named (sym tokens.ensures) ∙ sym c.times_named.ensures) ∙ few;
      is = sym (ap (line_or (Wants verb)) (ap (line_by verb) (sym tokens.ensures) ∙ (sym c.line_by.ensures ∙ c.in-None.is)));
    })))

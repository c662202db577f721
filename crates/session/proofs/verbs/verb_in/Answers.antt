use Rattle.std.proofs.Common.{◌≢◌, List, IfNone, Option, None, Some, get_or, ap, subst, sym, ◌∙◌, ℕ, ◌<◌, length}
use Rattle.session.specs.Commands.{verb_name}
use Rattle.session.specs.declared.verbs.Verb.{Verb}
use Rattle.session.specs.declared.verbs.Verb.TheVariants.{Turn}
use Rattle.session.proofs.EachVerb.{place_of, verbs}
use Rattle.session.proofs.verbs.verb_in.Goals as goal

each : (r : Option Verb) (text : List ℕ) → IfNone r ((k : ℕ) → k < length verbs → text ≢ verb_name (get_or verbs k Turn)) → IfNone r ((v : Verb) → text ≢ verb_name v)
each None text none = λ v e. let place = place_of v in none place.0 place.1 (e ∙ ap verb_name (sym place.2))
each (Some v) text none = tt

pub returns-clause-none : goal.returns-clause-none
returns-clause-none c =
    let text = c.args.word.now in
    let none = subst (λ (vs : List Verb). IfNone c.verb_among.result ((k : ℕ) → k < length vs → text ≢ verb_name (get_or vs k Turn))) c.as_slice.ensures c.verb_among.ensures.none in
    each c.verb_among.result text none

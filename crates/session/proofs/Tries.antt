-- Commands that are tried one after another.
use Rattle.std.proofs.Common.{◌≡◌, ℕ, List, [], ◌∷◌, ◌++◌, Result, Ok, Err, OnOk, inl, refl, sym, ap, ◌∙◌, subst, append_assoc}
use Rattle.std.proofs.lemmas.List.{append-nil}
use Rattle.session.specs.declared.commands.Command.{Command}
use Rattle.session.specs.declared.replies.Reply.{Reply}
use Rattle.session.specs.Sessions.{IsReplied, TheSession}
use Rattle.session.specs.Turns.{AreTried, HasTried, IsTried}

pub tried_none : (number : ℕ) (s : TheSession) (text : List ℕ) → HasTried number s s text text
tried_none number s text = record { commands = []; text = []; tried = (refl, refl); written = sym (append-nil text) }

pub tried_start : (number : ℕ) (s : TheSession) (text : List ℕ) → text ≡ [] → HasTried number s s [] text
tried_start number s text none = record { commands = []; text = []; tried = (refl, refl); written = none }

pub tried_one : (number : ℕ) (a b : TheSession) (command : Command) (before after : List ℕ) → IsTried number a b command before after → HasTried number a b before after
tried_one number a b command before after one = record {
  commands = command ∷ [];
  text = one.told;
  tried = (a, [], (refl, refl), record { reply = one.reply; told = one.told; replied = one.replied; tells = one.tells; written = refl });
  written = one.written;
}

are_on : (number : ℕ) (a b c : TheSession) (first more : List Command) (x y : List ℕ) →
    AreTried number a first x b → AreTried number b more y c → AreTried number a (more ++ first) (x ++ y) c
are_on number a b c first [] x y one (none, same) =
    subst (λ (z : TheSession × List ℕ). AreTried number a first z.1 z.0) (λ i. (sym same i, (sym (append-nil x) ∙ ap (λ ys. x ++ ys) (sym none)) i)) one
are_on number a b c first (command ∷ earlier) x y one (middle, before, rest, last) = (
  middle,
  x ++ before,
  are_on number a b middle first earlier x before one rest,
  record {
    reply = last.reply;
    told = last.told;
    replied = last.replied;
    tells = last.tells;
    written = ap (λ ys. x ++ ys) last.written ∙ sym (append_assoc x before last.told);
  },
)

pub tried_on : (number : ℕ) (a b c : TheSession) (x y z : List ℕ) → HasTried number a b x y → HasTried number b c y z → HasTried number a c x z
tried_on number a b c x y z one more = record {
  commands = more.commands ++ one.commands;
  text = one.text ++ more.text;
  tried = are_on number a b c one.commands more.commands one.text more.text one.tried more.tried;
  written = more.written ∙ (ap (λ xs. xs ++ more.text) one.written ∙ append_assoc x one.text more.text);
}

-- A command of which nothing is told
pub untold : (number : ℕ) (a b : TheSession) (command : Command) (reply : Reply) (text : List ℕ) → IsReplied a b command reply → IsTried number a b command text text
untold number a b command reply text replied =
    record { reply = reply; told = []; replied = replied; tells = inl refl; written = sym (append-nil text) }

-- And then others
pub tried_behind : {T E : Type 0} (number : ℕ) (a b c : TheSession) (command : Command) (reply : Reply) (before after : List ℕ) (r : Result T E) →
    IsReplied a b command reply → OnOk r (HasTried number b c before after) → OnOk r (HasTried number a c before after)
tried_behind number a b c command reply before after (Ok x) replied more =
    tried_on number a b c before before after (tried_one number a b command before before (untold number a b command reply before replied)) more
tried_behind number a b c command reply before after (Err e) replied more = tt

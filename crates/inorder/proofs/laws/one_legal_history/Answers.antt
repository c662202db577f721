-- Each entry of a legal history was allowed after those before it, and the unit at each point is
-- reached by allowed steps.
use Rattle.std.proofs.Common.{List, [], ◌∷◌, ◌++◌, subst}
use Rattle.instructions.specs.Programs.{Program}
use Rattle.inorder.specs.declared.history.Entry.{Entry}
use Rattle.inorder.specs.History.{IsLegal, MayAdd, unit_of}
use Rattle.inorder.specs.Unit.{Sizes}
use Rattle.inorder.proofs.Follows.{in_order}
use Rattle.inorder.proofs.Histories.{adds_on, legal_before, unit_sound}
use Rattle.inorder.proofs.laws.one_legal_history.Goals as goal

legal_at : (P : Program) (C : Sizes) (later before : List Entry) (e : Entry) →
    IsLegal P C (later ++ e ∷ before) → MayAdd P C before e.by e.event
legal_at P C [] before e l = l.1
legal_at P C (x ∷ later) before e l = legal_at P C later before e l.0

pub returns-clause-call : goal.returns-clause-call
returns-clause-call c = λ p sizes by old new events adds.
    record {
      goes_on = adds.begins;
      allowed = λ later before e is.
          legal_at p sizes later before e (subst (λ h. IsLegal p sizes h) is adds.legal);
      in_order = λ later point is.
          in_order p (unit_of p sizes point).tenants
          (unit_sound p sizes point
          (legal_before p sizes later point (subst (λ h. IsLegal p sizes h) is adds.legal)));
      mine = adds.mine;
    }

pub returns-clause-calls : goal.returns-clause-calls
returns-clause-calls c = λ p sizes by old between new first second a b.
    adds_on p sizes by old between new first second a b

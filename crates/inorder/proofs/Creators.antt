-- Creators are older than the tenants whose sources they give.
use Rattle.std.proofs.Common.{◌≡◌, ◌⊎◌, ℕ, ◌<◌, Bool, true, false, cond, eqb, List, [], ◌∷◌, length, Some, None, refl, sym, ap, ◌∙◌, subst, inl, inr, ⊎_elim, eqb-true}
use Rattle.instructions.specs.Instruction.{first_of, second_of}
use Rattle.instructions.specs.Programs.{Program, instr_of}
use Rattle.inorder.specs.declared.history.Source.{Source}
use Rattle.inorder.specs.declared.history.Source.TheVariants.{First, Second}
use Rattle.inorder.specs.declared.history.Step.{Step}
use Rattle.inorder.specs.declared.history.Step.TheVariants.{Let, On, Renew}
use Rattle.inorder.specs.declared.history.Supply.{Supply}
use Rattle.inorder.specs.Legal.{Allowed, AreAllowed, Taken, applied, reached}
use Rattle.inorder.specs.Steps.{new_tenant}
use Rattle.inorder.specs.Tenants.{Tenant, operand}
use Rattle.inorder.specs.Unit.{Sizes, UpdateUnit, at, can_be_written, creator, last_writer, value_made, older, value_of}
use Rattle.inorder.proofs.Basics.{Below, last_writer_below}
use Rattle.inorder.proofs.Ends.{at_older}
use Rattle.inorder.proofs.Kept.{sound}
use Rattle.inorder.proofs.Moves.{came}
use Rattle.inorder.proofs.Positions.{at_below}
use Rattle.inorder.proofs.Sound.{IsSound}
use Rattle.inorder.proofs.Theorem.LetKept.{let_creator}

-- a tenant is the new one, or was there before
pub at_cases : (t : Tenant) (us : List Tenant) (q : ℕ) (u : Tenant) → at (t ∷ us) q ≡ Some u → (at us q ≡ Some u) ⊎ ((q ≡ length us) × (t ≡ u))
at_cases t us q u h = go (eqb q (length us)) refl
  where
    go : (b : Bool) → eqb q (length us) ≡ b → (at us q ≡ Some u) ⊎ ((q ≡ length us) × (t ≡ u))
    go true e = let is : Some t ≡ Some u = ap (λ b. cond b (Some t) (at us q)) (sym e) ∙ h in inr (eqb-true q (length us) e, cc is)
    go false e = inl (ap (λ b. cond b (Some t) (at us q)) (sym e) ∙ h)

creator_below : (P : Program) (ts : List Tenant) (r : ℕ) → Below (creator P ts r) (length ts)
creator_below P ts r = go (can_be_written r) (last_writer_below P ts r)
  where
    go : (b : Bool) → Below (last_writer P ts r) (length ts) → Below (cond b (last_writer P ts r) None) (length ts)
    go true h = h
    go false h = tt

-- each creator is older
abbrev pub AreOlder : List Tenant → Type 0
AreOlder us = (r : ℕ) (t : Tenant) (k : Source) (q : ℕ) → at us r ≡ Some t → (operand k t).creator ≡ Some q → q < r

pub new_older : (P : Program) (C : Sizes) (U : UpdateUnit) (index predicted : ℕ) (first second : Supply) (k : Source) (q : ℕ) →
    (operand k (new_tenant P C U index predicted first second)).creator ≡ Some q → q < length U.tenants
new_older P C U index predicted first second First q e =
    subst (λ z. Below z (length U.tenants)) (sym (let_creator (creator P U.tenants (first_of (instr_of P index))) first) ∙ e)
    (creator_below P U.tenants (first_of (instr_of P index)))
new_older P C U index predicted first second Second q e =
    subst (λ z. Below z (length U.tenants)) (sym (let_creator (creator P U.tenants (second_of (instr_of P index))) second) ∙ e)
    (creator_below P U.tenants (second_of (instr_of P index)))

older_kept : (P : Program) (C : Sizes) (U : UpdateUnit) (by : ℕ) (s : Step) → Allowed P C U by s → IsSound P U.tenants → AreOlder U.tenants → AreOlder (applied P C U by s).tenants
older_kept P C U by (Let index predicted first second) a ok o r t k q is e = ⊎_elim
    (λ was. o r t k q was e)
    (λ (new : (r ≡ length U.tenants) × (new_tenant P C U index predicted first second ≡ t)). subst (λ z. q < z) (sym new.0)
    (new_older P C U index predicted first second k q (ap (λ x. (operand k x).creator) new.1 ∙ e)))
    (at_cases (new_tenant P C U index predicted first second) U.tenants r t is)
older_kept P C U by (On p act) a ok o r t k q is e = let was = came P C U by p act a ok r t is in o r was.tenant k q was.is (sym (was.goes.creator k) ∙ e)
older_kept P C U by Renew a ok o r t k q is e = o r t k q is e

pub are_older : (P : Program) (C : Sizes) (ss : List Taken) → AreAllowed P C ss → AreOlder (reached P C ss).tenants
are_older P C [] a r t k q is e = absurd (cc)
are_older P C (s ∷ ss) a r t k q is e = older_kept P C (reached P C ss) s.by s.step a.1 (sound P C ss a.0) (are_older P C ss a.0) r t k q is e

-- what the creator has made is what the source is worth
pub value_by : (P : Program) (C : Sizes) (ss : List Taken) → AreAllowed P C ss → (r q v : ℕ) (k : Source) (t u : Tenant) → at (reached P C ss).tenants r ≡ Some t → (operand k t).creator ≡ Some q →
    at (reached P C ss).tenants q ≡ Some u → u.made ≡ Some v
    → value_of (older (reached P C ss).tenants r) (operand k t).creator ≡ Some v
value_by P C ss a r q v k t u is e there made =
    let us = (reached P C ss).tenants in
    ap (value_of (older us r)) e ∙ (ap value_made (at_older us r q u (at_below us r t is) (are_older P C ss a r t k q is e) there) ∙ made)

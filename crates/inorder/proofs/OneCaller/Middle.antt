-- A tenant in the midst of a unit, and an act on it.
use Rattle.std.proofs.Common.{◌≡◌, ℕ, ◌<◌, false, cond, eqb, List, [], ◌∷◌, ◌++◌, length, Some, sym, ap, ◌∙◌, subst, arith, length-append}
use Rattle.std.specs.List.{AllByRecursion}
use Rattle.instructions.specs.Programs.{Program}
use Rattle.inorder.specs.declared.history.Act.{Act}
use Rattle.inorder.specs.declared.history.Step.TheVariants.{On}
use Rattle.inorder.specs.Legal.{Allowed, May, applied, change_at, changed}
use Rattle.inorder.specs.Tenants.{Tenant}
use Rattle.inorder.specs.Unit.{Sizes, UpdateUnit, at, older, replaced, younger}
use Rattle.inorder.proofs.Basics.{eqb_less, eqb_self}
use Rattle.inorder.proofs.Sound.{IsSound}
use Rattle.inorder.specs.Moves.{with_tenants}
use Rattle.inorder.specs.Quiescent.{AreQuiescent}

past : (ys : List Tenant) (t : Tenant) (ts : List Tenant) → eqb (length ts) (length (ys ++ t ∷ ts)) ≡ false
past ys t ts = let less : length ts < length (ys ++ t ∷ ts) = omega (arith, length-append ys (t ∷ ts)) in eqb_less (length ts) (length (ys ++ t ∷ ts)) less

pub at_middle : (ys : List Tenant) (t : Tenant) (ts : List Tenant) → at (ys ++ t ∷ ts) (length ts) ≡ Some t
at_middle [] t ts = ap (λ b. cond b (Some t) (at ts (length ts))) (eqb_self (length ts))
at_middle (y ∷ ys) t ts = ap (λ b. cond b (Some y) (at (ys ++ t ∷ ts) (length ts))) (past ys t ts) ∙ at_middle ys t ts

pub older_middle : (ys : List Tenant) (t : Tenant) (ts : List Tenant) → older (ys ++ t ∷ ts) (length ts) ≡ ts
older_middle [] t ts = ap (λ b. cond b ts (older ts (length ts))) (eqb_self (length ts))
older_middle (y ∷ ys) t ts =
    ap (λ b. cond b (ys ++ t ∷ ts) (older (ys ++ t ∷ ts) (length ts))) (past ys t ts) ∙ older_middle ys t ts

pub younger_middle : (ys : List Tenant) (t : Tenant) (ts : List Tenant) → younger (ys ++ t ∷ ts) (length ts) ≡ ys
younger_middle [] t ts = ap (λ b. cond b [] (t ∷ younger ts (length ts))) (eqb_self (length ts))
younger_middle (y ∷ ys) t ts =
    ap (λ b. cond b [] (y ∷ younger (ys ++ t ∷ ts) (length ts))) (past ys t ts) ∙ ap (λ x. y ∷ x) (younger_middle ys t ts)

replaced_middle : (ys : List Tenant) (t : Tenant) (ts : List Tenant) (u : Tenant) → replaced (ys ++ t ∷ ts) (length ts) u ≡ ys ++ u ∷ ts
replaced_middle [] t ts u = ap (λ b. cond b (u ∷ ts) (t ∷ replaced ts (length ts) u)) (eqb_self (length ts))
replaced_middle (y ∷ ys) t ts u =
    ap (λ b. cond b (u ∷ (ys ++ t ∷ ts)) (y ∷ replaced (ys ++ t ∷ ts) (length ts) u)) (past ys t ts)
    ∙ ap (λ x. y ∷ x) (replaced_middle ys t ts u)

pub allowed_middle : (P : Program) (C : Sizes) (by : ℕ) (U : UpdateUnit) (act : Act) (ys : List Tenant) (t : Tenant) (ts : List Tenant) → May P by act ys t ts →
    Allowed P C (with_tenants U (ys ++ t ∷ ts)) by (On (length ts) act)
allowed_middle P C by U act ys t ts m =
    record {
      tenant = t;
      is = at_middle ys t ts;
      may = subst (λ x. May P by act x t (older (ys ++ t ∷ ts) (length ts))) (sym (younger_middle ys t ts)) (subst (May P by act ys t) (sym (older_middle ys t ts)) m);
    }

pub changed_middle : (P : Program) (C : Sizes) (by : ℕ) (U : UpdateUnit) (act : Act) (ys : List Tenant) (t : Tenant) (ts : List Tenant) →
    applied P C (with_tenants U (ys ++ t ∷ ts)) by (On (length ts) act) ≡ with_tenants U (ys ++ changed P by act t ts ∷ ts)
changed_middle P C by U act ys t ts = ap (with_tenants U) list
  where
    list : change_at P (ys ++ t ∷ ts) by (length ts) act (at (ys ++ t ∷ ts) (length ts)) ≡ ys ++ changed P by act t ts ∷ ts
    list =
        ap (change_at P (ys ++ t ∷ ts) by (length ts) act) (at_middle ys t ts)
        ∙ ap (λ x. replaced (ys ++ t ∷ ts) (length ts) (changed P by act t x)) (older_middle ys t ts)
        ∙ replaced_middle ys t ts (changed P by act t ts)

pub still_from : (ys us : List Tenant) → AreQuiescent (ys ++ us) → AreQuiescent us
still_from [] us h = h
still_from (y ∷ ys) us h = still_from ys us h.1

pub all_from : (Q : Tenant → Type 0) (ys us : List Tenant) → AllByRecursion Q (ys ++ us) → AllByRecursion Q us
all_from Q [] us h = h
all_from Q (y ∷ ys) us h = all_from Q ys us h.1

pub sound_from : (P : Program) (ys us : List Tenant) → IsSound P (ys ++ us) → IsSound P us
sound_from P [] us s = s
sound_from P (y ∷ ys) us s = sound_from P ys us s.1

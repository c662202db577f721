-- Who has left a station, step by step.
use Rattle.std.proofs.lemmas.Grind.{common_steps}
use Rattle.std.proofs.Common.{◌≡◌, ◌≢◌, ℕ, zero, suc, ◌<◌, Bool, cond, eqb, List, [], ◌∷◌, ◌++◌, length, Option, Some, None, refl, ap, ◌∙◌, arith}
use Rattle.std.proofs.Common.{eq-eqb, ne_eqb, eqb-true, true≢false}
use Rattle.std.specs.Prelude.{slice_get, slice_set}
use Rattle.std.specs.List.{AllByRecursion}
use Rattle.instructions.specs.Instruction.{fixed_next}
use Rattle.instructions.specs.Programs.{Program}
use Rattle.inorder.specs.Tenants.{Live, Squashed, Standing, Tenant, instr}
use Rattle.inorder.proofs.OneCaller.Alike.{AreAlike, IsAlike}
use Rattle.inorder.proofs.OneCaller.Recovery.{gone, gone_by, mended_to}
use Rattle.instructions.specs.declared.guessing.Leaver.{Leaver}
use Rattle.one_thread.specs.Leavers.{leaver, told_by, told_of}

pub told_live : (P : Program) (t : Tenant) → t.standing ≡ Live → told_of P t ≡ None
told_live P t e = ap (λ s. told_by s t.fate (fixed_next (instr P t) t.half t.pc) t.pc) e

told_squashed : (P : Program) (t : Tenant) → t.standing ≡ Squashed → told_of P t ≡ None
told_squashed P t e = ap (λ s. told_by s t.fate (fixed_next (instr P t) t.half t.pc) t.pc) e

told_alike : (P : Program) (t u : Tenant) → IsAlike t u → told_of P u ≡ told_of P t
told_alike P t u a = grind (arith, common_steps)

pub leaver_alike : (P : Program) (s : ℕ) (ts us : List Tenant) → AreAlike ts us → leaver P us s ≡ leaver P ts s
leaver_alike P s [] [] a = refl
leaver_alike P s [] (u ∷ us) a = absurd a
leaver_alike P s (t ∷ ts) [] a = absurd a
leaver_alike P s (t ∷ ts) (u ∷ us) a = grind (arith, common_steps, told_alike P t u a.0, leaver_alike P s ts us a.1)

-- one tenant changes, and there is as much to tell of it
pub leaver_put : (P : Program) (s : ℕ) (ys : List Tenant) (t u : Tenant) (ts : List Tenant) → u.station ≡ t.station → told_of P u ≡ told_of P t → leaver P (ys ++ u ∷ ts) s ≡ leaver P (ys ++ t ∷ ts) s
leaver_put P s [] t u ts e f = ap (λ n. cond (eqb n s) (told_of P u) (leaver P ts s)) e ∙ ap (λ o. cond (eqb t.station s) o (leaver P ts s)) f
leaver_put P s (y ∷ ys) t u ts e f = ap (cond (eqb y.station s) (told_of P y)) (leaver_put P s ys t u ts e f)

-- those that are squashed have nothing to tell
leaver_gone : (P : Program) (s : ℕ) (ys us : List Tenant) → leaver P (gone ys ++ us) s ≡ leaver P (ys ++ us) s
leaver_gone P s [] us = refl
leaver_gone P s (y ∷ ys) us =
    ap (cond (eqb (gone_by y.standing y).station s) (told_of P (gone_by y.standing y))) (leaver_gone P s ys us) ∙ go y.standing refl
  where
    go : (st : Standing) → y.standing ≡ st → cond (eqb (gone_by y.standing y).station s) (told_of P (gone_by y.standing y)) (leaver P (ys ++ us) s) ≡ cond (eqb y.station s) (told_of P y)
        (leaver P (ys ++ us) s)
    go st e = grind (arith, common_steps, gone_by, told_squashed, told_live)

pub leaver_recover : (P : Program) (s : ℕ) (ys : List Tenant) (t : Tenant) (ts : List Tenant) (x : ℕ) → t.standing ≡ Live → leaver P (gone ys ++ mended_to x t ∷ ts) s ≡ leaver P (ys ++ t ∷ ts) s
leaver_recover P s ys t ts x e = grind (arith, common_steps, leaver_gone, mended_to, leaver_put, told_live)

-- Arrays

get_set : (xs : List (Option Leaver)) (k s : ℕ) (v : Option Leaver) → k < length xs → slice_get (slice_set xs k v) s ≡ cond (eqb k s) (Some v) (slice_get xs s)
get_set [] k s v h = absurd (omega (arith, h))
get_set (x ∷ xs) zero zero v h = refl
get_set (x ∷ xs) zero (suc s) v h = grind (arith, common_steps, ne_eqb)
get_set (x ∷ xs) (suc k) zero v h = grind (arith, common_steps, ne_eqb)
get_set (x ∷ xs) (suc k) (suc s) v h = let less : k < length xs = omega arith in get_set xs k s v less ∙ ap (λ b. cond b (Some v) (slice_get xs s)) (same k s)
  where
    same : (k s : ℕ) → eqb k s ≡ eqb (suc k) (suc s)
    same k s = grind (arith, common_steps, eq-eqb, eqb-true, ne_eqb, true≢false)

pub set_same : (xs : List (Option Leaver)) (k : ℕ) (v : Option Leaver) → slice_get xs k ≡ Some v → slice_set xs k v ≡ xs
set_same [] k v e = absurd (cc e)
set_same (x ∷ xs) zero v e = let same : v ≡ x = cc e in ap (λ y. y ∷ xs) same
set_same (x ∷ xs) (suc k) v e = ap (λ l. x ∷ l) (set_same xs k v e)

some_cond : (b : Bool) (x y : Option Leaver) → cond b (Some x) (Some y) ≡ Some (cond b x y)
some_cond b x y = grind (arith, common_steps)

-- the station k tells v, all others as before
pub leavers_set : (xs : List (Option Leaver)) (P : Program) (us vs : List Tenant) (k n : ℕ) (v : Option Leaver) → k < length xs → ((s : ℕ) → s < n → slice_get xs s ≡ Some (leaver P us s)) →
    ((s : ℕ) → leaver P vs s ≡ cond (eqb k s) v (leaver P us s)) → (s : ℕ) → s < n → slice_get (slice_set xs k v) s ≡ Some (leaver P vs s)
leavers_set xs P us vs k n v h old new s l = grind (arith, common_steps, get_set, some_cond)

-- The oldest retires

pub leaver_retire : (P : Program) (ys : List Tenant) (t u : Tenant) (ts : List Tenant) (k : ℕ) (v : Option Leaver) → t.station ≡ k → u.station ≡ k → AllByRecursion (λ y. y.station ≢ t.station) ys →
    told_of P u ≡ v → (s : ℕ) → leaver P (ys ++ u ∷ ts) s ≡ cond (eqb k s) v (leaver P (ys ++ t ∷ ts) s)
leaver_retire P [] t u ts k v e f a g s =
    ap (λ n. cond (eqb n s) (told_of P u) (leaver P ts s)) f ∙ ap (λ o. cond (eqb k s) o (leaver P ts s)) g ∙ go (eqb k s) refl
  where
    go : (b : Bool) → eqb k s ≡ b → cond (eqb k s) v (leaver P ts s) ≡ cond (eqb k s) v (cond (eqb t.station s) (told_of P t) (leaver P ts s))
    go b q = grind (arith, common_steps)
leaver_retire P (y ∷ ys) t u ts k v e f a g s =
    ap (cond (eqb y.station s) (told_of P y)) (leaver_retire P ys t u ts k v e f a.1 g s) ∙ go (eqb y.station s) (eqb k s) refl refl
  where
    rest : Option Leaver
    rest = leaver P (ys ++ t ∷ ts) s

    go : (b c : Bool) → eqb y.station s ≡ b → eqb k s ≡ c → cond (eqb y.station s) (told_of P y) (cond (eqb k s) v rest) ≡ cond (eqb k s) v (cond (eqb y.station s) (told_of P y) rest)
    go b c p q = grind (arith, common_steps, eqb-true)

-- What a retiring station tells is its computed next pc

-- Tenants that leave the same behind leave the same counts, front, writers and bytes.
use Rattle.std.specs.Prelude.{⊤}
use Rattle.std.proofs.Common.{◌≡◌, ℕ, suc, Bool, true, false, not, cond, ◌&&◌, eqb, List, [], ◌∷◌, length, Option, Some, None, refl, ap, ◌∙◌, subst}
use Rattle.instructions.specs.Instruction.{destination, is_first_half}
use Rattle.instructions.specs.Programs.{Program, instr_of}
use Rattle.inorder.specs.Memory.{byte_after, byte_at, stored}
use Rattle.inorder.specs.Tenants.{Tenant, on_path, stands_on_path}
use Rattle.inorder.specs.Unit.{at, front_half, front_pc, half_after, how_many, last_writer, replaced, value_made, value_of}
use Rattle.replay.specs.Fronts.{front_of}
use Rattle.replay.specs.Settlement.{IsAlike, ends}

abbrev pub AreAlike : Program → List Tenant → List Tenant → Type 0
AreAlike P [] [] = ⊤
AreAlike P (t ∷ ts) (u ∷ us) = IsAlike P t u × AreAlike P ts us
AreAlike P _ _ = ⊥

alike_self : (P : Program) (t : Tenant) → IsAlike P t t
alike_self P t = record { index = refl; half = refl; next = refl; made = refl; fate = refl; standing = refl; stored = refl }

alike_all : (P : Program) (ts : List Tenant) → AreAlike P ts ts
alike_all P [] = tt
alike_all P (t ∷ ts) = (alike_self P t, alike_all P ts)

pub replaced_alike : (P : Program) (ts : List Tenant) (p : ℕ) (t u : Tenant) → at ts p ≡ Some t → IsAlike P t u →
    AreAlike P ts (replaced ts p u)
replaced_alike P [] p t u e a = tt
replaced_alike P (v ∷ ts) p t u e a = go (eqb p (length ts)) e (λ f. replaced_alike P ts p t u f a)
  where
    go : (b : Bool) → cond b (Some v) (at ts p) ≡ Some t → (at ts p ≡ Some t → AreAlike P ts (replaced ts p u)) →
        AreAlike P (v ∷ ts) (cond b (u ∷ ts) (v ∷ replaced ts p u))
    go true f more = let is : t ≡ v = cc in (subst (λ x. IsAlike P x u) is a, alike_all P ts)
    go false f more = (alike_self P v, more f)

pub alike_length : (P : Program) (ts us : List Tenant) → AreAlike P ts us → length ts ≡ length us
alike_length P [] [] a = refl
alike_length P [] (u ∷ us) a = absurd a
alike_length P (t ∷ ts) [] a = absurd a
alike_length P (t ∷ ts) (u ∷ us) a = ap suc (alike_length P ts us a.1)

pub alike_path : (P : Program) (ts us : List Tenant) → AreAlike P ts us → how_many on_path ts ≡ how_many on_path us
alike_path P [] [] a = refl
alike_path P [] (u ∷ us) a = absurd a
alike_path P (t ∷ ts) [] a = absurd a
alike_path P (t ∷ ts) (u ∷ us) a =
    ap (λ s. cond (stands_on_path s) (suc (how_many on_path ts)) (how_many on_path ts)) a.0.standing
    ∙ ap (λ n. cond (on_path u) (suc n) n) (alike_path P ts us a.1)

alike_pc : (P : Program) (ts us : List Tenant) → AreAlike P ts us → front_pc ts ≡ front_pc us
alike_pc P [] [] a = refl
alike_pc P [] (u ∷ us) a = absurd a
alike_pc P (t ∷ ts) [] a = absurd a
alike_pc P (t ∷ ts) (u ∷ us) a =
    ap (λ s. cond (stands_on_path s) t.next (front_pc ts)) a.0.standing
    ∙ ap (λ x. cond (on_path u) x (front_pc ts)) a.0.next
    ∙ ap (cond (on_path u) u.next) (alike_pc P ts us a.1)

alike_half : (P : Program) (ts us : List Tenant) → AreAlike P ts us → front_half P ts ≡ front_half P us
alike_half P [] [] a = refl
alike_half P [] (u ∷ us) a = absurd a
alike_half P (t ∷ ts) [] a = absurd a
alike_half P (t ∷ ts) (u ∷ us) a =
    ap (λ s. cond (stands_on_path s) (half_after (is_first_half (instr_of P t.index).op t.half)) (front_half P ts)) a.0.standing
    ∙ ap (λ i. cond (on_path u) (half_after (is_first_half (instr_of P i).op t.half)) (front_half P ts)) a.0.index
    ∙ ap (λ h. cond (on_path u) (half_after (is_first_half (instr_of P u.index).op h)) (front_half P ts)) a.0.half
    ∙ ap (cond (on_path u) (half_after (is_first_half (instr_of P u.index).op u.half))) (alike_half P ts us a.1)

pub alike_front : (P : Program) (ts us : List Tenant) → AreAlike P ts us → front_of P ts ≡ front_of P us
alike_front P ts us a =
    ap (λ x. record { pc = x; half = front_half P ts }) (alike_pc P ts us a)
    ∙ ap (λ h. record { pc = front_pc us; half = h }) (alike_half P ts us a)

pub alike_writer : (P : Program) (ts us : List Tenant) (r : ℕ) → AreAlike P ts us → last_writer P ts r ≡ last_writer P us r
alike_writer P [] [] r a = refl
alike_writer P [] (u ∷ us) r a = absurd a
alike_writer P (t ∷ ts) [] r a = absurd a
alike_writer P (t ∷ ts) (u ∷ us) r a =
    ap (λ s. cond (stands_on_path s && eqb (destination (instr_of P t.index) t.half) r) (Some (length ts)) (last_writer P ts r)) a.0.standing
    ∙ ap (λ i. cond (on_path u && eqb (destination (instr_of P i) t.half) r) (Some (length ts)) (last_writer P ts r)) a.0.index
    ∙ ap (λ h. cond (on_path u && eqb (destination (instr_of P u.index) h) r) (Some (length ts)) (last_writer P ts r)) a.0.half
    ∙ ap (λ n. cond (on_path u && eqb (destination (instr_of P u.index) u.half) r) (Some n) (last_writer P ts r)) (alike_length P ts us a.1)
    ∙ ap (cond (on_path u && eqb (destination (instr_of P u.index) u.half) r) (Some (length us))) (alike_writer P ts us r a.1)

pub alike_byte : (P : Program) (ts us : List Tenant) (x : ℕ) → AreAlike P ts us → byte_at P ts x ≡ byte_at P us x
alike_byte P [] [] x a = refl
alike_byte P [] (u ∷ us) x a = absurd a
alike_byte P (t ∷ ts) [] x a = absurd a
alike_byte P (t ∷ ts) (u ∷ us) x a =
    ap (λ s. byte_after s x (byte_at P ts x)) a.0.stored ∙ ap (byte_after (stored P u) x) (alike_byte P ts us x a.1)

pub alike_value : (P : Program) (ts us : List Tenant) (c : Option ℕ) → AreAlike P ts us → value_of ts c ≡ value_of us c
alike_value P ts us None a = refl
alike_value P [] [] (Some p) a = refl
alike_value P [] (u ∷ us) (Some p) a = absurd a
alike_value P (t ∷ ts) [] (Some p) a = absurd a
alike_value P (t ∷ ts) (u ∷ us) (Some p) a =
    ap (λ n. value_made (cond (eqb p n) (Some t) (at ts p))) (alike_length P ts us a.1)
    ∙ go (eqb p (length us)) (alike_value P ts us (Some p) a.1)
  where
    go : (b : Bool) → value_made (at ts p) ≡ value_made (at us p) → value_made (cond b (Some t) (at ts p)) ≡ value_made (cond b (Some u) (at us p))
    go true more = a.0.made
    go false more = more

pub alike_ends : (P : Program) (ts us : List Tenant) → AreAlike P ts us → how_many (ends P) ts ≡ how_many (ends P) us
alike_ends P [] [] a = refl
alike_ends P [] (u ∷ us) a = absurd a
alike_ends P (t ∷ ts) [] a = absurd a
alike_ends P (t ∷ ts) (u ∷ us) a =
    ap (λ s. cond (stands_on_path s && not (is_first_half (instr_of P t.index).op t.half)) (suc (how_many (ends P) ts)) (how_many (ends P) ts)) a.0.standing
    ∙ ap (λ i. cond (on_path u && not (is_first_half (instr_of P i).op t.half)) (suc (how_many (ends P) ts)) (how_many (ends P) ts)) a.0.index
    ∙ ap (λ h. cond (on_path u && not (is_first_half (instr_of P u.index).op h)) (suc (how_many (ends P) ts)) (how_many (ends P) ts)) a.0.half
    ∙ ap (λ n. cond (ends P u) (suc n) n) (alike_ends P ts us a.1)

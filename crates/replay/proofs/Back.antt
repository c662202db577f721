-- What the tenants before the youngest leave.
use Rattle.std.proofs.Common.{◌≡◌, ℕ, suc, ◌+◌, ◌-◌, Bool, true, false, cond, List, ◌∷◌, length, take, Some, refl, sym, ap, ◌∙◌, arith}
use Rattle.std.specs.Prelude.{slice_get}
use Rattle.std.proofs.lemmas.List.{take_all}
use Rattle.instructions.specs.Programs.{Program}
use Rattle.inorder.specs.Tenants.{Tenant, is_first, on_path}
use Rattle.inorder.specs.Unit.{front_half, front_pc, half_after, last_writer}
use Rattle.replay.specs.declared.tenant.Tenant.{Tenant as Held}
use Rattle.replay.specs.Fronts.{front_of, writes}
use Rattle.replay.specs.Shown.{shown, tenant_of}
use Rattle.replay.proofs.First.{first_length, shown_more}
use Rattle.replay.proofs.Laid.{get_below}

pub all_there : (hs : List Held) → take (length hs - 0) hs ≡ hs
all_there hs = take_all (length hs - 0) hs (omega arith)

-- the youngest of the first ones
more : (hs : List Held) (back q : ℕ) (h : Held) → slice_get hs q ≡ Some h → length hs ≡ suc q + back →
    shown (take (length hs - back) hs) ≡ tenant_of h ∷ shown (take q hs)
more hs back q h there long = shown_more hs q (length hs - back) h there (omega arith)

less : (hs : List Held) (back q : ℕ) → length hs ≡ suc q + back → take (length hs - (back + 1)) hs ≡ take q hs
less hs back q long = let same : length hs - (back + 1) ≡ q = omega arith in ap (λ n. take n hs) same

front_by : (P : Program) (t : Tenant) (ts : List Tenant) (b : Bool) → on_path t ≡ b →
    front_of P (t ∷ ts) ≡ cond b (record { pc = t.next; half = half_after (is_first P t) }) (front_of P ts)
front_by P t ts b e =
    ap (λ c. record { pc = cond c t.next (front_pc ts); half = cond c (half_after (is_first P t)) (front_half P ts) }) e ∙ go b
  where
    go : (c : Bool) → record { pc = cond c t.next (front_pc ts); half = cond c (half_after (is_first P t)) (front_half P ts) }
        ≡ cond c (record { pc = t.next; half = half_after (is_first P t) }) (front_of P ts)
    go true = refl
    go false = refl

pub front_here : (P : Program) (hs : List Held) (back q : ℕ) (h : Held) → slice_get hs q ≡ Some h → length hs ≡ suc q + back →
    on_path (tenant_of h) ≡ true →
    front_of P (shown (take (length hs - back) hs)) ≡ record { pc = h.next; half = half_after (is_first P (tenant_of h)) }
front_here P hs back q h there long on = ap (front_of P) (more hs back q h there long) ∙ front_by P (tenant_of h) (shown (take q hs)) true on

pub front_before : (P : Program) (hs : List Held) (back q : ℕ) (h : Held) → slice_get hs q ≡ Some h → length hs ≡ suc q + back →
    on_path (tenant_of h) ≡ false →
    front_of P (shown (take (length hs - (back + 1)) hs)) ≡ front_of P (shown (take (length hs - back) hs))
front_before P hs back q h there long off =
    ap (λ ks. front_of P (shown ks)) (less hs back q long)
    ∙ sym (ap (front_of P) (more hs back q h there long) ∙ front_by P (tenant_of h) (shown (take q hs)) false off)

pub writer_here : (P : Program) (hs : List Held) (back q r : ℕ) (h : Held) → slice_get hs q ≡ Some h → length hs ≡ suc q + back →
    writes P r (tenant_of h) ≡ true → last_writer P (shown (take (length hs - back) hs)) r ≡ Some q
writer_here P hs back q r h there long on =
    let below = get_below hs q h there in
    ap (λ ts. last_writer P ts r) (more hs back q h there long)
    ∙ ap (λ b. cond b (Some (length (shown (take q hs)))) (last_writer P (shown (take q hs)) r)) on
    ∙ ap Some (first_length hs q (omega arith))

pub writer_before : (P : Program) (hs : List Held) (back q r : ℕ) (h : Held) → slice_get hs q ≡ Some h → length hs ≡ suc q + back →
    writes P r (tenant_of h) ≡ false →
    last_writer P (shown (take (length hs - (back + 1)) hs)) r ≡ last_writer P (shown (take (length hs - back) hs)) r
writer_before P hs back q r h there long off =
    ap (λ ks. last_writer P (shown ks) r) (less hs back q long)
    ∙ sym (ap (λ ts. last_writer P ts r) (more hs back q h there long)
    ∙ ap (λ b. cond b (Some (length (shown (take q hs)))) (last_writer P (shown (take q hs)) r)) off)

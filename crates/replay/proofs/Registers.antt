-- What the settled tenants have written.
use Rattle.std.proofs.Common.{◌≡◌, ℕ, zero, suc, ◌+◌, ◌-◌, ◌<◌, ◌≤◌, Bool, true, false, cond, ◌&&◌, eqb, ltb, ltb-true, List, length, take, Option, Some, None, refl, sym, ap, ◌∙◌, subst, arith}
use Rattle.std.specs.Prelude.{slice_get, slice_index}
use Rattle.std.proofs.lemmas.List.{take_all}
use Rattle.instructions.specs.Programs.{Program}
use Rattle.inorder.specs.Tenants.{Tenant, destination_of, on_path}
use Rattle.inorder.specs.Unit.{creator, last_writer, value_of}
use Rattle.instructions.specs.Registers.{register_count}
use Rattle.replay.specs.declared.settled.Settled.{Settled}
use Rattle.replay.specs.declared.tenant.Tenant.{Tenant as Held}
use Rattle.replay.specs.Settlement.{IsSettled}
use Rattle.replay.specs.Shown.{shown, tenant_of}
use Rattle.replay.proofs.Dropped.{value_get}
use Rattle.replay.proofs.First.{first_length, shown_more}
use Rattle.replay.proofs.Laid.{get_none}
use Rattle.replay.proofs.Settlement.{get_take}

-- a writer that is among the first tenants is their last writer
last_down : (P : Program) (hs : List Held) (r q n d m : ℕ) → m ≡ n + d → m ≤ length hs → last_writer P (shown (take m hs)) r ≡ Some q → q < n →
    last_writer P (shown (take n hs)) r ≡ Some q
last_down P hs r q n zero m same inside e lt = let here : m ≡ n = omega arith in subst (λ k. last_writer P (shown (take k hs)) r ≡ Some q) here e
last_down P hs r q n (suc d) m same inside e lt =
    at_one (slice_get hs (n + d)) refl (λ g. last_down P hs r q n d (n + d) refl (omega arith) g lt)
  where
    ts : List Tenant
    ts = shown (take (n + d) hs)

    at_one : (o : Option Held) → slice_get hs (n + d) ≡ o → (last_writer P ts r ≡ Some q → last_writer P (shown (take n hs)) r ≡ Some q) →
        last_writer P (shown (take n hs)) r ≡ Some q
    at_one None f deeper = let far = get_none hs (n + d) f in absurd (omega arith)
    at_one (Some h) f deeper = go (on_path (tenant_of h) && eqb (destination_of P (tenant_of h)) r) found
      where
        found : cond (on_path (tenant_of h) && eqb (destination_of P (tenant_of h)) r) (Some (length ts)) (last_writer P ts r) ≡ Some q
        found = sym (ap (λ us. last_writer P us r) (shown_more hs (n + d) m h f (omega arith))) ∙ e

        go : (b : Bool) → cond b (Some (length ts)) (last_writer P ts r) ≡ Some q → last_writer P (shown (take n hs)) r ≡ Some q
        go true g =
            let long = first_length hs (n + d) (omega arith) in
            let here : length ts ≡ q = cc in
            absurd (omega arith)
        go false g = deeper g

pub last_settled : (P : Program) (hs : List Held) (r q n : ℕ) → n ≤ length hs → last_writer P (shown hs) r ≡ Some q → q < n →
    last_writer P (shown (take n hs)) r ≡ Some q
last_settled P hs r q n inside e lt =
    last_down P hs r q n (length hs - n) (length hs) (omega arith) (omega arith)
    (ap (λ ks. last_writer P (shown ks) r) (take_all (length hs) hs (omega arith)) ∙ e) lt

-- the value of a source that a settled tenant has made
pub settled_value : (P : Program) (hs : List Held) (s : Settled) (r q : ℕ) → IsSettled P hs s → creator P (shown hs) r ≡ Some q → q < s.upto →
    Some (slice_index s.registers r) ≡ value_of (shown hs) (Some q)
settled_value P hs s zero q is e lt = absurd (cc)
settled_value P hs s (suc r) q is e lt = go (ltb (suc r) register_count) refl e
  where
    ks : List Held
    ks = take s.upto hs

    go : (b : Bool) → ltb (suc r) register_count ≡ b → cond b (last_writer P (shown hs) (suc r)) None ≡ Some q →
        Some (slice_index s.registers (suc r)) ≡ value_of (shown hs) (Some q)
    go true f g =
        let small = ltb-true (suc r) register_count f in
        let last : last_writer P (shown ks) (suc r) ≡ Some q = last_settled P hs (suc r) q s.upto is.within g lt in
        sym (is.registers (suc r) (omega arith) small)
        ∙ ap (value_of (shown ks)) last
        ∙ value_get ks hs q (get_take s.upto q hs lt)
    go false f g = absurd (cc)

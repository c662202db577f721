-- What stands at the places of a unit's queue.
use Rattle.std.proofs.Common.{◌≡◌, ℕ, ◌<◌, Bool, true, false, cond, ◌&&◌, eqb, List, [], ◌∷◌, ◌++◌, length, Some, refl, sym, ap, ◌∙◌, ⊎_elim, arith, true≢false, append_assoc, length-append, eqb-true}
use Rattle.std.specs.Prelude.{slice_get}
use Rattle.std.proofs.lemmas.List.{append-nil}
use Rattle.instructions.specs.Instruction.{is_access}
use Rattle.instructions.specs.Programs.{Program}
use Rattle.lsq.specs.declared.entry.Entry.{Entry}
use Rattle.inorder.specs.Loads.{entry_of, live_accesses, with_access}
use Rattle.inorder.specs.Tenants.{Live, Retired, Squashed, Standing, Tenant, is_live_access, kind_of, stands_live}
use Rattle.inorder.specs.Unit.{at, older}
use Rattle.inorder.proofs.Basics.{eqb_less, eqb_self}
use Rattle.inorder.proofs.QueueBytes.{get_last}
use Rattle.inorder.proofs.Sound.{IsSound}

-- Places of the queue

-- what stands at a place of the queue is a live access
pub record FoundAt (P : Program) (ts : List Tenant) (q : ℕ) (e : Entry) : Type 0 where
  pub tenant : Tenant
  pub is : at ts q ≡ Some tenant
  pub inside : q < length ts
  pub live : is_live_access P tenant ≡ true
  pub entry : entry_of P tenant ≡ e

pub found_more : (P : Program) (t : Tenant) (ts : List Tenant) (q : ℕ) (e : Entry) → FoundAt P ts q e →
    FoundAt P (t ∷ ts) q e
found_more P t ts q e f =
    record {
      tenant = f.tenant;
      is = ap (λ b. cond b (Some t) (at ts q)) (eqb_less q (length ts) f.inside) ∙ f.is;
      inside = let l = f.inside in omega (arith, l);
      live = f.live;
      entry = f.entry;
    }

pub found : (P : Program) (ts : List Tenant) (k q : ℕ) (e : Entry) →
    slice_get (live_accesses P ts) k ≡ Some (q, e) → FoundAt P ts q e
found P [] k q e h = absurd (cc)
found P (t ∷ ts) k q e h = go (is_live_access P t) refl h (found P ts k q e)
  where
    here : is_live_access P t ≡ true → length ts ≡ q → entry_of P t ≡ e → FoundAt P (t ∷ ts) q e
    here b p m =
        record {
          tenant = t;
          is = ap (λ c. cond c (Some t) (at ts q)) (ap (eqb q) p ∙ eqb_self q);
          inside = omega arith;
          live = b;
          entry = m;
        }

    go : (b : Bool) → is_live_access P t ≡ b →
        slice_get (live_accesses P ts ++ with_access b (length ts, entry_of P t)) k ≡ Some (q, e) →
        (slice_get (live_accesses P ts) k ≡ Some (q, e) → FoundAt P ts q e) → FoundAt P (t ∷ ts) q e
    go true b g more =
        ⊎_elim
        (λ old. found_more P t ts q e (more old))
        (λ new. here b (ap (λ z. z.0) new) (ap (λ z. z.1) new))
        (get_last (live_accesses P ts) (length ts, entry_of P t) (q, e) k g)
    go false b g more = found_more P t ts q e (more (nothing (live_accesses P ts) g))
      where
        nothing : (es : List (ℕ × Entry)) → slice_get (es ++ []) k ≡ Some (q, e) → slice_get es k ≡ Some (q, e)
        nothing es i = ap (λ xs. slice_get xs k) (sym (append-nil es)) ∙ i

-- the older queue is the front of the whole one
pub record StartsOf (P : Program) (us ts : List Tenant) : Type 0 where
  pub more : List (ℕ × Entry)
  pub is : live_accesses P us ≡ live_accesses P ts ++ more

pub starts_of : (P : Program) (ts ys : List Tenant) → StartsOf P (ys ++ ts) ts
starts_of P ts [] = record { more = []; is = sym (append-nil (live_accesses P ts)) }
starts_of P ts (y ∷ ys) =
    let s = starts_of P ts ys in
    let new = with_access (is_live_access P y) (length (ys ++ ts), entry_of P y) in
    record {
      more = s.more ++ new;
      is = ap (λ es. es ++ new) s.is
          ∙ append_assoc (live_accesses P ts) s.more new;
    }

pub at_older : (ts ys : List Tenant) (t : Tenant) (q : ℕ) → q < length ts → at (ys ++ t ∷ ts) q ≡ at ts q
at_older ts [] t q l = ap (λ b. cond b (Some t) (at ts q)) (eqb_less q (length ts) l)
at_older ts (y ∷ ys) t q l =
    let less : q < length (ys ++ t ∷ ts) = omega (arith, length-append ys (t ∷ ts)) in
    ap (λ b. cond b (Some y) (at (ys ++ t ∷ ts) q)) (eqb_less q (length (ys ++ t ∷ ts)) less)
    ∙ at_older ts ys t q l

-- the tenants before one
pub sound_tail : (P : Program) (t : Tenant) (ts ys : List Tenant) → IsSound P (ys ++ t ∷ ts) → IsSound P ts
sound_tail P t ts [] s = s.1
sound_tail P t ts (y ∷ ys) s = sound_tail P t ts ys s.1

-- n tenants are before a position
pub older_length : (ts : List Tenant) (p : ℕ) (t : Tenant) → at ts p ≡ Some t → length (older ts p) ≡ p
older_length [] p t e = absurd (cc)
older_length (u ∷ us) p t e = go (eqb p (length us)) refl e (older_length us p t)
  where
    go : (b : Bool) → eqb p (length us) ≡ b → cond b (Some u) (at us p) ≡ Some t →
        (at us p ≡ Some t → length (older us p) ≡ p) → length (older (u ∷ us) p) ≡ p
    go true h i more = ap (λ b. length (cond b us (older us p))) h ∙ sym (eqb-true p (length us) h)
    go false h i more = ap (λ b. length (cond b us (older us p))) h ∙ more i

pub access_live : (P : Program) (t : Tenant) → is_live_access P t ≡ true → t.standing ≡ Live
access_live P t e = go t.standing refl e
  where
    go : (s : Standing) → t.standing ≡ s → (stands_live s && is_access (kind_of P t)) ≡ true → t.standing ≡ Live
    go Live f h = f
    go Retired f h = absurd (true≢false (sym h))
    go Squashed f h = absurd (true≢false (sym h))

-- The path of a unit as a list.
use Rattle.std.proofs.Common.{◌≡◌, ℕ, suc, ◌+◌, ◌%◌, Bool, true, false, cond, List, [], ◌∷◌, ◌++◌, length, Some, refl, sym, ap, ◌∙◌, subst, ⊎_elim, arith, true≢false}
use Rattle.std.specs.List.{AllByRecursion}
use Rattle.instructions.specs.declared.op.Half.TheVariants.{Low}
use Rattle.instructions.specs.Programs.{Program, text_start}
use Rattle.inorder.specs.Tenants.{Tenant, is_first, on_path}
use Rattle.inorder.specs.Unit.{at, front_half, front_pc, half_after}
use Rattle.inorder.proofs.Creators.{at_cases}
use Rattle.inorder.proofs.Grows.{same_length}
use Rattle.inorder.proofs.Positions.{at_more, at_new}
use Rattle.front.specs.Trail.{Note, note, record_of, trail}
use Rattle.front.proofs.Lists.{Last, all_both, all_front, all_map, all_rest, last_cases, last_not, last_same}

abbrev pub IsOff : Tenant → Type 0
IsOff t = on_path t ≡ false

module _ (P : Program) where
  pub trail_on : (t : Tenant) (ts : List Tenant) → on_path t ≡ true → trail P (t ∷ ts) ≡ trail P ts ++ note P ts t ∷ []
  trail_on t ts e = ap (λ b. cond b (trail P ts ++ note P ts t ∷ []) (trail P ts)) e

  pub trail_off : (t : Tenant) (ts : List Tenant) → on_path t ≡ false → trail P (t ∷ ts) ≡ trail P ts
  trail_off t ts e = ap (λ b. cond b (trail P ts ++ note P ts t ∷ []) (trail P ts)) e

  pub trail_past : (ys ts : List Tenant) → AllByRecursion IsOff ys → trail P (ys ++ ts) ≡ trail P ts
  trail_past [] ts off = refl
  trail_past (y ∷ ys) ts off = trail_off y (ys ++ ts) off.0 ∙ trail_past ys ts off.1

  -- a tenant changes, and nothing that the front keeps of it
  pub trail_same : (t t' : Tenant) (ts ys : List Tenant) → record_of P t' ≡ record_of P t → on_path t' ≡ on_path t → trail P (ys ++ t' ∷ ts) ≡ trail P (ys ++ t ∷ ts)
  trail_same t t' ts [] e f = λ i. cond (f i) (trail P ts ++ record { at = length ts; what = e i } ∷ []) (trail P ts)
  trail_same t t' ts (y ∷ ys) e f =
      let more = trail_same t t' ts ys e f in
      let long = sym (same_length t t' ts ys) in
      λ i. cond (on_path y) (more i ++ record { at = long i; what = record_of P y } ∷ []) (more i)

  -- each of the path is there

  pub record IsNoted (ts : List Tenant) (n : Note) : Type 0 where
    pub tenant : Tenant
    pub is : at ts n.at ≡ Some tenant
    pub on : on_path tenant ≡ true
    pub what : record_of P tenant ≡ n.what

  noted_more : (t : Tenant) (ts : List Tenant) (n : Note) → IsNoted ts n → IsNoted (t ∷ ts) n
  noted_more t ts n i = record { tenant = i.tenant; is = at_more t ts n.at i.tenant i.is; on = i.on; what = i.what }

  pub trail_noted : (ts : List Tenant) → AllByRecursion (IsNoted ts) (trail P ts)
  trail_noted [] = tt
  trail_noted (t ∷ ts) = go (on_path t) refl (all_map (IsNoted ts) (IsNoted (t ∷ ts)) (noted_more t ts) (trail P ts) (trail_noted ts))
    where
      go : (b : Bool) → on_path t ≡ b → AllByRecursion (IsNoted (t ∷ ts)) (trail P ts) → AllByRecursion (IsNoted (t ∷ ts)) (trail P (t ∷ ts))
      go true e all = subst (AllByRecursion (IsNoted (t ∷ ts))) (sym (trail_on t ts e)) (all_both (IsNoted (t ∷ ts)) (trail P ts) (note P ts t ∷ []) all
          (record { tenant = t; is = at_new t ts; on = e; what = refl }, tt))
      go false e all = subst (AllByRecursion (IsNoted (t ∷ ts))) (sym (trail_off t ts e)) all

  pub trail_all : (Q : Note → Type 0) (ts : List Tenant) → AllByRecursion Q (trail P ts) → (p : ℕ) (t : Tenant) → at ts p ≡ Some t → on_path t ≡ true → Q (record { at = p; what = record_of P t })
  trail_all Q [] all p t is on = absurd (cc is)
  trail_all Q (u ∷ us) all p t is on = go (on_path u) refl (λ some old. trail_all Q us some p t old on)
    where
      go : (b : Bool) → on_path u ≡ b → (AllByRecursion Q (trail P us) → at us p ≡ Some t → Q (record { at = p; what = record_of P t })) → Q (record { at = p; what = record_of P t })
      go true e more =
          let split = subst (AllByRecursion Q) (trail_on u us e) all in
          ⊎_elim
          (λ old. more (all_front Q (trail P us) (note P us u ∷ []) split) old)
          (λ (n : (p ≡ length us) × (u ≡ t)). subst Q (λ i. record { at = sym n.0 i; what = record_of P (n.1 i) }) (all_rest Q (trail P us) (note P us u ∷ []) split).0)
          (at_cases u us p t is)
      go false e more =
          ⊎_elim
          (λ old. more (subst (AllByRecursion Q) (trail_off u us e) all) old)
          (λ (n : (p ≡ length us) × (u ≡ t)). absurd (true≢false (sym on ∙ (ap on_path (sym n.1) ∙ e))))
          (at_cases u us p t is)

  -- the last one of the path
  pub record IsLastOn (us : List Tenant) (xs : List Note) (x : Note) : Type 0 where
    pub ys : List Tenant
    pub tenant : Tenant
    pub ts : List Tenant
    pub split : us ≡ ys ++ tenant ∷ ts
    pub off : AllByRecursion IsOff ys
    pub on : on_path tenant ≡ true
    pub before : xs ≡ trail P ts
    pub is : x ≡ note P ts tenant

  pub last_on : (us : List Tenant) (xs : List Note) (x : Note) → trail P us ≡ xs ++ x ∷ [] → IsLastOn us xs x
  last_on [] xs x e = absurd (last_not xs x e)
  last_on (u ∷ us) xs x e = go (on_path u) refl (last_on us xs x)
    where
      go : (b : Bool) → on_path u ≡ b → (trail P us ≡ xs ++ x ∷ [] → IsLastOn us xs x) → IsLastOn (u ∷ us) xs x
      go true f more =
          let s = last_same (trail P us) xs (note P us u) x (sym (trail_on u us f) ∙ e) in
          record { ys = []; tenant = u; ts = us; split = refl; off = tt; on = f; before = sym s.fronts; is = sym s.ones }
      go false f more =
          let l = more (sym (trail_off u us f) ∙ e) in
          record { ys = u ∷ l.ys; tenant = l.tenant; ts = l.ts; split = ap (λ z. u ∷ z) l.split; off = (f, l.off); on = l.on; before = l.before; is = l.is }

  pub none_on : (us : List Tenant) → trail P us ≡ [] → AllByRecursion IsOff us
  none_on [] e = tt
  none_on (u ∷ us) e = go (on_path u) refl (none_on us)
    where
      go : (b : Bool) → on_path u ≡ b → (trail P us ≡ [] → AllByRecursion IsOff us) → AllByRecursion IsOff (u ∷ us)
      go true f more = absurd (last_not (trail P us) (note P us u) (sym e ∙ trail_on u us f))
      go false f more = (f, more (sym (trail_off u us f) ∙ e))

-- from place g on, each at its station
abbrev pub ArePlacedFrom : ℕ → ℕ → List Note → Type 0
ArePlacedFrom ring g [] = Unit {0}
ArePlacedFrom ring g (n ∷ ns) = (n.what.station ≡ g % ring) × ArePlacedFrom ring (suc g) ns

pub placed_last : (ring g : ℕ) (xs : List Note) (x : Note) → ArePlacedFrom ring g xs → x.what.station ≡ (g + length xs) % ring → ArePlacedFrom ring g (xs ++ x ∷ [])
placed_last ring g [] x a e = let none : g + 0 ≡ g = omega arith in (e ∙ ap (λ z. z % ring) none, tt)
placed_last ring g (y ∷ xs) x a e = let more : g + suc (length xs) ≡ suc g + length xs = omega arith in (a.0, placed_last ring (suc g) xs x a.1 (e ∙ ap (λ z. z % ring) more))

pub placed_rest : (ring g : ℕ) (xs ys : List Note) → ArePlacedFrom ring g (xs ++ ys) → ArePlacedFrom ring (g + length xs) ys
placed_rest ring g [] ys a = let none : g ≡ g + 0 = omega arith in subst (λ z. ArePlacedFrom ring z ys) none a
placed_rest ring g (x ∷ xs) ys a = let more : suc g + length xs ≡ g + suc (length xs) = omega arith in subst (λ z. ArePlacedFrom ring z ys) more (placed_rest ring (suc g) xs ys a.1)

-- Where the path goes on
pub pc_past : (ys ts : List Tenant) → AllByRecursion IsOff ys → front_pc (ys ++ ts) ≡ front_pc ts
pc_past [] ts off = refl
pc_past (y ∷ ys) ts off = ap (λ b. cond b y.next (front_pc (ys ++ ts))) off.0 ∙ pc_past ys ts off.1

pub pc_on : (t : Tenant) (ts : List Tenant) → on_path t ≡ true → front_pc (t ∷ ts) ≡ t.next
pc_on t ts e = ap (λ b. cond b t.next (front_pc ts)) e

pub pc_none : (ts : List Tenant) → AllByRecursion IsOff ts → front_pc ts ≡ text_start
pc_none [] off = refl
pc_none (t ∷ ts) off = ap (λ b. cond b t.next (front_pc ts)) off.0 ∙ pc_none ts off.1

pub pc_of_last : (P : Program) (us : List Tenant) (xs : List Note) (x : Note) → trail P us ≡ xs ++ x ∷ [] → front_pc us ≡ x.what.next
pc_of_last P us xs x e =
    let o = last_on P us xs x e in
    ap front_pc o.split ∙ (pc_past o.ys (o.tenant ∷ o.ts) o.off ∙ (pc_on o.tenant o.ts o.on ∙ ap (λ (z : Note). z.what.next) (sym o.is)))

-- the same of the half that comes next
pub half_past : (P : Program) (ys ts : List Tenant) → AllByRecursion IsOff ys → front_half P (ys ++ ts) ≡ front_half P ts
half_past P [] ts off = refl
half_past P (y ∷ ys) ts off =
    ap (λ b. cond b (half_after (is_first P y)) (front_half P (ys ++ ts))) off.0 ∙ half_past P ys ts off.1

pub half_on : (P : Program) (t : Tenant) (ts : List Tenant) → on_path t ≡ true → front_half P (t ∷ ts) ≡ half_after (is_first P t)
half_on P t ts e = ap (λ b. cond b (half_after (is_first P t)) (front_half P ts)) e

pub half_none : (P : Program) (ts : List Tenant) → AllByRecursion IsOff ts → front_half P ts ≡ Low
half_none P [] off = refl
half_none P (t ∷ ts) off = ap (λ b. cond b (half_after (is_first P t)) (front_half P ts)) off.0 ∙ half_none P ts off.1

pub half_of_last : (P : Program) (us : List Tenant) (xs : List Note) (x : Note) → trail P us ≡ xs ++ x ∷ [] → front_half P us ≡ half_after x.what.first
half_of_last P us xs x e =
    let o = last_on P us xs x e in
    ap (front_half P) o.split ∙ (half_past P o.ys (o.tenant ∷ o.ts) o.off ∙ (half_on P o.tenant o.ts o.on ∙ ap (λ (z : Note). half_after z.what.first) (sym o.is)))

-- The same path goes on at the same place
pub same_front : (P : Program) (us vs : List Tenant) → trail P us ≡ trail P vs → (front_pc us ≡ front_pc vs) × (front_half P us ≡ front_half P vs)
same_front P us vs e = ⊎_elim
    (λ none. (pc_none us (none_on P us (e ∙ none)) ∙ sym (pc_none vs (none_on P vs none)), half_none P us (none_on P us (e ∙ none)) ∙ sym (half_none P vs (none_on P vs none))))
    (λ (l : Last (trail P vs)). (
      pc_of_last P us l.front l.one (e ∙ l.is) ∙ sym (pc_of_last P vs l.front l.one l.is),
      half_of_last P us l.front l.one (e ∙ l.is) ∙
          sym (half_of_last P vs l.front l.one l.is),
    ))
    (last_cases (trail P vs))

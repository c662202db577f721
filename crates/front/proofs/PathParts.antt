-- A path in parts: the records before and after one of them, which are older and younger.
use Rattle.std.proofs.Common.{◌≡◌, ◌≢◌, ℕ, zero, suc, ◌-◌, ◌<◌, Bool, true, false, cond, List, [], ◌∷◌, ◌++◌, length, take, drop, Some, None, refl, sym, ap, ◌∙◌, subst, ⊎_elim, arith}
use Rattle.std.proofs.Common.{append_assoc}
use Rattle.std.proofs.lemmas.List.{take-append-drop}
use Rattle.std.specs.List.{AllByRecursion}
use Rattle.std.specs.Prelude.{slice_get}
use Rattle.instructions.specs.Programs.{Program}
use Rattle.inorder.specs.Tenants.{Tenant, on_path}
use Rattle.inorder.specs.Unit.{older, younger}
use Rattle.inorder.proofs.Positions.{at_below}
use Rattle.front.specs.declared.path.record.Record.{Record}
use Rattle.front.specs.Knows.{whats}
use Rattle.front.specs.Queues.{memory_records}
use Rattle.front.specs.Trail.{Note, note, trail}
use Rattle.front.proofs.Lists.{Last, all_both, all_map, all_rest, last_cases, last_same}
use Rattle.front.proofs.Trails.{IsNoted, trail_noted, trail_off, trail_on}
use Rattle.front.proofs.Cuts.{head_of, tail_of}

pub drop_get : (xs : List Record) (i : ℕ) (x : Record) → slice_get xs i ≡ Some x → drop i xs ≡ x ∷ drop (suc i) xs
drop_get [] i x e = absurd (cc e)
drop_get (y ∷ xs) zero x e = let same : y ≡ x = cc e in ap (λ z. z ∷ xs) same
drop_get (y ∷ xs) (suc i) x e = drop_get xs i x e

drop_none : (xs : List Record) (i : ℕ) → slice_get xs i ≡ None → drop i xs ≡ drop (suc i) xs
drop_none [] zero e = refl
drop_none [] (suc i) e = refl
drop_none (y ∷ xs) zero e = absurd (cc e)
drop_none (y ∷ xs) (suc i) e = drop_none xs i e

pub one_back : (xs : List Record) (j : ℕ) (x : Record) → 0 < j → slice_get xs (j - 1) ≡ Some x → drop (j - 1) xs ≡ x ∷ drop j xs
one_back xs j x h e = let same : suc (j - 1) ≡ j = omega arith in drop_get xs (j - 1) x e ∙ ap (λ k. x ∷ drop k xs) same

pub none_back : (xs : List Record) (j : ℕ) → 0 < j → slice_get xs (j - 1) ≡ None → drop (j - 1) xs ≡ drop j xs
none_back xs j h e = let same : suc (j - 1) ≡ j = omega arith in drop_none xs (j - 1) e ∙ ap (λ k. drop k xs) same

pub whole_by : (xs : List Record) (j : ℕ) (x : Record) → 0 < j → slice_get xs (j - 1) ≡ Some x → xs ≡ take (j - 1) xs ++ x ∷ drop j xs
whole_by xs j x h e = sym (take-append-drop (j - 1) xs) ∙ ap (λ z. take (j - 1) xs ++ z) (one_back xs j x h e)

pub access_more : (xs : List Record) (j : ℕ) (x : Record) → 0 < j → slice_get xs (j - 1) ≡ Some x → x.access ≡ true → memory_records (drop (j - 1) xs) ≡ suc (memory_records (drop j xs))
access_more xs j x h e a = ap memory_records (one_back xs j x h e) ∙ ap (λ b. cond b (suc (memory_records (drop j xs))) (memory_records (drop j xs))) a

pub access_same : (xs : List Record) (j : ℕ) (x : Record) → 0 < j → slice_get xs (j - 1) ≡ Some x → x.access ≡ false → memory_records (drop (j - 1) xs) ≡ memory_records (drop j xs)
access_same xs j x h e a = ap memory_records (one_back xs j x h e) ∙ ap (λ b. cond b (suc (memory_records (drop j xs))) (memory_records (drop j xs))) a

pub record IsOrdered (xs : List Note) (x : Note) (ys : List Note) : Type 0 where
  pub before : AllByRecursion (λ n. n.at < x.at) xs
  pub after : AllByRecursion (λ n. x.at < n.at) ys

below_all : (P : Program) (ts : List Tenant) → AllByRecursion (λ n. n.at < length ts) (trail P ts)
below_all P ts = all_map (IsNoted P ts) (λ n. n.at < length ts) (λ n i. at_below ts n.at i.tenant i.is) (trail P ts) (trail_noted P ts)

pub ordered : (P : Program) (ts : List Tenant) (xs : List Note) (x : Note) (ys : List Note) → trail P ts ≡ xs ++ x ∷ ys → IsOrdered xs x ys
ordered P [] xs x ys e = absurd (not_nil xs x ys e)
  where
    not_nil : (xs : List Note) (x : Note) (ys : List Note) → [] ≢ xs ++ x ∷ ys
    not_nil [] x ys e = cc e
    not_nil (z ∷ xs) x ys e = cc e
ordered P (t ∷ ts) xs x ys e = go (on_path t) refl (ordered P ts)
  where
    go : (b : Bool) → on_path t ≡ b → ((xs : List Note) (x : Note) (ys : List Note) → trail P ts ≡ xs ++ x ∷ ys → IsOrdered xs x ys) → IsOrdered xs x ys
    go false o more = more xs x ys (sym (trail_off P t ts o) ∙ e)
    go true o more =
        let n = note P ts t in
        let below = below_all P ts in
        ⊎_elim
        (λ (none : ys ≡ []).
        let same = last_same (trail P ts) xs n x (sym (trail_on P t ts o) ∙ (e ∙ ap (λ z. xs ++ x ∷ z) none)) in
        record {
          before = subst (λ (z : List Note × Note). AllByRecursion (λ m. m.at < z.1.at) z.0) (λ i. (same.fronts i, same.ones i)) below;
          after = subst (AllByRecursion (λ m. x.at < m.at)) (sym none) tt;
        })
        (λ (l : Last ys).
        let same = last_same (trail P ts) (xs ++ x ∷ l.front) n l.one (sym (trail_on P t ts o) ∙ (e ∙ (ap (λ z. xs ++ x ∷ z) l.is ∙ sym (append_assoc xs (x ∷ l.front) (l.one ∷ []))))) in
        let i = more xs x l.front same.fronts in
        let here : x.at < length ts = (all_rest (λ m. m.at < length ts) xs (x ∷ l.front) (subst (AllByRecursion (λ m. m.at < length ts)) same.fronts below)).0 in
        let last : x.at < l.one.at = subst (λ (z : Note). x.at < z.at) same.ones here in
        record {
          before = i.before;
          after = subst (AllByRecursion (λ m. x.at < m.at)) (sym l.is) (all_both (λ m. x.at < m.at) l.front (l.one ∷ []) i.after (last, tt));
        })
        (last_cases ys)

-- a record in the midst
pub record IsSplit (notes : List Note) (older : List Record) (x : Record) (younger : List Record) : Type 0 where
  pub before : List Note
  pub one : Note
  pub after : List Note
  pub is : notes ≡ before ++ one ∷ after
  pub what : one.what ≡ x
  pub rest : whats after ≡ younger
  pub prior : whats before ≡ older

pub split_whats : (notes : List Note) (older : List Record) (x : Record) (younger : List Record) → whats notes ≡ older ++ x ∷ younger → IsSplit notes older x younger
split_whats [] [] x younger e = absurd (cc e)
split_whats [] (y ∷ older) x younger e = absurd (cc e)
split_whats (n ∷ notes) [] x younger e = record {
  before = [];
  one = n;
  after = notes;
  is = refl;
  what = head_of n.what x (whats notes) younger e;
  rest = tail_of n.what x (whats notes) younger e;
  prior = refl;
}
split_whats (n ∷ notes) (y ∷ older) x younger e =
    let s = split_whats notes older x younger (tail_of n.what y (whats notes) (older ++ x ∷ younger) e) in
    record {
      before = n ∷ s.before;
      one = s.one;
      after = s.after;
      is = ap (λ z. n ∷ z) s.is;
      what = s.what;
      rest = s.rest;
      prior = λ i. head_of n.what y (whats notes) (older ++ x ∷ younger) e i ∷ s.prior i;
    }

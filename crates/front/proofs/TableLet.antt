-- The create vector after a let.
use Rattle.std.proofs.Common.{◌≡◌, ◌≢◌, ◌⊎◌, ℕ, ◌<◌, ◌≤◌, List, [], ◌∷◌, ◌++◌, length, Some, refl, sym, ap, ◌∙◌, subst, inl, inr, ⊎_elim}
use Rattle.std.proofs.Common.{arith, append_assoc}
use mathlib.Core.Logic.{dite}
use native.Mathlib.Decide.{ℕ_discrete}
use Rattle.std.proofs.lemmas.Bool.{cases_lt}
use Rattle.std.specs.List.{AllByRecursion}
use Rattle.std.specs.Prelude.{slice_get, slice_set}
use Rattle.std.proofs.lemmas.Option.{same_Some}
use Rattle.instructions.specs.Programs.{Program}
use Rattle.inorder.specs.declared.history.Step.TheVariants.{Let}
use Rattle.inorder.specs.declared.history.Supply.{Supply}
use Rattle.inorder.specs.Callers.{IsLastAt}
use Rattle.inorder.specs.Legal.{applied}
use Rattle.inorder.specs.Steps.{new_tenant}
use Rattle.inorder.specs.Tenants.{Tenant}
use Rattle.inorder.specs.Unit.{Sizes, UpdateUnit, at}
use Rattle.inorder.proofs.Creators.{at_cases}
use Rattle.inorder.proofs.Positions.{at_below, at_more, at_new}
use Rattle.front.specs.declared.path.counted.Saved.{Saved}
use Rattle.front.specs.declared.path.counted.Table.{Table}
use Rattle.front.specs.CreateTable.{HasTable, IsEntered, IsLatest, table_entry_in, table_entry}
use Rattle.front.specs.Knows.{IsNewest}
use Rattle.front.specs.Trail.{Note, note, record_of, trail}
use Rattle.front.proofs.Lists.{Last, all_rest, last_cases, last_same}
use Rattle.front.proofs.Trails.{IsNoted, trail_noted, trail_on}
use Rattle.front.proofs.TableEntries.{entry_else, entry_new, entry_there, set_length, set_other, set_same}

module _ (P : Program) (C : Sizes) (U : UpdateUnit) (by index predicted : ℕ) (first second : Supply) (told : ℕ) (T T' : Table) (k : HasTable P U told T) (past : told ≤ length U.tenants)
    (inside : (new_tenant P C U index predicted first second).station < 32)
    (unique : (p q : ℕ) (t u : Tenant) → told ≤ p → told ≤ q → at (applied P C U by (Let index predicted first second)).tenants p ≡ Some t →
    at (applied P C U by (Let index predicted first second)).tenants q ≡ Some u → t.station ≡ u.station → t.tag ≡ u.tag → p ≡ q)
    (entered : IsEntered T T' (record_of P (new_tenant P C U index predicted first second))) where
  abbrev new : Tenant
  new = new_tenant P C U index predicted first second

  abbrev W : UpdateUnit
  W = applied P C U by (Let index predicted first second)

  abbrev d : ℕ
  d = (record_of P new).destination

  e : IsEntered T T' (record_of P new)
  e = entered

  path : trail P W.tenants ≡ trail P U.tenants ++ note P U.tenants new ∷ []
  path = trail_on P new U.tenants refl

  last_old : (q x : ℕ) → IsLastAt W q x → IsLastAt U q x
  last_old q x h = λ r v lt is same. h r v lt (at_more new U.tenants r v is) same

  latest_here : slice_get T'.latest new.station ≡ Some e.saved
  latest_here = ap (λ z. slice_get z new.station) e.latest ∙ set_same T.latest new.station e.saved (subst (λ z. new.station < z) (sym k.deep) inside)

  latest_there : (s : ℕ) → s ≢ new.station → slice_get T'.latest s ≡ slice_get T.latest s
  latest_there s n = ap (λ z. slice_get z s) e.latest ∙ set_other T.latest new.station s e.saved (λ x. n (sym x))

  -- a last one of before is at another station
  apart : (q : ℕ) (t : Tenant) → at U.tenants q ≡ Some t → (x : ℕ) → IsLastAt W q x → x ≢ new.station
  apart q t is x last same = last (length U.tenants) new (at_below U.tenants q t is) (at_new new U.tenants) (sym same)

  latest : (q : ℕ) (t : Tenant) → told ≤ q → at W.tenants q ≡ Some t → IsLastAt W q t.station → IsLatest T'.latest (record_of P t)
  latest q t new_one is last = ⊎_elim
      (λ old. let l = k.latest q t new_one old (last_old q t.station last) in record { saved = l.saved; is = latest_there t.station (apart q t old t.station last) ∙ l.is; of = l.of })
      (λ (x : (q ≡ length U.tenants) × (new ≡ t)). subst (λ z. IsLatest T'.latest (record_of P z)) x.1 (record { saved = e.saved; is = latest_here; of = e.of }))
      (at_cases new U.tenants q t is)

  stale : (p q : ℕ) (t u : Tenant) → told ≤ p → p < q → at W.tenants p ≡ Some t → at W.tenants q ≡ Some u → u.station ≡ t.station → (s : Saved) → slice_get T'.latest t.station ≡ Some s → s.tag ≢ t.tag
  stale p q t u new_one lt is is' same s g = dite (ℕ_discrete t.station new.station) here there
    where
      wide : q < length W.tenants
      wide = at_below W.tenants q u is'

      here : t.station ≡ new.station → s.tag ≢ t.tag
      here place f =
          let its : e.saved ≡ s = same_Some e.saved s (sym latest_here ∙ (ap (slice_get T'.latest) (sym place) ∙ g)) in
          let tag : t.tag ≡ new.tag = sym f ∙ (ap (λ (z : Saved). z.tag) (sym its) ∙ e.of.tag) in
          let both : p ≡ length U.tenants = unique p (length U.tenants) t new new_one past is (at_new new U.tenants) place tag in
          absurd (omega (arith, lt, both, wide))

      there : t.station ≢ new.station → s.tag ≢ t.tag
      there n = ⊎_elim
          (λ old. ⊎_elim
          (λ old'. k.stale p q t u new_one lt old old' same s (sym (latest_there t.station n) ∙ g))
          (λ (x : (q ≡ length U.tenants) × (new ≡ u)). absurd (n (sym same ∙ ap (λ (z : Tenant). z.station) (sym x.1))))
          (at_cases new U.tenants q u is'))
          (λ (x : (p ≡ length U.tenants) × (new ≡ t)). absurd (n (ap (λ (z : Tenant). z.station) (sym x.1))))
          (at_cases new U.tenants p t is)

  entries_set : 0 < d → d < 34 → T'.entries ≡ slice_set T.entries d (table_entry told (Some (note P U.tenants new)))
  entries_set pos less = e.entries pos less ∙ ap (slice_set T.entries d) (sym (entry_there told (note P U.tenants new) past))

  other : (r : ℕ) → d ≢ r → (0 < d) ⊎ (d ≤ 0) → (d < 34) ⊎ (34 ≤ d) → slice_get T'.entries r ≡ slice_get T.entries r
  other r n (inl pos) (inl less) = ap (λ z. slice_get z r) (entries_set pos less) ∙ set_other T.entries d r _ n
  other r n (inl pos) (inr more) = ap (λ z. slice_get z r) (e.none (λ b. omega (arith, b.1, more)))
  other r n (inr none) h = ap (λ z. slice_get z r) (e.none (λ b. omega (arith, b.0, none)))

  wide : (0 < d) ⊎ (d ≤ 0) → (d < 34) ⊎ (34 ≤ d) → length T'.entries ≡ 34
  wide (inl pos) (inl less) = ap (λ z. length z) (entries_set pos less) ∙ (set_length T.entries d _ ∙ k.wide)
  wide (inl pos) (inr more) = ap (λ z. length z) (e.none (λ b. omega (arith, b.1, more))) ∙ k.wide
  wide (inr none) h = ap (λ z. length z) (e.none (λ b. omega (arith, b.0, none))) ∙ k.wide

  mine : 0 < d → d < 34 → slice_get T'.entries d ≡ Some (table_entry_in told (trail P U.tenants ++ note P U.tenants new ∷ []) d)
  mine pos less =
      ap (λ z. slice_get z d) (entries_set pos less)
      ∙ (set_same T.entries d _ (subst (λ z. d < z) (sym k.wide) less)
      ∙ ap Some (sym (entry_new told (trail P U.tenants) (note P U.tenants new) d refl)))

  entries : (r : ℕ) → 0 < r → r < 34 → slice_get T'.entries r ≡ Some (table_entry_in told (trail P W.tenants) r)
  entries r pos less =
      dite (ℕ_discrete d r)
      (λ same. subst (λ z. slice_get T'.entries z ≡ Some (table_entry_in told (trail P U.tenants ++ note P U.tenants new ∷ []) z)) same
      (mine (subst (λ z. 0 < z) (sym same) pos) (subst (λ z. z < 34) (sym same) less)))
      (λ n. other r n (cases_lt 0 d) (cases_lt d 34) ∙ (k.entries r pos less ∙ ap Some (sym (entry_else told (trail P U.tenants) (note P U.tenants new) r n))))
      ∙ ap (λ z. Some (table_entry_in told z r)) (sym path)

  -- one in the middle of the path was there before
  noted_in : (xs ys : List Note) (n : Note) → trail P U.tenants ≡ xs ++ n ∷ ys → IsNoted P U.tenants n
  noted_in xs ys n f = (all_rest (IsNoted P U.tenants) xs (n ∷ ys) (subst (AllByRecursion (IsNoted P U.tenants)) f (trail_noted P U.tenants))).0

  replaced : (xs ys : List Note) (n : Note) → trail P W.tenants ≡ xs ++ n ∷ ys → (ys ≡ []) ⊎ Last ys → told ≤ n.at → IsNewest W n → 0 < n.what.destination → n.what.destination < 34 → (s : Saved)
      → slice_get T'.latest n.what.station ≡ Some s → s.replaced ≡ table_entry_in told xs n.what.destination
  replaced xs ys n split (inl none) untold newest pos less s g =
      let two = last_same (trail P U.tenants) xs (note P U.tenants new) n (sym path ∙ (split ∙ ap (λ z. xs ++ n ∷ z) none)) in
      let place : n.what.station ≡ new.station = ap (λ (z : Note). z.what.station) (sym two.ones) in
      let same : n.what.destination ≡ d = ap (λ (z : Note). z.what.destination) (sym two.ones) in
      let its : e.saved ≡ s = same_Some e.saved s (sym latest_here ∙ (ap (slice_get T'.latest) (sym place) ∙ g)) in
      ap (λ (z : Saved). z.replaced) (sym its)
      ∙ (e.replaced _ (k.entries d (subst (λ z. 0 < z) same pos) (subst (λ z. z < 34) same less))
      ∙ (λ i. table_entry_in told (two.fronts i) (sym same i)))
  replaced xs ys n split (inr l) untold newest pos less s g =
      let long : trail P U.tenants ++ note P U.tenants new ∷ [] ≡ (xs ++ n ∷ l.front) ++ l.one ∷ [] = sym path ∙
      (split ∙ (ap (λ z. xs ++ n ∷ z) l.is ∙ sym (append_assoc xs (n ∷ l.front) (l.one ∷ [])))) in
      let two = last_same (trail P U.tenants) (xs ++ n ∷ l.front) (note P U.tenants new) l.one long in
      let was = noted_in xs l.front n two.fronts in
      k.replaced xs l.front n two.fronts untold (last_old n.at n.what.station newest) pos less s
      (sym (latest_there n.what.station (apart n.at was.tenant was.is n.what.station newest)) ∙ g)

  pub table_let : HasTable P W told T'
  table_let = record {
    wide = wide (cases_lt 0 d) (cases_lt d 34);
    deep = ap (λ z. length z) e.latest ∙ (set_length T.latest new.station e.saved ∙ k.deep);
    entries = entries;
    latest = latest;
    stale = stale;
    replaced = λ xs ys n split. replaced xs ys n split (last_cases ys);
  }

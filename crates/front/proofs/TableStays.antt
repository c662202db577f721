-- The create vector stays under the steps of others, a squash, a mending and a question.
use Rattle.std.proofs.Common.{◌≡◌, ◌≢◌, ◌⊎◌, ℕ, ◌<◌, ◌≤◌, Bool, true, false, cond, eqb, List, [], ◌∷◌, ◌++◌, length, Some, None, refl, sym, ap, ◌∙◌, subst, inl, inr, ⊎_elim}
use Rattle.std.proofs.Common.{arith, append_assoc, leb}
use mathlib.Core.Logic.{dite}
use native.Mathlib.Decide.{ℕ_discrete}
use Rattle.std.proofs.lemmas.Bool.{cases_lt}
use Rattle.std.specs.List.{AllByRecursion}
use Rattle.std.specs.Prelude.{slice_get, slice_set}
use Rattle.instructions.specs.Instruction.{destination, kind, pc_plus_4}
use Rattle.instructions.specs.Programs.{Program, instr_of}
use Rattle.inorder.specs.declared.history.Act.{Act}
use Rattle.inorder.specs.declared.history.Act.TheVariants.{Deliver, Link}
use Rattle.inorder.specs.declared.history.Entry.{Entry}
use Rattle.inorder.specs.declared.history.Event.{Event}
use Rattle.inorder.specs.declared.history.Event.TheVariants.{Does, Marks}
use Rattle.inorder.specs.declared.history.Mark.TheVariants.{Asked}
use Rattle.inorder.specs.declared.history.Source.{Source}
use Rattle.inorder.specs.declared.history.Step.{Step}
use Rattle.inorder.specs.declared.history.Step.TheVariants.{Let, On, Renew}
use Rattle.inorder.specs.Callers.{IsLastAt}
use Rattle.inorder.specs.History.{front, unit_of}
use Rattle.inorder.specs.OneHistory.{Adds}
use Rattle.inorder.specs.Legal.{Allowed, applied}
use Rattle.inorder.specs.Tenants.{Tenant}
use Rattle.inorder.specs.Unit.{Sizes, UpdateUnit, at}
use Rattle.inorder.proofs.Moves.{Goes, came, goes}
use Rattle.inorder.proofs.Sound.{IsSound}
use Rattle.station.specs.Asking.{IsQuestion}
use Rattle.front.specs.declared.path.counted.Saved.{Saved}
use Rattle.front.specs.declared.path.counted.Table.{Table}
use Rattle.front.specs.declared.path.record.Record.{Record}
use Rattle.front.specs.CreateTable.{HasTable, IsLatest, IsRestored, table_entry_in, table_entry}
use Rattle.front.specs.Creators.{newest_note}
use Rattle.front.specs.Knows.{IsNewest}
use Rattle.front.specs.Trail.{Note, is_link, record_of, trail}
use Rattle.front.proofs.Lists.{Last, last_cases, last_same}
use Rattle.front.proofs.Splitting.{IsStable, KeepsEvent, stays}
use Rattle.front.proofs.Stays.{IsQuiet, quiet_of, trail_stays}
use Rattle.front.proofs.Trails.{IsNoted}
use Rattle.front.proofs.TableEntries.{entry_else, entry_more, set_length, set_other, set_same}

-- What is kept of a tenant does not follow where it goes on
kept_on : (P : Program) (latest : List Saved) (by : ℕ) (s : Step) (t t' : Tenant) → Goes by s t t' → IsLatest latest (record_of P t) → IsLatest latest (record_of P t')
kept_on P latest by s t t' g l = record {
  saved = l.saved;
  is = ap (slice_get latest) g.station ∙ l.is;
  of = record {
    tag = l.of.tag ∙ sym g.tag;
    register = l.of.register ∙ (λ i. destination (instr_of P (sym g.index i)) (sym g.half i));
    made = l.of.made ∙ (λ i. cond (is_link (kind (instr_of P (sym g.index i)).op)) (Some (pc_plus_4 (sym g.pc i))) None);
  };
}

module _ (P : Program) (C : Sizes) (U : UpdateUnit) (by p : ℕ) (act : Act) (a : Allowed P C U by (On p act)) (ok : IsSound P U.tenants) (told : ℕ) where
  abbrev V : UpdateUnit
  V = applied P C U by (On p act)

  last_back : (q x : ℕ) → IsLastAt V q x → IsLastAt U q x
  last_back q x h = λ r v lt is same. let g = goes P C U by (On p act) a ok r v is in h r g.tenant lt g.is (g.goes.station ∙ same)

  latest_on : (latest : List Saved) → ((q : ℕ) (t : Tenant) → told ≤ q → at U.tenants q ≡ Some t → IsLastAt U q t.station → IsLatest latest (record_of P t))
      → (q : ℕ) (u : Tenant) → told ≤ q → at V.tenants q ≡ Some u → IsLastAt V q u.station → IsLatest latest (record_of P u)
  latest_on latest k q u new is last =
      let w = came P C U by p act a ok q u is in
      kept_on P latest by (On p act) w.tenant u w.goes (k q w.tenant new w.is (subst (IsLastAt U q) w.goes.station (last_back q u.station last)))

  stale_on : (T : Table) → HasTable P U told T → (q r : ℕ) (t u : Tenant) → told ≤ q → q < r → at V.tenants q ≡ Some t → at V.tenants r ≡ Some u → u.station ≡ t.station → (s : Saved)
      → slice_get T.latest t.station ≡ Some s → s.tag ≢ t.tag
  stale_on T k q r t u new lt is is' same s e f =
      let w = came P C U by p act a ok q t is in
      let v = came P C U by p act a ok r u is' in
      k.stale q r w.tenant v.tenant new lt w.is v.is (sym v.goes.station ∙ (same ∙ w.goes.station)) s (ap (slice_get T.latest) (sym w.goes.station) ∙ e) (f ∙ w.goes.tag)

  -- a step that leaves the path
  pub table_on : (T : Table) → HasTable P U told T → trail P V.tenants ≡ trail P U.tenants → HasTable P V told T
  table_on T k e = record {
    wide = k.wide;
    deep = k.deep;
    entries = λ r pos lt. k.entries r pos lt ∙ ap (λ z. Some (table_entry_in told z r)) (sym e);
    latest = latest_on T.latest k.latest;
    stale = stale_on T k;
    replaced = λ xs ys n split new newest. k.replaced xs ys n (sym e ∙ split) new (last_back n.at n.what.station newest);
  }

  -- the last one of the path is squashed
  pub table_cut : (T T' : Table) → HasTable P U told T → (fs : List Note) (x : Note) → told ≤ x.at → trail P U.tenants ≡ fs ++ x ∷ [] → trail P V.tenants ≡ fs → IsNewest U x → IsNoted P U.tenants x
      → IsRestored T T' x.what.station → HasTable P V told T'
  table_cut T T' k fs x untold e f newest noted restored = record {
    wide = wide (cases_lt 0 d) (cases_lt d 34);
    deep = ap (λ z. length z) restored.latest ∙ k.deep;
    entries = entries;
    latest = latest_on T'.latest (λ q t new is last. subst (λ z. IsLatest z (record_of P t)) (sym restored.latest) (k.latest q t new is last));
    stale = λ q r t u new lt is is' same s g. stale_on T k q r t u new lt is is' same s (ap (λ z. slice_get z t.station) (sym restored.latest) ∙ g);
    replaced = λ xs ys n split untold new pos less s g.
        k.replaced xs (ys ++ x ∷ []) n
        (e ∙ (ap (λ z. z ++ x ∷ []) (sym f ∙ split) ∙ append_assoc xs (n ∷ ys) (x ∷ [])))
        untold (last_back n.at n.what.station new) pos less s (ap (λ z. slice_get z n.what.station) (sym restored.latest) ∙ g);
  }
    where
      d : ℕ
      d = x.what.destination

      l : IsLatest T.latest (record_of P noted.tenant)
      l = k.latest x.at noted.tenant untold noted.is (subst (IsLastAt U x.at) (ap (λ (z : Record). z.station) (sym noted.what)) newest)

      here : slice_get T.latest x.what.station ≡ Some l.saved
      here = ap (slice_get T.latest) (ap (λ (z : Record). z.station) (sym noted.what)) ∙ l.is

      register : l.saved.register ≡ d
      register = l.of.register ∙ ap (λ (z : Record). z.destination) noted.what

      set_there : 0 < d → d < 34 → T'.entries ≡ slice_set T.entries d l.saved.replaced
      set_there pos less = restored.entries l.saved here (subst (λ z. 0 < z) (sym register) pos) (subst (λ z. z < 34) (sym register) less) ∙ ap (λ z. slice_set T.entries z l.saved.replaced) register

      left : ¬ ((0 < d) × (d < 34)) → T'.entries ≡ T.entries
      left out = restored.none l.saved here (λ b. out (subst (λ z. 0 < z) register b.0, subst (λ z. z < 34) register b.1))

      wide : (0 < d) ⊎ (d ≤ 0) → (d < 34) ⊎ (34 ≤ d) → length T'.entries ≡ 34
      wide (inl pos) (inl less) = ap (λ z. length z) (set_there pos less) ∙ (set_length T.entries d l.saved.replaced ∙ k.wide)
      wide (inl pos) (inr more) = ap (λ z. length z) (left (λ b. omega (arith, b.1, more))) ∙ k.wide
      wide (inr none) h = ap (λ z. length z) (left (λ b. omega (arith, b.0, none))) ∙ k.wide

      old_entry : (r : ℕ) → 0 < r → r < 34 → d ≢ r → slice_get T.entries r ≡ Some (table_entry_in told fs r)
      old_entry r pos less n = k.entries r pos less ∙ ap Some (ap (λ z. table_entry_in told z r) e ∙ entry_else told fs x r n)

      other : (r : ℕ) → d ≢ r → (0 < d) ⊎ (d ≤ 0) → (d < 34) ⊎ (34 ≤ d) → slice_get T'.entries r ≡ slice_get T.entries r
      other r n (inl pos) (inl less) = ap (λ z. slice_get z r) (set_there pos less) ∙ set_other T.entries d r l.saved.replaced n
      other r n (inl pos) (inr more) = ap (λ z. slice_get z r) (left (λ b. omega (arith, b.1, more)))
      other r n (inr none) h = ap (λ z. slice_get z r) (left (λ b. omega (arith, b.0, none)))

      mine : 0 < d → d < 34 → slice_get T'.entries d ≡ Some (table_entry_in told fs d)
      mine pos less =
          let inside : d < length T.entries = subst (λ z. d < z) (sym k.wide) less in
          ap (λ z. slice_get z d) (set_there pos less) ∙ (set_same T.entries d l.saved.replaced inside ∙ ap Some (k.replaced fs [] x e untold newest pos less l.saved here))

      entries : (r : ℕ) → 0 < r → r < 34 → slice_get T'.entries r ≡ Some (table_entry_in told (trail P V.tenants) r)
      entries r pos less =
          dite (ℕ_discrete d r)
          (λ same. subst (λ z. slice_get T'.entries z ≡ Some (table_entry_in told fs z)) same (mine (subst (λ z. 0 < z) (sym same) pos) (subst (λ z. z < 34) (sym same) less)))
          (λ n. other r n (cases_lt 0 d) (cases_lt d 34) ∙ old_entry r pos less n)
          ∙ ap (λ z. Some (table_entry_in told z r)) (sym f)

  -- the last one of the path goes on elsewhere
  pub table_mended : (T : Table) → HasTable P U told T → (fs : List Note) (x y : Note) → trail P U.tenants ≡ fs ++ x ∷ [] → trail P V.tenants ≡ fs ++ y ∷ [] → y.at ≡ x.at
      → y.what.station ≡ x.what.station → y.what.tag ≡ x.what.tag → y.what.destination ≡ x.what.destination → HasTable P V told T
  table_mended T k fs x y e f same_at station tag dest = record {
    wide = k.wide;
    deep = k.deep;
    entries = λ r pos less. k.entries r pos less ∙ ap Some (ap (λ z. table_entry_in told z r) e ∙ (entry_same r ∙ ap (λ z. table_entry_in told z r) (sym f)));
    latest = latest_on T.latest k.latest;
    stale = stale_on T k;
    replaced = λ xs ys n split untold newest pos less s g. replaced xs ys n split (last_cases ys) untold newest pos less s g;
  }
    where
      entry_same : (r : ℕ) → table_entry_in told (fs ++ x ∷ []) r ≡ table_entry_in told (fs ++ y ∷ []) r
      entry_same r =
          entry_more told fs x r
          ∙ (ap (λ z. table_entry told (cond (eqb z r) (Some x) (newest_note None fs r))) (sym dest)
          ∙ (either (eqb y.what.destination r) ∙ sym (entry_more told fs y r)))
        where
          either : (b : Bool) → table_entry told (cond b (Some x) (newest_note None fs r)) ≡ table_entry told (cond b (Some y) (newest_note None fs r))
          either true = λ i. cond (leb told (sym same_at i)) (Some (record { station = sym station i; tag = sym tag i })) None
          either false = refl

      replaced : (xs ys : List Note) (n : Note) → trail P V.tenants ≡ xs ++ n ∷ ys → (ys ≡ []) ⊎ Last ys → told ≤ n.at → IsNewest V n → 0 < n.what.destination → n.what.destination < 34 → (s : Saved)
          → slice_get T.latest n.what.station ≡ Some s → s.replaced ≡ table_entry_in told xs n.what.destination
      replaced xs ys n split (inl none) untold newest pos less s g =
          let two = last_same fs xs y n (sym f ∙ (split ∙ ap (λ z. xs ++ n ∷ z) none)) in
          let d : n.what.destination ≡ x.what.destination = ap (λ (z : Note). z.what.destination) (sym two.ones) ∙ dest in
          let place : n.what.station ≡ x.what.station = ap (λ (z : Note). z.what.station) (sym two.ones) ∙ station in
          let here : n.at ≡ x.at = ap (λ (z : Note). z.at) (sym two.ones) ∙ same_at in
          let last : IsNewest U x = subst (λ (z : ℕ × ℕ). IsLastAt U z.0 z.1) (λ i. (here i, place i)) (last_back n.at n.what.station newest) in
          k.replaced fs [] x e (subst (λ z. told ≤ z) here untold) last (subst (λ z. 0 < z) d pos) (subst (λ z. z < 34) d less) s (ap (slice_get T.latest) (sym place) ∙ g)
          ∙ (λ i. table_entry_in told (two.fronts i) (sym d i))
      replaced xs ys n split (inr l) untold newest pos less s g =
          let long : fs ++ y ∷ [] ≡ (xs ++ n ∷ l.front) ++ l.one ∷ [] = sym f ∙ (split ∙ (ap (λ z. xs ++ n ∷ z) l.is ∙ sym (append_assoc xs (n ∷ l.front) (l.one ∷ [])))) in
          let two = last_same fs (xs ++ n ∷ l.front) y l.one long in
          k.replaced xs (l.front ++ x ∷ []) n (e ∙ (ap (λ z. z ++ x ∷ []) two.fronts ∙ append_assoc xs (n ∷ l.front) (x ∷ []))) untold (last_back n.at n.what.station newest) pos less s g

-- Steps of others, and questions

module _ (P : Program) (C : Sizes) (told : ℕ) (T : Table) where
  pub table_quiet : (U : UpdateUnit) (by : ℕ) (s : Step) → IsQuiet s → Allowed P C U by s → IsSound P U.tenants → HasTable P U told T → HasTable P (applied P C U by s) told T
  table_quiet U by (Let i pr f g) b a ok k = absurd b
  table_quiet U by Renew b a ok k = absurd b
  table_quiet U by (On p act) b a ok k = table_on P C U by p act a ok told T k (trail_stays P C U by (On p act) b a ok)

  pub table_stable : IsStable P C (λ U. HasTable P U told T)
  table_stable U by s b a ok k = table_quiet U by s (quiet_of s b) a ok k

  pub question_leaves_table : (p : ℕ) (k : Source) (events : List Event) → IsQuestion p k events → AllByRecursion (KeepsEvent P C (λ U. HasTable P U told T)) events
  question_leaves_table p k events e = ⊎_elim
      (λ (f : events ≡ Marks (Asked p k) ∷ Does (On p (Link k)) ∷ []). subst (AllByRecursion (KeepsEvent P C (λ U. HasTable P U told T))) (sym f) (tt, (link, tt)))
      (λ (f : events ≡ Marks (Asked p k) ∷ Does (On p (Deliver k)) ∷ Does (On p (Link k)) ∷ []). subst (AllByRecursion (KeepsEvent P C (λ U. HasTable P U told T))) (sym f) (tt, (deliver, (link, tt))))
      e
    where
      deliver : KeepsEvent P C (λ U. HasTable P U told T) (Does (On p (Deliver k)))
      deliver U a ok i = table_quiet U front (On p (Deliver k)) tt a ok i

      link : KeepsEvent P C (λ U. HasTable P U told T) (Does (On p (Link k)))
      link U a ok i = table_quiet U front (On p (Link k)) tt a ok i

-- where the front has added nothing
pub still_has_table : {P : Program} {C : Sizes} {old new : List Entry} {told : ℕ} {T : Table} → Adds P C front old new [] → HasTable P (unit_of P C old) told T → HasTable P (unit_of P C new) told T
still_has_table {P} {C} {old} {new} {told} {T} a k = stays P C (λ U. HasTable P U told T) (table_stable P C told T) old new a k

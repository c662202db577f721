-- Telling of all records is telling of all tenants of whom nobody was told.
use Rattle.std.proofs.Common.{◌≡◌, ◌⊎◌, ℕ, ◌<◌, ◌≤◌, Bool, true, false, not, cond, ◌&&◌, ◌||◌, eqb, eqb-true, eq-eqb, leb, leb-true, le-leb, List, [], ◌∷◌, ◌++◌, length, Some, refl, sym, ap, ◌∙◌}
use Rattle.std.proofs.Common.{subst, inl, inr, ⊎_elim, arith, append_assoc, true≢false}
use mathlib.Core.Logic.{dite}
use native.Mathlib.Decide.{ℕ_discrete}
use Rattle.std.proofs.lemmas.List.{append-nil}
use Rattle.std.specs.List.{AllByRecursion}
use Rattle.std.proofs.lemmas.Option.{same_Some}
use Rattle.instructions.specs.Guesses.{IsTold}
use Rattle.instructions.specs.Programs.{Program}
use Rattle.inorder.specs.Callers.{is_retired, stands_retired}
use Rattle.inorder.specs.Tenants.{IsNotLive, Live, Retired, Squashed, Standing, Tenant, computed_next, on_path, stands_on_path}
use Rattle.inorder.specs.Unit.{Sizes, UpdateUnit, at}
use Rattle.inorder.proofs.Positions.{all_at, at_below, at_more, at_new}
use Rattle.inorder.proofs.Sound.{IsSound}
use Rattle.front.specs.declared.path.base_state.Base.{Base}
use Rattle.front.specs.declared.path.record.Record.{Record}
use Rattle.front.specs.Knows.{IsFolded, IsNewest, IsReused, FrontKnows, whats}
use Rattle.front.specs.Path.{rested_at}
use Rattle.front.specs.Rests.{TellsEach, TellsRecords, all_untold, is_let_to, is_untold}
use Rattle.front.specs.Training.{leaver_if}
use Rattle.front.specs.Trail.{Note, is_guessed, note, trail}
use Rattle.station.specs.Renewals.{HasNobody}
use Rattle.station.proofs.Waking.{either_other}
use Rattle.front.proofs.Lists.{Last, all_front, all_rest, all_two, last_cases, last_same, whats_append}
use Rattle.front.proofs.Resting.{left_path}
use Rattle.front.proofs.Trained.{went_on}
use Rattle.front.proofs.Trails.{trail_off, trail_on}

-- Tellings, one after the other

module _ {S : Type 0} (Learns : S → ℕ → ℕ → S → Type 0) where
  pub tells_more : (xs : List Record) (x : Record) (a b c : S) → TellsRecords Learns xs a b → IsTold Learns (leaver_if x.guessed x.pc x.next) b c → TellsRecords Learns (xs ++ x ∷ []) a c
  tells_more [] x a b c t u = (c, (subst (λ z. IsTold Learns (leaver_if x.guessed x.pc x.next) z c) t u, refl))
  tells_more (y ∷ xs) x a b c t u = (t.0, (t.1.0, tells_more xs x t.0 b c t.1.1 u))

  record IsToldLast (xs : List Record) (x : Record) (a c : S) : Type 0 where
    pub middle : S
    pub first : TellsRecords Learns xs a middle
    pub last : IsTold Learns (leaver_if x.guessed x.pc x.next) middle c

  tells_last : (xs : List Record) (x : Record) (a c : S) → TellsRecords Learns (xs ++ x ∷ []) a c → IsToldLast xs x a c
  tells_last [] x a c t = record { middle = a; first = refl; last = subst (λ z. IsTold Learns (leaver_if x.guessed x.pc x.next) a z) (sym t.1.1) t.1.0 }
  tells_last (y ∷ xs) x a c t = let l = tells_last xs x t.0 c t.1.1 in record { middle = l.middle; first = (t.0, (t.1.0, l.first)); last = l.last }

  each_more : (P : Program) (ts : List Tenant) (t : Tenant) (a b c : S) → TellsEach Learns P ts a b →
      IsTold Learns (leaver_if (is_guessed P t) t.pc (computed_next P t)) b c → TellsEach Learns P (ts ++ t ∷ []) a c
  each_more P [] t a b c e u = (c, (subst (λ z. IsTold Learns (leaver_if (is_guessed P t) t.pc (computed_next P t)) z c) e u, refl))
  each_more P (v ∷ ts) t a b c e u = (e.0, (e.1.0, each_more P ts t e.0 b c e.1.1 u))

-- A list with younger ones, the oldest of these first

abbrev glue : List Tenant → List Tenant → List Tenant
glue [] ts = ts
glue (y ∷ ys) ts = glue ys (y ∷ ts)

at_glue : (ys ts : List Tenant) (q : ℕ) (u : Tenant) → at ts q ≡ Some u → at (glue ys ts) q ≡ Some u
at_glue [] ts q u e = e
at_glue (y ∷ ys) ts q u e = at_glue ys (y ∷ ts) q u (at_more y ts q u e)

-- a younger one of a station
record IsAgain (us ts : List Tenant) (s : ℕ) : Type 0 where
  pub q : ℕ
  pub tenant : Tenant
  pub behind : length ts ≤ q
  pub is : at us q ≡ Some tenant
  pub place : tenant.station ≡ s

again_there : (younger ts : List Tenant) (s : ℕ) → is_let_to younger s ≡ true → IsAgain (glue younger ts) ts s
again_there [] ts s e = absurd (cc e)
again_there (y ∷ ys) ts s e = go (eqb y.station s) refl (again_there ys (y ∷ ts) s)
  where
    go : (b : Bool) → eqb y.station s ≡ b → (is_let_to ys s ≡ true → IsAgain (glue ys (y ∷ ts)) (y ∷ ts) s) → IsAgain (glue ys (y ∷ ts)) ts s
    go true f more = record { q = length ts; tenant = y; behind = omega arith; is = at_glue ys (y ∷ ts) (length ts) y (at_new y ts); place = eqb-true y.station s f }
    go false f more =
        let i = more (ap (λ b. b || is_let_to ys s) (sym f) ∙ e) in
        record { q = i.q; tenant = i.tenant; behind = omega (arith, i.behind); is = i.is; place = i.place }

there_again : (younger ts : List Tenant) (s q : ℕ) (u : Tenant) → at (glue younger ts) q ≡ Some u → length ts ≤ q → u.station ≡ s → is_let_to younger s ≡ true
there_again [] ts s q u is le place = let b = at_below ts q u is in absurd (omega (arith, b, le))
there_again (y ∷ ys) ts s q u is le place = dite (ℕ_discrete q (length ts))
    (λ same.
    let there : at (glue ys (y ∷ ts)) q ≡ Some y = ap (at (glue ys (y ∷ ts))) same ∙ at_glue ys (y ∷ ts) (length ts) y (at_new y ts) in
    let one : y ≡ u = same_Some y u (sym there ∙ is) in
    ap (λ b. b || is_let_to ys s) (eq-eqb y.station s (ap (λ (z : Tenant). z.station) one ∙ place)))
    (λ ne. either_other (eqb y.station s) (is_let_to ys s) (there_again ys (y ∷ ts) s q u is (omega (arith, le, ne)) place))

module _ {S : Type 0} (Learns : S → ℕ → ℕ → S → Type 0) (P : Program) (U : UpdateUnit) (ok : IsSound P U.tenants) (nobody : HasNobody U) (told : ℕ) where
  abbrev IsIn : Note → Type 0
  IsIn n = IsNewest U n × (told ≤ n.at)

  module _ (t : Tenant) (ts younger : List Tenant) (split : U.tenants ≡ glue younger (t ∷ ts)) where
    its_place : at U.tenants (length ts) ≡ Some t
    its_place = ap (λ z. at z (length ts)) split ∙ at_glue younger (t ∷ ts) (length ts) t (at_new t ts)

    dead : IsNotLive t
    dead = all_at IsNotLive U.tenants nobody (length ts) t its_place

    off_untold : on_path t ≡ false → is_untold told younger t (length ts) ≡ false
    off_untold off = go t.standing refl
      where
        go : (s : Standing) → t.standing ≡ s → is_untold told younger t (length ts) ≡ false
        go Live e = absurd (dead e)
        go Retired e = absurd (true≢false (sym (ap stands_on_path e) ∙ off))
        go Squashed e = ap (λ z. stands_retired z && (leb told (length ts) && not (is_let_to younger t.station))) e

    out_untold : IsFolded U told (note P ts t) → is_untold told younger t (length ts) ≡ false
    out_untold f = and_false (is_retired t) _ (⊎_elim reused before f)
      where
        and_false : (a b : Bool) → b ≡ false → (a && b) ≡ false
        and_false true b e = e
        and_false false b e = refl

        reused : IsReused U (note P ts t) → (leb told (length ts) && not (is_let_to younger t.station)) ≡ false
        reused r = and_false (leb told (length ts)) _ (ap not (there_again younger (t ∷ ts) t.station r.p r.tenant.tenant (ap (λ z. at z r.p) (sym split) ∙ r.tenant.is) (omega (arith, r.behind))
            r.tenant.fact))

        before : length ts < told → (leb told (length ts) && not (is_let_to younger t.station)) ≡ false
        before lt = go (leb told (length ts)) refl
          where
            go : (b : Bool) → leb told (length ts) ≡ b → (leb told (length ts) && not (is_let_to younger t.station)) ≡ false
            go true e = let le = leb-true told (length ts) e in absurd (omega (arith, le, lt))
            go false e = ap (λ b. b && not (is_let_to younger t.station)) e

    in_untold : on_path t ≡ true → IsIn (note P ts t) → is_untold told younger t (length ts) ≡ true
    in_untold on i =
        ap (λ z. stands_retired z && (leb told (length ts) && not (is_let_to younger t.station))) (left_path t on dead)
        ∙ (ap (λ b. b && not (is_let_to younger t.station)) (le-leb told (length ts) i.1) ∙ ap not (go (is_let_to younger t.station) refl))
      where
        go : (b : Bool) → is_let_to younger t.station ≡ b → is_let_to younger t.station ≡ false
        go false e = e
        go true e =
            let a = again_there younger (t ∷ ts) t.station e in
            absurd (i.0 a.q a.tenant (omega (arith, a.behind)) (ap (λ z. at z a.q) split ∙ a.is) a.place)

    told_it : on_path t ≡ true → (a b : S) → IsTold Learns (leaver_if (is_guessed P t) t.pc t.next) a b → IsTold Learns (leaver_if (is_guessed P t) t.pc (computed_next P t)) a b
    told_it on a b x = subst (λ z. IsTold Learns (leaver_if (is_guessed P t) t.pc z) a b) (sym (went_on P U.tenants ok (length ts) t its_place (left_path t on dead))) x

  pub tells_all : (ts younger : List Tenant) → U.tenants ≡ glue younger ts → (g ns : List Note) →
      trail P ts ≡ g ++ ns → AllByRecursion (IsFolded U told) g → AllByRecursion IsIn ns → (a b : S) →
      TellsRecords Learns (whats ns) a b → TellsEach Learns P (all_untold told younger ts) a b
  tells_all [] younger split g ns path outs ins a b tells = empty g ns path tells
    where
      empty : (g ns : List Note) → [] ≡ g ++ ns → TellsRecords Learns (whats ns) a b → b ≡ a
      empty [] [] e t = t
      empty [] (n ∷ ns) e t = absurd (cc e)
      empty (x ∷ g) ns e t = absurd (cc e)
  tells_all (t ∷ ts) younger split g ns path outs ins a b tells = go (on_path t) refl (tells_all ts (t ∷ younger) split)
    where
      with_none : is_untold told younger t (length ts) ≡ false → TellsEach Learns P (all_untold told (t ∷ younger) ts) a b → TellsEach Learns P (all_untold told younger (t ∷ ts)) a b
      with_none f e =
          let same : all_untold told younger (t ∷ ts) ≡ all_untold told (t ∷ younger) ts = ap (λ z. all_untold told (t ∷ younger) ts ++ cond z (t ∷ []) []) f ∙
          append-nil (all_untold told (t ∷ younger) ts) in
          subst (λ z. TellsEach Learns P z a b) (sym same) e

      on : on_path t ≡ true → (ns ≡ []) ⊎ Last ns → ((g ns : List Note) → trail P ts ≡ g ++ ns → AllByRecursion (IsFolded U told) g → AllByRecursion IsIn ns → (a b : S) →
          TellsRecords Learns (whats ns) a b → TellsEach Learns P (all_untold told (t ∷ younger) ts) a b) → TellsEach Learns P (all_untold told younger (t ∷ ts)) a b
      on e (inl none) rest =
          let all : trail P ts ++ note P ts t ∷ [] ≡ g = sym (trail_on P t ts e) ∙ (path ∙ (ap (λ z. g ++ z) none ∙ append-nil g)) in
          let parts : AllByRecursion (IsFolded U told) (trail P ts ++ note P ts t ∷ []) = subst (AllByRecursion (IsFolded U told)) (sym all) outs in
          let its : IsFolded U told (note P ts t) = (all_rest (IsFolded U told) (trail P ts) (note P ts t ∷ []) parts).0 in
          with_none (out_untold t ts younger split its) (rest (trail P ts) [] (sym (append-nil (trail P ts))) (all_front (IsFolded U told) (trail P ts) (note P ts t ∷ []) parts) tt a b
          (subst (λ z. TellsRecords Learns (whats z) a b) none tells))
      on e (inr l) rest =
          let two = last_same (trail P ts) (g ++ l.front) (note P ts t) l.one (sym (trail_on P t ts e) ∙ (path ∙ (ap (λ z. g ++ z) l.is ∙ sym (append_assoc g l.front (l.one ∷ []))))) in
          let parts : AllByRecursion IsIn (l.front ++ l.one ∷ []) = subst (AllByRecursion IsIn) l.is ins in
          let its : IsIn (note P ts t) = subst IsIn (sym two.ones) (all_rest IsIn l.front (l.one ∷ []) parts).0 in
          let last = tells_last Learns (whats l.front) l.one.what a b (subst (λ z. TellsRecords Learns z a b) (ap whats l.is ∙ whats_append l.front (l.one ∷ [])) tells) in
          let before = rest g l.front two.fronts outs (all_front IsIn l.front (l.one ∷ []) parts) a last.middle last.first in
          let one : IsTold Learns (leaver_if (is_guessed P t) t.pc t.next) last.middle b =
          subst (λ (z : Note). IsTold Learns (leaver_if z.what.guessed z.what.pc z.what.next) last.middle b) (sym two.ones) last.last in
          subst (λ z. TellsEach Learns P (all_untold told (t ∷ younger) ts ++ cond z (t ∷ []) []) a b) (sym (in_untold t ts younger split e its))
          (each_more Learns P (all_untold told (t ∷ younger) ts) t a last.middle b before (told_it t ts younger split e last.middle b one))

      go : (x : Bool) → on_path t ≡ x → ((g ns : List Note) → trail P ts ≡ g ++ ns → AllByRecursion (IsFolded U told) g → AllByRecursion IsIn ns → (a b : S) → TellsRecords Learns (whats ns) a b →
          TellsEach Learns P (all_untold told (t ∷ younger) ts) a b) → TellsEach Learns P (all_untold told younger (t ∷ ts)) a b
      go true e rest = on e (last_cases ns) rest
      go false e rest = with_none (off_untold t ts younger split e) (rest g ns (sym (trail_off P t ts e) ∙ path) outs ins a b tells)

-- All that are kept are all of whom nobody was told
pub all_told : {S : Type 0} (Learns : S → ℕ → ℕ → S → Type 0) (P : Program) (C : Sizes) (U : UpdateUnit) →
    IsSound P U.tenants → HasNobody U → (records : List Record) (base : Base) → FrontKnows P C U records base
    → (a b : S) → TellsRecords Learns records a b → TellsEach Learns P (all_untold (rested_at base) [] U.tenants) a b
all_told Learns P C U ok nobody records base k a b tells =
    tells_all Learns P U ok nobody (rested_at base) U.tenants [] refl k.gone k.notes k.path k.again
    (all_two (IsNewest U) (λ n. rested_at base ≤ n.at) (λ n. IsNewest U n × (rested_at base ≤ n.at)) (λ n x y. (x, y)) k.notes k.newest k.untold)
    a b (subst (λ z. TellsRecords Learns z a b) k.are tells)

-- The first of the steps that are possible in a unit: nothing that stands before it is possible.
use Rattle.std.proofs.lemmas.Grind.{common_steps}
use Rattle.std.proofs.Common.{◌≡◌, ℕ, suc, ◌<◌, ◌≤◌, Bool, true, false, cond, ◌&&◌, List, [], ◌∷◌, ◌++◌, take, Option, Some, refl, sym, ap, ◌∙◌, subst, arith, true≢false}
use Rattle.std.specs.Prelude.{slice_get}
use Rattle.std.specs.List.{AllByRecursion}
use Rattle.instructions.specs.Programs.{Program}
use Rattle.lsq.specs.declared.answer.Answer.{Answer}
use Rattle.lsq.specs.declared.answer.Answer.TheVariants.{Blocked}
use Rattle.inorder.specs.Tenants.{Tenant, is_live, stands_live}
use Rattle.inorder.specs.Unit.{Sizes, UpdateUnit, how_many}
use Rattle.inorder.proofs.Basics.{fetched_at}
use Rattle.one_thread.specs.declared.bench.Turn.{Turn}
use Rattle.one_thread.specs.declared.bench.Turn.TheVariants.{Halved, Let, Loaded, Over, Ran, Recovered, Retired}
use Rattle.one_thread.specs.Blocked.{AreBlocked, IsBlocked}
use Rattle.one_thread.specs.Choices.{step_made}
use Rattle.one_thread.specs.Order.{EndIsFirst, IsFirst, IsUnclaimable, NoLet, RetirementIsFirst}
use Rattle.one_thread.specs.Possible.{Possible, ToLet, ToLoad, ToRecover, ToRetire, ToRun, can_be_claimed, can_be_let, can_be_loaded, can_recover, each_that}
use Rattle.one_thread.specs.Possible.{is_answered, is_miss, oldest_live, possible, retirement, steps_of}
use Rattle.one_thread.specs.StandsFor.{NoStopRetired}
use Rattle.one_thread.specs.Turns.{Before, Does, EndsHere, IsNoMiss, Now, Nowhere}
use Rattle.one_thread.proofs.PossibleUnit.{fits, lt_true, none_stopped}

-- Which tenants pass a test

-- none of them does
abbrev pub NonePass : (List Tenant → Tenant → Bool) → List Tenant → Type 0
NonePass test [] = Unit {0}
NonePass test (t ∷ ts) = (test ts t ≡ false) × NonePass test ts

pub head_left : (xs ys : List Possible) (s : Possible) → slice_get xs 0 ≡ Some s → slice_get (xs ++ ys) 0 ≡ Some s
head_left [] ys s e = absurd (cc e)
head_left (x ∷ xs) ys s e = e

module _ (test : List Tenant → Tenant → Bool) (step : ℕ → Possible) (lives : (ts : List Tenant) (t : Tenant) → test ts t ≡ true → is_live t ≡ true) where
  -- none does, or the first has this age
  data Begins (ts : List Tenant) : Type 0 where
    Nobody : each_that test step ts ≡ [] → NonePass test ts → Begins ts
    Aged : (n : ℕ) → n < how_many is_live ts → slice_get (each_that test step ts) 0 ≡ Some (step n) → Begins ts

  begins : (ts : List Tenant) → Begins ts
  begins [] = Nobody refl tt
  begins (t ∷ ts) = on (begins ts) (test ts t) refl
    where
      one : Bool → List Possible
      one b = cond b (step (how_many is_live ts) ∷ []) []

      older : (b : Bool) → how_many is_live ts ≤ cond b (suc (how_many is_live ts)) (how_many is_live ts)
      older b = grind (arith, common_steps)

      on : Begins ts → (b : Bool) → test ts t ≡ b → Begins (t ∷ ts)
      on (Nobody e n) false q = Nobody (ap (λ l. l ++ one (test ts t)) e ∙ ap one q) (q, n)
      on (Nobody e n) true q =
          let live : how_many is_live (t ∷ ts) ≡ suc (how_many is_live ts) = ap (λ b. cond b (suc (how_many is_live ts)) (how_many is_live ts)) (lives ts t q) in
          Aged (how_many is_live ts) (omega (arith, live)) (ap (λ l. slice_get (l ++ one (test ts t)) 0) e ∙ ap (λ b. slice_get (one b) 0) q)
      on (Aged n l h) b q = Aged n (omega (arith, l, older (is_live t))) (head_left (each_that test step ts) (one (test ts t)) (step n) h)

  pub nobody_passes : (ts : List Tenant) → each_that test step ts ≡ [] → NonePass test ts
  nobody_passes ts e = grind (arith, common_steps, begins)

  -- the first of a list is such a step
  pub first_is : (ts : List Tenant) (s : Possible) → slice_get (each_that test step ts) 0 ≡ Some s → (n : ℕ) × (s ≡ step n)
  first_is ts s e = grind (arith, common_steps, begins)

  first_older : (ys : List Tenant) (t : Tenant) (ts : List Tenant) (s : Possible) → slice_get (each_that test step ts) 0 ≡ Some s → slice_get (each_that test step (ys ++ t ∷ ts)) 0 ≡ Some s
  first_older [] t ts s h = head_left (each_that test step ts) _ s h
  first_older (y ∷ ys) t ts s h = head_left (each_that test step (ys ++ t ∷ ts)) _ s (first_older ys t ts s h)

  -- where one is the first, nobody older passes
  pub older_fail : ((m n : ℕ) → step m ≡ step n → m ≡ n) → (ys : List Tenant) (t : Tenant) (ts : List Tenant) →
      slice_get (each_that test step (ys ++ t ∷ ts)) 0 ≡ Some (step (how_many is_live ts)) → NonePass test ts
  older_fail same ys t ts e = on (begins ts)
    where
      on : Begins ts → NonePass test ts
      on h0 = grind (arith, common_steps, first_older)

-- What it means that none passes

live_first : (a b : Bool) → a && b ≡ true → a ≡ true
live_first a b e = grind (arith, common_steps)

no_miss : (ts : List Tenant) → NonePass can_recover ts → AllByRecursion IsNoMiss ts
no_miss [] h = tt
no_miss (t ∷ ts) h = (λ live x q. true≢false (sym (ap (λ s. stands_live s && is_miss t.fate) live ∙ ap is_miss q) ∙ h.0), no_miss ts h.1)

no_claim : (P : Program) (ts : List Tenant) → NonePass (can_be_claimed P) ts → AllByRecursion (IsUnclaimable P) ts
no_claim P [] h = tt
no_claim P (t ∷ ts) h = grind (arith, common_steps, no_claim P ts h.1)

blocked_by : (x : Answer) → is_answered x ≡ false → (place : ℕ) × (x ≡ Blocked place)
blocked_by x e = grind (arith, common_steps, true≢false)

no_load : (P : Program) (ts : List Tenant) → NonePass (can_be_loaded P) ts → AreBlocked P ts
no_load P [] h = tt
no_load P (t ∷ ts) h = (blocked, no_load P ts h.1)
  where
    blocked : IsBlocked P ts t
    blocked live k a f = grind (arith, common_steps, blocked_by)

no_let : (P : Program) (C : Sizes) (U : UpdateUnit) → can_be_let P C U.tenants ≡ false → NoLet P C U
no_let P C U h index predicted f g m = grind (arith, common_steps, fetched_at, lt_true, fits, true≢false)

-- The first of all steps

abbrev rank_of : Possible → ℕ
rank_of (ToRecover n) = 0
rank_of ToLet = 1
rank_of (ToRun n) = 2
rank_of (ToLoad n) = 3
rank_of ToRetire = 4

data FirstOf (a b c d e : List Possible) (s : Possible) : Type 0 where
  First : slice_get a 0 ≡ Some s → FirstOf a b c d e s
  Second : a ≡ [] → slice_get b 0 ≡ Some s → FirstOf a b c d e s
  Third : a ≡ [] → b ≡ [] → slice_get c 0 ≡ Some s → FirstOf a b c d e s
  Fourth : a ≡ [] → b ≡ [] → c ≡ [] → slice_get d 0 ≡ Some s → FirstOf a b c d e s
  Fifth : a ≡ [] → b ≡ [] → c ≡ [] → d ≡ [] → slice_get e 0 ≡ Some s → FirstOf a b c d e s

first_of : (a b c d e : List Possible) (s : Possible) → slice_get (a ++ b ++ c ++ d ++ e) 0 ≡ Some s → FirstOf a b c d e s
first_of (x ∷ a) b c d e s h = First h
first_of [] (x ∷ b) c d e s h = Second refl h
first_of [] [] (x ∷ c) d e s h = Third refl refl h
first_of [] [] [] (x ∷ d) e s h = Fourth refl refl refl h
first_of [] [] [] [] e s h = Fifth refl refl refl refl h

module _ (P : Program) (C : Sizes) (U : UpdateUnit) where
  -- What is not possible, where this step is the first
  record Facts (s : Possible) : Type 0 where
    miss : 1 ≤ rank_of s → AllByRecursion IsNoMiss U.tenants
    lets : 2 ≤ rank_of s → NoLet P C U
    claims : 3 ≤ rank_of s → AllByRecursion (IsUnclaimable P) U.tenants
    loads : 4 ≤ rank_of s → AreBlocked P U.tenants
    run : rank_of s ≡ 2 → slice_get (each_that (can_be_claimed P) ToRun U.tenants) 0 ≡ Some s
    load : rank_of s ≡ 3 → slice_get (each_that (can_be_loaded P) ToLoad U.tenants) 0 ≡ Some s

  abbrev misses : List Possible
  misses = each_that can_recover ToRecover U.tenants

  abbrev lets : List Possible
  lets = cond (can_be_let P C U.tenants) (ToLet ∷ []) []

  abbrev claims : List Possible
  claims = each_that (can_be_claimed P) ToRun U.tenants

  abbrev loads : List Possible
  loads = each_that (can_be_loaded P) ToLoad U.tenants

  live_miss : (ts : List Tenant) (t : Tenant) → can_recover ts t ≡ true → is_live t ≡ true
  live_miss ts t e = live_first (is_live t) _ e

  live_claim : (ts : List Tenant) (t : Tenant) → can_be_claimed P ts t ≡ true → is_live t ≡ true
  live_claim ts t e = live_first (is_live t) _ e

  live_load : (ts : List Tenant) (t : Tenant) → can_be_loaded P ts t ≡ true → is_live t ≡ true
  live_load ts t e = live_first (is_live t) _ e

  facts : (s : Possible) → slice_get (steps_of P C U.tenants) 0 ≡ Some s → Facts s
  facts s h = on (first_of (take 1 misses) lets claims loads (retirement P (oldest_live U.tenants)) s h)
    where
      of_miss : slice_get (take 1 misses) 0 ≡ Some s → rank_of s ≡ 0
      of_miss e = by misses refl e
        where
          by : (l : List Possible) → misses ≡ l → slice_get (take 1 l) 0 ≡ Some s → rank_of s ≡ 0
          by [] q e = absurd (cc e)
          by (x ∷ l) q e = let is = first_is can_recover ToRecover live_miss U.tenants s (ap (λ l. slice_get l 0) q ∙ e) in ap rank_of is.1

      of_let : slice_get lets 0 ≡ Some s → rank_of s ≡ 1
      of_let e = grind (arith, common_steps)

      of_claim : slice_get claims 0 ≡ Some s → rank_of s ≡ 2
      of_claim e = ap rank_of (first_is (can_be_claimed P) ToRun live_claim U.tenants s e).1

      of_load : slice_get loads 0 ≡ Some s → rank_of s ≡ 3
      of_load e = ap rank_of (first_is (can_be_loaded P) ToLoad live_load U.tenants s e).1

      of_last : (o : Option Tenant) → slice_get (retirement P o) 0 ≡ Some s → rank_of s ≡ 4
      of_last o e = grind (arith, common_steps)

      no_misses : take 1 misses ≡ [] → AllByRecursion IsNoMiss U.tenants
      no_misses e = grind (arith, common_steps, no_miss, nobody_passes, live_miss)

      no_lets : lets ≡ [] → NoLet P C U
      no_lets e = grind (arith, common_steps, no_let)

      no_claims : claims ≡ [] → AllByRecursion (IsUnclaimable P) U.tenants
      no_claims e = no_claim P U.tenants (nobody_passes (can_be_claimed P) ToRun live_claim U.tenants e)

      no_loads : loads ≡ [] → AreBlocked P U.tenants
      no_loads e = no_load P U.tenants (nobody_passes (can_be_loaded P) ToLoad live_load U.tenants e)

      on : FirstOf (take 1 misses) lets claims loads (retirement P (oldest_live U.tenants)) s → Facts s
      on (First e) =
          let r = of_miss e in
          record {
            miss = λ l. absurd (omega (arith, l, r));
            lets = λ l. absurd (omega (arith, l, r));
            claims = λ l. absurd (omega (arith, l, r));
            loads = λ l. absurd (omega (arith, l, r));
            run = λ l. absurd (omega (arith, l, r));
            load = λ l. absurd (omega (arith, l, r));
          }
      on (Second m e) =
          let r = of_let e in
          record {
            miss = λ l. no_misses m;
            lets = λ l. absurd (omega (arith, l, r));
            claims = λ l. absurd (omega (arith, l, r));
            loads = λ l. absurd (omega (arith, l, r));
            run = λ l. absurd (omega (arith, l, r));
            load = λ l. absurd (omega (arith, l, r));
          }
      on (Third m n e) =
          let r = of_claim e in
          record {
            miss = λ l. no_misses m;
            lets = λ l. no_lets n;
            claims = λ l. absurd (omega (arith, l, r));
            loads = λ l. absurd (omega (arith, l, r));
            run = λ l. e;
            load = λ l. absurd (omega (arith, l, r));
          }
      on (Fourth m n c e) =
          let r = of_load e in
          record {
            miss = λ l. no_misses m;
            lets = λ l. no_lets n;
            claims = λ l. no_claims c;
            loads = λ l. absurd (omega (arith, l, r));
            run = λ l. absurd (omega (arith, l, r));
            load = λ l. e;
          }
      on (Fifth m n c d e) =
          let r = of_last (oldest_live U.tenants) e in
          record {
            miss = λ l. no_misses m;
            lets = λ l. no_lets n;
            claims = λ l. no_claims c;
            loads = λ l. no_loads d;
            run = λ l. absurd (omega (arith, l, r));
            load = λ l. absurd (omega (arith, l, r));
          }

  -- a unit that goes on
  going : (s : Possible) → NoStopRetired U.tenants → Some s ≡ slice_get (possible P C U) 0 → Facts s
  going s h e = facts s (ap (λ b. slice_get (cond b [] (steps_of P C U.tenants)) 0) (sym (none_stopped U.tenants h)) ∙ sym e)

  retires : (s : Possible) → 4 ≤ rank_of s → Facts s → RetirementIsFirst P C U
  retires s l f = grind (arith, common_steps, no_miss, no_let, no_claim, no_load)

  -- a turn that makes the first step that is possible is the first
  pub first_made : (V : UpdateUnit) (answer : Turn) (does : Does P C U V answer) → step_made P C U V answer does ≡ slice_get (possible P C U) 0 → IsFirst P C U V answer does
  first_made V (Recovered age) does e = tt
  first_made V Let does e = (going ToLet does.goes_on e).miss (omega arith)
  first_made V (Ran age) does e =
      let f = going (ToRun (how_many is_live does.ts)) does.goes_on (ap (λ n. Some (ToRun n)) does.aged ∙ e) in
      let whole = subst (λ l. slice_get (each_that (can_be_claimed P) ToRun l) 0 ≡ Some (ToRun (how_many is_live does.ts))) does.stands (f.run refl) in
      record {
        no_miss = f.miss (omega arith);
        no_let = f.lets (omega arith);
        oldest = no_claim P does.ts (older_fail (can_be_claimed P) ToRun live_claim (λ m n q. cc q) does.ys does.tenant does.ts whole);
      }
  first_made V (Loaded age) does e =
      let f = going (ToLoad (how_many is_live does.ts)) does.goes_on (ap (λ n. Some (ToLoad n)) does.aged ∙ e) in
      let whole = subst (λ l. slice_get (each_that (can_be_loaded P) ToLoad l) 0 ≡ Some (ToLoad (how_many is_live does.ts))) does.stands (f.load refl) in
      record {
        no_miss = f.miss (omega arith);
        no_let = f.lets (omega arith);
        no_claim = f.claims (omega arith);
        oldest = no_load P does.ts (older_fail (can_be_loaded P) ToLoad live_load (λ m n q. cc q) does.ys does.tenant does.ts whole);
      }
  first_made V Halved does e = retires ToRetire (omega arith) (going ToRetire does.retires.goes_on e)
  first_made V Retired does e = retires ToRetire (omega arith) (going ToRetire does.goes_on e)
  first_made V (Over c) does e = by does e
    where
      by : (x : EndsHere P C U V c) → step_made P C U V (Over c) x ≡ slice_get (possible P C U) 0 → EndIsFirst P C U V c x
      by (Before stopped same) e = tt
      by (Now k stopped) e = retires ToRetire (omega arith) (going ToRetire k.goes_on e)
      by (Nowhere bad nowhere same) e = tt

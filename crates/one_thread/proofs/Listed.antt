-- The steps that the stations permit, as a list.
use Rattle.std.proofs.lemmas.Grind.{common_steps}
use Rattle.std.proofs.Common.{◌≡◌, ◌⊎◌, ℕ, zero, suc, ◌<◌, Bool, cond, List, [], ◌∷◌, ◌++◌, length, take, Option, Some, None, refl, sym, ap, ◌∙◌, subst, arith, ⊎_elim}
use Rattle.std.specs.Prelude.{slice_get}
use Rattle.std.specs.List.{AllByRecursion}
use Rattle.instructions.specs.declared.stop.Stop.{Stop}
use Rattle.one_thread.specs.declared.dispatch.Fetched.{Fetched}
use Rattle.one_thread.specs.declared.pipeline.Pipeline.{Pipeline}
use Rattle.one_thread.specs.declared.possible.Step.{Step}
use Rattle.one_thread.specs.declared.possible.Step.TheVariants.{Retire}
use Rattle.one_thread.specs.declared.window.Missed.{Missed}
use Rattle.one_thread.specs.declared.station.Station.{Station}
use Rattle.one_thread.specs.Changes.{NextOf, registers_of}
use Rattle.one_thread.specs.Producers.{FirstGives, gives}
use Rattle.one_thread.specs.Loads.{load_in}
use Rattle.one_thread.specs.Notes.{settled_at}
use Rattle.one_thread.specs.Stages.{FirstMiss}
use Rattle.one_thread.specs.Steps.{AreNextSteps, ArePossible, MayMake, Permits, given_step, given_steps, load_at, loads_of, next_let, recovery, retirement_of, run_at, runs_of}
use Rattle.one_thread.specs.Window.{operands_in}

-- Each of a list

all_both : {X : Type 0} (Q : X → Type 0) (xs ys : List X) → AllByRecursion Q xs → AllByRecursion Q ys → AllByRecursion Q (xs ++ ys)
all_both Q xs ys h k = grind (arith, common_steps)

pub all_get : {X : Type 0} (Q : X → Type 0) (xs : List X) → AllByRecursion Q xs → (i : ℕ) (x : X) → slice_get xs i ≡ Some x → Q x
all_get Q [] h i x e = absurd (cc)
all_get Q (y ∷ ys) h zero x e = let same : y ≡ x = cc in subst Q same h.0
all_get Q (y ∷ ys) h (suc i) x e = all_get Q ys h.1 i x e

-- The steps that stations give

module _ {X : Type 0} (give : List Station → Station → Option X) (step : ℕ → X → Step) where
  given_all : (Q : Step → Type 0) (W : List Station) (k : ℕ) → ((j : ℕ) (x : X) → gives give W j ≡ Some x → Q (step j x)) → AllByRecursion Q (given_steps give step W k)
  given_all Q W zero h = tt
  given_all Q W (suc k) h = all_both Q (given_steps give step W k) (given_step step k (gives give W k)) (given_all Q W k h) (one (gives give W k) refl)
    where
      one : (o : Option X) → gives give W k ≡ o → AllByRecursion Q (given_step step k o)
      one o e = grind (arith, common_steps)

  -- none of the first k gives anything
  pub none_given : (W : List Station) (k : ℕ) → ((j : ℕ) → j < k → gives give W j ≡ None) → given_steps give step W k ≡ []
  none_given W zero h = refl
  none_given W (suc k) h =
      ap (λ l. l ++ given_step step k (gives give W k)) (none_given W k (λ j q. h j (omega arith)))
      ∙ ap (given_step step k) (h k (omega arith))

  -- and the other way round
  pub given_none : (W : List Station) (k : ℕ) → given_steps give step W k ≡ [] → (j : ℕ) → j < k → gives give W j ≡ None
  given_none W zero e j q = absurd (omega (arith, q))
  given_none W (suc k) e j q =
      ⊎_elim
      (λ less. given_none W k (first (given_steps give step W k) _ e) j less)
      (λ same. ap (gives give W) same ∙ here (gives give W k) (second (given_steps give step W k) _ e))
      (below j q)
    where
      below : (j : ℕ) → j < suc k → (j < k) ⊎ (j ≡ k)
      below j q = grind arith

      first : (xs ys : List Step) → xs ++ ys ≡ [] → xs ≡ []
      first [] ys e = refl
      first (x ∷ xs) ys e = absurd (cc e)

      second : (xs ys : List Step) → xs ++ ys ≡ [] → ys ≡ []
      second [] ys e = e
      second (x ∷ xs) ys e = absurd (cc e)

      here : (o : Option X) → given_step step k o ≡ [] → o ≡ None
      here o e = grind (arith, common_steps)

  -- the first that gives something begins the list
  pub first_given : (W : List Station) (i : ℕ) (x : X) (k : ℕ) → i < k → FirstGives give W i x → take 1 (given_steps give step W k) ≡ step i x ∷ []
  first_given W i x zero l f = absurd (omega (arith, l))
  first_given W i x (suc k) l f = ⊎_elim (λ q. earlier (first_given W i x k q f)) now (below i l)
    where
      below : (j : ℕ) → j < suc k → (j < k) ⊎ (j ≡ k)
      below j q = grind arith

      one_more : (xs ys : List Step) (y : Step) → take 1 xs ≡ y ∷ [] → take 1 (xs ++ ys) ≡ y ∷ []
      one_more xs ys y e = grind (arith, common_steps)

      earlier : take 1 (given_steps give step W k) ≡ step i x ∷ [] → take 1 (given_steps give step W (suc k)) ≡ step i x ∷ []
      earlier q = one_more (given_steps give step W k) (given_step step k (gives give W k)) (step i x) q

      now : i ≡ k → take 1 (given_steps give step W (suc k)) ≡ step i x ∷ []
      now e = grind (arith, common_steps, none_given)

-- All that are listed are permitted

pub all_permitted : (b : Pipeline) (steps : List Step) → ArePossible b steps → AllByRecursion (Permits b) steps
all_permitted b steps h = subst (AllByRecursion Q) (sym h.list) (four (recovery h.miss) (next_let h.next) runs loads retires (misses h.miss h.is_miss) (lets h.next h.is_next) run load
    (retire (settled_at (slice_get b.window 0)) refl))
  where
    Q : Step → Type 0
    Q = Permits b

    regs : List ℕ
    regs = registers_of b

    runs : List Step
    runs = runs_of regs b.window (length b.window)

    loads : List Step
    loads = loads_of regs b.committed.memory b.window (length b.window)

    retires : List Step
    retires = retirement_of (slice_get b.window 0)

    misses : (m : Option Missed) → FirstMiss b.window m → AllByRecursion Q (recovery m)
    misses m f = grind (arith, common_steps)

    lets : (n : Option Fetched) → NextOf b n → AllByRecursion Q (next_let n)
    lets n f = grind (arith, common_steps)

    run : AllByRecursion Q runs
    run = given_all (operands_in regs) run_at Q b.window (length b.window) (λ j o e. e)

    load : AllByRecursion Q loads
    load = given_all (load_in regs b.committed.memory) load_at Q b.window (length b.window) (λ j v e. e)

    retire : (s : Bool) → settled_at (slice_get b.window 0) ≡ s → AllByRecursion Q (cond s (Retire ∷ []) [])
    retire s e = grind (arith, common_steps)

    four : (fs bs cs ds es : List Step) → AllByRecursion Q fs → AllByRecursion Q bs → AllByRecursion Q cs → AllByRecursion Q ds → AllByRecursion Q es →
        AllByRecursion Q (fs ++ bs ++ cs ++ ds ++ es)
    four fs bs cs ds es a b c d e = grind (arith, common_steps, all_both)

-- Where the unit goes on, they are those that may be made

none_ended : (o : Option Stop) (c : Stop) → o ≡ None → o ≡ Some c → (xs : List Step) → xs ≡ []
none_ended o c n e xs = grind (arith, common_steps)

all_may : (b : Pipeline) → b.over ≡ None → (steps : List Step) → AllByRecursion (Permits b) steps → AllByRecursion (MayMake b) steps
all_may b none [] h = tt
all_may b none (s ∷ steps) h = ((none, h.0), all_may b none steps h.1)

pub next_all : (b : Pipeline) (steps : List Step) → b.over ≡ None → ArePossible b steps → AreNextSteps b steps
next_all b steps none h = record {
  all = λ o. h;
  ended = λ c e. none_ended b.over c none e steps;
  can = all_may b none steps (all_permitted b steps h);
}

-- The steps that remain of many, after one of them.
use Rattle.std.proofs.Common.{◌≡◌, ℕ, zero, suc, ◌+◌, ◌-◌, ◌<◌, ◌≤◌, List, length, Option, None, Some, refl, sym, ap, ◌∙◌, subst, arith}
use Rattle.inorder.specs.Machine.{Goes, Halts, Ran, State}
use Rattle.lockstep.specs.declared.stepping.Answer.{Answer}
use Rattle.lockstep.specs.declared.stepping.Answer.TheVariants.{NoOperation, Stopped, Went}
use Rattle.lockstep.specs.Many.{HasRunMany, Many, many_after, many_over, one_before}
use Rattle.lockstep.specs.Step.{HoldsState, IsStepped, machine_state, step_over}
use Rattle.lockstep.proofs.TheStep.{step_keeps}

-- with n steps before
abbrev pub more : ℕ → Many → Many
more n m = record m { steps = n + m.steps }

pub none_before : (m : Many) → m ≡ more 0 m
none_before m = let e : m.steps ≡ 0 + m.steps = omega arith in ap (λ k. record m { steps = k }) e

one_of_more : (n : ℕ) (m : Many) → more n (one_before m) ≡ more (n + 1) m
one_of_more n m = let e : n + suc m.steps ≡ n + 1 + m.steps = omega arith in ap (λ k. record m { steps = k }) e

-- what a step leaves that went on
pub record WentOn (text : List ℕ) (most done : ℕ) (s : State) (registers memory : List ℕ) (pc : ℕ) : Type 0 where
  pub small : length memory ≤ 65536
  pub ahead : more done (many_over text (most - done) s) ≡ more (done + 1) (many_over text (most - (done + 1)) (machine_state registers memory pc))

pub went_on : (text : List ℕ) (most done : ℕ) (s : State) (registers memory : List ℕ) (pc : ℕ) → done < most → length s.memory ≤ 65536 →
    IsStepped s Went registers memory pc (step_over text s) → WentOn text most done s registers memory pc
went_on text most done s registers memory pc less small h = go (step_over text s) refl h
  where
    go : (r : Option Ran) → step_over text s ≡ r → IsStepped s Went registers memory pc r → WentOn text most done s registers memory pc
    go None e h = let no = h.0 in absurd (cc (no))
    go (Some (Halts c)) e h = let no = h.0 in absurd (cc (no))
    go (Some (Goes t)) e h =
        let k = most - (done + 1) in
        let left : most - done ≡ suc k = omega (arith, less) in
        let is : machine_state registers memory pc ≡ machine_state t.registers t.memory t.pc =
        ap (λ r. machine_state r memory pc) h.1.registers_are ∙ ap (λ m. machine_state t.registers m pc) h.1.memory_is
        ∙ ap (machine_state t.registers t.memory) h.1.pc_is
        in
        record {
          small = let same = ap length h.1.memory_is ∙ step_keeps text s t e in omega (arith, same, small);
          ahead = ap (λ n. more done (many_over text n s)) left ∙ ap (λ r. more done (many_after (many_over text k) s r)) e
              ∙ one_of_more done (many_over text k (machine_state t.registers t.memory t.pc))
              ∙ ap (λ x. more (done + 1) (many_over text k x)) (sym is);
        }

-- what a step leaves that did not go on
pub stopped : (text : List ℕ) (most done : ℕ) (s : State) (answer : Answer) (registers memory : List ℕ) (pc : ℕ) → done < most → ((answer ≡ Went) → ⊥) →
    IsStepped s answer registers memory pc (step_over text s) → HasRunMany answer registers memory pc done (more done (many_over text (most - done) s))
stopped text most done s answer registers memory pc less other h = go (step_over text s) refl h
  where
    left : most - done ≡ suc (most - (done + 1))
    left = omega (arith, less)

    none : done ≡ done + 0
    none = omega arith

    go : (r : Option Ran) → step_over text s ≡ r → IsStepped s answer registers memory pc r →
        HasRunMany answer registers memory pc done (more done (many_over text (most - done) s))
    go (Some (Goes t)) e h = absurd (other h.0)
    go None e h =
        let k = most - (done + 1) in
        let is = ap (λ n. more done (many_over text n s)) left ∙ ap (λ r. more done (many_after (many_over text k) s r)) e in
        subst (HasRunMany answer registers memory pc done) (sym is) (record { answer_is = h.0; steps_are = none; state = h.1 })
    go (Some (Halts c)) e h =
        let k = most - (done + 1) in
        let is = ap (λ n. more done (many_over text n s)) left ∙ ap (λ r. more done (many_after (many_over text k) s r)) e in
        subst (HasRunMany answer registers memory pc done) (sym is) (record { answer_is = h.0; steps_are = none; state = h.1 })

-- all were made
pub all_made : (text : List ℕ) (most done : ℕ) (registers memory : List ℕ) (pc : ℕ) → done ≤ most → most ≤ done →
    HasRunMany Went registers memory pc most (more done (many_over text (most - done) (machine_state registers memory pc)))
all_made text most done registers memory pc below above =
    let none : most - done ≡ 0 = omega arith in
    let s = machine_state registers memory pc in
    subst (HasRunMany Went registers memory pc most) (sym (ap (λ n. more done (many_over text n s)) none))
    (record { answer_is = refl; steps_are = omega arith; state = record { registers_are = refl; memory_is = refl; pc_is = refl } })

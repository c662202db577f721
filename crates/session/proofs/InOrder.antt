-- The machine in order reaches the committed state.
use Rattle.std.proofs.Common.{◌≡◌, ℕ, ◌-◌, zero, suc, List, Option, Some, None, refl, sym, ap, ◌∙◌, subst, arith}
use Rattle.instructions.specs.Programs.{Program}
use Rattle.instructions.specs.declared.stop.Stop.{Stop}
use Rattle.instructions.specs.declared.end.Ending.{Ending}
use Rattle.instructions.specs.declared.end.Ending.TheVariants.{Limit as ByLimit, Stop as ByStop}
use Rattle.inorder.specs.Machine.{Goes, Halts, Ran, State, start, step}
use Rattle.inorder.specs.Runs.{Running, after, end_after, end_from, next_state, then_state}
use Rattle.inorder.specs.declared.history.Entry.{Entry}
use Rattle.inorder.specs.History.{IsLegal, unit_of}
use Rattle.inorder.proofs.Follows.{state_of as in_order_state}
use Rattle.inorder.proofs.Histories.{unit_sound}
use Rattle.back.specs.Backs.{committed_in}
use Rattle.station.specs.Seats.{TheCore}

nowhere : (c : Stop) (s t : State) → ◌≡◌ {A = Ending × State} (ByStop c, s) (ByLimit, t) → ⊥
nowhere c s t e = let is : ByStop c ≡ ByLimit = ap (λ (z : Ending × State). z.0) e in absurd (cc)

module _ (P : Program) where
  -- A run that came to its limit goes on by one step
  goes_on : (k : ℕ) (s t u : State) → end_from P k s ≡ (ByLimit, t) → step P t ≡ Goes u → end_from P (suc k) s ≡ (ByLimit, u)
  goes_on zero s t u e goes =
      let same : s ≡ t = ap (λ (z : Ending × State). z.1) e in
      ap (end_after (end_from P zero) s) (ap (step P) same ∙ goes)
  goes_on (suc k) s t u e goes = go (λ v f. goes_on k v t u f goes) (step P s) refl
    where
      go : ((v : State) → end_from P k v ≡ (ByLimit, t) → end_from P (suc k) v ≡ (ByLimit, u)) → (r : Ran) → step P s ≡ r → end_from P (suc (suc k)) s ≡ (ByLimit, u)
      go earlier (Goes v) is =
          ap (end_after (end_from P (suc k)) s) is ∙ earlier v (sym (ap (end_after (end_from P k) s) is) ∙ e)
      go earlier (Halts c) is = absurd (nowhere c s t (sym (ap (end_after (end_from P k) s) is) ∙ e))

  then_goes : (s t : State) (r : Ran) → step P t ≡ r → next_state r ≡ Some s → step P t ≡ Goes s
  then_goes s t (Goes v) is f = let same : v ≡ s = cc in is ∙ ap Goes same
  then_goes s t (Halts c) is f = absurd (cc)

  pub comes_to : (n : ℕ) (s : State) → after P n ≡ Some s → end_from P n (start P) ≡ (ByLimit, s)
  comes_to zero s e = let same : start P ≡ s = cc in ap (λ t. (ByLimit, t)) same
  comes_to (suc n) s e = go (λ t is. comes_to n t is) (after P n) refl
    where
      go : ((t : State) → after P n ≡ Some t → end_from P n (start P) ≡ (ByLimit, t)) → (before : Option State) → after P n ≡ before → end_from P (suc n) (start P) ≡ (ByLimit, s)
      go earlier None is = let none : ◌≡◌ {A = Option State} None (Some s) = sym (ap (then_state P) is) ∙ e in absurd (cc)
      go earlier (Some t) is = goes_on n (start P) t s (earlier t is) (then_goes s t (step P t) refl (sym (ap (then_state P) is) ∙ e))

-- What was committed is the state of the machine in order
pub committed_after : (core now : TheCore) (seen : List Entry) → now ≡ core → IsLegal core.program core.sizes seen → after core.program (committed_in now seen).count ≡ Some (committed_in now seen)
committed_after core now seen e legal = subst (λ (z : TheCore). after core.program (committed_in z seen).count ≡ Some (committed_in z seen)) (sym e)
    (in_order_state core.program (unit_of core.program core.sizes seen).tenants (unit_sound core.program core.sizes seen legal))

-- So a machine has it that ran as many instructions
pub machine_state : (P Q : Program) (S : State) (first last : Running) (count : ℕ) (how : Ending) → P ≡ Q → after Q S.count ≡ Some S →
    first ≡ record { program = P; state = start P } → count ≡ S.count → (how, last.state) ≡ end_from first.program (count - first.state.count) first.state → last.state ≡ S
machine_state P Q S first last count how same is new all run =
    let from_start = ap (λ (m : Running). end_from m.program (count - m.state.count) m.state) new in
    let number : count - 0 ≡ S.count = omega (arith, all) in
    let to : end_from P (count - 0) (start P) ≡ (ByLimit, S) = ap (λ n. end_from P n (start P)) number ∙ (ap (λ (Z : Program). end_from Z S.count (start Z)) same ∙ comes_to Q S.count S is) in
    ap (λ (z : Ending × State). z.1) (run ∙ (from_start ∙ to))

pub same_state : (s : State) (registers memory : List ℕ) (pc count : ℕ) → registers ≡ s.registers → memory ≡ s.memory → pc ≡ s.pc → count ≡ s.count →
    record { registers = registers; memory = memory; pc = pc; count = count } ≡ s
same_state s registers memory pc count r m p n i = record { registers = r i; memory = m i; pc = p i; count = n i }

-- A run of a model is in order: what a unit that steps reach has committed is in order, and a model has that of the units it stands for.
use Rattle.std.proofs.Common.{◌≡◌, ℕ, ◌<◌, ◌≤◌, true, false, Bool, List, [], ◌∷◌, ◌++◌, length, Option, Some, None, refl, sym, ap, ◌∙◌, subst, arith}
use Rattle.std.specs.List.{AllByRecursion}
use Rattle.instructions.specs.Instruction.{is_first_half, kind, pc_plus_4, second_of, width}
use Rattle.instructions.specs.Programs.{Program}
use Rattle.instructions.specs.declared.instr.Instr.{Instr}
use Rattle.instructions.specs.declared.op.Kind.{Kind}
use Rattle.instructions.specs.declared.op.Kind.TheVariants.{Computes, Jumps, Links, Loads, Stores}
use Rattle.instructions.specs.declared.stop.Outcome.{Outcome}
use Rattle.instructions.specs.declared.stop.Outcome.TheVariants.{Address, Next, Pair, Stop as Stops, Value}
use Rattle.instructions.specs.declared.end.End.{End}
use Rattle.instructions.specs.declared.end.Ending.{Ending}
use Rattle.instructions.specs.declared.end.Ending.TheVariants.{Limit, Stop as ByCode}
use Rattle.instructions.specs.declared.stop.Stop.{Stop}
use Rattle.inorder.specs.declared.history.Step.{Step}
use Rattle.inorder.specs.Committed.{committed}
use Rattle.inorder.specs.Legal.{AreAllowed, Taken, applied, reached}
use Rattle.inorder.specs.Machine.{State, fetched}
use Rattle.inorder.specs.Moves.{IsReached, MayRun, MayTake, run_on}
use Rattle.inorder.specs.Runs.{after, end_state, stop, stop_of, then_stop}
use Rattle.inorder.specs.Theorem.{IsInOrder, IsRight}
use Rattle.inorder.specs.Unit.{Sizes, UpdateUnit, empty_unit}
use Rattle.inorder.proofs.Basics.{length_put}
use Rattle.inorder.proofs.OneCaller.Sequences.{allowed_of, reach_on, taken}
use Rattle.own_model.specs.Runs.{EndsAfter, IsInOrderEnd, IsOneFurther, held}
use Rattle.own_model.specs.State.{IsNoStop, accessed, advanced, advanced_by, half_in, left, value_in}
use Rattle.own_model.specs.declared.state.ArchitecturalState.{ArchitecturalState}
use Rattle.own_model.proofs.Retiring.{none_waits}
use Rattle.own_model.specs.Transitions.{ByStop, Goes, HasStopped, Nowhere, StandsForSome, StopsWith}

-- A history that steps of this form lengthen

reached_more : (P : Program) (C : Sizes) (more : List Step) (h : List Taken) → reached P C (taken 0 more ++ h) ≡ run_on P C 0 (reached P C h) more
reached_more P C [] h = refl
reached_more P C (s ∷ more) h = ap (λ V. applied P C V 0 s) (reached_more P C more h)

allowed_more : (P : Program) (C : Sizes) (more : List Step) (h : List Taken) → AreAllowed P C h → MayRun P C 0 (reached P C h) more → AreAllowed P C (taken 0 more ++ h)
allowed_more P C [] h a m = a
allowed_more P C (s ∷ more) h a m =
    (allowed_more P C more h a m.0, allowed_of P C (reached P C (taken 0 more ++ h)) 0 s (subst (λ V. MayTake P C V 0 s) (sym (reached_more P C more h)) m.1))

all_taken : (IsOne : Step → Type 0) (more : List Step) (h : List Taken) → AllByRecursion IsOne more → AllByRecursion (λ t. IsOne t.step) h → AllByRecursion (λ t. IsOne t.step) (taken 0 more ++ h)
all_taken IsOne [] h a b = b
all_taken IsOne (s ∷ more) h a b = (a.0, all_taken IsOne more h a.1 b)

module _ {IsOne : Step → Type 0} {P : Program} {C : Sizes} where
  -- a model at the start
  pub starts : {Stands : UpdateUnit → Type 0} → Stands empty_unit → StandsForSome IsOne P C Stands
  starts stands = record { unit = empty_unit; reached = record { history = []; allowed = tt; is = refl; never = refl }; are = tt; stands = stands }

  -- what holds of each unit that a model stands for
  pub stands_as : {Stands Other : UpdateUnit → Type 0} → ((U : UpdateUnit) → Stands U → Other U) → StandsForSome IsOne P C Stands → StandsForSome IsOne P C Other
  stands_as f u = record { unit = u.unit; reached = u.reached; are = u.are; stands = f u.unit u.stands }

  -- a model that goes on
  pub goes_on : {Before Later : UpdateUnit → Type 0} → StandsForSome IsOne P C Before → Goes IsOne P C Before Later → StandsForSome IsOne P C Later
  goes_on u goes =
      let m = goes u.unit u.reached u.stands in
      record {
        unit = m.unit;
        reached = record {
          history = taken 0 m.reaches.steps ++ u.reached.history;
          allowed = allowed_more P C m.reaches.steps u.reached.history u.reached.allowed (subst (λ V. MayRun P C 0 V m.reaches.steps) (sym u.reached.is) m.reaches.leads.may);
          is = reached_more P C m.reaches.steps u.reached.history ∙ ap (λ V. run_on P C 0 V m.reaches.steps) u.reached.is ∙ m.reaches.leads.is;
          never = (reach_on P C 0 u.unit m.reaches.steps m.unit u.reached m.reaches.leads).never;
        };
        are = all_taken IsOne m.reaches.steps u.reached.history m.reaches.are u.are;
        stands = m.stands;
      }

-- what the law says of a unit that allowed steps reach
module _ {P : Program} {C : Sizes} (right : (history : List Taken) → IsRight P C history) (U : UpdateUnit) (reached : IsReached P C U) where
  in_order : IsInOrder P U.tenants
  in_order = subst (λ V. IsInOrder P V.tenants) reached.is (right reached.history reached.allowed)

  stop_is : (c : Stop) → StopsWith P U.tenants c → stop P (committed P U.tenants).count ≡ Some c
  stop_is c (ByStop p t is retired fate) = in_order.stops p t c is retired fate
  stop_is c (Nowhere bad none) =
      ap (then_stop P) in_order.state ∙ ap (λ i. stop_of (fetched P (committed P U.tenants) i)) none ∙ ap Some (sym bad)

  -- an end with what the unit has committed
  ended : (limit : ℕ) (e : End) (o : Ending) (s : State) → s ≡ committed P U.tenants → end_state e ≡ (o, s) → EndsAfter P limit s.count o → IsInOrderEnd P limit e
  ended limit e o s same is h = record {
    state = subst (λ (x : State). after P x.count ≡ Some x) (sym (ap (λ q. q.1) is ∙ same)) in_order.state;
    ends = subst (λ (q : Ending × State). EndsAfter P limit q.1.count q.0) (sym is) h;
  }

-- what the law says of a model: a run that has reached its limit, and one that stops before it
module _ {IsOne : Step → Type 0} {P : Program} {C : Sizes} (right : (history : List Taken) → IsRight P C history) (limit : ℕ) (s : State) (e : End) where
  pub at_limit : StandsForSome IsOne P C (λ U. s ≡ committed P U.tenants) → s.count ≡ limit → end_state e ≡ (Limit, s) → IsInOrderEnd P limit e
  at_limit u all is = ended right u.unit u.reached limit e Limit s u.stands is all

  pub at_stop : (c : Stop) → StandsForSome IsOne P C (HasStopped P s c) → s.count < limit → end_state e ≡ (ByCode c, s) → IsInOrderEnd P limit e
  at_stop c u below is =
      let stops = ap (λ (x : State). stop P x.count) u.stands.state ∙ stop_is right u.unit u.reached c u.stands.stops in
      ended right u.unit u.reached limit e (ByCode c) s u.stands.state is (stops, below)

-- What an instruction leaves

-- each that goes on leaves registers and a memory of the same size
left_shows : (a : ArchitecturalState) (i : Instr) (Shows : ArchitecturalState → Type 0) → ((memory : List ℕ) (v x : ℕ) → length memory ≡ length a.committed.memory → Shows (advanced a i (half_in a) memory v x)) →
    (o : Outcome) → IsNoStop o → Shows (left a i o)
left_shows a i Shows each o goes = by o goes
  where
    accesses : (k : Kind) (at : ℕ) → Shows (accessed k a i (half_in a) (pc_plus_4 a.committed.pc) at)
    accesses Stores at = each _ _ _ (length_put a.committed.memory at (width i.op) (value_in a (second_of i)))
    accesses Loads at = each _ _ _ refl
    accesses Computes at = each _ _ _ refl
    accesses Jumps at = each _ _ _ refl
    accesses Links at = each _ _ _ refl

    by : (o : Outcome) → IsNoStop o → Shows (left a i o)
    by (Value v) goes = each _ _ _ refl
    by (Next x) goes = each _ _ _ refl
    by (Address at) goes = accesses (kind i.op) at
    by (Pair low high) goes = each _ _ _ refl
    by (Stops c) goes = absurd (goes c refl)

pub few : {A : Type 0} → (low : Option A) → held low ≤ 1
few None = omega arith
few (Some w) = omega arith

-- it goes on by one instruction at most
pub further : (a : ArchitecturalState) (i : Instr) (o : Outcome) → IsNoStop o → IsOneFurther a (left a i o)
further a i = left_shows a i (IsOneFurther a) (λ memory v x same. by memory v x (is_first_half i.op (half_in a)) refl)
  where
    by : (memory : List ℕ) (v x : ℕ) (first : Bool) → is_first_half i.op (half_in a) ≡ first → IsOneFurther a (advanced_by first a i (half_in a) memory v x)
    by memory v x true f = let none : held a.low ≡ 0 = ap held (none_waits a.low i.op f) in record { count = omega arith; halves = omega (arith, none) }
    by memory v x false f = let one : held a.low ≤ 1 = few a.low in record { count = omega arith; halves = omega (arith, one) }

-- memory keeps its size
pub same_size : (a : ArchitecturalState) (i : Instr) (o : Outcome) → IsNoStop o → length (left a i o).committed.memory ≡ length a.committed.memory
same_size a i = left_shows a i (λ z. length z.committed.memory ≡ length a.committed.memory) (λ memory v x same. by memory v x same (is_first_half i.op (half_in a)))
  where
    by : (memory : List ℕ) (v x : ℕ) → length memory ≡ length a.committed.memory → (first : Bool) → length (advanced_by first a i (half_in a) memory v x).committed.memory ≡ length a.committed.memory
    by memory v x same true = refl
    by memory v x same false = same

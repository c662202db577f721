-- What the tests on the stations say of the tenants.
use Rattle.std.proofs.lemmas.Grind.{common_steps}
use Rattle.std.proofs.Common.{◌≡◌, ◌≢◌, ℕ, ◌<◌, ◌≤◌, false, List, [], ◌∷◌, ◌++◌, length, Option, Some, None, refl, sym, ap, ◌∙◌, subst, arith, length-append}
use Rattle.std.specs.Prelude.{unwrap_or}
use Rattle.std.specs.List.{AllByRecursion}
use Rattle.instructions.specs.Instruction.{first_of, second_of}
use Rattle.instructions.specs.Programs.{Program}
use Rattle.instructions.specs.declared.op.Kind.{Kind}
use Rattle.inorder.specs.Committed.{ahead}
use Rattle.inorder.specs.Steps.{IsNoRetiredStop}
use Rattle.inorder.specs.Tenants.{Live, Retired, Squashed, Standing, Tenant, instr, missing_of, stands_live}
use Rattle.inorder.proofs.Sound.{IsSound}
use Rattle.inorder.specs.Quiescent.{AreQuiescent}
use Rattle.one_thread.specs.declared.execute.Operands.{Operands}
use Rattle.one_thread.specs.declared.station.Station.{Station}
use Rattle.one_thread.specs.Producers.{NoneGives, given_at, gives}
use Rattle.one_thread.specs.Notes.{miss_in}
use Rattle.one_thread.specs.Turns.{IsNoMiss}
use Rattle.one_thread.specs.Window.{miss_of, operands_by, source_in, stage_of, station_of, window}
use Rattle.one_thread.proofs.Scan.{get_end, get_left, take_left, take_middle}
use Rattle.one_thread.proofs.Windows.{source_worth, window_if, window_live}

pub gives_left : {X : Type 0} → (give : List Station → Station → Option X) (xs zs : List Station) (k : ℕ) → k < length xs → gives give (xs ++ zs) k ≡ gives give xs k
gives_left give xs zs k h = grind (arith, common_steps, get_left, take_left)

pub gives_here : {X : Type 0} → (give : List Station → Station → Option X) (xs zs : List Station) (w : Station) → gives give (xs ++ w ∷ zs) (length xs) ≡ give xs w
gives_here give xs zs w = ap (λ o. given_at give (xs ++ w ∷ zs) o (length xs)) (get_end xs zs w) ∙ ap (λ l. give l w) (take_middle xs (w ∷ zs))

-- what no station gives, no live tenant gives
abbrev pub NoneIs : {X : Type 0} → (List Station → Station → Option X) → Program → List Tenant → Type 0
NoneIs give P [] = Unit {0}
NoneIs give P (t ∷ ts) = (t.standing ≡ Live → give (window P ts) (station_of P t) ≡ None) × NoneIs give P ts

pub none_is : {X : Type 0} → (give : List Station → Station → Option X) (P : Program) (U : List Tenant) → NoneGives give (window P U) → NoneIs give P U
none_is give P [] h = tt
none_is give P (t ∷ ts) h = go t.standing refl (none_is give P ts)
  where
    away : t.standing ≢ Live → stands_live t.standing ≡ false → (NoneGives give (window P ts) → NoneIs give P ts) → NoneIs give P (t ∷ ts)
    away n e more = grind (arith, common_steps, window_if)

    go : (st : Standing) → t.standing ≡ st → (NoneGives give (window P ts) → NoneIs give P ts) → NoneIs give P (t ∷ ts)
    go Live e more =
        let w = window_live P t ts e in
        let less : (k : ℕ) → k ≤ length (window P ts) → k < length (window P ts ++ station_of P t ∷ []) = λ k q. omega (arith, length-append (window P ts) (station_of P t ∷ [])) in
        let at : (k : ℕ) → k ≤ length (window P ts) → gives give (window P ts ++ station_of P t ∷ []) k ≡ None = λ k q. ap (λ x. gives give x k) (sym w) ∙
        h k (subst (λ x. k < length x) (sym w) (less k q)) in (
          (λ q. sym (gives_here give (window P ts) [] (station_of P t)) ∙ at (length (window P ts)) (omega arith)),
          more (λ k q. sym (gives_left give (window P ts) (station_of P t ∷ []) k q) ∙ at k (omega arith)),
        )
    go Retired e more = away (λ q. let no : Live ≡ Retired = sym q ∙ e in absurd (cc)) (ap stands_live e) more
    go Squashed e more = away (λ q. let no : Live ≡ Squashed = sym q ∙ e in absurd (cc)) (ap stands_live e) more

-- no miss

pub no_miss : (P : Program) (U : List Tenant) → NoneIs miss_in P U → AllByRecursion IsNoMiss U
no_miss P [] h = tt
no_miss P (t ∷ ts) h = ((λ e x q. let no : Some x ≡ None = sym (ap (λ f. miss_of (stage_of f)) q) ∙ h.0 e in absurd (cc)), no_miss P ts h.1)

-- what is needed for a claim

-- the operands of a tenant that can be claimed
pub record AreNeeded (k : Kind) (a b : Option ℕ) (o : Operands) : Type 0 where
  pub none : missing_of k a b ≡ None
  pub first : unwrap_or a 0 ≡ o.a
  pub second : unwrap_or b 0 ≡ o.b

needed_by : (k : Kind) (x y : ℕ) (o : Operands) → operands_by k (Some x) (Some y) ≡ Some o → AreNeeded k (Some x) (Some y) o
needed_by k x y o e = grind (arith, common_steps)

pub needed_are : (k : Kind) (a b : Option ℕ) (o : Operands) → operands_by k a b ≡ Some o → AreNeeded k a b o
needed_are k a b o e = grind (arith, common_steps, needed_by)

-- the sources of a live tenant
pub record HasSources (P : Program) (regs : List ℕ) (t : Tenant) (ts : List Tenant) : Type 0 where
  pub first : t.first.value ≡ source_in regs (window P ts) (first_of (instr P t))
  pub second : t.second.value ≡ source_in regs (window P ts) (second_of (instr P t))

pub has_sources : (P : Program) (regs : List ℕ) (t : Tenant) (ts : List Tenant) → IsSound P (t ∷ ts) →
    AreQuiescent (t ∷ ts) → AllByRecursion IsNoRetiredStop ts → regs ≡ (ahead P ts).registers → t.standing ≡ Live →
    HasSources P regs t ts
has_sources P regs t ts s h ns e live = grind (arith, common_steps, source_worth)

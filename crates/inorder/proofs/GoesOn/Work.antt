-- The work that is left falls with each act, so that a history's acts are bounded by its lets.
use Rattle.std.proofs.Common.{◌≡◌, ℕ, zero, suc, ◌+◌, ◌-◌, ◌*◌, ◌<◌, ◌≤◌, Bool, true, false, cond, eqb, List, [], ◌∷◌, ◌++◌, Option, Some, None, refl, sym, ap, ◌∙◌, subst, ⊎_elim, arith}
use Rattle.std.proofs.lemmas.Bool.{cases_lt}
use Rattle.std.specs.Prelude.{is_none}
use Rattle.std.proofs.Common.{mul-le-mul_right}
use Rattle.instructions.specs.Instruction.{first_of, second_of}
use Rattle.instructions.specs.Programs.{Program, instr_of}
use Rattle.instructions.specs.declared.stop.Outcome.{Outcome}
use Rattle.instructions.specs.declared.stop.Outcome.TheVariants.{Address, Next, Pair, Stop as Stops, Value}
use Rattle.instructions.specs.declared.stop.Stop.{Stop}
use Rattle.inorder.specs.declared.history.Act.{Act}
use Rattle.inorder.specs.declared.history.Act.TheVariants.{Claim, Deliver, Finish, Link, Load, Mend, Retire, Speculate, Squash}
use Rattle.inorder.specs.declared.history.Source.TheVariants.{First, Second}
use Rattle.inorder.specs.declared.history.Speculation.TheVariants.{Confirm, Flush, Guess}
use Rattle.inorder.specs.declared.history.Step.{Step}
use Rattle.inorder.specs.declared.history.Step.TheVariants.{Let, On, Renew}
use Rattle.inorder.specs.declared.history.Supply.{Supply}
use Rattle.inorder.specs.declared.history.Supply.TheVariants.{From, Known}
use Rattle.inorder.specs.Committed.{committed}
use Rattle.inorder.specs.Legal.{Allowed, AreAllowed, May, Taken, applied, changed, reached}
use Rattle.inorder.specs.Machine.{Goes, Halts, Ran, State, step}
use Rattle.inorder.specs.Progress.{ActsRunOut, MovesWork, acts, fate_work, lets, source_work, standing_work, tenant_work, work}
use Rattle.inorder.specs.Runs.{after, next_state, stop, stop_of, then_state, then_stop}
use Rattle.inorder.specs.Speculation.{CanGuess}
use Rattle.inorder.specs.Steps.{finished, let_operand, mended_as}
use Rattle.inorder.specs.Tenants.{Addr, Busy, Done, Fate, Guessed, Linked, Live, Miss, Open, Retired, Squashed, Standing, Stopped, Tenant, computed}
use Rattle.inorder.specs.Unit.{Sizes, UpdateUnit, creator, older, value_of, younger}
use Rattle.inorder.proofs.Basics.{split_at}
use Rattle.inorder.proofs.Follows.{state_of}
use Rattle.inorder.proofs.Kept.{parts, sound}

-- A tenant under an act

-- a fate with less work, beside the same links and deliveries
less_fate : (st : Standing) (f f' : Fate) (k : ℕ) → st ≡ Live → fate_work f' < fate_work f →
    standing_work st f' + k < standing_work st f + k
less_fate Live f f' k e h = omega (arith, h)
less_fate Retired f f' k e h = absurd (cc e)
less_fate Squashed f f' k e h = absurd (cc e)

pub some_work : (f : Fate) → 0 < fate_work f
some_work Open = omega arith
some_work (Busy by) = omega arith
some_work (Addr a) = omega arith
some_work (Done v) = omega arith
some_work (Miss x) = omega arith
some_work (Stopped c) = omega arith
some_work (Guessed v) = omega arith

-- one that leaves
less_left : (st : Standing) (f : Fate) (k : ℕ) → st ≡ Live → 0 + k < standing_work st f + k
less_left Live f k e = omega (arith, some_work f)
less_left Retired f k e = absurd (cc e)
less_left Squashed f k e = absurd (cc e)

guess_work : (f : Fate) → CanGuess f → 2 < fate_work f
guess_work Open c = omega arith
guess_work (Addr a) c = omega arith
guess_work (Busy by) c = absurd c
guess_work (Done v) c = absurd c
guess_work (Miss x) c = absurd c
guess_work (Stopped x) c = absurd c
guess_work (Guessed v) c = absurd c

linked_work : (in_time : Bool) (v : Option ℕ) → source_work (Linked in_time) v < 2
linked_work in_time None = omega arith
linked_work in_time (Some v) = omega arith

pub act_works : (P : Program) (by : ℕ) (act : Act) (ys : List Tenant) (t : Tenant) (ts : List Tenant) →
    May P by act ys t ts → tenant_work (changed P by act t ts) < tenant_work t
act_works P by (Link First) ys t ts m =
    let two : source_work t.first.way t.first.value ≡ 2 = ap (λ w. source_work w t.first.value) m.way in
    omega (arith, two, linked_work (is_none (value_of ts t.first.creator)) t.first.value)
act_works P by (Link Second) ys t ts m =
    let two : source_work t.second.way t.second.value ≡ 2 = ap (λ w. source_work w t.second.value) m.way in
    omega (arith, two, linked_work (is_none (value_of ts t.second.creator)) t.second.value)
act_works P by (Deliver First) ys t ts m =
    let one : source_work t.first.way t.first.value ≡ 1 =
    ap (λ w. source_work w t.first.value) m.way ∙ ap (source_work (Linked m.in_time)) m.waits in
    let none : source_work t.first.way (value_of ts t.first.creator) ≡ 0 =
    ap (λ w. source_work w (value_of ts t.first.creator)) m.way ∙ ap (source_work (Linked m.in_time)) m.is_made in
    omega (arith, one, none)
act_works P by (Deliver Second) ys t ts m =
    let one : source_work t.second.way t.second.value ≡ 1 =
    ap (λ w. source_work w t.second.value) m.way ∙ ap (source_work (Linked m.in_time)) m.waits in
    let none : source_work t.second.way (value_of ts t.second.creator) ≡ 0 =
    ap (λ w. source_work w (value_of ts t.second.creator)) m.way ∙ ap (source_work (Linked m.in_time)) m.is_made in
    omega (arith, one, none)
act_works P by Claim ys t ts m =
    let five : fate_work t.fate ≡ 5 = ap fate_work m.fate in
    less_fate t.standing t.fate (Busy by) _ m.live (omega (arith, five))
act_works P by Finish ys t ts m = go (computed P t)
  where
    four : fate_work t.fate ≡ 4
    four = ap fate_work m.fate

    jumped : (x : ℕ) (b : Bool) → fate_work (cond b (Done x) (Miss x)) < fate_work t.fate
    jumped x true = omega (arith, four)
    jumped x false = omega (arith, four)

    go : (o : Outcome) → tenant_work (finished t o) < tenant_work t
    go (Value v) = less_fate t.standing t.fate (Done v) _ m.live (omega (arith, four))
    go (Next x) = less_fate t.standing t.fate (cond (eqb x t.predicted) (Done x) (Miss x)) _ m.live (jumped x (eqb x t.predicted))
    go (Address a) = less_fate t.standing t.fate (Addr a) _ m.live (omega (arith, four))
    go (Stops c) = less_fate t.standing t.fate (Stopped c) _ m.live (omega (arith, four))
    go (Pair low high) = less_fate t.standing t.fate (Done low) _ m.live (omega (arith, four))
act_works P by Load ys t ts m =
    let three : fate_work t.fate ≡ 3 = ap fate_work m.fate in
    less_fate t.standing t.fate (Done _) _ m.live (omega (arith, three))
act_works P by (Retire n) ys t ts m = less_left t.standing t.fate _ m.live
act_works P by Squash ys t ts m = less_left t.standing t.fate _ m.live
act_works P by (Speculate (Guess v)) ys t ts m =
    less_fate t.standing t.fate (Guessed v) _ m.live (guess_work t.fate m.fate)
act_works P by (Speculate Confirm) ys t ts m =
    let two : fate_work t.fate ≡ 2 = ap fate_work m.fate in
    less_fate t.standing t.fate (Done _) _ m.live (omega (arith, two))
act_works P by (Speculate Flush) ys t ts m = less_left t.standing t.fate _ m.live
act_works P by Mend ys t ts m =
    let two : fate_work t.fate ≡ 2 = ap fate_work m.fate in
    subst (λ f. tenant_work (mended_as t f) < tenant_work t) (sym m.fate)
    (less_fate t.standing t.fate (Done m.x) _ m.live (omega (arith, two)))

-- A unit under a step

less_among : (t t' : Tenant) (ts ys : List Tenant) → tenant_work t' < tenant_work t →
    work (ys ++ t' ∷ ts) < work (ys ++ t ∷ ts)
less_among t t' ts [] h = omega (arith, h)
less_among t t' ts (y ∷ ys) h = omega (arith, less_among t t' ts ys h)

new_source : (c : Option ℕ) (s : Supply) → source_work (let_operand c s).way (let_operand c s).value ≤ 2
new_source c (Known v) = omega arith
new_source c From = omega arith

pub moves_work : (P : Program) (C : Sizes) (U : UpdateUnit) (by : ℕ) → MovesWork P C U by
moves_work P C U by = record { act = act_less; lets = let_more; renew = refl }
  where
    us : List Tenant
    us = U.tenants

    act_less : (p : ℕ) (act : Act) → Allowed P C U by (On p act) → work (applied P C U by (On p act)).tenants < work us
    act_less p act a =
        let t = a.tenant in
        let t' = changed P by act t (older us p) in
        let less = less_among t t' (older us p) (younger us p) (act_works P by act (younger us p) t (older us p) a.may) in
        let now = ap work (parts P us by p act t a.is) in
        let was = ap work (split_at us p t a.is) in
        omega (arith, less, now, was)

    let_more : (index predicted : ℕ) (first second : Supply) →
        work (applied P C U by (Let index predicted first second)).tenants ≤ 9 + work us
    let_more index predicted first second =
        let one = new_source (creator P us (first_of (instr_of P index))) first in
        let two = new_source (creator P us (second_of (instr_of P index))) second in
        omega (arith, one, two)

-- Acts and lets

pub acts_bound : (P : Program) (C : Sizes) (history : List Taken) → AreAllowed P C history →
    acts history + work (reached P C history).tenants ≤ 9 * lets history
acts_bound P C [] a = omega arith
acts_bound P C (s ∷ ss) a = go s.by s.step a.1 (acts_bound P C ss a.0)
  where
    U : UpdateUnit
    U = reached P C ss

    go : (by : ℕ) (step : Step) → Allowed P C U by step → acts ss + work U.tenants ≤ 9 * lets ss →
        acts (record { by = by; step = step } ∷ ss) + work (applied P C U by step).tenants ≤
        9 * lets (record { by = by; step = step } ∷ ss)
    go by (Let index predicted first second) may h =
        let more = (moves_work P C U by).lets index predicted first second in omega (arith, h, more)
    go by (On p act) may h = let less = (moves_work P C U by).act p act may in omega (arith, h, less)
    go by Renew may h = omega (arith, h)

-- The in-order machine, once it stops

-- it has no further state
ends_there : (P : Program) (n : ℕ) (c : Stop) → stop P n ≡ Some c → after P (suc n) ≡ None
ends_there P n c h = go (after P n) h
  where
    halts : (r : Ran) → stop_of r ≡ Some c → next_state r ≡ None
    halts (Goes s) e = absurd (cc e)
    halts (Halts d) e = refl

    go : (o : Option State) → then_stop P o ≡ Some c → then_state P o ≡ None
    go None e = refl
    go (Some s) e = halts (step P s) e

stays_ended : (P : Program) (n k : ℕ) → after P n ≡ None → after P (k + n) ≡ None
stays_ended P n zero h = let same : 0 + n ≡ n = omega arith in ap (after P) same ∙ h
stays_ended P n (suc k) h =
    let same : suc k + n ≡ suc (k + n) = omega arith in ap (after P) same ∙ ap (then_state P) (stays_ended P n k h)

-- it has run no more instructions
pub ran_most : (P : Program) (n m : ℕ) (c : Stop) (s : State) → stop P n ≡ Some c → after P m ≡ Some s → m ≤ n
ran_most P n m c s h there = ⊎_elim
    (λ (lt : n < m).
    let position : (m - suc n) + suc n ≡ m = omega (arith, lt) in
    let none : None ≡ Some s = sym (stays_ended P (suc n) (m - suc n) (ends_there P n c h)) ∙ ap (after P) position ∙ there in
    absurd (cc none))
    (λ (le : m ≤ n). le)
    (cases_lt n m)

pub acts_run_out : (P : Program) (C : Sizes) (history : List Taken) → ActsRunOut P C history
acts_run_out P C history = record { bound = bound; ends = ends }
  where
    ts : List Tenant
    ts = (reached P C history).tenants

    bound : AreAllowed P C history → acts history ≤ 9 * lets history
    bound a = omega (arith, acts_bound P C history a)

    ends : AreAllowed P C history → (n k : ℕ) (c : Stop) → stop P n ≡ Some c →
        lets history ≤ suc (committed P ts).count * k → acts history ≤ 9 * (suc n * k)
    ends a n k c h few =
        let most : (committed P ts).count ≤ n =
        ran_most P n (committed P ts).count c (committed P ts) h (state_of P ts (sound P C history a)) in
        let all : suc (committed P ts).count ≤ suc n = omega (arith, most) in
        let each : suc (committed P ts).count * k ≤ suc n * k = mul-le-mul_right k all in
        omega (arith, bound a, few, each)

-- One sequence of steps that events tell after another.
use Rattle.std.specs.List.{AllByRecursion}
use Rattle.std.specs.Prelude.{Result, IfErr, IfNone, IfSome, OnOk, slice_get}
use Rattle.std.proofs.Common.{◌≡◌, ◌⊎◌, ℕ, suc, ◌<◌, Option, Some, None, Ok, Err, length, List, [], ◌∷◌, ◌++◌, refl, sym, ap, ◌∙◌, subst, inl, inr, ⊎_elim, arith}
use Rattle.instructions.specs.Programs.{Program, address}
use Rattle.inorder.specs.declared.history.Act.TheVariants.{Claim, Deliver, Finish, Link, Load, Mend as UnitMend, Retire as UnitRetire, Speculate, Squash}
use Rattle.inorder.specs.declared.history.Step.{Step as UnitStep}
use Rattle.inorder.specs.declared.history.Step.TheVariants.{Let as UnitLet, On as UnitOn, Renew}
use Rattle.inorder.specs.Legal.{Allowed, MayAct, change_at}
use Rattle.inorder.specs.Steps.{MayLet, new_tenant}
use Rattle.inorder.specs.Tenants.{Tenant}
use Rattle.inorder.specs.Moves.{Leads, MayTake}
use Rattle.inorder.specs.Unit.{Sizes, UpdateUnit, at, front_pc}
use Rattle.inorder.proofs.OneCaller.Sequences.{leads_more, leads_nowhere, leads_once}
use Rattle.replay.specs.declared.step.Step.{Step}
use Rattle.replay.specs.declared.step.Step.TheVariants.{Let, On}
use Rattle.replay.specs.declared.unit.Unit.{Unit as Held}
use Rattle.replay.specs.declared.acting.Deed.{Deed}
use Rattle.replay.specs.declared.acting.Deed.TheVariants.{Confirm, Mend, Retire}
use Rattle.replay.specs.declared.supply.Supplies.{Supplies}
use Rattle.replay.specs.Lets.{IsNoLet, sizes_of, supply_of, unit_of}
use Rattle.replay.specs.declared.dispatch.NoLet.{NoLet}
use Rattle.replay.specs.declared.dispatch.NoLet.TheVariants.{NoInstruction as NoSuch, NoSupply, OtherNext, OtherPc, QueueFull, RingFull}
use Rattle.replay.specs.declared.refusal.Refusal.{Refusal}
use Rattle.replay.specs.declared.tenant.Tenant.{Tenant as HeldTenant}
use Rattle.replay.proofs.Laid.{get_below, laid_length}
use Rattle.replay.proofs.Left.{act_leaves, new_due, none_due, nothing_due}
use Rattle.replay.specs.Placing.{AreDueTo, IsQuiet, IsSilent, LeadsSilently, LeavesDue, may_make}
use Rattle.replay.specs.Reasons.{IsHeldLive, Reason as ActReason, act_of, held}
use Rattle.replay.specs.Shown.{shown}
use Rattle.replay.specs.Verdicts.{IsNamed, IsTaken}
use Rattle.events.specs.declared.why.Why.{Why}
use Rattle.events.specs.declared.why.Why.TheVariants.{Let as WhyLet, NoInstruction, Act as WhyAct, Gone, NotLet, OtherProducer, OtherValue, NoValue, Nobody}
use Rattle.events.specs.Following.{AreTold, Follows, IsUntold}
use Rattle.events.specs.Told.{AreExecution, Confirms, Executes, IsConfirm, IsExecution, IsLet, IsNext, IsOfState, IsRetire, IsRetiring, IsSquash, IsSquashAfter, IsSquashing, IsTrueOf, NextLet, Only, Recovers, Refuses, Retires, Squashes, SquashesOne}

abbrev as_unit : List Tenant → ℕ → UpdateUnit
as_unit ts n = record { tenants = ts; fresh = n }

told_more : (rr ss : List Step) (ts us : List UnitStep) → AreTold ss us → AreTold rr ts → AreTold (rr ++ ss) (ts ++ us)
told_more [] ss [] us a b = a
told_more [] [] (t ∷ ts) us a b = (b.0, told_more [] [] ts us a b.1)
told_more [] (s ∷ ss) (t ∷ ts) us a b = inr (b.0, told_more [] (s ∷ ss) ts us a b.1)
told_more (r ∷ rr) ss [] us a b = absurd b
told_more (r ∷ rr) ss (t ∷ ts) us a b =
    ⊎_elim (λ c. inl (c.0, told_more rr ss ts us a c.1)) (λ c. inr (c.0, told_more (r ∷ rr) ss ts us a c.1)) b

may_take : (P : Program) (C : Sizes) (U : UpdateUnit) (s : Step) (t : UnitStep) → IsNamed s t → Allowed P C U 0 t → MayTake P C U 0 t
may_take P C U s (UnitLet i p f g) n a = a
may_take P C U s (UnitOn q act) n a = a
may_take P C U (Let i p) Renew n a = absurd n
may_take P C U (On q deed) Renew n a = absurd n

pub stays : (u : Held) → Follows u [] u
stays u = record {
  program = refl;
  sizes = refl;
  steps = [];
  leads = leads_nowhere u.program.now (sizes_of u) 0 (unit_of u);
  are = tt;
  due = λ quiet. quiet;
}

-- no event tells a link or a delivery
untold_silent : (t : UnitStep) → IsSilent t → IsUntold t
untold_silent (UnitOn p (Link k)) silent = tt
untold_silent (UnitOn p (Deliver k)) silent = tt
untold_silent (UnitOn p Claim) silent = absurd silent
untold_silent (UnitOn p Finish) silent = absurd silent
untold_silent (UnitOn p Load) silent = absurd silent
untold_silent (UnitOn p (UnitRetire n)) silent = absurd silent
untold_silent (UnitOn p Squash) silent = absurd silent
untold_silent (UnitOn p UnitMend) silent = tt
untold_silent (UnitOn p (Speculate s)) silent = absurd silent
untold_silent (UnitLet i p f g) silent = absurd silent
untold_silent Renew silent = absurd silent

untold_all : (ts : List UnitStep) → AllByRecursion IsSilent ts → AreTold [] ts
untold_all [] all = tt
untold_all (t ∷ ts) all = (untold_silent t all.0, untold_all ts all.1)

-- a step that is told, and then links and deliveries
pub told_once : (u m v : Held) (s : Step) → IsTaken u s m → m.program.now ≡ u.program.now → sizes_of m ≡ sizes_of u → LeadsSilently m v →
    (IsQuiet u → IsQuiet v) → Follows u (s ∷ []) v
told_once u m v s t program sizes silent due =
    let one =
    leads_once u.program.now (sizes_of u) 0 (unit_of u) (unit_of m) t.taken
    (may_take u.program.now (sizes_of u) (unit_of u) s t.taken t.named t.allowed) (sym t.leads) in
    let more = subst (λ (P : Program). Leads P (sizes_of m) 0 (unit_of m) silent.steps (unit_of v)) program silent.leads in
    let same = subst (λ (C : Sizes). Leads u.program.now C 0 (unit_of m) silent.steps (unit_of v)) sizes more in
    record {
      program = ap (λ p. p.now) silent.program ∙ program;
      sizes = silent.sizes ∙ sizes;
      steps = silent.steps ++ t.taken ∷ [];
      leads = leads_more u.program.now (sizes_of u) 0 (unit_of u) (unit_of m) (unit_of v) silent.steps (t.taken ∷ []) one same;
      are = told_more [] (s ∷ []) silent.steps (t.taken ∷ []) (inl (t.named, tt)) (untold_all silent.steps silent.silent);
      due = due;
    }

-- one after another
pub then : (u v w : Held) (ss rr : List Step) → Follows u ss v → Follows v rr w → Follows u (rr ++ ss) w
then u v w ss rr a b =
    let more = subst (λ (P : Program). Leads P (sizes_of v) 0 (unit_of v) b.steps (unit_of w)) a.program b.leads in
    let same = subst (λ (C : Sizes). Leads u.program.now C 0 (unit_of v) b.steps (unit_of w)) a.sizes more in
    record {
      program = b.program ∙ a.program;
      sizes = b.sizes ∙ a.sizes;
      steps = b.steps ++ a.steps;
      leads = leads_more u.program.now (sizes_of u) 0 (unit_of u) (unit_of v) (unit_of w) b.steps a.steps a.leads same;
      are = told_more rr ss b.steps a.steps a.are b.are;
      due = λ quiet. b.due (a.due quiet);
    }

pub append_nil : (ss : List Step) → ss ++ [] ≡ ss
append_nil [] = refl
append_nil (s ∷ ss) = ap (λ rr. s ∷ rr) (append_nil ss)

pub untold_then : (u v w : Held) (rr : List Step) → Follows u [] v → Follows v rr w → Follows u rr w
untold_then u v w rr a b = subst (λ ss. Follows u ss w) (append_nil rr) (then u v w [] rr a b)

-- Steps of the unit

-- what an act that is allowed takes
pub acted : (u v : Held) (p : ℕ) (deed : Deed) → MayAct u.program.now (shown u.tenants.items) 0 p (act_of deed) →
    shown v.tenants.items ≡ change_at u.program.now (shown u.tenants.items) 0 p (act_of deed) (at (shown u.tenants.items) p) →
    length v.tenants.items ≡ length u.tenants.items → IsTaken u (On p deed) v
acted u v p deed may done long = record {
  taken = UnitOn p (act_of deed);
  named = (refl, refl);
  allowed = may;
  leads = ap (λ n. as_unit (shown v.tenants.items) n) long ∙ ap (λ ts. as_unit ts (length u.tenants.items)) done;
}

-- what an instruction that may be let takes
pub entered : (u v : Held) (index predicted : ℕ) (s : Supplies) →
    MayLet u.program.now (sizes_of u) (unit_of u) index predicted (supply_of s.first) (supply_of s.second) →
    shown v.tenants.items ≡ new_tenant u.program.now (sizes_of u) (unit_of u) index predicted (supply_of s.first) (supply_of s.second) ∷ shown u.tenants.items →
    length v.tenants.items ≡ suc (length u.tenants.items) → IsTaken u (Let index predicted) v
entered u v index predicted s may done one = record {
  taken = UnitLet index predicted (supply_of s.first) (supply_of s.second);
  named = (refl, refl);
  allowed = may;
  leads = ap (λ n. as_unit (shown v.tenants.items) n) one ∙ ap (λ ts. as_unit ts (suc (length u.tenants.items))) done;
}

-- Executions

pub executes_none : (u : Held) (p : ℕ) → Executes u p u
executes_none u p = record { told = []; follows = stays u; are = tt }

pub executes_one : (u v : Held) (p : ℕ) (s : Step) → Follows u (s ∷ []) v → IsExecution p s → Executes u p v
executes_one u v p s f e = record { told = s ∷ []; follows = f; are = (e, tt) }

all_more : (p : ℕ) (rr ss : List Step) → AreExecution p rr → AreExecution p ss → AreExecution p (rr ++ ss)
all_more p [] ss a b = b
all_more p (r ∷ rr) ss a b = (a.0, all_more p rr ss a.1 b)

pub executes_then : (u v w : Held) (p : ℕ) → Executes u p v → Executes v p w → Executes u p w
executes_then u v w p a b = record {
  told = b.told ++ a.told;
  follows = then u v w a.told b.told a.follows b.follows;
  are = all_more p b.told a.told b.are a.are;
}

-- Refusals

let_lift : (v : Held) (A B : List Step → Type 0) (told ss : List Step) (r : NoLet) → ((rr : List Step) → A rr → B (rr ++ ss)) →
    NextLet v A told r → NextLet v B (told ++ ss) r
let_lift v A B told ss RingFull f n = record { index = n.index; predicted = n.predicted; path = n.path; next = f (Let n.index n.predicted ∷ told) n.next; why = n.why }
let_lift v A B told ss QueueFull f n = record { index = n.index; predicted = n.predicted; path = n.path; next = f (Let n.index n.predicted ∷ told) n.next; why = n.why }
let_lift v A B told ss NoSuch f n = record { index = n.index; predicted = n.predicted; path = n.path; next = f (Let n.index n.predicted ∷ told) n.next; why = n.why }
let_lift v A B told ss (OtherPc front) f n = f told n
let_lift v A B told ss (OtherNext x) f n = record { index = n.index; predicted = n.predicted; path = n.path; next = f (Let n.index n.predicted ∷ told) n.next; why = n.why }
let_lift v A B told ss (NoSupply k) f n = record { index = n.index; predicted = n.predicted; path = n.path; next = f (Let n.index n.predicted ∷ told) n.next; why = n.why }

-- what is next after fewer steps
next_lift : (v : Held) (A B : List Step → Type 0) (told ss : List Step) (why : Why) → ((rr : List Step) → A rr → B (rr ++ ss)) →
    IsNext v A told why → IsNext v B (told ++ ss) why
next_lift v A B told ss (WhyLet r) f n = let_lift v A B told ss r f n
next_lift v A B told ss (NoInstruction pc) f n = f told n
next_lift v A B told ss (WhyAct p deed r) f n = f (On p deed ∷ told) n
next_lift v A B told ss (NotLet p) f n = f told n
next_lift v A B told ss (Gone p) f n = f told n
next_lift v A B told ss (OtherProducer p a b) f n = f told n
next_lift v A B told ss (OtherValue p x) f n = f told n
next_lift v A B told ss (NoValue p) f n = f told n
next_lift v A B told ss Nobody f n = f told n

-- an act
pub refuses_here : (u v : Held) (p : ℕ) (deed : Deed) (r : Refusal) → v ≡ u → ActReason u.program.now (shown u.tenants.items) deed p r →
    Refuses u (Only (On p deed)) (WhyAct p deed r) v
refuses_here u v p deed r same why =
    subst (Refuses u (Only (On p deed)) (WhyAct p deed r)) (sym same) (record { told = []; follows = stays u; next = refl; holds = why })

-- an instruction that is let
pub let_refused : (u m v : Held) (pc next : Option ℕ) (index w : ℕ) (r : NoLet) → Follows u [] m → v ≡ m → front_pc (shown m.tenants.items) ≡ address index →
    IfSome pc (λ x. x ≡ address index) → IfSome next (λ x. x ≡ w) → IsNoLet m index w r → Refuses u (λ ss. (ss ≡ []) ⊎ IsLet pc next ss) (WhyLet r) v
let_refused u m v pc next index w r f same path at goes why =
    subst (Refuses u (λ ss. (ss ≡ []) ⊎ IsLet pc next ss) (WhyLet r)) (sym same)
    (record { told = []; follows = f; next = by r why; holds = true_of r why })
  where
    one : (ss : List Step) → ss ≡ Let index w ∷ [] → (ss ≡ []) ⊎ IsLet pc next ss
    one ss e = inr (record { index = index; predicted = w; is = e; at = at; goes = goes })

    by : (x : NoLet) → IsNoLet m index w x → NextLet m (λ ss. (ss ≡ []) ⊎ IsLet pc next ss) [] x
    by RingFull n = record { index = index; predicted = w; path = path; next = one (Let index w ∷ []) refl; why = n }
    by QueueFull n = record { index = index; predicted = w; path = path; next = one (Let index w ∷ []) refl; why = n }
    by NoSuch n = record { index = index; predicted = w; path = path; next = one (Let index w ∷ []) refl; why = n }
    by (OtherPc front) n = inl refl
    by (OtherNext x) n = record { index = index; predicted = w; path = path; next = one (Let index w ∷ []) refl; why = n }
    by (NoSupply k) n = record { index = index; predicted = w; path = path; next = one (Let index w ∷ []) refl; why = n }

    true_of : (x : NoLet) → IsNoLet m index w x → IsTrueOf m (WhyLet x)
    true_of RingFull n = tt
    true_of QueueFull n = tt
    true_of NoSuch n = tt
    true_of (OtherPc front) n = n.0
    true_of (OtherNext x) n = tt
    true_of (NoSupply k) n = tt

-- what is stated
pub refuses_state : (u v : Held) (A : List Step → Type 0) (ss : List Step) (why : Why) → Follows u ss v → A ss → IsOfState why → IsTrueOf v why →
    Refuses u A why v
refuses_state u v A ss why f a of t = record { told = ss; follows = f; next = go why of; holds = t }
  where
    go : (w : Why) → IsOfState w → IsNext v A ss w
    go (WhyLet r) o = absurd o
    go (NoInstruction pc) o = a
    go (WhyAct p deed r) o = absurd o
    go (NotLet p) o = a
    go (Gone p) o = a
    go (OtherProducer p x y) o = a
    go (OtherValue p x) o = a
    go (NoValue p) o = a
    go Nobody o = a

pub refuses_after : (u v w : Held) (ss : List Step) (why : Why) (A B : List Step → Type 0) → Follows u ss v → Refuses v A why w →
    ((rr : List Step) → A rr → B (rr ++ ss)) → Refuses u B why w
refuses_after u v w ss why A B f r lift = record {
  told = r.told ++ ss;
  follows = then u v w ss r.told f r.follows;
  next = next_lift w A B r.told ss why lift r.next;
  holds = r.holds;
}

-- no step that is told before
pub refuses_as : (u v w : Held) (why : Why) (A B : List Step → Type 0) → Follows u [] v → Refuses v A why w → ((rr : List Step) → A rr → B rr) →
    Refuses u B why w
refuses_as u v w why A B f r how = refuses_after u v w [] why A B f r (λ rr a. subst B (sym (append_nil rr)) (how rr a))

pub refuses_executed : (u v w : Held) (p : ℕ) (why : Why) (A : List Step → Type 0) → ((rr : List Step) → A rr → AreExecution p rr) → Executes u p v →
    Refuses v A why w → Refuses u (AreExecution p) why w
refuses_executed u v w p why A how e r =
    refuses_after u v w e.told why A (AreExecution p) e.follows r (λ rr a. all_more p rr e.told (how rr a) e.are)

pub only_execution : (p : ℕ) (s : Step) → IsExecution p s → (rr : List Step) → Only s rr → AreExecution p rr
only_execution p s is rr e = subst (AreExecution p) (sym e) (is, tt)

pub only_retiring : (p : ℕ) (ss : List Step) → IsConfirm p ss → (rr : List Step) → Only (On p Retire) rr → IsRetiring (Some p) (rr ++ ss)
only_retiring p ss c rr e = inr (inr (record {
  p = p;
  named = refl;
  is = ⊎_elim (λ f. inl (ap (λ xs. xs ++ ss) e ∙ ap (λ xs. On p Retire ∷ xs) f)) (λ f. inr (ap (λ xs. xs ++ ss) e ∙ ap (λ xs. On p Retire ∷ xs) f)) c;
}))

pub only_confirming : (p : ℕ) (rr : List Step) → Only (On p Confirm) rr → IsRetiring (Some p) rr
only_confirming p rr e = inr (inl (record { p = p; named = refl; is = e }))

-- the tenant is the one that is named
pub retiring_named : (p : ℕ) (who : Option ℕ) → IfSome who (λ q. q ≡ p) → (rr : List Step) → IsRetiring (Some p) rr → IsRetiring who rr
retiring_named p who named rr (inl none) = inl none
retiring_named p who named rr (inr (inl c)) =
    inr (inl (record { p = p; named = named; is = subst (λ q. rr ≡ On q Confirm ∷ []) (sym c.named) c.is }))
retiring_named p who named rr (inr (inr r)) =
    inr (inr (record { p = p; named = named; is = subst (λ q. (rr ≡ On q Retire ∷ []) ⊎ (rr ≡ On q Retire ∷ On q Confirm ∷ [])) (sym r.named) r.is }))

pub retiring_told : (p : ℕ) (who : Option ℕ) (rr : List Step) → IfSome who (λ q. q ≡ p) → IsRetire (Some p) rr → IsRetiring who rr
retiring_told p who rr named r = retiring_named p who named rr (inr (inr r))

-- What is due after a step

pub act_left : (u v : Held) (p : ℕ) (deed : Deed) → MayAct u.program.now (shown u.tenants.items) 0 p (act_of deed) →
    shown v.tenants.items ≡ change_at u.program.now (shown u.tenants.items) 0 p (act_of deed) (at (shown u.tenants.items) p) →
    v.program.now ≡ u.program.now → IsQuiet u → LeavesDue (may_make (act_of deed)) v.program.now (shown v.tenants.items) p
act_left u v p deed may done program quiet =
    subst (λ (P : Program). LeavesDue (may_make (act_of deed)) P (shown v.tenants.items) p) (sym program)
    (subst (λ ts. LeavesDue (may_make (act_of deed)) u.program.now ts p) (sym done)
    (act_leaves u.program.now (shown u.tenants.items) p (none_due u.program.now (sizes_of u) (unit_of u) quiet) (act_of deed) may))

pub let_left : (u v : Held) (who : ℕ) (t : Tenant) → shown v.tenants.items ≡ t ∷ shown u.tenants.items → v.program.now ≡ u.program.now →
    who ≡ length u.tenants.items → IsQuiet u → AreDueTo v.program.now (shown v.tenants.items) who
let_left u v who t done program last quiet =
    let long = laid_length u.tenants.items [] in
    subst (λ (P : Program). AreDueTo P (shown v.tenants.items) who) (sym program)
    (subst (λ ts. AreDueTo u.program.now ts who) (sym done)
    (subst (AreDueTo u.program.now (t ∷ shown u.tenants.items)) (omega arith)
    (new_due u.program.now t (shown u.tenants.items) (none_due u.program.now (sizes_of u) (unit_of u) quiet))))

pub untold_mend : (u v : Held) (p : ℕ) → MayAct u.program.now (shown u.tenants.items) 0 p UnitMend →
    shown v.tenants.items ≡ change_at u.program.now (shown u.tenants.items) 0 p UnitMend (at (shown u.tenants.items) p) →
    length v.tenants.items ≡ length u.tenants.items → v.program.now ≡ u.program.now → sizes_of v ≡ sizes_of u → Follows u [] v
untold_mend u v p may done long program sizes = record {
  program = program;
  sizes = sizes;
  steps = UnitOn p UnitMend ∷ [];
  leads = leads_once u.program.now (sizes_of u) 0 (unit_of u) (unit_of v) (UnitOn p UnitMend) may
      (sym (ap (λ n. as_unit (shown v.tenants.items) n) long ∙ ap (λ ts. as_unit ts (length u.tenants.items)) done));
  are = (tt, tt);
  due = λ quiet. nothing_due v.program.now (sizes_of v) (unit_of v) (act_left u v p Mend may done program quiet);
}

-- Answers

pub on_ok : {X E : Type 0} (r : Result X E) (A B : Type 0) → (A → B) → OnOk r A → OnOk r B
on_ok (Ok x) A B f a = f a
on_ok (Err e) A B f a = tt

pub if_err : {X E : Type 0} (r : Result X E) (A B : E → Type 0) → ((e : E) → A e → B e) → IfErr r A → IfErr r B
if_err (Ok x) A B f a = tt
if_err (Err e) A B f a = f e a

-- Retirement and recovery

pub confirms_later : (u v w : Held) (p : ℕ) → Follows u [] v → Confirms v p w → Confirms u p w
confirms_later u v w p f c = record { told = c.told; follows = untold_then u v w c.told f c.follows; is = c.is }

pub retires_confirmed : (u v w : Held) (p : ℕ) → Confirms u p v → Follows v (On p Retire ∷ []) w → Retires u (Some p) w
retires_confirmed u v w p c f = record {
  told = On p Retire ∷ c.told;
  follows = then u v w c.told (On p Retire ∷ []) c.follows f;
  is = record {
    p = p;
    named = refl;
    is = ⊎_elim (λ e. inl (ap (λ ss. On p Retire ∷ ss) e)) (λ e. inr (ap (λ ss. On p Retire ∷ ss) e)) c.is;
  };
}

pub retires_named : (u v : Held) (p : ℕ) (who : Option ℕ) → Retires u (Some p) v → IfSome who (λ q. q ≡ p) → Retires u who v
retires_named u v p who r named = record {
  told = r.told;
  follows = r.follows;
  is = record { p = p; named = named; is = subst (λ q. (r.told ≡ On q Retire ∷ []) ⊎ (r.told ≡ On q Retire ∷ On q Confirm ∷ [])) (sym r.is.named) r.is.is };
}

pub all_after : (p : ℕ) (rr ss : List Step) → AllByRecursion (IsSquashAfter p) rr → AllByRecursion (IsSquashAfter p) ss → AllByRecursion (IsSquashAfter p) (rr ++ ss)
all_after p [] ss a b = b
all_after p (r ∷ rr) ss a b = (a.0, all_after p rr ss a.1 b)

pub squashes_none : (u : Held) (p : ℕ) → SquashesOne u p u
squashes_none u p = record { told = []; follows = stays u; are = tt }

pub squashes_then : (u v w : Held) (p : ℕ) → SquashesOne u p v → SquashesOne v p w → SquashesOne u p w
squashes_then u v w p a b = record {
  told = b.told ++ a.told;
  follows = then u v w a.told b.told a.follows b.follows;
  are = all_after p b.told a.told b.are a.are;
}

pub squashed_one : (who : Option ℕ) (p : ℕ) (d : Deed) → IfSome who (λ q. q ≡ p) → IsSquashing d → (rr : List Step) → Only (On p d) rr → IsSquash who rr
squashed_one who p d named how rr e = record {
  p = p;
  named = named;
  is = ⊎_elim (λ f. inl (e ∙ ap (λ x. On p x ∷ []) f)) (λ f. inr (e ∙ ap (λ x. On p x ∷ []) f)) how;
}

pub squashes : (u v : Held) (who : Option ℕ) (s : Step) → Follows u (s ∷ []) v → IsSquash who (s ∷ []) → Squashes u who v
squashes u v who s f is = record { told = s ∷ []; follows = f; is = is }

pub recovers : (u v w : Held) (p : ℕ) → SquashesOne u p v → Follows v (On p Mend ∷ []) w → Recovers u p w
recovers u v w p s f = record {
  told = On p Mend ∷ s.told;
  follows = then u v w s.told (On p Mend ∷ []) s.follows f;
  is = record { squashes = s.told; is = refl; are = s.are };
}

pub if_none : {X : Type 0} (o : Option X) (A B : Type 0) → (A → B) → IfNone o A → IfNone o B
if_none None A B f a = f a
if_none (Some x) A B f a = tt

-- nobody is in flight, if nobody of all is
pub nobody_live : (hs : List HeldTenant) (n : ℕ) → n ≡ length hs → ((q : ℕ) → q < n → ¬ IsHeldLive (held hs q)) → (q : ℕ) → ¬ IsHeldLive (held hs q)
nobody_live hs n long never q live = go (slice_get hs q) refl live
  where
    go : (o : Option HeldTenant) → slice_get hs q ≡ o → IsHeldLive o → ⊥
    go None e l = l
    go (Some h) e l = let below = get_below hs q h e in never q (omega arith) (subst IsHeldLive (sym e) l)

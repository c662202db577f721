-- Whether each entry of a history is allowed: decided by computing, with the proof where it is.
use Rattle.std.proofs.Common.{◌≡◌, ◌≢◌, ℕ, true, false, List, [], ◌∷◌, length, Option, Some, None, refl, ap, inl, inr}
use Rattle.instructions.specs.Programs.{Program}
use Rattle.instructions.specs.declared.op.Kind.{Kind}
use Rattle.instructions.specs.declared.stop.Stop.{Stop}
use Rattle.inorder.specs.declared.history.Act.{Act}
use Rattle.inorder.specs.declared.history.Act.TheVariants.{Claim, Deliver, Finish, Link, Load, Mend, Retire, Speculate, Squash}
use Rattle.inorder.specs.declared.history.Entry.{Entry}
use Rattle.inorder.specs.declared.history.Event.{Event}
use Rattle.inorder.specs.declared.history.Event.TheVariants.{Does, Marks, Refuses}
use Rattle.inorder.specs.declared.history.Mark.{Mark}
use Rattle.inorder.specs.declared.history.Mark.TheVariants.{Asked, Walked}
use Rattle.inorder.specs.declared.history.Refusal.{Refusal}
use Rattle.inorder.specs.declared.history.Refusal.TheVariants.{Empty, Moved, NotDone, NotOpen, Over, Stale, Waiting}
use Rattle.inorder.specs.declared.history.Source.{Source}
use Rattle.inorder.specs.declared.history.Source.TheVariants.{First, Second}
use Rattle.inorder.specs.declared.history.Step.{Step}
use Rattle.inorder.specs.declared.history.Step.TheVariants.{Let, On, Renew}
use Rattle.inorder.specs.History.{IsLegal, IsTheirAct, IsTheirs, MayAdd, MayMark, MayRefuse, WasOpen, back, front, unit_of}
use Rattle.inorder.specs.Replies.{Has, IsOpen, IsRetiredStop, last_tag}
use Rattle.inorder.specs.Steps.{CanRetire}
use Rattle.inorder.specs.Tenants.{Addr, AtLet, Busy, Done, Fate, Guessed, IsThere, Linked, Miss, Open, Retired, Squashed, Standing, Stopped, Tenant, Unlinked, Way, kind_of, missing, operand}
use Rattle.inorder.specs.Unit.{Sizes, UpdateUnit, at, next_tag, older, recent}
use Rattle.inorder.proofs.Runs.Decided.{all, equal, has_left, is_apart, is_less, some_of, stands_live, stays_open, stores_not, then}
use Rattle.inorder.proofs.Runs.DecidedSteps.{allowed, no_stop, none_live}
use Rattle.inorder.proofs.Runs.Examples.{AreServedBy, IsServedBy, all_walked, at_let_not_linked, busy_not_open, late_not_in_time, none_not_some, none_open, unlinked_not_linked}

-- The one, or else the other
abbrev pub or_else : {X : Type 0} → Option X → Option X → Option X
or_else (Some x) o = Some x
or_else None o = o

-- There is a tenant, and this is true of it
abbrev pub has : (U : UpdateUnit) (p : ℕ) (Fact : Tenant → Type 0) → ((t : Tenant) → Option (Fact t)) → Option (Has U p Fact)
has U p Fact fact = then (some_of (at U.tenants p)) (λ k. then (fact k.0) (λ f. Some (record { tenant = k.0; is = k.1; fact = f })))

-- A tenant is open, or is not

abbrev pub opens : (t : Tenant) → Option (IsOpen t)
opens t = then (stands_live t.standing) (λ live. then (stays_open t.fate) (λ fate. Some (record { live = live; fate = fate })))

pub addr_not_open : (a : ℕ) → Addr a ≢ Open
addr_not_open a e = cc

pub done_not_open : (v : ℕ) → Done v ≢ Open
done_not_open v e = cc

pub miss_not_open : (x : ℕ) → Miss x ≢ Open
miss_not_open x e = cc

pub stopped_not_open : (c : Stop) → Stopped c ≢ Open
stopped_not_open c e = cc

pub guessed_not_open : (v : ℕ) → Guessed v ≢ Open
guessed_not_open v e = cc

abbrev pub goes_on : (f : Fate) → Option (f ≢ Open)
goes_on Open = None
goes_on (Busy by) = Some (busy_not_open by)
goes_on (Addr a) = Some (addr_not_open a)
goes_on (Done v) = Some (done_not_open v)
goes_on (Guessed v) = Some (guessed_not_open v)
goes_on (Miss x) = Some (miss_not_open x)
goes_on (Stopped c) = Some (stopped_not_open c)

abbrev pub opens_not : (t : Tenant) → Option (¬ IsOpen t)
opens_not t = or_else (then (has_left t.standing) (λ left. Some (λ o. left o.live))) (then (goes_on t.fate) (λ f. Some (λ o. f o.fate)))

abbrev pub opens_not_at : (s : ℕ) (t : Tenant) → Option (t.station ≡ s → ¬ IsOpen t)
opens_not_at s t = or_else (then (is_apart t.station s) (λ other. Some (λ e. absurd (other e)))) (then (opens_not t) (λ closed. Some (λ e. closed)))

-- Where a tenant was open before
abbrev pub was_open : (P : Program) (C : Sizes) (h : List Entry) (p : ℕ) → Option (WasOpen P C h p)
was_open P C [] p = None
was_open P C (e ∷ h) p =
    or_else
    (then (was_open P C h p) (λ w. Some (record { point = w.point; starts = record { more = e ∷ w.starts.more; is = ap (λ z. e ∷ z) w.starts.is }; opened = w.opened })))
    (then (has (unit_of P C (e ∷ h)) p IsOpen opens) (λ o. Some (record { point = e ∷ h; starts = record { more = []; is = refl }; opened = o })))

-- Refusals

abbrev pub source_is : (o : Option Source) (k : Source) → Option (o ≡ Some k)
source_is (Some First) First = Some refl
source_is (Some Second) Second = Some refl
source_is o k = None

abbrev pub was_squashed : (s : Standing) → Option (s ≡ Squashed)
was_squashed Squashed = Some refl
was_squashed s = None

abbrev pub has_retired : (s : Standing) → Option (s ≡ Retired)
has_retired Retired = Some refl
has_retired s = None

abbrev pub stops : (f : Fate) → Option ((c : Stop) × (f ≡ Stopped c))
stops (Stopped c) = Some (c, refl)
stops f = None

abbrev pub retired_stop : (t : Tenant) → Option (IsRetiredStop t)
retired_stop t = then (has_retired t.standing) (λ standing. then (stops t.fate) (λ s. Some (record { code = s.0; standing = standing; fate = s.1 })))

abbrev pub retires_not : (k : Kind) (second : Option ℕ) (f : Fate) → Option (¬ CanRetire k second f)
retires_not k second Open = Some (λ c. c)
retires_not k second (Busy by) = Some (λ c. c)
retires_not k second (Guessed x) = Some (λ c. c)
retires_not k second (Miss x) = Some (λ c. c)
retires_not k second (Addr a) = then (stores_not k) (λ not. Some (λ c. not c.0))
retires_not k second f = None

-- The oldest live tenant, and the oldest that has retired with a stop
abbrev pub first_live : List Tenant → Option ℕ
first_live [] = None
first_live (t ∷ ts) = or_else (first_live ts) (then (stands_live t.standing) (λ live. Some (length ts)))

abbrev pub first_stop : List Tenant → Option ℕ
first_stop [] = None
first_stop (t ∷ ts) = or_else (first_stop ts) (then (retired_stop t) (λ stop. Some (length ts)))

abbrev pub may_refuse : (P : Program) (C : Sizes) (h : List Entry) (by : ℕ) (r : Refusal) → Option (MayRefuse P C h by r)
may_refuse P C h by (NotOpen s) =
    then (is_less 1 by) (λ unit.
    then (all (λ t. t.station ≡ s → ¬ IsOpen t) (opens_not_at s) (unit_of P C h).tenants) (λ each.
    Some (unit, none_open (unit_of P C h) s each)))
may_refuse P C h by (Waiting p k) =
    then (is_less 1 by) (λ unit.
    then (was_open P C h p) (λ was.
    then (has (unit_of P C h) p (λ t. missing P t ≡ Some k) (λ t. source_is (missing P t) k)) (λ waits.
    Some (unit, was, waits))))
may_refuse P C h by (Moved p) =
    then (is_less 1 by) (λ unit.
    then (was_open P C h p) (λ was.
    then (has (unit_of P C h) p (λ t. ¬ IsOpen t) opens_not) (λ moved.
    Some (unit, was, moved))))
may_refuse P C h by (Stale p) =
    then (is_less 0 by) (λ caller.
    then (has (unit_of P C h) p (λ t. t.standing ≡ Squashed) (λ t. was_squashed t.standing)) (λ stale.
    Some (caller, stale)))
may_refuse P C h by NotDone =
    then (equal by back) (λ is_back.
    then (no_stop (unit_of P C h).tenants) (λ runs.
    then (first_live (unit_of P C h).tenants) (λ p.
    then (some_of (at (unit_of P C h).tenants p)) (λ k.
    then (stands_live k.0.standing) (λ live.
    then (none_live (older (unit_of P C h).tenants p)) (λ oldest.
    then (retires_not (kind_of P k.0) k.0.second.value k.0.fate) (λ stays.
    Some (is_back, record { goes_on = runs; p = p; tenant = k.0; is = k.1; live = live; oldest = oldest; stays = stays }))))))))
may_refuse P C h by Empty =
    then (equal by back) (λ is_back.
    then (no_stop (unit_of P C h).tenants) (λ runs.
    then (none_live (unit_of P C h).tenants) (λ none.
    Some (is_back, record { goes_on = runs; none = none }))))
may_refuse P C h by Over =
    then (equal by back) (λ is_back.
    then (first_stop (unit_of P C h).tenants) (λ p.
    then (has (unit_of P C h) p IsRetiredStop retired_stop) (λ stop.
    Some (is_back, record { p = p; stop = stop }))))

-- Marks

abbrev pub asked_in_time : (w : Way) → Option (w ≡ Linked true)
asked_in_time (Linked true) = Some refl
asked_in_time w = None

abbrev pub asked_not_in_time : (w : Way) → Option (w ≢ Linked true)
asked_not_in_time AtLet = Some at_let_not_linked
asked_not_in_time Unlinked = Some unlinked_not_linked
asked_not_in_time (Linked false) = Some late_not_in_time
asked_not_in_time (Linked true) = None

pub some_other : (p q : ℕ) → p ≢ q → Some p ≢ Some q
some_other p q other e = let same : p ≡ q = cc e in other same

abbrev pub comes_not_from : (o : Option ℕ) (q : ℕ) → Option (o ≢ Some q)
comes_not_from None q = Some (none_not_some q)
comes_not_from (Some p) q = then (is_apart p q) (λ other. Some (some_other p q other))

-- A source is no link in time to q, or is delivered, or its tenant has left
abbrev pub is_served : (q : ℕ) (t : Tenant) (k : Source) → Option (IsServedBy q t k)
is_served q t k =
    or_else (then (comes_not_from (operand k t).creator q) (λ other. Some (λ e w. absurd (other e))))
    (or_else (then (asked_not_in_time (operand k t).way) (λ not. Some (λ e w. absurd (not w))))
    (or_else (then (some_of (operand k t).value) (λ v. Some (λ e w. inl (v.0, v.1))))
    (then (has_left t.standing) (λ left. Some (λ e w. inr left)))))

abbrev pub are_served : (q : ℕ) (t : Tenant) → Option (AreServedBy q t)
are_served q t = then (is_served q t First) (λ first. then (is_served q t Second) (λ second. Some (first, second)))

abbrev pub may_mark : (U : UpdateUnit) (by : ℕ) (m : Mark) → Option (MayMark U by m)
may_mark U by (Walked q) =
    then (is_less 0 by) (λ caller. then (all (AreServedBy q) (are_served q) U.tenants) (λ each. Some (caller, all_walked U q each)))
may_mark U by (Asked p k) =
    then (equal by front) (λ is_front.
    or_else
    (then (has U p (λ t. IsThere (operand k t).value) (λ t. some_of (operand k t).value)) (λ there. Some (is_front, inl there)))
    (then (has U p (λ t. (operand k t).way ≡ Linked true) (λ t. asked_in_time (operand k t).way)) (λ asked. Some (is_front, inr asked))))

-- Who may do what

abbrev pub their_act : (by : ℕ) (act : Act) → Option (IsTheirAct by act)
their_act by (Link k) = equal by front
their_act by (Deliver k) = Some tt
their_act by Claim = is_less 1 by
their_act by Finish = is_less 1 by
their_act by Load = equal by back
their_act by (Retire n) = equal by back
their_act by Squash = equal by front
their_act by (Speculate s) = None
their_act by Mend = equal by front

abbrev pub is_theirs : (C : Sizes) (U : UpdateUnit) (by : ℕ) (s : Step) → Option (IsTheirs C U by s)
is_theirs C U by (Let index predicted first second) =
    then (equal by front) (λ is_front. then (is_less (next_tag C (recent U)) last_tag) (λ unspent. Some (is_front, unspent)))
is_theirs C U by (On p act) = their_act by act
is_theirs C U by Renew = equal by front

-- An entry, and each of a history

abbrev pub may_add : (P : Program) (C : Sizes) (h : List Entry) (by : ℕ) (e : Event) → Option (MayAdd P C h by e)
may_add P C h by (Does s) =
    then (is_theirs C (unit_of P C h) by s) (λ theirs. then (allowed P C (unit_of P C h) by s) (λ may. Some (theirs, may)))
may_add P C h by (Refuses r) = may_refuse P C h by r
may_add P C h by (Marks m) = may_mark (unit_of P C h) by m

abbrev pub is_legal : (P : Program) (C : Sizes) (h : List Entry) → Option (IsLegal P C h)
is_legal P C [] = Some tt
is_legal P C (e ∷ h) = then (is_legal P C h) (λ before. then (may_add P C h e.by e.event) (λ now. Some (before, now)))

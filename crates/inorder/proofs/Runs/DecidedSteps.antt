-- Whether each step of a run is allowed: decided by computing, with the proof where it is.
use Rattle.std.proofs.Common.{◌≡◌, ◌≢◌, ℕ, ◌^◌, List, [], ◌∷◌, length, Option, Some, None, refl}
use Rattle.std.specs.List.{AllByRecursion}
use Rattle.instructions.specs.Instruction.{first_of, fixed_next, is_access, kind, second_of}
use Rattle.instructions.specs.Programs.{Program, address, instr_of}
use Rattle.instructions.specs.declared.op.Kind.{Kind}
use Rattle.instructions.specs.declared.op.Kind.TheVariants.{Stores}
use Rattle.instructions.specs.declared.stop.Stop.{Stop}
use Rattle.inorder.specs.declared.history.Act.{Act}
use Rattle.inorder.specs.declared.history.Act.TheVariants.{Claim, Deliver, Finish, Link, Load, Mend, Retire, Speculate, Squash}
use Rattle.inorder.specs.declared.history.Step.{Step}
use Rattle.inorder.specs.declared.history.Step.TheVariants.{Let, On, Renew}
use Rattle.inorder.specs.declared.history.Supply.{Supply}
use Rattle.inorder.specs.declared.history.Supply.TheVariants.{From, Known}
use Rattle.inorder.specs.Legal.{Allowed, AreAllowed, May, Taken, reached}
use Rattle.inorder.specs.Memory.{raw_at, sure_raw_at}
use Rattle.inorder.specs.Steps.{CanRetire, HasAddress, IsNoRetiredStop, MayLet, MaySupply}
use Rattle.inorder.specs.Speculation.{CanGuess}
use Rattle.inorder.specs.Tenants.{Addr, Done, Fate, IsNotLive, Live, Miss, Open, Retired, Squashed, Standing, Stopped, Tenant, computed, instr, is_live, is_live_access, kind_of, missing, operand}
use Rattle.inorder.specs.Unit.{Sizes, UpdateUnit, at, creator, front_half, front_pc, how_many, is_old, next_station, older, recent, value_of, younger}
use Rattle.inorder.proofs.Runs.Decided.{all, equal, has_address, has_left, if_some_is, if_true, is_address, is_apart, is_busy, is_false, is_guess, is_less, is_linked, is_miss, is_unlinked, links_not, loads, none_of}
use Rattle.inorder.proofs.Runs.Decided.{some_is, some_of, stands_live, stays_open, stores_not, then}
use Rattle.inorder.proofs.Runs.Examples.{addr_not_stop, done_not_stop, live_not_retired, retired_not_live, squashed_not_live, squashed_not_retired}
use Rattle.inorder.specs.declared.history.Speculation.TheVariants.{Confirm, Flush, Guess}
use Rattle.instructions.specs.Operations.{loaded}

-- A let

abbrev pub may_supply : (P : Program) (U : UpdateUnit) (s : ℕ) (c : Option ℕ) (supply : Supply) → Option (MaySupply P U s c supply)
may_supply P U s c (Known v) = some_is (value_of U.tenants c) v
may_supply P U s c From =
    then (some_of c) (λ m.
    then (some_of (at U.tenants m.0)) (λ k.
    then (links_not (kind_of P k.0)) (λ waits.
    then (is_apart k.0.station s) (λ other.
    then (all (λ u. u.station ≢ k.0.station) (λ u. is_apart u.station k.0.station) (younger U.tenants m.0)) (λ last.
    then (is_false (is_old U m.0)) (λ new.
    Some (record { p = m.0; tenant = k.0; creates = m.1; is = k.1; waits = waits; other = other; last = last; new = new })))))))

abbrev pub may_let : (P : Program) (C : Sizes) (U : UpdateUnit) (index predicted : ℕ) (first second : Supply) → Option (MayLet P C U index predicted first second)
may_let P C U index predicted first second =
    then (is_less (how_many is_live U.tenants) C.ring) (λ room.
    then (if_true (is_access (kind (instr_of P index).op)) (is_less (how_many (is_live_access P) U.tenants) C.queue)) (λ queue.
    then (is_less index (length P.code)) (λ is_there.
    then (equal (front_pc U.tenants) (address index)) (λ pc.
    then (is_less predicted (2 ^ 32)) (λ small.
    then (if_some_is (fixed_next (instr_of P index) (front_half P U.tenants) (front_pc U.tenants)) predicted) (λ predicts.
    then (may_supply P U (next_station C (recent U)) (creator P U.tenants (first_of (instr_of P index))) first) (λ first_is.
    then (may_supply P U (next_station C (recent U)) (creator P U.tenants (second_of (instr_of P index))) second) (λ second_is.
    Some (record { room = room; queue = queue; is_there = is_there; pc = pc; small = small; predicts = predicts; first_is = first_is; second_is = second_is })))))))))

-- What is before a tenant

abbrev pub no_stop_by : (s : Standing) (f : Fate) → Option (s ≡ Retired → (c : Stop) → f ≢ Stopped c)
no_stop_by Live f = Some (λ e. absurd (live_not_retired e))
no_stop_by Squashed f = Some (λ e. absurd (squashed_not_retired e))
no_stop_by Retired (Done v) = Some (λ e c. done_not_stop v c)
no_stop_by Retired (Addr a) = Some (λ e c. addr_not_stop a c)
no_stop_by Retired _ = None

abbrev pub no_stop : (ts : List Tenant) → Option (AllByRecursion IsNoRetiredStop ts)
no_stop ts = all IsNoRetiredStop (λ t. no_stop_by t.standing t.fate) ts

abbrev pub none_live : (ts : List Tenant) → Option (AllByRecursion IsNotLive ts)
none_live ts = all IsNotLive (λ t. has_left t.standing) ts

abbrev pub address_by : (s : Standing) (k : Kind) (f : Fate) → Option (s ≡ Live → k ≡ Stores → (a : ℕ) × (f ≡ Addr a))
address_by Retired k f = Some (λ e. absurd (retired_not_live e))
address_by Squashed k f = Some (λ e. absurd (squashed_not_live e))
address_by Live k (Addr a) = Some (λ e s. (a, refl))
address_by Live k f = then (stores_not k) (λ n. Some (λ e s. absurd (n s)))

-- Where the youngest live miss is
abbrev pub miss_by : Standing → Fate → (here there : ℕ) → ℕ
miss_by Live (Miss x) here there = here
miss_by s f here there = there

abbrev pub miss_in : List Tenant → ℕ
miss_in [] = 0
miss_in (t ∷ ts) = miss_by t.standing t.fate (length ts) (miss_in ts)

abbrev pub can_retire : (k : Kind) (second : Option ℕ) (f : Fate) → Option (CanRetire k second f)
can_retire k second (Done v) = Some tt
can_retire k second (Stopped c) = Some tt
can_retire Stores (Some n) (Addr a) = Some (refl, (n, refl))
can_retire k second f = None

abbrev pub can_guess : (f : Fate) → Option (CanGuess f)
can_guess Open = Some tt
can_guess (Addr a) = Some tt
can_guess f = None

-- An act

abbrev pub may : (P : Program) (by : ℕ) (act : Act) (ys : List Tenant) (t : Tenant) (ts : List Tenant) → Option (May P by act ys t ts)
may P by (Link k) ys t ts = then (is_unlinked (operand k t).way) (λ way. Some (record { way = way }))
may P by (Deliver k) ys t ts =
    then (is_linked (operand k t).way) (λ w.
    then (none_of (operand k t).value) (λ waits.
    then (some_of (value_of ts (operand k t).creator)) (λ v.
    Some (record { in_time = w.0; way = w.1; waits = waits; value = v.0; is_made = v.1 }))))
may P by Claim ys t ts =
    then (stands_live t.standing) (λ live. then (stays_open t.fate) (λ fate. then (none_of (missing P t)) (λ needs.
    Some (record { live = live; fate = fate; needs = needs }))))
may P by Finish ys t ts =
    then (stands_live t.standing) (λ live. then (is_busy t.fate by) (λ fate. Some (record { live = live; fate = fate })))
may P by Load ys t ts =
    then (stands_live t.standing) (λ live.
    then (loads (kind_of P t)) (λ kind.
    then (has_address t.fate) (λ a.
    then (all (HasAddress P) (λ u. address_by u.standing (kind_of P u) u.fate) ts) (λ addresses.
    then (some_of (raw_at P ts (instr P t) a.0)) (λ b.
    Some (record { live = live; kind = kind; a = a.0; fate = a.1; addresses = addresses; bytes = b.0; read = b.1 }))))))
may P by (Retire n) ys t ts =
    then (is_less n (2 ^ 32)) (λ small.
    then (stands_live t.standing) (λ live.
    then (none_live ts) (λ oldest.
    then (no_stop ts) (λ goes_on.
    then (can_retire (kind_of P t) t.second.value t.fate) (λ can.
    Some (record { small = small; live = live; oldest = oldest; no_stop = goes_on; can = can }))))))
may P by Squash ys t ts =
    then (stands_live t.standing) (λ live.
    then (none_live ys) (λ youngest.
    then (some_of (at ts (miss_in ts))) (λ m.
    then (stands_live m.0.standing) (λ miss_live.
    then (is_miss m.0.fate) (λ x.
    Some (record { live = live; youngest = youngest; p = miss_in ts; miss = m.0; x = x.0; miss_at = m.1; miss_live = miss_live; miss_fate = x.1 }))))))
may P by (Speculate (Guess v)) ys t ts =
    then (is_less v (2 ^ 32)) (λ small.
    then (stands_live t.standing) (λ live.
    then (loads (kind_of P t)) (λ kind.
    then (can_guess t.fate) (λ fate. Some (record { small = small; live = live; kind = kind; fate = fate })))))
may P by (Speculate Confirm) ys t ts =
    then (stands_live t.standing) (λ live.
    then (is_guess t.fate) (λ v.
    then (none_of (missing P t)) (λ needs.
    then (is_address (computed P t)) (λ a.
    then (some_of (sure_raw_at P ts (instr P t) a.0)) (λ b.
    then (equal v.0 (loaded (instr P t).op b.0)) (λ right.
    Some (record { live = live; v = v.0; fate = v.1; needs = needs; a = a.0; computes = a.1; bytes = b.0; read = b.1; right = right })))))))
may P by (Speculate Flush) ys t ts =
    then (stands_live t.standing) (λ live. then (none_live ys) (λ youngest. Some (record { live = live; youngest = youngest })))
may P by Mend ys t ts =
    then (stands_live t.standing) (λ live.
    then (none_live ys) (λ youngest.
    then (is_miss t.fate) (λ x. Some (record { live = live; youngest = youngest; x = x.0; fate = x.1 }))))

-- A step, and each of a run

abbrev pub allowed : (P : Program) (C : Sizes) (U : UpdateUnit) (by : ℕ) (s : Step) → Option (Allowed P C U by s)
allowed P C U by (Let index predicted first second) = may_let P C U index predicted first second
allowed P C U by (On p act) =
    then (some_of (at U.tenants p)) (λ k.
    then (may P by act (younger U.tenants p) k.0 (older U.tenants p)) (λ m.
    Some (record { tenant = k.0; is = k.1; may = m })))
allowed P C U by Renew =
    then (none_live U.tenants) (λ none. then (no_stop U.tenants) (λ goes_on. Some (record { none = none; goes_on = goes_on })))

abbrev pub are_allowed : (P : Program) (C : Sizes) (history : List Taken) → Option (AreAllowed P C history)
are_allowed P C [] = Some tt
are_allowed P C (s ∷ ss) =
    then (are_allowed P C ss) (λ before.
    then (allowed P C (reached P C ss) s.by s.step) (λ now. Some (before, now)))

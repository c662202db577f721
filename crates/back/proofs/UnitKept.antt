-- What a back keeps stays true under every step that is no retirement.
use Rattle.std.proofs.Common.{◌≡◌, ◌≢◌, ℕ, ◌%◌, List, [], ◌∷◌, ◌++◌, map, Option, Some, None, refl, sym, ap, ◌∙◌, subst, ⊎_elim, append_assoc, suc, arith}
use Rattle.std.specs.List.{AllByRecursion}
use Rattle.std.proofs.lemmas.Option.{same_Some}
use Rattle.std.proofs.lemmas.List.{append_cancel_right}
use mathlib.Core.Logic.{dite}
use native.Mathlib.Decide.{ℕ_discrete}
use Rattle.instructions.specs.Programs.{Program, instr_at}
use Rattle.instructions.specs.declared.stop.Stop.{Stop}
use Rattle.inorder.specs.declared.history.Act.{Act}
use Rattle.inorder.specs.declared.history.Act.TheVariants.{Claim, Deliver, Finish, Link, Load, Mend, Retire, Speculate, Squash}
use Rattle.inorder.specs.declared.history.Entry.{Entry}
use Rattle.inorder.specs.declared.history.Event.{Event}
use Rattle.inorder.specs.declared.history.Event.TheVariants.{Does, Marks, Refuses}
use Rattle.inorder.specs.declared.history.Source.TheVariants.{First, Second}
use Rattle.inorder.specs.declared.history.Step.{Step}
use Rattle.inorder.specs.declared.history.Step.TheVariants.{Let, On, Renew}
use Rattle.inorder.specs.Callers.{GoesOn, head_station, is_retired}
use Rattle.inorder.specs.Committed.{committed}
use Rattle.inorder.specs.History.{IsLegal, MayAdd, back, entry, own, unit_of, renewals, renewed_by}
use Rattle.inorder.specs.OneHistory.{Adds}
use Rattle.inorder.specs.Laws.{IsNoRetire}
use Rattle.inorder.specs.Legal.{Allowed, May, applied, changed}
use Rattle.inorder.specs.Machine.{State}
use Rattle.inorder.specs.Replies.{Has}
use Rattle.inorder.specs.Steps.{IsNoRetiredStop}
use Rattle.inorder.specs.Tenants.{Retired, Tenant}
use Rattle.inorder.specs.Unit.{Sizes, UpdateUnit, older, younger}
use Rattle.inorder.proofs.AheadKept.{ahead_by_others}
use Rattle.inorder.proofs.Commits.{by_others}
use Rattle.inorder.proofs.Ends.{Acted, IsNotBacks, IsPlainAct, exact}
use Rattle.inorder.proofs.Heads.{goes_on_stays, head_stays, live_goes_on}
use Rattle.inorder.proofs.Histories.{legal_before, unit_sound, none_between, own_here, own_else}
use Rattle.inorder.proofs.Moves.{IsActed, IsLeft, at_changed, came}
use Rattle.inorder.proofs.Sound.{IsSound}
use Rattle.ruu_words.proofs.Stays.{not_backs}
use Rattle.back.specs.Commits.{IsRetiredStopOf}
use Rattle.back.specs.Kept.{EndIs, KeepsUnit}
use Rattle.back.specs.Kept.WhyEnded.{ByStop, Nowhere}
use Rattle.instructions.specs.Histories.{IsWithin}
use Rattle.back.proofs.OwnEntries.{added_legal, added_own, heads}
use Rattle.inorder.proofs.Recent.{counts_same}
use Rattle.inorder.proofs.Speculating.{speculates_live}

-- Steps

-- a load leaves the head and the retired ones as they are
head_load : (P : Program) (C : Sizes) (U : UpdateUnit) (by p : ℕ) → Allowed P C U by (On p Load) → head_station C (applied P C U by (On p Load)) ≡ head_station C U
head_load P C U by p a =
    ap (λ z. z % C.ring) (counts_same P U by p Load a.tenant a.is is_retired refl)

goes_on_load : (P : Program) (C : Sizes) (U : UpdateUnit) (by p : ℕ) → Allowed P C U by (On p Load) → IsSound P U.tenants → GoesOn U → GoesOn (applied P C U by (On p Load))
goes_on_load P C U by p a ok g q u is =
    let us = U.tenants in
    let was = came P C U by p Load a ok q u is in ⊎_elim
    (λ (z : IsActed P us by p Load a.tenant q was.tenant). subst IsNoRetiredStop (same_Some (changed P by Load a.tenant (older us p)) u (sym z.now ∙ is))
    (live_goes_on (changed P by Load a.tenant (older us p)) a.may.live))
    (λ (z : IsLeft P us by p Load q was.tenant). subst IsNoRetiredStop (same_Some was.tenant u (sym z.now ∙ is)) (g q was.tenant was.is))
    (at_changed P us by p Load a.tenant a.is q was.tenant was.is)

-- a step that is neither a retirement nor a renewal, and no speculation
abbrev pub IsPlain : Step → Type 0
IsPlain (Let index predicted first second) = Unit {0}
IsPlain (On p act) = IsPlainAct act
IsPlain Renew = ⊥

pub no_retire : (s : Step) → IsPlain s → IsNoRetire s
no_retire (Let index predicted first second) n = tt
no_retire (On p (Link k)) n = tt
no_retire (On p (Deliver k)) n = tt
no_retire (On p Claim) n = tt
no_retire (On p Finish) n = tt
no_retire (On p Load) n = tt
no_retire (On p (Retire k)) n = absurd n
no_retire (On p Squash) n = tt
no_retire (On p Mend) n = tt
no_retire (On p (Speculate s)) n = tt
no_retire Renew n = absurd n

pub head_kept : (P : Program) (C : Sizes) (U : UpdateUnit) (by : ℕ) (s : Step) → IsPlain s → Allowed P C U by s → head_station C (applied P C U by s) ≡ head_station C U
head_kept P C U by (Let index predicted first second) n a = head_stays P C U by (Let index predicted first second) tt a
head_kept P C U by Renew n a = absurd n
head_kept P C U by (On p Load) n a = head_load P C U by p a
head_kept P C U by (On p (Retire k)) n a = absurd n
head_kept P C U by (On p (Link k)) n a = head_stays P C U by (On p (Link k)) tt a
head_kept P C U by (On p (Deliver k)) n a = head_stays P C U by (On p (Deliver k)) tt a
head_kept P C U by (On p Claim) n a = head_stays P C U by (On p Claim) tt a
head_kept P C U by (On p Finish) n a = head_stays P C U by (On p Finish) tt a
head_kept P C U by (On p Squash) n a = head_stays P C U by (On p Squash) tt a
head_kept P C U by (On p (Speculate s)) n a = absurd n
head_kept P C U by (On p Mend) n a = head_stays P C U by (On p Mend) tt a

goes_on_kept : (P : Program) (C : Sizes) (U : UpdateUnit) (by : ℕ) (s : Step) → IsPlain s → Allowed P C U by s → IsSound P U.tenants → GoesOn U → GoesOn (applied P C U by s)
goes_on_kept P C U by (Let index predicted first second) n a ok g = goes_on_stays P C U by (Let index predicted first second) tt a ok g
goes_on_kept P C U by Renew n a ok g = absurd n
goes_on_kept P C U by (On p Load) n a ok g = goes_on_load P C U by p a ok g
goes_on_kept P C U by (On p (Retire k)) n a ok g = absurd n
goes_on_kept P C U by (On p (Link k)) n a ok g = goes_on_stays P C U by (On p (Link k)) tt a ok g
goes_on_kept P C U by (On p (Deliver k)) n a ok g = goes_on_stays P C U by (On p (Deliver k)) tt a ok g
goes_on_kept P C U by (On p Claim) n a ok g = goes_on_stays P C U by (On p Claim) tt a ok g
goes_on_kept P C U by (On p Finish) n a ok g = goes_on_stays P C U by (On p Finish) tt a ok g
goes_on_kept P C U by (On p Squash) n a ok g = goes_on_stays P C U by (On p Squash) tt a ok g
goes_on_kept P C U by (On p (Speculate s)) n a ok g = absurd n
goes_on_kept P C U by (On p Mend) n a ok g = goes_on_stays P C U by (On p Mend) tt a ok g

-- a retired tenant stays retired, with its fate
pub record IsGone (t u : Tenant) : Type 0 where
  pub standing : u.standing ≡ Retired
  pub fate : u.fate ≡ t.fate

pub gone_on : (P : Program) (by : ℕ) (act : Act) (ys : List Tenant) (t : Tenant) (ts : List Tenant) → May P by act ys t ts → t.standing ≡ Retired → IsGone t (changed P by act t ts)
gone_on P by (Link First) ys t ts m r = record { standing = r; fate = refl }
gone_on P by (Link Second) ys t ts m r = record { standing = r; fate = refl }
gone_on P by (Deliver First) ys t ts m r = record { standing = r; fate = refl }
gone_on P by (Deliver Second) ys t ts m r = record { standing = r; fate = refl }
gone_on P by Claim ys t ts m r = let x = sym m.live ∙ r in absurd (cc x)
gone_on P by Finish ys t ts m r = let x = sym m.live ∙ r in absurd (cc x)
gone_on P by Load ys t ts m r = let x = sym m.live ∙ r in absurd (cc x)
gone_on P by (Retire n) ys t ts m r = let x = sym m.live ∙ r in absurd (cc x)
gone_on P by Squash ys t ts m r = let x = sym m.live ∙ r in absurd (cc x)
gone_on P by (Speculate s) ys t ts m r = let x = sym (speculates_live P s ys t ts m) ∙ r in absurd (cc x)
gone_on P by Mend ys t ts m r = let x = sym m.live ∙ r in absurd (cc x)

stop_kept : (P : Program) (C : Sizes) (U : UpdateUnit) (by : ℕ) (s : Step) (p : ℕ) (code : Stop) →
    Allowed P C U by s → Has U p (IsRetiredStopOf code) → Has (applied P C U by s) p (IsRetiredStopOf code)
stop_kept P C U by s p code a h = ⊎_elim
    (λ e. record { tenant = h.tenant; is = e; fact = h.fact })
    (λ (z : Acted P U by s (applied P C U by s).tenants p h.tenant).
    let g = gone_on P by z.act (younger U.tenants p) h.tenant (older U.tenants p) z.may h.fact.standing in
    record { tenant = changed P by z.act h.tenant (older U.tenants p); is = z.now; fact = record { standing = g.standing; fate = g.fate ∙ h.fact.fate } })
    (exact P C U by s a p h.tenant h.is)

end_kept : (P : Program) (C : Sizes) (U : UpdateUnit) (by : ℕ) (s : Step) (ended : Option Stop) → IsPlain s →
    Allowed P C U by s → IsSound P U.tenants → EndIs P U ended → EndIs P (applied P C U by s) ended
end_kept P C U by s None n a ok g = goes_on_kept P C U by s n a ok g
end_kept P C U by s (Some code) n a ok (ByStop p h) = ByStop p (stop_kept P C U by s p code a h)
end_kept P C U by s (Some code) n a ok (Nowhere is none g) =
    Nowhere is (ap (λ c. instr_at P c.pc) (by_others P C U by s ok (no_retire s n) a) ∙ none) (goes_on_kept P C U by s n a ok g)

pub step_keeps : (P : Program) (C : Sizes) (state : State) (low : Option ℕ) (head : ℕ) (ended : Option Stop) (U : UpdateUnit) (by : ℕ) (s : Step) →
    IsPlain s → Allowed P C U by s → IsSound P U.tenants → KeepsUnit P C U state low head ended →
    KeepsUnit P C (applied P C U by s) state low head ended
step_keeps P C state low head ended U by s n a ok k = record {
  state_is = k.state_is ∙ sym (by_others P C U by s ok (no_retire s n) a);
  low_is = k.low_is ∙ sym (ahead_by_others P C U by s ok (no_retire s n) a);
  head_is = k.head_is ∙ sym (head_kept P C U by s n a);
  end_is = end_kept P C U by s ended n a ok k.end_is;
}

-- Histories

-- an event that is no retirement
abbrev pub IsQuiet : Event → Type 0
IsQuiet (Does s) = IsPlain s
IsQuiet (Refuses r) = Unit {0}
IsQuiet (Marks m) = Unit {0}

abbrev pub AreQuiet : List Entry → Type 0
AreQuiet es = AllByRecursion (λ e. IsQuiet e.event) es

pub not_retire : (s : Step) → IsNotBacks s → IsPlain s
not_retire Renew b = absurd b
not_retire (Let index predicted first second) b = tt
not_retire (On p (Link k)) b = tt
not_retire (On p (Deliver k)) b = tt
not_retire (On p Claim) b = tt
not_retire (On p Finish) b = tt
not_retire (On p Load) b = tt
not_retire (On p (Retire n)) b = absurd b
not_retire (On p Squash) b = tt
not_retire (On p (Speculate s)) b = absurd b
not_retire (On p Mend) b = tt

-- others retire nothing, where nothing is renewed
others_quiet : (P : Program) (C : Sizes) (h : List Entry) (e : Entry) (n : ℕ) → renewed_by e.event n ≡ n → e.by ≢ back → MayAdd P C h e.by e.event → IsQuiet e.event
others_quiet P C h e n same other m = go e.event same m
  where
    go : (x : Event) → renewed_by x n ≡ n → MayAdd P C h e.by x → IsQuiet x
    go (Does s) q m = not_retire s (not_backs C (unit_of P C h) e.by s (λ is. let more : suc n ≡ n = subst (λ z. renewed_by (Does z) n ≡ n) is q in absurd (omega (arith, more))) m.0 other)
    go (Refuses r) q m = tt
    go (Marks k) q m = tt

module _ (P : Program) (C : Sizes) where
  pub all_quiet : (more seen : List Entry) (events : List Event) → IsLegal P C (more ++ seen) →
      renewals (more ++ seen) ≡ renewals seen → own back more ≡ map (entry back) events →
      AllByRecursion IsQuiet events → AreQuiet more
  all_quiet [] seen events legal calm mine quiet = tt
  all_quiet (e ∷ more) seen events legal calm mine quiet = dite (ℕ_discrete e.by back)
      (λ same. own_one events same mine quiet (λ xs m q. all_quiet more seen xs legal.0 before m q))
      (λ other. (
        others_quiet P C (more ++ seen) e (renewals (more ++ seen)) (calm ∙ sym before) other legal.1,
        all_quiet more seen events legal.0 before (sym (own_else back e more other) ∙ mine) quiet,
      ))
    where
      before : renewals (more ++ seen) ≡ renewals seen
      before = none_between (e ∷ []) more seen calm

      own_one : (events : List Event) → e.by ≡ back → own back (e ∷ more) ≡ map (entry back) events → AllByRecursion IsQuiet events
          → ((xs : List Event) → own back more ≡ map (entry back) xs → AllByRecursion IsQuiet xs → AreQuiet more) → AreQuiet (e ∷ more)
      own_one [] same mine quiet rest = let x = sym (own_here back e more same) ∙ mine in absurd (cc x)
      own_one (x ∷ xs) same mine quiet rest =
          let z = heads e (entry back x) (own back more) (map (entry back) xs) (sym (own_here back e more same) ∙ mine) in
          (subst (λ (y : Entry). IsQuiet y.event) (sym z.0) quiet.0, rest xs z.1 quiet.1)

  module _ (state : State) (low : Option ℕ) (head : ℕ) (ended : Option Stop) where
    pub quiet_keeps : (more seen : List Entry) → IsLegal P C (more ++ seen) → AreQuiet more →
        KeepsUnit P C (unit_of P C seen) state low head ended →
        KeepsUnit P C (unit_of P C (more ++ seen)) state low head ended
    quiet_keeps [] seen legal quiet k = k
    quiet_keeps (e ∷ more) seen legal quiet k = go e.event legal.1 quiet.0 (quiet_keeps more seen legal.0 quiet.1 k)
      where
        go : (x : Event) → MayAdd P C (more ++ seen) e.by x → IsQuiet x →
            KeepsUnit P C (unit_of P C (more ++ seen)) state low head ended →
            KeepsUnit P C (unit_of P C (entry e.by x ∷ (more ++ seen))) state low head ended
        go (Does s) m q k' = step_keeps P C state low head ended (unit_of P C (more ++ seen)) e.by s q m.1 (unit_sound P C (more ++ seen) legal.0) k'
        go (Refuses r) m q k' = k'
        go (Marks r) m q k' = k'

    -- what the back added is no retirement
    pub adds_keeps : (old new : List Entry) (events : List Event) → Adds P C back old new events →
        AllByRecursion IsQuiet events → KeepsUnit P C (unit_of P C old) state low head ended →
        KeepsUnit P C (unit_of P C new) state low head ended
    adds_keeps old new events a quiet k =
        let more = a.begins.more in
        let legal = added_legal P C back old new events a in
        subst (λ h. KeepsUnit P C (unit_of P C h) state low head ended) (sym a.begins.is)
        (quiet_keeps more old legal (all_quiet more old events legal (sym (ap renewals a.begins.is) ∙ a.one_table) (added_own P C back old new events a) quiet) k)

-- the head at a moment of a call that retired nothing
pub head_kept_on : (P : Program) (C : Sizes) (old new point : List Entry) (events : List Event) →
    Adds P C back old new events → AllByRecursion IsQuiet events → IsWithin old new point →
    head_station C (unit_of P C point) ≡ head_station C (unit_of P C old)
head_kept_on P C old new point events a quiet w =
    let more = a.begins.more in
    let legal = added_legal P C back old new events a in
    let all = all_quiet P C more old events legal (sym (ap renewals a.begins.is) ∙ a.one_table) (added_own P C back old new events a) quiet in
    let late = w.before_return.more in
    let early = w.behind_call.more in
    let split : more ≡ late ++ early = append_cancel_right more (late ++ early) old
    (sym a.begins.is ∙ (w.before_return.is ∙ (ap (λ z. late ++ z) w.behind_call.is ∙ sym (append_assoc late early old)))) in
    let early_quiet = second late early (subst AreQuiet split all) in
    let point_legal = legal_before P C late point (subst (IsLegal P C) w.before_return.is a.legal) in
    subst (λ h. head_station C (unit_of P C h) ≡ head_station C (unit_of P C old)) (sym w.behind_call.is) (go early (subst (IsLegal P C) w.behind_call.is point_legal) early_quiet)
  where
    second : (xs ys : List Entry) → AreQuiet (xs ++ ys) → AreQuiet ys
    second [] ys h = h
    second (x ∷ xs) ys h = second xs ys h.1

    one : (h : List Entry) (e : Entry) → MayAdd P C h e.by e.event → IsQuiet e.event → head_station C (unit_of P C (e ∷ h)) ≡ head_station C (unit_of P C h)
    one h e m q = kind e.event m q
      where
        kind : (x : Event) → MayAdd P C h e.by x → IsQuiet x → head_station C (unit_of P C (entry e.by x ∷ h)) ≡ head_station C (unit_of P C h)
        kind (Does s) m q = head_kept P C (unit_of P C h) e.by s q m.1
        kind (Refuses r) m q = refl
        kind (Marks r) m q = refl

    go : (es : List Entry) → IsLegal P C (es ++ old) → AreQuiet es → head_station C (unit_of P C (es ++ old)) ≡ head_station C (unit_of P C old)
    go [] l q = refl
    go (e ∷ es) l q = one (es ++ old) e l.1 q.0 ∙ go es l.0 q.1

-- what was committed stays
pub committed_kept : (P : Program) (C : Sizes) (old new : List Entry) (events : List Event) →
    Adds P C back old new events → AllByRecursion IsQuiet events →
    committed P (unit_of P C new).tenants ≡ committed P (unit_of P C old).tenants
committed_kept P C old new events a quiet =
    let more = a.begins.more in
    let legal = added_legal P C back old new events a in
    subst (λ h. committed P (unit_of P C h).tenants ≡ committed P (unit_of P C old).tenants) (sym a.begins.is)
    (go more legal (all_quiet P C more old events legal (sym (ap renewals a.begins.is) ∙ a.one_table) (added_own P C back old new events a) quiet))
  where
    one : (h : List Entry) (e : Entry) → IsLegal P C h → MayAdd P C h e.by e.event → IsQuiet e.event → committed P (unit_of P C (e ∷ h)).tenants ≡ committed P (unit_of P C h).tenants
    one h e l m q = kind e.event m q
      where
        kind : (x : Event) → MayAdd P C h e.by x → IsQuiet x → committed P (unit_of P C (entry e.by x ∷ h)).tenants ≡ committed P (unit_of P C h).tenants
        kind (Does s) m q = by_others P C (unit_of P C h) e.by s (unit_sound P C h l) (no_retire s q) m.1
        kind (Refuses r) m q = refl
        kind (Marks r) m q = refl

    go : (es : List Entry) → IsLegal P C (es ++ old) → AreQuiet es → committed P (unit_of P C (es ++ old)).tenants ≡ committed P (unit_of P C old).tenants
    go [] l q = refl
    go (e ∷ es) l q = one (es ++ old) e l.0 l.1 q.0 ∙ go es l.0 q.1

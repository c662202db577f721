-- The number of the live tenants up to the first miss rises with each let where no miss is live; retirements and flushes alone lower it.
use Rattle.std.proofs.Common.{◌≡◌, ◌≢◌, ◌⊎◌, ℕ, suc, ◌+◌, ◌-◌, ◌^◌, ◌<◌, ◌≤◌, Bool, true, false, cond, eqb, List, [], ◌∷◌, ◌++◌, Option, Some, None, refl, sym, ap, ◌∙◌, subst, ⊎_elim, arith}
use Rattle.std.specs.Prelude.{unwrap_or}
use Rattle.instructions.specs.Programs.{Program}
use Rattle.instructions.specs.declared.stop.Outcome.{Outcome}
use Rattle.instructions.specs.declared.stop.Outcome.TheVariants.{Address, Next, Pair, Stop as Stops, Value}
use Rattle.inorder.specs.declared.history.Act.{Act}
use Rattle.inorder.specs.declared.history.Act.TheVariants.{Claim, Deliver, Finish, Link, Load, Mend, Retire, Speculate, Squash}
use Rattle.inorder.specs.declared.history.Source.TheVariants.{First, Second}
use Rattle.inorder.specs.declared.history.Speculation.TheVariants.{Confirm, Flush, Guess}
use Rattle.inorder.specs.declared.history.Step.{Step}
use Rattle.inorder.specs.declared.history.Step.TheVariants.{Let, On, Renew}
use Rattle.inorder.specs.declared.history.Supply.{Supply}
use Rattle.inorder.specs.Climbing.{AreSteady, IsSteady, IsSteadyAct, LetsRunOut, has_miss, height, misses_by}
use Rattle.inorder.specs.Memory.{load_value}
use Rattle.inorder.specs.Legal.{Allowed, AreAllowed, May, Taken, applied, changed, reached}
use Rattle.inorder.specs.Progress.{fate_work, lets, source_work, standing_work, tenant_work}
use Rattle.inorder.specs.Speculation.{CanGuess}
use Rattle.inorder.specs.Steps.{finished, mended_as, new_tenant}
use Rattle.inorder.specs.Tenants.{Addr, AtLet, Busy, Done, Fate, Guessed, Linked, Live, Miss, Open, Retired, Squashed, Standing, Stopped, Tenant, Unlinked, Way, computed, is_live, stands_live}
use Rattle.inorder.specs.Unit.{Sizes, UpdateUnit, how_many, older, younger}
use Rattle.inorder.proofs.Basics.{split_at}
use Rattle.inorder.proofs.Ends.{Leaves, is_flushed, is_squashed, retires, stands_on}
use Rattle.inorder.proofs.GoesOn.Heights.{any_behind_miss, behind_left, below_all, has_that_miss, joins, misses_among, rises, rises_among}
use Rattle.inorder.proofs.GoesOn.Work.{act_works}
use Rattle.inorder.proofs.Kept.{parts}
use Rattle.inorder.proofs.Stations.{finished_station}

-- How much is left to do for a tenant

fate_most : (f : Fate) → fate_work f ≤ 5
fate_most Open = omega arith
fate_most (Busy by) = omega arith
fate_most (Addr a) = omega arith
fate_most (Done v) = omega arith
fate_most (Miss x) = omega arith
fate_most (Stopped c) = omega arith
fate_most (Guessed v) = omega arith

standing_most : (st : Standing) (f : Fate) → standing_work st f ≤ 5
standing_most Live f = fate_most f
standing_most Retired f = omega arith
standing_most Squashed f = omega arith

source_most : (w : Way) (v : Option ℕ) → source_work w v ≤ 2
source_most AtLet v = omega arith
source_most Unlinked v = omega arith
source_most (Linked b) None = omega arith
source_most (Linked b) (Some v) = omega arith

tenant_most : (t : Tenant) → tenant_work t ≤ 9
tenant_most t =
    let a = standing_most t.standing t.fate in
    let b = source_most t.first.way t.first.value in
    let c = source_most t.second.way t.second.value in
    omega (arith, a, b, c)

-- An act that makes no live miss, on a tenant that is none

quiet : (st : Standing) (f f' : Fate) → st ≡ Live → misses_by Live f ≡ false → misses_by Live f' ≡ false → misses_by st f' ≡ misses_by st f
quiet st f f' e q q' = ap (λ s. misses_by s f') e ∙ q' ∙ sym q ∙ sym (ap (λ s. misses_by s f) e)

guess_quiet : (f : Fate) → CanGuess f → misses_by Live f ≡ false
guess_quiet Open c = refl
guess_quiet (Addr a) c = refl
guess_quiet (Busy by) c = absurd c
guess_quiet (Done v) c = absurd c
guess_quiet (Miss x) c = absurd c
guess_quiet (Stopped x) c = absurd c
guess_quiet (Guessed v) c = absurd c

weaken : (a b : ℕ) → a < b → a ≤ b
weaken a b h = omega arith

module _ (P : Program) (C : Sizes) (by : ℕ) (ys : List Tenant) (t : Tenant) (ts : List Tenant) (room : how_many is_live (ys ++ t ∷ ts) ≤ C.ring) where
  work_less : (act : Act) → May P by act ys t ts → tenant_work (changed P by act t ts) ≤ tenant_work t
  work_less act m = weaken (tenant_work (changed P by act t ts)) (tenant_work t) (act_works P by act ys t ts m)

  act_rises : (act : Act) → IsSteadyAct act → May P by act ys t ts → height C (ys ++ t ∷ ts) ≤ height C (ys ++ changed P by act t ts ∷ ts)
  act_rises (Link First) q m = rises_among C t (changed P by (Link First) t ts) ts ys refl refl (work_less (Link First) m)
  act_rises (Link Second) q m = rises_among C t (changed P by (Link Second) t ts) ts ys refl refl (work_less (Link Second) m)
  act_rises (Deliver First) q m = rises_among C t (changed P by (Deliver First) t ts) ts ys refl refl (work_less (Deliver First) m)
  act_rises (Deliver Second) q m = rises_among C t (changed P by (Deliver Second) t ts) ts ys refl refl (work_less (Deliver Second) m)
  act_rises Claim q m = rises_among C t (changed P by Claim t ts) ts ys refl (quiet t.standing t.fate (Busy by) m.live (ap (misses_by Live) m.fate) refl) (work_less Claim m)
  act_rises Load q m = rises_among C t (changed P by Load t ts) ts ys refl (quiet t.standing t.fate (Done (load_value P ts t)) m.live (ap (misses_by Live) m.fate) refl) (work_less Load m)
  act_rises (Speculate (Guess v)) q m = rises_among C t (changed P by (Speculate (Guess v)) t ts) ts ys refl (quiet t.standing t.fate (Guessed v) m.live (guess_quiet t.fate m.fate) refl) (work_less (Speculate (Guess v)) m)
  act_rises (Speculate Confirm) q m = rises_among C t (changed P by (Speculate Confirm) t ts) ts ys refl (quiet t.standing t.fate (Done (unwrap_or t.made 0)) m.live (ap (misses_by Live) m.fate) refl) (work_less (Speculate Confirm) m)
  act_rises (Speculate Flush) q m = absurd q
  act_rises (Retire n) q m = absurd q
  act_rises Squash q m =
      let missed = has_that_miss ts m.p m.x m.miss m.miss_at m.miss_live m.miss_fate in
      let was = any_behind_miss C ys t ts missed in
      let now = any_behind_miss C ys (changed P by Squash t ts) ts missed in
      omega (arith, was, now)
  act_rises Mend q m =
      let u : Tenant = record t { fate = Done m.x; next = m.x } in
      subst (λ f. height C (ys ++ t ∷ ts) ≤ height C (ys ++ mended_as t f ∷ ts)) (sym m.fate)
      (let was = behind_left C ys (t ∷ ts) m.youngest in
      let now = behind_left C ys (u ∷ ts) m.youngest in
      let less : tenant_work u ≤ tenant_work t = subst (λ f. tenant_work (mended_as t f) ≤ tenant_work t) m.fate (work_less Mend m) in
      let here = rises C t u ts refl less in
      omega (arith, was, now, here))
  act_rises Finish q m = go (computed P t) (act_works P by Finish ys t ts m)
    where
      live : is_live t ≡ true
      live = ap stands_live m.live

      calm : misses_by Live t.fate ≡ false
      calm = ap (misses_by Live) m.fate

      same : (f : Fate) → misses_by Live f ≡ false → misses_by t.standing f ≡ misses_by t.standing t.fate
      same f e = quiet t.standing t.fate f m.live calm e

      jumps : (x : ℕ) (b : Bool) → tenant_work (record t { fate = cond b (Done x) (Miss x) }) < tenant_work t →
          height C (ys ++ t ∷ ts) ≤ height C (ys ++ record t { fate = cond b (Done x) (Miss x) } ∷ ts)
      jumps x true less = rises_among C t (record t { fate = Done x }) ts ys refl (same (Done x) refl) (weaken (tenant_work (record t { fate = Done x })) (tenant_work t) less)
      jumps x false less = misses_among C t (record t { fate = Miss x }) ts ys live live (ap (λ s. misses_by s (Miss x)) m.live) less (tenant_most t) room

      go : (o : Outcome) → tenant_work (finished t o) < tenant_work t → height C (ys ++ t ∷ ts) ≤ height C (ys ++ finished t o ∷ ts)
      go (Value v) less = rises_among C t (finished t (Value v)) ts ys refl (same (Done v) refl) (weaken (tenant_work (finished t (Value v))) (tenant_work t) less)
      go (Next x) less = jumps x (eqb x t.predicted) less
      go (Address a) less = rises_among C t (finished t (Address a)) ts ys refl (same (Addr a) refl) (weaken (tenant_work (finished t (Address a))) (tenant_work t) less)
      go (Stops c) less = rises_among C t (finished t (Stops c)) ts ys refl (same (Stopped c) refl) (weaken (tenant_work (finished t (Stops c))) (tenant_work t) less)
      go (Pair l h) less = rises_among C t (finished t (Pair l h)) ts ys refl (same (Done l) refl) (weaken (tenant_work (finished t (Pair l h))) (tenant_work t) less)

-- No more are live than there are stations

count_if : (a b : ℕ) (x : Bool) → a ≤ b → cond x (suc a) a ≤ cond x (suc b) b
count_if a b true h = omega (arith, h)
count_if a b false h = h

no_more_by : (t t' : Tenant) (ts : List Tenant) (a b : Bool) → is_live t ≡ a → is_live t' ≡ b → (b ≡ true → a ≡ true) → how_many is_live (t' ∷ ts) ≤ how_many is_live (t ∷ ts)
no_more_by t t' ts true true e f h =
    let one = ap (λ x. cond x (suc (how_many is_live ts)) (how_many is_live ts)) e in
    let two = ap (λ x. cond x (suc (how_many is_live ts)) (how_many is_live ts)) f in omega (arith, one, two)
no_more_by t t' ts true false e f h =
    let one = ap (λ x. cond x (suc (how_many is_live ts)) (how_many is_live ts)) e in
    let two = ap (λ x. cond x (suc (how_many is_live ts)) (how_many is_live ts)) f in omega (arith, one, two)
no_more_by t t' ts false false e f h =
    let one = ap (λ x. cond x (suc (how_many is_live ts)) (how_many is_live ts)) e in
    let two = ap (λ x. cond x (suc (how_many is_live ts)) (how_many is_live ts)) f in omega (arith, one, two)
no_more_by t t' ts false true e f h = let no = h refl in absurd (cc no)

no_more : (t t' : Tenant) (ts ys : List Tenant) → (is_live t' ≡ true → is_live t ≡ true) → how_many is_live (ys ++ t' ∷ ts) ≤ how_many is_live (ys ++ t ∷ ts)
no_more t t' ts [] h = no_more_by t t' ts (is_live t) (is_live t') refl refl h
no_more t t' ts (y ∷ ys) h = count_if (how_many is_live (ys ++ t' ∷ ts)) (how_many is_live (ys ++ t ∷ ts)) (is_live y) (no_more t t' ts ys h)

leaver_live : (P : Program) (ys : List Tenant) (t : Tenant) (ts : List Tenant) → Leaves P ys t ts → is_live t ≡ true
leaver_live P ys t ts (retires n m) = ap stands_live m.live
leaver_live P ys t ts (is_squashed m) = ap stands_live m.live
leaver_live P ys t ts (is_flushed m) = ap stands_live m.live

pub live_fits : (P : Program) (C : Sizes) (history : List Taken) → AreAllowed P C history → how_many is_live (reached P C history).tenants ≤ C.ring
live_fits P C [] a = omega arith
live_fits P C (s ∷ ss) a = go s.by s.step a.1 (live_fits P C ss a.0)
  where
    go : (by : ℕ) (step : Step) → Allowed P C (reached P C ss) by step → how_many is_live (reached P C ss).tenants ≤ C.ring →
        how_many is_live (applied P C (reached P C ss) by step).tenants ≤ C.ring
    go by (Let index predicted first second) may h = let room = may.room in omega (arith, room)
    go by (On p act) may h =
        let us = (reached P C ss).tenants in
        let t = may.tenant in
        let t' = changed P by act t (older us p) in
        let lives : is_live t' ≡ true → is_live t ≡ true = ⊎_elim
        (λ (same : t'.standing ≡ t.standing). λ e. sym (ap stands_live same) ∙ e)
        (λ (gone : Leaves P (younger us p) t (older us p)). λ e. leaver_live P (younger us p) t (older us p) gone)
        (stands_on P by act (younger us p) t (older us p) may.may) in
        let few = no_more t t' (older us p) (younger us p) lives in
        let now = ap (how_many is_live) (parts P us by p act t may.is) in
        let was = ap (how_many is_live) (split_at us p t may.is) in
        omega (arith, few, now, was, h)
    go by Renew may h = h

-- Steps

step_rises : (P : Program) (C : Sizes) (U : UpdateUnit) (by p : ℕ) (act : Act) → IsSteadyAct act → Allowed P C U by (On p act) → how_many is_live U.tenants ≤ C.ring →
    height C U.tenants ≤ height C (applied P C U by (On p act)).tenants
step_rises P C U by p act q may room =
    let us = U.tenants in
    let t = may.tenant in
    let split = split_at us p t may.is in
    let fits : how_many is_live (younger us p ++ t ∷ older us p) ≤ C.ring = subst (λ z. how_many is_live z ≤ C.ring) split room in
    let more = act_rises P C by (younger us p) t (older us p) fits act q may.may in
    let now = ap (height C) (parts P us by p act t may.is) in
    let was = ap (height C) split in
    omega (arith, more, now, was)

let_rises : (P : Program) (C : Sizes) (U : UpdateUnit) (index predicted : ℕ) (first second : Supply) → has_miss U.tenants ≡ false →
    height C U.tenants < height C (new_tenant P C U index predicted first second ∷ U.tenants)
let_rises P C U index predicted first second none =
    joins C (new_tenant P C U index predicted first second) U.tenants refl none (tenant_most (new_tenant P C U index predicted first second))

climbs : (P : Program) (C : Sizes) (more history : List Taken) → AreAllowed P C (more ++ history) → AreSteady P C more history →
    lets more + height C (reached P C history).tenants ≤ height C (reached P C (more ++ history)).tenants
climbs P C [] history a q = omega arith
climbs P C (s ∷ more) history a q = go s.by s.step a.1 q.1 (climbs P C more history a.0 q.0) (live_fits P C (more ++ history) a.0)
  where
    go : (by : ℕ) (step : Step) → Allowed P C (reached P C (more ++ history)) by step → IsSteady (reached P C (more ++ history)) step →
        lets more + height C (reached P C history).tenants ≤ height C (reached P C (more ++ history)).tenants →
        how_many is_live (reached P C (more ++ history)).tenants ≤ C.ring →
        lets (record { by = by; step = step } ∷ more) + height C (reached P C history).tenants ≤ height C (applied P C (reached P C (more ++ history)) by step).tenants
    go by (Let index predicted first second) may none h room =
        let up = let_rises P C (reached P C (more ++ history)) index predicted first second none in omega (arith, h, up)
    go by (On p act) may steady h room =
        let up = step_rises P C (reached P C (more ++ history)) by p act steady may room in omega (arith, h, up)
    go by Renew may steady h room = h

pub lets_run_out : (P : Program) (C : Sizes) (more history : List Taken) → LetsRunOut P C more history
lets_run_out P C more history a q =
    let up = climbs P C more history a q in
    let most = below_all C (reached P C (more ++ history)).tenants (live_fits P C (more ++ history) a) in
    omega (arith, up, most)

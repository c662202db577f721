-- A retirement commits what its answer says.
use Rattle.std.proofs.Common.{◌≡◌, ◌≢◌, ℕ, Option, suc, ◌+◌, ◌%◌, Bool, true, false, cond, ◌&&◌, not, List, [], ◌∷◌, ◌++◌, Some, None, refl, sym, ap, ◌∙◌, subst, ⊎_elim, arith, true≢false}
use Rattle.std.specs.List.{AllByRecursion}
use Rattle.std.proofs.Math.Nat.{suc-mod}
use Rattle.std.proofs.lemmas.Option.{same_Some}
use Rattle.instructions.specs.Programs.{Program, instr_at}
use Rattle.instructions.specs.declared.op.Half.{Half}
use Rattle.instructions.specs.declared.op.Half.TheVariants.{High, Low}
use Rattle.instructions.specs.declared.instr.Instr.{Instr}
use Rattle.instructions.specs.declared.stop.Stop.{Stop}
use Rattle.inorder.specs.declared.history.Act.TheVariants.{Retire}
use Rattle.inorder.specs.declared.history.Step.TheVariants.{On}
use Rattle.inorder.specs.Callers.{GoesOn, head_station, is_retired, stands_retired}
use Rattle.inorder.specs.Committed.{ahead, ahead_by, commits, commits_by, committed, with_retired, with_tenant}
use Rattle.inorder.specs.Legal.{Allowed, applied}
use Rattle.inorder.specs.Machine.{State}
use Rattle.inorder.specs.Steps.{IsNoRetiredStop, retired}
use Rattle.inorder.specs.Tenants.{Addr, Busy, Done, Fate, Guessed, IsNotLive, Live, Miss, Open, Retired, Squashed, Standing, Stopped, Tenant, instr, is_first, stands_on_path}
use Rattle.inorder.specs.Unit.{at, front_half, how_many, older, recent, Sizes, UpdateUnit, younger}
use Rattle.inorder.proofs.AheadKept.{ahead_by_retire}
use Rattle.inorder.proofs.Basics.{fetched_at, split_at}
use Rattle.inorder.proofs.Commits.{by_retire, live_not, not_complete, over, over_ahead}
use Rattle.inorder.proofs.Grows.{sound_mid}
use Rattle.inorder.proofs.Halves.{first_low, none_waits, waits}
use Rattle.inorder.proofs.InOrderStep.{is_pair_here, pair_goes_on}
use Rattle.inorder.proofs.Moves.{IsActed, IsLeft, at_changed, came}
use Rattle.inorder.proofs.SettledRegisters.{ahead_if, committed_if, committed_pc, same_rest}
use Rattle.inorder.proofs.Sound.{FateIs, IsInPlace, IsSettled, IsSound, IsSoundAt, SettledBy}
use Rattle.station.specs.declared.answers.Last.{Last}
use Rattle.station.specs.declared.answers.Last.TheVariants.{Done as WasDone, Stop as WasStop, Stored}
use Rattle.station.specs.Retirement.{EndsAs}
use Rattle.back.specs.Kept.{EndIs, KeepsUnit}
use Rattle.back.specs.Kept.WhyEnded.{ByStop}
use Rattle.back.specs.Retirement.{waiting_low, low_in, state_behind, state_behind_by, stop_in, behind_last}
use Rattle.back.proofs.Committing.{committed_as, first_as, first_done}
use Rattle.inorder.proofs.Recent.{live_recent, recent_change}
use Rattle.inorder.proofs.Stations.{OldGone}

-- Those before the oldest live tenant are settled, where no stop has retired

settled_by : (st : Standing) (f : Fate) → st ≢ Live → (st ≡ Retired → (c : Stop) → f ≢ Stopped c) → SettledBy st f
settled_by Live f n g = absurd (n refl)
settled_by Squashed f n g = tt
settled_by Retired Open n g = tt
settled_by Retired (Busy by) n g = tt
settled_by Retired (Addr a) n g = tt
settled_by Retired (Done v) n g = tt
settled_by Retired (Guessed x) n g = tt
settled_by Retired (Miss x) n g = tt
settled_by Retired (Stopped c) n g = absurd (g refl c refl)

all_settled : (ts : List Tenant) → AllByRecursion IsNotLive ts → AllByRecursion IsNoRetiredStop ts → AllByRecursion IsSettled ts
all_settled [] l g = tt
all_settled (t ∷ ts) l g = (settled_by t.standing t.fate l.0 g.0, all_settled ts l.1 g.1)

-- One that retires is counted

counted_one : (t u : Tenant) (ts ys : List Tenant) → is_retired t ≡ false → is_retired u ≡ true → how_many is_retired (ys ++ u ∷ ts) ≡ suc (how_many is_retired (ys ++ t ∷ ts))
counted_one t u ts [] e f = ap (λ b. cond b (suc (how_many is_retired ts)) (how_many is_retired ts)) f ∙ ap suc (sym (ap (λ b. cond b (suc (how_many is_retired ts)) (how_many is_retired ts)) e))
counted_one t u ts (y ∷ ys) e f = go (is_retired y) (counted_one t u ts ys e f)
  where
    go : (b : Bool) → how_many is_retired (ys ++ u ∷ ts) ≡ suc (how_many is_retired (ys ++ t ∷ ts))
        → cond b (suc (how_many is_retired (ys ++ u ∷ ts))) (how_many is_retired (ys ++ u ∷ ts)) ≡ suc (cond b (suc (how_many is_retired (ys ++ t ∷ ts))) (how_many is_retired (ys ++ t ∷ ts)))
    go true more = ap suc more
    go false more = more

module _ (P : Program) (C : Sizes) (U : UpdateUnit) (by p n : ℕ) (a : Allowed P C U by (On p (Retire n))) (ok : IsSound P U.tenants) where
  abbrev us : List Tenant
  us = U.tenants

  abbrev t : Tenant
  t = a.tenant

  abbrev V : UpdateUnit
  V = applied P C U by (On p (Retire n))

  middle : IsSound P (younger us p ++ t ∷ older us p)
  middle = subst (IsSound P) (split_at us p t a.is) ok

  pub own_sound : IsSoundAt P (older us p) t
  own_sound = sound_mid P t (older us p) (younger us p) middle

  older_sound : (ys : List Tenant) → IsSound P (ys ++ t ∷ older us p) → IsSound P (older us p)
  older_sound [] s = s.1
  older_sound (y ∷ ys) s = older_sound ys s.1

  abbrev ts : List Tenant
  ts = older us p

  ts_sound : IsSound P ts
  ts_sound = older_sound (younger us p) middle

  ts_settled : AllByRecursion IsSettled ts
  ts_settled = all_settled ts a.may.oldest a.may.no_stop

  placed : IsInPlace P ts t
  placed = own_sound.placed (ap stands_on_path a.may.live)

  same_committed : committed P us ≡ committed P ts
  same_committed = ap (committed P) (split_at us p t a.is) ∙ (over P t t ts (younger us p) a.may.live middle ∙ committed_if P t ts false (not_complete P t (live_not t a.may.live)))

  same_ahead : ahead P us ≡ ahead P ts
  same_ahead = ap (ahead P) (split_at us p t a.is) ∙ (over_ahead P t t ts (younger us p) a.may.live middle ∙ ahead_if P t ts false (live_not t a.may.live))

  -- its pc is that of what was committed
  pub pc_is : t.pc ≡ (committed P us).pc
  pc_is = placed.pc ∙ (sym (committed_pc P ts ts_sound ts_settled) ∙ ap (λ (c : State). c.pc) (sym same_committed))

  -- where no first half waits, nothing does
  level : front_half P ts ≡ Low → ahead P us ≡ committed P us
  level e = same_ahead ∙ (none_waits P ts ts_settled e ∙ sym same_committed)

  level_first : is_first P t ≡ true → ahead P us ≡ committed P us
  level_first f = level (sym placed.half ∙ first_low P t f)

  -- a second half is no stop
  pub level_stop : (c : Stop) → t.fate ≡ Stopped c → ahead P us ≡ committed P us
  level_stop c e = go (front_half P ts) refl
    where
      go : (h : Half) → front_half P ts ≡ h → ahead P us ≡ committed P us
      go Low q = level q
      go High q =
          let pair = is_pair_here P ts t ts_sound ts_settled own_sound.own placed (placed.half ∙ q) (waits P ts ts_sound ts_settled q) in
          absurd (pair_goes_on P t pair c (subst (FateIs P t) e own_sound.own.fate).1)

  -- the instruction at the pc is its own
  pub instr_is : (i : Instr) → instr_at P (committed P us).pc ≡ Some i → i ≡ instr P t
  instr_is i e = same_Some i (instr P t) (sym e ∙ (ap (instr_at P) (sym pc_is ∙ own_sound.own.place) ∙ fetched_at P t.index own_sound.own.inside))

  pub gone_at : at V.tenants p ≡ Some (retired t n)
  gone_at = ⊎_elim
      (λ (z : IsActed P us by p (Retire n) t p t). z.now)
      (λ (z : IsLeft P us by p (Retire n) p t). absurd (z.position refl))
      (at_changed P us by p (Retire n) t a.is p t a.is)

  now_ahead : ahead P V.tenants ≡ cond (commits (retired t n)) (with_retired (is_first P t) P (retired t n) (ahead P us)) (ahead P us)
  now_ahead = ahead_by_retire P C U by p n t ok a a.is

  now_committed : committed P V.tenants ≡ cond (commits (retired t n) && not (is_first P t)) (with_tenant P (retired t n) (ahead P us)) (committed P us)
  now_committed = by_retire P C U by p n t ok a a.is

  -- who is done or a store commits; where a stop retires, nothing waits
  level_else : (last : Last) → EndsAs P last t → commits (retired t n) ≡ false → committed P us ≡ ahead P us
  level_else (WasDone v) e q = absurd (true≢false (sym (ap (commits_by Retired) e) ∙ q))
  level_else (Stored x d) e q = absurd (true≢false (sym (ap (commits_by Retired) e.1) ∙ q))
  level_else (WasStop c) e q = sym (level_stop c e)

  -- with it its instruction is whole
  module _ (whole : is_first P t ≡ false) (last : Last) (e : EndsAs P last t) where
    leaves_whole : cond (commits (retired t n)) (with_tenant P (retired t n) (ahead P us)) (ahead P us) ≡ behind_last (instr P t) t.half last (ahead P us)
    leaves_whole = committed_as P t n (ahead P us) (pc_is ∙ (same_rest P us).1) whole last e own_sound.own.fate

    whole_ahead : ahead P V.tenants ≡ behind_last (instr P t) t.half last (ahead P us)
    whole_ahead = now_ahead ∙ (ap (λ b. cond (commits (retired t n)) (with_retired b P (retired t n) (ahead P us)) (ahead P us)) whole ∙ leaves_whole)

    whole_committed : committed P V.tenants ≡ behind_last (instr P t) t.half last (ahead P us)
    whole_committed =
        now_committed ∙ (ap (λ b. cond (commits (retired t n) && not b) (with_tenant P (retired t n) (ahead P us)) (committed P us)) whole
        ∙ (other (commits (retired t n)) (level_else last e) ∙ leaves_whole))
      where
        other : (b : Bool) → (b ≡ false → committed P us ≡ ahead P us)
            → cond (b && true) (with_tenant P (retired t n) (ahead P us)) (committed P us) ≡ cond b (with_tenant P (retired t n) (ahead P us)) (ahead P us)
        other true h = refl
        other false h = h refl

  -- it is a first half
  module _ (first : is_first P t ≡ true) (v : ℕ) (e : t.fate ≡ Done v) where
    commits_it : commits (retired t n) ≡ true
    commits_it = ap (commits_by Retired) e

    first_ahead : ahead P V.tenants ≡ ahead_by (Some v) (committed P us)
    first_ahead =
        now_ahead ∙ ((λ i. cond (commits_it i) (with_retired (first i) P (retired t n) (ahead P us)) (ahead P us))
        ∙ (first_as P t first n v (ahead P us) e own_sound.own.fate ∙ ap (ahead_by (Some v)) (level_first first)))

    first_committed : committed P V.tenants ≡ committed P us
    first_committed = now_committed ∙ (λ i. cond (commits_it i && not (first i)) (with_tenant P (retired t n) (ahead P us)) (committed P us))

  head_more : OldGone U → head_station C V ≡ (head_station C U + 1) % C.ring
  head_more gone_all =
      let among = recent_change P U by p (Retire n) t a.is (live_recent U gone_all p t a.is a.may.live) in
      let more = counted_one t (retired t n) among.zs (younger us p) (ap stands_retired a.may.live) refl in
      let all : how_many is_retired (recent V) ≡ suc (how_many is_retired (recent U)) = ap (how_many is_retired) among.after ∙ (more ∙ ap (λ ts. suc (how_many is_retired ts)) (sym among.before)) in
      ap (λ x. x % C.ring) all ∙ (suc-mod (how_many is_retired (recent U)) C.ring ∙ ap (λ x. x % C.ring) (one_more (head_station C U)))
    where
      one_more : (x : ℕ) → suc x ≡ x + 1
      one_more x = omega arith

  -- another than a stop retires: no stop has
  goes_on : ((c : Stop) → t.fate ≢ Stopped c) → GoesOn U → GoesOn V
  goes_on none g q u is =
      let was = came P C U by p (Retire n) a ok q u is in ⊎_elim
      (λ (z : IsActed P us by p (Retire n) t q was.tenant). subst IsNoRetiredStop (same_Some (retired t n) u (sym z.now ∙ is)) (λ gone c f. none c f))
      (λ (z : IsLeft P us by p (Retire n) q was.tenant). subst IsNoRetiredStop (same_Some was.tenant u (sym z.now ∙ is)) (g q was.tenant was.is))
      (at_changed P us by p (Retire n) t a.is q was.tenant was.is)

  end_after : (last : Last) → EndsAs P last t → GoesOn U → EndIs P V (stop_in last)
  end_after (WasDone v) e g = goes_on (λ c f. let x = sym e ∙ f in absurd (cc x)) g
  end_after (Stored x d) e g = goes_on (λ c f. let x = sym e.1 ∙ f in absurd (cc x)) g
  end_after (WasStop c) e g = ByStop p (record { tenant = retired t n; is = gone_at; fact = record { standing = refl; fate = e } })

  pub retires : OldGone U → (last : Last) → EndsAs P last t → (state : State) (low : Option ℕ) (head : ℕ) → KeepsUnit P C U state low head None
      → KeepsUnit P C V (state_behind (instr P t) t.half last low state) (low_in (instr P t) t.half last) ((head + 1) % C.ring) (stop_in last)
  retires gone_all last e state low head k = go (is_first P t) refl last e
    where
      next_head : (head + 1) % C.ring ≡ head_station C V
      next_head = ap (λ h. (h + 1) % C.ring) k.head_is ∙ sym (head_more gone_all)

      Goal : Bool → Last → Type 0
      Goal b last = KeepsUnit P C V (state_behind_by (waiting_low b last) (instr P t) t.half last low state) (waiting_low b last) ((head + 1) % C.ring) (stop_in last)

      go : (b : Bool) → is_first P t ≡ b → (last : Last) → EndsAs P last t → Goal b last
      go true f (WasDone v) e = record {
        state_is = k.state_is ∙ sym (first_committed f v e);
        low_is = ap (ahead_by (Some v)) k.state_is ∙ sym (first_ahead f v e);
        head_is = next_head;
        end_is = end_after (WasDone v) e k.end_is;
      }
      go true f (Stored x d) e = let none = first_done P t f (Stored x d) e own_sound.own.fate in let q = none.1 in absurd (cc q)
      go true f (WasStop c) e = let none = first_done P t f (WasStop c) e own_sound.own.fate in let q = none.1 in absurd (cc q)
      go false f last e = record {
        state_is = ap (behind_last (instr P t) t.half last) k.low_is ∙ sym (whole_committed f last e);
        low_is = ap (behind_last (instr P t) t.half last) k.low_is ∙ sym (whole_ahead f last e);
        head_is = next_head;
        end_is = end_after last e k.end_is;
      }

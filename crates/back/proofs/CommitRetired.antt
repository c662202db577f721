-- What a commit keeps and answers, where its seat has retired a tenant.
use Rattle.std.proofs.Common.{◌≡◌, ◌≤◌, ◌%◌, ◌+◌, ℕ, suc, length, [], ◌∷◌, Bool, true, false, Option, Some, None, refl, sym, ap, ◌∙◌, subst, arith}
use Rattle.instructions.specs.Instruction.{is_first_half}
use Rattle.instructions.specs.declared.op.Half.{Half}
use Rattle.instructions.specs.Programs.{Program, instr_at}
use Rattle.instructions.specs.declared.instr.Instr.{Instr}
use Rattle.instructions.specs.declared.stop.Stop.{Stop}
use Rattle.inorder.specs.declared.history.Event.TheVariants.{Does}
use Rattle.inorder.specs.Committed.{ahead_by}
use Rattle.inorder.specs.History.{IsLegal, back, unit_of}
use Rattle.inorder.specs.OneHistory.{Adds}
use Rattle.inorder.specs.Machine.{State}
use Rattle.inorder.specs.Tenants.{is_first}
use Rattle.inorder.specs.Unit.{at}
use Rattle.inorder.specs.declared.history.Act.TheVariants.{Retire}
use Rattle.inorder.specs.declared.history.Step.TheVariants.{On}
use Rattle.inorder.proofs.SettledMemory.{length_memory}
use Rattle.snapshots.specs.declared.snap.Snap.{Snap}
use Rattle.station.specs.Retirement.{EndsAs, IsRetired}
use Rattle.station.specs.Seats.{Caller, IsSameSeat, TheCore}
use Rattle.station.specs.declared.answers.Last.{Last}
use Rattle.station.specs.declared.answers.Last.TheVariants.{Done, Stop as WasStop, Stored}
use Rattle.back.specs.Backs.{TheBack, back_of, back_state, unit_in}
use Rattle.back.specs.Commits.{HasCommitted, HasEndedWith, HasHalved}
use Rattle.back.specs.Commits.HowEnded.{Stops}
use Rattle.back.specs.Kept.{BackIsKept, KeepsUnit}
use Rattle.back.specs.Retirement.{StoreIsInside, waiting_low, low_in, state_behind, state_behind_by, stop_in}
use Rattle.back.proofs.Committing.{IsDone}
use Rattle.back.proofs.Retired.{HasRetired, commits_still, has_retired}
use Rattle.back.proofs.SeatKept.{plain, state_is}
use Rattle.back.proofs.Calls.{kept_as}
use Rattle.back.proofs.CommitFacts.{CommitFacts, ended_before, goes_on}

module _ {P : Program} {old : TheBack} {core : TheCore} {seat : Caller} {state : State} {low : Option ℕ} {head : ℕ} {ended : Option Stop} {shown : Snap}
    {i : Instr} (f : CommitFacts P old core seat state low head ended shown (Some i)) {seat' : Caller} (same : IsSameSeat seat seat')
    {station tag index : ℕ} {half : Half} {last : Last} (r : IsRetired core.program core.sizes seat.by seat.seen seat'.seen station tag index half last) where
  abbrev k : BackIsKept P seat state low head None shown
  k = f.kept

  here : IsRetired seat.core.program seat.core.sizes seat.by seat.seen seat'.seen station tag index half last
  here = subst (λ (d : TheCore). IsRetired d.program d.sizes seat.by seat.seen seat'.seen station tag index half last) (sym f.core_is) r

  plain_retired : IsRetired P seat.core.sizes back seat.seen seat'.seen station tag index half last
  plain_retired = subst (λ (z : Program × ℕ). IsRetired z.0 seat.core.sizes z.1 seat.seen seat'.seen station tag index half last) (λ j. (k.program j, k.by_is j)) here

  did : HasRetired P seat.core.sizes seat.seen seat'.seen i half last state low head
  did = has_retired P seat.core.sizes seat.seen seat'.seen station tag index half i last state low head plain_retired (plain P state low head None shown seat k)
      (subst (λ Q. instr_at Q state.pc ≡ Some i) k.program f.found)

  low_count : (waited : Option ℕ) → (ahead_by waited state).count ≡ state.count
  low_count None = refl
  low_count (Some v) = refl

  later_count : (waits : Option ℕ) (last : Last) → state.count ≤ (state_behind_by waits i half last low state).count
  later_count (Some w) last = omega arith
  later_count None (Done v) = let e = low_count low in omega (arith, e)
  later_count None (Stored a d) = let e = low_count low in omega (arith, e)
  later_count None (WasStop c) = let e = low_count low in omega (arith, e)

  retired_kept : BackIsKept P seat' (state_behind i half last low state) (low_in i half last) ((head + 1) % seat.core.sizes.ring) (stop_in last) shown
  retired_kept =
      let C = seat.core.sizes in
      let m = later_count (low_in i half last) last in
      let n = k.later in
      record {
        program = ap (λ d. d.program) same.core ∙ k.program;
        by_is = same.by ∙ k.by_is;
        legal = subst (λ d. IsLegal P d.sizes seat'.seen) (sym same.core) did.adds.legal;
        unit = subst (λ d. KeepsUnit P d.sizes (unit_of d.program d.sizes seat'.seen) (state_behind i half last low state) (low_in i half last) ((head + 1) % C.ring) (stop_in last)) (sym same.core)
            (subst (λ Q. KeepsUnit P C (unit_of Q C seat'.seen) (state_behind i half last low state) (low_in i half last) ((head + 1) % C.ring) (stop_in last)) (sym k.program) did.unit);
        later = omega (arith, m, n);
      }

  -- What is seen of the tenant that retired
  seen_at : at (unit_in seat'.core seat'.seen).tenants did.p ≡ Some did.tenant
  seen_at = subst (λ d. at (unit_in d seat'.seen).tenants did.p ≡ Some did.tenant) (sym same.core) (subst (λ Q. at (unit_of Q seat.core.sizes seat'.seen).tenants did.p ≡ Some did.tenant)
      (sym k.program) did.is)

  added : Adds seat.core.program seat.core.sizes seat.by seat.seen seat'.seen (Does (On did.p (Retire did.made)) ∷ [])
  added = subst (λ (z : Program × ℕ). Adds z.0 seat.core.sizes z.1 seat.seen seat'.seen (Does (On did.p (Retire did.made)) ∷ [])) (λ j. (sym k.program j, sym k.by_is j)) did.adds

  new_state : back_state (back_of seat' (stop_in last) shown) ≡ state_behind i half last low state
  new_state = sym (state_is P (state_behind i half last low state) (low_in i half last) ((head + 1) % seat.core.sizes.ring) (stop_in last) shown seat' retired_kept)

  old_state : back_state (back_of seat None shown) ≡ state
  old_state = sym (state_is P state low head None shown seat k)

  same_code : (last : Last) (code : Stop) → stop_in last ≡ Some code → last ≡ WasStop code
  same_code (Done v) code e = absurd (cc e)
  same_code (Stored a d) code e = absurd (cc e)
  same_code (WasStop c) code e = ap WasStop (cc e)

  -- where a stop retires nothing waits
  no_low : (code : Stop) → low_in i half (WasStop code) ≡ None
  no_low code = go (is_first_half i.op half)
    where
      go : (b : Bool) → waiting_low b (WasStop code) ≡ None
      go true = refl
      go false = refl

  stop_leaves : (code : Stop) → last ≡ WasStop code → state_behind i half last low state ≡ state
  stop_leaves code is =
      ap (λ l. state_behind i half l low state) is
      ∙ (ap (λ w. state_behind_by w i half (WasStop code) low state) (no_low code) ∙ did.level code is)

  did_end : (code : Stop) → stop_in last ≡ Some code → HasEndedWith (back_of seat None shown) (back_of seat' (stop_in last) shown) code
  did_end code e =
      let is : last ≡ WasStop code = same_code last code e in
      let before = ended_before code
      (subst (λ x. BackIsKept P seat' (state_behind i half last low state) (low_in i half last) ((head + 1) % seat.core.sizes.ring) x shown) e retired_kept) in
      record {
        ended = e;
        how = Stops (goes_on f) did.p did.made
            (record { tenant = did.tenant; is = seen_at; fact = record { standing = did.standing; fate = subst (λ l. EndsAs P l did.tenant) is did.ends } }) added;
        state = new_state ∙ (stop_leaves code is ∙ sym old_state);
        stops = before.stops;
      }

  one_more : (waits : Option ℕ) (last : Last) → waits ≡ None → stop_in last ≡ None → (state_behind_by waits i half last low state).count ≡ suc state.count
  one_more (Some w) last n e = absurd (cc n)
  one_more None (Done v) n e = ap suc (low_count low)
  one_more None (Stored a d) n e = ap suc (low_count low)
  one_more None (WasStop c) n e = absurd (cc e)

  -- nothing waits: its instruction is whole
  not_first : low_in i half last ≡ None → is_first_half i.op half ≡ false
  not_first n = go (is_first_half i.op half) did.done n
    where
      go : (b : Bool) → (b ≡ true → IsDone last) → waiting_low b last ≡ None → b ≡ false
      go true d n =
          let v = d refl in
          let x = sym (ap (waiting_low true) v.1) ∙ n in
          absurd (cc x)
      go false d n = refl

  did_commit : low_in i half last ≡ None → stop_in last ≡ None
      → HasCommitted (back_of seat None shown) (back_of seat' (stop_in last) shown) state.pc (state_behind i half last low state).count
  did_commit n e = record {
    went_on = goes_on f;
    not_ended = e;
    p = did.p;
    made = did.made;
    tenant = record {
      tenant = did.tenant;
      is = seen_at;
      fact = record {
        commits_it = commits_still P did.tenant last did.standing did.ends e;
        whole = subst (λ Q. is_first Q did.tenant ≡ false) (sym k.program) (did.first ∙ not_first n);
        pc_is = did.pc;
      };
    };
    adds = added;
    n_is = ap (λ (z : State). z.count) (sym new_state);
    one_more = one_more (low_in i half last) last n e ∙ ap (λ (z : State). suc z.count) (sym old_state);
  }

  -- a value waits: it is a first half
  half_first : (b : Bool) (v : ℕ) → waiting_low b last ≡ Some v → b ≡ true
  half_first true v w = refl
  half_first false v w = absurd (cc w)

  half_no_stop : (b : Bool) (last : Last) (v : ℕ) → waiting_low b last ≡ Some v → stop_in last ≡ None
  half_no_stop b (Done x) v w = refl
  half_no_stop b (Stored a d) v w = refl
  half_no_stop true (WasStop c) v w = absurd (cc w)
  half_no_stop false (WasStop c) v w = absurd (cc w)

  did_half : (v : ℕ) → low_in i half last ≡ Some v → HasHalved (back_of seat None shown) (back_of seat' (stop_in last) shown) state.pc
  did_half v w = record {
    went_on = goes_on f;
    not_ended = half_no_stop (is_first_half i.op half) last v w;
    p = did.p;
    made = did.made;
    tenant = record {
      tenant = did.tenant;
      is = seen_at;
      fact = record {
        standing = did.standing;
        first = subst (λ Q. is_first Q did.tenant ≡ true) (sym k.program) (did.first ∙ half_first (is_first_half i.op half) v w);
        pc_is = did.pc;
      };
    };
    adds = added;
    pc_is = ap (λ (z : State). z.pc) (sym old_state);
    state = new_state ∙ (ap (λ x. state_behind_by x i half last low state) w ∙ sym old_state);
  }

  pub is_inside : StoreIsInside (length state.memory) i last
  is_inside = subst (λ n. StoreIsInside n i last) (sym (ap (λ (z : State). length z.memory) k.unit.state_is ∙ length_memory P (unit_in seat.core seat.seen).tenants)) did.inside

  -- The fields after the retirement, and the answers in them

  pub kept_behind : {state' : State} {low' : Option ℕ} {head' ring : ℕ} {ended' : Option Stop} → state' ≡ state_behind i half last low state → low' ≡ low_in i half last →
      head' ≡ (head + 1) % ring → ring ≡ core.sizes.ring → ended' ≡ stop_in last → BackIsKept P seat' state' low' head' ended' shown
  kept_behind {state'} {low'} {head'} {ring} {ended'} s w h is e =
      let next = h ∙ ap (λ n. (head + 1) % n) (is ∙ sym (ap (λ (d : TheCore). d.sizes.ring) f.core_is)) in
      kept_as P seat' _ state' _ low' _ head' _ ended' shown retired_kept (sym s) (sym w) (sym next) (sym e)

  module _ {ended' : Option Stop} (e : ended' ≡ stop_in last) where
    abbrev AreBacks : (TheBack → TheBack → Type 0) → Type 0
    AreBacks Fact = Fact old (back_of seat' ended' shown)

    are_backs : (Fact : TheBack → TheBack → Type 0) → Fact (back_of seat None shown) (back_of seat' (stop_in last) shown) → AreBacks Fact
    are_backs Fact = subst (λ (s : TheBack × TheBack). Fact s.0 s.1) (λ j. (f.old_is j, back_of seat' (sym e j) shown))

    pub answers_stop : {code : Stop} → ended' ≡ Some code → HasEndedWith old (back_of seat' ended' shown) code
    answers_stop {code} is = are_backs (λ a b. HasEndedWith a b code) (did_end code (sym e ∙ is))

    pub answers_half : {low' : Option ℕ} {v pc : ℕ} → low' ≡ low_in i half last → low' ≡ Some v → pc ≡ state.pc → HasHalved old (back_of seat' ended' shown) pc
    answers_half {low'} {v} {pc} w is at_pc = subst (HasHalved old (back_of seat' ended' shown)) (sym at_pc) (are_backs (λ a b. HasHalved a b state.pc) (did_half v (sym w ∙ is)))

    pub answers_whole : {low' : Option ℕ} {pc n : ℕ} {state' : State} → low' ≡ low_in i half last → low' ≡ None → ended' ≡ None → pc ≡ state.pc → state' ≡ state_behind i half last low state →
        n ≡ state'.count → HasCommitted old (back_of seat' ended' shown) pc n
    answers_whole {low'} {pc} {n} {state'} w none is at_pc s count =
        let n_is : n ≡ (state_behind i half last low state).count = count ∙ ap (λ (z : State). z.count) s in
        subst (λ (z : ℕ × ℕ). HasCommitted old (back_of seat' ended' shown) z.0 z.1) (λ j. (sym at_pc j, sym n_is j))
        (are_backs (λ a b. HasCommitted a b state.pc (state_behind i half last low state).count) (did_commit (sym w ∙ none) (sym e ∙ is)))

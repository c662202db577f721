-- What a commit knows before its seat retires, and what it answers where it has ended or is refused.
use Rattle.std.proofs.Common.{◌≡◌, ℕ, List, [], ◌∷◌, ◌++◌, Option, Some, None, refl, sym, ap, ◌∙◌, subst, rules, append_assoc}
use Rattle.std.specs.Prelude.{IsSome}
use Rattle.instructions.specs.Programs.{Program, instr_at}
use Rattle.instructions.specs.declared.instr.Instr.{Instr}
use Rattle.instructions.specs.declared.stop.Stop.{Stop}
use Rattle.instructions.specs.declared.stop.Stop.TheVariants.{BadPc}
use Rattle.inorder.specs.declared.history.Event.{Event}
use Rattle.inorder.specs.declared.history.Event.TheVariants.{Refuses}
use Rattle.inorder.specs.declared.history.Refusal.TheVariants.{Over}
use Rattle.inorder.specs.Callers.{GoesOn}
use Rattle.inorder.specs.History.{IsLegal, back, entry, unit_of}
use Rattle.instructions.specs.Histories.{StartsWith}
use Rattle.inorder.specs.OneHistory.{Adds}
use Rattle.inorder.specs.Machine.{State}
use Rattle.inorder.specs.Replies.{IsOver}
use Rattle.inorder.specs.Runs.{stop}
use Rattle.inorder.specs.Unit.{UpdateUnit}
use Rattle.inorder.proofs.Histories.{legal_before, none_to}
use Rattle.snapshots.specs.declared.snap.Snap.{Snap}
use Rattle.station.specs.Seats.{Caller, IsSameSeat, TheCore}
use Rattle.back.specs.Backs.{TheBack, back_of}
use Rattle.back.specs.Commits.{HasEndedWith, WasRefused, WentOn}
use Rattle.back.specs.Commits.HowEnded.{Before, Nowhere}
use Rattle.back.specs.Kept.{BackIsKept}
use Rattle.back.specs.Kept.WhyEnded.{Nowhere as StopsNowhere}
use Rattle.back.proofs.OwnEntries.{added_legal, added_own, split_own}
use Rattle.back.proofs.SeatKept.{adds_plain, kept_by, plain, same_state, state_is, stops_there}
use Rattle.back.proofs.UnitKept.{IsQuiet, all_quiet, quiet_keeps}

-- The back of these fields is `old` to its caller and has not ended; the instruction at its pc is `here`, or there is none
pub record CommitFacts (P : Program) (old : TheBack) (core : TheCore) (seat : Caller) (state : State) (low : Option ℕ) (head : ℕ) (ended : Option Stop) (shown : Snap)
    (here : Option Instr) : Type 0 where
  pub core_is : seat.core ≡ core
  pub not_ended : ended ≡ None
  pub old_is : back_of seat None shown ≡ old
  pub kept : BackIsKept P seat state low head None shown
  pub found : instr_at seat.core.program state.pc ≡ here

pub facts_of : {P program : Program} {old : TheBack} {core : TheCore} {seat : Caller} {state : State} {low : Option ℕ} {head pc : ℕ} {ended : Option Stop} {shown : Snap}
    {fetched here : Option Instr} → BackIsKept P seat state low head ended shown → back_of seat ended shown ≡ old → old.core ≡ core → ended ≡ None →
    program ≡ core.program → pc ≡ state.pc → fetched ≡ instr_at program pc → fetched ≡ here → CommitFacts P old core seat state low head ended shown here
facts_of {P} {program} {old} {core} {seat} {state} {low} {head} {pc} {ended} {shown} kept view core_is none program_is pc_is fetch is =
    let same : seat.core ≡ core = ap (λ (b : TheBack). b.core) view ∙ core_is in
    let code : seat.core.program ≡ program = ap (λ (d : TheCore). d.program) same ∙ sym program_is in
    record {
      core_is = same;
      not_ended = none;
      old_is = (λ j. back_of seat (sym none j) shown) ∙ view;
      kept = subst (λ e. BackIsKept P seat state low head e shown) none kept;
      found = (λ j. instr_at (code j) (sym pc_is j)) ∙ (sym fetch ∙ is);
    }

-- The back has ended before

pub ended_before : {P : Program} {seat : Caller} {state : State} {low : Option ℕ} {head : ℕ} {shown : Snap} (code : Stop) → BackIsKept P seat state low head (Some code) shown →
    HasEndedWith (back_of seat (Some code) shown) (back_of seat (Some code) shown) code
ended_before {P} {seat} {state} {low} {head} {shown} code k = record {
  ended = refl;
  how = Before refl refl;
  state = refl;
  stops = subst (λ (z : Program × State). stop z.0 z.1.count ≡ Some code) (λ i. (sym k.program i, state_is P state low head (Some code) shown seat k i))
      (stops_there P seat.core.sizes seat.seen k.legal state low head (Some code) (plain P state low head (Some code) shown seat k) code
      (plain P state low head (Some code) shown seat k).end_is);
}

pub answers_ended : {P : Program} {old : TheBack} {seat : Caller} {state : State} {low : Option ℕ} {head : ℕ} {ended : Option Stop} {shown : Snap} {code : Stop} →
    BackIsKept P seat state low head ended shown → back_of seat ended shown ≡ old → ended ≡ Some code → HasEndedWith old old code
answers_ended {P} {old} {seat} {state} {low} {head} {ended} {shown} {code} kept view is =
    subst (λ s. HasEndedWith s s code) ((λ i. back_of seat (sym is i) shown) ∙ view)
    (ended_before code (subst (λ e. BackIsKept P seat state low head e shown) is kept))

-- There is no instruction at the pc

module _ {P : Program} {old : TheBack} {core : TheCore} {seat : Caller} {state : State} {low : Option ℕ} {head : ℕ} {ended : Option Stop} {shown : Snap} where
  nowhere_kept : CommitFacts P old core seat state low head ended shown None → BackIsKept P seat state low head (Some BadPc) shown
  nowhere_kept f = let k = f.kept in record {
    program = k.program;
    by_is = k.by_is;
    legal = k.legal;
    unit = record {
      state_is = k.unit.state_is;
      low_is = k.unit.low_is;
      head_is = k.unit.head_is;
      end_is = StopsNowhere refl (ap (λ (c : State). instr_at P c.pc) (sym k.unit.state_is) ∙ (ap (λ Q. instr_at Q state.pc) (sym k.program) ∙ f.found)) k.unit.end_is;
    };
    later = k.later;
  }

  pub answers_nowhere : CommitFacts P old core seat state low head ended shown None → HasEndedWith old (back_of seat (Some BadPc) shown) BadPc
  answers_nowhere f =
      let stopped = ended_before BadPc (nowhere_kept f) in
      let none = subst (λ (z : Program × State). instr_at z.0 z.1.pc ≡ None) (λ i. (seat.core.program, state_is P state low head None shown seat f.kept i)) f.found in
      subst (λ s. HasEndedWith s (back_of seat (Some BadPc) shown) BadPc) f.old_is
      (record { ended = refl; how = Nowhere refl refl none refl; state = refl; stops = stopped.stops })

-- There is one

module _ {P : Program} {old : TheBack} {core : TheCore} {seat : Caller} {state : State} {low : Option ℕ} {head : ℕ} {ended : Option Stop} {shown : Snap}
    {i : Instr} (f : CommitFacts P old core seat state low head ended shown (Some i)) where
  pub goes_on : WentOn (back_of seat None shown)
  goes_on = record {
    not_ended = refl;
    instr = subst (λ (z : Program × State). IsSome (instr_at z.0 z.1.pc)) (λ j. (seat.core.program, state_is P state low head None shown seat f.kept j)) (subst IsSome (sym f.found) there);
  }
    where
      there : IsSome (Some i)
      there = search rules

  module _ {seat' : Caller} (same : IsSameSeat seat seat') where
    here : {es : List Event} → Adds core.program core.sizes seat.by seat.seen seat'.seen es → Adds seat.core.program seat.core.sizes seat.by seat.seen seat'.seen es
    here {es} a = subst (λ (d : TheCore). Adds d.program d.sizes seat.by seat.seen seat'.seen es) (sym f.core_is) a

    still : {event : Event} → IsQuiet event → Adds core.program core.sizes seat.by seat.seen seat'.seen (event ∷ []) → BackIsKept P seat' state low head None shown
    still {event} quiet a = kept_by P state low head None shown seat seat' (event ∷ []) f.kept same.core same.by (here a) (quiet, tt)

    pub kept_refused : {event : Event} → IsQuiet event → Adds core.program core.sizes seat.by seat.seen seat'.seen (event ∷ []) → BackIsKept P seat' state low head ended shown
    kept_refused quiet a = subst (λ e. BackIsKept P seat' state low head e shown) (sym f.not_ended) (still quiet a)

    pub was_refused : {event : Event} → IsQuiet event → Adds core.program core.sizes seat.by seat.seen seat'.seen (event ∷ []) → WasRefused old (back_of seat' ended shown) event
    was_refused {event} quiet a =
        subst (λ (s : TheBack × TheBack). WasRefused s.0 s.1 event) (λ j. (f.old_is j, back_of seat' (sym f.not_ended j) shown)) (record {
          went_on = goes_on;
          not_ended = refl;
          adds = here a;
          state = same_state P state low head None shown seat seat' f.kept (still quiet a);
        })

    -- No stop has retired, so the seat is not told that one has
    pub is_not_over : Adds core.program core.sizes seat.by seat.seen seat'.seen (Refuses Over ∷ []) → ⊥
    is_not_over added =
        let C = seat.core.sizes in
        let a = adds_plain P state low head None shown seat seat'.seen (Refuses Over ∷ []) f.kept (here added) in
        let e = entry back (Refuses Over) in
        let s = split_own back a.begins.more e [] (added_own P C back seat.seen seat'.seen (Refuses Over ∷ []) a) in
        let whole : a.begins.more ++ seat.seen ≡ s.later ++ e ∷ (s.earlier ++ seat.seen) = ap (λ z. z ++ seat.seen) s.is ∙ append_assoc s.later (e ∷ s.earlier) seat.seen in
        let legal = legal_before P C s.later (e ∷ (s.earlier ++ seat.seen)) (subst (IsLegal P C) whole (added_legal P C back seat.seen seat'.seen (Refuses Over ∷ []) a)) in
        let until : StartsWith seat'.seen (s.earlier ++ seat.seen) = record { more = s.later ++ e ∷ []; is = a.begins.is ∙ (whole ∙ sym (append_assoc s.later (e ∷ []) (s.earlier ++ seat.seen))) } in
        let u = quiet_keeps P C state low head None s.earlier seat.seen legal.0 (all_quiet P C s.earlier seat.seen [] legal.0
        (none_to seat'.seen (s.earlier ++ seat.seen) seat.seen until (record { more = s.earlier; is = refl }) a.one_table) s.rest_is tt) (plain P state low head None shown seat f.kept) in
        over_not (unit_of P C (s.earlier ++ seat.seen)) legal.1.1 u.end_is
      where
        over_not : (U : UpdateUnit) → IsOver U → GoesOn U → ⊥
        over_not U o g = g o.p o.stop.tenant o.stop.is o.stop.fact.standing o.stop.fact.code o.stop.fact.fate

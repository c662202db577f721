-- A core that is renewed, with all that stands at it.
use Rattle.std.proofs.Common.{◌≡◌, ℕ, List, ◌∷◌, None, length, sym, ap, ◌∙◌, subst}
use Rattle.inorder.specs.declared.history.Entry.{Entry}
use Rattle.inorder.specs.declared.history.Event.TheVariants.{Does}
use Rattle.inorder.specs.declared.history.Step.TheVariants.{Renew}
use Rattle.inorder.specs.History.{IsLegal, entry, front, unit_of}
use Rattle.instructions.specs.Histories.{StartsWith}
use Rattle.inorder.specs.Unit.{Sizes}
use Rattle.instructions.specs.Programs.{Program}
use Rattle.session.specs.Moments.{GrowsLegally}
use Rattle.back.specs.Backs.{TheBack, back_of, committed_in, back_state}
use Rattle.back.specs.Stills.{TheStillBack, still_of}
use Rattle.station.specs.Renewals.{IsNotRenewed, IsRenewed, Seats}
use Rattle.station.specs.Seats.{Caller, TheCore}
use Rattle.session.specs.Renewals.{HasBegunAgain, HasStayed}

-- How many tenants there are, by what a seat has seen
abbrev pub tenants_in : Caller → ℕ
tenants_in s = length (unit_of s.core.program s.core.sizes s.seen).tenants

-- The back with a seat, after it had left as this
module _ (seat : Caller) (commits entered : TheBack) (still : TheStillBack) (left : still ≡ still_of commits)
    (enters : entered ≡ back_of seat None still.shown) (same : back_state entered ≡ committed_in still.core still.seen) where
  is_ended : entered.ended ≡ None
  is_ended = ap (λ (b : TheBack). b.ended) enters

  is_shown : entered.shown ≡ commits.shown
  is_shown = ap (λ (b : TheBack). b.shown) enters ∙ ap (λ (s : TheStillBack). s.shown) left

  is_state : back_state entered ≡ back_state commits
  is_state = same ∙ ap (λ (s : TheStillBack). committed_in s.core s.seen) left

-- With another core
module _ (core now : TheCore) (old new : Seats) (r : IsRenewed core old now new) (commits entered : TheBack) (still : TheStillBack) (left : still ≡ still_of commits)
    (enters : entered ≡ back_of new.back None still.shown) (same : back_state entered ≡ committed_in still.core still.seen) where
  pub begun : (told : ℕ) → told ≡ tenants_in new.front → HasBegunAgain core now old.unit.seen new.unit.seen commits entered told
  begun told is = record {
    kind = record { program = r.program; sizes = r.sizes };
    last = r.last;
    begins = r.met.of_unit.begins;
    may = r.may;
    seen_is = ap (λ (s : Caller). s.seen) r.first.unit_is ∙ r.opening;
    ended = is_ended new.back commits entered still left enters same;
    shown = is_shown new.back commits entered still left enters same;
    state = is_state new.back commits entered still left enters same;
    told = is ∙ (ap (λ (s : Caller). tenants_in s) r.first.front_is ∙ (λ i. length (unit_of (r.program i) (r.sizes i) (r.opening i)).tenants));
  }

-- With the old one
module _ (core now : TheCore) (old new : Seats) (r : IsNotRenewed core old now new) (commits entered : TheBack) (still : TheStillBack) (left : still ≡ still_of commits)
    (enters : entered ≡ back_of new.back None still.shown) (same : back_state entered ≡ committed_in still.core still.seen) where
  pub stayed : HasStayed core now old.unit.seen new.unit.seen commits entered
  stayed = record {
    core_is = r.core_is;
    begins = r.met.unit.adds.begins;
    ended = is_ended new.back commits entered still left enters same;
    shown = is_shown new.back commits entered still left enters same;
    state = is_state new.back commits entered still left enters same;
  }

-- The history has grown
module _ (core now : TheCore) (seen new_seen : List Entry) (commits new_commits : TheBack) (legal : IsLegal now.program now.sizes new_seen) where
  pub begun_grows : (told : ℕ) → HasBegunAgain core now seen new_seen commits new_commits told → GrowsLegally core seen new_seen
  begun_grows told h = record {
    begins = subst (λ (xs : List Entry). StartsWith xs seen) (sym h.seen_is)
        (record { more = entry front (Does Renew) ∷ h.begins.more; is = ap (λ xs. entry front (Does Renew) ∷ xs) h.begins.is });
    legal = subst (λ (z : Program × Sizes). IsLegal z.0 z.1 new_seen) (λ i. (h.kind.program i, h.kind.sizes i)) legal;
  }

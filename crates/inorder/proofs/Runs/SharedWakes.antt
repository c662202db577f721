-- No wake is lost along the example of two stations: each value was carried along its links, and each source
-- was asked for.
use Rattle.std.proofs.Common.{◌≡◌, ◌≢◌, ℕ, zero, suc, List, [], ◌∷◌, slice_get, Some, refl, ap, arith}
use Rattle.instructions.specs.Operations.{checked_address, computed_by, jump_target, loaded}
use Rattle.instructions.specs.Programs.{instr_at}
use Rattle.instructions.specs.declared.stop.Stop.TheVariants.{Break as BreakStop}
use Rattle.inorder.specs.declared.history.Act.TheVariants.{Claim, Deliver, Finish, Retire}
use Rattle.inorder.specs.declared.history.Entry.{Entry}
use Rattle.inorder.specs.declared.history.Event.TheVariants.{Marks}
use Rattle.inorder.specs.declared.history.Mark.{Mark}
use Rattle.inorder.specs.declared.history.Mark.TheVariants.{Asked, Walked}
use Rattle.inorder.specs.declared.history.Refusal.TheVariants.{Over}
use Rattle.inorder.specs.declared.history.Source.{Source}
use Rattle.inorder.specs.declared.history.Source.TheVariants.{First, Second}
use Rattle.inorder.specs.declared.history.Step.TheVariants.{Let, On}
use Rattle.inorder.specs.declared.history.Supply.TheVariants.{Known}
use Rattle.inorder.specs.History.{back, entry, front, unit_of}
use Rattle.inorder.specs.Tenants.{AtLet, Stopped, Tenant, operand}
use Rattle.inorder.specs.Unit.{at}
use Rattle.inorder.specs.Wakes.{AreMarked, IsMadeByCall, IsMarked, IsWalkedBehind, LosesNoWake}
use Rattle.inorder.proofs.Runs.Examples.{computes_not_links, does, done_not_stop, known, marks, refused, two_stations}
use Rattle.inorder.proofs.Positions.{at_below}
use Rattle.inorder.proofs.Runs.SharedRun.{adds, made, over, over_legal, walked}
use Rattle.inorder.proofs.Theorem.Waking.{loses_no_wake}

abbrev tenants_over : List Tenant
tenants_over = (unit_of adds two_stations over).tenants

-- What came after the first value was carried along its links, and after the second
abbrev since_second : List Entry
since_second =
    refused back Over ∷
    does back (On 2 (Retire 0)) ∷
    does 2 (On 2 Finish) ∷
    does 2 (On 2 Claim) ∷
    does back (On 1 (Retire 0)) ∷
    []

abbrev since_first : List Entry
since_first =
    refused back Over ∷
    does back (On 2 (Retire 0)) ∷
    does 2 (On 2 Finish) ∷
    does 2 (On 2 Claim) ∷
    does back (On 1 (Retire 0)) ∷
    marks 3 (Walked 1) ∷
    does 3 (On 1 Finish) ∷
    does front (Let 2 0x40000c (Known 0) (Known 0)) ∷
    does back (On 0 (Retire 0)) ∷
    does 3 (On 1 Claim) ∷
    []

walked_first : IsWalkedBehind adds two_stations over 0
unfolding instr_at computed_by jump_target checked_address loaded
walked_first =
    record {
      mark = record {
        more = since_first;
        by = 2;
        point = does 2 (On 1 (Deliver Second)) ∷ does 2 (On 1 (Deliver First)) ∷ made;
        is = refl;
      };
      made = record {
        tenant = _;
        is = refl;
        value = 5;
        made = refl;
        kind = computes_not_links;
        fate = λ c. done_not_stop 5 c;
      };
    }

walked_second : IsWalkedBehind adds two_stations over 1
unfolding instr_at computed_by jump_target checked_address loaded
walked_second =
    record {
      mark = record {
        more = since_second;
        by = 3;
        point =
            does 3 (On 1 Finish) ∷ does front (Let 2 0x40000c (Known 0) (Known 0)) ∷
            does back (On 0 (Retire 0)) ∷ does 3 (On 1 Claim) ∷ walked;
        is = refl;
      };
      made = record {
        tenant = _;
        is = refl;
        value = 10;
        made = refl;
        kind = computes_not_links;
        fate = λ c. done_not_stop 10 c;
      };
    }

-- The stop has taken its value when it retired
stop_made_nothing : ¬ IsMadeByCall adds (unit_of adds two_stations over) 2
unfolding instr_at computed_by jump_target checked_address loaded
stop_made_nothing m =
    known (λ t. t.fate ≢ Stopped BreakStop) _ m.tenant _ m.is refl (m.fate BreakStop) refl

at_most_three : (p : ℕ) (t : Tenant) → ¬ (at tenants_over (suc (suc (suc p))) ≡ Some t)
unfolding instr_at computed_by jump_target checked_address loaded
at_most_three p t is = let below = at_below tenants_over (suc (suc (suc p))) t is in absurd (omega arith)

all_walked : (q : ℕ) → IsMadeByCall adds (unit_of adds two_stations over) q → IsWalkedBehind adds two_stations over q
all_walked zero m = walked_first
all_walked (suc zero) m = walked_second
all_walked (suc (suc zero)) m = absurd (stop_made_nothing m)
all_walked (suc (suc (suc q))) m = absurd (at_most_three q m.tenant m.is)

-- A mark that stands in a history
marked_at : (h : List Entry) (n by : ℕ) (mark : Mark) → slice_get h n ≡ Some (entry by (Marks mark)) → IsMarked h mark
marked_at [] n by mark e = absurd (cc)
marked_at (x ∷ h) zero by mark e =
    let same : x ≡ entry by (Marks mark) = cc e in
    record { more = []; by = by; point = h; is = ap (λ z. z ∷ h) same }
marked_at (x ∷ h) (suc n) by mark e =
    let m = marked_at h n by mark e in
    record { more = x ∷ m.more; by = m.by; point = m.point; is = ap (λ z. x ∷ z) m.is }

all_asked : (p : ℕ) (t : Tenant) (k : Source) → at tenants_over p ≡ Some t → (operand k t).way ≢ AtLet →
    IsMarked over (Asked p k)
unfolding instr_at computed_by jump_target checked_address loaded
all_asked (suc zero) t First is way = marked_at over 21 front (Asked 1 First) refl
all_asked (suc zero) t Second is way = marked_at over 19 front (Asked 1 Second) refl
all_asked zero t First is way = absurd (known (λ t. (operand First t).way ≢ AtLet) _ t _ is refl way refl)
all_asked zero t Second is way = absurd (known (λ t. (operand Second t).way ≢ AtLet) _ t _ is refl way refl)
all_asked (suc (suc zero)) t First is way =
    absurd (known (λ t. (operand First t).way ≢ AtLet) _ t _ is refl way refl)
all_asked (suc (suc zero)) t Second is way =
    absurd (known (λ t. (operand Second t).way ≢ AtLet) _ t _ is refl way refl)
all_asked (suc (suc (suc p))) t k is way = absurd (at_most_three p t is)

are_marked : AreMarked adds two_stations over
are_marked = record { walked = all_walked; asked = all_asked }

no_wake_lost : LosesNoWake adds two_stations over
no_wake_lost = loses_no_wake adds two_stations over over_legal are_marked

-- Entries that are not legal after the example histories.
use Rattle.std.proofs.Common.{◌≡◌, ◌≢◌, ℕ, zero, suc, List, [], ◌∷◌, Some, None, refl, true, ⊎_elim, arith}
use Rattle.std.specs.List.{AllByRecursion}
use Rattle.instructions.specs.Operations.{checked_address, computed_by, jump_target, loaded}
use Rattle.instructions.specs.Programs.{instr_at}
use Rattle.instructions.specs.declared.stop.Stop.TheVariants.{Break as BreakStop}
use Rattle.inorder.specs.declared.history.Act.TheVariants.{Claim, Finish, Link, Retire}
use Rattle.inorder.specs.declared.history.Entry.{Entry}
use Rattle.inorder.specs.declared.history.Event.TheVariants.{Does, Marks, Refuses}
use Rattle.inorder.specs.declared.history.Mark.TheVariants.{Asked, Walked}
use Rattle.inorder.specs.declared.history.Refusal.TheVariants.{Empty, Moved, NotDone, NotOpen, Stale, Waiting}
use Rattle.inorder.specs.declared.history.Source.TheVariants.{First}
use Rattle.inorder.specs.declared.history.Step.TheVariants.{Let, On}
use Rattle.inorder.specs.declared.history.Supply.TheVariants.{From, Known}
use Rattle.inorder.specs.History.{MayAdd, back, front, unit_of}
use Rattle.inorder.specs.Replies.{IsAskedInTime, IsDelivered, IsOpen, IsSpent}
use Rattle.inorder.specs.Tenants.{Busy, IsNotLive, IsThere, Linked, Live, Squashed, Tenant, kind_of, missing, operand}
use Rattle.inorder.specs.Steps.{CanRetire}
use Rattle.inorder.specs.Unit.{Sizes, at, older}
use Rattle.inorder.proofs.Runs.Examples.{apart, does, four_stations, known, late_not_in_time, none_not_some, squashed_not_live, two_stations}
use Rattle.inorder.proofs.Positions.{at_below}
use Rattle.inorder.proofs.Runs.SharedRun.{adds, asked, claimed, made, over, walked}
use Rattle.inorder.proofs.Runs.SharedWrongPath.{mispredicted, recovered}
use Rattle.inorder.proofs.Runs.WrongPathRun.{skips}

busy_by_one : Busy 2 ≢ Busy 3
busy_by_one e = cc

none_there : ¬ IsThere None
none_there there = none_not_some there.0 there.1

-- A finish by another caller than the one that has claimed
finish_of_another : ¬ MayAdd adds two_stations claimed 3 (Does (On 0 Finish))
unfolding instr_at computed_by jump_target checked_address loaded
finish_of_another m =
    busy_by_one (known (λ t. t.fate ≡ Busy 3) _ m.1.tenant _ m.1.is refl m.1.may.fate)

-- A finish of a tenant that was squashed, also where its station was let again
stale_finish : ¬ MayAdd skips four_stations recovered 3 (Does (On 1 Finish))
unfolding instr_at computed_by jump_target checked_address loaded
stale_finish m =
    squashed_not_live (known (λ t. t.standing ≡ Live) _ m.1.tenant _ m.1.is refl m.1.may.live)

-- And nobody is told so before the squash
stale_too_early : ¬ MayAdd skips four_stations mispredicted 3 (Refuses (Stale 1))
unfolding instr_at computed_by jump_target checked_address loaded
stale_too_early m =
    live_not_squashed (known (λ t. t.standing ≡ Squashed) _ m.1.tenant _ m.1.is refl m.1.fact)
  where
    live_not_squashed : Live ≢ Squashed
    live_not_squashed e = cc

-- A mark before the value was delivered to who had asked in time
walked_too_early : ¬ MayAdd adds two_stations made 2 (Marks (Walked 0))
unfolding instr_at computed_by jump_target checked_address loaded
walked_too_early m = ⊎_elim
    (λ (there : IsThere None). none_there there)
    (λ (gone : Live ≢ Live). gone refl)
    (m.1 1 _ First refl refl refl)

-- A link that comes after the value: whoever looks first and links afterwards has not asked in time
abbrev late_link : List Entry
late_link =
    does front (On 1 (Link First)) ∷
    does 2 (On 0 Finish) ∷
    does 2 (On 0 Claim) ∷
    does front (Let 1 0x400008 From From) ∷
    does front (Let 0 0x400004 (Known 0) (Known 0)) ∷
    []

asked_too_late : ¬ MayAdd adds two_stations late_link front (Marks (Asked 1 First))
unfolding instr_at computed_by jump_target checked_address loaded
asked_too_late m = ⊎_elim
    (λ (d : IsDelivered (unit_of adds two_stations late_link) 1 First).
    none_there (known (λ t. IsThere (operand First t).value) _ d.tenant _ d.is refl d.fact))
    (λ (a : IsAskedInTime (unit_of adds two_stations late_link) 1 First).
    late_not_in_time (known (λ t. (operand First t).way ≡ Linked true) _ a.tenant _ a.is refl a.fact))
    m.1

-- A wait for a source that has its value, and one of a tenant that was never let
waits_for_nothing : ¬ MayAdd adds two_stations walked 3 (Refuses (Waiting 1 First))
unfolding instr_at computed_by jump_target checked_address loaded
waits_for_nothing m =
    none_not_some First (known (λ t. missing adds t ≡ Some First) _ m.2.tenant _ m.2.is refl m.2.fact)

waits_unlet : ¬ MayAdd adds two_stations asked 3 (Refuses (Waiting 2 First))
unfolding instr_at computed_by jump_target checked_address loaded
waits_unlet m = none_not_some m.2.tenant m.2.is

-- An open station that is told not to be open, and a tenant that has not moved
open_is_open : ¬ MayAdd adds two_stations asked 3 (Refuses (NotOpen 1))
unfolding instr_at computed_by jump_target checked_address loaded
open_is_open m = m.1 1 _ refl refl (record { live = refl; fate = refl })

not_moved : ¬ MayAdd adds two_stations asked 3 (Refuses (Moved 1))
unfolding instr_at computed_by jump_target checked_address loaded
not_moved m =
    known (λ t. ¬ IsOpen t) _ m.2.tenant _ m.2.is refl m.2.fact (record { live = refl; fate = refl })

-- A retirement by a unit, a refusal of one that is allowed, and another answer than Over at the end
units_retire_nothing : ¬ MayAdd adds two_stations walked 2 (Does (On 0 (Retire 0)))
units_retire_nothing m = apart 2 1 refl m.0

oldest_is_done : ¬ MayAdd adds two_stations walked back (Refuses NotDone)
unfolding instr_at computed_by jump_target checked_address loaded
oldest_is_done m = by_position m.1.p m.1.tenant m.1.is m.1.oldest m.1.stays
  where
    ts : List Tenant
    ts = (unit_of adds two_stations walked).tenants

    by_position : (p : ℕ) (t : Tenant) → at ts p ≡ Some t → AllByRecursion IsNotLive (older ts p) →
        ¬ CanRetire (kind_of adds t) t.second.value t.fate → ⊥
    by_position zero t is oldest stays =
        known (λ t. ¬ CanRetire (kind_of adds t) t.second.value t.fate) _ t _ is refl stays tt
    by_position (suc zero) t is oldest stays = oldest.0 refl
    by_position (suc (suc n)) t is oldest stays = let below = at_below ts (suc (suc n)) t is in absurd (omega arith)

over_comes_first : ¬ MayAdd adds two_stations over back (Refuses Empty)
unfolding instr_at computed_by jump_target checked_address loaded
over_comes_first m = m.1.goes_on.0 refl BreakStop refl

-- A let with a spent tag
abbrev last_tags : Sizes
last_tags = record { ring = 2; queue = 2; first_tag = 0xfffffff }

tag_is_spent : IsSpent last_tags (unit_of adds last_tags [])
tag_is_spent = refl

spent_lets_nothing : ¬ MayAdd adds last_tags [] front (Does (Let 0 0x400004 (Known 0) (Known 0)))
spent_lets_nothing m = let less = m.0.1 in absurd (omega arith)

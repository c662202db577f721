-- A mispredicted branch with two units, as a legal history: what was claimed on the wrong path is stale.
use Rattle.std.proofs.Common.{◌≡◌, List, [], ◌∷◌, refl}
use Rattle.instructions.specs.Operations.{checked_address, computed_by, jump_target, loaded}
use Rattle.instructions.specs.Programs.{instr_at}
use Rattle.inorder.specs.declared.history.Act.TheVariants.{Claim, Finish, Mend, Squash}
use Rattle.inorder.specs.declared.history.Entry.{Entry}
use Rattle.inorder.specs.declared.history.Refusal.TheVariants.{Stale}
use Rattle.inorder.specs.declared.history.Step.TheVariants.{Let, On}
use Rattle.inorder.specs.declared.history.Supply.TheVariants.{Known}
use Rattle.inorder.specs.History.{IsLegal, front, unit_of}
use Rattle.inorder.specs.Replies.{Has, HasNoMiss}
use Rattle.inorder.specs.Tenants.{Tenant}
use Rattle.inorder.proofs.Runs.Decided.{given}
use Rattle.inorder.proofs.Runs.DecidedHistory.{is_legal}
use Rattle.inorder.proofs.Runs.Examples.{does, four_stations, refused}
use Rattle.inorder.proofs.Runs.WrongPathRun.{skips}

-- The branch is predicted not taken, and both tenants are claimed. The branch is a miss
abbrev pub mispredicted : List Entry
mispredicted =
    does 2 (On 0 Finish) ∷
    does 3 (On 1 Claim) ∷
    does 2 (On 0 Claim) ∷
    does front (Let 1 0x400008 (Known 0) (Known 0)) ∷
    does front (Let 0 0x400004 (Known 0) (Known 0)) ∷
    []

-- The front recovers, and lets the station of the wrong path again. The other unit is told so
abbrev pub recovered : List Entry
recovered =
    refused 3 (Stale 1) ∷
    does front (Let 2 0x40000c (Known 0) (Known 0)) ∷
    does front (On 0 Mend) ∷
    does front (On 1 Squash) ∷
    mispredicted

recovered_legal : IsLegal skips four_stations recovered
unfolding instr_at computed_by jump_target checked_address loaded
recovered_legal = given (is_legal skips four_stations recovered) refl

-- The new tenant has the station of the squashed one, and the next tag
abbrev IsSecondOfStation1 : Tenant → Type 0
IsSecondOfStation1 t = (t.station ≡ 1) × (t.tag ≡ 2)

relet_under_the_next_tag : Has (unit_of skips four_stations recovered) 2 IsSecondOfStation1
unfolding instr_at computed_by jump_target checked_address loaded
relet_under_the_next_tag = record { tenant = _; is = refl; fact = (refl, refl) }

-- Until then the front has somebody to mend
has_a_miss : ¬ HasNoMiss (unit_of skips four_stations mispredicted)
unfolding instr_at computed_by jump_target checked_address loaded
has_a_miss none = none 0 0x400008 _ refl refl refl

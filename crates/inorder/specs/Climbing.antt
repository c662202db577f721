-- How far a unit has come on its path up to the first miss: a measure that lets raise, and only
-- retirements and flushes lower.
use Rattle.std.specs.Prelude.{⊤, ◌≡◌, ℕ, suc, ◌+◌, ◌-◌, ◌*◌, ◌^◌, ◌<◌, ◌≤◌, Bool, true, false, ◌&&◌, not, List, [], ◌∷◌, ◌++◌, if◌then◌else◌}
use Rattle.instructions.specs.Programs.{Program}
use Rattle.inorder.specs.declared.history.Act.{Act}
use Rattle.inorder.specs.declared.history.Act.TheVariants.{Retire, Speculate}
use Rattle.inorder.specs.declared.history.Speculation.TheVariants.{Flush}
use Rattle.inorder.specs.declared.history.Step.{Step}
use Rattle.inorder.specs.declared.history.Step.TheVariants.{Let, On, Renew}
use Rattle.inorder.specs.Legal.{AreAllowed, Taken, reached}
use Rattle.inorder.specs.Progress.{lets, tenant_work}
use Rattle.inorder.specs.Tenants.{Fate, Live, Miss, Standing, Tenant, is_live}
use Rattle.inorder.specs.Unit.{Sizes, UpdateUnit, how_many}

-- A miss that is live
abbrev pub misses_by : Standing → Fate → Bool
misses_by Live (Miss x) = true
misses_by st f = false

-- One of these is a live miss
abbrev pub has_miss : List Tenant → Bool
has_miss [] = false
has_miss (t ∷ ts) = if misses_by t.standing t.fate then true else has_miss ts

-- What a live tenant counts, with ts before it: a decimal digit, the greater the less is left to do for
-- it. The oldest live tenant has the first of as many digits as there are stations
abbrev pub digit_of : Sizes → List Tenant → Tenant → ℕ
digit_of C ts t = (10 - tenant_work t) * 10 ^ (C.ring - suc (how_many is_live ts))

-- The number of the live tenants up to the first miss; those after it count nothing
abbrev pub height : Sizes → List Tenant → ℕ
height C [] = 0
height C (t ∷ ts) =
    if is_live t && not (has_miss ts) then digit_of C ts t + height C ts else height C ts

-- Neither a retirement nor a flush
abbrev pub IsSteadyAct : Act → Type 0
IsSteadyAct (Retire n) = ⊥
IsSteadyAct (Speculate Flush) = ⊥
IsSteadyAct act = ⊤

-- Neither a retirement nor a flush, and no let while a miss is live
abbrev pub IsSteady : UpdateUnit → Step → Type 0
IsSteady U (Let index predicted first second) = has_miss U.tenants ≡ false
IsSteady U (On p act) = IsSteadyAct act
IsSteady U Renew = ⊤

-- Each of these steps is steady, the last one first, where the history goes on with them
abbrev pub AreSteady : Program → Sizes → List Taken → List Taken → Type 0
AreSteady P C [] history = ⊤
AreSteady P C (s ∷ more) history =
    AreSteady P C more history × IsSteady (reached P C (more ++ history)) s.step

-- Between two retirements or flushes, if nobody is let while a miss is live, fewer tenants are let than
-- there are numbers of as many decimal digits as stations
abbrev pub LetsRunOut : Program → Sizes → List Taken → List Taken → Type 0
LetsRunOut P C more history =
    AreAllowed P C (more ++ history) → AreSteady P C more history → lets more < 10 ^ C.ring

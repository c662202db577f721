-- The table of verbs has each of them.
use Rattle.std.proofs.Common.{◌≡◌, ℕ, ◌<◌, List, [], ◌∷◌, get_or, refl, arith}
use Rattle.session.specs.declared.verbs.Verb.{Verb}
use Rattle.session.specs.declared.verbs.Verb.TheVariants.{Turn, Recover, Claim, Finish, Refresh, Commit, Show, Take, Learn, Look, Creator, Touched, Info, Operand}
use Rattle.session.specs.declared.verbs.Verb.TheVariants.{Link, Station, Ring, Rest, Meet, Report, Renew, Table, Queue, Step, Until, Undo, Help, List as Listing, Quit}

abbrev pub verbs : List Verb
verbs = Turn ∷ Recover ∷ Claim ∷ Finish ∷ Refresh ∷ Commit ∷ Show ∷ Take ∷ Learn ∷ Look ∷ Creator ∷ Touched ∷ Info ∷ Operand
    ∷ Link ∷ Station ∷ Ring ∷ Rest ∷ Meet ∷ Report ∷ Renew ∷ Table ∷ Queue ∷ Step ∷ Until ∷ Undo ∷ Help ∷ Listing ∷ Quit ∷ []

pub place_of : (v : Verb) → (k : ℕ) × (k < 29) × (get_or verbs k Turn ≡ v)
place_of Turn = (0, omega arith, refl)
place_of Recover = (1, omega arith, refl)
place_of Claim = (2, omega arith, refl)
place_of Finish = (3, omega arith, refl)
place_of Refresh = (4, omega arith, refl)
place_of Commit = (5, omega arith, refl)
place_of Show = (6, omega arith, refl)
place_of Take = (7, omega arith, refl)
place_of Learn = (8, omega arith, refl)
place_of Look = (9, omega arith, refl)
place_of Creator = (10, omega arith, refl)
place_of Touched = (11, omega arith, refl)
place_of Info = (12, omega arith, refl)
place_of Operand = (13, omega arith, refl)
place_of Link = (14, omega arith, refl)
place_of Station = (15, omega arith, refl)
place_of Ring = (16, omega arith, refl)
place_of Rest = (17, omega arith, refl)
place_of Meet = (18, omega arith, refl)
place_of Report = (19, omega arith, refl)
place_of Renew = (20, omega arith, refl)
place_of Table = (21, omega arith, refl)
place_of Queue = (22, omega arith, refl)
place_of Step = (23, omega arith, refl)
place_of Until = (24, omega arith, refl)
place_of Undo = (25, omega arith, refl)
place_of Help = (26, omega arith, refl)
place_of Listing = (27, omega arith, refl)
place_of Quit = (28, omega arith, refl)

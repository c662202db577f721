-- What an info word says elsewhere than where the next tenant goes.
use Rattle.std.specs.Prelude.{◌≢◌, ℕ, List}
use Rattle.instructions.specs.Programs.{Program}
use Rattle.instructions.specs.declared.op.Half.{Half}
use Rattle.inorder.specs.declared.history.Entry.{Entry}
use Rattle.inorder.specs.History.{unit_of}
use Rattle.inorder.specs.StationWords.{last_of}
use Rattle.inorder.specs.Unit.{Sizes, next_station, recent}
use Rattle.station.specs.Looking.{SeesInfo, ShowsInfo}

-- At each other station an info word is that of the last tenant let since the last renewal, whatever let is in progress
abbrev pub InfosElsewhere : Type 0
InfosElsewhere =
    (P : Program) (C : Sizes) (h : List Entry) (s index predicted : ℕ) (half : Half) →
    s ≢ next_station C (recent (unit_of P C h)) → SeesInfo P C h s index half predicted →
    ShowsInfo (last_of (recent (unit_of P C h)) s) index half predicted

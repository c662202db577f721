-- A new core.
use Rattle.std.specs.Prelude.{◌≡◌, ℕ, ◌≤◌, ◌<◌, [], length}
use Rattle.atomic_table.specs.Seated.{TableId}
use Rattle.atomic_table.specs.Table.{Me}
use Rattle.instructions.specs.Programs.{Program}
use Rattle.instructions.specs.Settings.{Settings}
use Rattle.inorder.specs.History.{back, front}
use Rattle.inorder.specs.Replies.{last_tag}
use Rattle.ruu_words.specs.declared.rule.SpareNumbers.{SpareNumbers}
use Rattle.ruu_words.specs.declared.rule.Setup.{Setup}
use Rattle.ruu_words.specs.declared.rule.View.{View}
use Rattle.ruu_words.specs.Places.{words_for}
use Rattle.ruu_words.specs.Views.{first_view, nobody}
use Rattle.station.specs.Seats.{Caller, TheCore}

-- The table is made for this program and these sizes
pub record IsCore (words : ℕ) (key : Setup) (P : Program) (ring queue first_tag : ℕ) : Type 0 where
  pub wide : words ≡ words_for ring
  pub program : key.program ≡ P
  pub ring_is : key.ring ≡ ring
  pub queue_is : key.queue ≡ queue
  pub first_tag_is : key.first_tag ≡ first_tag
  pub least : 2 ≤ ring
  pub most : ring ≤ 32
  pub two_accesses : 2 ≤ queue
  pub from_one : 1 ≤ key.first_tag
  pub below : key.first_tag < last_tag
  pub small : length P.code ≤ 16384

-- A seat of this core that has seen nothing and woken nobody
pub record IsNew (core : TheCore) (seat : Caller) : Type 0 where
  pub core_is : seat.core ≡ core
  pub seen : seat.seen ≡ []
  pub woken : seat.woken ≡ 0

-- The first unit, and the numbers of all others
abbrev pub first_unit : ℕ
first_unit = 2

-- All numbers from 3 on, which the first unit's seat may give away
abbrev pub other_units : SpareNumbers
other_units = record { first = 3; every = 1 }

-- The first seat of a caller: it has seen what its core goes on from, and woken nobody
abbrev pub first_seat : TheCore → ℕ → SpareNumbers → Caller
first_seat core by spare = record { core = core; by = by; spare = spare; seen = core.opening; woken = 0 }

-- The first seats of a core. Only the unit's may give numbers away, and all others are its
pub record AreFirst (core : TheCore) (front_seat back_seat unit_seat : Caller) : Type 0 where
  pub front_is : front_seat ≡ first_seat core front nobody
  pub back_is : back_seat ≡ first_seat core back nobody
  pub unit_is : unit_seat ≡ first_seat core first_unit other_units

-- A core for this program and configuration, with its first seats
pub record IsNewCore (P : Program) (config : Settings) (core : TheCore) (front_seat back_seat unit_seat : Caller) : Type 0 where
  pub program : core.program ≡ P
  pub sizes : core.sizes ≡ record { ring = config.ring; queue = config.queue; first_tag = config.first_tag }
  pub opening : core.opening ≡ []
  pub front_is : IsNew core front_seat
  pub back_is : IsNew core back_seat
  pub unit_is : IsNew core unit_seat
  pub front_by : front_seat.by ≡ front
  pub back_by : back_seat.by ≡ back
  pub unit_by : unit_seat.by ≡ first_unit
  pub unit_spare : unit_seat.spare ≡ other_units

-- A table of this setup, by its name and key, with its first seat, by its table and what it knows
pub record IsFirstTable (setup : Setup) (table : TableId) (key : Setup) (of : TableId) (me : Me ℕ View) :
    Type 0 where
  pub wide : table.words ≡ words_for setup.ring
  pub key_is : key ≡ setup
  pub seat : of ≡ table
  pub view : me ≡ (first_view setup, [])

-- The setup of a new core
pub record IsSetup (P : Program) (config : Settings) (setup : Setup) : Type 0 where
  pub program : setup.program ≡ P
  pub ring : setup.ring ≡ config.ring
  pub queue : setup.queue ≡ config.queue
  pub first_tag : setup.first_tag ≡ config.first_tag
  pub opening : setup.opening.views ≡ []
  pub least : 2 ≤ setup.ring
  pub most : setup.ring ≤ 32
  pub two_accesses : 2 ≤ setup.queue
  pub tag : setup.first_tag < last_tag
  pub from_one : 1 ≤ setup.first_tag
  pub code : length setup.program.code ≤ 16384

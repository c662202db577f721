-- The configuration of a run, and stand-ins for totals and a configuration where no run is meant.
use Rattle.std.specs.Prelude.{[]}
use Rattle.atomic_table.specs.Seated.{TableId}
use Rattle.inorder.specs.Unit.{Sizes}
use Rattle.instructions.specs.Settings.{Settings}

-- The sizes of the core of a run
abbrev pub configured_sizes : Settings → Sizes
configured_sizes config =
    record { ring = config.ring; queue = config.queue; first_tag = config.first_tag }

-- No table
abbrev pub no_table : TableId
no_table = record { words = 0; slots = 0; views_name = 0; atom = 0; block = 0; offset = 0; slot_names = [] }

-- No configuration
abbrev pub no_settings : Settings
no_settings =
    record { ring = 0; queue = 0; units = 0; places = 0; first_tag = 0; limit = 0; turns = 0 }

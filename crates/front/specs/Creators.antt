-- The create vector: who creates the newest value of a register.
use Rattle.std.specs.Prelude.{ℕ, List, [], ◌∷◌, Option, Some, None, ◌==◌, if◌then◌else◌, slice_index}
use Rattle.instructions.specs.Instruction.{pc_plus_4}
use Rattle.inorder.specs.Unit.{can_be_written}
use Rattle.station.specs.declared.answers.Supply.{Supply}
use Rattle.station.specs.declared.answers.Supply.TheVariants.{From, Known}
use Rattle.front.specs.declared.path.base_state.Base.{Base}
use Rattle.front.specs.declared.path.record.Record.{Record}
use Rattle.front.specs.Trail.{Note}

-- The last of these tenants, the oldest first, that writes a register, or else an older one
abbrev pub newest : Option Record → List Record → ℕ → Option Record
newest older [] r = older
newest older (x ∷ xs) r = newest (if x.destination == r then Some x else older) xs r

-- The creator of a register among these tenants; nobody writes register 0
abbrev pub creator_in : List Record → ℕ → Option Record
creator_in records r = if can_be_written r then newest None records r else None

-- The last of these tenants with their positions, the oldest first, that writes a register, or else
-- an older one
abbrev pub newest_note : Option Note → List Note → ℕ → Option Note
newest_note older [] r = older
newest_note older (n ∷ ns) r =
    newest_note (if n.what.destination == r then Some n else older) ns r

-- The creator of a register among tenants with their positions; nobody writes register 0
abbrev pub creator_note : List Note → ℕ → Option Note
creator_note notes r = if can_be_written r then newest_note None notes r else None

-- The position of a creator in the unit
abbrev pub position : Option Note → Option ℕ
position None = None
position (Some n) = Some n.at

-- A jump that links has made its value; of any other the value comes from its creator
abbrev pub supply_by : ℕ → Option Record → Supply
supply_by base None = Known base
supply_by base (Some x) =
    if x.links then Known (pc_plus_4 x.pc) else From x.station x.tag

-- The source of a new tenant that reads register r, where the older tenants left `base`
abbrev pub supply_in : List Record → Base → ℕ → Supply
supply_in records base r = supply_by (slice_index base.registers r) (creator_in records r)

-- Where the path goes on, by what a front keeps.
use Rattle.std.proofs.Common.{◌≡◌, ◌<◌, ℕ, Bool, sym, ap, ◌∙◌}
use Rattle.std.specs.List.{AllByRecursion}
use Rattle.instructions.specs.Programs.{Program}
use Rattle.instructions.specs.declared.op.Half.{Half}
use Rattle.inorder.specs.Unit.{front_half, front_pc, next_station, recent}
use Rattle.station.specs.Seats.{Caller}
use Rattle.front.specs.declared.path.Path.{Path}
use Rattle.front.specs.declared.path.counted.CountedTable.{CountedTable}
use Rattle.front.specs.Fronts.{IsFront, TheFront, front_unit}
use Rattle.front.specs.Knows.{IsFolded}
use Rattle.front.specs.Path.{next_half, pc_behind, rested_at, station_of_next}
use Rattle.front.proofs.Named.{small_stations, stands_right}
use Rattle.front.proofs.Places.{known_half, known_pc, known_place}
use Rattle.inorder.specs.History.{unit_of}
use Rattle.inorder.specs.Unit.{UpdateUnit}

module _ {S : Type 0} (P : Program) (seat : Caller) (path : Path) (creators : CountedTable) (rested : Bool) (f : TheFront S) (is : IsFront P seat path creators rested)
    (core : f.core ≡ seat.core) (seen : f.seen ≡ seat.seen) where
  same_unit : unit_of seat.core.program seat.core.sizes seat.seen ≡ front_unit f
  same_unit i = unit_of (sym core i).program (sym core i).sizes (sym seen i)

  pub pc_ahead : (pc : ℕ) → pc ≡ pc_behind path.base path.records → pc ≡ front_pc (front_unit f).tenants
  pc_ahead pc e =
      let U = unit_of seat.core.program seat.core.sizes seat.seen in
      e ∙ (sym (known_pc seat.core.program seat.core.sizes U path.records path.base (IsFolded U (rested_at path.base)) is.knows) ∙ ap (λ (V : UpdateUnit). front_pc V.tenants) same_unit)

  pub half_ahead : (half : Half) → half ≡ next_half path.base path.records → half ≡ front_half f.core.program (front_unit f).tenants
  half_ahead half e =
      let U = unit_of seat.core.program seat.core.sizes seat.seen in
      e ∙ (sym (known_half seat.core.program seat.core.sizes U path.records path.base (IsFolded U (rested_at path.base)) is.knows)
      ∙ (λ i. front_half (sym core i).program (same_unit i).tenants))

  pub station_ahead : (station : ℕ) → station ≡ station_of_next seat.core.sizes.ring path.base path.records → station ≡ next_station f.core.sizes (recent (front_unit f))
  station_ahead station e =
      let C = seat.core.sizes in
      let U = unit_of seat.core.program C seat.seen in
      e ∙ (sym (known_place seat.core.program C U path.records path.base (IsFolded U (rested_at path.base)) is.knows (stands_right seat.core.program C seat.seen is.legal))
      ∙ (λ i. next_station (sym core i).sizes (recent (same_unit i))))

  pub stations_ahead : 0 < seat.core.sizes.ring → AllByRecursion (λ x. x.station < seat.core.sizes.ring) path.records
  stations_ahead some =
      let U = unit_of seat.core.program seat.core.sizes seat.seen in
      small_stations seat.core.program seat.core.sizes seat.seen is.legal path.records path.base (IsFolded U (rested_at path.base)) is.knows some

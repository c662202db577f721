use Rattle.ruu_words.specs.Openings.{opening_of, sizes_of}
use Rattle.ruu_words.specs.Telling.{Tells}
use Rattle.station.proofs.call.Call.store.Given as goal

abbrev pub ghosts-store : goal.ghosts-store
ghosts-store g a = record {
  then = Tells a.self.now.key.program (sizes_of a.self.now.key) (opening_of a.self.now.key) a.seat.now.me.0.by
      (λ n. g.K.Telling.kind n a.self.now.key.program (sizes_of a.self.now.key));
}

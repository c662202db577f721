use Rattle.ruu_words.specs.Kinds.{ReadsLink}
use Rattle.station.proofs.call.Call.read_link.Given as goal

abbrev pub ghosts-load : goal.ghosts-load
ghosts-load g a = record { kind = λ n P C. ReadsLink P C a.about.0 a.about.1 a.about.2 n }

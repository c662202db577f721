use Rattle.ruu_words.specs.Kinds.{ReadsInfo}
use Rattle.station.proofs.call.Call.read_info.Given as goal

abbrev pub ghosts-load : goal.ghosts-load
ghosts-load g a = record { kind = λ n P C. ReadsInfo P C a.about n }

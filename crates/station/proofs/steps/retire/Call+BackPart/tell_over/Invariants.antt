use Rattle.inorder.specs.declared.history.Refusal.TheVariants.{Over}
use Rattle.ruu_words.specs.Kinds.{Tells}
use Rattle.station.proofs.steps.retire.Call+BackPart.tell_over.Given as goal

abbrev pub ghosts-load : goal.ghosts-load
ghosts-load a = record { kind = λ n P C. Tells P C Over }

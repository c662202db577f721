use Rattle.ruu_words.specs.declared.rule.Stage.TheVariants.{FirstOperand}
use Rattle.ruu_words.specs.Kinds.{Drafts}
use Rattle.station.specs.Letting.{draft_of}
use Rattle.station.proofs.steps.dispatch.Call+FrontPart.store_first.Given as goal

abbrev pub ghosts-store : goal.ghosts-store
ghosts-store a = record { kind = λ n P C. Drafts P C (draft_of FirstOperand a.about) }

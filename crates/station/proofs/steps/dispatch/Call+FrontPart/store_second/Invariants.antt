use Rattle.ruu_words.specs.declared.rule.Stage.TheVariants.{BothOperands}
use Rattle.ruu_words.specs.Kinds.{Drafts}
use Rattle.station.specs.Letting.{draft_of}
use Rattle.station.proofs.steps.dispatch.Call+FrontPart.store_second.Given as goal

abbrev pub ghosts-store : goal.ghosts-store
ghosts-store a = record { kind = λ n P C. Drafts P C (draft_of BothOperands a.about) }

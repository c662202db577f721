-- Turns lead to units that legal steps reach.
use Rattle.std.proofs.Common.{List, [], ◌∷◌, refl, sym, subst}
use Rattle.instructions.specs.Programs.{Program}
use Rattle.inorder.specs.Moves.{IsReached, Leads}
use Rattle.inorder.specs.declared.history.Step.{Step}
use Rattle.inorder.specs.Unit.{Sizes, UpdateUnit}
use Rattle.inorder.proofs.OneCaller.Sequences.{reach_on}
use Rattle.one_thread.specs.declared.bench.Turn.{Turn}
use Rattle.one_thread.specs.declared.bench.Turn.TheVariants.{Halved, Let, Loaded, Over, Ran, Recovered, Retired}
use Rattle.one_thread.specs.Turns.{Before, Does, Now, Nowhere}
use Rattle.chart.specs.Traced.{AreTurns, Passed, unit_behind}

module _ (P : Program) (C : Sizes) (U V : UpdateUnit) (r : IsReached P C U) where
  by_steps : (steps : List Step) → Leads P C 0 U steps V → IsReached P C V
  by_steps steps l = reach_on P C 0 U steps V r l

  by_turn : (answer : Turn) → Does P C U V answer → IsReached P C V
  by_turn (Recovered age) d = by_steps _ d.leads
  by_turn Let d = by_steps _ d.leads
  by_turn (Ran age) d = by_steps _ d.leads
  by_turn (Loaded age) d = by_steps _ d.leads
  by_turn Halved d = by_steps _ d.retires.leads
  by_turn Retired d = by_steps _ d.leads
  by_turn (Over c) (Before stopped same) = subst (IsReached P C) (sym same) r
  by_turn (Over c) (Now d stopped) = by_steps _ d.leads
  by_turn (Over c) (Nowhere bad nowhere same) = subst (IsReached P C) (sym same) r

pub by_turns : (P : Program) (C : Sizes) (turns : List Passed) → AreTurns P C turns → IsReached P C (unit_behind turns)
by_turns P C [] a = record { history = []; allowed = tt; is = refl; never = refl }
by_turns P C (t ∷ ts) a = by_turn P C (unit_behind ts) t.unit (by_turns P C ts a.0) t.answer a.1

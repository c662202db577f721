-- A turn does not speculate.
use Rattle.std.proofs.Common.{◌≡◌, ◌∷◌, ◌++◌, [], length, sym, subst}
use Rattle.instructions.specs.Programs.{Program}
use Rattle.instructions.specs.declared.stop.Stop.{Stop}
use Rattle.inorder.specs.declared.history.Act.TheVariants.{Claim, Finish, Load, Mend, Retire}
use Rattle.inorder.specs.declared.history.Step.TheVariants.{Let as LetStep, On}
use Rattle.inorder.specs.Moves.{IsDeliver, IsLink, IsSquash}
use Rattle.inorder.specs.Plain.{IsPlain, IsPlainlyReached, StaysPlain}
use Rattle.inorder.specs.Unit.{Sizes, UpdateUnit}
use Rattle.inorder.proofs.OneCaller.Sequences.{all_more, all_weaker, deliver_plain, link_plain, plain_on, squash_plain}
use Rattle.one_thread.specs.declared.bench.Turn.{Turn}
use Rattle.one_thread.specs.declared.bench.Turn.TheVariants.{Halved, Let, Loaded, Over, Ran, Recovered, Retired}
use Rattle.one_thread.specs.Turns.{Before, Does, EndsHere, Now, Nowhere, Retires}

module _ (P : Program) (C : Sizes) (U V : UpdateUnit) where
  retires_plain : Retires P C U V → StaysPlain P C U V
  retires_plain d = plain_on P C 0 U (On (length d.ts) (Retire 0) ∷ []) V d.leads (tt, tt)

  same_plain : V ≡ U → StaysPlain P C U V
  same_plain same r = subst (IsPlainlyReached P C) (sym same) r

  ends_plain : (c : Stop) → EndsHere P C U V c → StaysPlain P C U V
  ends_plain c (Before stopped same) = same_plain same
  ends_plain c (Now retires stopped) = retires_plain retires
  ends_plain c (Nowhere bad nowhere same) = same_plain same

  pub does_plain : (answer : Turn) → Does P C U V answer → StaysPlain P C U V
  does_plain (Recovered age) d =
      plain_on P C 0 U (On (length d.ts) Mend ∷ d.squashes) V d.leads (tt, all_weaker IsSquash IsPlain squash_plain d.squashes d.are)
  does_plain Let d =
      let step = LetStep d.index d.predicted d.first d.second ∷ [] in
      plain_on P C 0 U (d.links ++ step) V d.leads (all_more IsPlain d.links step (all_weaker IsLink IsPlain link_plain d.links d.are) (tt, tt))
  does_plain (Ran age) d =
      let steps = On (length d.ts) Finish ∷ On (length d.ts) Claim ∷ [] in
      plain_on P C 0 U (d.delivers ++ steps) V d.leads (all_more IsPlain d.delivers steps (all_weaker IsDeliver IsPlain deliver_plain d.delivers d.are) (tt, (tt, tt)))
  does_plain (Loaded age) d =
      let steps = On (length d.ts) Load ∷ [] in
      plain_on P C 0 U (d.delivers ++ steps) V d.leads (all_more IsPlain d.delivers steps (all_weaker IsDeliver IsPlain deliver_plain d.delivers d.are) (tt, tt))
  does_plain Halved d = retires_plain d.retires
  does_plain Retired d = retires_plain d
  does_plain (Over c) d = ends_plain c d

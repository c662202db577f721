-- What a turn does to the positions of the live tenants.
use Rattle.std.proofs.Common.{ℕ, ◌≤◌, List, [], ◌∷◌, ◌++◌, length, refl, sym, ap, ◌∙◌, subst, arith}
use Rattle.instructions.specs.Programs.{Program}
use Rattle.inorder.specs.declared.history.Act.TheVariants.{Claim, Finish, Load, Mend, Retire, Speculate}
use Rattle.inorder.specs.declared.history.Step.{Step}
use Rattle.inorder.specs.declared.history.Step.TheVariants.{Let as LetStep, On}
use Rattle.inorder.specs.declared.history.Act.TheVariants as act
use Rattle.inorder.specs.declared.history.Step.TheVariants as step
use Rattle.inorder.specs.Steps.{new_tenant}
use Rattle.inorder.specs.Tenants.{Tenant}
use Rattle.inorder.specs.Unit.{Sizes, UpdateUnit}
use Rattle.one_thread.specs.declared.bench.Turn.{Turn}
use Rattle.one_thread.specs.declared.bench.Turn.TheVariants.{Halved, Let, Loaded, Over, Ran, Recovered, Retired}
use Rattle.one_thread.specs.Turns.{Before, Does, Lets, LoadsOne, Now, Nowhere, Recovers, Retires, Runs}
use Rattle.inorder.specs.Moves.{IsDeliver, IsLink, run_on}
use Rattle.inorder.proofs.OneCaller.Sequences.{all_more, all_weaker}
use Rattle.chart.proofs.LivePositions.{Fewer, IsQuiet, OneLess, OneMore, Stay, all_stand, mend_keeps, positions_live, quiet_after, quiet_run, retire_once, squash_run}

deliver_is_quiet : (s : Step) → IsDeliver s → IsQuiet s
deliver_is_quiet (On p (act.Deliver k)) h = tt
deliver_is_quiet (LetStep i p f g) h = absurd h
deliver_is_quiet step.Renew h = absurd h
deliver_is_quiet (On p act.Squash) h = absurd h
deliver_is_quiet (On p (act.Link k)) h = absurd h
deliver_is_quiet (On p Claim) h = absurd h
deliver_is_quiet (On p Finish) h = absurd h
deliver_is_quiet (On p Load) h = absurd h
deliver_is_quiet (On p (Retire n)) h = absurd h
deliver_is_quiet (On p (Speculate s)) h = absurd h
deliver_is_quiet (On p Mend) h = absurd h

link_is_quiet : (s : Step) → IsLink s → IsQuiet s
link_is_quiet (On p (act.Link k)) h = tt
link_is_quiet (LetStep i p f g) h = absurd h
link_is_quiet step.Renew h = absurd h
link_is_quiet (On p act.Squash) h = absurd h
link_is_quiet (On p (act.Deliver k)) h = absurd h
link_is_quiet (On p Claim) h = absurd h
link_is_quiet (On p Finish) h = absurd h
link_is_quiet (On p Load) h = absurd h
link_is_quiet (On p (Retire n)) h = absurd h
link_is_quiet (On p (Speculate s)) h = absurd h
link_is_quiet (On p Mend) h = absurd h

module _ (P : Program) (C : Sizes) (U V : UpdateUnit) where
  pub runs : {age : ℕ} → Runs P C age U V → Stay U.tenants V.tenants
  runs r =
      let steps : List Step = On (length r.ts) Finish ∷ On (length r.ts) Claim ∷ [] in
      let quiet = all_more IsQuiet r.delivers steps (all_weaker IsDeliver IsQuiet deliver_is_quiet r.delivers r.are) (tt, (tt, tt)) in
      subst (λ W. Stay U.tenants W.tenants) r.leads.is (quiet_run P C 0 U (r.delivers ++ steps) quiet r.leads.may)

  pub loads : {age : ℕ} → LoadsOne P C age U V → Stay U.tenants V.tenants
  loads r =
      let steps : List Step = On (length r.ts) Load ∷ [] in
      let quiet = all_more IsQuiet r.delivers steps (all_weaker IsDeliver IsQuiet deliver_is_quiet r.delivers r.are) (tt, tt) in
      subst (λ W. Stay U.tenants W.tenants) r.leads.is (quiet_run P C 0 U (r.delivers ++ steps) quiet r.leads.may)

  pub lets : Lets P C U V → OneMore U.tenants V.tenants
  lets l =
      let t : Tenant = new_tenant P C U l.index l.predicted l.first l.second in
      let steps : List Step = LetStep l.index l.predicted l.first l.second ∷ [] in
      let quiet = all_weaker IsLink IsQuiet link_is_quiet l.links l.are in
      let linked = quiet_after P C 0 U l.links steps quiet l.leads.may in
      subst (λ W. OneMore U.tenants W.tenants) l.leads.is
      (record { positions = linked.positions ∙ positions_live t U.tenants refl; count = linked.count })

  pub retires : Retires P C U V → OneLess U.tenants V.tenants
  retires r = subst (λ W. OneLess U.tenants W.tenants) r.leads.is (retire_once P C 0 U (length r.ts) 0 r.leads.may.1)

  pub recovers : {age : ℕ} → Recovers P C age U V → Fewer U.tenants V.tenants
  recovers r =
      let fewer = squash_run P C 0 U r.squashes r.are r.leads.may.0 in
      let mended = quiet_after P C 0 U (On (length r.ts) Mend ∷ []) r.squashes (tt, tt) r.leads.may in
      subst (λ W. Fewer U.tenants W.tenants) r.leads.is
      (record {
        gone = fewer.gone;
        left = all_stand fewer.gone (mend_keeps P C 0 (run_on P C 0 U r.squashes) (length r.ts) r.leads.may.1) fewer.left;
        positions = fewer.positions ∙ ap (λ l. l ++ fewer.gone) (sym mended.positions);
        count = mended.count ∙ fewer.count;
      })

  -- nobody is ever forgotten
  pub grows : (answer : Turn) → Does P C U V answer → length U.tenants ≤ length V.tenants
  grows (Recovered age) d = let n = (recovers d).count in omega (arith, n)
  grows Let d = let n = (lets d).count in omega (arith, n)
  grows (Ran age) d = let n = (runs d).count in omega (arith, n)
  grows (Loaded age) d = let n = (loads d).count in omega (arith, n)
  grows Halved d = let n = (retires d.retires).count in omega (arith, n)
  grows Retired d = let n = (retires d).count in omega (arith, n)
  grows (Over c) (Before stopped same) = let n = ap (λ W. length W.tenants) same in omega (arith, n)
  grows (Over c) (Now r stopped) = let n = (retires r).count in omega (arith, n)
  grows (Over c) (Nowhere bad nowhere same) = let n = ap (λ W. length W.tenants) same in omega (arith, n)

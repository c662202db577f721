-- Wherever links and deliveries stand, the units that histories of the same named steps reach differ in their sources alone;
-- so where one of them has made each delivery that is due, and refuses a step, each of them refuses it.
use Rattle.std.proofs.Common.{◌≡◌, List, [], ◌∷◌, ◌++◌, refl, sym, subst, ⊎_elim}
use Rattle.instructions.specs.Programs.{Program}
use Rattle.inorder.specs.Legal.{Allowed, AreAllowed, Taken, applied, reached}
use Rattle.inorder.specs.Unit.{Sizes}
use Rattle.inorder.proofs.Kept.{sound}
use Rattle.replay.specs.declared.step.Step.{Step}
use Rattle.replay.specs.Placing.{AreAmong, EachRefusalIsFree}
use Rattle.replay.specs.Verdicts.{IsNamed, turned}
use Rattle.replay.proofs.InBoth.{ArePair, silent_alone, step_in_both, steps_in_both, twins_back, twins_both, twins_self}
use Rattle.replay.proofs.Quiet.{delivered}
use Rattle.replay.proofs.SameShape.{AreTwins}

module _ (P : Program) (C : Sizes) where
  -- a history without its last links and deliveries
  record IsPeeled (s : Step) (ss : List Step) (history : List Taken) : Type 0 where
    pub last : Taken
    pub before : List Taken
    pub allowed : AreAllowed P C before
    pub among : AreAmong ss before
    pub named : IsNamed s last.step
    pub may : Allowed P C (reached P C before) 0 last.step
    pub leads : AreTwins (applied P C (reached P C before) 0 last.step) (reached P C history)

  peel : (s : Step) (ss : List Step) (history : List Taken) → AreAllowed P C history → AreAmong (s ∷ ss) history →
      IsPeeled s ss history
  peel s ss [] allowed among = absurd among
  peel s ss (t ∷ ts) allowed among =
      ⊎_elim
      (λ a. record {
        last = t;
        before = ts;
        allowed = allowed.0;
        among = a.1;
        named = a.0.0;
        may = subst (λ n. Allowed P C (reached P C ts) n t.step) a.0.1 allowed.1;
        leads =
            subst (λ n. AreTwins (applied P C (reached P C ts) 0 t.step) (applied P C (reached P C ts) n t.step)) (sym a.0.1)
            (twins_self _);
      })
      (λ a.
      let rest = peel s ss ts allowed.0 a.1 in
      record {
        last = rest.last;
        before = rest.before;
        allowed = rest.allowed;
        among = rest.among;
        named = rest.named;
        may = rest.may;
        leads = twins_both _ _ _ rest.leads (silent_alone P C (reached P C ts) t.by t.step a.0);
      })
      among

  nothing : (history : List Taken) → AreAmong [] history → AreTwins (reached P C []) (reached P C history)
  nothing [] among = twins_self _
  nothing (t ∷ ts) among = twins_both _ _ _ (nothing ts among.1) (silent_alone P C (reached P C ts) t.by t.step among.0)

  pair : (one other : List Taken) → AreAllowed P C one → AreAllowed P C other →
      AreTwins (reached P C one) (reached P C other) → ArePair P (reached P C one) (reached P C other)
  pair one other a b w = record { twins = w; left = sound P C one a; right = sound P C other b }

  -- the units of two placings
  pub same_units : (said : List Step) (one other : List Taken) → AreAllowed P C one → AreAllowed P C other →
      AreAmong said one → AreAmong said other → AreTwins (reached P C one) (reached P C other)
  same_units [] [] other a b c d = nothing other d
  same_units (s ∷ ss) [] other a b c d = absurd c
  same_units [] (t ∷ ts) other a b c d =
      twins_both _ _ _ (twins_back _ _ (silent_alone P C (reached P C ts) t.by t.step c.0)) (same_units [] ts other a.0 b c.1 d)
  same_units (s ∷ ss) (t ∷ ts) other a b c d =
      ⊎_elim
      (λ e.
      let p = peel s ss other b d in
      let w = same_units ss ts p.before a.0 p.allowed e.1 p.among in
      let may = subst (λ n. Allowed P C (reached P C ts) n t.step) e.0.1 a.1 in
      let both = steps_in_both P C (reached P C ts) (reached P C p.before) s t.step p.last.step (pair ts p.before a.0 p.allowed w) e.0.0
      p.named may p.may in
      subst (λ n. AreTwins (applied P C (reached P C ts) n t.step) (reached P C other)) (sym e.0.1)
      (twins_both _ _ _ both p.leads))
      (λ e.
      twins_both _ _ _ (twins_back _ _ (silent_alone P C (reached P C ts) t.by t.step e.0))
      (same_units (s ∷ ss) ts other a.0 b e.1 d))
      c

turned_more : (ss done : List Step) (s : Step) → turned (ss ++ s ∷ []) done ≡ s ∷ turned ss done
turned_more [] done s = refl
turned_more (x ∷ ss) done s = turned_more ss (x ∷ done) s

pub refused_freely : EachRefusalIsFree
refused_freely P C before step one other mine quiet spoken forbidden placed =
    let said = turned before [] in
    let among = subst (λ ss. AreAmong ss other) (turned_more before [] step) placed.among in
    let p = peel P C step said other placed.allowed among in
    let w = same_units P C said p.before one p.allowed mine.allowed p.among mine.among in
    forbidden p.last.step p.named
    (step_in_both P C (reached P C p.before) (reached P C one) step p.last.step (pair P C p.before one p.allowed mine.allowed w)
    (delivered P C one mine.allowed quiet) spoken p.named p.may)

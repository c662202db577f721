-- More steps of one caller, and what they keep.
use Rattle.std.proofs.Common.{◌≡◌, ℕ, suc, List, [], ◌∷◌, ◌++◌, length, refl, sym, ap, ◌∙◌, subst}
use Rattle.std.specs.List.{AllByRecursion}
use Rattle.instructions.specs.Programs.{Program}
use Rattle.inorder.specs.declared.history.Act.TheVariants.{Claim, Deliver, Finish, Link, Load, Mend, Retire, Speculate, Squash}
use Rattle.inorder.specs.declared.history.Step.{Step}
use Rattle.inorder.specs.declared.history.Step.TheVariants.{Let, On, Renew}
use Rattle.inorder.specs.Committed.{committed}
use Rattle.inorder.specs.Laws.{IsNoRetire}
use Rattle.inorder.specs.Legal.{Allowed, AreAllowed, Taken, applied, changed, reached}
use Rattle.inorder.specs.Unit.{Sizes, UpdateUnit, newest_of, older, recent, younger}
use Rattle.inorder.proofs.Basics.{split_at}
use Rattle.inorder.proofs.Commits.{by_others}
use Rattle.inorder.proofs.Grows.{same_length}
use Rattle.inorder.proofs.Kept.{kept, parts, sound}
use Rattle.inorder.proofs.Recent.{newest_all}
use Rattle.inorder.proofs.Sound.{IsSound}
use Rattle.inorder.proofs.Stations.{Stands, stands}
use Rattle.inorder.specs.Moves.{IsDeliver, IsLink, IsReached, IsSquash, Leads, MayRun, MayTake, run_on}
use Rattle.inorder.specs.Plain.{ArePlain, IsPlain, StaysPlain, WasPlain}

-- a step that may be taken is allowed
pub allowed_of : (P : Program) (C : Sizes) (U : UpdateUnit) (by : ℕ) (s : Step) → MayTake P C U by s → Allowed P C U by s
allowed_of P C U by (Let index predicted first second) m = m
allowed_of P C U by (On p act) m = m
allowed_of P C U by Renew m = absurd m

pub run_more : (P : Program) (C : Sizes) (by : ℕ) (U : UpdateUnit) (more ss : List Step) → run_on P C by U (more ++ ss) ≡ run_on P C by (run_on P C by U ss) more
run_more P C by U [] ss = refl
run_more P C by U (s ∷ more) ss = ap (λ V. applied P C V by s) (run_more P C by U more ss)

pub may_more : (P : Program) (C : Sizes) (by : ℕ) (U : UpdateUnit) (more ss : List Step) → MayRun P C by U ss → MayRun P C by (run_on P C by U ss) more → MayRun P C by U (more ++ ss)
may_more P C by U [] ss a b = a
may_more P C by U (s ∷ more) ss a b =
    (may_more P C by U more ss a b.0, subst (λ V. MayTake P C V by s) (sym (run_more P C by U more ss)) b.1)

-- one sequence after another
pub leads_more : (P : Program) (C : Sizes) (by : ℕ) (U V W : UpdateUnit) (more ss : List Step) → Leads P C by U ss V → Leads P C by V more W → Leads P C by U (more ++ ss) W
leads_more P C by U V W more ss a b =
    record {
      may = may_more P C by U more ss a.may (subst (λ X. MayRun P C by X more) (sym a.is) b.may);
      is = run_more P C by U more ss ∙ ap (λ X. run_on P C by X more) a.is ∙ b.is;
    }

-- one step
pub leads_once : (P : Program) (C : Sizes) (by : ℕ) (U V : UpdateUnit) (s : Step) → MayTake P C U by s → applied P C U by s ≡ V → Leads P C by U (s ∷ []) V
leads_once P C by U V s a e = record { may = (tt, a); is = e }

pub leads_nowhere : (P : Program) (C : Sizes) (by : ℕ) (U : UpdateUnit) → Leads P C by U [] U
leads_nowhere P C by U = record { may = tt; is = refl }

pub all_more : (Q : Step → Type 0) (more ss : List Step) → AllByRecursion Q more → AllByRecursion Q ss → AllByRecursion Q (more ++ ss)
all_more Q [] ss a b = b
all_more Q (s ∷ more) ss a b = (a.0, all_more Q more ss a.1 b)

pub all_weaker : (Q R : Step → Type 0) → ((s : Step) → Q s → R s) → (ss : List Step) → AllByRecursion Q ss → AllByRecursion R ss
all_weaker Q R w [] a = tt
all_weaker Q R w (s ∷ ss) a = (w s a.0, all_weaker Q R w ss a.1)

-- A history that they lengthen

abbrev pub taken : ℕ → List Step → List Taken
taken by [] = []
taken by (s ∷ ss) = record { by = by; step = s } ∷ taken by ss

reached_more : (P : Program) (C : Sizes) (by : ℕ) (more : List Step) (h : List Taken) → reached P C (taken by more ++ h) ≡ run_on P C by (reached P C h) more
reached_more P C by [] h = refl
reached_more P C by (s ∷ more) h = ap (λ V. applied P C V by s) (reached_more P C by more h)

allowed_more : (P : Program) (C : Sizes) (by : ℕ) (more : List Step) (h : List Taken) → AreAllowed P C h → MayRun P C by (reached P C h) more → AreAllowed P C (taken by more ++ h)
allowed_more P C by [] h a b = a
allowed_more P C by (s ∷ more) h a b =
    (allowed_more P C by more h a b.0, allowed_of P C (reached P C (taken by more ++ h)) by s (subst (λ V. MayTake P C V by s) (sym (reached_more P C by more h)) b.1))

-- without a renewal all tenants stay recent
fresh_once : (P : Program) (C : Sizes) (by : ℕ) (U : UpdateUnit) (s : Step) → MayTake P C U by s → U.fresh ≡ length U.tenants → (applied P C U by s).fresh ≡ length (applied P C U by s).tenants
fresh_once P C by U (Let index predicted first second) m same = ap suc same
fresh_once P C by U (On p act) m same =
    same ∙ ap (λ z. length z) (split_at U.tenants p m.tenant m.is)
    ∙ same_length m.tenant (changed P by act m.tenant (older U.tenants p)) (older U.tenants p) (younger U.tenants p)
    ∙ sym (ap (λ z. length z) (parts P U.tenants by p act m.tenant m.is))
fresh_once P C by U Renew m same = absurd m

fresh_more : (P : Program) (C : Sizes) (by : ℕ) (U : UpdateUnit) (ss : List Step) → MayRun P C by U ss → U.fresh ≡ length U.tenants → (run_on P C by U ss).fresh ≡ length (run_on P C by U ss).tenants
fresh_more P C by U [] m same = same
fresh_more P C by U (s ∷ ss) m same = fresh_once P C by (run_on P C by U ss) s m.1 (fresh_more P C by U ss m.0 same)

pub reach_on : (P : Program) (C : Sizes) (by : ℕ) (U : UpdateUnit) (steps : List Step) (V : UpdateUnit) → IsReached P C U → Leads P C by U steps V → IsReached P C V
reach_on P C by U steps V r l =
    record {
      history = taken by steps ++ r.history;
      allowed = allowed_more P C by steps r.history r.allowed (subst (λ W. MayRun P C by W steps) (sym r.is) l.may);
      is = reached_more P C by steps r.history ∙ ap (λ W. run_on P C by W steps) r.is ∙ l.is;
      never = subst (λ (W : UpdateUnit). W.fresh ≡ length W.tenants) l.is (fresh_more P C by U steps l.may r.never);
    }

pub sound_of : (P : Program) (C : Sizes) (U : UpdateUnit) → IsReached P C U → IsSound P U.tenants
sound_of P C U r = subst (λ V. IsSound P V.tenants) r.is (sound P C r.history r.allowed)

pub all_recent : (P : Program) (C : Sizes) (U : UpdateUnit) → IsReached P C U → recent U ≡ U.tenants
all_recent P C U r = ap (λ n. newest_of n U.tenants) r.never ∙ newest_all U.tenants

pub stands_of : (P : Program) (C : Sizes) (U : UpdateUnit) → IsReached P C U → Stands C U.tenants
stands_of P C U r =
    subst (Stands C) (all_recent P C U r)
    (subst (λ V. Stands C (recent V)) r.is (stands P C r.history r.allowed))

-- They keep a unit sound, and steps that retire nobody commit nothing

pub sound_on : (P : Program) (C : Sizes) (by : ℕ) (U : UpdateUnit) (steps : List Step) → MayRun P C by U steps → IsSound P U.tenants → IsSound P (run_on P C by U steps).tenants
sound_on P C by U [] m s = s
sound_on P C by U (x ∷ xs) m s = kept P C (run_on P C by U xs) by x (allowed_of P C (run_on P C by U xs) by x m.1) (sound_on P C by U xs m.0 s)

commits_nothing : (P : Program) (C : Sizes) (by : ℕ) (U : UpdateUnit) (steps : List Step) → MayRun P C by U steps → IsSound P U.tenants → AllByRecursion IsNoRetire steps →
    committed P (run_on P C by U steps).tenants ≡ committed P U.tenants
commits_nothing P C by U [] m s q = refl
commits_nothing P C by U (x ∷ xs) m s q =
    by_others P C (run_on P C by U xs) by x (sound_on P C by U xs m.0 s) q.0 (allowed_of P C (run_on P C by U xs) by x m.1) ∙ commits_nothing P C by U xs m.0 s q.1

pub committed_on : (P : Program) (C : Sizes) (by : ℕ) (U : UpdateUnit) (steps : List Step) (V : UpdateUnit) → Leads P C by U steps V → IsSound P U.tenants → AllByRecursion IsNoRetire steps →
    committed P V.tenants ≡ committed P U.tenants
committed_on P C by U steps V l s q = ap (λ W. committed P W.tenants) (sym l.is) ∙ commits_nothing P C by U steps l.may s q

pub squash_quiet : (s : Step) → IsSquash s → IsNoRetire s
squash_quiet (On p Squash) h = tt
squash_quiet (Let i p f g) h = absurd h
squash_quiet Renew h = absurd h
squash_quiet (On p (Link k)) h = absurd h
squash_quiet (On p (Deliver k)) h = absurd h
squash_quiet (On p Claim) h = absurd h
squash_quiet (On p Finish) h = absurd h
squash_quiet (On p Load) h = absurd h
squash_quiet (On p (Retire n)) h = absurd h
squash_quiet (On p (Speculate s)) h = absurd h
squash_quiet (On p Mend) h = absurd h

pub link_quiet : (s : Step) → IsLink s → IsNoRetire s
link_quiet (On p (Link k)) h = tt
link_quiet (Let i p f g) h = absurd h
link_quiet Renew h = absurd h
link_quiet (On p Squash) h = absurd h
link_quiet (On p (Deliver k)) h = absurd h
link_quiet (On p Claim) h = absurd h
link_quiet (On p Finish) h = absurd h
link_quiet (On p Load) h = absurd h
link_quiet (On p (Retire n)) h = absurd h
link_quiet (On p (Speculate s)) h = absurd h
link_quiet (On p Mend) h = absurd h

pub deliver_quiet : (s : Step) → IsDeliver s → IsNoRetire s
deliver_quiet (On p (Deliver k)) h = tt
deliver_quiet (Let i p f g) h = absurd h
deliver_quiet Renew h = absurd h
deliver_quiet (On p Squash) h = absurd h
deliver_quiet (On p (Link k)) h = absurd h
deliver_quiet (On p Claim) h = absurd h
deliver_quiet (On p Finish) h = absurd h
deliver_quiet (On p Load) h = absurd h
deliver_quiet (On p (Retire n)) h = absurd h
deliver_quiet (On p (Speculate s)) h = absurd h
deliver_quiet (On p Mend) h = absurd h

-- Squashes, links and deliveries do not speculate

pub squash_plain : (s : Step) → IsSquash s → IsPlain s
squash_plain (On p Squash) h = tt
squash_plain (Let i p f g) h = absurd h
squash_plain Renew h = absurd h
squash_plain (On p (Link k)) h = absurd h
squash_plain (On p (Deliver k)) h = absurd h
squash_plain (On p Claim) h = absurd h
squash_plain (On p Finish) h = absurd h
squash_plain (On p Load) h = absurd h
squash_plain (On p (Retire n)) h = absurd h
squash_plain (On p (Speculate s)) h = absurd h
squash_plain (On p Mend) h = absurd h

pub link_plain : (s : Step) → IsLink s → IsPlain s
link_plain (On p (Link k)) h = tt
link_plain (Let i p f g) h = absurd h
link_plain Renew h = absurd h
link_plain (On p Squash) h = absurd h
link_plain (On p (Deliver k)) h = absurd h
link_plain (On p Claim) h = absurd h
link_plain (On p Finish) h = absurd h
link_plain (On p Load) h = absurd h
link_plain (On p (Retire n)) h = absurd h
link_plain (On p (Speculate s)) h = absurd h
link_plain (On p Mend) h = absurd h

pub deliver_plain : (s : Step) → IsDeliver s → IsPlain s
deliver_plain (On p (Deliver k)) h = tt
deliver_plain (Let i p f g) h = absurd h
deliver_plain Renew h = absurd h
deliver_plain (On p Squash) h = absurd h
deliver_plain (On p (Link k)) h = absurd h
deliver_plain (On p Claim) h = absurd h
deliver_plain (On p Finish) h = absurd h
deliver_plain (On p Load) h = absurd h
deliver_plain (On p (Retire n)) h = absurd h
deliver_plain (On p (Speculate s)) h = absurd h
deliver_plain (On p Mend) h = absurd h

-- A unit that is reached without speculation stays so

plain_more : (by : ℕ) (more : List Step) (h : List Taken) → ArePlain more → WasPlain h → WasPlain (taken by more ++ h)
plain_more by [] h a b = b
plain_more by (s ∷ more) h a b = (a.0, plain_more by more h a.1 b)

pub plain_on : (P : Program) (C : Sizes) (by : ℕ) (U : UpdateUnit) (steps : List Step) (V : UpdateUnit) → Leads P C by U steps V → ArePlain steps → StaysPlain P C U V
unfolding reach_on
plain_on P C by U steps V l a r =
    record { reached = reach_on P C by U steps V r.reached l; plain = plain_more by steps r.reached.history a r.plain }

-- A source that comes from its creator and was not asked for yet: it can be asked for.
use Rattle.std.proofs.Common.{◌≡◌, ℕ, List, [], ◌∷◌, Some, sym, ap, ◌∙◌, subst, ⊎_elim}
use Rattle.std.specs.List.{AllByRecursion}
use Rattle.std.proofs.lemmas.Option.{same_Some}
use Rattle.instructions.specs.Programs.{Program}
use Rattle.inorder.specs.declared.history.Act.{Act}
use Rattle.inorder.specs.declared.history.Act.TheVariants.{Claim, Deliver, Finish, Link, Load, Mend, Retire, Speculate, Squash}
use Rattle.inorder.specs.declared.history.Event.{Event}
use Rattle.inorder.specs.declared.history.Event.TheVariants.{Does, Marks}
use Rattle.inorder.specs.declared.history.Mark.TheVariants.{Asked}
use Rattle.inorder.specs.declared.history.Source.{Source}
use Rattle.inorder.specs.declared.history.Source.TheVariants.{First, Second}
use Rattle.inorder.specs.declared.history.Step.{Step}
use Rattle.inorder.specs.declared.history.Step.TheVariants.{Let, On, Renew}
use Rattle.inorder.specs.History.{front}
use Rattle.inorder.specs.Callers.{IsLastAt}
use Rattle.inorder.specs.Legal.{Allowed, applied, changed}
use Rattle.inorder.specs.Steps.{linked}
use Rattle.inorder.specs.Tenants.{Tenant, on_path, operand}
use Rattle.inorder.specs.Unit.{Sizes, UpdateUnit, at, older, younger}
use Rattle.inorder.proofs.Basics.{split_at}
use Rattle.inorder.proofs.Ends.{Acted, exact}
use Rattle.inorder.proofs.Grows.{sound_mid}
use Rattle.inorder.proofs.Letting.{IsBesides}
use Rattle.inorder.proofs.Moves.{Goes, IsNoLink, came, goes}
use Rattle.inorder.proofs.Sound.{IsSound}
use Rattle.ruu_words.specs.Kinds.{IsNamed, IsTenant}
use Rattle.station.specs.Asking.{IsAsking, IsQuestion}
use Rattle.front.specs.declared.path.base_state.Base.{Base}
use Rattle.front.specs.Knows.{FrontKnows}
use Rattle.front.specs.declared.path.record.Record.{Record}
use Rattle.front.proofs.Splitting.{IsStable, KeepsEvent}
use Rattle.front.proofs.Stays.{IsQuiet, knows_stays, quiet_grows, quiet_of}
use Rattle.inorder.proofs.Recent.{old_kept}

pub record IsPending (k : Source) (r q station tag s g : ℕ) (U : UpdateUnit) : Type 0 where
  pub asks : IsTenant U r station tag (IsAsking k q)
  pub last : IsLastAt U r station
  pub creator : IsNamed U q s g
  pub creator_last : IsLastAt U q s

module _ (P : Program) (C : Sizes) (U : UpdateUnit) (by : ℕ) where
  -- the path stays
  path_at : (s : Step) → IsQuiet s → Allowed P C U by s → IsSound P U.tenants → (p : ℕ) (t t' : Tenant) → at U.tenants p ≡ Some t → at (applied P C U by s).tenants p ≡ Some t' → on_path t' ≡ on_path t
  path_at s b a ok p t t' is is' = ⊎_elim
      (λ e. ap on_path (same_Some t' t (sym is' ∙ e)))
      (λ (z : Acted P U by s (applied P C U by s).tenants p t).
      let us = U.tenants in
      let own = sound_mid P t (older us p) (younger us p) (subst (IsSound P) (split_at us p t is) ok) in
      ap on_path (same_Some t' (changed P by z.act t (older us p)) (sym is' ∙ z.now))
      ∙ (quiet_grows P by z.act (younger us p) t (older us p) (subst IsQuiet z.step b) z.may own).path)
      (exact P C U by s a p t is)

  last_at : (s : Step) → IsQuiet s → Allowed P C U by s → IsSound P U.tenants → (p x : ℕ) → IsLastAt U p x → IsLastAt (applied P C U by s) p x
  last_at (Let i pr f g) b a ok p x h = absurd b
  last_at Renew b a ok p x h = absurd b
  last_at (On r act) b a ok p x h = λ q u lt is same. let was = came P C U by r act a ok q u is in h q was.tenant lt was.is (sym was.goes.station ∙ same)

  -- where the step leaves how the source gets its value
  pub pending_stays : (s : Step) → IsQuiet s → (a : Allowed P C U by s) → (ok : IsSound P U.tenants) → (k : Source) (r q station tag x g : ℕ)
      → ((t t' : Tenant) → at U.tenants r ≡ Some t → at (applied P C U by s).tenants r ≡ Some t' → Goes by s t t' → (operand k t').way ≡ (operand k t).way)
      → IsPending k r q station tag x g U → IsPending k r q station tag x g (applied P C U by s)
  pending_stays s b a ok k r q station tag x g keeps i =
      let m = goes P C U by s a ok r i.asks.tenant i.asks.is in
      let c = goes P C U by s a ok q i.creator.tenant i.creator.is in
      record {
        asks = record {
          tenant = m.tenant;
          is = m.is;
          new = old_kept P C U by s (λ e. subst IsQuiet e b) a r ∙ i.asks.new;
          station_is = m.goes.station ∙ i.asks.station_is;
          tag_is = m.goes.tag ∙ i.asks.tag_is;
          fact = record {
            can = record { way = keeps i.asks.tenant m.tenant i.asks.is m.is m.goes ∙ i.asks.fact.can.way; creator = m.goes.creator k ∙ i.asks.fact.can.creator };
            path = path_at s b a ok r i.asks.tenant m.tenant i.asks.is m.is ∙ i.asks.fact.path;
          };
        };
        last = last_at s b a ok r station i.last;
        creator = record {
          tenant = c.tenant;
          is = c.is;
          new = old_kept P C U by s (λ e. subst IsQuiet e b) a q ∙ i.creator.new;
          station_is = c.goes.station ∙ i.creator.station_is;
          tag_is = c.goes.tag ∙ i.creator.tag_is;
          fact = tt;
        };
        creator_last = last_at s b a ok q x i.creator_last;
      }

no_link_of : (s : Step) → IsBesides s → IsNoLink s
no_link_of (Let i p f g) b = absurd b
no_link_of Renew b = absurd b
no_link_of (On p (Link k)) b = absurd b
no_link_of (On p (Deliver k)) b = tt
no_link_of (On p Claim) b = tt
no_link_of (On p Finish) b = tt
no_link_of (On p Load) b = tt
no_link_of (On p (Retire n)) b = tt
no_link_of (On p Squash) b = tt
no_link_of (On p (Speculate s)) b = absurd b
no_link_of (On p Mend) b = tt

act_of : (p q : ℕ) (a b : Act) → On p a ≡ On q b → a ≡ b
act_of p q a b e = cc e

module _ (P : Program) (C : Sizes) (r q station tag x g : ℕ) where
  pub pending_stable : (k : Source) → IsStable P C (IsPending k r q station tag x g)
  pending_stable k U by s b a ok i = pending_stays P C U by s (quiet_of s b) a ok k r q station tag x g (λ t t' is is' m. m.way (no_link_of s b) k) i

  -- the question for source 1 leaves source 2
  pub first_leaves : (p : ℕ) (events : List Event) → IsQuestion p First events → AllByRecursion (KeepsEvent P C (IsPending Second r q station tag x g)) events
  first_leaves p events e = ⊎_elim
      (λ (f : events ≡ Marks (Asked p First) ∷ Does (On p (Link First)) ∷ []). subst (AllByRecursion (KeepsEvent P C (IsPending Second r q station tag x g))) (sym f) (tt, (link, tt)))
      (λ (f : events ≡ Marks (Asked p First) ∷ Does (On p (Deliver First)) ∷ Does (On p (Link First)) ∷ []). subst (AllByRecursion (KeepsEvent P C (IsPending Second r q station tag x g))) (sym f)
      (tt, (deliver, (link, tt))))
      e
    where
      deliver : KeepsEvent P C (IsPending Second r q station tag x g) (Does (On p (Deliver First)))
      deliver U a ok i = pending_stays P C U front (On p (Deliver First)) tt a ok Second r q station tag x g (λ t t' is is' m. m.way tt Second) i

      link : KeepsEvent P C (IsPending Second r q station tag x g) (Does (On p (Link First)))
      link U a ok i = pending_stays P C U front (On p (Link First)) tt a ok Second r q station tag x g
          (λ t t' is is' m. ⊎_elim
          (λ e. ap (λ (z : Tenant). z.second.way) (same_Some t' t (sym is' ∙ e)))
          (λ (z : Acted P U front (On p (Link First)) (applied P C U front (On p (Link First))).tenants r t).
          let act : Link First ≡ z.act = act_of p z.p (Link First) z.act z.step in
          let now : t' ≡ linked (older U.tenants r) t First = same_Some t' (changed P front z.act t (older U.tenants r)) (sym is' ∙ z.now) ∙
          ap (λ y. changed P front y t (older U.tenants r)) (sym act) in
          ap (λ (z : Tenant). z.second.way) now)
          (exact P C U front (On p (Link First)) a r t is))
          i
      -- a question leaves what the front knows

pub question_leaves : (P : Program) (C : Sizes) (records : List Record) (base : Base) (p : ℕ) (k : Source) (events : List Event) →
    IsQuestion p k events → AllByRecursion (KeepsEvent P C (λ U. FrontKnows P C U records base)) events
question_leaves P C records base p k events e = ⊎_elim
    (λ (f : events ≡ Marks (Asked p k) ∷ Does (On p (Link k)) ∷ []). subst (AllByRecursion (KeepsEvent P C (λ U. FrontKnows P C U records base))) (sym f) (tt, (link, tt)))
    (λ (f : events ≡ Marks (Asked p k) ∷ Does (On p (Deliver k)) ∷ Does (On p (Link k)) ∷ []). subst (AllByRecursion (KeepsEvent P C (λ U. FrontKnows P C U records base))) (sym f)
    (tt, (deliver, (link, tt))))
    e
  where
    deliver : KeepsEvent P C (λ U. FrontKnows P C U records base) (Does (On p (Deliver k)))
    deliver U a ok i = knows_stays P C U front records base (On p (Deliver k)) tt a ok i

    link : KeepsEvent P C (λ U. FrontKnows P C U records base) (Does (On p (Link k)))
    link U a ok i = knows_stays P C U front records base (On p (Link k)) tt a ok i

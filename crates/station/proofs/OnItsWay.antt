-- The tenant of a claim on its way: open since the call began, until a refusal ends the call.
use Rattle.std.proofs.Common.{◌≡◌, ◌≢◌, ◌⊎◌, ℕ, ◌<◌, List, [], ◌∷◌, ◌++◌, map, length, Some, sym, ap, ◌∙◌, subst, ⊎_elim}
use Rattle.instructions.specs.declared.op.Half.{Half}
use Rattle.instructions.specs.Programs.{Program}
use Rattle.instructions.specs.declared.op.Kind.{Kind}
use Rattle.inorder.specs.declared.history.Act.TheVariants.{Claim as ClaimIt}
use Rattle.inorder.specs.declared.history.Entry.{Entry}
use Rattle.inorder.specs.declared.history.Event.{Event}
use Rattle.inorder.specs.declared.history.Event.TheVariants.{Does, Refuses}
use Rattle.inorder.specs.declared.history.Refusal.{Refusal}
use Rattle.inorder.specs.declared.history.Refusal.TheVariants.{Moved as HasMoved, NotOpen as IsNotOpen, Waiting as Waits}
use Rattle.inorder.specs.declared.history.Step.TheVariants.{On}
use Rattle.inorder.specs.History.{IsLegal, entry, unit_of, renewals}
use Rattle.instructions.specs.Histories.{StartsWith}
use Rattle.inorder.specs.OneHistory.{Adds}
use Rattle.inorder.specs.Replies.{Has, IsOpen}
use Rattle.inorder.specs.Tenants.{Tenant}
use Rattle.inorder.specs.Unit.{Sizes, UpdateUnit, at, older, younger}
use Rattle.inorder.proofs.Basics.{split_at}
use Rattle.inorder.proofs.Grows.{sound_mid}
use Rattle.inorder.proofs.Histories.{adds_on, unit_sound}
use Rattle.instructions.proofs.Histories.{starts_longer}
use Rattle.inorder.proofs.Sound.{IsSound}
use Rattle.ruu_words.specs.declared.rule.Draft.{Draft}
use Rattle.ruu_words.specs.declared.rule.View.{View}
use Rattle.ruu_words.specs.Fields.{state_of}
use Rattle.ruu_words.specs.Kinds.{Finds, IsNamed, IsTenant, Peeks, refuses}
use Rattle.ruu_words.specs.Telling.{Grows}
use Rattle.ruu_words.proofs.StationWords.{one_at}
use Rattle.ruu_words.proofs.Stays.{named_of, named_on, one_named, tenant_stays, with_fact}
use Rattle.station.specs.declared.answers.Claim.{Claim as Answer}
use Rattle.station.specs.declared.answers.Claim.TheVariants.{Job as Claimed, Moved, NotOpen, Waiting}
use Rattle.station.specs.Claiming.{ClaimAnswers, HasSeen, IsOpenAs, IsRefused, HasRefusal}
use Rattle.station.specs.Moments.{WasOpenOnce}
use Rattle.station.proofs.Adding.{adds_these}
use Rattle.station.proofs.ClaimFacts.{Stable}

module _ (P : Program) (C : Sizes) where
  abbrev U : List Entry → UpdateUnit
  U h = unit_of P C h

  -- a refusal that a step tells
  pub told_of : (by : ℕ) (v w : View) (Kind : List Entry → Draft → List Event → Type 0) (g : Grows P C by v w Kind) (s t : ℕ) (Fact : Tenant → Type 0) (r : ℕ → Refusal) →
      Finds (U (g.between ++ v.seen)) s t g.events Fact (refuses r) → HasRefusal P C by v.seen w.seen s t (λ p. Refuses (r p))
  told_of by v w Kind g s t Fact r f =
      let h : List Entry = g.between ++ v.seen in
      let seen : w.seen ≡ entry by (Refuses (r f.p)) ∷ h = g.is ∙ ap (λ es. map (entry by) es ++ h) f.added in
      record {
        p = f.p;
        named = subst (λ z. IsNamed (U z) f.p s t) (sym seen) (named_of f.tenant);
        adds = adds_these P C by v w Kind (Refuses (r f.p) ∷ []) g f.added;
      }

  pub its_own : (h : List Entry) → IsLegal P C h → (p : ℕ) (t : Tenant) → at (U h).tenants p ≡ Some t → Rattle.inorder.proofs.Sound.IsOwn P (older (U h).tenants p) t
  its_own h legal p t is =
      let us = (U h).tenants in
      (sound_mid P t (older us p) (younger us p) (subst (IsSound P) (split_at us p t is) (unit_sound P C h legal))).own

  pub index_inside : (h : List Entry) → IsLegal P C h → (p s g : ℕ) (d : Half) (i x : ℕ) → IsTenant (U h) p s g (IsOpenAs d i x) → i < length P.code
  index_inside h legal p s g d i x named = subst (λ z. z < length P.code) named.fact.index_is (its_own h legal p named.tenant named.is).inside

  module _ (by s g : ℕ) (old : List Entry) where
    -- the tenant on its way, which was open since the call began
    pub record Ready (Fact : Tenant → Type 0) (seen : List Entry) : Type 0 where
      pub p : ℕ
      pub named : IsTenant (U seen) p s g Fact
      pub opened : WasOpenOnce P C old seen p
      pub adds : Adds P C by old seen []

    pub has_seen : (A B : Tenant → Type 0) (seen : List Entry) → ((t : Tenant) → A t → B t) → Ready A seen → HasSeen P C seen s g B
    has_seen A B seen f r = record {
      p = r.p;
      named = with_fact B r.named (f r.named.tenant r.named.fact);
      was = record { point = r.opened.point; starts = r.opened.within.before_return; opened = r.opened.fact };
    }

    pub on_to : (A : Tenant → Type 0) → Stable A → (seen new : List Entry) → Ready A seen → Adds P C by seen new [] → Ready A new
    on_to A stable seen new r a =
        let legal : IsLegal P C (a.begins.more ++ seen) = subst (IsLegal P C) a.begins.is a.legal in
        let longer = starts_longer seen r.opened.point a.begins.more r.opened.within.before_return in
        record {
          p = r.p;
          named = subst (λ z. IsTenant (U z) r.p s g A) (sym a.begins.is) (tenant_stays P C r.p s g A stable a.begins.more seen legal (sym (ap renewals a.begins.is) ∙ a.one_table) r.named);
          opened = record {
            point = r.opened.point;
            within = record { before_return = subst (λ z. StartsWith z r.opened.point) (sym a.begins.is) longer; behind_call = r.opened.within.behind_call };
            fact = r.opened.fact;
          };
          adds = adds_on P C by old seen new [] [] r.adds a;
        }

    -- two facts of the tenant
    pub both_of : (A B D : Tenant → Type 0) (seen : List Entry) (q : ℕ) → IsLegal P C seen → ((t : Tenant) → A t → B t → D t) → Ready A seen → IsTenant (U seen) q s g B → Ready D seen
    both_of A B D seen q legal f r i =
        let here = one_named P C seen legal r.p q s g (named_of r.named) (named_of i) in
        let one : i.tenant ≡ r.named.tenant = one_at P C seen legal q i.tenant r.named.tenant i.is (ap (at (U seen).tenants) (sym here) ∙ r.named.is) in
        record {
          p = r.p;
          named = with_fact D r.named (f r.named.tenant r.named.fact (subst B one i.fact));
          opened = r.opened;
          adds = r.adds;
        }

    -- a refusal ends the call
    pub refused : (A : Tenant → Type 0) (seen new : List Entry) (r : ℕ → Event) → Ready A seen → HasRefusal P C by seen new s g r → IsRefused P C by old new s g r
    refused A seen new r x told =
        let more : List Entry = told.adds.begins.more in
        let legal : IsLegal P C (more ++ seen) = subst (IsLegal P C) told.adds.begins.is told.adds.legal in
        let still = named_on P C by x.p s g (r told.p ∷ []) seen new told.adds (named_of x.named) in
        let here = one_named P C new told.adds.legal x.p told.p s g still told.named in
        let longer = starts_longer seen x.opened.point more x.opened.within.before_return in
        record {
          p = told.p;
          named = told.named;
          opened = record {
            point = x.opened.point;
            within = record {
              before_return = subst (λ z. StartsWith z x.opened.point) (sym told.adds.begins.is) longer;
              behind_call = x.opened.within.behind_call;
            };
            fact = subst (λ q. Has (U x.opened.point) q IsOpen) here x.opened.fact;
          };
          adds = adds_on P C by old seen new [] (r told.p ∷ []) x.adds told.adds;
        }

  -- an answer, told from an earlier moment on
  longer_open : (by : ℕ) (old mid new : List Entry) (p : ℕ) → Adds P C by old mid [] → WasOpenOnce P C mid new p → WasOpenOnce P C old new p
  longer_open by old mid new p a o = record {
    point = o.point;
    within = record {
      before_return = o.within.before_return;
      behind_call = record {
        more = o.within.behind_call.more ++ a.begins.more;
        is = o.within.behind_call.is ∙
            (ap (λ z. o.within.behind_call.more ++ z) a.begins.is ∙ sym (Rattle.std.proofs.Common.append_assoc o.within.behind_call.more a.begins.more old));
      };
    };
    fact = o.fact;
  }

  pub claim_answers_on : (by : ℕ) (old mid new : List Entry) (s : ℕ) (c : Answer) → Adds P C by old mid [] → ClaimAnswers P C by mid new s c → ClaimAnswers P C by old new s c
  claim_answers_on by old mid new s (Claimed j) a r = record { station = r.station; holds = r.holds; adds = adds_on P C by old mid new [] (Does (On r.holds.p ClaimIt) ∷ []) a r.adds }
  claim_answers_on by old mid new s NotOpen a r = adds_on P C by old mid new [] (Refuses (IsNotOpen s) ∷ []) a r
  claim_answers_on by old mid new s (Waiting tag k) a r = record {
    p = r.p;
    named = r.named;
    opened = longer_open by old mid new r.p a r.opened;
    adds = adds_on P C by old mid new [] (Refuses (Waits r.p k) ∷ []) a r.adds;
  }
  claim_answers_on by old mid new s (Moved tag) a r = record {
    p = r.p;
    named = r.named;
    opened = longer_open by old mid new r.p a r.opened;
    adds = adds_on P C by old mid new [] (Refuses (HasMoved r.p) ∷ []) a r.adds;
  }

  pub peek_refused : (by : ℕ) (v w : View) (s n : ℕ) (x : Grows P C by v w (Peeks P C s n)) → state_of n ≢ 1 → ClaimAnswers P C by v.seen w.seen s NotOpen
  peek_refused by v w s n x not = ⊎_elim
      (λ here. absurd (not here.0))
      (λ other. adds_these P C by v w (Peeks P C s n) (Refuses (IsNotOpen s) ∷ []) x other.1)
      x.kind

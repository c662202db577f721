-- A question for one source leaves the question for the other.
use Rattle.std.proofs.Common.{◌≡◌, ◌≢◌, ℕ, List, [], ◌∷◌, Some, refl, sym, ap, ◌∙◌, subst, ⊎_elim}
use Rattle.std.specs.List.{AllByRecursion}
use Rattle.instructions.specs.Programs.{Program}
use Rattle.inorder.specs.declared.history.Act.{Act}
use Rattle.inorder.specs.declared.history.Act.TheVariants.{Deliver, Link}
use Rattle.inorder.specs.declared.history.Entry.{Entry}
use Rattle.inorder.specs.declared.history.Event.{Event}
use Rattle.inorder.specs.declared.history.Event.TheVariants.{Does, Marks}
use Rattle.inorder.specs.declared.history.Mark.TheVariants.{Asked}
use Rattle.inorder.specs.declared.history.Source.{Source}
use Rattle.inorder.specs.declared.history.Source.TheVariants.{First, Second}
use Rattle.inorder.specs.declared.history.Step.TheVariants.{On}
use Rattle.inorder.specs.History.{IsLegal, entry, front, unit_of}
use Rattle.inorder.specs.OneHistory.{Adds}
use Rattle.inorder.specs.Legal.{changed}
use Rattle.inorder.specs.Tenants.{Operand, Tenant, on_path, operand, with_operand}
use Rattle.inorder.specs.Unit.{Sizes, UpdateUnit, older}
use Rattle.inorder.proofs.Histories.{legal_before, unit_sound}
use Rattle.inorder.proofs.Moves.{IsActed, IsLeft, at_changed, came}
use Rattle.ruu_words.proofs.Stays.{named_stays}
use Rattle.station.specs.Asking.{IsAsking, IsQuestion, MayAsk}
use Rattle.station.specs.Following.{QuestionsLeaveOthers}
use Rattle.station.proofs.Splitting.{last_event}
use Rattle.station.proofs.Staying.{fronts_stay}
use Rattle.inorder.proofs.Recent.{old_kept}
use Rattle.station.proofs.AfterLet.{behind_last}

with_other : (k j : Source) → j ≢ k → (t : Tenant) (o : Operand) → operand j (with_operand k t o) ≡ operand j t
with_other First First ne t o = absurd (ne refl)
with_other First Second ne t o = refl
with_other Second First ne t o = refl
with_other Second Second ne t o = absurd (ne refl)

with_path : (k : Source) (t : Tenant) (o : Operand) → on_path (with_operand k t o) ≡ on_path t
with_path First t o = refl
with_path Second t o = refl

with_station : (k : Source) (t : Tenant) (o : Operand) → (with_operand k t o).station ≡ t.station
with_station First t o = refl
with_station Second t o = refl

with_tag : (k : Source) (t : Tenant) (o : Operand) → (with_operand k t o).tag ≡ t.tag
with_tag First t o = refl
with_tag Second t o = refl

asks_with : (k j : Source) → j ≢ k → (q : ℕ) (t : Tenant) (o : Operand) → IsAsking j q t → IsAsking j q (with_operand k t o)
asks_with k j ne q t o i = record {
  can = record { way = ap (λ (z : Operand). z.way) (with_other k j ne t o) ∙ i.can.way; creator = ap (λ (z : Operand). z.creator) (with_other k j ne t o) ∙ i.can.creator };
  path = with_path k t o ∙ i.path;
}

module _ (P : Program) (C : Sizes) (s g : ℕ) (j : Source) (a b : ℕ) where
  -- an act that changes source k alone
  asks_behind : (k : Source) → j ≢ k → (r : ℕ) (act : Act) (made : Tenant → List Tenant → Operand) → ((t : Tenant) (ts : List Tenant) → changed P front act t ts ≡ with_operand k t (made t ts))
      → (h : List Entry) → IsLegal P C (entry front (Does (On r act)) ∷ h) → MayAsk P C h s g j a b → MayAsk P C (entry front (Does (On r act)) ∷ h) s g j a b
  asks_behind k ne r act made form h legal m =
      let U : UpdateUnit = unit_of P C h in
      let ok = unit_sound P C h legal.0 in
      let al = legal.1.1 in
      let t : Tenant = m.asks.tenant in
      let o : Operand = made al.tenant (older U.tenants r) in
      record {
        r = m.r;
        q = m.q;
        asks = ⊎_elim
            (λ (z : IsActed P U.tenants front r act al.tenant m.r t). record {
              tenant = with_operand k t o;
              is = z.now ∙ ap (λ (y : Tenant). Some y) (form al.tenant (older U.tenants r) ∙ ap (λ (y : Tenant). with_operand k y o) (sym z.tenant));
              new = old_kept P C U front (On r act) (λ e. cc e) al m.r ∙ m.asks.new;
              station_is = with_station k t o ∙ m.asks.station_is;
              tag_is = with_tag k t o ∙ m.asks.tag_is;
              fact = asks_with k j ne m.q t o m.asks.fact;
            })
            (λ (z : IsLeft P U.tenants front r act m.r t). record {
              tenant = t;
              is = z.now;
              new = old_kept P C U front (On r act) (λ e. cc e) al m.r ∙ m.asks.new;
              station_is = m.asks.station_is;
              tag_is = m.asks.tag_is;
              fact = m.asks.fact;
            })
            (at_changed P U.tenants front r act al.tenant al.is m.r t m.asks.is);
        last = λ x u less is same. let was = came P C U front r act al ok x u is in m.last x was.tenant less was.is (sym was.goes.station ∙ same);
        creator = named_stays P C m.q a b (entry front (Does (On r act)) ∷ []) h legal refl m.creator;
        creator_last = λ x u less is same. let was = came P C U front r act al ok x u is in m.creator_last x was.tenant less was.is (sym was.goes.station ∙ same);
      }

  abbrev Leaves : Event → Type 0
  Leaves e = (h : List Entry) → IsLegal P C (entry front e ∷ h) → MayAsk P C h s g j a b → MayAsk P C (entry front e ∷ h) s g j a b

  asks_under : (es : List Event) → AllByRecursion Leaves es → (old new : List Entry) → Adds P C front old new es → MayAsk P C old s g j a b → MayAsk P C new s g j a b
  asks_under [] ks old new adds m = (fronts_stay P C old new adds).asks s g j a b m
  asks_under (e ∷ es) ks old new adds m =
      let l = last_event P C front old new e es adds in
      let there = asks_under es ks.1 old l.point l.before m in
      (fronts_stay P C (entry front e ∷ l.point) new (behind_last P C old new e es l)).asks s g j a b (ks.0 l.point (legal_before P C l.after (entry front e ∷ l.point) l.legal) there)

  question_leaves : (k : Source) → j ≢ k → (r : ℕ) (es : List Event) → IsQuestion r k es → AllByRecursion Leaves es
  question_leaves k ne r es e = ⊎_elim
      (λ (f : es ≡ Marks (Asked r k) ∷ Does (On r (Link k)) ∷ []). subst (AllByRecursion Leaves) (sym f) (mark, (link, tt)))
      (λ (f : es ≡ Marks (Asked r k) ∷ Does (On r (Deliver k)) ∷ Does (On r (Link k)) ∷ []). subst (AllByRecursion Leaves) (sym f) (mark, (deliver, (link, tt))))
      e
    where
      mark : Leaves (Marks (Asked r k))
      mark h l m = record { r = m.r; q = m.q; asks = m.asks; last = m.last; creator = m.creator; creator_last = m.creator_last }

      link : Leaves (Does (On r (Link k)))
      link h l m = asks_behind k ne r (Link k) _ (λ t ts. refl) h l m

      deliver : Leaves (Does (On r (Deliver k)))
      deliver h l m = asks_behind k ne r (Deliver k) _ (λ t ts. refl) h l m

pub questions_leave_others : QuestionsLeaveOthers
questions_leave_others P C old new station tag k from_station from_tag answer w s g j a b ne m =
    asks_under P C s g j a b w.events (question_leaves P C s g j a b k ne w.r w.events w.question) old new w.adds m

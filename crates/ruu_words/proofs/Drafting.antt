-- The stores of a let.
use Rattle.std.proofs.Common.{◌≡◌, ◌≢◌, ℕ, ◌<◌, false, cond, eqb, List, [], ◌∷◌, ◌++◌, length, Some, refl, sym, ap, ◌∙◌, subst, inl, inr, ⊎_elim, arith, ne_eqb, eq-eqb}
use Rattle.instructions.specs.Programs.{Program}
use Rattle.inorder.specs.declared.history.Entry.{Entry}
use Rattle.inorder.specs.declared.history.Event.TheVariants.{Does}
use Rattle.inorder.specs.declared.history.Source.{Source}
use Rattle.inorder.specs.declared.history.Source.TheVariants.{First, Second}
use Rattle.inorder.specs.declared.history.Step.TheVariants.{Let}
use Rattle.inorder.specs.declared.history.Supply.{Supply}
use Rattle.inorder.specs.History.{IsLegal, front, own, taken_of, unit_of}
use Rattle.inorder.specs.OperandWords.{operand_word, operand_word_of}
use Rattle.inorder.specs.Replies.{last_tag}
use Rattle.inorder.specs.StationWords.{last_of, live_word, station_word}
use Rattle.inorder.specs.Steps.{MayLet, new_tenant}
use Rattle.inorder.specs.Tenants.{Open, Tenant, operand}
use Rattle.inorder.specs.Unit.{front_half, Sizes, UpdateUnit, at, next_station, next_tag, recent}
use Rattle.inorder.proofs.Creators.{are_older, at_cases}
use Rattle.inorder.proofs.Letting.{LetStays, let_lasts}
use Rattle.inorder.proofs.Recent.{old_more}
use Rattle.inorder.proofs.Positions.{at_below, at_more}
use Rattle.inorder.proofs.Serving.{not_linked}
use Rattle.inorder.proofs.StationsShown.{stations_follow}
use Rattle.ruu_words.specs.declared.place.Place.{Place}
use Rattle.ruu_words.specs.declared.place.Place.TheVariants.{Info, Link, Operand, Station}
use Rattle.ruu_words.specs.declared.rule.Draft.{Draft}
use Rattle.ruu_words.specs.declared.rule.Draft.TheVariants.{Nothing, Of}
use Rattle.ruu_words.specs.declared.rule.Stage.TheVariants.{BothOperands, FirstOperand, Info as InfoAlone}
use Rattle.ruu_words.specs.declared.rule.View.{View}
use Rattle.ruu_words.specs.Content.{Content, IsDraft, IsInfo, IsInfoOf, IsLinkWord, IsOperand, IsOperandOf, IsStation, NamesLink, with_new}
use Rattle.ruu_words.specs.Fields.{half_of, index_of, predicted_of}
use Rattle.ruu_words.specs.Kinds.{Drafts, Lets}
use Rattle.ruu_words.specs.Plans.{Plans}
use Rattle.inorder.proofs.Histories.{allowed_steps}
use Rattle.ruu_words.proofs.Stays.{front_stays}

module _ (P : Program) (C : Sizes) (index predicted : ℕ) (first second : Supply) where
  -- the front may still let it
  pub still_let : (more seen : List Entry) → IsLegal P C (more ++ seen) → own front more ≡ [] →
      MayLet P C (unit_of P C seen) index predicted first second →
      LetStays P C (unit_of P C seen) (unit_of P C (more ++ seen)) index predicted first second
  still_let more seen legal none may = front_stays P C (λ V. LetStays P C (unit_of P C seen) V index predicted first second)
      (λ U by s b a ok q. let l = let_lasts P C U by s b a ok index predicted first second q.may in record { may = l.may; new = l.new ∙ q.new; tag = l.tag ∙ q.tag })
      more seen legal none (record { may = may; new = refl; tag = refl })

-- Info words and operand words where a tenant is in front

info_else : (t : Tenant) (us : List Tenant) (x n : ℕ) → t.station ≢ x → IsInfo (last_of us x) n → IsInfo (last_of (t ∷ us) x) n
info_else t us x n ne c = subst (λ b. IsInfo (cond b (Some t) (last_of us x)) n) (sym (ne_eqb t.station x ne)) c

info_here : (t : Tenant) (us : List Tenant) (x n : ℕ) → t.station ≡ x → IsInfoOf t n → IsInfo (last_of (t ∷ us) x) n
info_here t us x n e c = subst (λ b. IsInfo (cond b (Some t) (last_of us x)) n) (sym (eq-eqb t.station x e)) c

operand_else : (t : Tenant) (us : List Tenant) (x : ℕ) (k : Source) (n : ℕ) → t.station ≢ x → IsOperand (operand_word us x k) n → IsOperand (operand_word (t ∷ us) x k) n
operand_else t us x k n ne c = subst (λ b. IsOperand (operand_word_of k (cond b (Some t) (last_of us x))) n) (sym (ne_eqb t.station x ne)) c

operand_here : (t : Tenant) (us : List Tenant) (x : ℕ) (k : Source) (n : ℕ) → t.station ≡ x → IsOperandOf (record { tag = t.tag; value = (operand k t).value }) n →
    IsOperand (operand_word (t ∷ us) x k) n
operand_here t us x k n e c = subst (λ b. IsOperand (operand_word_of k (cond b (Some t) (last_of us x))) n) (sym (eq-eqb t.station x e)) c

module _ (P : Program) (C : Sizes) (index predicted : ℕ) (first second : Supply) where
  abbrev new_in : UpdateUnit → Tenant
  new_in U = new_tenant P C U index predicted first second

  pub info_plan : (id : ℕ) (v : View) (s w : ℕ) → id ≡ front → v.draft ≡ Nothing → MayLet P C (unit_of P C v.seen) index predicted first second
      → next_tag C (recent (unit_of P C v.seen)) < last_tag → next_station C (recent (unit_of P C v.seen)) ≡ s
      → half_of w ≡ front_half P (unit_of P C v.seen).tenants → index_of w ≡ index → predicted_of w ≡ predicted
      → Plans P C id v (Info s) (λ _. w) (λ _. Drafts P C (Of InfoAlone index predicted first second))
  info_plan id v s w is_front none may tag station_is half_is index_is predicted_is between d legal same apart caller mine draft n small content =
      let h : List Entry = between ++ v.seen in
      let U : UpdateUnit = unit_of P C h in
      let now = still_let P C index predicted first second between v.seen legal (subst (λ z. own z between ≡ []) is_front apart) may in
      let was : d ≡ Nothing = sym (mine is_front) ∙ none in
      let at_s : (new_in U).station ≡ s = ap (λ (t : Tenant). t.station) now.new ∙ station_is in
      let new_tag : next_tag C (recent U) ≡ next_tag C (recent (unit_of P C v.seen)) = now.tag in
      record {
        events = [];
        draft = Of InfoAlone index predicted first second;
        mine = λ other. absurd (other is_front);
        legal = legal;
        same = refl;
        proper = (now.may, subst (λ z. z < last_tag) (sym new_tag) tag);
        here = info_here (new_in U) (recent U) s w at_s (record { half = half_is ∙ sym (ap (λ (t : Tenant). t.half) now.new); index = index_is; predicted = predicted_is });
        else = λ y k _ other c. go U at_s y k other (subst (λ (z : Draft). Content P C U z y k) was c);
        kind = record { none = refl; draft = refl };
      }
    where
      go : (U : UpdateUnit) → (new_in U).station ≡ s → (y : Place) (k : ℕ) → y ≢ Info s → Content P C U Nothing y k → Content P C U (Of InfoAlone index predicted first second) y k
      go U e (Station x) k other c = c
      go U e (Info x) k other c = info_else (new_in U) (recent U) x k (λ f. other (ap Info (sym f ∙ e))) c
      go U e (Operand x j) k other c = c
      go U e (Link p x j) k other c = c

  -- the first operand, then the second
  pub first_plan : (id : ℕ) (v : View) (s w : ℕ) → id ≡ front →
      v.draft ≡ Of InfoAlone index predicted first second →
      MayLet P C (unit_of P C v.seen) index predicted first second →
      next_station C (recent (unit_of P C v.seen)) ≡ s
      → IsOperandOf (record { tag = (new_in (unit_of P C v.seen)).tag; value = (new_in (unit_of P C v.seen)).first.value }) w
      → Plans P C id v (Operand s First) (λ _. w) (λ _. Drafts P C (Of FirstOperand index predicted first second))
  first_plan id v s w is_front was may station_is word between d legal same apart caller mine draft n small content =
      let h : List Entry = between ++ v.seen in
      let U : UpdateUnit = unit_of P C h in
      let now = still_let P C index predicted first second between v.seen legal (subst (λ z. own z between ≡ []) is_front apart) may in
      let d_is : d ≡ Of InfoAlone index predicted first second = sym (mine is_front) ∙ was in
      let at_s : (new_in U).station ≡ s = ap (λ (t : Tenant). t.station) now.new ∙ station_is in
      let proper : IsDraft P C U (Of InfoAlone index predicted first second) = subst (λ (z : Draft). IsDraft P C U z) d_is draft in
      record {
        events = [];
        draft = Of FirstOperand index predicted first second;
        mine = λ other. absurd (other is_front);
        legal = legal;
        same = refl;
        proper = proper;
        here = operand_here (new_in U) (recent U) s First w at_s (subst (λ (t : Tenant). IsOperandOf (record { tag = t.tag; value = t.first.value }) w) (sym now.new) word);
        else = λ y k _ other c. go U at_s y k other (subst (λ (z : Draft). Content P C U z y k) d_is c);
        kind = record { none = refl; draft = refl };
      }
    where
      go : (U : UpdateUnit) → (new_in U).station ≡ s → (y : Place) (k : ℕ) → y ≢ Operand s First →
          Content P C U (Of InfoAlone index predicted first second) y k →
          Content P C U (Of FirstOperand index predicted first second) y k
      go U e (Station x) k other c = c
      go U e (Info x) k other c = c
      go U e (Operand x First) k other c = operand_else (new_in U) (recent U) x First k (λ f. other (ap (λ z. Operand z First) (sym f ∙ e))) c
      go U e (Operand x Second) k other c = c
      go U e (Link p x j) k other c = c

  pub second_plan : (id : ℕ) (v : View) (s w : ℕ) → id ≡ front →
      v.draft ≡ Of FirstOperand index predicted first second →
      MayLet P C (unit_of P C v.seen) index predicted first second →
      next_station C (recent (unit_of P C v.seen)) ≡ s
      → IsOperandOf (record { tag = (new_in (unit_of P C v.seen)).tag; value = (new_in (unit_of P C v.seen)).second.value }) w
      → Plans P C id v (Operand s Second) (λ _. w) (λ _. Drafts P C (Of BothOperands index predicted first second))
  second_plan id v s w is_front was may station_is word between d legal same apart caller mine draft n small content =
      let h : List Entry = between ++ v.seen in
      let U : UpdateUnit = unit_of P C h in
      let now = still_let P C index predicted first second between v.seen legal (subst (λ z. own z between ≡ []) is_front apart) may in
      let d_is : d ≡ Of FirstOperand index predicted first second = sym (mine is_front) ∙ was in
      let at_s : (new_in U).station ≡ s = ap (λ (t : Tenant). t.station) now.new ∙ station_is in
      let proper : IsDraft P C U (Of FirstOperand index predicted first second) = subst (λ (z : Draft). IsDraft P C U z) d_is draft in
      record {
        events = [];
        draft = Of BothOperands index predicted first second;
        mine = λ other. absurd (other is_front);
        legal = legal;
        same = refl;
        proper = proper;
        here = operand_here (new_in U) (recent U) s Second w at_s (subst (λ (t : Tenant). IsOperandOf (record { tag = t.tag; value = t.second.value }) w) (sym now.new) word);
        else = λ y k _ other c. go U at_s y k other (subst (λ (z : Draft). Content P C U z y k) d_is c);
        kind = record { none = refl; draft = refl };
      }
    where
      go : (U : UpdateUnit) → (new_in U).station ≡ s → (y : Place) (k : ℕ) → y ≢ Operand s Second →
          Content P C U (Of FirstOperand index predicted first second) y k →
          Content P C U (Of BothOperands index predicted first second) y k
      go U e (Station x) k other c = c
      go U e (Info x) k other c = c
      go U e (Operand x First) k other c = c
      go U e (Operand x Second) k other c = operand_else (new_in U) (recent U) x Second k (λ f. other (ap (λ z. Operand z Second) (sym f ∙ e))) c
      go U e (Link p x j) k other c = c

-- Link words where a tenant is let

module _ (P : Program) (C : Sizes) (index predicted : ℕ) (first second : Supply) where
  link_let : (h : List Entry) → IsLegal P C h → (p c : ℕ) (k : Source) (n : ℕ) → IsLinkWord (unit_of P C h) p c k n → IsLinkWord (with_new P C (unit_of P C h) index predicted first second) p c k n
  link_let h legal p c k n l = record {
    names = ⊎_elim (λ e. inl e) (λ (z : NamesLink (unit_of P C h) p c k n). inr (record {
      q = z.q;
      r = z.r;
      producer = z.producer;
      consumer = z.consumer;
      is = record {
        producer_is = at_more t us z.q z.producer z.is.producer_is;
        consumer_is = at_more t us z.r z.consumer z.is.consumer_is;
        in_time = z.is.in_time;
        way = z.is.way;
        creator = z.is.creator;
      };
      producer_new = old_more (unit_of P C h) t z.q ∙ z.producer_new;
      consumer_new = old_more (unit_of P C h) t z.r ∙ z.consumer_new;
      at_p = z.at_p;
      at_c = z.at_c;
      word = z.word;
    })) l.names;
    stands = λ q r producer consumer i live e f. ⊎_elim
        (λ (old : at us r ≡ Some consumer). ⊎_elim
        (λ (was : at us q ≡ Some producer). l.stands q r producer consumer (record { producer_is = was; consumer_is = old; in_time = i.in_time; way = i.way; creator = i.creator }) live e f)
        (λ (new : (q ≡ length us) × (t ≡ producer)).
        let low = are_older P C (taken_of h) (allowed_steps P C h legal) r consumer k q old i.creator in
        let below = at_below us r consumer old in absurd (omega (arith, new.0)))
        (at_cases t us q producer i.producer_is))
        (λ (new : (r ≡ length us) × (t ≡ consumer)). absurd (not_linked P C (unit_of P C h) index predicted first second k i.in_time (ap (λ x. (operand k x).way) new.1 ∙ i.way)))
        (at_cases t us r consumer i.consumer_is);
  }
    where
      t : Tenant
      t = new_tenant P C (unit_of P C h) index predicted first second

      us : List Tenant
      us = (unit_of P C h).tenants

  pub let_plan : (id : ℕ) (v : View) (s w : ℕ) → id ≡ front →
      v.draft ≡ Of BothOperands index predicted first second →
      MayLet P C (unit_of P C v.seen) index predicted first second →
      next_station C (recent (unit_of P C v.seen)) ≡ s →
      IsStation (live_word (next_tag C (recent (unit_of P C v.seen))) Open) w
      → Plans P C id v (Station s) (λ _. w) (λ _. Lets P C index predicted first second)
  let_plan id v s w is_front was may station_is word between d legal same apart caller mine draft n small content =
      let h : List Entry = between ++ v.seen in
      let U : UpdateUnit = unit_of P C h in
      let now = still_let P C index predicted first second between v.seen legal (subst (λ z. own z between ≡ []) is_front apart) may in
      let d_is : d ≡ Of BothOperands index predicted first second = sym (mine is_front) ∙ was in
      let at_s : next_station C (recent U) ≡ s = ap (λ (t : Tenant). t.station) now.new ∙ station_is in
      let proper : IsDraft P C U (Of BothOperands index predicted first second) = subst (λ (z : Draft). IsDraft P C U z) d_is draft in
      record {
        events = Does (Let index predicted first second) ∷ [];
        draft = Nothing;
        mine = λ other. absurd (other is_front);
        legal = (legal, ((is_front, proper.1), proper.0));
        same = refl;
        proper = tt;
        here = subst (λ z. IsStation z w) (sym (after id h legal proper.0 s ∙ ap (λ b. cond b (live_word (next_tag C (recent U)) Open) (station_word C (recent U) s))
            (eq-eqb (next_station C (recent U)) s at_s))) (subst (λ z. IsStation (live_word z Open) w) (sym now.tag) word);
        else = λ y k _ other c. go id h legal proper.0 at_s y k other (subst (λ (z : Draft). Content P C U z y k) d_is c);
        kind = record { added = refl; draft = refl };
      }
    where
      after : (id : ℕ) (h : List Entry) → IsLegal P C h → MayLet P C (unit_of P C h) index predicted first second → (x : ℕ) →
          station_word C (recent (with_new P C (unit_of P C h) index predicted first second)) x ≡ cond (eqb (next_station C (recent (unit_of P C h))) x)
          (live_word (next_tag C (recent (unit_of P C h))) Open) (station_word C (recent (unit_of P C h)) x)
      after id h legal may x = ((stations_follow P C (taken_of h) id).moves (allowed_steps P C h legal)).after_let index predicted first second x may

      go : (id : ℕ) (h : List Entry) → IsLegal P C h →
          MayLet P C (unit_of P C h) index predicted first second →
          next_station C (recent (unit_of P C h)) ≡ s → (y : Place) (k : ℕ) → y ≢ Station s →
          Content P C (unit_of P C h) (Of BothOperands index predicted first second) y k
          → Content P C (with_new P C (unit_of P C h) index predicted first second) Nothing y k
      go id h legal may e (Station x) k other c =
          let U : UpdateUnit = unit_of P C h in
          let off : eqb (next_station C (recent U)) x ≡ false = ne_eqb (next_station C (recent U)) x (λ f. other (ap Station (sym f ∙ e))) in
          subst (λ z. IsStation z k) (sym (after id h legal may x ∙ ap (λ b. cond b (live_word (next_tag C (recent U)) Open) (station_word C (recent U) x)) off)) c
      go id h legal may e (Info x) k other c = c
      go id h legal may e (Operand x j) k other c = c
      go id h legal may e (Link p x j) k other c = link_let h legal p x j k c

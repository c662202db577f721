-- What info words and operand words say.
use Rattle.std.proofs.Common.{◌≡◌, ◌≤◌, ◌↔◌, ℕ, List, Option, Some, None, IfSome, IsNone, refl, sym, ap, ◌∙◌, subst, ⊎_elim, arith}
use Rattle.instructions.specs.Programs.{Program}
use Rattle.inorder.specs.declared.history.Entry.{Entry}
use Rattle.inorder.specs.declared.history.Source.{Source}
use Rattle.inorder.specs.declared.history.Source.TheVariants.{First}
use Rattle.inorder.specs.History.{IsLegal, taken_of, unit_of}
use Rattle.inorder.proofs.Histories.{allowed_steps}
use Rattle.inorder.proofs.Recent.{live_is_recent, recent_at}
use Rattle.inorder.proofs.Serving.{are_small}
use Rattle.inorder.proofs.Tags.{tagged}
use Rattle.inorder.specs.OperandWords.{OperandWord, operand_word, operand_word_of}
use Rattle.inorder.specs.StationWords.{last_of}
use Rattle.inorder.specs.Tenants.{Live, Tenant}
use Rattle.inorder.specs.Unit.{Sizes, at, recent}
use Rattle.ruu_words.specs.declared.rule.Draft.{Draft}
use Rattle.ruu_words.specs.declared.rule.Draft.TheVariants.{Nothing, Of}
use Rattle.ruu_words.specs.declared.rule.Stage.TheVariants.{BothOperands}
use Rattle.ruu_words.specs.declared.link.LinkWord.{LinkWord}
use Rattle.ruu_words.specs.declared.place.Place.TheVariants.{Info, Link, Operand}
use Rattle.ruu_words.specs.Content.{IsDraft, IsInfo, IsOperand, NamesLink, info_unit, operand_unit}
use Rattle.ruu_words.specs.Fields.{consumer_of, half_of, index_of, predicted_of, producer_of, tag_of, word_value}
use Rattle.ruu_words.proofs.Walking.{consumer_is, producer_is}
use Rattle.ruu_words.proofs.Reading.{operand_last}
use Rattle.station.specs.declared.answers.Seen.{Seen}
use Rattle.station.specs.declared.answers.SourceState.{SourceState}
use Rattle.station.proofs.WalkStays.{from_first}
use Rattle.station.specs.Looking.{IsLinkOf, SeesInfo, SeesLink, SeesOperand, SeesWord, ShowsInfo, ShowsOperand, IsSourceState}

shows_info : (o : Option Tenant) (n : ℕ) → IsInfo o n → ShowsInfo o (index_of n) (half_of n) (predicted_of n)
shows_info None n e = (omega arith, ap half_of e, omega arith)
shows_info (Some t) n i = (i.index, i.half, i.predicted)

shows_operand : (o : Option OperandWord) (n : ℕ) (state : SourceState) → IsSourceState n state → IsOperand o n → ShowsOperand o (tag_of n) state (word_value n)
shows_operand None n state has e = (ap tag_of e, has None e, ap word_value e)
shows_operand (Some o) n state has i = (i.tag, has (Some o) i, i.value)

module _ (P : Program) (C : Sizes) (h : List Entry) (legal : IsLegal P C h) where
  -- a live tenant is the last of its station, also beside a let in progress
  info_last : (d : Draft) → IsDraft P C (unit_of P C h) d → (p : ℕ) (t : Tenant) → at (unit_of P C h).tenants p ≡ Some t → t.standing ≡ Live →
      last_of (recent (info_unit P C (unit_of P C h) d)) t.station ≡ Some t
  info_last Nothing proper p t is live = operand_last P C h legal Nothing First proper p t is live
  info_last (Of stage index predicted first second) proper p t is live = operand_last P C h legal (Of BothOperands index predicted first second) First proper p t is live

  pub sees_info : (s n : ℕ) → SeesWord P C h (Info s) n → SeesInfo P C h s (index_of n) (half_of n) (predicted_of n)
  sees_info s n w = record {
    draft = w.draft;
    proper = w.proper;
    shows = shows_info (last_of (recent (info_unit P C (unit_of P C h) w.draft)) s) n w.content;
    its = λ p t is station live. subst (λ o. ShowsInfo o (index_of n) (half_of n) (predicted_of n)) (ap (last_of (recent (info_unit P C (unit_of P C h) w.draft))) (sym station) ∙
        info_last w.draft w.proper p t is live)
        (shows_info (last_of (recent (info_unit P C (unit_of P C h) w.draft)) s) n w.content);
  }

  pub sees_operand : (s : ℕ) (k : Source) (n : ℕ) (seen : Seen SourceState) → seen.tag ≡ tag_of n → IsSourceState n seen.state → seen.value ≡ word_value n →
      SeesWord P C h (Operand s k) n → SeesOperand P C h s k seen
  sees_operand s k n seen tag state value w =
      let all : ShowsOperand (operand_word (recent (operand_unit P C (unit_of P C h) w.draft k)) s k) seen.tag seen.state seen.value = subst
      (λ (z : ℕ × (SourceState × ℕ)). ShowsOperand (operand_word (recent (operand_unit P C (unit_of P C h) w.draft k)) s k) z.0 z.1.0 z.1.1) (λ i. (sym tag i, (seen.state, sym value i)))
      (shows_operand (operand_word (recent (operand_unit P C (unit_of P C h) w.draft k)) s k) n seen.state state w.content) in
      record {
        draft = w.draft;
        proper = w.proper;
        shows = all;
        its = λ p t is station live. subst (λ o. ShowsOperand (operand_word_of k o) seen.tag seen.state seen.value)
            (ap (last_of (recent (operand_unit P C (unit_of P C h) w.draft k))) (sym station) ∙ operand_last P C h legal w.draft k w.proper p t is live) all;
      }

-- Link words

-- What a link word names, by its tags
names_link : (P : Program) (C : Sizes) (h : List Entry) (p c n : ℕ) (k : Source) → IsLegal P C h → NamesLink (unit_of P C h) p c k n →
    IsLinkOf (unit_of P C h) p (producer_of n) c (consumer_of n) k
names_link P C h p c n k legal l =
    let small = are_small P C h legal l.r l.consumer l.is.consumer_is in
    record {
      q = l.q;
      r = l.r;
      producer = record {
        tenant = l.producer;
        is = l.is.producer_is;
        new = l.producer_new;
        station_is = l.at_p;
        tag_is = sym (producer_is l.producer.tag l.consumer.tag n (omega arith) l.word);
        fact = tt;
      };
      consumer = record {
        tenant = l.consumer;
        is = l.is.consumer_is;
        new = l.consumer_new;
        station_is = l.at_c;
        tag_is = sym (consumer_is l.producer.tag l.consumer.tag n (omega arith) l.word);
        fact = record { in_time = l.is.in_time; way = l.is.way; creator = l.is.creator };
      };
    }

module _ (P : Program) (C : Sizes) (h : List Entry) (legal : IsLegal P C h) (first : 1 ≤ C.first_tag) where
  -- The tag of a live tenant is none of a word 0
  live_tag : (r : ℕ) (t : Tenant) → at (unit_of P C h).tenants r ≡ Some t → t.standing ≡ Live → 1 ≤ t.tag
  live_tag r t is live =
      let new = live_is_recent P C h legal r t is live in
      let its = recent_at (unit_of P C h) r t is new in
      let least = from_first C (recent (unit_of P C h)) (tagged P C (taken_of h) (allowed_steps P C h legal)) its.r t its.is in
      omega arith

  pub sees_link : (p c n : ℕ) (k : Source) (seen : Option LinkWord) → IsNone seen ↔ (n ≡ 0) → IfSome seen (λ l. l.producer ≡ producer_of n) →
      IfSome seen (λ l. l.consumer ≡ consumer_of n) → SeesWord P C h (Link p c k) n → SeesLink P C h p c k seen
  sees_link p c n k None none producer consumer w =
      let zero_word : n ≡ 0 = none.0 refl in
      record {
        names = tt;
        stands = λ q r from to linked live at_p at_c.
            let word = w.content.stands q r from to linked live at_p at_c in
            let small = are_small P C h legal r to linked.consumer_is in
            let tag = consumer_is from.tag to.tag n (omega arith) word in
            let low = live_tag r to linked.consumer_is live in
            let zero_tag : consumer_of n ≡ 0 = ap consumer_of zero_word in
            absurd (omega arith);
      }
  sees_link p c n k (Some l) none producer consumer w = record {
    names = ⊎_elim
        (λ (z : n ≡ 0). let it : IsNone {T = LinkWord} (Some l) = none.1 z in absurd (cc it))
        (λ (z : NamesLink (unit_of P C h) p c k n).
        subst (λ (x : ℕ × ℕ). IsLinkOf (unit_of P C h) p x.0 c x.1 k) (λ i. (sym producer i, sym consumer i)) (names_link P C h p c n k legal z))
        w.content.names;
    stands = λ q r from to linked live at_p at_c.
        let word = w.content.stands q r from to linked live at_p at_c in
        let small = are_small P C h legal r to linked.consumer_is in
        ap Some (λ i. record {
          producer = (producer ∙ producer_is from.tag to.tag n (omega arith) word) i;
          consumer = (consumer ∙ consumer_is from.tag to.tag n (omega arith) word) i;
        });
  }

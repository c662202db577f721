-- What was read of the words, in a longer history.
use Rattle.std.proofs.Common.{◌≡◌, ◌≢◌, inl, inr, ℕ, zero, suc, ◌+◌, ◌%◌, ◌<◌, ◌≤◌, ◌⊎◌, Bool, true, false, List, Option, Some, None, sym, ◌∙◌, subst, add-one, arith}
use Rattle.inorder.specs.declared.history.Entry.{Entry}
use Rattle.inorder.specs.declared.history.Source.{Source}
use Rattle.instructions.specs.Histories.{StartsWith}
use Rattle.ruu_words.specs.declared.link.LinkWord.{LinkWord}
use Rattle.ruu_words.specs.declared.station.StationState.{StationState}
use Rattle.station.specs.declared.answers.Seen.{Seen}
use Rattle.station.specs.declared.answers.SourceState.{SourceState}
use Rattle.station.specs.declared.answers.SourceState.TheVariants.{Unset, Val, Wait}
use Rattle.station.specs.Looking.{SeesInfo, SeesLink, SeesOperand, SeesStation}
use Rattle.station.specs.Seats.{TheCore}
use Rattle.session.specs.declared.replies.Producer.{Producer}
use Rattle.session.specs.declared.replies.Info.{Info}
use Rattle.session.specs.declared.replies.Operand.{Operand}
use Rattle.session.specs.Accounts.{IsFrom, IsNotFrom, IsOfOperand, IsOperandTold, IsProducerSeen, producer_named}
use Rattle.session.specs.Replies.{IsInfoSeen, IsLinkSeen, IsLook, IsOperandSeen}
use Rattle.session.specs.declared.replies.Head.{Head}
use Rattle.session.specs.Rows.{AreLookedAt, head_with, is_free}
use Rattle.std.proofs.lemmas.Bool.{cases_eq}
use Rattle.session.proofs.Histories.{widen}
use Rattle.instructions.proofs.Histories.{starts_same}

module _ (core : TheCore) (old first last new : List Entry) (s : StartsWith first old) (t : StartsWith new last) where
  pub later_link : (p c : ℕ) (k : Source) (seen : Option LinkWord) → IsLinkSeen core first last p c k seen → IsLinkSeen core old new p c k seen
  later_link p c k seen i = widen (λ before behind. SeesLink core.program core.sizes behind p c k seen) old first last new s i t

  pub later_look : (station : ℕ) (seen : Seen StationState) → IsLook core first last station seen → IsLook core old new station seen
  later_look station seen i = widen (λ before behind. SeesStation core.program core.sizes behind station seen) old first last new s i t

  pub later_operand : (station : ℕ) (k : Source) (seen : Seen SourceState) → IsOperandSeen core first last station k seen → IsOperandSeen core old new station k seen
  later_operand station k seen i = widen (λ before behind. SeesOperand core.program core.sizes behind station k seen) old first last new s i t

  pub later_info : (station : ℕ) (info : Info) → IsInfoSeen core first last station info → IsInfoSeen core old new station info
  later_info station info i = widen (λ before behind. SeesInfo core.program core.sizes behind station info.index info.half info.predicted) old first last new s i t

  pub later_none : (p c tag : ℕ) (k : Source) → IsNotFrom core first last p c tag k → IsNotFrom core old new p c tag k
  later_none p c tag k n = record { seen = n.seen; is = later_link p c k n.seen n.is; other = n.other }

  pub later_from : (c tag : ℕ) (k : Source) (from : Producer) → IsFrom core first last c tag k from → IsFrom core old new c tag k from
  later_from c tag k from f = record { at = f.at; seen = f.seen; is = later_link f.at c k f.seen f.is; names = f.names }

  pub later_producer : (c tag : ℕ) (k : Source) (from : Option Producer) → IsProducerSeen core first last c tag k from → IsProducerSeen core old new c tag k from
  later_producer c tag k None n = λ p inside. later_none p c tag k (n p inside)
  later_producer c tag k (Some from) f = later_from c tag k from f

  pub later_awaited : (station tag : ℕ) (k : Source) (state : SourceState) (from : Option Producer) →
      IsOfOperand core first last station tag k state from → IsOfOperand core old new station tag k state from
  later_awaited station tag k Unset from e = e
  later_awaited station tag k Wait from p = later_producer station tag k from p
  later_awaited station tag k Val from e = e

  pub later_told : (station : ℕ) (k : Source) (o : Operand) → IsOperandTold core first last station k o → IsOperandTold core old new station k o
  later_told station k o told = record {
    info = later_info station o.info told.info;
    seen = later_operand station k o.seen told.seen;
    from = later_awaited station o.seen.tag k o.seen.state o.from told.from;
  }

-- Stations that were looked at from the next tenant's on, in a longer history
module _ (core : TheCore) (old last new : List Entry) (t : StartsWith new last) (tail : ℕ) where
  pub later_looks : (n : ℕ) (head : Head) → AreLookedAt core old last tail n head → AreLookedAt core old new tail n head
  later_looks zero head e = e
  later_looks (suc n) head (seen, earlier, more, look, is) =
      (seen, earlier, later_looks n earlier more, later_look core old old last new (starts_same old) t ((tail + n) % core.sizes.ring) seen look, is)

-- One more of them
pub one_more_look : (core : TheCore) (old last new : List Entry) (tail n ring : ℕ) (before after : Head) (seen : Seen StationState) (free : Bool) →
    StartsWith last old → StartsWith new last → ring ≡ core.sizes.ring → AreLookedAt core old last tail n before → IsLook core last new ((tail + n) % ring) seen →
    free ≡ is_free seen.state → after ≡ head_with before ((tail + n) % ring) free → AreLookedAt core old new tail (n + 1) after
one_more_look core old last new tail n ring before after seen free s t same all look is made =
    subst (λ k. AreLookedAt core old new tail k after) (sym (add-one n)) (
      seen,
      before,
      later_looks core old last new t tail n before all,
      later_look core old last new new s (starts_same new) ((tail + n) % core.sizes.ring) seen (subst (λ r. IsLook core last new ((tail + n) % r) seen) same look),
      made ∙ (λ i. head_with before ((tail + n) % same i) (is i)),
    )

-- One more station whose link word names nobody
pub one_more_none : (core : TheCore) (old last new : List Entry) (c tag n : ℕ) (k : Source) (seen : Option LinkWord) →
    StartsWith last old → StartsWith new last → ((p : ℕ) → p < n → IsNotFrom core old last p c tag k) → IsLinkSeen core last new n c k seen →
    producer_named seen n tag ≡ None → (p : ℕ) → p < n + 1 → IsNotFrom core old new p c tag k
one_more_none core old last new c tag n k seen s t none look other p inside = go (cases_eq p n)
  where
    go : (p ≡ n) ⊎ (p ≢ n) → IsNotFrom core old new p c tag k
    go (inl e) = subst (λ q. IsNotFrom core old new q c tag k) (sym e) (record { seen = seen; is = later_link core old last new new s (starts_same new) n c k seen look; other = other })
    go (inr ne) = let below : p < n = omega (arith, inside, ne) in later_none core old old last new (starts_same old) t p c tag k (none p below)

few_more : (h : Head) (s n : ℕ) (free : Bool) → h.free ≤ n → (head_with h s free).free ≤ n + 1
few_more h s n true few = omega (arith, few)
few_more h s n false few = omega (arith, few)

pub few_after : (h after : Head) (s n : ℕ) (free : Bool) → after ≡ head_with h s free → h.free ≤ n → after.free ≤ n + 1
few_after h after s n free is few = subst (λ (x : Head). x.free ≤ n + 1) (sym is) (few_more h s n free few)

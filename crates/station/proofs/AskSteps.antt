-- A question at its points: the call that began as v has stored the link, looks at the creator, and takes its value.
use Rattle.std.proofs.Common.{◌≡◌, ℕ, ◌<◌, List, sym, subst}
use Rattle.instructions.specs.Programs.{Program}
use Rattle.inorder.specs.declared.history.Entry.{Entry}
use Rattle.inorder.specs.declared.history.Source.{Source}
use Rattle.inorder.specs.History.{IsLegal, front}
use Rattle.inorder.specs.Replies.{last_tag}
use Rattle.inorder.specs.Unit.{Sizes}
use Rattle.ruu_words.specs.declared.rule.Draft.TheVariants.{Nothing}
use Rattle.ruu_words.specs.Fields.{state_of, word_value}
use Rattle.ruu_words.specs.Kinds.{IsMade, IsUnmade}
use Rattle.ruu_words.specs.Telling.{Grows}
use Rattle.ruu_words.proofs.Stays.{named_of, tag_small}
use Rattle.station.specs.declared.answers.Ask.TheVariants.{Delivered, Linked}
use Rattle.station.specs.Answers.{AnswersAsk}
use Rattle.station.specs.Asking.{MayAsk}
use Rattle.station.specs.Calls.{IsSameCall, LeadsTo, TakesStep, TheCall, let_place}
use Rattle.station.specs.Wakeup.{CanAnswer, Ends, Finds, HasAskedFrom, Links}
use Rattle.station.proofs.AskLinks.{IsAskedNow, asks_out}
use Rattle.station.proofs.AskLooks.{can_answer, delivered_out, linked_next, linked_out, quiet_end, quiet_mid}
use Rattle.station.proofs.Calls.{after, joined, next_kept, taken}

-- The tags of a question are small
module _ {P : Program} {C : Sizes} {seen : List Entry} {s g a b : ℕ} {k : Source} (may : MayAsk P C seen s g k a b) (legal : IsLegal P C seen) where
  pub of_small : g < last_tag
  of_small = tag_small P C seen legal may.r s g (named_of may.asks)

  pub from_small : b < last_tag
  from_small = tag_small P C seen legal may.q a b may.creator

pub record IsAskedAt (v w : TheCall) (s g : ℕ) (k : Source) (a b : ℕ) : Type 0 where
  pub by_is : v.view.by ≡ front
  pub same : IsSameCall v w
  pub asked : IsAskedNow v.core.program v.core.sizes v.view.by s g k a b v.view.seen w.view

pub behind_link : {v w : TheCall} {s g a b : ℕ} {k : Source} → TakesStep v w (λ P C. Links P C s g k) → v.view.by ≡ front → MayAsk v.core.program v.core.sizes v.view.seen s g k a b →
    IsAskedAt v w s g k a b
behind_link {v} {w} {s} {g} {a} {b} {k} step by_is may =
    record { by_is = by_is; same = step.same; asked = asks_out v.core.program v.core.sizes v.view.by s g k a b v.view w.view by_is may step.grows }

module _ {v w : TheCall} {s g a b : ℕ} {k : Source} (r : IsAskedAt v w s g k a b) where
  pub asked_from : HasAskedFrom w.core.program w.core.sizes w.view.seen s g k a b
  asked_from = after (λ z. HasAskedFrom z.0.program z.0.sizes w.view.seen s g k a b) r.same (record { r = r.asked.r; q = r.asked.q; of = r.asked.of })

  -- After the look at the creator
  module _ {x : TheCall} (n : ℕ) (look : TakesStep w x (λ P C. Finds P C s g k a b n)) where
    found : Grows v.core.program v.core.sizes v.view.by w.view x.view (Finds v.core.program v.core.sizes s g k a b n)
    found = taken r.same look

    on : IsSameCall v x
    on = joined r.same look.same

    pub draft_found : x.view.draft ≡ Nothing
    draft_found = quiet_mid v.core.program v.core.sizes v.view.by s g k a b n v.view.seen w.view x.view r.by_is r.asked found

    pub is_linked : IsUnmade (state_of n) → LeadsTo v x (let_place v) (AnswersAsk (s, g) k (a, b) Linked)
    is_linked unmade = record {
      same = on;
      draft = draft_found;
      reply = linked_out v.core.program v.core.sizes v.view.by s g k a b n v.view.seen w.view x.view r.by_is r.asked found unmade;
      next = next_kept on (linked_next v.core.program v.core.sizes v.view.by s g k a b n v.view.seen w.view x.view r.by_is r.asked found unmade);
    }

    pub can_take : {tag value : ℕ} → IsMade (state_of n) → tag ≡ g → value ≡ word_value n → CanAnswer x.core.program x.core.sizes x.view.seen s tag k value
    can_take {tag} {value} made tag_is value_is = after (λ z. CanAnswer z.0.program z.0.sizes x.view.seen s tag k value) on
        (subst (λ (z : ℕ × ℕ). CanAnswer v.core.program v.core.sizes x.view.seen s z.0 k z.1) (λ i. (sym tag_is i, sym value_is i))
        (can_answer v.core.program v.core.sizes v.view.by s g k a b n v.view.seen w.view x.view r.by_is r.asked found made))

    -- After the exchange
    pub is_delivered : {y : TheCall} {tag : ℕ} (o m : ℕ) → IsMade (state_of n) → tag ≡ g → TakesStep x y (λ P C. Ends P C s tag k o m) →
        LeadsTo v y (let_place v) (AnswersAsk (s, g) k (a, b) Delivered)
    is_delivered {y} {tag} o m made tag_is step =
        let ends : Grows v.core.program v.core.sizes v.view.by x.view y.view (Ends v.core.program v.core.sizes s g k o m) =
        subst (λ t. Grows v.core.program v.core.sizes v.view.by x.view y.view (Ends v.core.program v.core.sizes s t k o m)) tag_is (taken on step) in
        let out = delivered_out v.core.program v.core.sizes v.view.by s g k a b n v.view.seen w.view x.view r.by_is r.asked found made o m y.view ends in
        record {
          same = joined on step.same;
          draft = quiet_end v.core.program v.core.sizes v.view.by s g k a b n v.view.seen w.view x.view r.by_is r.asked found made o m y.view ends;
          reply = out.reply;
          next = next_kept (joined on step.same) out.next;
        }

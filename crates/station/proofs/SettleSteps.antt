-- The writeback of a load at its points: the call that began as v has looked at its station by x, and exchanged its word by w.
use Rattle.std.proofs.Common.{◌≡◌, ◌≢◌, ℕ, [], refl, sym, ◌∙◌, subst}
use Rattle.inorder.specs.OneHistory.{Adds}
use Rattle.ruu_words.specs.declared.place.Place.TheVariants.{Station}
use Rattle.ruu_words.specs.declared.rule.Role.TheVariants.{Back}
use Rattle.ruu_words.specs.Fields.{tag_of, word_value}
use Rattle.ruu_words.specs.Kinds.{Settles}
use Rattle.ruu_words.specs.Telling.{Grows}
use Rattle.ruu_words.specs.Views.{IsCaller}
use Rattle.station.specs.declared.answers.Settle.TheVariants.{Settled, Stale}
use Rattle.station.specs.Answers.{AnswersSettle}
use Rattle.station.specs.Calls.{Carried, IsSameCall, MadeValue, TakesStep, TheCall, WalksOf}
use Rattle.station.specs.Carrying.{HasValueOf, HasWalked, OfTenant}
use Rattle.station.specs.Seats.{TheCore}
use Rattle.station.specs.Steps.{Sees}
use Rattle.station.specs.Waking.{IsSet, Wakes}
use Rattle.station.specs.Writeback.{CanSettle, MaySettle}
use Rattle.station.proofs.Adding.{adds_these}
use Rattle.station.proofs.Calls.{Of, before, joined, of_one, taken}
use Rattle.station.proofs.Waking.{has_woken_none, wakes_behind, wakes_looking, wakes_settled}
use Rattle.station.proofs.SettleWrites.{can_settle, settle_all, settle_made, settle_out, settle_stale, stale_after}

module _ {v x : TheCall} (s g value m : ℕ) (role : v.view.role ≡ Back) (may : MaySettle v.core.program v.core.sizes v.view.seen s g value)
    (look : TakesStep v x (λ P C. Sees P C v.view.by v.view (Station s) m)) where
  can : CanSettle v.core.program v.core.sizes x.view.seen s g (word_value m) value
  can = can_settle v.core.program v.core.sizes v.view.by s g value m v.view x.view role may look.grows

  pub may_exchange : (old new : ℕ) → tag_of old ≡ g → word_value old ≡ word_value m → word_value new ≡ value →
      CanSettle x.core.program x.core.sizes x.view.seen s (tag_of old) (word_value old) (word_value new)
  may_exchange old new tag address result =
      subst (λ (z : Of × (ℕ × (ℕ × ℕ))). CanSettle z.0.0.program z.0.0.sizes x.view.seen s z.1.0 z.1.1.0 z.1.1.1)
      (λ i. (sym (of_one v x look.same) i, (sym tag i, (sym address i, sym result i)))) can

  module _ {w : TheCall} (old n : ℕ) (tag : tag_of old ≡ g) (exchange : TakesStep x w (λ P C. Settles P C s (tag_of old) old n)) where
    took : Grows v.core.program v.core.sizes v.view.by x.view w.view (Settles v.core.program v.core.sizes s (tag_of old) old n)
    took = taken look.same exchange

    step : Grows v.core.program v.core.sizes v.view.by x.view w.view (Settles v.core.program v.core.sizes s g old n)
    step = subst (λ t. Grows v.core.program v.core.sizes v.view.by x.view w.view (Settles v.core.program v.core.sizes s t old n)) tag took

    its_role : x.view.role ≡ Back
    its_role = look.grows.role ∙ role

    its_caller : IsCaller x.view.role v.view.by
    its_caller = subst (λ r. IsCaller r v.view.by) (sym look.grows.role) look.grows.kind.caller

    looked : Adds v.core.program v.core.sizes v.view.by v.view.seen x.view.seen []
    looked = adds_these v.core.program v.core.sizes v.view.by v.view x.view (Sees v.core.program v.core.sizes v.view.by v.view (Station s) m) [] look.grows look.grows.kind.none

    same : IsSameCall v w
    same = joined look.same exchange.same

    woken : Wakes v.core.program v.core.sizes v.view.by v.view.seen w.view.seen (λ z. ⊥)
    woken = wakes_settled v.core.program v.core.sizes v.view.by v.view.by s (tag_of old) old n v.view.seen x.view w.view refl
        (wakes_looking v.core.program v.core.sizes v.view.by (Station s) m v.view x.view look.grows) took

    pub is_stale : n ≢ old → Carried v w (AnswersSettle s g Stale) (IsSet 0)
    is_stale miss = record {
      same = same;
      reply = stale_after v.core.program v.core.sizes v.view.by s g v.view.seen x.view.seen w.view.seen looked
          (settle_stale v.core.program v.core.sizes v.view.by s g (word_value m) value old n x.view w.view its_role its_caller can step miss);
      woken = has_woken_none v.core.program v.core.sizes v.view.by v.view.seen w.view.seen woken;
    }

    -- the exchange hit
    module _ (hit : n ≡ old) where
      core_is : w.core ≡ v.core
      core_is = exchange.same.core ∙ look.same.core

      pub has_made : MadeValue w (s, g) value
      has_made = subst (λ (k : TheCore). HasValueOf k.program k.sizes w.view.seen s g value) (sym core_is)
          (settle_made v.core.program v.core.sizes v.view.by s g (word_value m) value old n x.view w.view its_role its_caller can step hit)

      pub is_settled : {y : TheCall} (set : ℕ) → Carried w y (WalksOf (s, g)) (IsSet set) → Carried v y (AnswersSettle s g Settled) (IsSet set)
      is_settled {y} set walk = record {
        same = joined same walk.same;
        reply = settle_all v.core.program v.core.sizes v.view.by w.view.by s g v.view.seen x.view.seen w.view.seen y.view.seen (exchange.same.by ∙ look.same.by) looked
            (settle_out v.core.program v.core.sizes v.view.by s g (word_value m) value old n x.view w.view its_role its_caller can step hit)
            (subst (λ (k : TheCore). OfTenant k.program k.sizes w.view.seen s g (λ q. HasWalked k.program k.sizes w.view.by q w.view.seen y.view.seen)) core_is walk.reply);
        woken = wakes_behind v.core.program v.core.sizes v.view.by v.view.by set v.view.seen w.view.seen y.view.seen refl woken
            (before (λ z. Wakes z.0.program z.0.sizes z.1 w.view.seen y.view.seen (IsSet set)) same walk.woken);
      }

-- The plans of the steps of a question: the link, the look at the creator, and the exchange.
use Rattle.std.proofs.Common.{◌≡◌, ℕ, ◌==◌, List, ◌++◌, subst}
use prog.Atomic.{either}
use Rattle.instructions.specs.Programs.{Program}
use Rattle.inorder.specs.declared.history.Entry.{Entry}
use Rattle.inorder.specs.declared.history.Source.{Source}
use Rattle.inorder.specs.Callers.{CanAsk}
use Rattle.inorder.specs.History.{front, unit_of}
use Rattle.inorder.specs.Unit.{Sizes}
use Rattle.ruu_words.specs.declared.place.Place.TheVariants.{Link as LinkPlace, Operand, Station}
use Rattle.ruu_words.specs.declared.rule.Draft.TheVariants.{Nothing}
use Rattle.ruu_words.specs.declared.rule.View.{View}
use Rattle.ruu_words.specs.Content.{IsOperandOf}
use Rattle.ruu_words.specs.Fields.{pack_link}
use Rattle.ruu_words.specs.Kinds.{Answers, Asks, Questions}
use Rattle.ruu_words.proofs.Asking.{answer_plan, question_plan}
use Rattle.ruu_words.specs.Plans.{Plans}
use Rattle.ruu_words.proofs.Linking.{link_plan}
use Rattle.ruu_words.proofs.Stays.{named_of, named_stays, one_named, with_fact}
use Rattle.ruu_words.proofs.Building.{plan_as}
use Rattle.station.specs.Asking.{MayAsk}
use Rattle.station.specs.Wakeup.{CanAnswer, Ends, Finds, HasAskedFrom, Links}
use Rattle.station.specs.Writeback.{val_word, wait_word}

module _ (P : Program) (C : Sizes) where
  pub links_plan : (id : ℕ) (v : View) (s g : ℕ) (k : Source) (a b new : ℕ) → id ≡ front → v.draft ≡ Nothing → MayAsk P C v.seen s g k a b → new ≡ pack_link b g →
      Plans P C id v (LinkPlace a s k) (λ _. new) (λ _. Links P C s g k)
  links_plan id v s g k a b new is none may word between d legal same apart caller mine draft n small content =
      let h : List Entry = between ++ v.seen in
      let U = unit_of P C v.seen in
      let can = with_fact (CanAsk k may.q) may.asks may.asks.fact.can in
      let named = named_stays P C may.r s g between v.seen legal same (named_of may.asks) in
      plan_as P C id h d (LinkPlace a s k) new (Asks P C may.r k) (Links P C s g k)
      (λ d' es x r i. subst (λ z. Asks P C z k h d' es) (one_named P C h legal may.r r s g named i) x)
      (link_plan P C id v a s b g k may.r may.q new is none can may.creator may.last word between d legal same apart caller mine draft n small content)

  pub finds_plan : (id : ℕ) (v : View) (s g : ℕ) (k : Source) (a b : ℕ) → id ≡ front → v.draft ≡ Nothing → HasAskedFrom P C v.seen s g k a b →
      Plans P C id v (Station a) (λ n. n) (λ n. Finds P C s g k a b n)
  finds_plan id v s g k a b is none asked between d legal same apart caller mine draft n small content =
      let h : List Entry = between ++ v.seen in
      let U = unit_of P C v.seen in
      let r = asked.r in
      let q = asked.q in
      let named = named_stays P C r s g between v.seen legal same (named_of asked.of.asks) in
      let creator = named_stays P C q a b between v.seen legal same asked.of.creator in
      plan_as P C id h d (Station a) n (Questions P C r k q n) (Finds P C s g k a b n)
      (λ d' es x r' i q' j.
      subst (λ (z : ℕ × ℕ). Questions P C z.0 k z.1 n h d' es) (λ l. (one_named P C h legal r r' s g named i l, one_named P C h legal q q' a b creator j l)) x)
      (question_plan P C id v a b r q k is none (record { tenant = asked.of.asks.tenant; is = asked.of.asks.is; fact = asked.of.asks.fact }) asked.of.creator asked.of.creator_last between d legal same
      apart caller mine draft n small content)

  pub ends_plan : (id : ℕ) (v : View) (s g : ℕ) (k : Source) (val old new : ℕ) → id ≡ front → v.draft ≡ Nothing → IsOperandOf (wait_word g) old → IsOperandOf (val_word g val) new →
      CanAnswer P C v.seen s g k val
      → Plans P C id v (Operand s k) (λ n. either (n == old) new n) (λ n. Ends P C s g k old n)
  ends_plan id v s g k val old new is none old_is new_is can between d legal same apart caller mine draft n small content =
      let h : List Entry = between ++ v.seen in
      let U = unit_of P C v.seen in
      let r = can.r in
      let q = can.q in
      let named = named_stays P C r s g between v.seen legal same (named_of can.asks) in
      plan_as P C id h d (Operand s k) (either (n == old) new n) (Answers P C r k old n) (Ends P C s g k old n)
      (λ d' es x r' i. subst (λ z. Answers P C z k old n h d' es) (one_named P C h legal r r' s g named i) x)
      (answer_plan P C id v s g r q val old new k is none old_is new_is can.asks can.last can.made between d legal same apart caller mine draft n small content)

-- The looks of a claim: at the station, its info word and its sources.
use Rattle.std.proofs.Common.{◌≡◌, ◌≢◌, ℕ, Bool, true, List, [], ◌++◌, map, Some, Result, Ok, Err, sym, ap, ◌∙◌, subst, inl, inr, ⊎_elim}
use Rattle.instructions.specs.declared.op.Half.{Half}
use Rattle.instructions.specs.Instruction.{kind}
use Rattle.instructions.specs.Programs.{Program, instr_of}
use Rattle.inorder.specs.declared.history.Entry.{Entry}
use Rattle.inorder.specs.declared.history.Event.TheVariants.{Refuses}
use Rattle.inorder.specs.declared.history.Refusal.TheVariants.{Moved as HasMoved, Waiting as Waits}
use Rattle.inorder.specs.declared.history.Source.{Source}
use Rattle.inorder.specs.declared.history.Source.TheVariants.{First, Second}
use Rattle.inorder.specs.History.{IsLegal, entry, unit_of}
use Rattle.inorder.specs.OneHistory.{Adds}
use Rattle.inorder.specs.Replies.{IsOpen, needed}
use Rattle.inorder.specs.Tenants.{Tenant, needs}
use Rattle.inorder.specs.Unit.{Sizes, UpdateUnit, at}
use Rattle.instructions.proofs.Histories.{starts_same}
use Rattle.ruu_words.specs.declared.rule.View.{View}
use Rattle.ruu_words.specs.Fields.{half_of, index_of, predicted_of, state_of, tag_of, word_value}
use Rattle.ruu_words.specs.Kinds.{IsAny, IsClosed, IsNamed, IsTenant, Peeks, ReadsInfo, ReadsSource, Rechecks}
use Rattle.ruu_words.specs.Telling.{Grows}
use Rattle.ruu_words.proofs.Stays.{named_of, with_fact}
use Rattle.station.specs.declared.answers.Claim.{Claim as Answer}
use Rattle.station.specs.declared.answers.Claim.TheVariants.{Moved}
use Rattle.station.specs.Claiming.{ClaimAnswers, HasSeen, HasSource, IsNext, IsOpenAs, SourceAnswers, SourceIs, SourceSays}
use Rattle.station.proofs.Adding.{adds_these}
use Rattle.station.proofs.LettingOut.{adds_none}
use Rattle.station.proofs.ClaimFacts.{HasBoth, HasFirst, HasInfo, IsClaimable, any_stable, claimable_stable, first_stable, info_stable}
use Rattle.station.proofs.OnItsWay.{Ready, both_of, has_seen, on_to, refused, told_of}

module _ (P : Program) (C : Sizes) where
  abbrev U : List Entry → UpdateUnit
  U h = unit_of P C h

  -- the word of a needed source, and what follows of it
  pub source_answers : (by : ℕ) (v w : View) (s g : ℕ) (k : Source) (needed : Bool) (n : ℕ) (x : Grows P C by v w (ReadsSource P C s g k n)) (r : Result ℕ Answer) → SourceSays n g k r →
      needed ≡ true → SourceAnswers P C by v.seen w.seen s g k needed r
  source_answers by v w s g k needed n x (Ok value) says is = ⊎_elim
      (λ there.
      let f = there.2 in
      let h : List Entry = x.between ++ v.seen in
      let seen : w.seen ≡ h = x.is ∙ ap (λ es. map (entry by) es ++ h) f.added in
      let same : Some (word_value n) ≡ Some value = ap Some (sym says.2) in
      let fact : SourceIs true k value f.tenant.tenant = f.tenant.fact ∙ same in
      let named = with_fact (SourceIs needed k value) f.tenant (subst (λ b. SourceIs b k value f.tenant.tenant) (sym is) fact) in
      record { p = f.p; named = subst (λ z. IsTenant (U z) f.p s g (SourceIs needed k value)) (sym seen) named; adds = adds_these P C by v w (ReadsSource P C s g k n) [] x f.added })
      (λ other. ⊎_elim (λ waits. absurd (waits.1 says.1)) (λ moved. absurd (moved.0 says.0)) other)
      x.kind
  source_answers by v w s g k needed n x (Err refusal) says is = ⊎_elim
      (λ there. absurd (⊎_elim (λ a. a.1 there.1) (λ b. b.0 there.0) says))
      (λ other. ⊎_elim
      (λ waits. ⊎_elim
      (λ a. inl (a.2, told_of P C by v w (ReadsSource P C s g k n) x s g (λ t. Rattle.inorder.specs.Tenants.missing P t ≡ Some k) (λ p. Waits p k) waits.2))
      (λ b. absurd (b.0 waits.0)) says)
      (λ moved. ⊎_elim
      (λ a. absurd (moved.0 a.0))
      (λ b. inr (b.1, told_of P C by v w (ReadsSource P C s g k n) x s g IsClosed HasMoved moved.1)) says)
      other)
      x.kind

  module _ (by s g : ℕ) (old : List Entry) where
    -- The first look

    pub peeked : (v w : View) (n : ℕ) (x : Grows P C by v w (Peeks P C s n)) → old ≡ v.seen → state_of n ≡ 1 → tag_of n ≡ g → Ready P C by s g old IsAny w.seen
    peeked v w n x same is_open tag = ⊎_elim
        (λ here.
        let f = here.1 in
        let h : List Entry = x.between ++ v.seen in
        let seen : w.seen ≡ h = x.is ∙ ap (λ es. map (entry by) es ++ h) f.added in
        let i : IsTenant (U w.seen) f.p s (tag_of n) IsOpen = subst (λ z. IsTenant (U z) f.p s (tag_of n) IsOpen) (sym seen) f.tenant in
        let adds : Adds P C by old w.seen [] = subst (λ z. Adds P C by z w.seen []) (sym same) (adds_these P C by v w (Peeks P C s n) [] x f.added) in
        record {
          p = f.p;
          named = subst (λ z. IsNamed (U w.seen) f.p s z) tag (named_of i);
          opened = record { point = w.seen; within = record { before_return = starts_same w.seen; behind_call = adds.begins }; fact = record { tenant = i.tenant; is = i.is; fact = i.fact } };
          adds = adds;
        })
        (λ other. absurd (other.0 is_open))
        x.kind

    -- The info word

    pub informs : (v w : View) (n : ℕ) (x : Grows P C by v w (ReadsInfo P C s n)) → Ready P C by s g old IsAny v.seen → Ready P C by s g old (HasInfo n) w.seen
    informs v w n x r =
        let h : List Entry = x.between ++ v.seen in
        let seen : w.seen ≡ h = x.is ∙ ap (λ es. map (entry by) es ++ h) x.kind.none in
        let now = on_to P C by s g old IsAny any_stable v.seen w.seen r (adds_these P C by v w (ReadsInfo P C s n) [] x x.kind.none) in
        let is : at (U h).tenants now.p ≡ Some now.named.tenant = ap (λ z. at (U z).tenants now.p) (sym seen) ∙ now.named.is in
        record {
          p = now.p;
          named = with_fact (HasInfo n) now.named (λ o. x.kind.its now.p now.named.tenant is now.named.station_is o.live);
          opened = now.opened;
          adds = now.adds;
        }

    -- The second look

    pub rechecked : (v w : View) (info word n : ℕ) (x : Grows P C by v w (Rechecks P C s g word n)) → Ready P C by s g old (HasInfo info) v.seen → n ≡ word →
        Ready P C by s g old (IsOpenAs (half_of info) (index_of info) (predicted_of info)) w.seen
    rechecked v w info word n x r hit = ⊎_elim
        (λ here.
        let f = here.1 in
        let h : List Entry = x.between ++ v.seen in
        let seen : w.seen ≡ h = x.is ∙ ap (λ es. map (entry by) es ++ h) f.added in
        let now = on_to P C by s g old (HasInfo info) (info_stable info) v.seen w.seen r (adds_these P C by v w (Rechecks P C s g word n) [] x f.added) in
        let i : IsTenant (U w.seen) f.p s g IsOpen = subst (λ z. IsTenant (U z) f.p s g IsOpen) (sym seen) f.tenant in
        both_of P C by s g old (HasInfo info) IsOpen (IsOpenAs (half_of info) (index_of info) (predicted_of info)) w.seen f.p x.legal
        (λ t j o. let y = j o in record { is_open = o; half_is = sym y.half; index_is = sym y.index; predicted_is = sym y.predicted }) now i)
        (λ other. absurd (other.0 hit))
        x.kind

    pub recheck_moved : (A : Tenant → Type 0) (v w : View) (word n : ℕ) (x : Grows P C by v w (Rechecks P C s g word n)) → Ready P C by s g old A v.seen → n ≢ word →
        ClaimAnswers P C by old w.seen s (Moved g)
    recheck_moved A v w word n x r miss = ⊎_elim
        (λ here. absurd (miss here.0))
        (λ other. refused P C by s g old A v.seen w.seen (λ p. Refuses (HasMoved p)) r (told_of P C by v w (Rechecks P C s g word n) x s g IsClosed HasMoved other.1))
        x.kind

    -- The sources

    pub begins : (d : Half) (i x : ℕ) → IsLegal P C old → HasSeen P C old s g (IsOpenAs d i x) → Ready P C by s g old (IsClaimable d i x) old
    begins d i x legal seen =
        let j = seen.named in
        record {
          p = seen.p;
          named = with_fact (IsClaimable d i x) j (record { half_is = j.fact.half_is; index_is = j.fact.index_is; predicted_is = j.fact.predicted_is });
          opened = record { point = old; within = record { before_return = starts_same old; behind_call = starts_same old }; fact = record { tenant = j.tenant; is = j.is; fact = j.fact.is_open } };
          adds = adds_none P C by old legal;
        }

    pub takes_first : (d : Half) (i x a : ℕ) (seen new : List Entry) → Ready P C by s g old (IsClaimable d i x) seen → HasSource P C by seen new s g true First a →
        Ready P C by s g old (HasFirst d i x a) new
    takes_first d i x a seen new r h =
        both_of P C by s g old (IsClaimable d i x) (SourceIs true First a) (HasFirst d i x a) new h.p h.adds.legal (λ t f e. record { its = f; first = e })
        (on_to P C by s g old (IsClaimable d i x) (claimable_stable d i x) seen new r h.adds) h.named

    pub takes_second : (d : Half) (i x a : ℕ) (both : Bool) (b : ℕ) (seen new : List Entry) → Ready P C by s g old (HasFirst d i x a) seen → HasSource P C by seen new s g both Second b →
        Ready P C by s g old (HasBoth d i x a both b) new
    takes_second d i x a both b seen new r h =
        both_of P C by s g old (HasFirst d i x a) (SourceIs both Second b) (HasBoth d i x a both b) new h.p h.adds.legal (λ t f e. record { its = f; second = e })
        (on_to P C by s g old (HasFirst d i x a) (first_stable d i x a) seen new r h.adds) h.named

    pub source_refused : (A : Tenant → Type 0) (seen new : List Entry) (k : Source) (needed : Bool) (refusal : Answer) → Ready P C by s g old A seen →
        SourceAnswers P C by seen new s g k needed (Err refusal) →
        ClaimAnswers P C by old new s refusal
    source_refused A seen new k needed refusal r answer = ⊎_elim
        (λ w. subst (ClaimAnswers P C by old new s) (sym w.0) (refused P C by s g old A seen new (λ p. Refuses (Waits p k)) r w.1))
        (λ m. subst (ClaimAnswers P C by old new s) (sym m.0) (refused P C by s g old A seen new (λ p. Refuses (HasMoved p)) r m.1))
        answer

    pub first_next : (d : Half) (i x : ℕ) (seen : List Entry) → Ready P C by s g old (IsClaimable d i x) seen → HasSeen P C seen s g (λ t. true ≡ true → IsNext P First t)
    first_next d i x seen r = has_seen P C by s g old (IsClaimable d i x) (λ t. true ≡ true → IsNext P First t) seen (λ t f e. tt) r

    pub second_next : (d : Half) (i x a : ℕ) (both : Bool) (seen : List Entry) → needs (kind (instr_of P i).op) Second ≡ both → Ready P C by s g old (HasFirst d i x a) seen →
        HasSeen P C seen s g (λ t. both ≡ true → IsNext P Second t)
    second_next d i x a both seen is r =
        has_seen P C by s g old (HasFirst d i x a) (λ t. both ≡ true → IsNext P Second t) seen (λ t f e. (ap (λ z. needs (kind (instr_of P z).op) Second) f.its.index_is ∙ (is ∙ e), (a, f.first))) r

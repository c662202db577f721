-- A claim at its points: the call that began as v has come to w, and this is known of the tenant on its way.
use Rattle.std.proofs.Common.{◌≡◌, ◌≢◌, ℕ, ◌<◌, Bool, true, length, Result, Ok, Err, refl, sym, ap, ◌∙◌, subst}
use Rattle.instructions.specs.declared.instr.Instr.{Instr}
use Rattle.instructions.specs.declared.op.Half.{Half}
use Rattle.instructions.specs.declared.op.Kind.{Kind}
use Rattle.instructions.specs.declared.op.Op.{Op}
use Rattle.instructions.specs.Instruction.{kind}
use Rattle.instructions.specs.Programs.{Program, address, instr_of}
use Rattle.inorder.specs.declared.history.Source.{Source}
use Rattle.inorder.specs.declared.history.Source.TheVariants.{First, Second}
use Rattle.inorder.specs.Callers.{IsReady}
use Rattle.inorder.specs.Replies.{last_tag}
use Rattle.inorder.specs.Tenants.{Tenant, needs}
use Rattle.ruu_words.specs.Fields.{half_of, index_of, predicted_of, state_of, tag_of}
use Rattle.ruu_words.specs.Kinds.{Claims, IsAny, Peeks, ReadsInfo, Rechecks}
use Rattle.ruu_words.specs.Telling.{Grows}
use Rattle.ruu_words.proofs.Stays.{named_of, tag_small}
use Rattle.station.specs.declared.answers.Claim.{Claim}
use Rattle.station.specs.declared.answers.Claim.TheVariants.{Job as Claimed, Moved}
use Rattle.station.specs.Answers.{AnswersClaim}
use Rattle.station.specs.Calls.{AnswersSource, ComesTo, IsLegalCall, IsSameCall, Saw, TakesStep, TheCall}
use Rattle.station.specs.Claiming.{ClaimAnswers, HasSeen, IsNext, IsOpenAs, SourceAnswers}
use Rattle.station.proofs.Calls.{after, before, joined, taken}
use Rattle.station.proofs.ClaimFacts.{HasBoth, HasFirst, HasInfo, IsClaimable}
use Rattle.station.proofs.OnItsWay.{Ready, claim_answers_on, has_seen, index_inside}
use Rattle.station.proofs.ClaimLooks.{begins, informs, peeked, recheck_moved, rechecked, second_next, source_refused, takes_first, takes_second}
use Rattle.station.proofs.ClaimExchange.{claim_moved, claimed, ready_seen}

pub record IsOnWay (v w : TheCall) (s g : ℕ) (Fact : Tenant → Type 0) : Type 0 where
  pub same : IsSameCall v w
  pub ready : Ready v.core.program v.core.sizes v.view.by s g v.view.seen Fact w.view.seen

-- The looks

module _ {v w : TheCall} {s : ℕ} (n : ℕ) (look : TakesStep v w (λ P C. Peeks P C s n)) (is_open : state_of n ≡ 1) where
  pub after_peek : {g : ℕ} → g ≡ tag_of n → IsOnWay v w s g IsAny
  after_peek {g} tag = record {
    same = look.same;
    ready = peeked v.core.program v.core.sizes v.view.by s g v.view.seen v.view w.view n look.grows refl is_open (sym tag);
  }

pub after_info : {v w x : TheCall} {s g n : ℕ} → IsOnWay v w s g IsAny → TakesStep w x (λ P C. ReadsInfo P C s n) → IsOnWay v x s g (HasInfo n)
after_info {v} {w} {x} {s} {g} {n} r step = record {
  same = joined r.same step.same;
  ready = informs v.core.program v.core.sizes v.view.by s g v.view.seen w.view x.view n (taken r.same step) r.ready;
}

-- the word of the second look is that of the tag
rechecks : {v w x : TheCall} {s g word n : ℕ} → IsSameCall v w → tag_of word ≡ g → TakesStep w x (λ P C. Rechecks P C s (tag_of word) word n) →
    Grows v.core.program v.core.sizes v.view.by w.view x.view (Rechecks v.core.program v.core.sizes s g word n)
rechecks {v} {w} {x} {s} {g} {word} {n} same tag step =
    subst (λ t. Grows v.core.program v.core.sizes v.view.by w.view x.view (Rechecks v.core.program v.core.sizes s t word n)) tag (taken same step)

pub after_recheck : {v w x : TheCall} {s g info word n : ℕ} → IsOnWay v w s g (HasInfo info) → tag_of word ≡ g → TakesStep w x (λ P C. Rechecks P C s (tag_of word) word n) →
    n ≡ word → IsOnWay v x s g (IsOpenAs (half_of info) (index_of info) (predicted_of info))
after_recheck {v} {w} {x} {s} {g} {info} {word} {n} r tag step hit = record {
  same = joined r.same step.same;
  ready = rechecked v.core.program v.core.sizes v.view.by s g v.view.seen w.view x.view info word n (rechecks r.same tag step) r.ready hit;
}

pub moved_at_recheck : {v w x : TheCall} {s g info word n : ℕ} → IsOnWay v w s g (HasInfo info) → tag_of word ≡ g → TakesStep w x (λ P C. Rechecks P C s (tag_of word) word n) →
    n ≢ word → ComesTo v x (AnswersClaim s (Moved g))
moved_at_recheck {v} {w} {x} {s} {g} {info} {word} {n} r tag step miss = record {
  same = joined r.same step.same;
  reply = recheck_moved v.core.program v.core.sizes v.view.by s g v.view.seen (HasInfo info) w.view x.view word n (rechecks r.same tag step) r.ready miss;
}

-- What the call has seen of the tenant on its way
pub saw : {v w : TheCall} {s g : ℕ} {A : Tenant → Type 0} (B : Tenant → Type 0) → ((t : Tenant) → A t → B t) → IsOnWay v w s g A → Saw w s g B
saw {v} {w} {s} {g} {A} B f r =
    after (λ z. HasSeen z.0.program z.0.sizes w.view.seen s g B) r.same (has_seen v.core.program v.core.sizes v.view.by s g v.view.seen A B w.view.seen f r.ready)

-- An answer of the call from this point on is one of the whole call
pub answers_on : {v w x : TheCall} {s g : ℕ} {A : Tenant → Type 0} (answer : Claim) → IsOnWay v w s g A → ComesTo w x (AnswersClaim s answer) → ComesTo v x (AnswersClaim s answer)
answers_on {v} {w} {x} {s} {g} {A} answer r end = record {
  same = joined r.same end.same;
  reply = claim_answers_on v.core.program v.core.sizes v.view.by v.view.seen w.view.seen x.view.seen s answer r.ready.adds
      (before (λ z. ClaimAnswers z.0.program z.0.sizes z.1 w.view.seen x.view.seen s answer) r.same end.reply);
}

-- The sources

-- the claim of a tenant that was seen open, as one of the program's instructions
pub record IsBegun (v : TheCall) (s g : ℕ) (d : Half) (i x : ℕ) (P : Program) : Type 0 where
  pub way : IsOnWay v v s g (IsClaimable d i x)
  pub program : P ≡ v.core.program
  pub index : i < length P.code
  pub tag : g < last_tag

pub claim_begins : {v : TheCall} {s g i x : ℕ} {d : Half} {P : Program} → IsLegalCall v → P ≡ v.core.program → Saw v s g (IsOpenAs d i x) → IsBegun v s g d i x P
claim_begins {v} {s} {g} {i} {x} {d} legal program seen = record {
  way = record {
    same = record { core = refl; role = refl; by = refl; spare = refl; lent = refl };
    ready = begins v.core.program v.core.sizes v.view.by s g v.view.seen d i x legal seen;
  };
  program = program;
  index = subst (λ (z : Program). i < length z.code) (sym program) (index_inside v.core.program v.core.sizes v.view.seen legal seen.p s g d i x seen.named);
  tag = tag_small v.core.program v.core.sizes v.view.seen legal seen.p s g (named_of seen.named);
}

-- what a reading after this point is answered, of the core and the caller at first
source_at : {v w : TheCall} (x : TheCall) (s g : ℕ) (k : Source) (needed : Bool) (r : Result ℕ Claim) → IsSameCall v w → AnswersSource w x s g k needed r →
    SourceAnswers v.core.program v.core.sizes v.view.by w.view.seen x.view.seen s g k needed r
source_at {v} {w} x s g k needed r same answer = before (λ z. SourceAnswers z.0.program z.0.sizes z.1 w.view.seen x.view.seen s g k needed r) same answer

pub refused_source : {v w x : TheCall} {s g : ℕ} {A : Tenant → Type 0} {k : Source} (needed : Bool) {refusal : Claim} → IsOnWay v w s g A → IsSameCall w x →
    AnswersSource w x s g k needed (Err refusal) → ComesTo v x (AnswersClaim s refusal)
refused_source {v} {w} {x} {s} {g} {A} {k} needed {refusal} r same answer = record {
  same = joined r.same same;
  reply = source_refused v.core.program v.core.sizes v.view.by s g v.view.seen A w.view.seen x.view.seen k needed refusal r.ready (source_at x s g k needed (Err refusal) r.same answer);
}

-- a tenant on its way with the first source or both, and whether its instruction needs the second
pub record IsReading (v w : TheCall) (s g i : ℕ) (both : Bool) (Fact : Tenant → Type 0) : Type 0 where
  pub way : IsOnWay v w s g Fact
  pub needs_it : needs (kind (instr_of v.core.program i).op) Second ≡ both

pub has_first : {v w : TheCall} {s g i p a : ℕ} {d : Half} {P : Program} {t : Instr} {o : Op} {k : Kind} {both : Bool} → IsBegun v s g d i p P → t ≡ instr_of P i → o ≡ t.op → k ≡ kind o →
    both ≡ needs k Second → IsSameCall v w → AnswersSource v w s g First true (Ok a) → IsReading v w s g i both (HasFirst d i p a)
has_first {v} {w} {s} {g} {i} {p} {a} {d} r instr op kind_is is same answer = record {
  way = record {
    same = same;
    ready = takes_first v.core.program v.core.sizes v.view.by s g v.view.seen d i p a v.view.seen w.view.seen r.way.ready answer;
  };
  needs_it = sym (is ∙ ap (λ k. needs k Second) (kind_is ∙ ap kind (op ∙ (ap (λ (z : Instr). z.op) instr ∙ ap (λ (z : Program). (instr_of z i).op) r.program))));
}

pub has_both : {v w x : TheCall} {s g i p a b : ℕ} {d : Half} {both : Bool} → IsReading v w s g i both (HasFirst d i p a) → IsSameCall w x → AnswersSource w x s g Second both (Ok b) →
    IsReading v x s g i both (HasBoth d i p a both b)
has_both {v} {w} {x} {s} {g} {i} {p} {a} {b} {d} {both} r same answer = record {
  way = record {
    same = joined r.way.same same;
    ready = takes_second v.core.program v.core.sizes v.view.by s g v.view.seen d i p a both b w.view.seen x.view.seen r.way.ready (source_at x s g Second both (Ok b) r.way.same answer);
  };
  needs_it = r.needs_it;
}

-- The second source is the next that the claim reads
pub next_is_second : {v w : TheCall} {s g i p a : ℕ} {d : Half} {both : Bool} → IsReading v w s g i both (HasFirst d i p a) → Saw w s g (λ t. both ≡ true → IsNext w.core.program Second t)
next_is_second {v} {w} {s} {g} {i} {p} {a} {d} {both} r =
    after (λ z. HasSeen z.0.program z.0.sizes w.view.seen s g (λ t. both ≡ true → IsNext z.0.program Second t)) r.way.same
    (second_next v.core.program v.core.sizes v.view.by s g v.view.seen d i p a both w.view.seen r.needs_it r.way.ready)

-- The exchange

module _ {v w : TheCall} {s g i p a b : ℕ} {d : Half} {both : Bool} (r : IsReading v w s g i both (HasBoth d i p a both b)) where
  pub is_ready : {h : ℕ} → h ≡ g → Saw w s h (IsReady w.core.program)
  is_ready tag = subst (λ t. Saw w s t (IsReady w.core.program)) (sym tag) (after (λ z. HasSeen z.0.program z.0.sizes w.view.seen s g (IsReady z.0.program)) r.way.same
      (ready_seen v.core.program v.core.sizes v.view.by s g v.view.seen d i p a both b r.needs_it w.view.seen r.way.ready))

  module _ {x : TheCall} {word n : ℕ} (tag : tag_of word ≡ g) (step : TakesStep w x (λ P C. Claims P C s (tag_of word) word n)) where
    claims : Grows v.core.program v.core.sizes v.view.by w.view x.view (Claims v.core.program v.core.sizes s g word n)
    claims = subst (λ t. Grows v.core.program v.core.sizes v.view.by w.view x.view (Claims v.core.program v.core.sizes s t word n)) tag (taken r.way.same step)

    pub moved_at_exchange : n ≢ word → ComesTo v x (AnswersClaim s (Moved g))
    moved_at_exchange miss = record {
      same = joined r.way.same step.same;
      reply = claim_moved v.core.program v.core.sizes v.view.by s g v.view.seen d i p a both b r.needs_it w.view x.view word n claims r.way.ready miss;
    }

    pub has_claimed : n ≡ word → (pc : ℕ) → pc ≡ address i →
        ComesTo v x (AnswersClaim s (Claimed (record { station = s; tag = g; index = i; half = d; pc = pc; predicted = p; first = a; second = b })))
    has_claimed hit pc pc_is = record {
      same = joined r.way.same step.same;
      reply = claimed v.core.program v.core.sizes v.view.by s g v.view.seen d i p a both b r.needs_it w.view x.view word n claims r.way.ready hit _ refl refl refl refl pc_is refl refl refl;
    }

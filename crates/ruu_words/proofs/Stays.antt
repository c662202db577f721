-- What a caller has seen of a tenant stays true.
use Rattle.std.proofs.Common.{◌≡◌, ◌≢◌, ℕ, ◌<◌, false, List, [], ◌++◌, map, Option, Some, None, refl, sym, ap, ◌∙◌, subst}
use Rattle.std.specs.Prelude.{length, unwrap_or}
use Rattle.instructions.specs.Instruction.{kind}
use Rattle.instructions.specs.Operations.{outcome_of, outcome_by}
use Rattle.instructions.specs.Programs.{Program, instr_of}
use Rattle.instructions.specs.declared.instr.Instr.{Instr}
use Rattle.instructions.specs.declared.op.Half.{Half}
use Rattle.instructions.specs.declared.op.Kind.{Kind}
use Rattle.instructions.specs.declared.op.Kind.TheVariants.{Computes, Jumps, Links, Loads, Stores}
use Rattle.inorder.specs.declared.history.Act.{Act}
use Rattle.inorder.specs.declared.history.Act.TheVariants.{Claim, Deliver, Finish, Link, Load, Mend, Retire, Speculate, Squash}
use Rattle.inorder.specs.declared.history.Entry.{Entry}
use Rattle.inorder.specs.declared.history.Event.{Event}
use Rattle.inorder.specs.declared.history.Source.TheVariants.{First, Second}
use Rattle.inorder.specs.declared.history.Step.{Step}
use Rattle.inorder.specs.declared.history.Step.TheVariants.{Let, On, Renew}
use Rattle.inorder.specs.Callers.{IsReady}
use Rattle.inorder.specs.History.{IsLegal, IsTheirs, WasOpen, back, entry, front, own, renewals, unit_of}
use Rattle.inorder.specs.Legal.{Allowed, applied}
use Rattle.inorder.specs.OneHistory.{Adds}
use Rattle.inorder.specs.Replies.{Has, last_tag}
use Rattle.inorder.specs.Tenants.{Tenant, computed, kind_of, missing_of, operand_value}
use Rattle.inorder.specs.Unit.{Sizes, UpdateUnit, at, is_old}
use Rattle.inorder.proofs.Ends.{IsNotBacks}
use Rattle.inorder.proofs.Letting.{IsBesides}
use Rattle.inorder.proofs.Moves.{Goes, goes}
use Rattle.inorder.proofs.Serving.{are_small}
use Rattle.inorder.proofs.Sound.{IsSound}
use Rattle.ruu_words.specs.declared.rule.Draft.{Draft}
use Rattle.ruu_words.specs.declared.rule.View.{View}
use Rattle.ruu_words.specs.Kinds.{IsAny, IsNamed, IsTenant}
use Rattle.ruu_words.specs.Telling.{Grows}
use Rattle.inorder.proofs.Histories.{none_between, only_front_renews, unit_lasts, unit_lasts_apart, unit_lasts_here}
use Rattle.instructions.proofs.Histories.{starts_longer}
use Rattle.inorder.proofs.Recent.{old_same}
use Rattle.ruu_words.proofs.StationWords.{one_tag}

-- A tenant that is named, and what is true of it

-- this is true of it too
abbrev pub with_fact : {U : UpdateUnit} {p s g : ℕ} {Fact : Tenant → Type 0} (Other : Tenant → Type 0) (i : IsTenant U p s g Fact) → Other i.tenant → IsTenant U p s g Other
with_fact Other i fact = record { tenant = i.tenant; is = i.is; new = i.new; station_is = i.station_is; tag_is = i.tag_is; fact = fact }

-- its name alone
abbrev pub named_of : {U : UpdateUnit} {p s g : ℕ} {Fact : Tenant → Type 0} → IsTenant U p s g Fact → IsNamed U p s g
named_of i = with_fact IsAny i tt

-- Where a step goes on from what was seen

pub same_before : (P : Program) (C : Sizes) (by : ℕ) (v w : View) (Kind : List Entry → Draft → List Event → Type 0) (g : Grows P C by v w Kind) → renewals (g.between ++ v.seen) ≡ renewals v.seen
same_before P C by v w Kind g = none_between (map (entry by) g.events) g.between v.seen (sym (ap renewals g.is) ∙ g.same)

-- Who steps

-- only the front makes other steps than these
pub besides_of : (C : Sizes) (U : UpdateUnit) (by : ℕ) (s : Step) → IsTheirs C U by s → by ≢ front → IsBesides s
besides_of C U by (Let index predicted first second) h ne = absurd (ne h.0)
besides_of C U by Renew h ne = absurd (only_front_renews C U by h ne)
besides_of C U by (On p act) h ne = go act h
  where
    go : (act : Act) → Rattle.inorder.specs.History.IsTheirAct by act → Rattle.inorder.proofs.Letting.IsBesidesAct act
    go (Link k) h = absurd (ne h)
    go (Deliver k) h = tt
    go Claim h = tt
    go Finish h = tt
    go Load h = tt
    go (Retire n) h = tt
    go Squash h = absurd (ne h)
    go Mend h = absurd (ne h)
    go (Speculate s) h = absurd h

-- only the back loads and retires
pub not_backs : (C : Sizes) (U : UpdateUnit) (by : ℕ) (s : Step) → s ≢ Renew → IsTheirs C U by s → by ≢ back → IsNotBacks s
not_backs C U by (Let index predicted first second) plain h ne = tt
not_backs C U by Renew plain h ne = absurd (plain refl)
not_backs C U by (On p act) plain h ne = go act h
  where
    go : (act : Act) → Rattle.inorder.specs.History.IsTheirAct by act → Rattle.inorder.proofs.Ends.IsNotBacksAct act
    go (Link k) h = tt
    go (Deliver k) h = tt
    go Claim h = tt
    go Finish h = tt
    go Load h = absurd (ne h)
    go (Retire n) h = absurd (ne h)
    go Squash h = tt
    go Mend h = tt
    go (Speculate s) h = absurd h

module _ (P : Program) (C : Sizes) where
  -- what the front has seen, and others keep
  pub front_stays : (Q : UpdateUnit → Type 0) → ((U : UpdateUnit) (by : ℕ) (s : Step) → IsBesides s → Allowed P C U by s → IsSound P U.tenants → Q U → Q (applied P C U by s))
      → (more seen : List Entry) → IsLegal P C (more ++ seen) → own front more ≡ [] → Q (unit_of P C seen) → Q (unit_of P C (more ++ seen))
  front_stays Q keeps more seen legal none q = unit_lasts_apart P C front Q (λ U by s other theirs a ok x. keeps U by s (besides_of C U by s theirs other) a ok x) more seen legal none q

  -- what the back has seen, and others keep, where nothing is renewed
  pub back_stays : (Q : UpdateUnit → Type 0) → ((U : UpdateUnit) (by : ℕ) (s : Step) → IsNotBacks s → Allowed P C U by s → IsSound P U.tenants → Q U → Q (applied P C U by s))
      → (more seen : List Entry) → IsLegal P C (more ++ seen) → renewals (more ++ seen) ≡ renewals seen → own back more ≡ [] → Q (unit_of P C seen) → Q (unit_of P C (more ++ seen))
  back_stays Q keeps more seen legal same none q = unit_lasts_here P C back Q (λ U by s other plain theirs a ok x. keeps U by s (not_backs C U by s plain theirs other) a ok x) more seen legal same
      none q

  -- a fact of a tenant that each step keeps
  pub fact_stays : (p : ℕ) (Fact : Tenant → Type 0) → ((by : ℕ) (step : Step) (t t' : Tenant) → Goes by step t t' → Fact t → Fact t') → (more seen : List Entry) → IsLegal P C (more ++ seen) →
      Has (unit_of P C seen) p Fact → Has (unit_of P C (more ++ seen)) p Fact
  fact_stays p Fact keeps more seen legal i = unit_lasts P C (λ U. Has U p Fact)
      (λ U by step a ok q. let m = goes P C U by step a ok p q.tenant q.is in record { tenant = m.tenant; is = m.is; fact = keeps by step q.tenant m.tenant m.goes q.fact })
      more seen legal i

  -- so its place
  pub place_stays : (p : ℕ) (t : Tenant) (more seen : List Entry) → IsLegal P C (more ++ seen) → at (unit_of P C seen).tenants p ≡ Some t →
      Has (unit_of P C (more ++ seen)) p (λ u. (u.station ≡ t.station) × (u.tag ≡ t.tag))
  place_stays p t more seen legal is = fact_stays p (λ u. (u.station ≡ t.station) × (u.tag ≡ t.tag)) (λ by step x y m f. (m.station ∙ f.0, m.tag ∙ f.1)) more seen legal
      (record { tenant = t; is = is; fact = (refl, refl) })

  -- It has this name, and more is true of it
  abbrev IsAs : (s g : ℕ) → (Tenant → Type 0) → Tenant → Type 0
  IsAs s g Fact t = (t.station ≡ s) × (t.tag ≡ g) × Fact t

  as_named : (p s g : ℕ) (Fact : Tenant → Type 0) (U : UpdateUnit) → IsTenant U p s g Fact → Has U p (IsAs s g Fact)
  as_named p s g Fact U i = record { tenant = i.tenant; is = i.is; fact = (i.station_is, i.tag_is, i.fact) }

  -- and it was let since the last renewal, where nothing is renewed
  since : (p s g : ℕ) (Fact : Tenant → Type 0) (more seen : List Entry) → IsLegal P C (more ++ seen) → renewals (more ++ seen) ≡ renewals seen → IsTenant (unit_of P C seen) p s g Fact →
      Has (unit_of P C (more ++ seen)) p (IsAs s g Fact) → IsTenant (unit_of P C (more ++ seen)) p s g Fact
  since p s g Fact more seen legal same i now =
      let new : is_old (unit_of P C (more ++ seen)) p ≡ false = old_same P C more seen legal same p ∙ i.new in
      record { tenant = now.tenant; is = now.is; new = new; station_is = now.fact.0; tag_is = now.fact.1; fact = now.fact.2 }

  -- a fact of a named tenant that each step keeps
  pub tenant_stays : (p s g : ℕ) (Fact : Tenant → Type 0) → ((by : ℕ) (step : Step) (t t' : Tenant) → Goes by step t t' → Fact t → Fact t') → (more seen : List Entry) → IsLegal P C (more ++ seen) →
      renewals (more ++ seen) ≡ renewals seen
      → IsTenant (unit_of P C seen) p s g Fact → IsTenant (unit_of P C (more ++ seen)) p s g Fact
  tenant_stays p s g Fact keeps more seen legal same i = since p s g Fact more seen legal same i
      (fact_stays p (IsAs s g Fact) (λ by step t t' m f. (m.station ∙ f.0, m.tag ∙ f.1, keeps by step t t' m f.2)) more seen legal (as_named p s g Fact (unit_of P C seen) i))

  -- its name
  pub named_stays : (p s g : ℕ) (more seen : List Entry) → IsLegal P C (more ++ seen) → renewals (more ++ seen) ≡ renewals seen → IsNamed (unit_of P C seen) p s g →
      IsNamed (unit_of P C (more ++ seen)) p s g
  named_stays p s g more seen legal same i = tenant_stays p s g IsAny (λ by step t t' m f. tt) more seen legal same i

  -- the same over what a caller has seen
  pub named_on : (by p s g : ℕ) (es : List Event) (old new : List Entry) → Adds P C by old new es → IsNamed (unit_of P C old) p s g → IsNamed (unit_of P C new) p s g
  named_on by p s g es old new a i = subst (λ z. IsNamed (unit_of P C z) p s g) (sym a.begins.is)
      (named_stays p s g a.begins.more old (subst (IsLegal P C) a.begins.is a.legal) (sym (ap renewals a.begins.is) ∙ a.one_table) i)

  -- no other tenant has it
  pub one_named : (h : List Entry) → IsLegal P C h → (p q s g : ℕ) → IsNamed (unit_of P C h) p s g → IsNamed (unit_of P C h) q s g → p ≡ q
  one_named h legal p q s g i j = one_tag P C h legal p q i.tenant j.tenant i.is j.is i.new j.new (i.station_is ∙ sym j.station_is) (i.tag_is ∙ sym j.tag_is)

  -- the same of what the steps of other callers keep
  pub tenant_stays_apart : (id p s g : ℕ) (Fact : Tenant → Type 0)
      → ((U : UpdateUnit) (by : ℕ) (step : Step) (t t' : Tenant) → by ≢ id → IsTheirs C U by step → Allowed P C U by step → Goes by step t t' → Fact t → Fact t')
      → (more seen : List Entry) → IsLegal P C (more ++ seen) → renewals (more ++ seen) ≡ renewals seen → own id more ≡ [] → IsTenant (unit_of P C seen) p s g Fact →
      IsTenant (unit_of P C (more ++ seen)) p s g Fact
  tenant_stays_apart id p s g Fact keeps more seen legal same none i = since p s g Fact more seen legal same i (unit_lasts_apart P C id (λ U. Has U p (IsAs s g Fact))
      (λ U by step other theirs a ok q. let m = goes P C U by step a ok p q.tenant q.is in
      record { tenant = m.tenant; is = m.is; fact = (m.goes.station ∙ q.fact.0, m.goes.tag ∙ q.fact.1, keeps U by step q.tenant m.tenant other theirs a m.goes q.fact.2) })
      more seen legal none (as_named p s g Fact (unit_of P C seen) i))

  -- its tag has its bits
  pub tag_small : (h : List Entry) → IsLegal P C h → (p s g : ℕ) → IsNamed (unit_of P C h) p s g → g < last_tag
  tag_small h legal p s g i = subst (λ z. z < last_tag) i.tag_is (are_small P C h legal p i.tenant i.is)

  pub was_open_stays : (more seen : List Entry) (p : ℕ) → WasOpen P C seen p → WasOpen P C (more ++ seen) p
  was_open_stays more seen p w = record { point = w.point; starts = starts_longer seen w.point more w.starts; opened = w.opened }

-- Sources that are delivered stay so, and with them the outcome

missing_stays : (k : Kind) (a b a' b' : Option ℕ) → ((v : ℕ) → a ≡ Some v → a' ≡ Some v) → ((v : ℕ) → b ≡ Some v → b' ≡ Some v) → missing_of k a b ≡ None → missing_of k a' b' ≡ None
missing_stays k None b a' b' f g e = absurd (cc)
missing_stays k (Some v) (Some w) a' b' f g e = λ i. missing_of k (f v refl i) (g w refl i)
missing_stays Computes (Some v) None a' b' f g e = absurd (cc)
missing_stays Jumps (Some v) None a' b' f g e = absurd (cc)
missing_stays Links (Some v) None a' b' f g e = absurd (cc)
missing_stays Loads (Some v) None a' b' f g e = absurd (cc)
missing_stays Stores (Some v) None a' b' f g e = ap (λ z. missing_of Stores z b') (f v refl) ∙ go b'
  where
    go : (b : Option ℕ) → missing_of Stores (Some v) b ≡ None
    go None = refl
    go (Some w) = refl

pub ready_stays : (P : Program) (by : ℕ) (s : Step) (t t' : Tenant) → Goes by s t t' → IsReady P t → IsReady P t'
ready_stays P by s t t' m n =
    ap (λ i. missing_of (kind (instr_of P i).op) t'.first.value t'.second.value) m.index
    ∙ missing_stays (kind_of P t) t.first.value t.second.value t'.first.value t'.second.value (m.value First) (m.value Second) n

outcome_same : (k : Kind) (i : Instr) (half : Half) (pc size : ℕ) (a b a' b' : Option ℕ) → ((v : ℕ) → a ≡ Some v → a' ≡ Some v) → ((v : ℕ) → b ≡ Some v → b' ≡ Some v) → missing_of k a b ≡ None
    → outcome_by k i half pc (unwrap_or a' 0) (unwrap_or b' 0) size ≡ outcome_by k i half pc (unwrap_or a 0) (unwrap_or b 0) size
outcome_same k i half pc size None b a' b' f g e = absurd (cc)
outcome_same k i half pc size (Some v) (Some w) a' b' f g e = λ j. outcome_by k i half pc (unwrap_or (f v refl j) 0) (unwrap_or (g w refl j) 0) size
outcome_same Computes i half pc size (Some v) None a' b' f g e = absurd (cc)
outcome_same Jumps i half pc size (Some v) None a' b' f g e = absurd (cc)
outcome_same Links i half pc size (Some v) None a' b' f g e = absurd (cc)
outcome_same Loads i half pc size (Some v) None a' b' f g e = absurd (cc)
outcome_same Stores i half pc size (Some v) None a' b' f g e = λ j. outcome_by Stores i half pc (unwrap_or (f v refl j) 0) 0 size

pub computed_stays : (P : Program) (by : ℕ) (s : Step) (t t' : Tenant) → Goes by s t t' → IsReady P t → computed P t' ≡ computed P t
computed_stays P by s t t' m n =
    ap (λ k. outcome_of (instr_of P k) t'.half t'.pc (operand_value t'.first) (operand_value t'.second) (length P.bytes)) m.index
    ∙ (ap (λ x. outcome_of (instr_of P t.index) x t'.pc (operand_value t'.first) (operand_value t'.second) (length P.bytes)) m.half
    ∙ ap (λ x. outcome_of (instr_of P t.index) t.half x (operand_value t'.first) (operand_value t'.second) (length P.bytes)) m.pc
    ∙ outcome_same (kind_of P t) (instr_of P t.index) t.half t.pc (length P.bytes) t.first.value t.second.value t'.first.value t'.second.value (m.value First) (m.value Second) n)

-- The exchange of a finish, and what is carried after it.
use Rattle.std.proofs.Common.{◌≡◌, ◌≢◌, ℕ, cond, List, [], ◌∷◌, ◌++◌, map, length, refl, sym, ap, ◌∙◌, subst, ⊎_elim}
use Rattle.instructions.specs.declared.op.Half.{Half}
use Rattle.instructions.specs.Operations.{outcome_of as outcome_of_half, outcome_by}
use Rattle.instructions.specs.Programs.{Program, instr_of}
use Rattle.instructions.specs.declared.instr.Instr.{Instr}
use Rattle.instructions.specs.declared.op.Kind.{Kind}
use Rattle.instructions.specs.declared.op.Kind.TheVariants.{Computes, Jumps, Links, Loads, Stores}
use Rattle.instructions.specs.declared.stop.Outcome.{Outcome}
use Rattle.instructions.specs.declared.stop.Outcome.TheVariants.{Address, Next, Pair, Stop as Stops, Value}
use Rattle.inorder.specs.declared.history.Act.TheVariants.{Finish}
use Rattle.inorder.specs.declared.history.Entry.{Entry}
use Rattle.inorder.specs.declared.history.Event.TheVariants.{Does}
use Rattle.inorder.specs.declared.history.Source.TheVariants.{First, Second}
use Rattle.inorder.specs.declared.history.Step.TheVariants.{On}
use Rattle.inorder.specs.Callers.{HasJob}
use Rattle.inorder.specs.History.{IsLegal, entry, unit_of}
use Rattle.inorder.specs.Replies.{JobFields}
use Rattle.inorder.specs.Steps.{finished}
use Rattle.inorder.specs.Tenants.{Tenant, computed, kind_of, needs}
use Rattle.inorder.specs.Unit.{Sizes}
use Rattle.ruu_words.specs.declared.rule.View.{View}
use Rattle.ruu_words.specs.Kinds.{Finds, Finishes, IsTenant}
use Rattle.ruu_words.specs.Telling.{Grows}
use Rattle.station.specs.declared.job.Job.{Job}
use Rattle.station.specs.Carrying.{HasCarried, HasMadeOf, HasValueOf, HasWalked, Makes, OfTenant}
use Rattle.station.specs.Claiming.{Holds, IsJob}
use Rattle.station.specs.Writeback.{HasTenant, IsCarried, IsWritten, WasStale, job_outcome}
use Rattle.station.proofs.Writing.{IsOut, act_out, acted, stale_out, writes_out}

-- A source that is not needed changes no outcome
same_outcome : (k : Kind) (i : Instr) (half : Half) (pc a b size : ℕ) →
    outcome_by k i half pc (cond (needs k First) a 0) (cond (needs k Second) b 0) size ≡
    outcome_by k i half pc a b size
same_outcome Computes i half pc a b size = refl
same_outcome Jumps i half pc a b size = refl
same_outcome Links i half pc a b size = refl
same_outcome Loads i half pc a b size = refl
same_outcome Stores i half pc a b size = refl

-- so a job has the outcome of its tenant
pub is_job : (P : Program) (by : ℕ) (j : Job) (o : Outcome) (t : Tenant) → IsJob P by j t → o ≡ job_outcome P j → HasJob P by j.predicted o t
is_job P by j o t is e = record {
  held = is.held;
  ready = is.ready;
  computes = sym (same_outcome (kind_of P t) (instr_of P t.index) t.half t.pc _ _ (length P.bytes))
      ∙ (ap (λ (f : JobFields). outcome_of_half (instr_of P f.index) f.half f.pc f.first f.second (length P.bytes)) is.fields_are ∙ sym e);
  predicted_is = ap (λ (f : JobFields). f.predicted) is.fields_are;
}

module _ (P : Program) (C : Sizes) where
  pub job_held : (by : ℕ) (seen : List Entry) (j : Job) (o : Outcome) → Holds P C by seen j → o ≡ job_outcome P j → HasTenant P C seen j.station j.tag (HasJob P by j.predicted o)
  job_held by seen j o h e = record {
    p = h.p;
    named = record {
      tenant = h.tenant.tenant;
      is = h.tenant.is;
      new = h.new;
      station_is = ap (λ (f : JobFields). f.station) h.tenant.fact.fields_are;
      tag_is = ap (λ (f : JobFields). f.tag) h.tenant.fact.fields_are;
      fact = is_job P by j o h.tenant.tenant h.tenant.fact e;
    };
  }

  -- Finish

  module _ (by s g old n : ℕ) (o : Outcome) (v w : View) (e : Grows P C by v w (Finishes P C s g o old n)) where
    pub finish_stale : n ≢ old → WasStale P C by v.seen w.seen s g
    finish_stale miss = ⊎_elim (λ hit. absurd (miss hit.0)) (λ m. stale_out P C by s g v w (Finishes P C s g o old n) e m.1) e.kind

    pub finish_out : n ≡ old → IsOut P C by s g Finish v.seen w.seen
    finish_out hit = ⊎_elim (λ h. act_out P C by s g Finish (λ t. computed P t ≡ o) v w (Finishes P C s g o old n) e h.1) (λ m. absurd (m.0 hit)) e.kind

    made_of : (x : ℕ) → o ≡ Value x → Finds (unit_of P C (e.between ++ v.seen)) s g e.events (λ t. computed P t ≡ o) (λ p. Does (On p Finish) ∷ []) → HasValueOf P C w.seen s g x
    made_of x is f =
        let h : List Entry = e.between ++ v.seen in
        let seen : w.seen ≡ entry by (Does (On f.p Finish)) ∷ h = e.is ∙ ap (λ es. map (entry by) es ++ h) f.added in
        let legal : IsLegal P C (entry by (Does (On f.p Finish)) ∷ h) = subst (IsLegal P C) seen e.legal in
        record {
          p = f.p;
          named = subst (λ z. IsTenant (unit_of P C z) f.p s g (Makes x)) (sym seen)
              (acted P C by f.p s g Finish (λ t. computed P t ≡ o) h legal f.tenant (Makes x) (ap (λ y. (finished f.tenant.tenant y).made) (f.tenant.fact ∙ is)));
        }

    pub finish_made : n ≡ old → HasMadeOf P C w.seen s g o
    finish_made hit = ⊎_elim (λ h. go o refl h.1) (λ m. absurd (m.0 hit)) e.kind
      where
        go : (y : Outcome) → o ≡ y → Finds (unit_of P C (e.between ++ v.seen)) s g e.events (λ t. computed P t ≡ o) (λ p. Does (On p Finish) ∷ []) → HasMadeOf P C w.seen s g y
        go (Value x) is f = made_of x is f
        go (Pair l h) is f = tt
        go (Next x) is f = tt
        go (Address x) is f = tt
        go (Stops x) is f = tt

  -- what is carried after it
  pub finish_all : (by id s g : ℕ) (o o' : Outcome) (old mid new : List Entry) → o ≡ o' → id ≡ by → IsOut P C by s g Finish old mid → OfTenant P C mid s g (λ q. HasCarried P C id q o mid new) →
      IsWritten P C by old new s g Finish (λ p. IsCarried P C new p o')
  finish_all by id s g o o' old mid new same is out carry = writes_out P C by s g Finish old mid new (λ p. IsCarried P C new p o') out
      (λ q i.
      let c : HasCarried P C by q o' mid new = subst (λ (z : ℕ × Outcome). HasCarried P C z.0 q z.1 mid new) (λ j. (is j, same j)) (carry q i) in
      (c.events, (c.carried, c.adds)))

  -- a value walks
  pub carries_walk : (by q x : ℕ) (old new : List Entry) → HasWalked P C by q old new → HasCarried P C by q (Value x) old new
  carries_walk by q x old new w = record { events = w.events; carried = w.walk; adds = w.adds }

-- The exchange that ends a claim: the tenant is claimed, or it has moved.
use Rattle.std.proofs.Common.{◌≡◌, ◌≢◌, ◌⊎◌, ℕ, Bool, false, List, [], ◌∷◌, ◌++◌, map, Some, refl, sym, ap, ◌∙◌, subst, inl, ⊎_elim}
use Rattle.instructions.specs.declared.op.Half.{Half}
use Rattle.instructions.specs.Instruction.{kind}
use Rattle.instructions.specs.Programs.{Program, address, instr_of}
use Rattle.inorder.specs.declared.history.Act.TheVariants.{Claim as ClaimIt}
use Rattle.inorder.specs.declared.history.Entry.{Entry}
use Rattle.inorder.specs.declared.history.Event.TheVariants.{Does, Refuses}
use Rattle.inorder.specs.declared.history.Refusal.TheVariants.{Moved as HasMoved}
use Rattle.inorder.specs.declared.history.Source.TheVariants.{First, Second}
use Rattle.inorder.specs.declared.history.Step.TheVariants.{On}
use Rattle.inorder.specs.Callers.{IsReady}
use Rattle.inorder.specs.History.{IsLegal, entry, unit_of}
use Rattle.inorder.specs.Legal.{applied, change_at}
use Rattle.inorder.specs.Replies.{Has, job_of, needed}
use Rattle.inorder.specs.Tenants.{Busy, Tenant, kind_of, missing_of, needs, operand_value}
use Rattle.inorder.specs.Unit.{Sizes, UpdateUnit, at, is_old}
use Rattle.inorder.proofs.Histories.{adds_on}
use Rattle.inorder.proofs.Positions.{at_replaced_here}
use Rattle.ruu_words.specs.declared.rule.View.{View}
use Rattle.ruu_words.specs.Kinds.{Claims, IsClosed, IsTenant}
use Rattle.ruu_words.specs.Telling.{Grows}
use Rattle.ruu_words.proofs.StationWords.{one_at}
use Rattle.ruu_words.proofs.Stays.{named_of, one_named, same_before, tenant_stays}
use Rattle.station.specs.declared.answers.Claim.TheVariants.{Moved}
use Rattle.station.specs.declared.job.Job.{Job}
use Rattle.station.specs.Claiming.{ClaimAnswers, HasSeen, IsClaimed, IsJob}
use Rattle.station.proofs.Adding.{adds_these}
use Rattle.inorder.proofs.Recent.{old_kept}
use Rattle.station.proofs.ClaimFacts.{HasBoth, both_stable, needs_first, none_missing, second_needed, second_there}
use Rattle.station.proofs.OnItsWay.{Ready, has_seen, its_own, refused, told_of}

module _ (P : Program) (C : Sizes) where
  abbrev U : List Entry → UpdateUnit
  U h = unit_of P C h

  module _ (by s g : ℕ) (old : List Entry) where
    module _ (d : Half) (i x a : ℕ) (both : Bool) (b : ℕ) (is : needs (kind (instr_of P i).op) Second ≡ both) where
      needs_is : (t : Tenant) → HasBoth d i x a both b t → needs (kind_of P t) Second ≡ both
      needs_is t f = ap (λ z. needs (kind (instr_of P z).op) Second) f.its.its.index_is ∙ is

      is_ready : (t : Tenant) → HasBoth d i x a both b t → IsReady P t
      is_ready t f =
          ap (λ z. missing_of (kind_of P t) z t.second.value) f.its.first
          ∙ none_missing (kind_of P t) a b t.second.value both (needs_is t f) (second_there both b t f.second)

      pub ready_seen : (seen : List Entry) → Ready P C by s g old (HasBoth d i x a both b) seen → HasSeen P C seen s g (IsReady P)
      ready_seen seen r = has_seen P C by s g old (HasBoth d i x a both b) (IsReady P) seen is_ready r

      -- The exchange

      pub claim_moved : (v w : View) (word n : ℕ) (y : Grows P C by v w (Claims P C s g word n)) → Ready P C by s g old (HasBoth d i x a both b) v.seen → n ≢ word →
          ClaimAnswers P C by old w.seen s (Moved g)
      claim_moved v w word n y r miss = ⊎_elim
          (λ here. absurd (miss here.0))
          (λ other. refused P C by s g old (HasBoth d i x a both b) v.seen w.seen (λ p. Refuses (HasMoved p)) r (told_of P C by v w (Claims P C s g word n) y s g IsClosed HasMoved other.1))
          y.kind

      job_fields : (t : Tenant) (j : Job) → HasBoth d i x a both b t → t.pc ≡ j.pc → t.station ≡ s → t.tag ≡ g
          → j.station ≡ s → j.tag ≡ g → j.index ≡ i → j.half ≡ d → j.predicted ≡ x → j.first ≡ a → j.second ≡ b → job_of P t ≡ j
      job_fields t j f pc station tag js jg ji jd jx ja jb =
          let first : needed P First t ≡ a =
          ap (λ z. Rattle.std.proofs.Common.cond z (operand_value t.first) 0) (needs_first (kind_of P t)) ∙ ap (λ z. Rattle.std.specs.Prelude.unwrap_or z 0) f.its.first in
          let second : needed P Second t ≡ b =
          ap (λ z. Rattle.std.proofs.Common.cond z (operand_value t.second) 0) (needs_is t f) ∙ second_needed both b t f.second in
          λ q. record {
            station = (station ∙ sym js) q;
            tag = (tag ∙ sym jg) q;
            index = (f.its.its.index_is ∙ sym ji) q;
            half = (f.its.its.half_is ∙ sym jd) q;
            pc = pc q;
            predicted = (f.its.its.predicted_is ∙ sym jx) q;
            first = (first ∙ sym ja) q;
            second = (second ∙ sym jb) q;
          }

      pub claimed : (v w : View) (word n : ℕ) (y : Grows P C by v w (Claims P C s g word n)) → Ready P C by s g old (HasBoth d i x a both b) v.seen → n ≡ word → (j : Job)
          → j.station ≡ s → j.tag ≡ g → j.index ≡ i → j.half ≡ d → j.pc ≡ address i → j.predicted ≡ x → j.first ≡ a → j.second ≡ b → IsClaimed P C by old w.seen s j
      claimed v w word n y r hit j js jg ji jd jpc jx ja jb = ⊎_elim
          (λ here.
          let f = here.1 in
          let h : List Entry = y.between ++ v.seen in
          let e = On f.p ClaimIt in
          let seen : w.seen ≡ entry by (Does e) ∷ h = y.is ∙ ap (λ es. map (entry by) es ++ h) f.added in
          let legal : IsLegal P C (entry by (Does e) ∷ h) = subst (IsLegal P C) seen y.legal in
          let same : IsTenant (U h) r.p s g (HasBoth d i x a both b) = tenant_stays P C r.p s g (HasBoth d i x a both b) (both_stable d i x a both b) y.between v.seen legal.0
          (same_before P C by v w (Claims P C s g word n) y) r.named in
          let here = one_named P C h legal.0 r.p f.p s g (named_of same) (named_of f.tenant) in
          let t : Tenant = f.tenant.tenant in
          let one : same.tenant ≡ t = one_at P C h legal.0 f.p same.tenant t (ap (at (U h).tenants) (sym here) ∙ same.is) f.tenant.is in
          let fact : HasBoth d i x a both b t = subst (HasBoth d i x a both b) one same.fact in
          let now : Tenant = record t { fate = Busy by } in
          let at_p : at (applied P C (U h) by e).tenants f.p ≡ Some now = ap (λ o. at (change_at P (U h).tenants by f.p ClaimIt o) f.p) f.tenant.is ∙
          at_replaced_here (U h).tenants f.p t now f.tenant.is in
          let pc : t.pc ≡ j.pc = (its_own P C h legal.0 f.p t f.tenant.is).place ∙ (ap address fact.its.its.index_is ∙ sym jpc) in
          let has : Has (applied P C (U h) by e) f.p (IsJob P by j) = record {
            tenant = now;
            is = at_p;
            fact = record {
              held = record { fate = refl; stays = inl f.tenant.fact.live };
              ready = is_ready t fact;
              fields_are = job_fields t j fact pc f.tenant.station_is f.tenant.tag_is js jg ji jd jx ja jb;
            };
          } in
          record {
            station = js;
            holds = record {
              p = f.p;
              tenant = subst (λ z. Has (U z) f.p (IsJob P by j)) (sym seen) has;
              new = subst (λ z. is_old (U z) f.p ≡ false) (sym seen) (old_kept P C (U h) by e (λ x. cc x) legal.1.1 f.p ∙ f.tenant.new);
            };
            adds = adds_on P C by old v.seen w.seen [] (Does e ∷ []) r.adds (adds_these P C by v w (Claims P C s g word n) (Does e ∷ []) y f.added);
          })
          (λ other. absurd (other.0 hit))
          y.kind

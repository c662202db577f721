-- The first instruction of a new core.
use Rattle.std.proofs.Common.{◌≡◌, ℕ, ◌<◌, ◌^◌, Bool, true, false, cond, List, [], length, Option, Some, None, IfSome, refl, sym, ◌∙◌, subst, arith}
use Rattle.std.specs.Prelude.{unwrap_or}
use Rattle.instructions.specs.Instruction.{first_of, fixed_next, kind, second_of}
use Rattle.instructions.specs.Operations.{outcome_of}
use Rattle.instructions.specs.Programs.{Program, instr_of, text_start}
use Rattle.instructions.specs.declared.op.Half.TheVariants.{Low}
use Rattle.inorder.specs.declared.history.Entry.{Entry}
use Rattle.inorder.specs.declared.history.Source.TheVariants.{Second}
use Rattle.inorder.specs.History.{unit_of}
use Rattle.inorder.specs.Replies.{last_tag}
use Rattle.inorder.specs.Tenants.{needs}
use Rattle.inorder.specs.Unit.{Sizes, can_be_written, creator, value_of}
use Rattle.station.specs.declared.answers.Supply.TheVariants.{Known}
use Rattle.station.specs.declared.answers.Tenant.{Tenant}
use Rattle.station.specs.Letting.{MayLetOut}
use Rattle.client.specs.declared.drive.Worked.{Worked}
use Rattle.client.specs.Works.{IsFirstOutcome, IsWorkedRight}

abbrev pub first_tenant : ℕ → Tenant
first_tenant predicted = record { index = 0; half = Low; predicted = predicted; sources = (Known 0, Known 0) }

-- no register has a creator yet
no_creator : (P : Program) (r : ℕ) → value_of [] (creator P [] r) ≡ Some 0
no_creator P r = go (can_be_written r)
  where
    go : (b : Bool) → value_of [] (cond b None None) ≡ Some 0
    go true = refl
    go false = refl

pub may_let_first : (P : Program) (C : Sizes) (seen : List Entry) (predicted : ℕ) → seen ≡ [] → 0 < length P.code → 0 < C.ring → 0 < C.queue → C.first_tag < last_tag →
    predicted < 2 ^ 32 → IfSome (fixed_next (instr_of P 0) Low text_start) (λ x. predicted ≡ x) → MayLetOut P C (unit_of P C seen) (first_tenant predicted)
may_let_first P C seen predicted new code ring queue tag small next = subst (λ h. MayLetOut P C (unit_of P C h) (first_tenant predicted)) (sym new) (record {
  may = record {
    room = ring;
    queue = λ e. queue;
    is_there = code;
    pc = refl;
    small = small;
    predicts = next;
    first_is = no_creator P (first_of (instr_of P 0));
    second_is = no_creator P (second_of (instr_of P 0));
  };
  half = refl;
  tag = omega arith;
})

pub first_is_right : (P : Program) (C : Sizes) (seen : List Entry) (predicted : ℕ) (w : Worked) → seen ≡ [] → IsWorkedRight P (unit_of P C seen) (first_tenant predicted) w → IsFirstOutcome P w.outcome
first_is_right P C seen predicted w new right =
    let r = subst (λ h. IsWorkedRight P (unit_of P C h) (first_tenant predicted) w) new right in
    let a : w.a ≡ 0 = r.first 0 (no_creator P (first_of (instr_of P 0))) in
    let b : w.b ≡ 0 = r.second 0 (no_creator P (second_of (instr_of P 0))) ∙ either (needs (kind (instr_of P 0).op) Second) 0 in
    r.outcome ∙ (λ i. outcome_of (instr_of P 0) Low (r.pc i) (a i) (b i) (length P.bytes))
  where
    either : (x : Bool) (n : ℕ) → cond x n n ≡ n
    either true n = refl
    either false n = refl

-- what is predicted where the next pc is fixed
pub predicts : (o : Option ℕ) (x : ℕ) → x ≡ unwrap_or o 0 → IfSome o (λ y. x ≡ y)
predicts None x e = tt
predicts (Some y) x e = e

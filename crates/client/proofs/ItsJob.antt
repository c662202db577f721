-- What the job of a tenant that was let with its values says, and its outcome.
use Rattle.std.proofs.Common.{◌≡◌, ℕ, cond, length, Some, sym, ap, ◌∙◌, subst}
use Rattle.std.specs.Prelude.{unwrap_or}
use Rattle.instructions.specs.Instruction.{first_of, kind, second_of}
use Rattle.instructions.specs.Operations.{outcome_of as outcome_of_half}
use Rattle.instructions.specs.Programs.{Program, instr_of}
use Rattle.inorder.specs.declared.history.Source.TheVariants.{Second}
use Rattle.inorder.specs.Replies.{JobFields, job_of}
use Rattle.inorder.specs.Steps.{MaySupply}
use Rattle.inorder.specs.Tenants.{Tenant, kind_of, needs}
use Rattle.inorder.specs.Unit.{Sizes, UpdateUnit, creator, front_pc, next_station, recent, value_of}
use Rattle.station.specs.declared.answers.Claim.{Claim}
use Rattle.station.specs.declared.answers.Claim.TheVariants.{Job as Claimed}
use Rattle.station.specs.declared.job.Job.{Job}
use Rattle.station.specs.declared.answers.Tenant.{Tenant as NewTenant}
use Rattle.station.specs.Letting.{MayLetOut, supply_of}
use Rattle.station.specs.Quiet.{IsLetAs}
use Rattle.station.specs.Writeback.{job_outcome}
use Rattle.client.specs.Works.{HasBothValues, IsWorkedRight}
use Rattle.client.specs.declared.drive.Worked.{Worked}
use Rattle.client.proofs.Begins.{needs_first}

-- What a job has of a tenant that was let with its values
pub record HasItsFields (P : Program) (t : NewTenant) (values : HasBothValues t) (tag pc : ℕ) (j : Job) : Type 0 where
  pub tag_is : j.tag ≡ tag
  pub index_is : j.index ≡ t.index
  pub half_is : j.half ≡ t.half
  pub pc_is : j.pc ≡ pc
  pub first_is : j.first ≡ values.a
  pub second_is : j.second ≡ cond (needs (kind (instr_of P t.index).op) Second) values.b 0

pub record IsItsJob (P : Program) (t : NewTenant) (values : HasBothValues t) (tag pc : ℕ) (answer : Claim) : Type 0 where
  pub job : Job
  pub is : answer ≡ Claimed job
  pub fields : HasItsFields P t values tag pc job

-- What a unit has worked out is of this job
pub record IsOfJob (P : Program) (j : Job) (w : Worked) : Type 0 where
  pub pc : w.pc ≡ j.pc
  pub a : w.a ≡ j.first
  pub b : w.b ≡ j.second
  pub outcome : w.outcome ≡ job_outcome P j

pub its_fields : (P : Program) (t : NewTenant) (values : HasBothValues t) (tag pc : ℕ) (u : Tenant) (j : Job) → u.tag ≡ tag → IsLetAs t pc u → j ≡ job_of P u → HasItsFields P t values tag pc j
its_fields P t values tag pc u j tag_is its f =
    let first : u.first.value ≡ Some values.a = its.first_is values.a values.first in
    let second : u.second.value ≡ Some values.b = its.second_is values.b values.second in
    record {
      tag_is = ap (λ (z : JobFields). z.tag) f ∙ tag_is;
      index_is = ap (λ (z : JobFields). z.index) f ∙ its.index_is;
      half_is = ap (λ (z : JobFields). z.half) f ∙ its.half_is;
      pc_is = ap (λ (z : JobFields). z.pc) f ∙ its.pc_is;
      first_is = ap (λ (z : JobFields). z.first) f ∙ (ap (λ b. cond b (unwrap_or u.first.value 0) 0) (needs_first (kind_of P u)) ∙ ap (λ v. unwrap_or v 0) first);
      second_is = ap (λ (z : JobFields). z.second) f ∙ (λ i. cond (needs (kind (instr_of P (its.index_is i)).op) Second) (unwrap_or (second i) 0) 0);
    }

-- its values are those of the creators
first_value : (P : Program) (C : Sizes) (U : UpdateUnit) (t : NewTenant) (values : HasBothValues t) → MayLetOut P C U t
    → value_of U.tenants (creator P U.tenants (first_of (instr_of P t.index))) ≡ Some values.a
first_value P C U t values may = subst (λ g. MaySupply P U (next_station C (recent U)) (creator P U.tenants (first_of (instr_of P t.index))) (supply_of g)) values.first may.may.first_is

second_value : (P : Program) (C : Sizes) (U : UpdateUnit) (t : NewTenant) (values : HasBothValues t) → MayLetOut P C U t
    → value_of U.tenants (creator P U.tenants (second_of (instr_of P t.index))) ≡ Some values.b
second_value P C U t values may = subst (λ g. MaySupply P U (next_station C (recent U)) (creator P U.tenants (second_of (instr_of P t.index))) (supply_of g)) values.second may.may.second_is

-- a job that was answered has them
pub has_its_fields : {P : Program} {t : NewTenant} {values : HasBothValues t} {tag pc : ℕ} {answer : Claim} {j : Job} → IsItsJob P t values tag pc answer → answer ≡ Claimed j →
    HasItsFields P t values tag pc j
has_its_fields {P} {t} {values} {tag} {pc} {answer} {j} i is = subst (HasItsFields P t values tag pc) (same i.job j (sym i.is ∙ is)) i.fields
  where
    same : (a b : Job) → Claimed a ≡ Claimed b → a ≡ b
    same a b e = cc e

one_value : (v w : ℕ) → Some v ≡ Some w → v ≡ w
one_value v w e = cc e

-- and so its outcome is what the definitions say
pub is_right : {P : Program} {C : Sizes} {U : UpdateUnit} {t : NewTenant} {values : HasBothValues t} {named : ℕ} {j : Job} (w : Worked) → MayLetOut P C U t →
    HasItsFields P t values named (front_pc U.tenants) j → IsOfJob P j w → IsWorkedRight P U t w
is_right {P} {C} {U} {t} {values} {named} {j} w may f worked = record {
  pc = worked.pc ∙ f.pc_is;
  first = λ v e. worked.a ∙ (f.first_is ∙ one_value values.a v (sym (first_value P C U t values may) ∙ e));
  second = λ v e. worked.b ∙ (f.second_is ∙ ap (λ x. cond (needs (kind (instr_of P t.index).op) Second) x 0) (one_value values.b v (sym (second_value P C U t values may) ∙ e)));
  outcome = worked.outcome ∙ (λ i. outcome_of_half (instr_of P (f.index_is i)) (f.half_is i) (sym worked.pc i) (sym worked.a i) (sym worked.b i) (length P.bytes));
}

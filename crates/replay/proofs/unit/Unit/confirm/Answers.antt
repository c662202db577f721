use Rattle.std.proofs.Common.{◌≡◌, refl, sym, ap, ◌∙◌, arith}
use Rattle.instructions.specs.Operations.{loaded}
use Rattle.instructions.specs.declared.instr.Instr.{Instr}
use Rattle.inorder.specs.declared.history.Act.TheVariants.{Speculate}
use Rattle.inorder.specs.declared.history.Speculation.TheVariants.{Confirm}
use Rattle.inorder.specs.Tenants.{Done, Guessed, missing_of}
use Rattle.replay.specs.Shown.{fate_of, standing_of, tenant_of}
use Rattle.replay.proofs.Laid.{get_below, guessed_by}
use Rattle.replay.proofs.Acted.{is_at, left_at, may_at, replaces_in}
use Rattle.replay.proofs.Settlement.{is_after}
use Rattle.replay.proofs.unit.Unit.confirm.Goals as goal

pub returns-in_default : goal.returns-in_default
returns-in_default c = record { ok = tt; done = tt; err = is_at c.args.self.now c.args.who c.in_ok-tenant.tenant _ c.in_ok-tenant.ensures.is (ap standing_of c.in_ok-tenant.ensures.live, λ v e. c.in_default.not-Guessed v (guessed_by c.in_ok-tenant.tenant.fate v e)); same = refl; program = refl; sizes = refl; length = refl }

pub returns-in-Some-clause-err : goal.returns-in-Some-clause-err
returns-in-Some-clause-err c = is_at c.args.self.now c.args.who c.in_ok-tenant.tenant _ c.in_ok-tenant.ensures.is (
  ap standing_of c.in_ok-tenant.ensures.live,
  ap (λ k. missing_of k c.in_ok-tenant.tenant.first.value c.in_ok-tenant.tenant.second.value) (sym c.kind.ensures)
      ∙ sym c.missing.ensures ∙ c.in-Some.is,
  sym c.creator.ensures,
)

pub returns-in_default-outcome : goal.returns-in_default-outcome
returns-in_default-outcome c = record { ok = tt; done = tt; err = is_at c.args.self.now c.args.who c.in_ok-tenant.tenant _ c.in_ok-tenant.ensures.is (λ a e. c.in_default-outcome.not-Address a (c.outcome.ensures ∙ e)); same = refl; program = refl; sizes = refl; length = refl }

pub sure_raw_of-requires-clause-who : goal.sure_raw_of-requires-clause-who
sure_raw_of-requires-clause-who c = get_below c.args.self.now.tenants.items c.args.who c.in_ok-tenant.tenant c.in_ok-tenant.ensures.is

pub sure_raw_of-requires-clause-settled : goal.sure_raw_of-requires-clause-settled
sure_raw_of-requires-clause-settled c =
    is_after c.args.self.now.program.now c.args.self.now.tenants.items c.args.self.now.settled c.args.who c.in_ok-tenant.tenant
    c.args.self.now.settles c.in_ok-tenant.ensures.is c.in_ok-tenant.ensures.live

pub returns-in_default-sure_raw_of-clause-err : goal.returns-in_default-sure_raw_of-clause-err
returns-in_default-sure_raw_of-clause-err c = is_at c.args.self.now c.args.who c.in_ok-tenant.tenant _ c.in_ok-tenant.ensures.is (
  c.in-Address.address,
  sym c.outcome.ensures ∙ c.in-Address.is,
  sym c.sure_raw_of.ensures ∙ c.in_default-sure_raw_of.is,
)

pub returns-then-right-value-clause-err : goal.returns-then-right-value-clause-err
returns-then-right-value-clause-err c = is_at c.args.self.now c.args.who c.in_ok-tenant.tenant _ c.in_ok-tenant.ensures.is (record {
  a = c.in-Address.address;
  bytes = c.in-Some-sure_raw_of.raw;
  computes = sym c.outcome.ensures ∙ c.in-Address.is;
  read = sym c.sure_raw_of.ensures ∙ c.in-Some-sure_raw_of.is;
  value = c.loaded-right.ensures
      ∙ ap (λ op. loaded op c.in-Some-sure_raw_of.raw) (c.op.ensures ∙ ap (λ (i : Instr). i.op) c.instr.ensures);
  other = λ e.
      let guess = ap fate_of c.in-Guessed.is in
      let two : Guessed c.in-Guessed.value ≡ Guessed c.loaded-right.result = sym guess ∙ e in
      let one : c.in-Guessed.value ≡ c.loaded-right.result = cc in
      let differs = c.if-right-value.true in
      absurd (grind (arith, one, differs));
})

pub put-requires : goal.put-requires
put-requires c =
    replaces_in c.args.self.now c.args.who c.in_ok-tenant.tenant _ c.in_ok-tenant.ensures.is c.in_ok-tenant.ensures.live refl refl refl

pub returns-clause-ok : goal.returns-clause-ok
returns-clause-ok c = may_at c.args.self.now c.args.who c.in_ok-tenant.tenant _ c.in_ok-tenant.ensures.is (record {
  live = ap standing_of c.in_ok-tenant.ensures.live;
  v = c.in-Guessed.value;
  fate = ap fate_of c.in-Guessed.is;
  needs = ap (λ k. missing_of k c.in_ok-tenant.tenant.first.value c.in_ok-tenant.tenant.second.value) (sym c.kind.ensures)
      ∙ sym c.missing.ensures ∙ c.in-None.is;
  a = c.in-Address.address;
  computes = sym c.outcome.ensures ∙ c.in-Address.is;
  bytes = c.in-Some-sure_raw_of.raw;
  read = sym c.sure_raw_of.ensures ∙ c.in-Some-sure_raw_of.is;
  right =
      let equal : c.loaded-right.result ≡ c.in-Guessed.value = grind (arith, c.if-right-value.false) in
      sym equal ∙ c.loaded-right.ensures
      ∙ ap (λ op. loaded op c.in-Some-sure_raw_of.raw) (c.op.ensures ∙ ap (λ (i : Instr). i.op) c.instr.ensures);
})

pub returns-clause-done : goal.returns-clause-done
returns-clause-done c =
    let t = tenant_of c.in_ok-tenant.tenant in
    left_at c.args.self.now c.args.who c.in_ok-tenant.tenant _ _ (Speculate Confirm) c.in_ok-tenant.ensures.is c.put.ensures.items (ap (λ v. record t { fate = Done v }) c.unwrap_or.ensures)

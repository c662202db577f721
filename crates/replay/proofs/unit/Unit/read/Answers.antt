use Rattle.std.proofs.Common.{◌≡◌, Some, ap, sym, ◌∙◌}
use Rattle.std.specs.Prelude.{unwrap_or}
use Rattle.instructions.specs.declared.instr.Instr.{Instr}
use Rattle.instructions.specs.Operations.{loaded}
use Rattle.inorder.specs.Memory.{raw}
use Rattle.inorder.specs.Tenants.{instr}
use Rattle.inorder.specs.Unit.{older}
use Rattle.replay.specs.Shown.{fate_of, shown, standing_of, tenant_of}
use Rattle.replay.proofs.Laid.{addr_by, get_below, shown_at}
use Rattle.replay.proofs.Found.{all_addressed, found_unaddressed, in_flight}
use Rattle.replay.proofs.Settlement.{is_after}
use Rattle.replay.proofs.unit.Unit.read.Goals as goal

pub returns-in_default : goal.returns-in_default
returns-in_default c = record {
  ok = tt;
  value = tt;
  err = record {
    tenant = tenant_of c.in_ok-tenant.tenant;
    is = shown_at c.args.self.now.tenants.items c.args.who c.in_ok-tenant.tenant c.in_ok-tenant.ensures.is;
    fact = (ap standing_of c.in_ok-tenant.ensures.live, λ e. c.in_default.not-Loads (c.kind.ensures ∙ e));
  };
}

pub returns-in_default-fate : goal.returns-in_default-fate
returns-in_default-fate c = record {
  ok = tt;
  value = tt;
  err = record {
    tenant = tenant_of c.in_ok-tenant.tenant;
    is = shown_at c.args.self.now.tenants.items c.args.who c.in_ok-tenant.tenant c.in_ok-tenant.ensures.is;
    fact = (ap standing_of c.in_ok-tenant.ensures.live, λ a e. c.in_default-fate.not-Addr a (addr_by c.in_ok-tenant.tenant.fate a e));
  };
}

pub returns-in-Some-clause-err : goal.returns-in-Some-clause-err
returns-in-Some-clause-err c = (
  in_flight c.args.self.now.tenants.items c.args.who c.in_ok-tenant.tenant c.in_ok-tenant.ensures.is c.in_ok-tenant.ensures.live,
  c.in-Some.ensures.before,
  found_unaddressed c.args.self.now.program.now c.args.self.now.tenants.items c.in-Some.store c.in-Some.ensures.some,
)

pub raw_of-requires : goal.raw_of-requires
raw_of-requires c = record {
  who = get_below c.args.self.now.tenants.items c.args.who c.in_ok-tenant.tenant c.in_ok-tenant.ensures.is;
  settled =
      is_after c.args.self.now.program.now c.args.self.now.tenants.items c.args.self.now.settled c.args.who c.in_ok-tenant.tenant
      c.args.self.now.settles c.in_ok-tenant.ensures.is c.in_ok-tenant.ensures.live;
}

pub returns-in-Some-raw_of-clause-ok : goal.returns-in-Some-raw_of-clause-ok
returns-in-Some-raw_of-clause-ok c =
    let P = c.args.self.now.program.now in
    let hs = c.args.self.now.tenants.items in
    let inside = get_below hs c.args.who c.in_ok-tenant.tenant c.in_ok-tenant.ensures.is in
    record {
      tenant = tenant_of c.in_ok-tenant.tenant;
      is = shown_at hs c.args.who c.in_ok-tenant.tenant c.in_ok-tenant.ensures.is;
      may = record {
        live = ap standing_of c.in_ok-tenant.ensures.live;
        kind = sym c.kind.ensures ∙ c.in-Loads.is;
        a = c.in-Addr.address;
        fate = ap fate_of c.in-Addr.is;
        addresses = all_addressed P hs c.args.who inside c.in-None.ensures.none;
        bytes = c.in-Some-raw_of.raw;
        read = sym c.raw_of.ensures ∙ c.in-Some-raw_of.is;
      };
    }

pub returns-in-Some-raw_of-clause-value : goal.returns-in-Some-raw_of-clause-value
returns-in-Some-raw_of-clause-value c =
    let P = c.args.self.now.program.now in
    let hs = c.args.self.now.tenants.items in
    let t = tenant_of c.in_ok-tenant.tenant in
    let ts = older (shown hs) c.args.who in
    let there : raw P ts (instr P t) t.fate ≡ Some c.in-Some-raw_of.raw =
    ap (raw P ts (instr P t)) (ap fate_of c.in-Addr.is) ∙ sym c.raw_of.ensures ∙ c.in-Some-raw_of.is in
    record {
      tenant = t;
      is = shown_at hs c.args.who c.in_ok-tenant.tenant c.in_ok-tenant.ensures.is;
      fact =
          c.loaded.ensures
          ∙ ap (λ op. loaded op c.in-Some-raw_of.raw) (c.op.ensures ∙ ap (λ (i : Instr). i.op) c.instr.ensures)
          ∙ ap (λ o. loaded (instr P t).op (unwrap_or o 0)) (sym there);
    }

pub returns-in-None-raw_of-clause-err : goal.returns-in-None-raw_of-clause-err
returns-in-None-raw_of-clause-err c = record {
  tenant = tenant_of c.in_ok-tenant.tenant;
  is = shown_at c.args.self.now.tenants.items c.args.who c.in_ok-tenant.tenant c.in_ok-tenant.ensures.is;
  fact = (c.in-Addr.address, ap fate_of c.in-Addr.is, sym c.raw_of.ensures ∙ c.in-None-raw_of.is);
}

use Rattle.std.proofs.Common.{◌≡◌, ◌∷◌, [], None, ap, inl, refl, sym, ◌∙◌, subst}
use Rattle.std.specs.Prelude.{IfSome}
use Rattle.instructions.specs.Instruction.{fixed_next}
use Rattle.instructions.specs.Programs.{instr_of}
use Rattle.replay.specs.declared.front.Front.{Front}
use Rattle.replay.specs.declared.step.Step.TheVariants.{Let}
use Rattle.events.proofs.Denials.{path_denied}
use Rattle.events.proofs.Follow.{entered, let_left, let_refused, told_once, untold_then}
use Rattle.events.proofs.judge.Judge.dispatch.Goals as goal

pub returns-in-Ok-clause-ok : goal.returns-in-Ok-clause-ok
returns-in-Ok-clause-ok c =
    let u = c.args.self.now.unit in
    let m = c.mend_towards.new.self.unit in
    let e = c.enter.new.self in
    let l = c.link_new.new.self in
    let step = Let c.in-Some.index c.predicted-predicted.result in
    let may = rw c.in-Ok.is at c.in_ok-reason.ensures.ok in
    let done = rw c.in-Ok.is at c.in_ok-reason.ensures.done in
    let one = rw c.in-Ok.is at c.in_ok-reason.ensures.one in
    let taken = entered m e c.in-Some.index c.predicted-predicted.result c.in-Ok.field-0 may done one in
    let program = ap (λ p. p.now) c.in_ok-reason.ensures.program in
    let left = let_left m e c.len-who.result _ done program c.len-who.ensures.len in
    let told = told_once m e l step taken program c.in_ok-reason.ensures.sizes c.link_new.ensures.leads (λ quiet. c.link_new.ensures.quiet (left quiet)) in
    record {
      told = step ∷ [];
      follows = untold_then u m l (step ∷ []) c.mend_towards.ensures told;
      is = record {
        index = c.in-Some.index;
        predicted = c.predicted-predicted.result;
        is = refl;
        at = subst (λ n. IfSome c.args.pc (λ x. x ≡ n)) (ap (λ (f : Front). f.pc) c.front-front.ensures ∙ may.pc) (c.if-not-goes_on_at.ensures.yes refl);
        goes = c.predicted-predicted.ensures.said;
      };
    }

pub returns-then-not-goes_on_at-clause-err : goal.returns-then-not-goes_on_at-clause-err
returns-then-not-goes_on_at-clause-err c = record {
  told = [];
  follows = c.mend_towards.ensures;
  next = inl refl;
  holds = sym (ap (λ (f : Front). f.pc) c.front-front.ensures);
}

pub returns-in_default-clause-err : goal.returns-in_default-clause-err
returns-in_default-clause-err c = record {
  told = [];
  follows = c.mend_towards.ensures;
  next = inl refl;
  holds = sym (ap (λ (f : Front). f.pc) c.front-front.ensures);
}

pub returns-then-not-goes_on_at-clause-denied : goal.returns-then-not-goes_on_at-clause-denied
returns-then-not-goes_on_at-clause-denied c = c.if-not-goes_on_at.ensures.no refl

pub returns-in-Err-clause-err : goal.returns-in-Err-clause-err
returns-in-Err-clause-err c =
    let same = rw c.in-Err.is at c.in_ok-reason.ensures.same in
    let why = rw c.in-Err.is at c.in_ok-reason.ensures.err in
    let_refused c.args.self.now.unit c.mend_towards.new.self.unit c.enter.new.self c.args.pc c.args.next c.in-Some.index c.predicted-predicted.result
    c.in-Err.reason c.mend_towards.ensures same (sym (c.in-Some.ensures.at ∙ ap (λ (f : Front). f.pc) c.front-front.ensures))
    (subst (λ n. IfSome c.args.pc (λ x. x ≡ n)) (sym c.in-Some.ensures.at) (c.if-not-goes_on_at.ensures.yes refl))
    c.predicted-predicted.ensures.said why

pub returns-in-Err-clause-denied : goal.returns-in-Err-clause-denied
returns-in-Err-clause-denied c =
    let m = c.mend_towards.new.self.unit in
    let why = rw c.in-Err.is at c.in_ok-reason.ensures.err in
    path_denied m c.args.pc c.args.next c.in-Some.index c.predicted-predicted.result c.in-Err.reason
    (sym (c.in-Some.ensures.at ∙ ap (λ (f : Front). f.pc) c.front-front.ensures)) c.predicted-predicted.ensures.said
    (subst (λ (f : Front). c.args.next ≡ None → IfSome (fixed_next (instr_of m.program.now c.in-Some.index) f.half f.pc) (λ x. x ≡ c.predicted-predicted.result))
    c.front-front.ensures c.predicted-predicted.ensures.fixed)
    why

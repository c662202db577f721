use Rattle.std.proofs.Common.{◌≡◌, ◌≢◌, ℕ, ◌<◌, [], ◌∷◌, length, sym, ap, ◌∙◌, subst, rules}
use Rattle.instructions.specs.Instruction.{kind}
use Rattle.instructions.specs.Programs.{Program, instr_of}
use Rattle.instructions.specs.declared.instr.Instr.{Instr}
use Rattle.instructions.specs.declared.op.Kind.TheVariants.{Stores}
use Rattle.inorder.specs.declared.history.Event.TheVariants.{Refuses}
use Rattle.inorder.specs.declared.history.Refusal.TheVariants.{NotDone}
use Rattle.ruu_words.specs.Fields.{state_of}
use Rattle.ruu_words.specs.Kinds.{Tells}
use Rattle.station.proofs.Adding.{adds_these}
use Rattle.station.proofs.Retiring.{inside}
use Rattle.station.proofs.RetireSteps.{behind_data, store_leaves, waits_for_data}
use Rattle.station.proofs.Calls.{legal_at, program_at}
use Rattle.station.proofs.retirement.Call+BackPart.retire_access.Goals as goal

pub instr-requires : goal.instr-requires
instr-requires c =
    let v = c.args.self.now in
    let h = c.requires.head in
    subst (λ (z : Program × ℕ). z.1 < length z.0.code) (λ i. (sym (program_at c.core.inside.table.shared.key c.core.invariant.program c.core.view_is c.self.view_is) i, h.fact.index_is i))
    (inside v.core.program v.core.sizes v.view.seen (legal_at c.self.invariant c.self.view_is) c.requires.p h.tenant h.is)

pub returns-then-ne : goal.returns-then-ne
returns-then-ne c =
    let v = c.args.self.now in
    let P = v.core.program in
    let C = v.core.sizes in
    let by = v.view.by in
    let g = c.tell_waiting.ensures.grows in
    record {
      same = c.tell_waiting.ensures.same;
      reply = adds_these P C by v.view c.tell_waiting.new.self.view (Tells P C NotDone) (Refuses NotDone ∷ []) g g.kind.added;
      head = tt;
    }

pub returns-in-Wait : goal.returns-in-Wait
returns-in-Wait c =
    let none : state_of c.read_data-found.result ≢ 2 = search rules in
    waits_for_data c.args.access c.read_data-found.result c.read_data-found.ensures none

pub leave-requires : goal.leave-requires
leave-requires c =
    let store : c.kind-kind.result ≡ Stores = search rules in
    let there : state_of c.read_data-found.result ≡ 2 = search rules in
    let stores : kind (instr_of c.args.self.now.core.program c.args.access.index).op ≡ Stores =
    sym (c.kind-kind.ensures ∙ ap kind (c.op.ensures ∙ (ap (λ (z : Instr). z.op) c.instr.ensures ∙ ap (λ (z : Program). (instr_of z c.args.access.index).op)
    (program_at c.core.inside.table.shared.key c.core.invariant.program c.core.view_is c.self.view_is)))) ∙ store in
    store_leaves c.args.access c.read_data-found.result c.read_data-found.ensures c.unpack-data.ensures.value stores there

pub returns-in-Val : goal.returns-in-Val
returns-in-Val c =
    let store : c.kind-kind.result ≡ Stores = search rules in
    let there : state_of c.read_data-found.result ≡ 2 = search rules in
    let stores : kind (instr_of c.args.self.now.core.program c.args.access.index).op ≡ Stores =
    sym (c.kind-kind.ensures ∙ ap kind (c.op.ensures ∙ (ap (λ (z : Instr). z.op) c.instr.ensures ∙ ap (λ (z : Program). (instr_of z c.args.access.index).op)
    (program_at c.core.inside.table.shared.key c.core.invariant.program c.core.view_is c.self.view_is)))) ∙ store in
    behind_data c.args.access c.read_data-found.result c.read_data-found.ensures c.unpack-data.ensures.value stores there c.leave.ensures

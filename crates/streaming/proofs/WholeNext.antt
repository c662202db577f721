-- The next instruction of a flow, if it is no pair, is no second half.
use Rattle.std.proofs.Common.{◌≡◌, sym, ap, ◌∙◌, subst}
use Rattle.std.specs.List.{AllByRecursion}
use Rattle.instructions.specs.Programs.{instr_at}
use Rattle.instructions.specs.declared.op.Half.TheVariants.{Low}
use Rattle.inorder.specs.Quiescent.{AreQuiescent}
use Rattle.inorder.specs.Steps.{IsNoRetiredStop}
use Rattle.inorder.specs.Unit.{front_half, front_pc}
use Rattle.inorder.proofs.Sound.{IsSound}
use Rattle.inorder.proofs.OneCaller.Sequences.{sound_of}
use Rattle.one_thread.specs.Decoding.{IsDecoded}
use Rattle.streaming.specs.Known.{IsWhole}
use Rattle.one_thread.specs.StandsFor.{OverIs, sizes}
use Rattle.one_thread.specs.Window.{half_in, next_in, window}
use Rattle.one_thread.specs.declared.pipeline.Pipeline.{Pipeline}
use Rattle.one_thread.proofs.Whole.{whole_behind}
use Rattle.one_thread.proofs.Windows.{front_worth, half_worth}
use Rattle.streaming.specs.Flow.{IsPlaced, filled, in_order, window_of}
use Rattle.streaming.specs.declared.flow.Flow.{Flow}

pub whole_next : (b : Pipeline) (flow : Flow) → IsPlaced b flow → IsWhole b.code.items flow.future.pc → flow.half ≡ Low
whole_next b flow placed whole =
    let before = placed.before in
    let x = in_order before flow in
    let P = x.program.now in
    let f = placed.flows.flows in
    let unit = f.unit in
    let U = unit.unit.tenants in
    let W = window_of x flow in
    let sound : IsSound P U = sound_of P (sizes (filled x W)) unit.unit unit.reached in
    let over : AllByRecursion IsNoRetiredStop U × AreQuiescent U = subst (OverIs U) f.flowing.goes_on unit.stands.over in
    let pc : front_pc U ≡ flow.future.pc =
    front_worth P U sound over.0
    ∙ ap (λ c. next_in c.pc (window P U)) (sym unit.stands.committed)
    ∙ ap (next_in x.committed.pc) (sym unit.stands.window)
    ∙ sym f.flowing.foresees.path in
    let half : flow.half ≡ front_half P U =
    f.flowing.half
    ∙ ap (half_in x.low) unit.stands.window
    ∙ ap (λ l. half_in l (window P U)) unit.stands.low
    ∙ sym (half_worth P U sound over.0) in
    half ∙ whole_behind P U placed.can.instr sound (ap (instr_at P) pc ∙ placed.can.is)
    (whole P placed.can.instr (subst (λ c. IsDecoded c P) (sym (ap (λ (p : Pipeline). p.code.items) placed.rest)) unit.code) placed.can.is)

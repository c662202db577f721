-- An instruction of a flow has completed and joins it, as predicted or mended.
use Rattle.std.proofs.Common.{arith}
use Rattle.std.proofs.lemmas.Grind.{common_steps}
use Rattle.std.proofs.Common.{rules, ◌≡◌, ◌≢◌, ℕ, ◌∷◌, ◌++◌, Some, refl, sym, ap, ◌∙◌, subst}
use Rattle.instructions.specs.Programs.{instr_at}
use Rattle.instructions.specs.declared.instr.Instr.{Instr}
use Rattle.streaming.specs.Astray.{FindsOperands, HasGoneAstray, IsUpcoming}
use Rattle.one_thread.specs.Changes.{registers_of}
use Rattle.streaming.specs.CompletedRing.{stations}
use Rattle.streaming.specs.Flow.{HasJoined, Completes, Flows, IsFlow, Reopens, completed_as, enters_as, filled, in_order, window_of}
use Rattle.streaming.specs.Kept.{HasKept, HaveKept, kept_with}
use Rattle.one_thread.specs.Leavers.{LeavesAs}
use Rattle.one_thread.specs.StandsFor.{StandsForSome}
use Rattle.streaming.specs.declared.completed_ring.Completed.{Completed}
use Rattle.one_thread.specs.declared.leaves.Leaves.{Leaves}
use Rattle.streaming.specs.declared.completing.Done.{Done}
use Rattle.one_thread.specs.declared.execute.Operands.{Operands}
use Rattle.streaming.specs.declared.flow.Flow.{Flow}
use Rattle.one_thread.specs.declared.pipeline.Pipeline.{Pipeline}
use Rattle.streaming.proofs.FlowIn.{entered_hit, entered_miss, entered_open, enters}
use Rattle.streaming.proofs.FlowKept.{joins_flows, joins_in_order}

pub record Joins (b : Pipeline) (flow after : Flow) (predicted : ℕ) (d : Done) : Type 0 where
  pub next : IsUpcoming b flow predicted
  pub operands : Operands
  pub finds : FindsOperands flow next.instr operands
  pub completes : Completes next.placed.before flow next.instr predicted operands (Some d)
  pub leaves : Leaves
  pub leaves_as : LeavesAs leaves next.instr
  pub joined :
      HasJoined flow after next.instr (completed_as flow predicted d leaves (kept_with next.instr flow.half operands.b flow.future.values)) operands.b

module _ (b : Pipeline) (flow after : Flow) (predicted : ℕ) (d : Done) (h : Joins b flow after predicted d) where
  abbrev before : Pipeline
  before = h.next.placed.before

  abbrev i : Instr
  i = h.next.instr

  abbrev kept : ℕ
  kept = kept_with i flow.half h.operands.b flow.future.values

  abbrev c : Completed
  c = completed_as flow predicted d h.leaves kept

  keeps : HasKept i c flow.future.values
  keeps = search rules

  -- where perhaps others have been let and squashed
  module _ (again : Pipeline) (rest : again ≡ record b { leavers = again.leavers }) where
    same : again ≡ record before { leavers = again.leavers }
    same = rest ∙ ap (λ (p : Pipeline). record p { leavers = again.leavers }) h.next.placed.rest

    is_there : instr_at again.program.now flow.future.pc ≡ Some i
    is_there = ap (λ (p : Pipeline). instr_at p.program.now flow.future.pc) same ∙ h.next.is

    have_kept : HaveKept again.program.now (registers_of (in_order again flow)) flow.ring.completed flow.future.values
    have_kept = grind (arith, common_steps, same)

    flows_on : IsFlow (in_order again flow) after → Flows again after
    flows_on =
        joins_flows again flow after i c h.operands.b (registers_of (in_order again flow)) have_kept h.joined is_there keeps refl
        (h.next.placed.flows.size ∙ ap (λ (p : Pipeline). p.ring) (sym same))

    pub joins_order : in_order again after ≡ in_order again flow
    joins_order = joins_in_order again flow after i c h.operands.b (registers_of (in_order again flow)) have_kept h.joined is_there keeps

    -- a miss, after which these were let
    pub joins_mended : HasGoneAstray again flow predicted → d.next ≢ predicted → Flows again after
    joins_mended a misses =
        let x = in_order before flow in
        let one : a.instr ≡ i = let e : Some a.instr ≡ Some i = sym a.is ∙ is_there in cc e in
        let there : window_of again flow ++ enters_as flow a.instr predicted ∷ a.behind ≡ window_of x flow ++ enters_as flow i predicted ∷ a.behind =
        ap (λ j. window_of again flow ++ enters_as flow j predicted ∷ a.behind) one
        ∙ ap (λ (p : Pipeline). stations p.program.now flow.ring.completed ++ enters_as flow i predicted ∷ a.behind) same in
        flows_on
        (entered_miss x (in_order b flow) flow i predicted h.next.placed.from (enters b flow predicted h.next) h.operands h.finds d h.leaves kept after h.completes h.joined
        (in_order again flow) (ap (λ (p : Pipeline). in_order p flow) same) a.behind
        (subst (λ V. StandsForSome (filled (in_order again flow) V)) there a.unit) misses)

  abbrev from : ℕ
  from = h.next.placed.from

  -- or as predicted
  pub joins_open : d.next ≡ predicted → Reopens (in_order b after) after from
  joins_open hit =
      subst (λ (p : Pipeline). Reopens p after from) (sym (joins_order b refl))
      (entered_open (in_order before flow) (in_order b flow) flow i predicted h.next.placed.from (enters b flow predicted h.next) h.operands h.finds d h.leaves kept after h.completes h.joined hit)

  pub joins_flow : Flows b after
  joins_flow =
      flows_on b refl
      (entered_hit (in_order before flow) (in_order b flow) flow i predicted h.next.placed.from (enters b flow predicted h.next) h.operands h.finds d h.leaves kept after h.completes h.joined)

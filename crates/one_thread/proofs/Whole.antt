-- What comes after a first half is its second: an instruction that is no pair finds nothing that waits for LO.
use Rattle.std.proofs.lemmas.Grind.{common_steps}
use Rattle.std.proofs.Common.{◌≡◌, ℕ, Bool, true, false, cond, List, [], ◌∷◌, Some, None, refl, sym, ap, ◌∙◌, subst, arith}
use Rattle.std.specs.Prelude.{slice_get}
use Rattle.std.specs.List.{AllByRecursion}
use Rattle.instructions.specs.Instruction.{is_first_half, is_low, is_pair}
use Rattle.instructions.specs.Programs.{Program, instr_at}
use Rattle.instructions.specs.declared.instr.Instr.{Instr}
use Rattle.instructions.specs.declared.op.Half.TheVariants.{High, Low}
use Rattle.inorder.specs.Quiescent.{AreQuiescent}
use Rattle.inorder.specs.Steps.{IsNoRetiredStop}
use Rattle.inorder.specs.Tenants.{Tenant, behind, behind_by, instr, is_first, on_path}
use Rattle.inorder.specs.Unit.{front_half, front_pc, half_after}
use Rattle.inorder.proofs.Basics.{fetched_at}
use Rattle.inorder.proofs.Commits.{live_not}
use Rattle.inorder.proofs.Halves.{first_low}
use Rattle.inorder.proofs.Pairs.{and_left, first_half_computes}
use Rattle.inorder.proofs.Sound.{GoesOn, IsInPlace, IsSound}
use Rattle.inorder.proofs.OneCaller.Middle.{all_from, sound_from}
use Rattle.inorder.proofs.OneCaller.Sequences.{sound_of}
use Rattle.one_thread.specs.StandsFor.{OverIs, StandsForSome, sizes}
use Rattle.one_thread.specs.declared.pipeline.Pipeline.{Pipeline}
use Rattle.one_thread.specs.declared.station.Station.{Station}
use Rattle.one_thread.proofs.Found.{Found, found}
use Rattle.one_thread.proofs.Waiting.{low_if, low_over, none_low}
use Rattle.one_thread.proofs.Windows.{half_worth}

-- A pair stands where the path goes on

record PairAt (P : Program) (pc : ℕ) : Type 0 where
  pub instr : Instr
  pub is : instr_at P pc ≡ Some instr
  pub pair : is_pair instr.op ≡ true

behind_first : (P : Program) (ts : List Tenant) → IsSound P ts → front_half P ts ≡ High → PairAt P (front_pc ts)
behind_first P [] s e = absurd (cc)
behind_first P (t ∷ ts) s e = go (on_path t) refl (behind_first P ts s.1)
  where
    half_if : (b : Bool) → on_path t ≡ b → front_half P (t ∷ ts) ≡ cond b (half_after (is_first P t)) (front_half P ts)
    half_if b on = ap (λ x. cond x (half_after (is_first P t)) (front_half P ts)) on

    first : (f : Bool) → is_first P t ≡ f → on_path t ≡ true → half_after f ≡ High → PairAt P (front_pc (t ∷ ts))
    first false g on high = absurd (cc)
    first true g on high =
        let k = first_half_computes (instr P t).op t.half g in
        let n : t.next ≡ behind P t = subst (λ x. GoesOn x (behind P t) t.next) k s.0.own.goes_on in
        let same : front_pc (t ∷ ts) ≡ t.pc = ap (λ b. cond b t.next (front_pc ts)) on ∙ n ∙ ap (λ b. behind_by b t.pc) g in
        record {
          instr = instr P t;
          is = ap (instr_at P) (same ∙ s.0.own.place) ∙ fetched_at P t.index s.0.own.inside;
          pair = and_left (is_pair (instr P t).op) (is_low t.half) g;
        }

    go : (b : Bool) → on_path t ≡ b → (front_half P ts ≡ High → PairAt P (front_pc ts)) → PairAt P (front_pc (t ∷ ts))
    go b on more = grind (arith, common_steps, first, half_if)

pub whole_behind : (P : Program) (ts : List Tenant) (i : Instr) → IsSound P ts → instr_at P (front_pc ts) ≡ Some i → is_pair i.op ≡ false → front_half P ts ≡ Low
whole_behind P ts i s at whole = grind (arith, common_steps, behind_first)

-- The oldest tenant

-- one that is no second half finds nothing that waits
alone : (b : Pipeline) (w : Station) → StandsForSome b → b.over ≡ None → slice_get b.window 0 ≡ Some w →
    ((t : Tenant) (ts : List Tenant) → is_first b.program.now t ≡ is_first_half w.instr.op w.half → instr b.program.now t ≡ w.instr →
    IsSound b.program.now (t ∷ ts) → IsInPlace b.program.now ts t → t.half ≡ Low) → b.low ≡ None
alone b w h none e low = go (found P U 0 w (ap (λ W. slice_get W 0) (sym h.stands.window) ∙ e))
  where
    P : Program
    P = b.program.now

    U : List Tenant
    U = h.unit.tenants

    sound' : IsSound P U
    sound' = sound_of P (sizes b) h.unit h.reached

    over' : AllByRecursion IsNoRetiredStop U × AreQuiescent U
    over' = subst (OverIs U) none h.stands.over

    go : Found P U 0 w → b.low ≡ None
    go d = grind (arith, common_steps, none_low, sound', sound_from, all_from, low_over, low_if, live_not, half_worth)

-- a first half that leaves
pub first_alone : (b : Pipeline) (w : Station) → StandsForSome b → b.over ≡ None → slice_get b.window 0 ≡ Some w → is_first_half w.instr.op w.half ≡ true → b.low ≡ None
first_alone b w h none e q = alone b w h none e (λ t ts same is s p. first_low b.program.now t (same ∙ q))

-- an instruction that is no pair
pub whole_alone : (b : Pipeline) (w : Station) → StandsForSome b → b.over ≡ None → slice_get b.window 0 ≡ Some w → is_pair w.instr.op ≡ false → b.low ≡ None
whole_alone b w h none e q = grind (arith, common_steps, alone, fetched_at, whole_behind)

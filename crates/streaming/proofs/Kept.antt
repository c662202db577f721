-- What completed instructions keep gives back the registers that the oldest found.
use Rattle.std.proofs.lemmas.Grind.{common_steps}
use Rattle.std.proofs.Common.{◌≡◌, ◌≢◌, ◌<◌, ℕ, zero, suc, cond, List, [], ◌∷◌, ◌++◌, drop, Option, Some, None, refl, sym, ap, ◌∙◌, subst, arith}
use Rattle.std.specs.Prelude.{slice_get, slice_index, slice_set, unwrap_or}
use Rattle.instructions.specs.Instruction.{destination, destination_by, kind, second_of, target_of}
use Rattle.instructions.specs.Programs.{Program, instr_at}
use Rattle.instructions.specs.declared.instr.Instr.{Instr}
use Rattle.instructions.specs.declared.op.Half.{Half}
use Rattle.instructions.specs.declared.op.Kind.{Kind}
use Rattle.instructions.specs.Registers.{lo}
use Rattle.inorder.specs.Committed.{with_low}
use Rattle.inorder.specs.Loads.{is_store}
use Rattle.inorder.specs.Machine.{write}
use Rattle.inorder.proofs.SettledRegisters.{register_zero}
use Rattle.one_thread.specs.Changes.{registers_of}
use Rattle.streaming.specs.CompletedRing.{instr_there, made_by, stage_by, station_in}
use Rattle.streaming.specs.Departing.{memory_kept}
use Rattle.streaming.specs.Futures.{Foresees}
use Rattle.streaming.specs.Kept.{HasKept, HaveKept, kept_of, kept_with, registers_before, registers_with, with_held}
use Rattle.one_thread.specs.Leaves.{memory_with}
use Rattle.one_thread.specs.StandsFor.{StandsForSome}
use Rattle.one_thread.specs.Window.{source_in}
use Rattle.streaming.specs.declared.completed_ring.Completed.{Completed}
use Rattle.streaming.specs.declared.future.Future.{Future}
use Rattle.one_thread.specs.declared.pipeline.Pipeline.{Pipeline}
use Rattle.one_thread.specs.declared.station.Station.{Station}
use Rattle.streaming.proofs.Completions.{station_is}
use Rattle.one_thread.proofs.Known.{ahead_stands}
use Rattle.one_thread.proofs.Sources.{source_by}

-- A register is written, and what it held is put back

set_back_to : (xs : List ℕ) (k v : ℕ) → slice_set (slice_set xs k v) k (slice_index xs k) ≡ xs
set_back_to [] k v = refl
set_back_to (x ∷ xs) zero v = refl
set_back_to (x ∷ xs) (suc k) v = ap (λ l. x ∷ l) (set_back_to xs k v)

pub write_back : (xs : List ℕ) (r v held : ℕ) → held ≡ slice_index xs r → write (write xs r v) r held ≡ xs
write_back xs r v held e = grind (arith, common_steps, set_back_to)

given_back_by : (k : Kind) (target content value held : ℕ) (registers : List ℕ) →
    held ≡ cond (is_store k) content (slice_index registers (destination_by k target)) →
    write (write registers (destination_by k target) value) (destination_by k target) held ≡ registers
given_back_by k target content value held registers e = grind (arith, common_steps, write_back)

pub given_back : (i : Instr) (half : Half) (value held : ℕ) (registers : List ℕ) → held ≡ kept_of i half registers →
    write (write registers (destination i half) value) (destination i half) held ≡ registers
given_back i half value held registers e = grind (arith, common_steps, given_back_by)

-- All are

pub undone : (P : Program) (registers : List ℕ) (cs : List Completed) (values : List ℕ) → HaveKept P registers cs values → registers_before P cs values ≡ registers
undone P registers [] values h = sym h
undone P registers (c ∷ cs) values h =
    ap (λ l. write l (station_in P c).destination c.kept) (undone P (registers_with P c registers) cs values h.1)
    ∙ given_back (instr_there P c.pc) c.half c.value c.kept registers h.0.kept

-- one after the other, the youngest first

drop_at : (cs : List Completed) (i : ℕ) (c : Completed) → slice_get cs i ≡ Some c → drop i cs ≡ c ∷ drop (suc i) cs
drop_at [] i c e = absurd (cc e)
drop_at (d ∷ cs) zero c e = let same : d ≡ c = cc e in ap (λ x. x ∷ cs) same
drop_at (d ∷ cs) (suc i) c e = drop_at cs i c e

pub before_at : (P : Program) (cs : List Completed) (values : List ℕ) (i n : ℕ) (c : Completed) (instr : Instr) → slice_get cs i ≡ Some c → instr_at P c.pc ≡ Some instr → n ≡ suc i →
    registers_before P (drop i cs) values ≡ write (registers_before P (drop n cs) values) (destination instr c.half) c.kept
before_at P cs values i n c instr e is next = grind (arith, common_steps, drop_at, station_is)

pub write_set : (xs : List ℕ) (r v : ℕ) → r ≢ 0 → slice_set xs r v ≡ write xs r v
write_set xs r v n = grind (arith, common_steps)

-- One instruction more

pub kept_more : (P : Program) (registers : List ℕ) (cs : List Completed) (values : List ℕ) (c : Completed) → HaveKept P registers cs values → HasKept (instr_there P c.pc) c values →
    HaveKept P registers (cs ++ c ∷ []) (registers_with P c values)
kept_more P registers [] values c h k = (subst (HasKept (instr_there P c.pc) c) (sym h) k, ap (registers_with P c) h)
kept_more P registers (d ∷ cs) values c h k = (h.0, kept_more P (registers_with P d registers) cs values c h.1 k)

-- The oldest has left

pub kept_less : (P : Program) (registers : List ℕ) (cs : List Completed) (values : List ℕ) (c : Completed) → slice_get cs 0 ≡ Some c → HaveKept P registers cs values →
    HasKept (instr_there P c.pc) c registers × HaveKept P (registers_with P c registers) (drop 1 cs) values
kept_less P registers [] values c e h = absurd (cc e)
kept_less P registers (d ∷ cs) values c e h = grind (arith, common_steps)

-- what it stores is what it has kept
memory_same_by : (k : Kind) (i : Instr) (value kept read : ℕ) (registers memory : List ℕ) → kept ≡ cond (is_store k) (unwrap_or (source_in registers [] (second_of i)) 0) read →
    memory_kept i.op (stage_by k value) kept memory ≡ memory_with i (stage_by k value) registers memory
memory_same_by k i value kept read registers memory e = grind (arith, common_steps)

pub memory_same : (i : Instr) (half : Half) (value kept : ℕ) (registers memory : List ℕ) → kept ≡ kept_of i half registers →
    memory_kept i.op (stage_by (kind i.op) value) kept memory ≡ memory_with i (stage_by (kind i.op) value) registers memory
memory_same i half value kept registers memory e = memory_same_by (kind i.op) i value kept (slice_index registers (destination i half)) registers memory e

-- and what it has made is its value
value_written_by : (k : Kind) (target value : ℕ) (registers : List ℕ) → write registers (destination_by k target) value ≡ write registers (destination_by k target) (unwrap_or (made_by k value) 0)
value_written_by k target value registers = grind (arith, common_steps)

pub value_written : (i : Instr) (half : Half) (value : ℕ) (registers : List ℕ) →
    write registers (destination i half) value ≡ write registers (destination i half) (unwrap_or (made_by (kind i.op) value) 0)
value_written i half value registers = value_written_by (kind i.op) (target_of i half) value registers

-- The registers that the next instruction finds are all there

pub read_now : (f : Future) (registers : List ℕ) (pc : ℕ) (W : List Station) (r : ℕ) → Foresees f registers pc W → r < 34 → unwrap_or (source_in f.values [] r) 0 ≡ slice_index f.values r
read_now f registers pc W r h l = grind (arith, common_steps, source_by)

pub kept_now : (f : Future) (registers : List ℕ) (pc : ℕ) (W : List Station) (i : Instr) (half : Half) (content : ℕ) → Foresees f registers pc W → second_of i < 34 →
    content ≡ slice_index f.values (second_of i) → kept_with i half content f.values ≡ kept_of i half f.values
kept_now f registers pc W i half content h l same = grind (arith, common_steps, read_now)

-- Where nobody is live

pub zero_held : (b : Pipeline) → StandsForSome b → slice_index (registers_of b) 0 ≡ 0
zero_held b h = ap (λ s. slice_index s.registers 0) (ahead_stands b h.unit h.reached h.stands) ∙ register_zero b.program.now h.unit.tenants

pub set_zero : (xs : List ℕ) → slice_index xs 0 ≡ 0 → slice_set xs 0 0 ≡ xs
set_zero xs e = grind (arith, common_steps)

pub held_back : (low : Option ℕ) (held : ℕ) (registers : List ℕ) → held ≡ slice_index registers lo → with_held low held (with_low low registers) ≡ registers
held_back None held registers e = refl
held_back (Some v) held registers e = write_back registers lo v held e

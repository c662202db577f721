-- Completed instructions, and the stations that they stand for.
use Rattle.std.proofs.Common.{arith}
use Rattle.std.proofs.lemmas.Grind.{common_steps}
use Rattle.std.proofs.Common.{rules, ◌≡◌, ℕ, zero, suc, true, List, [], ◌∷◌, ◌++◌, length, drop, Option, Some, refl, sym, ap, ⊎_elim}
use Rattle.std.specs.Prelude.{is_some, slice_get, unwrap_or}
use Rattle.instructions.specs.Instruction.{destination, is_first_half}
use Rattle.instructions.specs.Programs.{Program, instr_at}
use Rattle.instructions.specs.Registers.{lo}
use Rattle.instructions.specs.declared.instr.Instr.{Instr}
use Rattle.instructions.specs.declared.op.Half.{Half}
use Rattle.one_thread.specs.Decoding.{HasInstr, IsDecoded}
use Rattle.streaming.specs.Flow.{AreThere, HasCompleted, WritesLow}
use Rattle.streaming.specs.CompletedRing.{instr_there, station_by, station_in, stations}
use Rattle.streaming.specs.declared.completed_ring.Completed.{Completed}
use Rattle.one_thread.proofs.Found.{get_append}

-- What they have made

-- a first half writes LO
pub low_destination : (i : Instr) (half : Half) → is_first_half i.op half ≡ true → destination i half ≡ lo
low_destination i half e = search rules

pub has_completed : (i : Instr) (c : Completed) → HasCompleted (station_by i c) × WritesLow (station_by i c)
has_completed i c = search rules

-- Their stations

pub instr_is : (P : Program) (pc : ℕ) (i : Instr) → instr_at P pc ≡ Some i → instr_there P pc ≡ i
instr_is P pc i e = ap (λ o. unwrap_or o (record { op = Rattle.instructions.specs.declared.op.Op.TheVariants.Break; target = 0; first = 0; second = 0; number = 0 })) e

pub station_is : (P : Program) (c : Completed) (i : Instr) → instr_at P c.pc ≡ Some i → station_in P c ≡ station_by i c
station_is P c i e = ap (λ n. station_by n c) (instr_is P c.pc i e)

pub stations_more : (P : Program) (cs : List Completed) (c : Completed) → stations P (cs ++ c ∷ []) ≡ stations P cs ++ station_in P c ∷ []
stations_more P [] c = refl
stations_more P (d ∷ cs) c = ap (λ l. station_in P d ∷ l) (stations_more P cs c)

pub stations_less : (P : Program) (cs : List Completed) → stations P (drop 1 cs) ≡ drop 1 (stations P cs)
stations_less P cs = grind (arith, common_steps)

pub stations_long : (P : Program) (cs : List Completed) → length (stations P cs) ≡ length cs
stations_long P [] = refl
stations_long P (c ∷ cs) = ap suc (stations_long P cs)

pub stations_get : (P : Program) (cs : List Completed) (k : ℕ) (c : Completed) → slice_get cs k ≡ Some c → slice_get (stations P cs) k ≡ Some (station_in P c)
stations_get P [] k c e = absurd (cc e)
stations_get P (d ∷ cs) zero c e = ap (λ o. Some (station_in P (unwrap_or o d))) e
stations_get P (d ∷ cs) (suc k) c e = stations_get P cs k c e

-- An instruction stands at their addresses

pub there_more : (P : Program) (cs : List Completed) (c : Completed) (i : Instr) → AreThere P cs → instr_at P c.pc ≡ Some i → AreThere P (cs ++ c ∷ [])
there_more P cs c i h e k d g = ⊎_elim (λ q. h k d q) (λ q. rw (sym q.1) (ap is_some e)) (get_append cs c d k g)

pub there_less : (P : Program) (cs : List Completed) → AreThere P cs → AreThere P (drop 1 cs)
there_less P [] h k d g = absurd (cc g)
there_less P (c ∷ cs) h k d g = h (suc k) d g

pub some_there : (o : Option Instr) → is_some o ≡ true → (i : Instr) × (o ≡ Some i)
some_there o e = grind (arith, common_steps)

pub has_instr : (P : Program) (code : List Instr) (pc : ℕ) → IsDecoded code P → is_some (instr_at P pc) ≡ true → HasInstr code pc
has_instr P code pc d e = search (rules, some_there)

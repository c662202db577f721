-- The path of a unit, as the front keeps it.
use Rattle.std.specs.Prelude.{ℕ, Bool, true, false, List, [], ◌∷◌, ◌++◌, length, is_none, if◌then◌else◌}
use Rattle.instructions.specs.Instruction.{fixed_next, is_access}
use Rattle.instructions.specs.Programs.{Program}
use Rattle.instructions.specs.declared.op.Kind.{Kind}
use Rattle.instructions.specs.declared.op.Kind.TheVariants.{Links}
use Rattle.inorder.specs.Tenants.{Tenant, destination_of, instr, is_first, kind_of, on_path}
use Rattle.front.specs.declared.path.record.Record.{Record}

-- A jump that links makes its return address
abbrev pub is_link : Kind → Bool
is_link Links = true
is_link _ = false

-- A predictor is asked for its next pc
abbrev pub is_guessed : Program → Tenant → Bool
is_guessed P t = is_none (fixed_next (instr P t) t.half t.pc)

-- The record that the front keeps of a tenant: no step of others changes it
abbrev pub record_of : Program → Tenant → Record
record_of P t =
    record {
      station = t.station;
      tag = t.tag;
      pc = t.pc;
      next = t.next;
      destination = destination_of P t;
      links = is_link (kind_of P t);
      first = is_first P t;
      access = is_access (kind_of P t);
      guessed = is_guessed P t;
    }

-- A tenant of the path: its position in the unit, and what the front keeps of it
pub record Note : Type 0 where
  pub at : ℕ
  pub what : Record

-- The note of tenant t, with ts before it
abbrev pub note : Program → List Tenant → Tenant → Note
note P ts t = record { at = length ts; what = record_of P t }

-- The path, the oldest tenant first
abbrev pub trail : Program → List Tenant → List Note
trail P [] = []
trail P (t ∷ ts) = if on_path t then trail P ts ++ note P ts t ∷ [] else trail P ts

-- The stores of a flow have their addresses.
use Rattle.std.proofs.lemmas.Grind.{common_steps}
use Rattle.std.proofs.Common.{◌≡◌, ℕ, zero, suc, Bool, true, false, cond, ◌&&◌, List, [], ◌∷◌, ◌++◌, length, take, Option, Some, None, refl, ap, ◌∙◌, arith}
use Rattle.std.specs.Prelude.{is_none, slice_get}
use Rattle.instructions.specs.Instruction.{kind}
use Rattle.instructions.specs.Programs.{Program}
use Rattle.instructions.specs.declared.op.Kind.{Kind}
use Rattle.inorder.specs.Loads.{is_store}
use Rattle.lsq.specs.LoadRule.{lacks_address, or_older, youngest}
use Rattle.lsq.specs.declared.entry.Entry.{Entry}
use Rattle.lsq.proofs.Youngest.{youngest_from-snoc}
use Rattle.streaming.specs.CompletedRing.{stage_by, station_in, stations, store_at, stores}
use Rattle.one_thread.specs.Loads.{address_of, entry_behind, with_entry}
use Rattle.streaming.specs.declared.completed_ring.Completed.{Completed}
use Rattle.one_thread.specs.declared.station.Station.{Station}

and_no : (b : Bool) → (b && false) ≡ false
and_no b = grind (arith, common_steps)

has_address : (k : Kind) (v : ℕ) → is_store k ≡ true → is_none (address_of (stage_by k v)) ≡ false
has_address k v e = grind (arith, common_steps)

pub record IsStationOf (P : Program) (w : Station) : Type 0 where
  pub completed : Completed
  pub is : station_in P completed ≡ w

station_made : (P : Program) (cs : List Completed) (n : ℕ) (w : Station) → slice_get (stations P cs) n ≡ Some w → IsStationOf P w
station_made P [] n w e = absurd (cc e)
station_made P (c ∷ cs) zero w e = record { completed = c; is = cc e }
station_made P (c ∷ cs) (suc n) w e = station_made P cs n w e

known_more : (es : List Entry) (e : Entry) → lacks_address e ≡ false → youngest lacks_address es ≡ None → youngest lacks_address (es ++ e ∷ []) ≡ None
known_more es e l h =
    youngest_from-snoc lacks_address es e 0 (length es) (omega arith)
    ∙ ap (λ b. or_older (cond b (Some (length es, e)) None) (youngest lacks_address es)) l
    ∙ h

module _ (P : Program) (registers : List ℕ) (cs : List Completed) (n : ℕ) (before : youngest lacks_address (stores registers (stations P cs) n) ≡ None) where
  known_by : (w : Station) → IsStationOf P w → (b : Bool) → is_store (kind w.instr.op) ≡ b →
      youngest lacks_address (with_entry (stores registers (stations P cs) n) (cond b (Some (entry_behind registers (take n (stations P cs)) w)) None)) ≡ None
  known_by w d h2 q = grind (arith, common_steps, has_address, known_more, and_no)

  known_at : (o : Option Station) → slice_get (stations P cs) n ≡ o → youngest lacks_address (with_entry (stores registers (stations P cs) n) (store_at registers (stations P cs) o n)) ≡ None
  known_at o e = grind (arith, common_steps, known_by, station_made)

pub stores_known : (P : Program) (registers : List ℕ) (cs : List Completed) (n : ℕ) → youngest lacks_address (stores registers (stations P cs) n) ≡ None
stores_known P registers cs zero = refl
stores_known P registers cs (suc n) = known_at P registers cs n (stores_known P registers cs n) (slice_get (stations P cs) n) refl

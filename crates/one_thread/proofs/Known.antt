-- What a unit is known to be, where the fields stand for it.
use Rattle.std.proofs.Common.{◌≡◌, List, ◌∷◌, ◌++◌, None, sym, ap, ◌∙◌, subst}
use Rattle.std.specs.List.{AllByRecursion}
use Rattle.inorder.specs.Committed.{ahead, ahead_by, committed}
use Rattle.inorder.specs.Steps.{IsNoRetiredStop}
use Rattle.inorder.specs.Tenants.{Live, Tenant}
use Rattle.inorder.specs.Unit.{UpdateUnit}
use Rattle.inorder.proofs.Sound.{IsSound}
use Rattle.inorder.specs.Moves.{IsReached}
use Rattle.inorder.specs.Quiescent.{AreQuiescent}
use Rattle.inorder.proofs.OneCaller.Left.{ahead_middle}
use Rattle.inorder.proofs.OneCaller.Sequences.{sound_of}
use Rattle.one_thread.specs.declared.pipeline.Pipeline.{Pipeline}
use Rattle.one_thread.specs.Changes.{ahead_of, registers_of}
use Rattle.one_thread.specs.StandsFor.{OverIs, StandsFor, sizes}
use Rattle.one_thread.proofs.Waiting.{ahead_low}

-- the fields have what a new tenant finds
pub ahead_stands : (b : Pipeline) (U : UpdateUnit) → IsReached b.program.now (sizes b) U → StandsFor b U → ahead_of b ≡ ahead b.program.now U.tenants
ahead_stands b U r s =
    ap (ahead_by b.low) s.committed
    ∙ ap (λ l. ahead_by l (committed b.program.now U.tenants)) s.low
    ∙ sym (ahead_low b.program.now U.tenants (sound_of b.program.now (sizes b) U r))

-- what the unit is known to be, where the fields stand for it
pub record Knows (b : Pipeline) (U : UpdateUnit) : Type 0 where
  pub sound : IsSound b.program.now U.tenants
  pub stops : AllByRecursion IsNoRetiredStop U.tenants
  pub still : AreQuiescent U.tenants
  pub registers : registers_of b ≡ (ahead b.program.now U.tenants).registers

pub knows : (b : Pipeline) (U : UpdateUnit) → b.over ≡ None → IsReached b.program.now (sizes b) U → StandsFor b U → Knows b U
knows b U none r s =
    let over : AllByRecursion IsNoRetiredStop U.tenants × AreQuiescent U.tenants = subst (OverIs U.tenants) none s.over in
    record { sound = sound_of b.program.now (sizes b) U r; stops = over.0; still = over.1; registers = ap (λ c. c.registers) (ahead_stands b U r s) }

-- the split of a unit at a live tenant that was found
pub record IsSplit (b : Pipeline) (ys : List Tenant) (t : Tenant) (ts : List Tenant) : Type 0 where
  pub sound : IsSound b.program.now (ys ++ t ∷ ts)
  pub stops : AllByRecursion IsNoRetiredStop (ys ++ t ∷ ts)
  pub still : AreQuiescent (ys ++ t ∷ ts)
  pub registers : registers_of b ≡ (ahead b.program.now (ys ++ t ∷ ts)).registers
  pub before : registers_of b ≡ (ahead b.program.now ts).registers

pub split_of : (b : Pipeline) (U : UpdateUnit) (ys : List Tenant) (t : Tenant) (ts : List Tenant) → Knows b U → U.tenants ≡ ys ++ t ∷ ts → t.standing ≡ Live → IsSplit b ys t ts
split_of b U ys t ts k e live =
    let P = b.program.now in
    let s = subst (IsSound P) e k.sound in
    let g = k.registers ∙ ap (λ X. (ahead P X).registers) e in
    record {
      sound = s;
      stops = subst (AllByRecursion IsNoRetiredStop) e k.stops;
      still = subst AreQuiescent e k.still;
      registers = g;
      before = g ∙ ap (λ c. c.registers) (ahead_middle P ys t ts live s);
    }

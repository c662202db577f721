-- Units in which nothing is on its way.
use Rattle.std.specs.Prelude.{⊤, ◌≡◌, Bool, List, [], ◌∷◌, None}
use Rattle.inorder.specs.Tenants.{Busy, Fate, Guessed, Linked, Operand, Tenant}
use Rattle.inorder.specs.Unit.{value_of}

-- A link was asked for
abbrev pub WasLinked : Operand → Type 0
WasLinked o = (in_time : Bool) × (o.way ≡ Linked in_time)

-- A source holds what its creator has made, or is linked while that has made nothing
pub record SourceIsQuiescent (ts : List Tenant) (o : Operand) : Type 0 where
  pub value : o.value ≡ value_of ts o.creator
  pub way : o.value ≡ None → WasLinked o

-- A tenant of this fate is not claimed, or is finished, and has no guess
abbrev pub IsNotBusy : Fate → Type 0
IsNotBusy (Busy by) = ⊥
IsNotBusy (Guessed v) = ⊥
IsNotBusy _ = ⊤

-- Every delivery that is permitted was made, and nobody is busy or has guessed
abbrev pub AreQuiescent : List Tenant → Type 0
AreQuiescent [] = ⊤
AreQuiescent (t ∷ ts) = (SourceIsQuiescent ts t.first × SourceIsQuiescent ts t.second × IsNotBusy t.fate) × AreQuiescent ts

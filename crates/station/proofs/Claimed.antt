-- What a claim has found.
use Rattle.std.proofs.Common.{ℕ, List}
use Rattle.instructions.specs.Programs.{Program}
use Rattle.inorder.specs.declared.history.Entry.{Entry}
use Rattle.inorder.specs.declared.history.Source.{Source}
use Rattle.inorder.specs.declared.history.Source.TheVariants.{First, Second}
use Rattle.inorder.specs.History.{unit_of}
use Rattle.inorder.specs.Tenants.{Tenant}
use Rattle.inorder.specs.Unit.{Sizes}
use Rattle.ruu_words.specs.Kinds.{IsTenant}
use Rattle.ruu_words.proofs.Reading.{IsNext as IsNextThere}
use Rattle.station.specs.Claiming.{IsNext}

next_there : (P : Program) (k : Source) (t : Tenant) → IsNext P k t → IsNextThere P k t
next_there P First t n = tt
next_there P Second t n = n

pub next_named : (P : Program) (C : Sizes) (h : List Entry) (p s g : ℕ) (k : Source) → IsTenant (unit_of P C h) p s g (IsNext P k) → IsTenant (unit_of P C h) p s g (IsNextThere P k)
next_named P C h p s g k i = record { tenant = i.tenant; is = i.is; new = i.new; station_is = i.station_is; tag_is = i.tag_is; fact = next_there P k i.tenant i.fact }

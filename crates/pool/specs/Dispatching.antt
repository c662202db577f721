-- The hints of the dispatch thread.
use Rattle.std.specs.Prelude.{◌≡◌, ◌+◌, ◌%◌, ◌^◌, ℕ, List}
use Rattle.counts.specs.declared.tally.Total.TheVariants.{Lets}
use Rattle.front.specs.Turns.{LetsOut}
use Rattle.hints.specs.Hinted.{TheHinter}
use Rattle.inorder.specs.declared.history.Entry.{Entry}
use Rattle.inorder.specs.History.{front}
use Rattle.pool.specs.declared.dispatch.Stepped.{Stepped}
use Rattle.pool.specs.declared.dispatch.Stepped.TheVariants.{Worked}
use Rattle.station.specs.Seats.{TheCore}
use Rattle.workers.specs.Deeds.{deeds}
use Rattle.workers.specs.Hinting.{HasHintedOne}

-- A tenant was let, and its station was hinted
pub record HasHintedLet (core : TheCore) (seen_old seen_new : List Entry) (old new : TheHinter) : Type 0 where
  pub station : ℕ
  pub tag : ℕ
  pub pc : ℕ
  pub predicted : ℕ
  pub lets : LetsOut core.program core.sizes seen_old seen_new station tag pc predicted
  pub hinted : HasHintedOne station old new

-- The station of an instruction that was let is hinted, and without one none is
abbrev pub HintsLet : TheCore → (seen_old seen_new : List Entry) → Stepped → TheHinter → TheHinter → Type 0
HintsLet core seen_old seen_new Worked old new = HasHintedLet core seen_old seen_new old new
HintsLet core seen_old seen_new _ old new = new ≡ old

-- As many hints were offered as the front has let, modulo 2^64
abbrev pub OffersLets : (seen_old seen_new : List Entry) → TheHinter → TheHinter → Type 0
OffersLets seen_old seen_new old new =
    (old.offered + deeds Lets front seen_new) % 2 ^ 64 ≡ (new.offered + deeds Lets front seen_old) % 2 ^ 64

-- What the next tenant finds after stations that have made what they write.
use Rattle.std.specs.Prelude.{◌≡◌, ◌≢◌, ◌<◌, ℕ, List, [], ◌∷◌, ◌++◌, true, length, Option, Some, is_some, slice_index}
use Rattle.streaming.specs.declared.future.Future.{Future}
use Rattle.one_thread.specs.declared.station.Station.{Station}
use Rattle.one_thread.specs.Window.{next_in, source_in}

-- What each register holds after stations that have made what they write, and where the path goes on
pub record Foresees (f : Future) (registers : List ℕ) (pc : ℕ) (W : List Station) : Type 0 where
  pub all : length f.values ≡ 34
  pub values : (r : ℕ) → r < 34 → source_in registers W r ≡ Some (slice_index f.values r)
  pub path : f.pc ≡ next_in pc W

-- The future after any station more that writes this register, has made this for it and goes on there
pub record GoesOnBehind (f : Future) (destination : ℕ) (value : Option ℕ) (next : ℕ) (later : Future) : Type 0 where
  pub made : destination ≢ 0 → is_some value ≡ true
  pub on : (w : Station) → w.destination ≡ destination → w.made ≡ value → w.next ≡ next → (registers : List ℕ) (pc : ℕ) (W : List Station) →
      Foresees f registers pc W → Foresees later registers pc (W ++ w ∷ [])

-- The first station of a window that gives something. What it gives may depend on the stations before it.
use Rattle.std.specs.Prelude.{◌≡◌, ◌<◌, ℕ, Bool, true, false, List, length, take, Option, Some, None, slice_get}
use Rattle.one_thread.specs.declared.station.Station.{Station}

-- What a station gives after the first i of a list
abbrev pub given_at : {X : Type 0} → (List Station → Station → Option X) → List Station → Option Station → ℕ →
    Option X
given_at give W None i = None
given_at give W (Some w) i = give (take i W) w

-- What station i gives
abbrev pub gives : {X : Type 0} → (List Station → Station → Option X) → List Station → ℕ → Option X
gives give W i = given_at give W (slice_get W i) i

-- No station gives anything
abbrev pub NoneGives : {X : Type 0} → (List Station → Station → Option X) → List Station → Type 0
NoneGives give W = (k : ℕ) → k < length W → gives give W k ≡ None

-- Station i is the first that gives something, and gives x
pub record FirstGives {X : Type 0} (give : List Station → Station → Option X) (W : List Station) (i : ℕ) (x : X)
    : Type 0 where
  pub inside : i < length W
  pub here : gives give W i ≡ Some x
  pub first : (k : ℕ) → k < i → gives give W k ≡ None

-- One fact where it holds, another where it does not
abbrev pub Chosen : Bool → Type 0 → Type 0 → Type 0
Chosen true A B = A
Chosen false A B = B

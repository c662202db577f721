-- What a window knows of its stations stays right.
use Rattle.std.proofs.lemmas.Grind.{common_steps}
use Rattle.std.proofs.Common.{◌≡◌, ◌<◌, ◌≤◌, ℕ, Bool, false, List, [], ◌∷◌, ◌++◌, length, take, Option, Some, None, sym, ap, ◌∙◌}
use Rattle.std.proofs.Common.{⊎_elim, arith, length-append}
use Rattle.std.specs.Prelude.{slice_get}
use Rattle.std.proofs.lemmas.Bool.{cases_lt}
use Rattle.one_thread.specs.declared.station.Station.{Station}
use Rattle.one_thread.specs.Producers.{NoneGives, given_at, gives}
use Rattle.one_thread.specs.Notes.{AreNoted, AreSettled, miss_in}
use Rattle.one_thread.specs.Window.{miss_of}
use Rattle.one_thread.proofs.Scan.{get_end, get_left}

-- a miss is one by its stage alone
abbrev pub miss_at : Option Station → Option ℕ
miss_at None = None
miss_at (Some w) = miss_of w.stage

pub miss_gives : (W : List Station) (k : ℕ) → gives miss_in W k ≡ miss_at (slice_get W k)
miss_gives W k = grind (arith, common_steps)

-- what a station gives
pub given_station : {X : Type 0} → (give : List Station → Station → Option X) (W : List Station) (i : ℕ) (w : Station) (x : X) → slice_get W i ≡ Some w → gives give W i ≡ Some x →
    give (take i W) w ≡ Some x
given_station give W i w x e h = sym (ap (λ o. given_at give W o i) e) ∙ h

-- Another station at a place

-- A station joins

settled_more : (W : List Station) (n : ℕ) (w : Station) → AreSettled n W → AreSettled n (W ++ w ∷ [])
settled_more W n w s = grind (arith, common_steps, length-append, get_left)

none_more : (W : List Station) (w : Station) → miss_of w.stage ≡ None → NoneGives miss_in W → NoneGives miss_in (W ++ w ∷ [])
none_more W w m h k l = miss_gives (W ++ w ∷ []) k ∙ ⊎_elim (λ q. left q) (λ q. last q) (cases_lt k (length W))
  where
    left : k < length W → miss_at (slice_get (W ++ w ∷ []) k) ≡ None
    left q = ap miss_at (get_left W (w ∷ []) k q) ∙ sym (miss_gives W k) ∙ h k q

    last : length W ≤ k → miss_at (slice_get (W ++ w ∷ []) k) ≡ None
    last q = let same : k ≡ length W = omega (arith, l, q, length-append W (w ∷ [])) in ap (λ j. miss_at (slice_get (W ++ w ∷ []) j)) same ∙ ap miss_at (get_end W [] w) ∙ m

pub noted_more : (missed later : Bool) (n : ℕ) (W : List Station) (w : Station) → AreNoted missed n W → (later ≡ false → (missed ≡ false) × (miss_of w.stage ≡ None)) →
    AreNoted later n (W ++ w ∷ [])
noted_more missed later n W w s h = record { no_miss = λ e. let none = h e in none_more W w none.1 (s.no_miss none.0); are_settled = settled_more W n w s.are_settled }

-- The oldest miss and all after it are gone

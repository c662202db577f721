-- Which stations were hinted.
use Rattle.std.proofs.Common.{◌≡◌, ℕ, ◌+◌, ◌<◌, ◌≤◌, Bool, true, false, IsTrue, IsFalse, List, [], ◌∷◌, ◌++◌, ◌∙◌, inl, inr, refl, ap, sym, suc, arith}
use Rattle.std.proofs.lemmas.List.{append_assoc, append-nil}
use Rattle.std.proofs.lemmas.List.Elements.{All-nil, All-push}
use Rattle.std.specs.Int.{bit_at}
use Rattle.std.specs.Prelude.{All}
use Rattle.hints.specs.Hinted.{HasOffered, TheHinter, deal, putting}
use Rattle.workers.specs.Hinting.{HasHinted, HasHintedOne, Rises, set_below}
use Rattle.station.specs.Waking.{IsSet}

-- those below a number are below the next one
further : (i : ℕ) (xs : List ℕ) → All (λ s. s < i) xs → All (λ s. s < i + 1) xs
further i xs low k d inside = let l = low k d inside in omega arith

-- one more that is above all of them
rises_on : (from i : ℕ) (xs : List ℕ) → Rises from xs → All (λ s. s < i) xs → from ≤ i → Rises from (xs ++ i ∷ [])
rises_on from i [] rising low below = (below, tt)
rises_on from i (s ∷ ss) rising low below =
    let here : s < i = low 0 s (omega arith) in
    (rising.0, rises_on (s + 1) i ss rising.1 (λ k d inside. low (suc k) d (omega arith)) (omega arith))

-- one station more
set_next : (woken i : ℕ) → set_below woken (i + 1) ≡ set_below woken i + bit_at woken i
set_next woken i = let next : i + 1 ≡ suc i = omega arith in ap (set_below woken) next

-- none yet
pub none_hinted : (woken : ℕ) (v : TheHinter) → HasHinted woken 0 v v
none_hinted woken v =
    record {
      of = refl;
      stations = [];
      set = All-nil (IsSet woken);
      rising = tt;
      inside = All-nil (λ s. s < 0);
      put = ap (λ xs. deal xs v.deal.taken) (sym (append-nil v.deal.put));
      offered = omega arith;
      asked = refl;
    }

-- the next station is not to be hinted
pub passed : (woken i : ℕ) (old new : TheHinter) → bit_at woken i ≡ 0 → HasHinted woken i old new → HasHinted woken (i + 1) old new
passed woken i old new clear h =
    record {
      of = h.of;
      stations = h.stations;
      set = h.set;
      rising = h.rising;
      inside = further i h.stations h.inside;
      put = h.put;
      offered = (let next = set_next woken i in omega (arith, next, h.offered, clear));
      asked = h.asked;
    }

-- the next station found the queue full
dropped : (woken i : ℕ) (old new then : TheHinter) → IsSet woken i → then.of ≡ new.of → then.deal ≡ new.deal → HasOffered new then →
    HasHinted woken i old new → HasHinted woken (i + 1) old then
dropped woken i old new then set of kept once h =
    record {
      of = of ∙ h.of;
      stations = h.stations;
      set = h.set;
      rising = h.rising;
      inside = further i h.stations h.inside;
      put = kept ∙ h.put;
      offered = (let next = set_next woken i in omega (arith, next, h.offered, once.once, set));
      asked = once.asked ∙ h.asked;
    }

-- the next station was hinted
hinted : (woken i : ℕ) (old new then : TheHinter) → IsSet woken i → then.of ≡ new.of → then.deal ≡ putting i new.deal → HasOffered new then →
    HasHinted woken i old new → HasHinted woken (i + 1) old then
hinted woken i old new then set of put once h =
    record {
      of = of ∙ h.of;
      stations = h.stations ++ i ∷ [];
      set = All-push (IsSet woken) h.stations i h.set set;
      rising = rises_on 0 i h.stations h.rising h.inside (omega arith);
      inside = All-push (λ s. s < i + 1) h.stations i (further i h.stations h.inside) (omega arith);
      put = put ∙ ap (λ v. putting i v) h.put ∙ ap (λ xs. deal xs old.deal.taken) (append_assoc old.deal.put h.stations (i ∷ []));
      offered = (let next = set_next woken i in omega (arith, next, h.offered, once.once, set));
      asked = once.asked ∙ h.asked;
    }

-- the next station was hinted, or found the queue full
pub put_or_dropped : (woken i : ℕ) (old new then : TheHinter) (is_put : Bool) → IsSet woken i → then.of ≡ new.of → (IsTrue is_put → then.deal ≡ putting i new.deal)
    → (IsFalse is_put → then.deal ≡ new.deal) → HasOffered new then → HasHinted woken i old new → HasHinted woken (i + 1) old then
put_or_dropped woken i old new then true set of put kept once h = hinted woken i old new then set of (put refl) once h
put_or_dropped woken i old new then false set of put kept once h = dropped woken i old new then set of (kept refl) once h

-- What is kept of a tenant names it.
use Rattle.std.proofs.Common.{◌≡◌, ℕ, suc, ◌<◌, ◌≤◌, zero, List, [], ◌∷◌, ◌++◌, Some, sym, subst, mod-lt, arith}
use Rattle.std.specs.List.{AllByRecursion}
use Rattle.std.specs.Prelude.{slice_get}
use Rattle.instructions.specs.Programs.{Program}
use Rattle.inorder.specs.declared.history.Entry.{Entry}
use Rattle.inorder.specs.History.{IsLegal, taken_of, unit_of}
use Rattle.inorder.specs.Tenants.{Tenant}
use Rattle.inorder.specs.Unit.{Sizes, UpdateUnit, at, recent}
use Rattle.inorder.proofs.Histories.{allowed_steps}
use Rattle.inorder.proofs.Positions.{at_more}
use Rattle.inorder.proofs.Stations.{Stands as StandsRight, stands}
use Rattle.front.specs.declared.path.base_state.Base.{Base}
use Rattle.front.specs.declared.path.record.Record.{Record}
use Rattle.front.specs.Knows.{FrontKnows, Stands, whats}
use Rattle.front.specs.Trail.{Note}
use Rattle.front.proofs.Lists.{all_rest}
use Rattle.front.proofs.Places.{notes_placed}
use Rattle.front.proofs.Trails.{ArePlacedFrom, IsNoted, trail_noted}

-- a fact of all records
pub all_whats : (Q : Record → Type 0) (xs : List Note) → AllByRecursion (λ n. Q n.what) xs → AllByRecursion Q (whats xs)
all_whats Q [] a = tt
all_whats Q (x ∷ xs) a = (a.0, all_whats Q xs a.1)

pub of_whats : (Q : Record → Type 0) (xs : List Note) → AllByRecursion Q (whats xs) → AllByRecursion (λ n. Q n.what) xs
of_whats Q [] a = tt
of_whats Q (x ∷ xs) a = (a.0, of_whats Q xs a.1)

pub all_get : (Q : Record → Type 0) (xs : List Record) → AllByRecursion Q xs → (i : ℕ) (x : Record) → slice_get xs i ≡ Some x → Q x
all_get Q [] a i x e = absurd (cc e)
all_get Q (y ∷ xs) a zero x e = let same : y ≡ x = cc e in subst Q same a.0
all_get Q (y ∷ xs) a (suc i) x e = all_get Q xs a.1 i x e

pub at_past : (ys ts : List Tenant) (q : ℕ) (u : Tenant) → at ts q ≡ Some u → at (ys ++ ts) q ≡ Some u
at_past [] ts q u e = e
at_past (y ∷ ys) ts q u e = at_more y (ys ++ ts) q u (at_past ys ts q u e)

module _ (P : Program) (C : Sizes) (h : List Entry) (legal : IsLegal P C h) where
  abbrev U : UpdateUnit
  U = unit_of P C h

  pub stands_right : StandsRight C (recent U)
  stands_right = stands P C (taken_of h) (allowed_steps P C h legal)

  module _ (records : List Record) (base : Base) (Again : Note → Type 0) (k : Stands P C U records base Again) where
    pub notes_noted : AllByRecursion (IsNoted P U.tenants) k.notes
    notes_noted = all_rest (IsNoted P U.tenants) k.gone k.notes (subst (AllByRecursion (IsNoted P U.tenants)) k.path (trail_noted P U.tenants))

    -- each stands at a station
    pub notes_small : 0 < C.ring → AllByRecursion (λ n. n.what.station < C.ring) k.notes
    notes_small pos = let now = notes_placed P C U records base Again k stands_right in go now.before k.notes now.placed
      where
        go : (g : ℕ) (ns : List Note) → ArePlacedFrom C.ring g ns → AllByRecursion (λ n. n.what.station < C.ring) ns
        go g [] a = tt
        go g (n ∷ ns) a = (subst (λ z. z < C.ring) (sym a.0) (mod-lt g pos), go (suc g) ns a.1)

    pub small_stations : 0 < C.ring → AllByRecursion (λ x. x.station < C.ring) records
    small_stations pos = subst (AllByRecursion (λ x. x.station < C.ring)) (sym k.are) (all_whats (λ x. x.station < C.ring) k.notes (notes_small pos))

-- What the front knows of its path stands inside the ring
pub stations_inside : {P : Program} {C : Sizes} (h : List Entry) {records : List Record} {base : Base} {ring : ℕ} → IsLegal P C h → FrontKnows P C (unit_of P C h) records base → ring ≡ C.ring →
    2 ≤ ring → AllByRecursion (λ x. x.station < ring) records
stations_inside {P} {C} h {records} {base} legal k ring_is least =
    subst (λ n. AllByRecursion (λ x. x.station < n) records) (sym ring_is) (small_stations P C h legal records base _ k (omega (arith, ring_is, least)))

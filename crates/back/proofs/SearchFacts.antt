-- The facts of one step of the search among the older stores, made once from what the looks have answered.
use Rattle.std.proofs.Common.{◌≡◌, ◌+◌, ◌-◌, ◌%◌, ◌<◌, ◌≤◌, ℕ, [], length, ◌∙◌, subst, arith}
use Rattle.inorder.specs.History.{back}
use Rattle.inorder.specs.OneHistory.{Adds}
use Rattle.lsq.specs.declared.entry.Entry.{Entry as QueueEntry}
use Rattle.station.specs.Seats.{Caller, IsSameSeat, TheCore}
use Rattle.back.specs.Backs.{SeesMore, unit_in}
use Rattle.back.specs.Port.{AtStation, IsEntryOf, IsEntryThere, station_behind}
use Rattle.back.proofs.Seeing.{same_on, two_looks}
use Rattle.back.proofs.TrialFacts.{place_of}

-- The back had seen `old`, had looked at the stations from the k-th on by `mid`, and has found this entry at the one
-- before them by `new`
pub record SearchFacts (core : TheCore) (old mid new : Caller) (head k place : ℕ) (e : QueueEntry) : Type 0 where
  pub before : Adds core.program core.sizes back old.seen mid.seen []
  pub added : Adds core.program core.sizes back mid.seen new.seen []
  pub next : k ≡ (k - 1) + 1
  pub small : k ≤ place
  pub shows : AtStation (unit_in core new.seen) (length (unit_in core mid.seen).tenants) (station_behind head core.sizes.ring (k - 1)) (IsEntryOf core.program e)
  pub kept : IsSameSeat old new
  pub history : SeesMore core old.by old.seen new.seen
  pub bound : k - 1 ≤ place

pub facts_of : (core : TheCore) (head : ℕ) (e : QueueEntry) {old mid new : Caller} {k place n r : ℕ} → old.by ≡ back → IsSameSeat old mid → SeesMore core old.by old.seen mid.seen →
    0 < k → k ≤ place → IsSameSeat mid new → SeesMore core mid.by mid.seen new.seen → n ≡ (head + (k - 1)) % r → r ≡ core.sizes.ring → IsEntryThere core mid.seen new.seen n e →
    SearchFacts core old mid new head k place e
facts_of core head e {old} {mid} {new} {k} {place} {n} {r} by_is kept history some small kept_on history_on at ring_is shows = record {
  before = subst (λ x. Adds core.program core.sizes x old.seen mid.seen []) by_is history;
  added = subst (λ x. Adds core.program core.sizes x mid.seen new.seen []) (kept.by ∙ by_is) history_on;
  next = omega (arith, some);
  small = small;
  shows = subst (λ s. IsEntryThere core mid.seen new.seen s e) (place_of head (k - 1) at ring_is) shows;
  kept = same_on old mid new kept kept_on;
  history = two_looks core.program core.sizes old.by mid.by old.seen mid.seen new.seen kept.by history history_on;
  bound = omega (arith, some, small);
}

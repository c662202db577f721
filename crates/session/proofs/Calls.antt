-- Calls of a session, each between two meetings with the seat that has seen all.
use Rattle.std.proofs.Common.{◌≡◌, ℕ, List, [], subst}
use Rattle.inorder.specs.declared.history.Entry.{Entry}
use Rattle.inorder.specs.OneHistory.{Adds}
use Rattle.instructions.specs.Histories.{StartsWith}
use Rattle.session.specs.Moments.{GrowsLegally, IsBetween}
use Rattle.session.specs.Sessions.{TheSession}
use Rattle.session.proofs.Histories.{between, grows_twice}

-- A session, as its parts show it
module _ (inside old : TheSession) (is : inside ≡ old) where
  -- Its history grows from meeting to meeting
  pub has_grown : (by other : ℕ) (middle new : List Entry) →
      Adds inside.core.program inside.core.sizes by inside.seen middle [] →
      Adds inside.core.program inside.core.sizes other middle new [] → GrowsLegally old.core old.seen new
  has_grown by other middle new first last =
      subst (λ (s : TheSession). GrowsLegally s.core s.seen new) is
      (grows_twice inside.core by other inside.seen middle new first last)

  pub has_seen : (by : ℕ) (new : List Entry) → Adds inside.core.program inside.core.sizes by inside.seen new [] → GrowsLegally old.core old.seen new
  has_seen by new adds = subst (λ (s : TheSession). GrowsLegally s.core s.seen new) is (record { begins = adds.begins; legal = adds.legal })

  -- What was so at the call was so at a moment between them
  pub was_so : (Fact : TheSession → List Entry → List Entry → Type 0) (before behind later new : List Entry) →
      StartsWith before inside.seen → Fact inside before behind → StartsWith later behind → StartsWith new later →
      IsBetween old.seen new (Fact old)
  was_so Fact before behind later new begins fact more told =
      subst (λ (s : TheSession). IsBetween s.seen new (Fact s)) is
      (between (Fact inside) inside.seen before behind later new begins fact more told)

  pub was_seen : (Fact : TheSession → List Entry → Type 0) (seen new : List Entry) →
      StartsWith seen inside.seen → Fact inside seen → StartsWith new seen → IsBetween old.seen new (λ before behind. Fact old behind)
  was_seen Fact seen new begins fact told =
      subst (λ (s : TheSession). IsBetween s.seen new (λ before behind. Fact s behind)) is
      (record { before = seen; behind = seen; begins = begins; ends = told; fact = fact })

-- The result of the meetings of the first unit with all others.
use Rattle.std.proofs.Common.{◌≡◌, ℕ, List, [], ◌++◌, map, ap, ◌∙◌, subst}
use Rattle.instructions.specs.Programs.{Program}
use Rattle.inorder.specs.declared.history.Entry.{Entry}
use Rattle.inorder.specs.declared.history.Event.{Event}
use Rattle.inorder.specs.History.{entry}
use Rattle.inorder.specs.OneHistory.{Adds}
use Rattle.inorder.specs.Unit.{Sizes}
use Rattle.station.specs.Seats.{Caller, IsSameSeat, TheCore}
use Rattle.client.specs.ByHand.{HasHeardMore}
use Rattle.instructions.proofs.Histories.{starts_on}

pub later : (core : TheCore) (v w : Caller) → IsSameSeat v w → w.spare ≡ v.spare → Adds core.program core.sizes v.by v.seen w.seen [] → HasHeardMore core v w
later core v w same spare adds = record { core_is = same.core; by_is = same.by; spare_is = spare; adds = adds }

pub later_on : (core : TheCore) (u v w : Caller) → HasHeardMore core u v → HasHeardMore core v w → HasHeardMore core u w
later_on core u v w a b =
    let again : Adds core.program core.sizes u.by v.seen w.seen [] = subst (λ n. Adds core.program core.sizes n v.seen w.seen []) a.by_is b.adds in
    record {
      core_is = b.core_is ∙ a.core_is;
      by_is = b.by_is ∙ a.by_is;
      spare_is = b.spare_is ∙ a.spare_is;
      adds = record { begins = starts_on u.seen v.seen w.seen a.adds.begins b.adds.begins; legal = b.adds.legal; one_table = b.adds.one_table ∙ a.adds.one_table; mine = again.mine ∙ a.adds.mine };
    }

-- what a caller has heard before a call adds nothing to what the call adds
pub heard_before : (P : Program) (C : Sizes) (by : ℕ) (old mid new : List Entry) (events : List Event) → Adds P C by old mid [] → Adds P C by mid new events → Adds P C by old new events
heard_before P C by old mid new events a b = record {
  begins = starts_on old mid new a.begins b.begins;
  legal = b.legal;
  one_table = b.one_table ∙ a.one_table;
  mine = b.mine ∙ ap (λ l. map (entry by) events ++ l) a.mine;
}

-- Whom the memory port wakes, try by try.
use Rattle.std.proofs.Common.{◌≡◌, ℕ, List, [], ◌∷◌, ◌++◌, sym, ◌∙◌, refl, subst, inl, ⊎_elim}
use Rattle.std.specs.List.{AllByRecursion}
use Rattle.instructions.specs.Programs.{Program}
use Rattle.inorder.specs.declared.history.Act.TheVariants.{Deliver}
use Rattle.inorder.specs.declared.history.Entry.{Entry}
use Rattle.inorder.specs.declared.history.Event.{Event}
use Rattle.inorder.specs.declared.history.Event.TheVariants.{Does, Refuses}
use Rattle.inorder.specs.declared.history.Refusal.TheVariants.{Stale}
use Rattle.inorder.specs.declared.history.Step.TheVariants.{On}
use Rattle.inorder.specs.OneHistory.{Adds}
use Rattle.inorder.specs.Unit.{Sizes}
use Rattle.inorder.proofs.Histories.{adds_on}
use Rattle.station.specs.Waking.{HasWoken, Wakes}
use Rattle.station.specs.Writeback.{WasStale}
use Rattle.station.proofs.Waking.{HasNoDelivery, none_in_none, none_in_refusal, wakes_before, wakes_behind, wakes_nobody}
use Rattle.back.specs.Refreshes.{IsTooLate}
use Rattle.back.specs.Wakings.{WakesNobody, WokenSince}

-- no delivery is among them
none_late : (es : List Event) → AllByRecursion IsTooLate es → HasNoDelivery es
none_late [] all = none_in_none
none_late (e ∷ es) all = λ p k among. ⊎_elim
    (λ (it : Does (On p (Deliver k)) ≡ e). none_in_refusal (Stale all.0.0) p k (inl (it ∙ all.0.1)))
    (λ rest. none_late es all.1 p k rest) among

late_append : (xs ys : List Event) → AllByRecursion IsTooLate xs → AllByRecursion IsTooLate ys → AllByRecursion IsTooLate (xs ++ ys)
late_append [] ys a b = b
late_append (x ∷ xs) ys a b = (a.0, late_append xs ys a.1 b)

module _ (P : Program) (C : Sizes) (by : ℕ) where
  -- nothing was added
  pub nobody_still : (old new : List Entry) (was woken : ℕ) → Adds P C by old new [] → woken ≡ was → WakesNobody P C by old new was woken
  nobody_still old new was woken adds same = record { late = []; are_late = tt; adds = adds; since = same }

  quiet : (old new : List Entry) (es : List Event) → Adds P C by old new es → AllByRecursion IsTooLate es → Wakes P C by old new (λ s. ⊥)
  quiet old new es adds late = wakes_nobody P C by old new es adds (none_late es late)

  -- What a call before it added was nothing, or a load that it found squashed
  pub woken_behind : (old mid new : List Entry) (was woken woken' : ℕ) → WakesNobody P C by old mid was woken → HasWoken P C by mid new woken' → HasWoken P C by old new woken'
  woken_behind old mid new was woken woken' a b = wakes_behind P C by by woken' old mid new refl (quiet old mid a.late a.adds a.are_late) b

  pub nobody_on : (old mid new : List Entry) (was woken woken' : ℕ) → WakesNobody P C by old mid was woken → WakesNobody P C by mid new woken woken' → WakesNobody P C by old new was woken'
  nobody_on old mid new was woken woken' a b = record {
    late = b.late ++ a.late;
    are_late = late_append b.late a.late b.are_late a.are_late;
    adds = adds_on P C by old mid new a.late b.late a.adds b.adds;
    since = by_last b.late b.since a.late a.since;
  }
    where
      none_then : Wakes P C by mid new (λ s. ⊥)
      none_then = quiet mid new b.late b.adds b.are_late

      as_before : woken' ≡ woken → (es : List Event) → WokenSince P C by old mid es was woken → WokenSince P C by old new es was woken'
      as_before same [] is = same ∙ is
      as_before same (e ∷ es) is = wakes_before P C by by woken' old mid new refl (subst (HasWoken P C by old mid) (sym same) is) none_then

      by_last : (es : List Event) → WokenSince P C by mid new es woken woken' → (fs : List Event) → WokenSince P C by old mid fs was woken → WokenSince P C by old new (es ++ fs) was woken'
      by_last [] same fs is = as_before same fs is
      by_last (e ∷ es) last fs is = woken_behind old mid new was woken woken' a last

  -- a load that was found squashed at the last moment
  pub nobody_late : (mid new : List Entry) (station tag was woken : ℕ) → WasStale P C by mid new station tag → HasWoken P C by mid new woken → WakesNobody P C by mid new was woken
  nobody_late mid new station tag was woken stale last = record {
    late = Refuses (Stale stale.p) ∷ [];
    are_late = ((stale.p, refl), tt);
    adds = stale.adds;
    since = last;
  }

  -- two calls that added nothing
  pub still_after : (id : ℕ) (old mid new : List Entry) (was woken woken' : ℕ) → id ≡ by → Adds P C by old mid [] → woken ≡ was → Adds P C id mid new [] → woken' ≡ woken →
      WakesNobody P C by old new was woken'
  still_after id old mid new was woken woken' is a same b same' =
      nobody_on old mid new was woken woken' (nobody_still old mid was woken a same)
      (nobody_still mid new woken woken' (subst (λ z. Adds P C z mid new []) is b) same')

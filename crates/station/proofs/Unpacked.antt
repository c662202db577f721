-- What the state of an unpacked word says of the number in that word.
use Rattle.std.proofs.Common.{◌≡◌, ◌≢◌, ◌<◌, ◌≤◌, ◌∙◌, ℕ, refl, sym, ap, subst, ⊎_elim, arith}
use Rattle.std.proofs.lemmas.Bool.{cases_lt}
use Rattle.instructions.specs.Programs.{Program}
use Rattle.inorder.specs.Unit.{Sizes}
use Rattle.ruu_words.specs.declared.rule.View.{View}
use Rattle.ruu_words.specs.declared.station.StationState.{StationState}
use Rattle.ruu_words.specs.declared.station.StationState.TheVariants.{Addr, Busy, Done, Free, Miss, Open, Stop}
use Rattle.ruu_words.specs.Fields.{state_of}
use Rattle.ruu_words.specs.Kinds.{IsEarly, IsLate, IsMade, IsUnmade}
use Rattle.ruu_words.specs.States.{state_code, state_count}
use Rattle.ruu_words.specs.Telling.{Grows}
use Rattle.station.specs.Retirement.{LooksAtHead}

open_of : (s : StationState) → state_code s ≡ 1 → s ≡ Open
open_of Free e = absurd (omega arith)
open_of Open e = refl
open_of Busy e = absurd (omega arith)
open_of Addr e = absurd (omega arith)
open_of Done e = absurd (omega arith)
open_of Miss e = absurd (omega arith)
open_of Stop e = absurd (omega arith)

stop_is_unmade : IsMade 6 → ⊥
stop_is_unmade m = ⊎_elim (λ (e : 6 ≡ 0). absurd (omega arith)) (λ (e : 6 ≡ 4). absurd (omega arith)) m

-- A word with the number n was unpacked, and has the state s
module _ (s : StationState) (n : ℕ) (state : n < state_count → state_code s ≡ n) (other : state_count ≤ n → s ≡ Stop) where
  pub open_number : s ≡ Open → n ≡ 1
  open_number e = ⊎_elim (λ l. sym (state l) ∙ ap state_code e) (λ m. let is = other m in absurd (cc (e, is))) (cases_lt n state_count)

  pub closed_number : s ≢ Open → n ≢ 1
  closed_number ne e = ne (open_of s (state (omega (arith, e)) ∙ e))

  pub made_number : IsMade (state_code s) → IsMade n
  made_number made = ⊎_elim (λ l. subst IsMade (state l) made) (λ m. absurd (stop_is_unmade (subst (λ z. IsMade (state_code z)) (other m) made)))
      (cases_lt n state_count)

  pub unmade_number : IsUnmade (state_code s) → IsUnmade n
  unmade_number unmade = (
    λ e. unmade.0 (state (omega (arith, e)) ∙ e),
    λ e. unmade.1 (state (omega (arith, e)) ∙ e),
  )

early_small : (n : ℕ) → IsEarly n → n < state_count
early_small n early = ⊎_elim (λ e. omega (arith, e)) (λ o. ⊎_elim (λ e. omega (arith, e)) (λ e. omega (arith, e)) o) early

late_small : (n : ℕ) → IsLate n → n < state_count
late_small n late = ⊎_elim (λ e. omega (arith, e)) (λ o. ⊎_elim (λ e. omega (arith, e)) (λ e. omega (arith, e)) o) late

-- The number found in the head's word is that of a state
pub head_is_state : (P : Program) (C : Sizes) (by : ℕ) (v w : View) (s n : ℕ) → Grows P C by v w (LooksAtHead P C by s n) → state_of n < state_count
head_is_state P C by v w s n g = ⊎_elim (λ x. let e = x.0 in omega (arith, e))
    (λ o. ⊎_elim (λ x. early_small (state_of n) x.0) (λ x. late_small (state_of n) x.0) o) g.kind.heads

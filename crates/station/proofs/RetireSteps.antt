-- A retirement at its points: what the call that began as v can answer after each of its readings.
use Rattle.std.proofs.Common.{◌≡◌, ◌≢◌, ◌⊎◌, ◌<◌, ℕ, [], sym, ap, subst, inl, inr, ⊎_elim}
use Rattle.instructions.specs.Instruction.{kind}
use Rattle.instructions.specs.Programs.{instr_of}
use Rattle.instructions.specs.declared.op.Half.{Half}
use Rattle.instructions.specs.declared.op.Kind.TheVariants.{Stores}
use Rattle.inorder.specs.History.{back}
use Rattle.inorder.specs.OneHistory.{Adds}
use Rattle.ruu_words.specs.declared.station.StationState.{StationState}
use Rattle.ruu_words.specs.declared.station.StationState.TheVariants.{Addr, Busy, Done, Miss, Open, Stop}
use Rattle.ruu_words.specs.declared.station.StationWord.{StationWord}
use Rattle.ruu_words.specs.Fields.{half_of, index_of, state_of, tag_of, word_value}
use Rattle.ruu_words.specs.Kinds.{IsEarly, ReadsInfo}
use Rattle.ruu_words.specs.States.{state_code, state_count}
use Rattle.station.specs.declared.answers.Last.{Last}
use Rattle.station.specs.declared.answers.Last.TheVariants.{Stored}
use Rattle.station.specs.declared.answers.Retire.{Retire}
use Rattle.station.specs.declared.answers.Retire.TheVariants.{Empty, NotDone}
use Rattle.station.specs.declared.steps.retire.Access.{Access}
use Rattle.station.specs.Calls.{IsSameCall, RetiresFrom, TakesStep, TheCall}
use Rattle.station.specs.Retirement.{FindsData, HasAccess, HasEnd, IsLastOf, LooksAtHead, MayLeave, RetireAnswers}
use Rattle.station.proofs.Calls.{access_after, before, end_after, joined, leave_after}
use Rattle.station.proofs.EndWords.{IsLateState}
use Rattle.station.proofs.Retiring.{answers_on}
use Rattle.station.proofs.RetireLoads.{data_missing, data_there, end_access, end_adds, end_leaves, head_early, head_empty, head_late}
use Rattle.station.proofs.Unpacked.{head_is_state}

-- An answer of the call from this point on is one of the whole call
retires_on : {v w x : TheCall} {station : ℕ} {answer : Retire} → IsSameCall v w → Adds v.core.program v.core.sizes v.view.by v.view.seen w.view.seen [] → RetiresFrom w x station answer →
    RetiresFrom v x station answer
retires_on {v} {w} {x} {station} {answer} same adds r = record {
  same = joined same r.same;
  reply = answers_on v.core.program v.core.sizes v.view.by v.view.seen w.view.seen x.view.seen answer adds
      (before (λ z. RetireAnswers z.0.program z.0.sizes z.1 w.view.seen x.view.seen answer) same r.reply);
  head = r.head;
}

-- After the look at the head

pub late_state : {s : StationState} → (s ≡ Addr) ⊎ ((s ≡ Done) ⊎ (s ≡ Stop)) → IsLateState s
late_state o = ⊎_elim (λ e. subst IsLateState (sym e) tt) (λ p. ⊎_elim (λ e. subst IsLateState (sym e) tt) (λ e. subst IsLateState (sym e) tt) p) o

pub early_state : {s : StationState} {n : ℕ} → state_code s ≡ n → (s ≡ Open) ⊎ ((s ≡ Busy) ⊎ (s ≡ Miss)) → IsEarly n
early_state is o = subst IsEarly is (⊎_elim (λ e. inl (ap state_code e)) (λ p. ⊎_elim (λ e. inr (inl (ap state_code e))) (λ e. inr (inr (ap state_code e))) p) o)

module _ {v w : TheCall} (station n : ℕ) (look : TakesStep v w (λ P C. LooksAtHead P C v.view.by station n)) where
  pub has_state : state_of n < state_count
  has_state = head_is_state v.core.program v.core.sizes v.view.by v.view w.view station n look.grows

  pub none_there : state_of n ≡ 0 → RetiresFrom v w station Empty
  none_there e = record { same = look.same; reply = head_empty v.core.program v.core.sizes v.view.by v.view w.view station n look.grows e; head = tt }

  pub not_done_there : IsEarly (state_of n) → RetiresFrom v w station NotDone
  not_done_there e = record { same = look.same; reply = head_early v.core.program v.core.sizes v.view.by v.view w.view station n look.grows e; head = tt }

  module _ (found : StationWord) (tag : found.tag ≡ tag_of n) (state : state_code found.state ≡ state_of n) (value : found.value ≡ word_value n) (late : IsLateState found.state) where
    end : HasEnd v.core.program v.core.sizes w.view.seen station found × Adds v.core.program v.core.sizes v.view.by v.view.seen w.view.seen []
    end = head_late v.core.program v.core.sizes v.view.by v.view w.view station n look.grows found tag state value late

    pub end_there : HasEnd w.core.program w.core.sizes w.view.seen station found
    end_there = end_after look.same end.0

    pub behind_look : {x : TheCall} {answer : Retire} → RetiresFrom w x station answer → RetiresFrom v x station answer
    behind_look r = retires_on look.same end.1 r

-- After the reading of its info

module _ {v w : TheCall} (station n : ℕ) (read : TakesStep v w (λ P C. ReadsInfo P C station n)) (by_is : v.view.by ≡ back) (found : StationWord)
    (end : HasEnd v.core.program v.core.sizes v.view.seen station found) where
  pub access_there : {index : ℕ} {half : Half} → index ≡ index_of n → half ≡ half_of n → found.state ≡ Addr →
      HasAccess w.core.program w.core.sizes w.view.seen (record { station = station; tag = found.tag; index = index; half = half; address = found.value })
  access_there {index} {half} e f state =
      access_after read.same (end_access v.core.program v.core.sizes v.view.by v.view w.view station n read.grows by_is found end index half e f state)

  pub may_leave : {index : ℕ} {half : Half} (last : Last) → index ≡ index_of n → half ≡ half_of n → found.state ≢ Addr → IsLastOf found.state found.value last →
      MayLeave w.core.program w.core.sizes w.view.seen (record { station = station; tag = found.tag; index = index; half = half; last = last })
  may_leave {index} {half} last e f state is =
      leave_after read.same (end_leaves v.core.program v.core.sizes v.view.by v.view w.view station n read.grows by_is found end index half e f state last is)

  pub behind_info : {x : TheCall} {answer : Retire} → RetiresFrom w x station answer → RetiresFrom v x station answer
  behind_info r = retires_on read.same (end_adds v.core.program v.core.sizes v.view.by v.view w.view station n read.grows by_is found end) r

-- After the reading of a store's data

module _ {v w : TheCall} (a : Access) (n : ℕ) (read : TakesStep v w (λ P C. FindsData P C a n)) where
  pub waits_for_data : state_of n ≢ 2 → RetiresFrom v w a.station NotDone
  waits_for_data ne = record { same = read.same; reply = data_missing v.core.program v.core.sizes v.view.by v.view w.view a n read.grows ne; head = tt }

  module _ {x : ℕ} (value : x ≡ word_value n) (stores : kind (instr_of v.core.program a.index).op ≡ Stores) (there : state_of n ≡ 2) where
    pub store_leaves : MayLeave w.core.program w.core.sizes w.view.seen (record { station = a.station; tag = a.tag; index = a.index; half = a.half; last = Stored a.address x })
    store_leaves = leave_after read.same (data_there v.core.program v.core.sizes v.view.by v.view w.view a n read.grows x value stores there).0

    pub behind_data : {y : TheCall} {answer : Retire} → RetiresFrom w y a.station answer → RetiresFrom v y a.station answer
    behind_data r = retires_on read.same (data_there v.core.program v.core.sizes v.view.by v.view w.view a n read.grows x value stores there).1 r

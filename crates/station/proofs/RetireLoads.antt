-- What the loads of a retirement tell.
use Rattle.std.proofs.Common.{◌≡◌, ◌≢◌, ℕ, List, [], ◌∷◌, ◌++◌, map, Some, sym, ap, ◌∙◌, subst, ⊎_elim}
use Rattle.instructions.specs.declared.op.Half.{Half}
use Rattle.instructions.specs.Instruction.{kind}
use Rattle.instructions.specs.Programs.{Program, instr_of}
use Rattle.instructions.specs.declared.op.Kind.TheVariants.{Stores}
use Rattle.inorder.specs.declared.history.Entry.{Entry}
use Rattle.inorder.specs.declared.history.Event.TheVariants.{Refuses}
use Rattle.inorder.specs.declared.history.Refusal.TheVariants.{Empty, NotDone}
use Rattle.inorder.specs.Callers.{IsHead}
use Rattle.inorder.specs.History.{IsLegal, back, entry, own, unit_of}
use Rattle.inorder.specs.OneHistory.{Adds}
use Rattle.inorder.specs.Tenants.{Tenant}
use Rattle.inorder.specs.Unit.{Sizes, UpdateUnit}
use Rattle.ruu_words.specs.declared.rule.View.{View}
use Rattle.ruu_words.specs.declared.station.StationState.TheVariants.{Addr as AddrState}
use Rattle.ruu_words.specs.declared.station.StationWord.{StationWord}
use Rattle.ruu_words.specs.Fields.{half_of, index_of, state_of, tag_of, word_value}
use Rattle.ruu_words.specs.Kinds.{IsEarly, ReadsInfo}
use Rattle.ruu_words.specs.States.{state_code}
use Rattle.ruu_words.specs.Telling.{Grows}
use Rattle.ruu_words.proofs.StationWords.{live_state, one_at}
use Rattle.ruu_words.proofs.Stays.{same_before}
use Rattle.station.specs.declared.answers.Last.{Last}
use Rattle.station.specs.declared.answers.Last.TheVariants.{Stored}
use Rattle.station.specs.declared.steps.retire.Access.{Access}
use Rattle.station.specs.declared.steps.retire.Leaving.{Leaving}
use Rattle.station.specs.Retirement.{FindsData, HasAccess, HasEnd, IsAccess, IsAtEnd, IsEnd, IsLastOf, IsLeaving, LooksAtHead, MayLeave}
use Rattle.station.proofs.Adding.{adds_these}
use Rattle.station.proofs.EndStays.{end_on}
use Rattle.station.proofs.EndWords.{IsLateState, early_late, ends_as, is_end, not_early, not_free}

module _ (P : Program) (C : Sizes) where
  abbrev U : List Entry → UpdateUnit
  U h = unit_of P C h

  module _ (by : ℕ) (v w : View) (s n : ℕ) (g : Grows P C by v w (LooksAtHead P C by s n)) where
    pub head_empty : state_of n ≡ 0 → Adds P C by v.seen w.seen (Refuses Empty ∷ [])
    head_empty e = ⊎_elim
        (λ a. adds_these P C by v w (LooksAtHead P C by s n) (Refuses Empty ∷ []) g a.1)
        (λ o. absurd (⊎_elim (λ b. early b.0) (λ l. late l.0) o))
        g.kind.heads
      where
        early : IsEarly (state_of n) → ⊥
        early x = ⊎_elim (λ a. let y = sym e ∙ a in cc y) (λ b. ⊎_elim (λ a. let y = sym e ∙ a in cc y) (λ a. let y = sym e ∙ a in cc y) b) x

        late : Rattle.ruu_words.specs.Kinds.IsLate (state_of n) → ⊥
        late x = ⊎_elim (λ a. let y = sym e ∙ a in cc y) (λ b. ⊎_elim (λ a. let y = sym e ∙ a in cc y) (λ a. let y = sym e ∙ a in cc y) b) x

    pub head_early : IsEarly (state_of n) → Adds P C by v.seen w.seen (Refuses NotDone ∷ [])
    head_early e = ⊎_elim
        (λ a. absurd (zero a.0 e))
        (λ o. ⊎_elim (λ b. adds_these P C by v w (LooksAtHead P C by s n) (Refuses NotDone ∷ []) g b.1) (λ l. absurd (both e l.0)) o)
        g.kind.heads
      where
        zero : state_of n ≡ 0 → IsEarly (state_of n) → ⊥
        zero z x = ⊎_elim (λ a. let y = sym z ∙ a in cc y) (λ b. ⊎_elim (λ a. let y = sym z ∙ a in cc y) (λ a. let y = sym z ∙ a in cc y) b) x

        both : IsEarly (state_of n) → Rattle.ruu_words.specs.Kinds.IsLate (state_of n) → ⊥
        both a b = early_late (state_of n) a b

    pub head_late : (word : StationWord) → word.tag ≡ tag_of n → state_code word.state ≡ state_of n → word.value ≡ word_value n → IsLateState word.state → HasEnd P C w.seen s word ×
        Adds P C by v.seen w.seen []
    head_late word tag state value e = ⊎_elim
        (λ a. absurd (not_free word.state e (state ∙ a.0)))
        (λ o. ⊎_elim (λ b. absurd (not_early word.state e (subst IsEarly (sym state) b.0)))
        (λ l.
        let seen : w.seen ≡ g.between ++ v.seen = g.is ∙ ap (λ es. map (entry by) es ++ (g.between ++ v.seen)) l.1 in
        let i = l.2.1 in
        let t : Tenant = i.tenant in
        let x = i.fact in
        let fact : IsAtEnd s word t = record { station_is = x.0; tag_is = sym (live_state t.tag n t.fate x.1).0 ∙ sym tag; end = is_end word.state word.value n t.tag t.fate state value x.1 e } in
        let head : IsHead (U (g.between ++ v.seen)) l.2.0 (IsAtEnd s word) = record { tenant = t; is = i.is; live = i.live; oldest = i.oldest; goes_on = i.goes_on; fact = fact } in
        (subst (λ z. HasEnd P C z s word) (sym seen) (record { p = l.2.0; head = head }), adds_these P C by v w (LooksAtHead P C by s n) [] g l.1)) o)
        g.kind.heads

  -- the info word of what is at its end
  module _ (by : ℕ) (v w : View) (s n : ℕ) (g : Grows P C by v w (ReadsInfo P C s n)) (is : by ≡ back) (word : StationWord) (was : HasEnd P C v.seen s word) where
    abbrev mid : List Entry
    mid = g.between ++ v.seen

    seen_mid : w.seen ≡ mid
    seen_mid = g.is ∙ ap (λ es. map (entry by) es ++ mid) g.kind.none

    now : HasEnd P C mid s word
    now = end_on P C s word g.between v.seen (subst (IsLegal P C) seen_mid g.legal) (same_before P C by v w (ReadsInfo P C s n) g) (subst (λ i. own i g.between ≡ []) is g.not_own) was

    its_index : now.head.tenant.index ≡ index_of n
    its_index = sym (g.kind.its now.p now.head.tenant now.head.is now.head.fact.station_is now.head.live).index

    its_half : now.head.tenant.half ≡ half_of n
    its_half = sym (g.kind.its now.p now.head.tenant now.head.is now.head.fact.station_is now.head.live).half

    pub end_adds : Adds P C by v.seen w.seen []
    end_adds = adds_these P C by v w (ReadsInfo P C s n) [] g g.kind.none

    pub end_access : (index : ℕ) (half : Half) → index ≡ index_of n → half ≡ half_of n → word.state ≡ AddrState →
        HasAccess P C w.seen (record { station = s; tag = word.tag; index = index; half = half; address = word.value })
    end_access index half e f state =
        let a : Access = record { station = s; tag = word.tag; index = index; half = half; address = word.value } in
        let i = now.head in
        let fact : IsAccess a i.tenant = record {
          station_is = i.fact.station_is;
          tag_is = i.fact.tag_is;
          index_is = its_index ∙ sym e;
          half_is = its_half ∙ sym f;
          fate = subst (λ z. IsEnd z word.value i.tenant.fate) state i.fact.end;
        } in
        let head : IsHead (U mid) now.p (IsAccess a) = record { tenant = i.tenant; is = i.is; live = i.live; oldest = i.oldest; goes_on = i.goes_on; fact = fact } in
        subst (λ z. HasAccess P C z a) (sym seen_mid) (record { p = now.p; head = head })

    pub end_leaves : (index : ℕ) (half : Half) → index ≡ index_of n → half ≡ half_of n → word.state ≢ AddrState → (x : Last) → IsLastOf word.state word.value x →
        MayLeave P C w.seen (record { station = s; tag = word.tag; index = index; half = half; last = x })
    end_leaves index half e f state x last =
        let l : Leaving = record { station = s; tag = word.tag; index = index; half = half; last = x } in
        let i = now.head in
        let fact : IsLeaving P l i.tenant = record {
          station_is = i.fact.station_is;
          tag_is = i.fact.tag_is;
          last_is = record { index_is = its_index ∙ sym e; half_is = its_half ∙ sym f; ends = ends_as P word.state word.value i.tenant state i.fact.end x last };
        } in
        let head : IsHead (U mid) now.p (IsLeaving P l) = record { tenant = i.tenant; is = i.is; live = i.live; oldest = i.oldest; goes_on = i.goes_on; fact = fact } in
        subst (λ z. MayLeave P C z l) (sym seen_mid) (record { p = now.p; head = head })

  -- the data of a store
  module _ (by : ℕ) (v w : View) (a : Access) (n : ℕ) (g : Grows P C by v w (FindsData P C a n)) where
    pub data_missing : state_of n ≢ 2 → Adds P C by v.seen w.seen (Refuses NotDone ∷ [])
    data_missing ne = ⊎_elim (λ here. absurd (ne here.0)) (λ o. adds_these P C by v w (FindsData P C a n) (Refuses NotDone ∷ []) g o.1) g.kind.data_is

    pub data_there : (x : ℕ) → x ≡ word_value n → kind (instr_of P a.index).op ≡ Stores → state_of n ≡ 2
        → MayLeave P C w.seen (record { station = a.station; tag = a.tag; index = a.index; half = a.half; last = Stored a.address x }) × Adds P C by v.seen w.seen []
    data_there x e stores there = ⊎_elim
        (λ here.
        let l : Leaving = record { station = a.station; tag = a.tag; index = a.index; half = a.half; last = Stored a.address x } in
        let h : List Entry = g.between ++ v.seen in
        let seen : w.seen ≡ h = g.is ∙ ap (λ es. map (entry by) es ++ h) here.1 in
        let legal : IsLegal P C h = subst (IsLegal P C) seen g.legal in
        let i = g.kind.access.head in
        let d = here.2 in
        let one : d.tenant ≡ i.tenant = one_at P C h legal g.kind.access.p d.tenant i.tenant d.is i.is in
        let second : i.tenant.second.value ≡ Some x = ap (λ (z : Tenant). z.second.value) (sym one) ∙ (d.fact ∙ ap Some (sym e)) in
        let fact : IsLeaving P l i.tenant = record {
          station_is = i.fact.station_is;
          tag_is = i.fact.tag_is;
          last_is = record { index_is = i.fact.index_is; half_is = i.fact.half_is; ends = (ap (λ k. kind (instr_of P k).op) i.fact.index_is ∙ stores, i.fact.fate, second) };
        } in
        let head : IsHead (U h) g.kind.access.p (IsLeaving P l) = record { tenant = i.tenant; is = i.is; live = i.live; oldest = i.oldest; goes_on = i.goes_on; fact = fact } in
        (subst (λ z. MayLeave P C z l) (sym seen) (record { p = g.kind.access.p; head = head }), adds_these P C by v w (FindsData P C a n) [] g here.1))
        (λ o. absurd (o.0 there))
        g.kind.data_is

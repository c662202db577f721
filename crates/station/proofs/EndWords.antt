-- The words of tenants at their end, and what is seen of a stop after them.
use Rattle.std.proofs.Common.{◌≡◌, ◌≢◌, ℕ, suc, Bool, true, false, cond, List, [], ◌∷◌, ◌++◌, refl, sym, ap, ◌∙◌, subst, inl, inr, ⊎_elim, arith}
use Rattle.instructions.specs.Operations.{code_of}
use Rattle.instructions.specs.Programs.{Program}
use Rattle.instructions.specs.declared.stop.Stop.{Stop}
use Rattle.inorder.specs.Callers.{is_retired, stands_retired}
use Rattle.inorder.specs.StationWords.{live_word}
use Rattle.inorder.specs.Tenants.{Addr, Busy, Done, Fate, Guessed, Live, Miss, Open, Stopped, Tenant}
use Rattle.inorder.specs.Unit.{how_many}
use Rattle.ruu_words.specs.declared.station.StationState.{StationState}
use Rattle.ruu_words.specs.declared.station.StationState.TheVariants.{Addr as AddrState, Busy as BusyState, Done as DoneState, Free as FreeState, Miss as MissState, Open as OpenState}
use Rattle.ruu_words.specs.declared.station.StationState.TheVariants.{Stop as StopState}
use Rattle.ruu_words.specs.Content.{IsStation}
use Rattle.ruu_words.specs.Fields.{state_of, word_value}
use Rattle.ruu_words.specs.Kinds.{IsEarly}
use Rattle.ruu_words.specs.States.{state_code}
use Rattle.ruu_words.proofs.StationWords.{addr_state, done_state}
use Rattle.station.specs.declared.answers.Last.{Last}
use Rattle.station.specs.Retirement.{EndsAs, IsEnd, IsLastOf}
use Rattle.station.proofs.Stops.{same_code}

-- Words at the end

pub early_late : (n : ℕ) → IsEarly n → Rattle.ruu_words.specs.Kinds.IsLate n → ⊥
early_late n a b = ⊎_elim (λ x. late 1 x b (λ z. cc z) (λ z. cc z) (λ z. cc z)) (λ y. ⊎_elim (λ x. late 2 x b (λ z. cc z) (λ z. cc z) (λ z. cc z)) (λ x. late 5 x b (λ z. cc z) (λ z. cc z) (λ z. cc z))
    y) a
  where
    late : (k : ℕ) → n ≡ k → Rattle.ruu_words.specs.Kinds.IsLate n → k ≢ 3 → k ≢ 4 → k ≢ 6 → ⊥
    late k e x f g h = ⊎_elim (λ z. f (sym e ∙ z)) (λ y. ⊎_elim (λ z. g (sym e ∙ z)) (λ z. h (sym e ∙ z)) y) x

abbrev pub IsLateState : StationState → Type 0
IsLateState AddrState = Unit {0}
IsLateState DoneState = Unit {0}
IsLateState StopState = Unit {0}
IsLateState _ = ⊥

pub not_free : (st : StationState) → IsLateState st → state_code st ≡ 0 → ⊥
not_free AddrState l e = cc e
not_free DoneState l e = cc e
not_free StopState l e = cc e
not_free FreeState l e = l
not_free OpenState l e = l
not_free BusyState l e = l
not_free MissState l e = l

pub not_early : (st : StationState) → IsLateState st → IsEarly (state_code st) → ⊥
not_early AddrState l e = early_late 3 e (inl refl)
not_early DoneState l e = early_late 4 e (inr (inl refl))
not_early StopState l e = early_late 6 e (inr (inr refl))
not_early FreeState l e = l
not_early OpenState l e = l
not_early BusyState l e = l
not_early MissState l e = l

stop_state : (g n : ℕ) (f : Fate) → IsStation (live_word g f) n → state_of n ≡ 6 → (c : Stop) × (word_value n ≡ code_of c) × (f ≡ Stopped c)
stop_state g n Open w e = let s = w.state in absurd (omega arith)
stop_state g n (Busy by) w e = let s = w.state in absurd (omega arith)
stop_state g n (Addr a) w e = let s = w.state in absurd (omega arith)
stop_state g n (Done v) w e = let s = w.state in absurd (omega arith)
stop_state g n (Guessed x) w e = let s = w.state in absurd (omega arith)
stop_state g n (Miss x) w e = let s = w.state in absurd (omega arith)
stop_state g n (Stopped c) w e = (c, w.value, refl)

pub is_end : (st : StationState) (v n g : ℕ) (f : Fate) → state_code st ≡ state_of n → v ≡ word_value n → IsStation (live_word g f) n → IsLateState st → IsEnd st v f
is_end AddrState v n g f state value w l = addr_state g n f w (sym state) ∙ ap Addr (sym value)
is_end DoneState v n g f state value w l = done_state g n f w (sym state) ∙ ap Done (sym value)
is_end StopState v n g f state value w l = let s = stop_state g n f w (sym state) in (s.0, value ∙ s.1, s.2)
is_end FreeState v n g f state value w l = absurd l
is_end OpenState v n g f state value w l = absurd l
is_end BusyState v n g f state value w l = absurd l
is_end MissState v n g f state value w l = absurd l

pub ends_as : (P : Program) (st : StationState) (v : ℕ) (t : Tenant) → st ≢ AddrState → IsEnd st v t.fate → (x : Last) → IsLastOf st v x → EndsAs P x t
ends_as P AddrState v t ne e x l = absurd (ne refl)
ends_as P DoneState v t ne e x l = subst (λ z. EndsAs P z t) (sym l) e
ends_as P StopState v t ne e x l =
    let same : l.0 ≡ e.0 = same_code l.0 e.0 (l.1 ∙ e.1) in
    subst (λ z. EndsAs P z t) (sym l.2) (e.2 ∙ ap Stopped (sym same))
ends_as P FreeState v t ne e x l = absurd e
ends_as P OpenState v t ne e x l = absurd e
ends_as P BusyState v t ne e x l = absurd e
ends_as P MissState v t ne e x l = absurd e

-- one more has retired
pub one_more : (t t' : Tenant) (ts ys : List Tenant) → t.standing ≡ Live → is_retired t' ≡ true → how_many is_retired (ys ++ t' ∷ ts) ≡ suc (how_many is_retired (ys ++ t ∷ ts))
one_more t t' ts [] live e =
    ap (λ b. cond b (suc (how_many is_retired ts)) (how_many is_retired ts)) e
    ∙ ap suc (sym (ap (λ s. cond (stands_retired s) (suc (how_many is_retired ts)) (how_many is_retired ts)) live))
one_more t t' ts (y ∷ ys) live e = go (is_retired y) (one_more t t' ts ys live e)
  where
    go : (b : Bool) → how_many is_retired (ys ++ t' ∷ ts) ≡ suc (how_many is_retired (ys ++ t ∷ ts)) →
        cond b (suc (how_many is_retired (ys ++ t' ∷ ts))) (how_many is_retired (ys ++ t' ∷ ts)) ≡ suc (cond b (suc (how_many is_retired (ys ++ t ∷ ts))) (how_many is_retired (ys ++ t ∷ ts)))
    go true h = ap suc h
    go false h = h

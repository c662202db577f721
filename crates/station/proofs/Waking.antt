-- Which stations the deliveries of a caller are to.
use Rattle.std.proofs.Common.{◌≡◌, ◌⊎◌, ℕ, ◌<◌, ◌*◌, ◌%◌, ◌^◌, ◌||◌, bit_or, w32, Bool, true, false, List, [], ◌∷◌, ◌++◌, map, refl, sym, ◌∙◌, subst, inl, inr, ⊎_elim, arith, ap}
use Rattle.std.proofs.lemmas.Nat.Bits.{bit_at-zero, bit_at_set_other, bit_at_set_same}
use mathlib.Core.Logic.{dite}
use native.Mathlib.Decide.{ℕ_discrete}
use Rattle.instructions.specs.Programs.{Program}
use Rattle.instructions.specs.declared.stop.Outcome.{Outcome}
use Rattle.inorder.specs.declared.history.Act.TheVariants.{Deliver, Finish, Load}
use Rattle.inorder.specs.declared.history.Entry.{Entry}
use Rattle.inorder.specs.declared.history.Event.{Event}
use Rattle.inorder.specs.declared.history.Event.TheVariants.{Does, Marks, Refuses}
use Rattle.inorder.specs.declared.history.Mark.{Mark}
use Rattle.inorder.specs.declared.history.Mark.TheVariants.{Walked}
use Rattle.inorder.specs.declared.history.Refusal.{Refusal}
use Rattle.inorder.specs.declared.history.Refusal.TheVariants.{Stale}
use Rattle.inorder.specs.declared.history.Source.{Source}
use Rattle.inorder.specs.declared.history.Step.TheVariants.{On}
use Rattle.inorder.specs.History.{IsLegal, entry, renewals, unit_of}
use Rattle.inorder.specs.OneHistory.{Adds}
use Rattle.inorder.specs.Replies.{Has}
use Rattle.inorder.specs.Unit.{Sizes}
use Rattle.inorder.proofs.Histories.{adds_on, legal_before, unit_lasts}
use Rattle.inorder.proofs.Moves.{goes}
use Rattle.ruu_words.specs.declared.place.Place.{Place}
use Rattle.ruu_words.specs.declared.rule.View.{View}
use Rattle.ruu_words.specs.Kinds.{Delivers, Finds, Finishes, IsAny, IsNamed, ReadsLink, Settles}
use Rattle.ruu_words.specs.Telling.{Grows}
use Rattle.ruu_words.proofs.Stays.{named_stays, same_before}
use Rattle.station.specs.Carrying.{EndsWalk}
use Rattle.station.specs.Steps.{Sees}
use Rattle.station.specs.Waking.{HasWoken, IsAmong, IsSet, IsWith, Wakes}
use Rattle.station.proofs.Adding.{adds_these}

-- Lists of events

among_append : (e : Event) (xs ys : List Event) → IsAmong e (xs ++ ys) → IsAmong e xs ⊎ IsAmong e ys
among_append e [] ys a = inr a
among_append e (x ∷ xs) ys a = ⊎_elim (λ h. inl (inl h)) (λ h. ⊎_elim (λ g. inl (inr g)) (λ g. inr g) (among_append e xs ys h)) a

among_left : (e : Event) (xs ys : List Event) → IsAmong e xs → IsAmong e (xs ++ ys)
among_left e [] ys a = absurd a
among_left e (x ∷ xs) ys a = ⊎_elim (λ h. inl h) (λ h. inr (among_left e xs ys h)) a

among_right : (e : Event) (xs ys : List Event) → IsAmong e ys → IsAmong e (xs ++ ys)
among_right e [] ys a = a
among_right e (x ∷ xs) ys a = inr (among_right e xs ys a)

-- No delivery is among these
abbrev pub HasNoDelivery : List Event → Type 0
HasNoDelivery es = (p : ℕ) (k : Source) → IsAmong (Does (On p (Deliver k))) es → ⊥

pub none_in_none : HasNoDelivery []
none_in_none p k a = a

none_in_mark : (m : Mark) → HasNoDelivery (Marks m ∷ [])
none_in_mark m p k a = ⊎_elim (λ (e : Does (On p (Deliver k)) ≡ Marks m). cc e) (λ z. z) a

pub none_in_refusal : (r : Refusal) → HasNoDelivery (Refuses r ∷ [])
none_in_refusal r p k a = ⊎_elim (λ (e : Does (On p (Deliver k)) ≡ Refuses r). cc e) (λ z. z) a

none_in_finish : (q : ℕ) → HasNoDelivery (Does (On q Finish) ∷ [])
none_in_finish q p k a = ⊎_elim (λ (e : Does (On p (Deliver k)) ≡ Does (On q Finish)). cc e) (λ z. z) a

none_in_load : (q : ℕ) → HasNoDelivery (Does (On q Load) ∷ [])
none_in_load q p k a = ⊎_elim (λ (e : Does (On p (Deliver k)) ≡ Does (On q Load)). cc e) (λ z. z) a

no_bit : (s : ℕ) → IsSet 0 s → ⊥
no_bit s set = let z = bit_at-zero s in omega arith

-- One more bit
pub with_bit : (woken s : ℕ) (wakes : Bool) → s < 32 → wakes ≡ true → IsWith woken s wakes (bit_or woken (1 * 2 ^ s % 4294967296))
with_bit woken s wakes small it = record {
  kept = λ i set. dite (ℕ_discrete i s)
      (λ (e : i ≡ s). subst (λ z. IsSet (bit_or woken (1 * 2 ^ s % 4294967296)) z) (sym e) (bit_at_set_same w32 woken s small))
      (λ ne. bit_at_set_other w32 woken s small i ne ∙ set);
  set = λ e. bit_at_set_same w32 woken s small;
  only = λ i set. dite (ℕ_discrete i s)
      (λ (e : i ≡ s). inr (it, e))
      (λ ne. inl (sym (bit_at_set_other w32 woken s small i ne) ∙ set));
}

-- one of two
pub one_of : (a b : Bool) → (a || b) ≡ true → (a ≡ true) ⊎ (b ≡ true)
one_of true b e = inl refl
one_of false b e = inr e

pub either_one : (a b : Bool) → a ≡ true → (a || b) ≡ true
either_one true b e = refl
either_one false b e = cc e

pub either_other : (a b : Bool) → b ≡ true → (a || b) ≡ true
either_other true b e = refl
either_other false b e = e

module _ (P : Program) (C : Sizes) where
  -- a tenant keeps its station
  has_on : (by p : ℕ) (F : ℕ → Type 0) (fs : List Event) (old new : List Entry) → Adds P C by old new fs → Has (unit_of P C old) p (λ t. F t.station) → Has (unit_of P C new) p (λ t. F t.station)
  has_on by p F fs old new a has =
      subst (λ z. Has (unit_of P C z) p (λ t. F t.station)) (sym a.begins.is)
      (unit_lasts P C (λ U. Has U p (λ t. F t.station))
      (λ U by s ok sound x. let g = goes P C U by s ok sound p x.tenant x.is in record { tenant = g.tenant; is = g.is; fact = subst F (sym g.goes.station) x.fact })
      a.begins.more old (subst (IsLegal P C) a.begins.is a.legal) has)

  pub wakes_nobody : (by : ℕ) (old new : List Entry) (es : List Event) → Adds P C by old new es → HasNoDelivery es → Wakes P C by old new (λ s. ⊥)
  wakes_nobody by old new es a none = record { events = es; adds = a; each = λ p k among. absurd (none p k among); woken = λ s no. absurd no }

  -- One call after another: the stations of both
  pub wakes_both : (by : ℕ) (old mid new : List Entry) (F G H : ℕ → Type 0) → Wakes P C by old mid F → Wakes P C by mid new G
      → ((s : ℕ) → F s → H s) → ((s : ℕ) → G s → H s) → ((s : ℕ) → H s → F s ⊎ G s) → Wakes P C by old new H
  wakes_both by old mid new F G H a b left right either = record {
    events = b.events ++ a.events;
    adds = adds_on P C by old mid new a.events b.events a.adds b.adds;
    each = λ p k among. ⊎_elim
        (λ (h : IsAmong (Does (On p (Deliver k))) b.events). let x = b.each p k h in record { tenant = x.tenant; is = x.is; fact = right x.tenant.station x.fact })
        (λ (h : IsAmong (Does (On p (Deliver k))) a.events).
        let x = has_on by p F b.events mid new b.adds (a.each p k h) in record { tenant = x.tenant; is = x.is; fact = left x.tenant.station x.fact })
        (among_append (Does (On p (Deliver k))) b.events a.events among);
    woken = λ s h. ⊎_elim
        (λ (f : F s).
        let x = a.woken s f in record {
          p = x.p;
          k = x.k;
          among = among_right (Does (On x.p (Deliver x.k))) b.events a.events x.among;
          tenant = has_on by x.p (λ z. z ≡ s) b.events mid new b.adds x.tenant;
        })
        (λ (g : G s). let x = b.woken s g in record { p = x.p; k = x.k; among = among_left (Does (On x.p (Deliver x.k))) b.events a.events x.among; tenant = x.tenant })
        (either s h);
  }

  pub wakes_as : (by : ℕ) (old new : List Entry) (F G : ℕ → Type 0) → ((s : ℕ) → F s → G s) → ((s : ℕ) → G s → F s) → Wakes P C by old new F → Wakes P C by old new G
  wakes_as by old new F G to back w = record {
    events = w.events;
    adds = w.adds;
    each = λ p k among. let x = w.each p k among in record { tenant = x.tenant; is = x.is; fact = to x.tenant.station x.fact };
    woken = λ s g. w.woken s (back s g);
  }

  -- Steps that take nothing to anybody

  pub wakes_reading : (by p c n : ℕ) (k : Source) (v w : View) → Grows P C by v w (ReadsLink P C p c k n) → Wakes P C by v.seen w.seen (λ s. ⊥)
  wakes_reading by p c n k v w g = wakes_nobody by v.seen w.seen [] (adds_these P C by v w (ReadsLink P C p c k n) [] g g.kind.none) none_in_none

  pub wakes_finishing : (by s g old n : ℕ) (outcome : Outcome) (v w : View) → Grows P C by v w (Finishes P C s g outcome old n) → Wakes P C by v.seen w.seen (λ s. ⊥)
  wakes_finishing by s g old n outcome v w step = ⊎_elim
      (λ hit. wakes_nobody by v.seen w.seen (Does (On hit.1.p Finish) ∷ [])
      (adds_these P C by v w (Finishes P C s g outcome old n) (Does (On hit.1.p Finish) ∷ []) step hit.1.added) (none_in_finish hit.1.p))
      (λ miss. wakes_nobody by v.seen w.seen (Refuses (Stale miss.1.p) ∷ [])
      (adds_these P C by v w (Finishes P C s g outcome old n) (Refuses (Stale miss.1.p) ∷ []) step miss.1.added) (none_in_refusal (Stale miss.1.p)))
      step.kind

  pub wakes_settling : (by s g old n : ℕ) (v w : View) → Grows P C by v w (Settles P C s g old n) → Wakes P C by v.seen w.seen (λ s. ⊥)
  wakes_settling by s g old n v w step = ⊎_elim
      (λ hit. wakes_nobody by v.seen w.seen (Does (On hit.1.p Load) ∷ []) (adds_these P C by v w (Settles P C s g old n) (Does (On hit.1.p Load) ∷ []) step hit.1.added) (none_in_load hit.1.p))
      (λ miss. wakes_nobody by v.seen w.seen (Refuses (Stale miss.1.p) ∷ [])
      (adds_these P C by v w (Settles P C s g old n) (Refuses (Stale miss.1.p) ∷ []) step miss.1.added) (none_in_refusal (Stale miss.1.p)))
      step.kind

  pub wakes_looking : (by : ℕ) (x : Place) (n : ℕ) (v w : View) → Grows P C by v w (Sees P C by v x n) → Wakes P C by v.seen w.seen (λ s. ⊥)
  wakes_looking by x n v w g = wakes_nobody by v.seen w.seen [] (adds_these P C by v w (Sees P C by v x n) [] g g.kind.none) none_in_none

  -- a look, and then a load's exchange
  pub wakes_settled : (by id s g old n : ℕ) (first : List Entry) (v w : View) → id ≡ by
      → Wakes P C by first v.seen (λ s. ⊥) → Grows P C id v w (Settles P C s g old n) → Wakes P C by first w.seen (λ s. ⊥)
  wakes_settled by id s g old n first v w is looked step =
      let done = subst (λ z. Wakes P C z v.seen w.seen (λ s. ⊥)) is (wakes_settling id s g old n v w step) in
      wakes_both by first v.seen w.seen (λ s. ⊥) (λ s. ⊥) (λ s. ⊥) looked done (λ s no. no) (λ s no. no) (λ s no. absurd no)

  -- The last load of a walk marks the tenant that is named
  pub wakes_ending : (by s g q : ℕ) (v w : View) → (e : Grows P C by v w (EndsWalk P C s g)) → IsNamed (unit_of P C v.seen) q s g → Wakes P C by v.seen w.seen (λ s. ⊥)
  wakes_ending by s g q v w e named =
      let legal = legal_before P C (map (entry by) e.events) (e.between ++ v.seen) (subst (IsLegal P C) e.is e.legal) in
      let added = (e.kind q (named_stays P C q s g e.between v.seen legal (same_before P C by v w (EndsWalk P C s g) e) named)).added in
      wakes_nobody by v.seen w.seen (Marks (Walked q) ∷ []) (adds_these P C by v w (EndsWalk P C s g) (Marks (Walked q) ∷ []) e added) (none_in_mark (Walked q))

  -- The exchange of an operand

  module _ (by c g old n : ℕ) (k : Source) (v w : View) (step : Grows P C by v w (Delivers P C c k g old n)) where
    abbrev Found : Type 0
    Found = Finds (unit_of P C (step.between ++ v.seen)) c g step.events IsAny (λ p. Does (On p (Deliver k)) ∷ [])

    there : (f : Found) → Has (unit_of P C w.seen) f.p (λ t. t.station ≡ c)
    there f =
        let legal = subst (IsLegal P C) step.is step.legal in
        let same = sym (ap renewals step.is) ∙ step.same ∙ sym (same_before P C by v w (Delivers P C c k g old n) step) in
        let named = named_stays P C f.p c g (map (entry by) step.events) (step.between ++ v.seen) legal same f.tenant in
        subst (λ z. Has (unit_of P C z) f.p (λ t. t.station ≡ c)) (sym step.is) (record { tenant = named.tenant; is = named.is; fact = named.station_is })

    hit : (f : Found) → Wakes P C by v.seen w.seen (λ s. s ≡ c)
    hit f = record {
      events = Does (On f.p (Deliver k)) ∷ [];
      adds = adds_these P C by v w (Delivers P C c k g old n) (Does (On f.p (Deliver k)) ∷ []) step f.added;
      each = λ p k' among. ⊎_elim
          (λ (e : Does (On p (Deliver k')) ≡ Does (On f.p (Deliver k))). let same : p ≡ f.p = cc e in subst (λ z. Has (unit_of P C w.seen) z (λ t. t.station ≡ c)) (sym same) (there f))
          (λ none. absurd none) among;
      woken = λ s e. record { p = f.p; k = k; among = inl refl; tenant = subst (λ z. Has (unit_of P C w.seen) f.p (λ t. t.station ≡ z)) (sym e) (there f) };
    }

    miss : step.events ≡ [] → Wakes P C by v.seen w.seen (λ s. ⊥)
    miss none = wakes_nobody by v.seen w.seen [] (adds_these P C by v w (Delivers P C c k g old n) [] step none) none_in_none

    -- it succeeded where it found the old word
    pub wakes_delivering : (b : Bool) → (b ≡ true → n ≡ old) → (n ≡ old → b ≡ true) → Wakes P C by v.seen w.seen (λ s. (b ≡ true) × (s ≡ c))
    wakes_delivering b found finds = ⊎_elim
        (λ (h : (n ≡ old) × Found). wakes_as by v.seen w.seen (λ s. s ≡ c) (λ s. (b ≡ true) × (s ≡ c)) (λ s e. (finds h.0, e)) (λ s e. e.1) (hit h.1))
        (λ h. wakes_as by v.seen w.seen (λ s. ⊥) (λ s. (b ≡ true) × (s ≡ c)) (λ s no. absurd no) (λ s e. absurd (h.0 (found e.0))) (miss h.1))
        step.kind

  -- A link was read, and its consumer served or not
  pub wakes_served : (by c : ℕ) (b : Bool) (old mid new : List Entry) → Wakes P C by old mid (λ s. ⊥)
      → Wakes P C by mid new (λ s. (b ≡ true) × (s ≡ c)) → Wakes P C by old new (λ s. (b ≡ true) × (s ≡ c))
  wakes_served by c b old mid new x y = wakes_both by old mid new (λ s. ⊥) (λ s. (b ≡ true) × (s ≡ c)) (λ s. (b ≡ true) × (s ≡ c)) x y (λ s no. absurd no) (λ s e. e) (λ s e. inr e)

  pub wakes_not : (by c : ℕ) (old new : List Entry) → Wakes P C by old new (λ s. ⊥) → Wakes P C by old new (λ s. (false ≡ true) × (s ≡ c))
  wakes_not by c old new w = wakes_as by old new (λ s. ⊥) (λ s. (false ≡ true) × (s ≡ c)) (λ s no. absurd no) (λ s e. cc e.0) w

  -- Both sources of one more station

  pub wakes_on : (by id id' c woken more : ℕ) (b b' both : Bool) (old x y new : List Entry) → id ≡ by → id' ≡ by
      → (b ≡ true → both ≡ true) → (b' ≡ true → both ≡ true) → (both ≡ true → (b ≡ true) ⊎ (b' ≡ true))
      → Wakes P C by old x (IsSet woken) → Wakes P C id x y (λ s. (b ≡ true) × (s ≡ c))
      → Wakes P C id' y new (λ s. (b' ≡ true) × (s ≡ c)) → IsWith woken c both more → Wakes P C by old new (IsSet more)
  wakes_on by id id' c woken more b b' both old x y new is is' one other split was first second with =
      let a : Wakes P C by x y (λ s. (b ≡ true) × (s ≡ c)) = subst (λ z. Wakes P C z x y (λ s. (b ≡ true) × (s ≡ c))) is first in
      let a' : Wakes P C by y new (λ s. (b' ≡ true) × (s ≡ c)) = subst (λ z. Wakes P C z y new (λ s. (b' ≡ true) × (s ≡ c))) is' second in
      let served : Wakes P C by x new (λ s. (both ≡ true) × (s ≡ c)) = wakes_both by x y new (λ s. (b ≡ true) × (s ≡ c)) (λ s. (b' ≡ true) × (s ≡ c)) (λ s. (both ≡ true) × (s ≡ c)) a a'
      (λ s e. (one e.0, e.1)) (λ s e. (other e.0, e.1)) (λ s e. ⊎_elim (λ h. inl (h, e.1)) (λ h. inr (h, e.1)) (split e.0)) in
      wakes_both by old x new (IsSet woken) (λ s. (both ≡ true) × (s ≡ c)) (IsSet more) was served (λ s e. with.kept s e) (λ s e. subst (IsSet more) (sym e.1) (with.set e.0)) (λ s e. with.only s e)

  -- The whole call

  pub wakes_behind : (by id woken : ℕ) (old mid new : List Entry) → id ≡ by → Wakes P C by old mid (λ s. ⊥) → Wakes P C id mid new (IsSet woken) → Wakes P C by old new (IsSet woken)
  wakes_behind by id woken old mid new is x y =
      wakes_both by old mid new (λ s. ⊥) (IsSet woken) (IsSet woken) x (subst (λ z. Wakes P C z mid new (IsSet woken)) is y) (λ s no. absurd no) (λ s e. e) (λ s e. inr e)

  pub wakes_before : (by id woken : ℕ) (old mid new : List Entry) → id ≡ by → Wakes P C by old mid (IsSet woken) → Wakes P C id mid new (λ s. ⊥) → Wakes P C by old new (IsSet woken)
  wakes_before by id woken old mid new is x y =
      wakes_both by old mid new (IsSet woken) (λ s. ⊥) (IsSet woken) x (subst (λ z. Wakes P C z mid new (λ s. ⊥)) is y) (λ s e. e) (λ s no. absurd no) (λ s e. inl e)

  pub has_woken_none : (by : ℕ) (old new : List Entry) → Wakes P C by old new (λ s. ⊥) → HasWoken P C by old new 0
  has_woken_none by old new w = wakes_as by old new (λ s. ⊥) (IsSet 0) (λ s no. absurd no) (λ s set. no_bit s set) w

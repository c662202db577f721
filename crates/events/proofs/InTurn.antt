-- Events of a log that are judged in turn, or wait.
use Rattle.std.proofs.Common.{◌≡◌, ◌==◌, ℕ, ◌+◌, ◌<◌, Bool, true, Result, Ok, Err, IfErr, IfOk, OnOk, List, [], ◌∷◌, ◌++◌, get_or, take, drop, length, refl, sym, ap, ◌∙◌, subst, append_assoc, append-nil, eqb-true, take-append-drop}
use Rattle.std.proofs.lemmas.List.{drop_more, map-append, map_more, nil_from_length}
use Rattle.replay.specs.declared.unit.Unit.{Unit as Held}
use Rattle.events.specs.declared.event.Event.{Event}
use Rattle.events.specs.declared.item.Item.{Item}
use Rattle.events.specs.declared.log_judge.LogJudge.{LogJudge}
use Rattle.events.specs.declared.verdict.Refused.{Refused}
use Rattle.events.specs.declared.why.Why.{Why}
use Rattle.events.specs.Items.{IsRefusedAmong, Judges, events_of}
use Rattle.events.specs.Logs.{AreTaken}
use Rattle.events.specs.Told.{Begins, Refuses, Tells}

-- Answers

pub ok_so : {X E : Type 0} (r : Result X E) (x : X) (A : Type 0) → r ≡ Ok x → OnOk r A → A
ok_so r x A is a = subst (λ s. OnOk s A) is a

pub err_so : {X E : Type 0} (r : Result X E) (e : E) (A : E → Type 0) → r ≡ Err e → IfErr r A → A e
err_so r e A is a = subst (λ s. IfErr s A) is a

pub ok_ok : {X E F : Type 0} (r : Result (Result X E) F) (A B : Type 0) → (A → B) → IfOk r (λ a. OnOk a A) → IfOk r (λ a. OnOk a B)
ok_ok (Ok (Ok x)) A B f a = f a
ok_ok (Ok (Err e)) A B f a = tt
ok_ok (Err e) A B f a = tt

pub ok_err : {X E F : Type 0} (r : Result (Result X E) F) (A B : E → Type 0) → ((e : E) → A e → B e) → IfOk r (λ a. IfErr a A) → IfOk r (λ a. IfErr a B)
ok_err (Ok (Ok x)) A B f a = tt
ok_err (Ok (Err e)) A B f a = f e a
ok_err (Err e) A B f a = tt

-- Events

pub taken_then : (u v w : Held) (xs ys : List Event) → AreTaken u xs v → AreTaken v ys w → AreTaken u (xs ++ ys) w
taken_then u v w [] ys a b = subst (λ x. AreTaken x ys w) a b
taken_then u v w (e ∷ es) ys a b = (a.0, (a.1.0, taken_then a.0 v w es ys a.1.1 b))

-- the events of some and of others that are taken after them
pub taken_both : (u v w : Held) (xs ys : List Item) → AreTaken u (events_of xs) v → AreTaken v (events_of ys) w → AreTaken u (events_of (xs ++ ys)) w
taken_both u v w xs ys a b =
    subst (λ es. AreTaken u es w) (sym (map-append (λ (i : Item). i.event) xs ys)) (taken_then u v w (events_of xs) (events_of ys) a b)

-- one more of the items of a slice
pub one_more_taken : (u v w : Held) (items : List Item) (i : ℕ) (d : Item) → i < length items →
    AreTaken u (events_of (take i items)) v → Tells v (get_or items i d).event w → AreTaken u (events_of (take (i + 1) items)) w
one_more_taken u v w items i d l taken tells =
    subst (λ es. AreTaken u es w) (sym (map_more (λ (x : Item). x.event) items i d l))
    (taken_then u v w (events_of (take i items)) ((get_or items i d).event ∷ []) taken (w, (tells, refl)))

pub refused_at : (u v w : Held) (items : List Item) (i : ℕ) (d : Item) (why : Why) → i < length items →
    AreTaken u (events_of (take i items)) v → Refuses v (Begins (get_or items i d).event) why w →
    IsRefusedAmong u items (record { item = get_or items i d; why = why }) w
refused_at u v w items i d why l taken refuses = record {
  before = take i items;
  after = drop (i + 1) items;
  are = sym (take-append-drop i items) ∙ ap (λ rest. take i items ++ rest) (drop_more items i d l);
  at = v;
  taken = taken;
  refuses = refuses;
}

pub settled : (old new : LogJudge) → AreTaken old.judge.unit (events_of old.waiting.items) new.judge.unit → new.waiting.items ≡ [] → Judges old [] new
settled old new taken none =
    record { judged = old.waiting.items; are = ap (λ ws. old.waiting.items ++ ws) (sym none); taken = taken }

-- no item waits where there are none
pub none_waits : (len : ℕ) (items : List Item) (test : Bool) → len ≡ length items → test ≡ (len == 0) → test ≡ true → items ≡ []
none_waits len items test all is found = nil_from_length items (sym all ∙ eqb-true len 0 (sym is ∙ found))

pub judges_none : (j : LogJudge) → Judges j [] j
judges_none j = record { judged = []; are = append-nil j.waiting.items; taken = refl }

-- a judge with none that wait judges the next event
pub judges_now : (old new : LogJudge) (item : Item) → old.waiting.items ≡ [] → new.waiting.items ≡ old.waiting.items →
    AreTaken old.judge.unit (events_of (item ∷ [])) new.judge.unit → Judges old (item ∷ []) new
judges_now old new item none same taken = record {
  judged = item ∷ [];
  are = ap (λ ws. ws ++ item ∷ []) none ∙ ap (λ ws. item ∷ ws) (sym (same ∙ none));
  taken = taken;
}

pub keeps : (old new : LogJudge) (item : Item) → new.waiting.items ≡ old.waiting.items ++ item ∷ [] → new.judge ≡ old.judge → Judges old (item ∷ []) new
keeps old new item waits same = record { judged = []; are = sym waits; taken = ap (λ j. j.unit) same }

pub judges_then : (a b c : LogJudge) (told : List Item) → Judges a [] b → Judges b told c → Judges a told c
judges_then a b c told p q =
    let first : a.waiting.items ≡ p.judged ++ b.waiting.items = sym (append-nil a.waiting.items) ∙ p.are in
    record {
      judged = p.judged ++ q.judged;
      are = ap (λ ws. ws ++ told) first ∙ append_assoc p.judged b.waiting.items told ∙ ap (λ ws. p.judged ++ ws) q.are
          ∙ sym (append_assoc p.judged q.judged c.waiting.items);
      taken = taken_both a.judge.unit b.judge.unit c.judge.unit p.judged q.judged p.taken q.taken;
    }

-- an event is refused among those that waited, before one more
pub refused_early : (u v : Held) (items more : List Item) (refused : Refused) → IsRefusedAmong u items refused v → IsRefusedAmong u (items ++ more) refused v
refused_early u v items more refused r = record {
  before = r.before;
  after = r.after ++ more;
  are = ap (λ xs. xs ++ more) r.are ∙ append_assoc r.before (refused.item ∷ r.after) more;
  at = r.at;
  taken = r.taken;
  refuses = r.refuses;
}

-- an event is refused among those after some that are taken
pub refused_late : (u w v : Held) (taken items : List Item) (refused : Refused) → AreTaken u (events_of taken) w → IsRefusedAmong w items refused v →
    IsRefusedAmong u (taken ++ items) refused v
refused_late u w v taken items refused t r = record {
  before = taken ++ r.before;
  after = r.after;
  are = ap (λ xs. taken ++ xs) r.are ∙ sym (append_assoc taken r.before (refused.item ∷ r.after));
  at = r.at;
  taken = taken_both u w r.at taken r.before t r.taken;
  refuses = r.refuses;
}

-- an event is refused once what waited is judged
pub refused_then : (a b : LogJudge) (v : Held) (told : List Item) (refused : Refused) → Judges a [] b →
    IsRefusedAmong b.judge.unit (b.waiting.items ++ told) refused v → IsRefusedAmong a.judge.unit (a.waiting.items ++ told) refused v
refused_then a b v told refused p r =
    let first : a.waiting.items ≡ p.judged ++ b.waiting.items = sym (append-nil a.waiting.items) ∙ p.are in
    subst (λ (xs : List Item). IsRefusedAmong a.judge.unit xs refused v)
    (sym (ap (λ ws. ws ++ told) first ∙ append_assoc p.judged b.waiting.items told))
    (refused_late a.judge.unit b.judge.unit v p.judged (b.waiting.items ++ told) refused p.taken r)

-- What is dropped stays dropped, as tenants change, come, and settle.
use Rattle.std.proofs.Common.{◌≡◌, ◌≢◌, ℕ, zero, suc, ◌<◌, ◌≤◌, Bool, true, false, leb, leb-true, leb-false, ltb, ltb-true, ltb-false, eqb, eqb-true, List, [], ◌∷◌, ◌++◌, length, take, Option, Some, None, refl, sym, ap, ◌∙◌, subst, inl, inr, arith}
use Rattle.std.specs.Prelude.{is_none, slice_get, slice_set}
use Rattle.std.proofs.lemmas.List.{length-append, take-append-le, take-set-le}
use Rattle.instructions.specs.Programs.{Program}
use Rattle.inorder.specs.declared.history.Source.{Source}
use Rattle.inorder.specs.Steps.{MayDeliver}
use Rattle.inorder.specs.Tenants.{AtLet, Linked, Live, Operand, Tenant, Unlinked, operand}
use Rattle.inorder.specs.Unit.{older, value_of}
use Rattle.inorder.proofs.Positions.{not_eqb}
use Rattle.replay.specs.declared.settled.Settled.{Settled}
use Rattle.replay.specs.declared.tenant.Tenant.{Tenant as Held}
use Rattle.replay.specs.Dropping.{AreClosed, IsClosed, IsDropped, IsValueIfKept, NeedsFromBoth, TurnsTo, WaitsForKept}
use Rattle.replay.specs.Reasons.{Is, IsHeldLive}
use Rattle.replay.specs.Settlement.{IsSettled, MayReplace}
use Rattle.replay.specs.Shown.{shown, tenant_of}
use Rattle.replay.proofs.First.{older_first}
use Rattle.replay.proofs.Found.{live_by}
use Rattle.replay.proofs.Laid.{get_below, get_none, shown_at}
use Rattle.replay.proofs.Lets.{value_missing, value_there}
use Rattle.replay.proofs.Settlement.{get_push, get_set_other, get_set_same, take_set}

-- A source that is closed

-- by the same tenants before it
closed_by : (hs ks : List Held) (q : ℕ) (h : Held) (k : Source) → take q ks ≡ take q hs → IsClosed hs q h k → IsClosed ks q h k
closed_by hs ks q h k same is = record {
  unlinked = is.unlinked;
  undelivered = λ may. is.undelivered (subst (λ xs. MayDeliver (shown xs) (tenant_of h) k) same may);
}

-- the same source of another tenant
closed_same : (hs : List Held) (q : ℕ) (t h : Held) (k : Source) → operand k (tenant_of h) ≡ operand k (tenant_of t) →
    IsClosed hs q h k → IsClosed hs q t k
closed_same hs q t h k same is = record {
  unlinked = λ m. is.unlinked (record { way = ap (λ (o : Operand). o.way) same ∙ m.way });
  undelivered = λ m. is.undelivered (record {
    in_time = m.in_time;
    way = ap (λ (o : Operand). o.way) same ∙ m.way;
    waits = ap (λ (o : Operand). o.value) same ∙ m.waits;
    value = m.value;
    is_made = ap (λ (o : Operand). value_of (shown (take q hs)) o.creator) same ∙ m.is_made;
  });
}

pub closed_at_let : (hs : List Held) (q : ℕ) (h : Held) (k : Source) → (operand k (tenant_of h)).way ≡ AtLet → IsClosed hs q h k
closed_at_let hs q h k way = record {
  unlinked = λ m. let other = m.way in absurd (cc);
  undelivered = λ m. let other = m.way in absurd (cc);
}

pub closed_valued : (hs : List Held) (q v : ℕ) (h : Held) (k : Source) (b : Bool) → (operand k (tenant_of h)).way ≡ Linked b →
    (operand k (tenant_of h)).value ≡ Some v → IsClosed hs q h k
closed_valued hs q v h k b way value = record {
  unlinked = λ m. let other = m.way in absurd (cc);
  undelivered = λ m. let other = m.waits in absurd (cc);
}

pub closed_nothing : (hs : List Held) (q : ℕ) (h : Held) (k : Source) (b : Bool) → q < length hs → (operand k (tenant_of h)).way ≡ Linked b →
    value_of (older (shown hs) q) (operand k (tenant_of h)).creator ≡ None → IsClosed hs q h k
closed_nothing hs q h k b below way nothing = record {
  unlinked = λ m. let other = m.way in absurd (cc);
  undelivered = λ m.
      let some : value_of (shown (take q hs)) (operand k (tenant_of h)).creator ≡ Some m.value = m.is_made in
      let none : value_of (shown (take q hs)) (operand k (tenant_of h)).creator ≡ None =
      ap (λ ts. value_of ts (operand k (tenant_of h)).creator) (sym (older_first hs q below)) ∙ nothing in
      absurd (cc);
}

pub nothing_there : (o : Option ℕ) → is_none o ≡ true → o ≡ None
nothing_there None e = refl
nothing_there (Some x) e = absurd (cc)

-- Fewer are dropped, or more have settled

pub dropped_less : (hs : List Held) (m n upto : ℕ) → IsDropped hs m upto → n ≤ m → IsDropped hs n upto
dropped_less hs m n upto is less = record {
  within = let w = is.within in omega arith;
  closed = λ q lt. is.closed q (omega arith);
  needs = λ q late h k there c asks made. go q h k there c asks made (leb m q) refl;
}
  where
    go : (q : ℕ) (h : Held) (k : Source) → slice_get hs q ≡ Some h → (c : ℕ) → ¬ IsClosed hs q h k →
        (operand k (tenant_of h)).creator ≡ Some c → (b : Bool) → leb m q ≡ b → n ≤ c
    go q h k there c asks made true e =
        let more = is.needs q (leb-true m q e) h k there c asks made in omega arith
    go q h k there c asks made false e =
        let early = leb-false m q e in absurd (asks (is.closed q (omega arith) h k there))

pub dropped_later : (hs : List Held) (n upto later : ℕ) → IsDropped hs n upto → upto ≤ later → IsDropped hs n later
dropped_later hs n upto later is more = record {
  within = let w = is.within in omega arith;
  closed = is.closed;
  needs = is.needs;
}

pub nobody_dropped : (hs : List Held) (upto : ℕ) → IsDropped hs 0 upto
nobody_dropped hs upto = record {
  within = omega arith;
  closed = λ q lt. absurd (omega arith);
  needs = λ q late h k there c asks made. omega arith;
}

-- One more comes

get_new : (hs : List Held) (h : Held) (q : ℕ) → q ≡ length hs → slice_get (hs ++ h ∷ []) q ≡ Some h
get_new [] h zero e = refl
get_new [] h (suc q) e = absurd (omega arith)
get_new (x ∷ hs) h zero e = absurd (omega arith)
get_new (x ∷ hs) h (suc q) e = get_new hs h q (omega arith)

pub dropped_push : (hs : List Held) (n upto : ℕ) (h : Held) → IsDropped hs n upto → upto ≤ length hs → WaitsForKept hs n h →
    IsDropped (hs ++ h ∷ []) n upto
dropped_push hs n upto h is inside waits = record {
  within = is.within;
  closed = λ q lt g k there.
      let w = is.within in
      closed_by hs (hs ++ h ∷ []) q g k (take-append-le q hs (h ∷ []) (omega arith))
      (is.closed q lt g k (sym (get_push hs (h ∷ []) q (omega arith)) ∙ there));
  needs = λ q late g k there c asks made. go q late g k there c asks made (ltb q (length hs)) refl;
}
  where
    go : (q : ℕ) → n ≤ q → (g : Held) (k : Source) → slice_get (hs ++ h ∷ []) q ≡ Some g → (c : ℕ) → ¬ IsClosed (hs ++ h ∷ []) q g k →
        (operand k (tenant_of g)).creator ≡ Some c → (b : Bool) → ltb q (length hs) ≡ b → n ≤ c
    go q late g k there c asks made true e =
        let below = ltb-true q (length hs) e in
        is.needs q late g k (sym (get_push hs (h ∷ []) q below) ∙ there) c
        (λ shut. asks (closed_by hs (hs ++ h ∷ []) q g k (take-append-le q hs (h ∷ []) (omega arith)) shut)) made
    go q late g k there c asks made false e =
        let above = ltb-false q (length hs) e in
        let below = get_below (hs ++ h ∷ []) q g there in
        let long = length-append hs (h ∷ []) in
        let last : q ≡ length hs = omega arith in
        let new : slice_get (hs ++ h ∷ []) q ≡ Some h = get_new hs h q last in
        let one : g ≡ h = cc in
        let same : take q (hs ++ h ∷ []) ≡ take q hs = take-append-le q hs (h ∷ []) (omega arith) in
        waits k c
        (λ shut. asks (subst (λ x. IsClosed (hs ++ h ∷ []) q x k) (sym one)
        (closed_by hs (hs ++ h ∷ []) q h k same (subst (λ p. IsClosed hs p h k) (sym last) shut))))
        (ap (λ x. (operand k (tenant_of x)).creator) (sym one) ∙ made)

-- One changes

pub value_get : (xs ys : List Held) (c : ℕ) → slice_get xs c ≡ slice_get ys c → value_of (shown xs) (Some c) ≡ value_of (shown ys) (Some c)
value_get xs ys c same = go (slice_get ys c) refl
  where
    go : (o : Option Held) → slice_get ys c ≡ o → value_of (shown xs) (Some c) ≡ value_of (shown ys) (Some c)
    go None e = sym (value_missing xs c (same ∙ e)) ∙ value_missing ys c e
    go (Some t) e = sym (value_there xs c t (same ∙ e)) ∙ value_there ys c t e

-- the value of a source is as it was, where its creator is as it was
deliver_by : (ts us : List Tenant) (t : Tenant) (k : Source) → value_of us (operand k t).creator ≡ value_of ts (operand k t).creator →
    MayDeliver ts t k → MayDeliver us t k
deliver_by ts us t k same m = record {
  in_time = m.in_time;
  way = m.way;
  waits = m.waits;
  value = m.value;
  is_made = same ∙ m.is_made;
}

pub dropped_set : (P : Program) (hs : List Held) (n upto who : ℕ) (h : Held) → IsDropped hs n upto → MayReplace P hs n upto who h →
    IsDropped (slice_set hs who h) n upto
dropped_set P hs n upto who h is may = record {
  within = is.within;
  closed = λ q lt g k there.
      let late = may.kept in
      closed_by hs ks q g k (take-set-le q hs who h (omega arith))
      (is.closed q lt g k (sym (get_set_other hs who q h (omega arith)) ∙ there));
  needs = λ q late g k there c asks made. by_place q late g k there c asks made (eqb q who) refl;
}
  where
    ks : List Held
    ks = slice_set hs who h

    -- of another tenant
    other : (q : ℕ) → n ≤ q → (g : Held) (k : Source) → slice_get hs q ≡ Some g → (c : ℕ) → ¬ IsClosed ks q g k →
        (operand k (tenant_of g)).creator ≡ Some c → (b : Bool) → leb q who ≡ b → (d : Bool) → eqb c who ≡ d → n ≤ c
    other q late g k there c asks made true e d f =
        is.needs q late g k there c
        (λ shut. asks (closed_by hs ks q g k (take-set-le q hs who h (leb-true q who e)) shut)) made
    other q late g k there c asks made false e true f =
        let here = eqb-true c who f in let kept = may.kept in omega arith
    other q late g k there c asks made false e false f =
        let after = leb-false q who e in
        let cut : take q ks ≡ slice_set (take q hs) who h = take_set q who hs h (omega arith) in
        let same : slice_get (take q ks) c ≡ slice_get (take q hs) c =
        ap (λ xs. slice_get xs c) cut ∙ get_set_other (take q hs) who c h (not_eqb c who f) in
        let value : value_of (shown (take q hs)) (operand k (tenant_of g)).creator ≡ value_of (shown (take q ks)) (operand k (tenant_of g)).creator =
        ap (value_of (shown (take q hs))) made ∙ sym (value_get (take q ks) (take q hs) c same) ∙ sym (ap (value_of (shown (take q ks))) made) in
        is.needs q late g k there c
        (λ shut. asks (record {
          unlinked = shut.unlinked;
          undelivered = λ m. shut.undelivered (deliver_by (shown (take q ks)) (shown (take q hs)) (tenant_of g) k value m);
        })) made

    -- of the one that changes
    itself : n ≤ who → (k : Source) → (c : ℕ) → ¬ IsClosed ks who h k → (operand k (tenant_of h)).creator ≡ Some c →
        (o : Option Held) → slice_get hs who ≡ o → n ≤ c
    itself late k c asks made None e = let far = get_none hs who e in let near = may.there in absurd (omega arith)
    itself late k c asks made (Some t) e = turn (may.turns t k e)
      where
        unchanged : take who ks ≡ take who hs
        unchanged = take-set-le who hs who h (omega arith)

        turn : TurnsTo hs who t h k → n ≤ c
        turn (inl same) =
            is.needs who late t k e c
            (λ shut. asks (closed_by hs ks who h k unchanged (closed_same hs who h t k (sym same) shut)))
            (ap (λ (o : Operand). o.creator) (sym same) ∙ made)
        turn (inr f) = is.needs who late t k e c f.0 (sym f.1 ∙ made)

    by_place : (q : ℕ) → n ≤ q → (g : Held) (k : Source) → slice_get ks q ≡ Some g → (c : ℕ) → ¬ IsClosed ks q g k →
        (operand k (tenant_of g)).creator ≡ Some c → (b : Bool) → eqb q who ≡ b → n ≤ c
    by_place q late g k there c asks made true e =
        let here : q ≡ who = eqb-true q who e in
        let is_h : slice_get ks q ≡ Some h = ap (slice_get ks) here ∙ get_set_same hs who h may.there in
        let one : g ≡ h = cc in
        itself may.kept k c
        (λ shut. asks (subst (λ x. IsClosed ks q x k) (sym one) (subst (λ p. IsClosed ks p h k) (sym here) shut)))
        (ap (λ x. (operand k (tenant_of x)).creator) (sym one) ∙ made)
        (slice_get hs who) refl
    by_place q late g k there c asks made false e =
        other q late g k (sym (get_set_other hs who q h (not_eqb q who e)) ∙ there) c asks made (leb q who) refl (eqb c who) refl

-- What a source finds

pub value_kept : (hs : List Held) (n who p : ℕ) (r : Option ℕ) → (n ≤ p → r ≡ value_of (older (shown hs) who) (Some p)) → (p < n → r ≡ None) →
    IsValueIfKept hs n who (Some p) r
value_kept hs n who p r kept gone = record {
  kept = kept;
  gone = λ q e lt. let one : p ≡ q = cc in gone (omega arith);
}

pub known_linked : (hs : List Held) (n upto who : ℕ) (t : Held) (k : Source) (c r : Option ℕ) → IsDropped hs n upto → n ≤ who →
    slice_get hs who ≡ Some t → (operand k (tenant_of t)).way ≡ Unlinked → (operand k (tenant_of t)).creator ≡ c →
    IsValueIfKept hs n who c r → r ≡ value_of (older (shown hs) who) c
known_linked hs n upto who t k None r is late there way made v = v.kept tt
known_linked hs n upto who t k (Some p) r is late there way made v =
    v.kept (is.needs who late t k there p (λ shut. shut.unlinked (record { way = way })) made)

pub known_delivered : (hs : List Held) (n upto who : ℕ) (t : Held) (k : Source) (b : Bool) (c r : Option ℕ) → IsDropped hs n upto → n ≤ who →
    slice_get hs who ≡ Some t → (operand k (tenant_of t)).way ≡ Linked b → (operand k (tenant_of t)).value ≡ None →
    (operand k (tenant_of t)).creator ≡ c → IsValueIfKept hs n who c r → r ≡ value_of (older (shown hs) who) c
known_delivered hs n upto who t k b None r is late there way none made v = v.kept tt
known_delivered hs n upto who t k b (Some p) r is late there way none made v = go (leb n p) refl
  where
    -- a value that is there is one of somebody who is kept
    there_is : (o : Option ℕ) → value_of (older (shown hs) who) (Some p) ≡ o → p < n → None ≡ value_of (older (shown hs) who) (Some p)
    there_is None e lt = sym e
    there_is (Some x) e lt =
        let asks : ¬ IsClosed hs who t k = λ shut. shut.undelivered (record {
          in_time = b;
          way = way;
          waits = none;
          value = x;
          is_made =
              ap (value_of (shown (take who hs))) made
              ∙ ap (λ ts. value_of ts (Some p)) (sym (older_first hs who (get_below hs who t there))) ∙ e;
        }) in
        let kept = is.needs who late t k there p asks made in
        absurd (omega arith)

    go : (d : Bool) → leb n p ≡ d → r ≡ value_of (older (shown hs) who) (Some p)
    go true e = v.kept (leb-true n p e)
    go false e =
        let early = leb-false n p e in
        v.gone p refl (omega arith) ∙ there_is (value_of (older (shown hs) who) (Some p)) refl (omega arith)

-- Who is dropped

record There (hs : List Held) (q : ℕ) : Type 0 where
  h : Held
  is : slice_get hs q ≡ Some h

there_is : (hs : List Held) (q : ℕ) → q < length hs → There hs q
there_is hs q lt = go (slice_get hs q) refl
  where
    go : (o : Option Held) → slice_get hs q ≡ o → There hs q
    go None e = let far = get_none hs q e in absurd (omega arith)
    go (Some h) e = record { h = h; is = e }

-- nothing links its sources
pub dropped_link : (hs : List Held) (n upto q : ℕ) (k : Source) → IsDropped hs n upto → upto ≤ length hs → q < n →
    Is (shown hs) q (λ t. (operand k t).way ≢ Unlinked)
dropped_link hs n upto q k is inside lt =
    let w = is.within in
    let found = there_is hs q (omega arith) in
    record {
      tenant = tenant_of found.h;
      is = shown_at hs q found.h found.is;
      fact = λ way. (is.closed q lt found.h k found.is).unlinked (record { way = way });
    }

-- nothing is delivered to it
pub dropped_deliver : (hs : List Held) (n upto q : ℕ) (k : Source) → IsDropped hs n upto → upto ≤ length hs → q < n →
    Is (shown hs) q (λ t. ¬ MayDeliver (older (shown hs) q) t k)
dropped_deliver hs n upto q k is inside lt =
    let w = is.within in
    let found = there_is hs q (omega arith) in
    record {
      tenant = tenant_of found.h;
      is = shown_at hs q found.h found.is;
      fact = λ may. (is.closed q lt found.h k found.is).undelivered
          (subst (λ ts. MayDeliver ts (tenant_of found.h) k) (older_first hs q (omega arith)) may);
    }

-- it has left
pub dropped_gone : (P : Program) (hs : List Held) (s : Settled) (n q : ℕ) → IsSettled P hs s → IsDropped hs n s.upto → q < n →
    Is (shown hs) q (λ t. t.standing ≢ Live)
dropped_gone P hs s n q settled is lt =
    let w = is.within in
    let inside = settled.within in
    let found = there_is hs q (omega arith) in
    record {
      tenant = tenant_of found.h;
      is = shown_at hs q found.h found.is;
      fact = λ live. settled.left q (omega arith) (subst IsHeldLive (sym found.is) (live_by found.h.standing live));
    }

-- The oldest that nothing asks for

pub unasked_by : (hs : List Held) (upto m n : ℕ) → m ≤ upto → ((q : ℕ) → q < m → AreClosed hs q) → n ≤ m →
    ((q : ℕ) → m ≤ q → q < length hs → NeedsFromBoth hs q n) → IsDropped hs n upto
unasked_by hs upto m n within closed less needs = record {
  within = omega arith;
  closed = λ q lt. closed q (omega arith);
  needs = λ q late h k there c asks made. go q h k there c asks made (leb m q) refl;
}
  where
    go : (q : ℕ) (h : Held) (k : Source) → slice_get hs q ≡ Some h → (c : ℕ) → ¬ IsClosed hs q h k →
        (operand k (tenant_of h)).creator ≡ Some c → (b : Bool) → leb m q ≡ b → n ≤ c
    go q h k there c asks made true e = needs q (leb-true m q e) (get_below hs q h there) h k there c asks made
    go q h k there c asks made false e =
        let early = leb-false m q e in absurd (asks (closed q (omega arith) h k there))

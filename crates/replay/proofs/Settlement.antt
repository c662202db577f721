-- What the settled tenants have left stays, as tenants change, come, and settle.
use Rattle.std.proofs.Common.{◌≡◌, ◌≢◌, ◌⊎◌, ℕ, zero, suc, ◌+◌, ◌<◌, ◌≤◌, Bool, true, false, not, cond, ◌&&◌, leb, ltb, ltb-false, eqb, eqb-true, ne_eqb, List, [], ◌∷◌, ◌++◌, length, take, get_or, Option, Some, None, refl, sym, ap, ◌∙◌, subst, inl, inr, ⊎_elim, arith}
use Rattle.std.specs.Prelude.{slice_get, slice_index, slice_index_or, slice_set, unwrap_or}
use Rattle.std.proofs.lemmas.List.{get_or-set_other, get_or-set_same, length-set, length-take-le, take-append-le, take-set-le}
use Rattle.instructions.specs.Programs.{Program}
use Rattle.instructions.specs.declared.stop.Stop.{Stop}
use Rattle.inorder.specs.Committed.{with_stored}
use Rattle.inorder.specs.Memory.{Stored, byte_after, byte_at, covers, stored}
use Rattle.inorder.specs.Tenants.{Live, Retired, Standing, Tenant, destination_of, is_first, on_path, stands_live, stands_on_path}
use Rattle.inorder.specs.Unit.{at, half_after, how_many, last_writer, replaced, value_of}
use Rattle.inorder.proofs.Basics.{last_writer_below, put_out, value_of_more}
use Rattle.inorder.proofs.SettledMemory.{HasContent, byte_stored}
use Rattle.inorder.proofs.SettledRegisters.{value_of_last}
use Rattle.replay.specs.declared.front.Front.{Front}
use Rattle.replay.specs.declared.settled.Settled.{Settled}
use Rattle.replay.specs.declared.tenant.Standing.{Standing as HeldStanding}
use Rattle.replay.specs.declared.tenant.Standing.TheVariants.{Live as HeldLive, Retired as HeldRetired, Squashed as HeldSquashed}
use Rattle.replay.specs.declared.tenant.Fate.TheVariants.{Stops as HeldStops}
use Rattle.replay.specs.declared.tenant.Store.{Store}
use Rattle.replay.specs.declared.tenant.Tenant.{Tenant as Held}
use Rattle.replay.specs.Fronts.{front_of}
use Rattle.replay.specs.Reasons.{IsHeldLive, IsHeldMiss, IsHeldStop, IsHeldUnaddressed, held}
use Rattle.replay.specs.Settlement.{Advances, IsAlike, IsHeldDataless, IsSettled, LacksData, MayReplace, ends, ends_by}
use Rattle.replay.specs.Shown.{fate_of, shown, standing_of, store_of, tenant_of}
use Rattle.replay.proofs.Alike.{AreAlike, alike_byte, alike_ends, alike_front, alike_path, alike_value, alike_writer, replaced_alike}
use Rattle.replay.proofs.First.{first_length, shown_more}
use Rattle.replay.proofs.Found.{held_as, live_by, retired_by, stop_by}
use Rattle.replay.proofs.Laid.{get_below, shown_at, shown_set}

-- Lists

pub get_set_same : (hs : List Held) (q : ℕ) (h : Held) → q < length hs → slice_get (slice_set hs q h) q ≡ Some h
get_set_same [] q h l = absurd (omega arith)
get_set_same (x ∷ hs) zero h l = refl
get_set_same (x ∷ hs) (suc q) h l = get_set_same hs q h (omega arith)

pub get_set_other : (hs : List Held) (q k : ℕ) (h : Held) → k ≢ q → slice_get (slice_set hs q h) k ≡ slice_get hs k
get_set_other [] q k h ne = refl
get_set_other (x ∷ hs) zero zero h ne = absurd (ne refl)
get_set_other (x ∷ hs) zero (suc k) h ne = refl
get_set_other (x ∷ hs) (suc q) zero h ne = refl
get_set_other (x ∷ hs) (suc q) (suc k) h ne = get_set_other hs q k h (λ e. ne (ap suc e))

pub take_set : (n q : ℕ) (hs : List Held) (h : Held) → q < n → take n (slice_set hs q h) ≡ slice_set (take n hs) q h
take_set zero q hs h l = absurd (omega arith)
take_set (suc n) q [] h l = refl
take_set (suc n) zero (x ∷ hs) h l = refl
take_set (suc n) (suc q) (x ∷ hs) h l = ap (λ ys. x ∷ ys) (take_set n q hs h (omega arith))

pub get_take : (n q : ℕ) (hs : List Held) → q < n → slice_get (take n hs) q ≡ slice_get hs q
get_take zero q hs l = absurd (omega arith)
get_take (suc n) q [] l = refl
get_take (suc n) zero (x ∷ hs) l = refl
get_take (suc n) (suc q) (x ∷ hs) l = get_take n q hs (omega arith)

pub get_push : (hs ks : List Held) (q : ℕ) → q < length hs → slice_get (hs ++ ks) q ≡ slice_get hs q
get_push [] ks q l = absurd (omega arith)
get_push (x ∷ hs) ks zero l = refl
get_push (x ∷ hs) ks (suc q) l = get_push hs ks q (omega arith)

-- Who is settled

pub is_after : (P : Program) (hs : List Held) (s : Settled) (who : ℕ) (t : Held) → IsSettled P hs s → slice_get hs who ≡ Some t →
    t.standing ≡ HeldLive → s.upto ≤ who
is_after P hs s who t is there live = go (leb s.upto who) refl
  where
    go : (b : Bool) → leb s.upto who ≡ b → s.upto ≤ who
    go true e = Rattle.std.proofs.Common.leb-true s.upto who e
    go false e =
        let below = Rattle.std.proofs.Common.leb-false s.upto who e in
        absurd (is.left who (omega arith) (subst IsHeldLive (sym there) live))

miss_live : (o : Option Held) → IsHeldMiss o → IsHeldLive o
miss_live None f = f
miss_live (Some h) f = f.0

unaddressed_live : (P : Program) (o : Option Held) → IsHeldUnaddressed P o → IsHeldLive o
unaddressed_live P None f = f
unaddressed_live P (Some h) f = f.0

pub no_miss : (P : Program) (hs : List Held) (s : Settled) (k : ℕ) → IsSettled P hs s → k < s.upto → ¬ IsHeldMiss (held hs k)
no_miss P hs s k is l f = is.left k l (miss_live (held hs k) f)

pub no_unaddressed : (P : Program) (hs : List Held) (s : Settled) (k : ℕ) → IsSettled P hs s → k < s.upto → ¬ IsHeldUnaddressed P (held hs k)
no_unaddressed P hs s k is l f = is.left k l (unaddressed_live P (held hs k) f)

pub none_live : (P : Program) (hs : List Held) (s : Settled) (q : ℕ) (t : Tenant) → IsSettled P hs s →
    at (shown (take s.upto hs)) q ≡ Some t → stands_live t.standing ≡ false
none_live P hs s q t is e =
    let found = held_as (take s.upto hs) q t e in
    let below = get_below (take s.upto hs) q found.h found.there in
    let few = length-take-le s.upto hs is.within in
    let l : q < s.upto = omega arith in
    let there : slice_get hs q ≡ Some found.h = sym (get_take s.upto q hs l) ∙ found.there in
    ap (λ (x : Tenant). stands_live x.standing) (sym found.same)
    ∙ go found.h.standing (λ live. is.left q l (subst IsHeldLive (sym there) live))
  where
    go : (x : HeldStanding) → (x ≡ HeldLive → ⊥) → stands_live (standing_of x) ≡ false
    go HeldLive never = absurd (never refl)
    go HeldRetired never = refl
    go HeldSquashed never = refl

-- One that is not settled changes

kept_after : (P : Program) (hs : List Held) (s : Settled) (who : ℕ) (h : Held) → IsSettled P hs s → s.upto ≤ who →
    IsSettled P (slice_set hs who h) s
kept_after P hs s who h is l =
    let same : take s.upto hs ≡ take s.upto (slice_set hs who h) = sym (take-set-le s.upto hs who h l) in
    let long = length-set hs who h in
    let there : (q : ℕ) → q < s.upto → held (slice_set hs who h) q ≡ held hs q = λ q lt. get_set_other hs who q h (omega arith) in
    record {
      within = let w = is.within in omega arith;
      left = λ q lt f. is.left q lt (subst IsHeldLive (there q lt) f);
      goes_on = λ q c lt f. is.goes_on q c lt (subst (λ o. IsHeldStop o c) (there q lt) f);
      whole = λ q lt f. is.whole q lt (subst (IsHeldDataless P) (there q lt) f);
      path = is.path ∙ ap (λ ts. how_many on_path (shown ts)) same;
      front = is.front ∙ ap (λ ts. front_of P (shown ts)) same;
      writers = λ r lt. is.writers r lt ∙ ap (λ ts. last_writer P (shown ts) r) same;
      registers = λ r pos lt. ap (λ ts. value_of (shown ts) (last_writer P (shown ts) r)) (sym same) ∙ is.registers r pos lt;
      count = is.count ∙ ap (λ ts. how_many (ends P) (shown ts)) same;
      bytes = λ x. ap (λ ts. byte_at P (shown ts) x) (sym same) ∙ is.bytes x;
    }

-- One that is settled changes, and leaves the same

kept_before : (P : Program) (hs : List Held) (s : Settled) (who : ℕ) (t h : Held) → IsSettled P hs s → who < s.upto →
    slice_get hs who ≡ Some t → IsAlike P (tenant_of t) (tenant_of h) → IsSettled P (slice_set hs who h) s
kept_before P hs s who t h is l e a =
    let few = length-take-le s.upto hs is.within in
    let first = take s.upto hs in
    let inside : who < length first = omega arith in
    let there : slice_get first who ≡ Some t = get_take s.upto who hs l ∙ e in
    let now : shown (take s.upto (slice_set hs who h)) ≡ replaced (shown first) who (tenant_of h) =
    ap shown (take_set s.upto who hs h l) ∙ shown_set first who h inside in
    let alike : AreAlike P (shown first) (shown (take s.upto (slice_set hs who h))) =
    subst (AreAlike P (shown first)) (sym now)
    (replaced_alike P (shown first) who (tenant_of t) (tenant_of h) (shown_at first who t there) a) in
    let long = length-set hs who h in
    let below = get_below hs who t e in
    record {
      within = let w = is.within in omega arith;
      left = λ q lt f. still IsHeldLive live q (is.left q lt) f;
      goes_on = λ q c lt f. still (λ o. IsHeldStop o c) (stops c) q (is.goes_on q c lt) f;
      whole = λ q lt f. still (IsHeldDataless P) lacks q (is.whole q lt) f;
      path = is.path ∙ alike_path P (shown first) (shown (take s.upto (slice_set hs who h))) alike;
      front = is.front ∙ alike_front P (shown first) (shown (take s.upto (slice_set hs who h))) alike;
      writers = λ r lt. is.writers r lt ∙ alike_writer P (shown first) (shown (take s.upto (slice_set hs who h))) r alike;
      registers = λ r pos lt.
          sym (alike_value P (shown first) (shown (take s.upto (slice_set hs who h))) (last_writer P (shown first) r) alike
          ∙ ap (value_of (shown (take s.upto (slice_set hs who h)))) (alike_writer P (shown first) (shown (take s.upto (slice_set hs who h))) r alike))
          ∙ is.registers r pos lt;
      count = is.count ∙ alike_ends P (shown first) (shown (take s.upto (slice_set hs who h))) alike;
      bytes = λ x. sym (alike_byte P (shown first) (shown (take s.upto (slice_set hs who h))) x alike) ∙ is.bytes x;
    }
  where
    live : IsHeldLive (Some h) → IsHeldLive (Some t)
    live f = live_by t.standing (a.standing ∙ ap standing_of f)

    stops : (c : Stop) → IsHeldStop (Some h) c → IsHeldStop (Some t) c
    stops c f = (retired_by t.standing (a.standing ∙ ap standing_of f.0), stop_by t.fate c (a.fate ∙ ap fate_of f.1))

    lacks : IsHeldDataless P (Some h) → IsHeldDataless P (Some t)
    lacks f = subst LacksData (sym a.stored) f

    still : (Fact : Option Held → Type 0) → (Fact (Some h) → Fact (Some t)) → (q : ℕ) → ¬ Fact (held hs q) → Fact (held (slice_set hs who h) q) → ⊥
    still Fact back q never f = go (eqb q who) refl
      where
        go : (b : Bool) → eqb q who ≡ b → ⊥
        go true g =
            let here = eqb-true q who g in
            let is_h : held (slice_set hs who h) q ≡ Some h = ap (held (slice_set hs who h)) here ∙ get_set_same hs who h (get_below hs who t e) in
            let is_t : held hs q ≡ Some t = ap (held hs) here ∙ e in
            never (subst Fact (sym is_t) (back (subst Fact is_h f)))
        go false g = never (subst Fact (get_set_other hs who q h (Rattle.inorder.proofs.Positions.not_eqb q who g)) f)

pub settled_set : (P : Program) (hs : List Held) (s : Settled) (n who : ℕ) (h : Held) → IsSettled P hs s → MayReplace P hs n s.upto who h →
    IsSettled P (slice_set hs who h) s
settled_set P hs s n who h is may = go (leb s.upto who) refl (slice_get hs who) refl
  where
    go : (b : Bool) → leb s.upto who ≡ b → (o : Option Held) → slice_get hs who ≡ o → IsSettled P (slice_set hs who h) s
    go true e o f = kept_after P hs s who h is (Rattle.std.proofs.Common.leb-true s.upto who e)
    go false e None f = let far = Rattle.replay.proofs.Laid.get_none hs who f in let near = may.there in absurd (omega arith)
    go false e (Some t) f =
        let below = Rattle.std.proofs.Common.leb-false s.upto who e in
        kept_before P hs s who t h is (omega arith) f (may.alike t f (omega arith))

-- One more comes

pub settled_push : (P : Program) (hs : List Held) (s : Settled) (h : Held) → IsSettled P hs s → IsSettled P (hs ++ h ∷ []) s
settled_push P hs s h is =
    let same : take s.upto hs ≡ take s.upto (hs ++ h ∷ []) = sym (take-append-le s.upto hs (h ∷ []) is.within) in
    let long = Rattle.std.proofs.lemmas.List.length-append hs (h ∷ []) in
    let w = is.within in
    let there : (q : ℕ) → q < s.upto → held (hs ++ h ∷ []) q ≡ held hs q = λ q lt. get_push hs (h ∷ []) q (omega arith) in
    record {
      within = omega arith;
      left = λ q lt f. is.left q lt (subst IsHeldLive (there q lt) f);
      goes_on = λ q c lt f. is.goes_on q c lt (subst (λ o. IsHeldStop o c) (there q lt) f);
      whole = λ q lt f. is.whole q lt (subst (IsHeldDataless P) (there q lt) f);
      path = is.path ∙ ap (λ ts. how_many on_path (shown ts)) same;
      front = is.front ∙ ap (λ ts. front_of P (shown ts)) same;
      writers = λ r lt. is.writers r lt ∙ ap (λ ts. last_writer P (shown ts) r) same;
      registers = λ r pos lt. ap (λ ts. value_of (shown ts) (last_writer P (shown ts) r)) (sym same) ∙ is.registers r pos lt;
      count = is.count ∙ ap (λ ts. how_many (ends P) (shown ts)) same;
      bytes = λ x. ap (λ ts. byte_at P (shown ts) x) (sym same) ∙ is.bytes x;
    }

-- One more settles

-- what is so of the settled, and of one more
one_more : (hs : List Held) (n m : ℕ) (h : Held) (Fact : Option Held → Type 0) → m ≡ suc n → slice_get hs n ≡ Some h →
    ((q : ℕ) → q < n → ¬ Fact (held hs q)) → ¬ Fact (Some h) → (q : ℕ) → q < m → ¬ Fact (held hs q)
one_more hs n m h Fact next there old new q lt f = go (eqb q n) refl
  where
    go : (b : Bool) → eqb q n ≡ b → ⊥
    go true g = new (subst Fact (ap (held hs) (eqb-true q n g) ∙ there) f)
    go false g = let ne = Rattle.inorder.proofs.Positions.not_eqb q n g in old q (omega arith) f

has_content : (o : Option Stored) → ¬ LacksData o → HasContent o
has_content None never = tt
has_content (Some s) never = go s.content refl
  where
    go : (c : Option ℕ) → s.content ≡ c → (d : ℕ) × (s.content ≡ Some d)
    go None e = absurd (never e)
    go (Some d) e = (d, e)

-- a byte after a store, wherever it is
byte_left : (o : Option Store) (m : List ℕ) (x : ℕ) → ¬ LacksData (store_of o) → Rattle.std.specs.Prelude.IfSome o (λ s. s.at + s.width ≤ length m) →
    byte_after (store_of o) x (Some (slice_index m x)) ≡ Some (slice_index (with_stored (store_of o) m) x)
byte_left None m x never fits = refl
byte_left (Some s) m x never fits = go (ltb x (length m)) refl
  where
    st : Stored
    st = record { at = s.at; width = s.width; content = s.content }

    go : (b : Bool) → ltb x (length m) ≡ b →
        byte_after (Some st) x (Some (slice_index m x)) ≡ Some (slice_index (with_stored (Some st) m) x)
    go true e = byte_stored (Some st) m x (has_content (Some st) never) (Rattle.std.proofs.Common.ltb-true x (length m) e)
    go false e =
        let far = ltb-false x (length m) e in
        let out : s.at + s.width ≤ x = omega arith in
        let past : ltb x (s.at + s.width) ≡ false = beyond (ltb x (s.at + s.width)) refl out in
        let uncovered : covers st x ≡ false = ap (λ b. leb s.at x && b) past ∙ and_false (leb s.at x) in
        ap (λ b. cond b (Rattle.std.specs.Prelude.option_map (Rattle.lsq.specs.Bytes.byte_of (Rattle.std.specs.Prelude.◌-◌ x s.at)) s.content) (Some (slice_index m x))) uncovered
        ∙ ap Some (sym (put_out m s.at s.width (unwrap_or s.content 0) x (inr out)))
      where
        beyond : (c : Bool) → ltb x (s.at + s.width) ≡ c → s.at + s.width ≤ x → ltb x (s.at + s.width) ≡ false
        beyond true g o = let less = Rattle.std.proofs.Common.ltb-true x (s.at + s.width) g in absurd (omega arith)
        beyond false g o = g

        and_false : (b : Bool) → (b && false) ≡ false
        and_false true = refl
        and_false false = refl

pub settled_squashed : (P : Program) (hs : List Held) (s s' : Settled) (h : Held) → IsSettled P hs s → slice_get hs s.upto ≡ Some h →
    h.standing ≡ HeldSquashed → s' ≡ record s { upto = s.upto + 1 } → IsSettled P hs s'
settled_squashed P hs s s' h is there gone same = subst (IsSettled P hs) (sym same) now
  where
    off : on_path (tenant_of h) ≡ false
    off = ap (λ x. stands_on_path (standing_of x)) gone

    more : shown (take (s.upto + 1) hs) ≡ tenant_of h ∷ shown (take s.upto hs)
    more = shown_more hs s.upto (s.upto + 1) h there refl

    ts : List Tenant
    ts = shown (take s.upto hs)

    no_store : stored P (tenant_of h) ≡ None
    no_store = ap (λ b. Rattle.inorder.specs.Memory.stored_by b (Rattle.inorder.specs.Tenants.kind_of P (tenant_of h)) (tenant_of h).fate (Rattle.instructions.specs.Instruction.width (Rattle.inorder.specs.Tenants.instr P (tenant_of h)).op) (tenant_of h).second.value) off

    skips : (r : ℕ) → last_writer P (tenant_of h ∷ ts) r ≡ last_writer P ts r
    skips r = ap (λ b. cond (b && eqb (destination_of P (tenant_of h)) r) (Some (length ts)) (last_writer P ts r)) off

    now : IsSettled P hs (record s { upto = s.upto + 1 })
    now = record {
      within = let b = get_below hs s.upto h there in omega arith;
      left = one_more hs s.upto (s.upto + 1) h IsHeldLive (omega arith) there is.left (λ f. let e = sym gone ∙ f in absurd (cc));
      goes_on = λ q c lt f. one_more hs s.upto (s.upto + 1) h (λ o. IsHeldStop o c) (omega arith) there (λ k l. is.goes_on k c l)
          (λ g. let e = sym gone ∙ g.0 in absurd (cc)) q lt f;
      whole = one_more hs s.upto (s.upto + 1) h (IsHeldDataless P) (omega arith) there is.whole (λ f. subst LacksData no_store f);
      path = is.path ∙ sym (ap (how_many on_path) more ∙ ap (λ b. cond b (suc (how_many on_path ts)) (how_many on_path ts)) off);
      front = is.front ∙ sym (ap (front_of P) more ∙ skipped);
      writers = λ r lt. is.writers r lt ∙ sym (ap (λ us. last_writer P us r) more
          ∙ skips r);
      registers = λ r pos lt.
          ap (λ us. value_of us (last_writer P us r)) more ∙ ap (value_of (tenant_of h ∷ ts)) (skips r)
          ∙ value_of_more (tenant_of h) ts (last_writer P ts r) (last_writer_below P ts r) ∙ is.registers r pos lt;
      count = is.count ∙ sym (ap (how_many (ends P)) more
          ∙ ap (λ b. cond (b && not (is_first P (tenant_of h))) (suc (how_many (ends P) ts)) (how_many (ends P) ts)) off);
      bytes = λ x. ap (λ us. byte_at P us x) more ∙ ap (λ o. byte_after o x (byte_at P ts x)) no_store ∙ is.bytes x;
    }
      where
        skipped : front_of P (tenant_of h ∷ ts) ≡ front_of P ts
        skipped = ap (λ b. record {
          pc = cond b h.next (Rattle.inorder.specs.Unit.front_pc ts);
          half = cond b (half_after (is_first P (tenant_of h))) (Rattle.inorder.specs.Unit.front_half P ts);
        }) off

pub settled_retired : (P : Program) (hs : List Held) (s s' : Settled) (h : Held) (front : Front) (register value : ℕ) (o : Option Store) →
    IsSettled P hs s → slice_get hs s.upto ≡ Some h → h.standing ≡ HeldRetired → ((c : Stop) → h.fate ≢ HeldStops c) →
    front ≡ record { pc = h.next; half = half_after (is_first P (tenant_of h)) } → register ≡ destination_of P (tenant_of h) → register < 34 →
    length s.writers ≡ 34 → length s.registers ≡ 34 → (0 < register → h.made ≡ Some value) →
    store_of o ≡ stored P (tenant_of h) → ¬ LacksData (store_of o) → Rattle.std.specs.Prelude.IfSome o (λ w. w.at + w.width ≤ length s.memory.items) →
    Advances s front register value o s' → IsSettled P hs s'
settled_retired P hs s s' h front register value o is there gone going is_front is_register small wide broad made is_store whole fits adv = record {
  within = let b = get_below hs s.upto h there in let u = adv.upto in omega arith;
  left = one_more hs s.upto s'.upto h IsHeldLive adv.upto there is.left (λ f. let e = sym gone ∙ f in absurd (cc));
  goes_on = λ q c lt f. one_more hs s.upto s'.upto h (λ x. IsHeldStop x c) adv.upto there (λ k l. is.goes_on k c l) (λ g. going c g.1) q lt f;
  whole = one_more hs s.upto s'.upto h (IsHeldDataless P) adv.upto there is.whole (λ f. whole (subst LacksData (sym is_store) f));
  path = adv.path ∙ ap suc is.path
      ∙ sym (ap (how_many on_path) more ∙ ap (λ b. cond b (suc (how_many on_path ts)) (how_many on_path ts)) on);
  front = adv.front ∙ is_front ∙ sym (ap (front_of P) more ∙ goes);
  writers = writes_on;
  registers = holds;
  count =
      adv.count ∙ ap (λ f. s.count + ends_by f.half) is_front ∙ ap (λ n. n + ends_by (half_after (is_first P (tenant_of h)))) is.count
      ∙ counted (is_first P (tenant_of h)) (how_many (ends P) ts)
      ∙ sym (ap (how_many (ends P)) more
      ∙ ap (λ b. cond (b && not (is_first P (tenant_of h))) (suc (how_many (ends P) ts)) (how_many (ends P) ts)) on);
  bytes = λ x.
      ap (λ us. byte_at P us x) more
      ∙ ap (byte_after (stored P (tenant_of h)) x) (is.bytes x)
      ∙ ap (λ w. byte_after w x (Some (slice_index s.memory.items x))) (sym is_store)
      ∙ byte_left o s.memory.items x whole fits
      ∙ ap (λ m. Some (slice_index m x)) (sym adv.memory);
}
  where
    ts : List Tenant
    ts = shown (take s.upto hs)

    more : shown (take s'.upto hs) ≡ tenant_of h ∷ ts
    more = shown_more hs s.upto s'.upto h there (let u = adv.upto in omega arith)

    on : on_path (tenant_of h) ≡ true
    on = ap (λ x. stands_on_path (standing_of x)) gone

    goes : front_of P (tenant_of h ∷ ts) ≡ record { pc = h.next; half = half_after (is_first P (tenant_of h)) }
    goes = ap (λ b. record {
      pc = cond b h.next (Rattle.inorder.specs.Unit.front_pc ts);
      half = cond b (half_after (is_first P (tenant_of h))) (Rattle.inorder.specs.Unit.front_half P ts);
    }) on

    writes_on : (r : ℕ) → r < 34 → slice_index_or s'.writers r None ≡ last_writer P (shown (take s'.upto hs)) r
    writes_on r lt =
        ap (λ w. slice_index_or w r None) adv.writers ∙ go (eqb (destination_of P (tenant_of h)) r) refl
        ∙ sym (ap (λ us. last_writer P us r) more
        ∙ ap (λ b. cond (b && eqb (destination_of P (tenant_of h)) r) (Some (length ts)) (last_writer P ts r)) on)
      where
        go : (b : Bool) → eqb (destination_of P (tenant_of h)) r ≡ b →
            slice_index_or (slice_set s.writers register (Some s.upto)) r None
            ≡ cond (eqb (destination_of P (tenant_of h)) r) (Some (length ts)) (last_writer P ts r)
        go true e =
            let here : register ≡ r = is_register ∙ eqb-true (destination_of P (tenant_of h)) r e in
            ap (λ k. slice_index_or (slice_set s.writers register (Some s.upto)) k None) (sym here)
            ∙ get_or-set_same s.writers register (Some s.upto) None (omega arith)
            ∙ ap Some (sym (first_length hs s.upto is.within))
            ∙ sym (ap (λ b. cond b (Some (length ts)) (last_writer P ts r)) e)
        go false e =
            let other : r ≢ register = λ f. Rattle.inorder.proofs.Positions.not_eqb (destination_of P (tenant_of h)) r e (sym is_register ∙ sym f) in
            get_or-set_other s.writers register r (Some s.upto) None other ∙ is.writers r lt
            ∙ sym (ap (λ b. cond b (Some (length ts)) (last_writer P ts r)) e)

    counted : (b : Bool) (n : ℕ) → n + ends_by (half_after b) ≡ cond (not b) (suc n) n
    counted true n = omega arith
    counted false n = omega arith

    holds : (r : ℕ) → 0 < r → r < 34 →
        value_of (shown (take s'.upto hs)) (last_writer P (shown (take s'.upto hs)) r) ≡ Some (slice_index s'.registers r)
    holds r pos lt =
        ap (λ us. value_of us (last_writer P us r)) more
        ∙ ap (λ b. value_of (tenant_of h ∷ ts) (cond (b && eqb (destination_of P (tenant_of h)) r) (Some (length ts)) (last_writer P ts r))) on
        ∙ go (eqb (destination_of P (tenant_of h)) r) refl
        ∙ ap (λ rs. Some (slice_index rs r)) (sym adv.registers)
      where
        go : (b : Bool) → eqb (destination_of P (tenant_of h)) r ≡ b →
            value_of (tenant_of h ∷ ts) (cond (eqb (destination_of P (tenant_of h)) r) (Some (length ts)) (last_writer P ts r))
            ≡ Some (slice_index (slice_set s.registers register value) r)
        go true e =
            let here : register ≡ r = is_register ∙ eqb-true (destination_of P (tenant_of h)) r e in
            ap (λ b. value_of (tenant_of h ∷ ts) (cond b (Some (length ts)) (last_writer P ts r))) e
            ∙ value_of_last (tenant_of h) ts ∙ made (omega arith)
            ∙ ap Some (sym (ap (λ k. slice_index (slice_set s.registers register value) k) (sym here)
            ∙ get_or-set_same s.registers register value 0 (omega arith)))
        go false e =
            let other : r ≢ register = λ f. Rattle.inorder.proofs.Positions.not_eqb (destination_of P (tenant_of h)) r e (sym is_register ∙ sym f) in
            ap (λ b. value_of (tenant_of h ∷ ts) (cond b (Some (length ts)) (last_writer P ts r))) e
            ∙ value_of_more (tenant_of h) ts (last_writer P ts r) (last_writer_below P ts r)
            ∙ is.registers r pos lt
            ∙ ap Some (sym (get_or-set_other s.registers register r value 0 other))

-- A tenant that is linked or gets a value stays sound, and grows.
use Rattle.std.proofs.Common.{◌≡◌, ◌≢◌, ℕ, Bool, true, false, List, length, Option, Some, None, refl, sym, ap, ◌∙◌, subst, subst₂}
use Rattle.std.specs.Prelude.{unwrap_or}
use Rattle.instructions.specs.Instruction.{kind, width}
use Rattle.instructions.specs.Operations.{outcome_by}
use Rattle.instructions.specs.Programs.{Program, instr_of}
use Rattle.instructions.specs.declared.instr.Instr.{Instr}
use Rattle.instructions.specs.declared.op.Half.{Half}
use Rattle.instructions.specs.declared.op.Kind.{Kind}
use Rattle.instructions.specs.declared.op.Kind.TheVariants.{Computes, Jumps, Links, Loads, Stores}
use Rattle.instructions.specs.declared.stop.Outcome.{Outcome}
use Rattle.inorder.specs.declared.history.Source.{Source}
use Rattle.inorder.specs.declared.history.Source.TheVariants.{First, Second}
use Rattle.inorder.specs.Memory.{Stored, stored, stored_by}
use Rattle.inorder.specs.Steps.{CanRetire, HasAddress, MayDeliver, delivered, linked}
use Rattle.inorder.specs.Tenants.{Addr, Busy, Done, Fate, Guessed, Live, Miss, Open, Retired, Standing, Stopped, Tenant, computed, instr, kind_of, on_path, operand_value, stands_on_path}
use Rattle.inorder.specs.Unit.{value_of}
use Rattle.inorder.proofs.Grows.{Grows, MadeGrows, StoredGrows}
use Rattle.inorder.proofs.Sound.{FateBy, IsSettled, IsSoundAt, LoadIs, Needs, SettledBy}

-- Tenants that grow

pub stores_self : (o : Option Stored) → StoredGrows o o
stores_self None = tt
stores_self (Some s) = (refl, refl, λ d e. e)

pub live_on : (t : Tenant) → t.standing ≡ Live → on_path t ≡ true
live_on t e = ap stands_on_path e

pub live_unsettled : (t : Tenant) → t.standing ≡ Live → IsSettled t → ⊥
live_unsettled t e h = subst (λ x. SettledBy x t.fate) e h

pub live_not_retired : {X : Type 0} (t : Tenant) → t.standing ≡ Live → t.standing ≡ Retired → X
live_not_retired t e f = absurd (cc)

pub not_stored : (b : Bool) (k : Kind) (f : Fate) (w : ℕ) (d : Option ℕ) → k ≢ Stores →
    stored_by b k f w d ≡ None
not_stored true Stores f w d h = absurd (h refl)
not_stored true Computes f w d h = refl
not_stored true Jumps f w d h = refl
not_stored true Links f w d h = refl
not_stored true Loads f w d h = refl
not_stored false k f w d h = refl

-- a live tenant that is no store with an address
pub fresh_grows : (P : Program) (t t' : Tenant) → t.standing ≡ Live → (HasAddress P t → kind_of P t ≢ Stores) →
    t'.index ≡ t.index → t'.half ≡ t.half → t'.next ≡ t.next → t'.standing ≡ t.standing → MadeGrows t t' → Grows P t t'
fresh_grows P t t' live fresh index half next standing made =
    record {
      index = index;
      half = half;
      next = next;
      path = ap stands_on_path standing;
      made = made;
      address = λ h l st. absurd (fresh h (ap (λ k. kind (instr_of P k).op) (sym index) ∙ st));
      stores = λ h.
          let none = not_stored (on_path t) (kind_of P t) t.fate (width (instr P t).op) t.second.value
          (fresh h) in
          let none' = not_stored (on_path t') (kind_of P t') t'.fate (width (instr P t').op) t'.second.value
          (λ st. fresh h (ap (λ k. kind (instr_of P k).op) (sym index) ∙ st)) in
          subst₂ StoredGrows (sym none) (sym none') tt;
      settled = λ h. absurd (live_unsettled t live h);
    }

-- Link

pub link_sound : (P : Program) (ts : List Tenant) (t : Tenant) (k : Source) → IsSoundAt P ts t →
    IsSoundAt P ts (linked ts t k)
link_sound P ts t First s =
    record {
      own = record {
        first = s.own.first;
        second = s.own.second;
        place = s.own.place;
        inside = s.own.inside;
        goes_on = s.own.goes_on;
        fate = s.own.fate;
      };
      placed = λ on. let q = s.placed on in
          record {
            first = q.first;
            second = q.second;
            pc = q.pc;
            half = q.half;
            load = q.load;
            settled = q.settled;
            can = q.can;
          };
    }
link_sound P ts t Second s =
    record {
      own = record {
        first = s.own.first;
        second = s.own.second;
        place = s.own.place;
        inside = s.own.inside;
        goes_on = s.own.goes_on;
        fate = s.own.fate;
      };
      placed = λ on. let q = s.placed on in
          record {
            first = q.first;
            second = q.second;
            pc = q.pc;
            half = q.half;
            load = q.load;
            settled = q.settled;
            can = q.can;
          };
    }

pub link_grows : (P : Program) (ts : List Tenant) (t : Tenant) (k : Source) → Grows P t (linked ts t k)
link_grows P ts t First =
    record {
      index = refl;
      half = refl;
      next = refl;
      path = refl;
      made = λ v e. e;
      address = λ h. h;
      stores = λ h. stores_self (stored P t);
      settled = λ h. h;
    }
link_grows P ts t Second =
    record {
      index = refl;
      half = refl;
      next = refl;
      path = refl;
      made = λ v e. e;
      address = λ h. h;
      stores = λ h. stores_self (stored P t);
      settled = λ h. h;
    }

-- Deliver

pub no_first : (k : Kind) (b : Option ℕ) → Needs k None b → ⊥
no_first Stores b h = let e = h.1 in cc
no_first Computes b h = let e = h.0.1 in cc
no_first Jumps b h = let e = h.0.1 in cc
no_first Links b h = let e = h.0.1 in cc
no_first Loads b h = let e = h.0.1 in cc

pub no_second : (k : Kind) (a : Option ℕ) → k ≢ Stores → Needs k a None → ⊥
no_second Stores a n h = n refl
no_second Computes a n h = let e = h.1.1 in cc
no_second Jumps a n h = let e = h.1.1 in cc
no_second Links a n h = let e = h.1.1 in cc
no_second Loads a n h = let e = h.1.1 in cc

pub first_fate : (k : Kind) (o o' : Outcome) (pc pr nx : ℕ) (made w b : Option ℕ) (st : Standing) (f : Fate) →
    FateBy k o pc pr nx made None b st f → FateBy k o' pc pr nx made w b st f
first_fate k o o' pc pr nx made w b st Open h = h
first_fate k o o' pc pr nx made w b st (Busy by) h = absurd (no_first k b h.2)
first_fate k o o' pc pr nx made w b st (Addr a) h = absurd (no_first k b h.2)
first_fate k o o' pc pr nx made w b st (Done a) h = absurd (no_first k b h.1)
first_fate k o o' pc pr nx made w b st (Guessed a) h = h
first_fate k o o' pc pr nx made w b st (Miss a) h = absurd (no_first k b h.2)
first_fate k o o' pc pr nx made w b st (Stopped a) h = absurd (no_first k b h.2)

pub first_load : (P : Program) (ts : List Tenant) (i : Instr) (k : Kind) (o o' : Outcome) (pc pr nx : ℕ)
    (made b : Option ℕ) (st : Standing) (f : Fate) → FateBy k o pc pr nx made None b st f → LoadIs P ts i o' k f
first_load P ts i Loads o o' pc pr nx made b st (Done a) h = absurd (no_first Loads b h.1)
first_load P ts i Loads o o' pc pr nx made b st Open h = tt
first_load P ts i Loads o o' pc pr nx made b st (Busy a) h = tt
first_load P ts i Loads o o' pc pr nx made b st (Addr a) h = tt
first_load P ts i Loads o o' pc pr nx made b st (Guessed a) h = tt
first_load P ts i Loads o o' pc pr nx made b st (Miss a) h = tt
first_load P ts i Loads o o' pc pr nx made b st (Stopped a) h = tt
first_load P ts i Computes o o' pc pr nx made b st f h = tt
first_load P ts i Jumps o o' pc pr nx made b st f h = tt
first_load P ts i Links o o' pc pr nx made b st f h = tt
first_load P ts i Stores o o' pc pr nx made b st f h = tt

pub second_others : (k : Kind) (o o' : Outcome) (pc pr nx : ℕ) (made a w : Option ℕ) (st : Standing)
    (f : Fate) → k ≢ Stores → FateBy k o pc pr nx made a None st f → FateBy k o' pc pr nx made a w st f
second_others k o o' pc pr nx made a w st Open n h = h
second_others k o o' pc pr nx made a w st (Busy by) n h = absurd (no_second k a n h.2)
second_others k o o' pc pr nx made a w st (Addr q) n h = absurd (no_second k a n h.2)
second_others k o o' pc pr nx made a w st (Done q) n h = absurd (no_second k a n h.1)
second_others k o o' pc pr nx made a w st (Guessed q) n h = h
second_others k o o' pc pr nx made a w st (Miss q) n h = absurd (no_second k a n h.2)
second_others k o o' pc pr nx made a w st (Stopped q) n h = absurd (no_second k a n h.2)

pub second_store : (o : Outcome) (pc pr nx : ℕ) (made a w : Option ℕ) (st : Standing) (f : Fate) →
    FateBy Stores o pc pr nx made a None st f → FateBy Stores o pc pr nx made a w st f
second_store o pc pr nx made a w st Open h = h
second_store o pc pr nx made a w st (Busy by) h = h
second_store o pc pr nx made a w st (Addr q) h = h
second_store o pc pr nx made a w st (Done q) h = h
second_store o pc pr nx made a w st (Guessed q) h = h
second_store o pc pr nx made a w st (Miss q) h = h
second_store o pc pr nx made a w st (Stopped q) h = h

pub second_fate : (k : Kind) (i : Instr) (half : Half) (pc x size pr nx : ℕ) (made a w : Option ℕ) (st : Standing) (f : Fate)
    (q : ℕ) → FateBy k (outcome_by k i half pc x q size) pc pr nx made a None st f →
    FateBy k (outcome_by k i half pc x (unwrap_or w 0) size) pc pr nx made a w st f
second_fate Stores i half pc x size pr nx made a w st f q h = second_store _ pc pr nx made a w st f h
second_fate Computes i half pc x size pr nx made a w st f q h =
    second_others Computes _ _ pc pr nx made a w st f (λ e. absurd (cc)) h
second_fate Jumps i half pc x size pr nx made a w st f q h =
    second_others Jumps _ _ pc pr nx made a w st f (λ e. absurd (cc)) h
second_fate Links i half pc x size pr nx made a w st f q h =
    second_others Links _ _ pc pr nx made a w st f (λ e. absurd (cc)) h
second_fate Loads i half pc x size pr nx made a w st f q h =
    second_others Loads _ _ pc pr nx made a w st f (λ e. absurd (cc)) h

pub second_load : (P : Program) (ts : List Tenant) (i : Instr) (k : Kind) (o o' : Outcome) (pc pr nx : ℕ)
    (made a : Option ℕ) (st : Standing) (f : Fate) → FateBy k o pc pr nx made a None st f → LoadIs P ts i o' k f
second_load P ts i Loads o o' pc pr nx made b st (Done a) h = absurd (no_second Loads b (λ e. absurd (cc)) h.1)
second_load P ts i Loads o o' pc pr nx made b st Open h = tt
second_load P ts i Loads o o' pc pr nx made b st (Busy a) h = tt
second_load P ts i Loads o o' pc pr nx made b st (Addr a) h = tt
second_load P ts i Loads o o' pc pr nx made b st (Guessed a) h = tt
second_load P ts i Loads o o' pc pr nx made b st (Miss a) h = tt
second_load P ts i Loads o o' pc pr nx made b st (Stopped a) h = tt
second_load P ts i Computes o o' pc pr nx made b st f h = tt
second_load P ts i Jumps o o' pc pr nx made b st f h = tt
second_load P ts i Links o o' pc pr nx made b st f h = tt
second_load P ts i Stores o o' pc pr nx made b st f h = tt

pub second_can : (k : Kind) (w : Option ℕ) (f : Fate) → CanRetire k None f → CanRetire k w f
second_can k w Open h = h
second_can k w (Busy a) h = h
second_can k w (Addr a) h = let e = h.1.1 in absurd (cc)
second_can k w (Done a) h = h
second_can k w (Guessed a) h = h
second_can k w (Miss a) h = h
second_can k w (Stopped a) h = h

pub second_stores : (b : Bool) (k : Kind) (f : Fate) (n : ℕ) (w : Option ℕ) →
    StoredGrows (stored_by b k f n None) (stored_by b k f n w)
second_stores true Stores (Addr a) n w = (refl, refl, λ d e. absurd (cc))
second_stores true Stores Open n w = tt
second_stores true Stores (Busy a) n w = tt
second_stores true Stores (Done a) n w = tt
second_stores true Stores (Guessed a) n w = tt
second_stores true Stores (Miss a) n w = tt
second_stores true Stores (Stopped a) n w = tt
second_stores true Computes f n w = tt
second_stores true Jumps f n w = tt
second_stores true Links f n w = tt
second_stores true Loads f n w = tt
second_stores false k f n w = tt

pub deliver_sound : (P : Program) (ts : List Tenant) (t : Tenant) (k : Source) → MayDeliver ts t k →
    IsSoundAt P ts t → IsSoundAt P ts (delivered ts t k)
deliver_sound P ts t First m s =
    let f = subst (λ a. FateBy (kind_of P t)
    (computed P t) t.pc t.predicted t.next t.made a t.second.value t.standing t.fate) m.waits s.own.fate in
    record {
      own =
          record {
            first = λ v e. e;
            second = s.own.second;
            place = s.own.place;
            inside = s.own.inside;
            goes_on = s.own.goes_on;
            fate = first_fate
                (kind_of P t) _ _ t.pc t.predicted t.next t.made _ t.second.value t.standing t.fate f;
          };
      placed =
          λ on. let q = s.placed on in
          record {
            first = q.first;
            second = q.second;
            pc = q.pc;
            half = q.half;
            load = first_load P ts (instr P t)
                (kind_of P t) _ _ t.pc t.predicted t.next t.made t.second.value t.standing t.fate f;
            settled = q.settled;
            can = q.can;
          };
    }
deliver_sound P ts t Second m s =
    let f = subst (λ b. FateBy (kind_of P t)
    (computed P t) t.pc t.predicted t.next t.made t.first.value b t.standing t.fate) m.waits s.own.fate in
    record {
      own =
          record {
            first = s.own.first;
            second = λ v e. e;
            place = s.own.place;
            inside = s.own.inside;
            goes_on = s.own.goes_on;
            fate = second_fate (kind_of P t) (instr P t) t.half t.pc (operand_value t.first)
                (length P.bytes) t.predicted t.next t.made t.first.value
                (value_of ts t.second.creator) t.standing t.fate (operand_value t.second) f;
          };
      placed =
          λ on. let q = s.placed on in
          record {
            first = q.first;
            second = q.second;
            pc = q.pc;
            half = q.half;
            load = second_load P ts (instr P t)
                (kind_of P t) _ _ t.pc t.predicted t.next t.made t.first.value t.standing t.fate f;
            settled = q.settled;
            can = λ e. second_can (kind_of P t) _ t.fate (subst (λ w. CanRetire (kind_of P t) w t.fate) m.waits
                (q.can e));
          };
    }

pub deliver_grows : (P : Program) (ts : List Tenant) (t : Tenant) (k : Source) → MayDeliver ts t k →
    Grows P t (delivered ts t k)
deliver_grows P ts t First m =
    record {
      index = refl;
      half = refl;
      next = refl;
      path = refl;
      made = λ v e. e;
      address = λ h. h;
      stores = λ h. stores_self (stored P t);
      settled = λ h. h;
    }
deliver_grows P ts t Second m =
    record {
      index = refl;
      half = refl;
      next = refl;
      path = refl;
      made = λ v e. e;
      address = λ h. h;
      stores =
          λ h. subst (λ w. StoredGrows (stored_by (on_path t) (kind_of P t) t.fate (width (instr P t).op) w)
          (stored P (delivered ts t Second))) (sym m.waits) (second_stores (on_path t) (kind_of P t) t.fate
          (width (instr P t).op) (value_of ts t.second.creator));
      settled = λ h. h;
    }

-- A tenant that is claimed, finished or loaded stays sound, and grows.
use Rattle.std.proofs.Common.{◌≡◌, ◌≢◌, ℕ, Bool, true, false, cond, eqb, List, Option, Some, None, Ok, Err, refl, sym, ap, ◌∙◌, subst, eqb-true}
use Rattle.std.specs.Prelude.{unwrap_or, Result}
use Rattle.instructions.specs.Operations.{as_address, as_value, loaded, outcome_by}
use Rattle.instructions.specs.Programs.{Program}
use Rattle.instructions.specs.declared.instr.Instr.{Instr}
use Rattle.instructions.specs.declared.op.Half.{Half}
use Rattle.instructions.specs.declared.op.Kind.{Kind}
use Rattle.instructions.specs.declared.op.Kind.TheVariants.{Computes, Jumps, Links, Loads, Stores}
use Rattle.instructions.specs.declared.stop.Outcome.{Outcome}
use Rattle.instructions.specs.declared.stop.Outcome.TheVariants.{Address, Next, Pair, Stop as Stops, Value}
use Rattle.instructions.specs.declared.stop.Stop.{Stop}
use Rattle.inorder.specs.Memory.{load_value, raw}
use Rattle.inorder.specs.Steps.{HasAddress, MayClaim, MayFinish, MayLoad, finished, settled}
use Rattle.inorder.specs.Tenants.{Addr, Busy, Done, Fate, Live, Miss, Stopped, Tenant, computed, instr, kind_of, made_at_let, missing_of}
use Rattle.inorder.proofs.Theorem.DeliveryKept.{fresh_grows, live_not_retired}
use Rattle.inorder.proofs.Grows.{Grows, sure_raw}
use Rattle.inorder.proofs.Sound.{DoneBy, FateBy, FateIs, GoesOn, HasSureRead, IsSoundAt, LoadIs, Needs, own_with, placed_with}

-- A live tenant with another fate, and with what it made

pub remade : (P : Program) (ts : List Tenant) (t : Tenant) (f : Fate) (made : Option ℕ) → t.standing ≡ Live →
    FateBy (kind_of P t)
    (computed P t) t.pc t.predicted t.next made t.first.value t.second.value t.standing f →
    LoadIs P ts (instr P t) (computed P t) (kind_of P t) f → IsSoundAt P ts t →
    IsSoundAt P ts (record t { fate = f; made = made })
remade P ts t f made live fate load s =
    record {
      own = own_with P ts t f made t.standing s.own fate;
      placed = λ on.
          placed_with P ts t f made t.standing (s.placed on) load (λ e. live_not_retired t live e)
          (λ e. live_not_retired t live e);
    }

-- Claim

-- a tenant that misses nothing has what it needs
pub needed : (k : Kind) (a b : Option ℕ) → missing_of k a b ≡ None → Needs k a b
needed k None b h = absurd (cc)
needed Stores (Some a) b h = (a, refl)
needed Computes (Some a) (Some b) h = ((a, refl), (b, refl))
needed Jumps (Some a) (Some b) h = ((a, refl), (b, refl))
needed Links (Some a) (Some b) h = ((a, refl), (b, refl))
needed Loads (Some a) (Some b) h = ((a, refl), (b, refl))
needed Computes (Some a) None h = absurd (cc)
needed Jumps (Some a) None h = absurd (cc)
needed Links (Some a) None h = absurd (cc)
needed Loads (Some a) None h = absurd (cc)

pub load_busy : (P : Program) (ts : List Tenant) (i : Instr) (o : Outcome) (by : ℕ) (k : Kind) →
    LoadIs P ts i o k (Busy by)
load_busy P ts i o by Computes = tt
load_busy P ts i o by Jumps = tt
load_busy P ts i o by Links = tt
load_busy P ts i o by Loads = tt
load_busy P ts i o by Stores = tt

pub claim_sound : (P : Program) (ts : List Tenant) (t : Tenant) (caller : ℕ) → MayClaim P t →
    IsSoundAt P ts t → IsSoundAt P ts (record t { fate = Busy caller })
claim_sound P ts t caller m s =
    let f = subst (FateIs P t) m.fate s.own.fate in
    remade P ts t (Busy caller) t.made m.live
    (f.0, f.1, needed (kind_of P t) t.first.value t.second.value m.needs)
    (load_busy P ts (instr P t) _ caller (kind_of P t)) s

pub claim_grows : (P : Program) (t : Tenant) (caller : ℕ) → MayClaim P t →
    Grows P t (record t { fate = Busy caller })
claim_grows P t caller m =
    fresh_grows P t _ m.live (λ h st. let a = h m.live st in let e = a.1 in let o = m.fate in
    cc) refl refl refl refl (λ v e. e)

-- Finish

pub value_not : (r : Result ℕ Stop) (x : ℕ) → as_value r ≡ Next x → ⊥
value_not (Ok v) x h = cc
value_not (Err c) x h = cc

pub address_not : (r : Result ℕ Stop) (x : ℕ) → as_address r ≡ Next x → ⊥
address_not (Ok v) x h = cc
address_not (Err c) x h = cc

pub address_not_value : (r : Result ℕ Stop) (x : ℕ) → as_address r ≡ Value x → ⊥
address_not_value (Ok v) x h = cc
address_not_value (Err c) x h = cc

pub value_not_pair : (r : Result ℕ Stop) (l h : ℕ) → as_value r ≡ Pair l h → ⊥
value_not_pair (Ok v) l h e = cc
value_not_pair (Err c) l h e = cc

pub address_not_pair : (r : Result ℕ Stop) (l h : ℕ) → as_address r ≡ Pair l h → ⊥
address_not_pair (Ok v) l h e = cc
address_not_pair (Err c) l h e = cc

module _ (i : Instr) (half : Half) (pc a b size : ℕ) where
  pub value_done : (k : Kind) (v next : ℕ) → outcome_by k i half pc a b size ≡ Value v →
      DoneBy (outcome_by k i half pc a b size) pc next (Some v) v k
  value_done Computes v next e = (e, refl)
  value_done Jumps v next e = absurd (cc)
  value_done Links v next e = absurd (cc)
  value_done Loads v next e = absurd (address_not_value _ v e)
  value_done Stores v next e = absurd (address_not_value _ v e)

  pub value_load : (P : Program) (ts : List Tenant) (k : Kind) (v : ℕ) → outcome_by k i half pc a b size ≡ Value v →
      LoadIs P ts i (outcome_by k i half pc a b size) k (Done v)
  value_load P ts Computes v e = tt
  value_load P ts Jumps v e = tt
  value_load P ts Links v e = tt
  value_load P ts Loads v e = absurd (address_not_value _ v e)
  value_load P ts Stores v e = tt

  pub value_early : (k : Kind) (v : ℕ) → outcome_by k i half pc a b size ≡ Value v → made_at_let k pc ≡ None
  value_early Computes v e = refl
  value_early Jumps v e = refl
  value_early Links v e = absurd (cc)
  value_early Loads v e = refl
  value_early Stores v e = refl

  pub address_early : (k : Kind) (v : ℕ) → outcome_by k i half pc a b size ≡ Address v → made_at_let k pc ≡ None
  address_early Computes v e = refl
  address_early Jumps v e = refl
  address_early Links v e = absurd (cc)
  address_early Loads v e = refl
  address_early Stores v e = refl

  pub halt_early : (k : Kind) (c : Stop) → outcome_by k i half pc a b size ≡ Stops c → made_at_let k pc ≡ None
  halt_early Computes v e = refl
  halt_early Jumps v e = refl
  halt_early Links v e = absurd (cc)
  halt_early Loads v e = refl
  halt_early Stores v e = refl

  pub next_is_done : (k : Kind) (x next : ℕ) (made : Option ℕ) → outcome_by k i half pc a b size ≡ Next x →
      next ≡ x → made ≡ made_at_let k pc → DoneBy (outcome_by k i half pc a b size) pc next made x k
  next_is_done Computes x next made e n m = absurd (value_not _ x e)
  next_is_done Jumps x next made e n m = (e, n)
  next_is_done Links x next made e n m = (e, n, m)
  next_is_done Loads x next made e n m = absurd (address_not _ x e)
  next_is_done Stores x next made e n m = absurd (address_not _ x e)

  pub next_load : (P : Program) (ts : List Tenant) (k : Kind) (x : ℕ) (f : Fate) →
      outcome_by k i half pc a b size ≡ Next x → LoadIs P ts i (outcome_by k i half pc a b size) k f
  next_load P ts Computes x f e = tt
  next_load P ts Jumps x f e = tt
  next_load P ts Links x f e = tt
  next_load P ts Loads x f e = absurd (address_not _ x e)
  next_load P ts Stores x f e = tt

  pub next_goes_on : (k : Kind) (x : ℕ) → outcome_by k i half pc a b size ≡ Next x → (after : ℕ) → GoesOn k after x
  next_goes_on Computes x e after = absurd (value_not _ x e)
  next_goes_on Jumps x e after = tt
  next_goes_on Links x e after = tt
  next_goes_on Loads x e after = absurd (address_not _ x e)
  next_goes_on Stores x e after = absurd (address_not _ x e)

  pub never_pair : (k : Kind) (l h : ℕ) → outcome_by k i half pc a b size ≡ Pair l h → ⊥
  never_pair Computes l h e = value_not_pair _ l h e
  never_pair Jumps l h e = cc
  never_pair Links l h e = cc
  never_pair Loads l h e = address_not_pair _ l h e
  never_pair Stores l h e = address_not_pair _ l h e

pub load_addr : (P : Program) (ts : List Tenant) (i : Instr) (o : Outcome) (q : ℕ) (k : Kind) →
    LoadIs P ts i o k (Addr q)
load_addr P ts i o q Computes = tt
load_addr P ts i o q Jumps = tt
load_addr P ts i o q Links = tt
load_addr P ts i o q Loads = tt
load_addr P ts i o q Stores = tt

pub load_ends : (P : Program) (ts : List Tenant) (i : Instr) (o : Outcome) (c : Stop) (k : Kind) →
    LoadIs P ts i o k (Stopped c)
load_ends P ts i o c Computes = tt
load_ends P ts i o c Jumps = tt
load_ends P ts i o c Links = tt
load_ends P ts i o c Loads = tt
load_ends P ts i o c Stores = tt

pub finish_sound : (P : Program) (ts : List Tenant) (t : Tenant) (caller : ℕ) (o : Outcome) →
    computed P t ≡ o → MayFinish t caller → IsSoundAt P ts t → IsSoundAt P ts (finished t o)
finish_sound P ts t caller o e m s = go o e
  where
    busy : FateIs P t (Busy caller)
    busy = subst (FateIs P t) m.fate s.own.fate

    i : Instr
    i = instr P t

    jump : (x : ℕ) (b : Bool) → eqb x t.predicted ≡ b → computed P t ≡ Next x →
        IsSoundAt P ts (record t { fate = cond b (Done x) (Miss x) })
    jump x true q e' =
        let same = eqb-true x t.predicted q in
        let n : t.next ≡ x = busy.1 ∙ sym same in
        remade P ts t (Done x) t.made m.live (
          next_is_done i t.half t.pc _ _ _
              (kind_of P t) x t.next t.made e' n busy.0,
          busy.2,
        ) (next_load i t.half t.pc _ _ _ P ts (kind_of P t) x (Done x) e') s
    jump x false q e' =
        remade P ts t (Miss x) t.made m.live (
          busy.0,
          e',
          busy.2,
        ) (next_load i t.half t.pc _ _ _ P ts (kind_of P t) x (Miss x) e') s

    go : (o : Outcome) → computed P t ≡ o → IsSoundAt P ts (finished t o)
    go (Value v) e' =
        remade P ts t (Done v) (Some v) m.live (
          value_done i t.half t.pc _ _ _ (kind_of P t) v t.next e',
          busy.2,
        ) (value_load i t.half t.pc _ _ _ P ts (kind_of P t) v e') s
    go (Next x) e' = jump x (eqb x t.predicted) refl e'
    go (Address q) e' =
        remade P ts t (Addr q) t.made m.live (
          busy.0 ∙ address_early i t.half t.pc _ _ _ (kind_of P t) q e',
          e',
          busy.2,
        ) (load_addr P ts i _ q (kind_of P t)) s
    go (Stops c) e' =
        remade P ts t (Stopped c) t.made m.live (
          (λ n. busy.0 ∙ halt_early i t.half t.pc _ _ _ (kind_of P t) c e'),
          e',
          busy.2,
        ) (load_ends P ts i _ c (kind_of P t)) s
    go (Pair l h) e' = absurd (never_pair i t.half t.pc _ _ _ (kind_of P t) l h e')

pub finish_grows : (P : Program) (ts : List Tenant) (t : Tenant) (caller : ℕ) (o : Outcome) →
    computed P t ≡ o → MayFinish t caller → IsSoundAt P ts t → Grows P t (finished t o)
finish_grows P ts t caller o e m s = go o e
  where
    busy : FateIs P t (Busy caller)
    busy = subst (FateIs P t) m.fate s.own.fate

    fresh : HasAddress P t → kind_of P t ≢ Stores
    fresh h st = let a = h m.live st in let x = a.1 in let y = m.fate in cc

    go : (o : Outcome) → computed P t ≡ o → Grows P t (finished t o)
    go (Value v) e' =
        fresh_grows P t _ m.live fresh refl refl refl refl (λ w x. let none : t.made ≡ None = busy.0
        ∙ value_early (instr P t) t.half t.pc _ _ _ (kind_of P t) v e' in absurd (cc))
    go (Next x) e' = fresh_grows P t _ m.live fresh refl refl refl refl (λ w x. x)
    go (Address q) e' = fresh_grows P t _ m.live fresh refl refl refl refl (λ w x. x)
    go (Stops c) e' = fresh_grows P t _ m.live fresh refl refl refl refl (λ w x. x)
    go (Pair l h) e' = absurd (never_pair (instr P t) t.half t.pc _ _ _ (kind_of P t) l h e')

-- Load

pub load_may : (P : Program) (ts : List Tenant) (t : Tenant) → MayLoad P ts t → IsSoundAt P ts t →
    IsSoundAt P ts (settled P ts t)
load_may P ts t m s =
    remade P ts t (Done (load_value P ts t)) (Some (load_value P ts t)) m.live (
      subst (λ k. DoneBy (computed P t) t.pc t.next (Some (load_value P ts t)) (load_value P ts t) k)
          (sym m.kind) ((m.a, addr.1), refl),
      addr.2,
    )
    (subst (λ k. LoadIs P ts (instr P t) (computed P t) k (Done (load_value P ts t))) (sym m.kind) read)
    s
  where
    addr : FateIs P t (Addr m.a)
    addr = subst (FateIs P t) m.fate s.own.fate

    read : HasSureRead P ts (instr P t) (computed P t) (load_value P ts t)
    read =
        record {
          a = m.a;
          n = m.bytes;
          computes = addr.1;
          sure = sure_raw P ts (instr P t) m.a m.bytes m.addresses m.read;
          value =
              ap (λ f. loaded (instr P t).op (unwrap_or (raw P ts (instr P t) f) 0)) m.fate
              ∙ ap (λ r. loaded (instr P t).op (unwrap_or r 0)) m.read;
        }

pub load_may_grow : (P : Program) (ts : List Tenant) (t : Tenant) → MayLoad P ts t → IsSoundAt P ts t →
    Grows P t (settled P ts t)
load_may_grow P ts t m s =
    fresh_grows P t _ m.live (λ h st. let k = m.kind in
    cc) refl refl refl refl (λ w x. let none : t.made ≡ None = addr.0 in absurd (cc))
  where
    addr : FateIs P t (Addr m.a)
    addr = subst (FateIs P t) m.fate s.own.fate

-- The oldest tenant retires, and the unit is settled with what its instruction leaves.
use Rattle.std.proofs.Common.{◌≡◌, ◌⊎◌, ℕ, suc, true, false, Bool, cond, not, ◌&&◌, List, [], ◌∷◌, ◌++◌, length, Option, Some, None, Ok, Err, refl, sym, ap, ◌∙◌, subst, lit<, true≢false, inl, inr}
use Rattle.std.specs.Prelude.{Result, is_some, unwrap_or}
use Rattle.std.specs.List.{AllByRecursion}
use Rattle.instructions.specs.Instruction.{destination, destination_by, is_first_half, is_low, is_pair, kind, pc_plus_4, second_of, target_by, target_of, width}
use Rattle.instructions.specs.Operations.{as_address, as_value, outcome_by, outcome_of}
use Rattle.instructions.specs.Programs.{Program, instr_of}
use Rattle.instructions.specs.Registers.{lo}
use Rattle.instructions.specs.declared.instr.Instr.{Instr}
use Rattle.instructions.specs.declared.op.Half.{Half}
use Rattle.instructions.specs.declared.op.Half.TheVariants.{High, Low}
use Rattle.instructions.specs.declared.op.Kind.{Kind}
use Rattle.instructions.specs.declared.op.Kind.TheVariants.{Computes, Jumps, Links, Loads, Stores}
use Rattle.instructions.specs.declared.op.Op.{Op}
use Rattle.instructions.specs.declared.stop.Outcome.{Outcome}
use Rattle.instructions.specs.declared.stop.Outcome.TheVariants.{Address, Next, Pair, Stop as Stops, Value}
use Rattle.instructions.specs.declared.stop.Stop.{Stop}
use Rattle.inorder.specs.declared.history.Act.TheVariants.{Retire}
use Rattle.inorder.specs.Committed.{ahead, ahead_by, commits_by, committed, with_low, with_retired, with_stored, with_tenant}
use Rattle.inorder.specs.Machine.{store_bytes, write}
use Rattle.inorder.specs.Memory.{stored_by}
use Rattle.inorder.specs.Moves.{with_tenants}
use Rattle.inorder.specs.Plain.{IsPlain}
use Rattle.inorder.specs.Steps.{CanRetire, IsNoRetiredStop, made_at_end, retired, squashed}
use Rattle.inorder.specs.Tenants.{Addr, Done, Fate, IsNotLive, Live, Retired, Tenant, behind_by, kind_of, made_at_let, next_by}
use Rattle.inorder.specs.Unit.{Sizes, UpdateUnit, front_half, front_pc, half_after}
use Rattle.inorder.proofs.InOrderStep.{stored_done}
use Rattle.inorder.proofs.OneCaller.Middle.{at_middle}
use Rattle.inorder.proofs.OneCaller.Recovery.{gone, gone_by}
use Rattle.inorder.proofs.Pairs.{and_left, and_right, first_half_computes}
use Rattle.own_model.specs.Flight.{let_known}
use Rattle.own_model.specs.Settled.{Settled}
use Rattle.own_model.specs.State.{IsNoStop, accessed, advanced, advanced_by, left_at, loaded_at, value_in}
use Rattle.own_model.specs.Transitions.{ByStop, HasStopped, MovesTo, Reaches}
use Rattle.own_model.specs.declared.state.ArchitecturalState.{ArchitecturalState}
use Rattle.own_model.proofs.Executing.{executed, executed_as, fate_as}
use Rattle.own_model.proofs.Sequences.{act_on}

-- a first half writes LO, and finds nothing that waits for it
writes_lo : (i : Instr) (half : Half) → is_first_half i.op half ≡ true → destination i half ≡ lo
writes_lo i half e =
    ap (λ k. destination_by k (target_of i half)) (first_half_computes i.op half e)
    ∙ ap (λ p. target_by p half i.target) (and_left (is_pair i.op) _ e) ∙ low half (and_right (is_pair i.op) _ e)
  where
    low : (h : Half) → is_low h ≡ true → target_by true h i.target ≡ lo
    low Low q = refl
    low High q = absurd (true≢false (sym q))

pub none_waits : (low : Option ℕ) (op : Op) → is_first_half op (half_after (is_some low)) ≡ true → low ≡ None
none_waits None op e = refl
none_waits (Some v) op e = absurd (true≢false (sym (and_right (is_pair op) _ e)))

-- only a jump has a next pc as its outcome, only a load or store an address
value_is : (r : Result ℕ Stop) (x : ℕ) {A : Type 0} → (as_value r ≡ Next x) ⊎ (as_value r ≡ Address x) → A
value_is (Ok v) x (inl e) = absurd (cc e)
value_is (Ok v) x (inr e) = absurd (cc e)
value_is (Err c) x (inl e) = absurd (cc e)
value_is (Err c) x (inr e) = absurd (cc e)

address_is : (r : Result ℕ Stop) (x : ℕ) {A : Type 0} → as_address r ≡ Next x → A
address_is (Ok v) x e = absurd (cc e)
address_is (Err c) x e = absurd (cc e)

pub jumps_alone : (k : Kind) (i : Instr) (half : Half) (pc a d size x : ℕ) → outcome_by k i half pc a d size ≡ Next x → (k ≡ Jumps) ⊎ (k ≡ Links)
jumps_alone Computes i half pc a d size x e = value_is _ x (inl e)
jumps_alone Jumps i half pc a d size x e = inl refl
jumps_alone Links i half pc a d size x e = inr refl
jumps_alone Loads i half pc a d size x e = address_is _ x e
jumps_alone Stores i half pc a d size x e = address_is _ x e

pub accesses_alone : (k : Kind) (i : Instr) (half : Half) (pc a d size at : ℕ) → outcome_by k i half pc a d size ≡ Address at → (k ≡ Loads) ⊎ (k ≡ Stores)
accesses_alone Computes i half pc a d size at e = value_is _ at (inr e)
accesses_alone Jumps i half pc a d size at e = absurd (cc e)
accesses_alone Links i half pc a d size at e = absurd (cc e)
accesses_alone Loads i half pc a d size at e = inl refl
accesses_alone Stores i half pc a d size at e = inr refl

-- the oldest live tenant, with ys after it
pub retires_on : (P : Program) (C : Sizes) (W : UpdateUnit) (ys : List Tenant) (t : Tenant) (ts : List Tenant) → AllByRecursion IsNotLive ts → AllByRecursion IsNoRetiredStop ts → t.standing ≡ Live →
    CanRetire (kind_of P t) t.second.value t.fate → Reaches IsPlain P C (with_tenants W (ys ++ t ∷ ts)) (with_tenants W (ys ++ retired t 0 ∷ ts))
retires_on P C W ys t ts nobody goes_on live can =
    act_on W ys t ts (Retire 0) tt (record { small = lit< tt; live = live; oldest = nobody; no_stop = goes_on; can = can })

-- whoever was squashed leaves nothing
pub squashed_settles : (P : Program) (a : ArchitecturalState) (ys ts : List Tenant) → AllByRecursion (λ y. y.standing ≡ Live) ys → Settled P a ts → Settled P a (gone ys ++ ts)
squashed_settles P a [] ts live s = s
squashed_settles P a (y ∷ ys) ts live s = subst (λ st. Settled P a (gone_by st y ∷ (gone ys ++ ts))) (sym live.0) (more (squashed_settles P a ys ts live.1 s))
  where
    more : Settled P a (gone ys ++ ts) → Settled P a (squashed y ∷ (gone ys ++ ts))
    more r = record { nobody = ((λ q. cc q), r.nobody); goes_on = ((λ q. cc q), r.goes_on); state = r.state; low = r.low; half = r.half }

-- instruction k, let in a settled unit with the sources x and y
module _ (P : Program) (C : Sizes) (a : ArchitecturalState) (U : UpdateUnit) (s : Settled P a U.tenants) (k predicted x y : ℕ) where
  abbrev ts : List Tenant
  ts = U.tenants

  abbrev i : Instr
  i = instr_of P k

  abbrev half : Half
  half = front_half P ts

  abbrev pc : ℕ
  pc = front_pc ts

  abbrev t : Tenant
  t = let_known P C U k predicted x y

  abbrev outcome : Outcome
  outcome = outcome_of i half pc x y (length P.bytes)

  -- it commits what it has made, and y in memory if it is a store
  module _ (fate : Fate) (made : Option ℕ) (next : ℕ) (commits : commits_by Retired fate ≡ true) (memory : List ℕ) (v z : ℕ)
      (writes : (r : List ℕ) → write r (destination i half) (unwrap_or (made_at_end fate made 0) 0) ≡ write r (destination i half) v)
      (stores : with_stored (stored_by true (kind i.op) fate (width i.op) (Some y)) a.committed.memory ≡ memory)
      (goes : is_first_half i.op half ≡ false → next_by (behind_by (is_first_half i.op half) pc) outcome ≡ z) where
    abbrev u : Tenant
    u = retired (record t { fate = fate; made = made; next = next }) 0

    abbrev later : Bool → ArchitecturalState
    later first = advanced_by first a i half memory v z

    leaves_whole : is_first_half i.op half ≡ false → (later false).committed ≡ with_tenant P u (ahead P ts)
    leaves_whole f =
        (λ j. record {
          registers = sym (writes (with_low a.low a.committed.registers)) j;
          memory = sym stores j;
          pc = sym (goes f) j;
          count = suc a.committed.count;
        })
        ∙ ap (with_tenant P u) s.low

    state : (first : Bool) → is_first_half i.op half ≡ first → (later first).committed ≡ cond (not first) (with_tenant P u (ahead P ts)) (committed P ts)
    state true f = s.state
    state false f = leaves_whole f

    low : (first : Bool) → is_first_half i.op half ≡ first → ahead_by (later first).low (later first).committed ≡ with_retired first P u (ahead P ts)
    low false f = leaves_whole f
    low true f =
        (λ j. record a.committed { registers = write a.committed.registers (sym (writes_lo i half f) j) v })
        ∙ (λ j. record a.committed { registers = sym (writes a.committed.registers) j })
        ∙ ap (λ q. with_retired true P u (ahead_by q a.committed)) (sym (none_waits a.low i.op (subst (λ h. is_first_half i.op h ≡ true) (sym s.half) f)))
        ∙ ap (with_retired true P u) s.low

    waits : (first : Bool) → half_after (is_some (later first).low) ≡ half_after first
    waits true = refl
    waits false = refl

    settles : (first : Bool) → is_first_half i.op half ≡ first → Settled P (later first) (u ∷ ts)
    settles first f = record {
      nobody = ((λ q. cc q), s.nobody);
      goes_on = ((λ q c h. true≢false (sym commits ∙ ap (commits_by Retired) h)), s.goes_on);
      state = state first f ∙ (λ j. cond (sym commits j && not (sym f j)) (with_tenant P u (ahead P ts)) (committed P ts));
      low = low first f ∙ (λ j. cond (sym commits j) (with_retired (sym f j) P u (ahead P ts)) (ahead P ts));
      half = waits first ∙ sym (ap half_after f);
    }

  abbrev found : ℕ → ℕ
  found = loaded_at a i

  -- the tenant once it was executed and has retired
  abbrev pub gone_as : Kind → Outcome → Tenant
  gone_as kd o = retired (executed_as kd found t o) 0

  goes_by : (o : Outcome) → outcome ≡ o → is_first_half i.op half ≡ false → next_by (behind_by (is_first_half i.op half) pc) outcome ≡ next_by (pc_plus_4 pc) o
  goes_by o is f = (λ j. next_by (behind_by (f j) pc) (is j))

  -- one that is done and stores nothing
  done : (made : Option ℕ) (next v w : ℕ) (o : Outcome) → outcome ≡ o →
      ((r : List ℕ) → write r (destination i half) (unwrap_or made 0) ≡ write r (destination i half) w) →
      Settled P (advanced a i half a.committed.memory w (next_by (pc_plus_4 pc) o)) (retired (record t { fate = Done v; made = made; next = next }) 0 ∷ ts)
  done made next v w o is writes =
      settles (Done v) made next refl a.committed.memory w (next_by (pc_plus_4 pc) o) writes
      (ap (λ z. with_stored z a.committed.memory) (stored_done true (kind i.op) v (width i.op) (Some y))) (goes_by o is) (is_first_half i.op half) refl

  abbrev Writes : Kind → (Kind → Option ℕ) → ℕ → Type 0
  Writes kd made v = (r : List ℕ) → write r (destination_by kd (target_of i half)) (unwrap_or (made kd) 0) ≡ write r (destination_by kd (target_of i half)) v

  jump_writes : (kind i.op ≡ Jumps) ⊎ (kind i.op ≡ Links) → Writes (kind i.op) (λ q. made_at_let q pc) (pc_plus_4 pc)
  jump_writes (inl e) = subst (λ q. Writes q (λ q. made_at_let q pc) (pc_plus_4 pc)) (sym e) (λ r. refl)
  jump_writes (inr e) = subst (λ q. Writes q (λ q. made_at_let q pc) (pc_plus_4 pc)) (sym e) (λ r. refl)

  accesses : (at : ℕ) → outcome ≡ Address at → (kind i.op ≡ Stores → y ≡ value_in a (second_of i)) → (kind i.op ≡ Loads) ⊎ (kind i.op ≡ Stores) →
      Settled P (accessed (kind i.op) a i half (pc_plus_4 pc) at) (gone_as (kind i.op) (Address at) ∷ ts)
  accesses at is same (inl e) =
      subst (λ q. Settled P (accessed q a i half (pc_plus_4 pc) at) (gone_as q (Address at) ∷ ts)) (sym e)
      (done (Some (found at)) predicted (found at) (found at) (Address at) is (λ r. refl))
  accesses at is same (inr e) =
      subst (λ q. Settled P (accessed q a i half (pc_plus_4 pc) at) (gone_as q (Address at) ∷ ts)) (sym e)
      (settles (Addr at) (made_at_let (kind i.op) pc) predicted refl (store_bytes a.committed.memory at (width i.op) (value_in a (second_of i))) 0 (pc_plus_4 pc)
      (subst (λ q. Writes q (λ q. made_at_let q pc) 0) (sym e) (λ r. refl))
      ((λ j. with_stored (stored_by true (e j) (Addr at) (width i.op) (Some (same e j))) a.committed.memory)) (goes_by (Address at) is) (is_first_half i.op half) refl)

  -- what its instruction leaves; a store has found source 2
  pub leaves : (o : Outcome) → outcome ≡ o → (kind i.op ≡ Stores → y ≡ value_in a (second_of i)) → IsNoStop o → Settled P (left_at a i half pc o) (gone_as (kind i.op) o ∷ ts)
  leaves (Value v) is same goes = done (Some v) predicted v v (Value v) is (λ r. refl)
  leaves (Next z) is same goes = done (made_at_let (kind i.op) pc) z z (pc_plus_4 pc) (Next z) is (jump_writes (jumps_alone (kind i.op) i half pc x y (length P.bytes) z is))
  leaves (Address at) is same goes = accesses at is same (accesses_alone (kind i.op) i half pc x y (length P.bytes) at is)
  leaves (Pair low high) is same goes = done (Some low) predicted low low (Pair low high) is (λ r. refl)
  leaves (Stops c) is same goes = absurd (goes c refl)

  -- once it was executed it can retire
  pub can_retire : (o : Outcome) → outcome ≡ o → CanRetire (kind i.op) (Some y) (fate_as (kind i.op) found o)
  can_retire (Value v) is = tt
  can_retire (Next z) is = tt
  can_retire (Pair low high) is = tt
  can_retire (Stops c) is = tt
  can_retire (Address at) is = go (accesses_alone (kind i.op) i half pc x y (length P.bytes) at is)
    where
      go : (kind i.op ≡ Loads) ⊎ (kind i.op ≡ Stores) → CanRetire (kind i.op) (Some y) (fate_as (kind i.op) found (Address at))
      go (inl e) = subst (λ q. CanRetire q (Some y) (fate_as q found (Address at))) (sym e) tt
      go (inr e) = subst (λ q. CanRetire q (Some y) (fate_as q found (Address at))) (sym e) (refl, (y, refl))

  -- the executed tenant retires, with ys after it
  pub leads_out : (W : UpdateUnit) (ys : List Tenant) (o : Outcome) → outcome ≡ o →
      Reaches IsPlain P C (with_tenants W (ys ++ executed P found t o ∷ ts)) (with_tenants W (ys ++ gone_as (kind i.op) o ∷ ts))
  leads_out W ys o is = retires_on P C W ys (executed P found t o) ts s.nobody s.goes_on refl (can_retire o is)

  -- a stop commits nothing
  pub stops_out : (W : UpdateUnit) (ys : List Tenant) (c : Stop) → outcome ≡ Stops c →
      committed P (ys ++ gone_as (kind i.op) (Stops c) ∷ ts) ≡ committed P ts →
      MovesTo IsPlain P C (with_tenants W (ys ++ executed P found t (Stops c) ∷ ts)) (HasStopped P a.committed c)
  stops_out W ys c is quiet = record {
    unit = with_tenants W (ys ++ gone_as (kind i.op) (Stops c) ∷ ts);
    reaches = leads_out W ys (Stops c) is;
    stands = record { state = s.state ∙ sym quiet; stops = ByStop (length ts) (gone_as (kind i.op) (Stops c)) (at_middle ys _ ts) refl refl };
  }

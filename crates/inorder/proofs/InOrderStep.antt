-- A tenant whose older ones have all left does what the in-order machine does.
use Rattle.std.proofs.Common.{◌≡◌, ◌≢◌, ℕ, zero, suc, ◌+◌, ◌%◌, ◌≤◌, ◌&&◌, Bool, true, false, cond, eqb, leb, ltb, ltb-true, ⊎_elim, List, [], ◌∷◌, length, Option, Some, None, Ok, Err, refl, sym, ap}
use Rattle.std.proofs.Common.{◌∙◌, subst, arith, leb-true}
use Rattle.std.specs.List.{AllByRecursion}
use Rattle.std.specs.Prelude.{unwrap_or, slice_index, Result}
use Rattle.instructions.specs.Instruction.{destination, destination_by, first_of, is_low, is_pair, pair_target, pc_plus_4, read_by, second_of, target_by, target_of, width}
use Rattle.instructions.specs.Registers.{lo}
use Rattle.instructions.specs.declared.op.Half.{Half}
use Rattle.instructions.specs.declared.op.Half.TheVariants.{High, Low}
use Rattle.instructions.specs.Operations.{as_address, as_value, checked_address, loaded, outcome, outcome_by, outcome_if, outcome_of, paired}
use Rattle.instructions.specs.Programs.{Program, address, instr_at, instr_of}
use Rattle.instructions.specs.declared.instr.Instr.{Instr}
use Rattle.instructions.specs.declared.op.Kind.{Kind}
use Rattle.instructions.specs.declared.op.Kind.TheVariants.{Computes, Jumps, Links, Loads, Stores}
use Rattle.instructions.specs.declared.stop.Outcome.{Outcome}
use Rattle.instructions.specs.declared.stop.Outcome.TheVariants.{Address, Next, Stop as Stops, Value}
use Rattle.instructions.specs.declared.stop.Stop.{Stop}
use Rattle.inorder.specs.Committed.{ahead, committed, with_stored, with_tenant}
use Rattle.inorder.specs.Machine.{Goes, Halts, State, advanced, after_access, fetched, ran, step, store_bytes, write}
use Rattle.inorder.specs.Memory.{byte_at, stored, stored_by}
use Rattle.inorder.specs.Steps.{CanRetire}
use Rattle.inorder.specs.Tenants.{Addr, Busy, Done, Fate, Guessed, IsThere, Miss, Open, Operand, Stopped, Tenant, behind, behind_by, computed, computed_next, destination_of, instr, is_first, kind_of, next_by}
use Rattle.inorder.specs.Tenants.{on_path, operand_value}
use Rattle.inorder.specs.Unit.{creator, value_of}
use Rattle.lsq.specs.Bytes.{little_endian}
use Rattle.inorder.proofs.Basics.{fetched_at, number_there, read_other}
use Rattle.inorder.proofs.SettledMemory.{byte_given}
use Rattle.inorder.proofs.SettledRegisters.{committed_pc, retired_leaves, retired_on, same_rest, source_given}
use Rattle.inorder.proofs.Halves.{Waits, first_low}
use Rattle.inorder.proofs.Pairs.{and_left, pair_computes, pair_makes}
use Rattle.inorder.proofs.Sound.{DoneIs, FateIs, HasSureRead, IsInPlace, IsOwn, IsSettled, IsSound, LoadIs, Needs, ValueIs}
use Rattle.inorder.proofs.Grows.{raw_sure}

-- One step

-- an access that has an address is inside the memory
pub reached_in : (w a size q : ℕ) → checked_address w a size ≡ Ok q → q + w ≤ size
unfolding checked_address
reached_in w a size q h = go (eqb (a % w) 0) refl (leb (a + w) size) refl
  where
    go : (b : Bool) → eqb (a % w) 0 ≡ b → (b' : Bool) → leb (a + w) size ≡ b' → q + w ≤ size
    go true e true e' =
        let same : a ≡ q = cc (rw (e, e') at h) in
        let fits = leb-true (a + w) size e' in
        omega arith
    go true e false e' = let no = rw (e, e') at h in absurd (cc)
    go false e b' e' = let no = rw e at h in absurd (cc)

pub address_in : (r : Result ℕ Stop) (q : ℕ) → as_address r ≡ Address q → r ≡ Ok q
address_in (Ok a) q h = ap Ok (cc)
address_in (Err c) q h = absurd (cc)

pub load_in : (P : Program) (t : Tenant) (a : ℕ) → kind_of P t ≡ Loads → computed P t ≡ Address a →
    a + width (instr P t).op ≤ length P.bytes
load_in P t a ek h =
    let h' = rw ek at h in
    reached_in _ _ _ a (address_in _ a h')

-- a source that was delivered has its register's value
pub source_read : (P : Program) → (ts : List Tenant) → IsSound P ts → AllByRecursion IsSettled ts →
    (s : Operand) (r : ℕ) → ValueIs ts s → s.creator ≡ creator P ts r → IsThere s.value →
    slice_index (ahead P ts).registers r ≡ operand_value s
source_read P ts sound h s r value creates there =
    let e : Some there.0 ≡ Some (slice_index (ahead P ts).registers r) =
    sym (value there.0 there.1) ∙ ap (value_of ts) creates ∙ source_given P ts sound h r in
    let e' : there.0 ≡ slice_index (ahead P ts).registers r = cc e in
    sym e' ∙ sym (ap (λ v. unwrap_or v 0) there.1)

-- the outcome of the needed sources
pub same_outcome : (P : Program) (t : Tenant) (k : Kind) (i : Instr) (half : Half) (pc pc' a b size : ℕ) → pc ≡ pc' →
    Needs k t.first.value t.second.value → (IsThere t.first.value → a ≡ operand_value t.first) →
    (IsThere t.second.value → b ≡ operand_value t.second) →
    outcome_by k i half pc a b size ≡ outcome_by k i half pc' (operand_value t.first) (operand_value t.second) size
same_outcome P t Stores i half pc pc' a b size e n f g = ap (λ x. outcome_by Stores i half pc x b size) (f n)
same_outcome P t Computes i half pc pc' a b size e n f g =
    ap (λ x. outcome_by Computes i half pc x b size) (f n.0)
    ∙ ap (λ x. outcome_by Computes i half pc (operand_value t.first) x size) (g n.1)
same_outcome P t Loads i half pc pc' a b size e n f g = ap (λ x. outcome_by Loads i half pc x b size) (f n.0)
same_outcome P t Jumps i half pc pc' a b size e n f g =
    ap (λ x. outcome_by Jumps i half x a b size) e ∙ ap (λ x. outcome_by Jumps i half pc' x b size) (f n.0)
    ∙ ap (λ x. outcome_by Jumps i half pc' (operand_value t.first) x size) (g n.1)
same_outcome P t Links i half pc pc' a b size e n f g =
    ap (λ x. outcome_by Links i half x a b size) e ∙ ap (λ x. outcome_by Links i half pc' x b size) (f n.0)
    ∙ ap (λ x. outcome_by Links i half pc' (operand_value t.first) x size) (g n.1)

pub needs_of : (P : Program) (t : Tenant) (f : Fate) → FateIs P t f →
    CanRetire (kind_of P t) t.second.value f → Needs (kind_of P t) t.first.value t.second.value
needs_of P t Open s c = absurd c
needs_of P t (Busy by) s c = absurd c
needs_of P t (Addr a) s c = s.2
needs_of P t (Done v) s c = s.1
needs_of P t (Guessed x) s c = absurd c
needs_of P t (Miss x) s c = absurd c
needs_of P t (Stopped x) s c = s.2

-- the parts of a move
pub same_move : (s : State) (i : Instr) (v v' : ℕ) (m m' : List ℕ) (n n' : ℕ) → v ≡ v' → m ≡ m' → n ≡ n' →
    advanced s i v m n ≡ advanced s i v' m' n'
same_move s i v v' m m' n n' e f g =
    ap (λ x. advanced s i x m n) e ∙ ap (λ x. advanced s i v' x n) f ∙ ap (λ x. advanced s i v' m' x) g

-- nothing is written to no register
pub no_write : (s : State) (i : Instr) (v v' : ℕ) (m : List ℕ) (n : ℕ) → destination i Low ≡ 0 →
    advanced s i v m n ≡ advanced s i v' m n
no_write s i v v' m n e =
    ap (λ q. record { registers = write s.registers q v; memory = m; pc = n; count = suc s.count }) e
    ∙ sym (ap (λ q. record { registers = write s.registers q v'; memory = m; pc = n; count = suc s.count }) e)

pub stored_done : (b : Bool) (k : Kind) (v w : ℕ) (d : Option ℕ) → stored_by b k (Done v) w d ≡ None
stored_done true Stores v w d = refl
stored_done true Computes v w d = refl
stored_done true Jumps v w d = refl
stored_done true Links v w d = refl
stored_done true Loads v w d = refl
stored_done false k v w d = refl

pub done_stores : (P : Program) (t : Tenant) (v : ℕ) → t.fate ≡ Done v → stored P t ≡ None
done_stores P t v e =
    ap (λ f. stored_by (on_path t) (kind_of P t) f (width (instr P t).op) t.second.value) e
    ∙ stored_done (on_path t) (kind_of P t) v (width (instr P t).op) t.second.value

-- the outcome of a tenant, from a state at its pc
module _ (P : Program) (t : Tenant) (s : State) (e : s.pc ≡ t.pc) (single : is_first P t ≡ false)
    (low : t.half ≡ Low) where
  pub after_same : pc_plus_4 s.pc ≡ pc_plus_4 t.pc
  after_same = ap pc_plus_4 e

  pub behind_same : pc_plus_4 s.pc ≡ behind P t
  behind_same = ap pc_plus_4 e ∙ sym (ap (λ b. behind_by b t.pc) single)

  pub next_same : (o : Outcome) → computed P t ≡ o → next_by (behind P t) o ≡ computed_next P t
  next_same o h = ap (next_by (behind P t)) (sym h)

  -- the step of an instruction of one half is what its tenant commits
  pub lowered : advanced s (instr P t) (unwrap_or t.made 0) (with_stored (stored P t) s.memory) (computed_next P t) ≡
      with_tenant P t s
  lowered = ap (λ h. record {
    registers = write s.registers (destination (instr P t) h) (unwrap_or t.made 0);
    memory = with_stored (stored P t) s.memory;
    pc = computed_next P t;
    count = suc s.count;
  }) (sym low)

  pub ran_done : (v : ℕ) (k : Kind) → kind_of P t ≡ k → t.fate ≡ Done v → DoneIs P t v k →
      ((a : ℕ) → k ≡ Loads → computed P t ≡ Address a →
      v ≡ loaded (instr P t).op (little_endian (slice_index s.memory) a (width (instr P t).op))) →
      ran s (instr P t) (computed P t) ≡ Goes (with_tenant P t s)
  ran_done v Computes ek ef d load =
      let no_store = sym (ap (λ o. with_stored o s.memory) (done_stores P t v ef)) in
      let value = sym (ap (λ x. unwrap_or x 0) d.1) in
      ap (ran s (instr P t)) d.0
      ∙ ap Goes (same_move s (instr P t) v _ s.memory _ (pc_plus_4 s.pc) _ value no_store
      (behind_same ∙ next_same (Value v) d.0) ∙ lowered)
  ran_done v Jumps ek ef d load =
      let no_store = sym (ap (λ o. with_stored o s.memory) (done_stores P t v ef)) in
      let none : destination (instr P t) Low ≡ 0 = ap (λ k. destination_by k (target_of (instr P t) Low)) ek in
      ap (ran s (instr P t)) d.0
      ∙ ap Goes (no_write s (instr P t) (pc_plus_4 s.pc) (unwrap_or t.made 0) s.memory v none
      ∙ same_move s (instr P t) (unwrap_or t.made 0) _ s.memory _ v _ refl no_store (next_same
      (Next v) d.0) ∙ lowered)
  ran_done v Links ek ef d load =
      let no_store = sym (ap (λ o. with_stored o s.memory) (done_stores P t v ef)) in
      let value = sym (ap (λ x. unwrap_or x 0) d.2) in
      ap (ran s (instr P t)) d.0
      ∙ ap Goes (same_move s (instr P t) (pc_plus_4 s.pc) _ s.memory _ v _ (after_same ∙ value) no_store
      (next_same (Next v) d.0) ∙ lowered)
  ran_done v Loads ek ef d load =
      let no_store = sym (ap (λ o. with_stored o s.memory) (done_stores P t v ef)) in
      let value = sym (ap (λ x. unwrap_or x 0) d.1) in
      let a = d.0.0 in
      ap (ran s (instr P t)) d.0.1
      ∙ ap (λ k. Goes (after_access k s (instr P t) a)) ek
      ∙ ap Goes (same_move s (instr P t) _ _ s.memory _ (pc_plus_4 s.pc) _
      (sym (load a refl d.0.1) ∙ value) no_store (behind_same ∙ next_same (Address a) d.0.1) ∙ lowered)
  ran_done v Stores ek ef d load = absurd d

  pub ran_store : (a : ℕ) → on_path t ≡ true → t.fate ≡ Addr a → computed P t ≡ Address a →
      kind_of P t ≡ Stores → IsThere t.second.value →
      slice_index s.registers (second_of (instr P t)) ≡ operand_value t.second →
      ran s (instr P t) (computed P t) ≡ Goes (with_tenant P t s)
  ran_store a on ef ea ek there same =
      let none : destination (instr P t) Low ≡ 0 = ap (λ k. destination_by k (target_of (instr P t) Low)) ek in
      let w = width (instr P t).op in
      let is_stored : stored P t ≡ Some (record { at = a; width = w; content = t.second.value }) =
      ap (λ b. stored_by b (kind_of P t) t.fate w t.second.value) on
      ∙ ap (λ k. stored_by true k t.fate w t.second.value) ek
      ∙ ap (λ f. stored_by true Stores f w t.second.value) ef
      in
      let memory : store_bytes s.memory a w (slice_index s.registers (second_of (instr P t))) ≡ with_stored
      (stored P t) s.memory =
      ap (store_bytes s.memory a w) same ∙ sym (ap (λ o. with_stored o s.memory) is_stored)
      in
      ap (ran s (instr P t)) ea
      ∙ ap (λ k. Goes (after_access k s (instr P t) a)) ek
      ∙ ap Goes (no_write s (instr P t) 0 (unwrap_or t.made 0) _ (pc_plus_4 s.pc) none
      ∙ same_move s (instr P t) (unwrap_or t.made 0) _ _ _ (pc_plus_4 s.pc) _ refl memory (behind_same
      ∙ next_same (Address a) ea) ∙ lowered)

-- the step of the machine in order from what is committed before a tenant of the path, where nobody before it is live
module _ (P : Program) (ts : List Tenant) (t : Tenant) (sound : IsSound P ts) (h : AllByRecursion IsSettled ts)
    (own : IsOwn P ts t) (placed : IsInPlace P ts t) where
  pub pc_same : (committed P ts).pc ≡ t.pc
  pc_same = committed_pc P ts sound h ∙ sym placed.pc

  pub first_read : IsThere t.first.value →
      slice_index (ahead P ts).registers (first_of (instr P t)) ≡ operand_value t.first
  first_read = source_read P ts sound h t.first (first_of (instr P t)) own.first placed.first

  pub second_read : IsThere t.second.value →
      slice_index (ahead P ts).registers (second_of (instr P t)) ≡ operand_value t.second
  second_read = source_read P ts sound h t.second (second_of (instr P t)) own.second placed.second

  pub step_at : step P (committed P ts) ≡ ran (committed P ts) (instr P t) (outcome (instr P t) (committed P ts).pc
      (slice_index (committed P ts).registers (first_of (instr P t))) (slice_index (committed P ts).registers
      (second_of (instr P t))) (length P.bytes))
  step_at =
      ap (λ q. fetched P (committed P ts) (instr_at P q)) (pc_same ∙ own.place)
      ∙ ap (fetched P (committed P ts)) (fetched_at P t.index own.inside)

  pub load_read : (v a : ℕ) → kind_of P t ≡ Loads → HasSureRead P ts (instr P t) (computed P t) v →
      computed P t ≡ Address a →
      v ≡ loaded (instr P t).op (little_endian (slice_index (committed P ts).memory) a (width (instr P t).op))
  load_read v a ek r e =
      let same : r.a ≡ a = cc (sym r.computes ∙ e) in
      let w = width (instr P t).op in
      let inside = load_in P t r.a ek r.computes in
      let there = number_there (byte_at P ts) (slice_index (committed P ts).memory) r.a w
      (λ x l m. byte_given P ts sound h x (omega arith)) in
      let n : Some r.n ≡ Some (little_endian (slice_index (committed P ts).memory) r.a w) = sym (raw_sure P ts (instr P t) r.a r.n r.sure) ∙ there in
      let n' : r.n ≡ little_endian (slice_index (committed P ts).memory) r.a w = cc n in
      r.value ∙ ap (loaded (instr P t).op) n'
      ∙ ap (λ q. loaded (instr P t).op (little_endian (slice_index (committed P ts).memory) q w)) same

-- an instruction of one half
module _ (P : Program) (ts : List Tenant) (t : Tenant) (sound : IsSound P ts) (h : AllByRecursion IsSettled ts)
    (own : IsOwn P ts t) (placed : IsInPlace P ts t) (single : is_pair (instr P t).op ≡ false)
    (level : ahead P ts ≡ committed P ts) (low : t.half ≡ Low) where
  no_first : is_first P t ≡ false
  no_first = ap (λ b. b && is_low t.half) single

  from_level : (r v : ℕ) → slice_index (ahead P ts).registers r ≡ v → slice_index (committed P ts).registers r ≡ v
  from_level r v e = ap (λ s. slice_index s.registers r) (sym level) ∙ e

  pub step_is : Needs (kind_of P t) t.first.value t.second.value →
      step P (committed P ts) ≡ ran (committed P ts) (instr P t) (computed P t)
  step_is n =
      step_at P ts t sound h own placed
      ∙ ap (λ b. ran (committed P ts) (instr P t) (outcome_if b (instr P t) (committed P ts).pc
      (slice_index (committed P ts).registers (first_of (instr P t))) (slice_index (committed P ts).registers
      (second_of (instr P t))) (length P.bytes))) single
      ∙ ap (ran (committed P ts) (instr P t)) (same_outcome P t (kind_of P t) (instr P t) Low _ _ _ _
      (length P.bytes) (pc_same P ts t sound h own placed)
      n (λ x. from_level _ _ (first_read P ts t sound h own placed x)) (λ x. from_level _ _ (second_read P ts t sound h own placed x)))
      ∙ ap (λ q. ran (committed P ts) (instr P t) (outcome_of (instr P t) q t.pc (operand_value t.first) (operand_value t.second) (length P.bytes))) (sym low)

  pub step_done : (v : ℕ) → t.fate ≡ Done v → Needs (kind_of P t) t.first.value t.second.value →
      DoneIs P t v (kind_of P t) → LoadIs P ts (instr P t) (computed P t) (kind_of P t) (Done v) →
      step P (committed P ts) ≡ Goes (with_tenant P t (committed P ts))
  step_done v ef n d l =
      step_is n
      ∙ ran_done P t (committed P ts) (pc_same P ts t sound h own placed) no_first low v (kind_of P t) refl ef d (λ a ek e. load_read P ts t sound h own placed v a ek
      (subst (λ k. LoadIs P ts (instr P t) (computed P t) k (Done v)) ek l) e)

  pub step_store : (a : ℕ) → on_path t ≡ true → t.fate ≡ Addr a → computed P t ≡ Address a →
      kind_of P t ≡ Stores → IsThere t.second.value → Needs (kind_of P t) t.first.value t.second.value →
      step P (committed P ts) ≡ Goes (with_tenant P t (committed P ts))
  step_store a on ef ea ek there n =
      step_is n ∙ ran_store P t (committed P ts) (pc_same P ts t sound h own placed) no_first low a on ef ea ek there (from_level _ _ (second_read P ts t sound h own placed there))

  pub step_end : (c : Stop) → computed P t ≡ Stops c → Needs (kind_of P t) t.first.value t.second.value →
      step P (committed P ts) ≡ Halts c
  step_end c e n = step_is n ∙ ap (ran (committed P ts) (instr P t)) e

-- a multiplication or division never stops
pub pair_goes_on : (P : Program) (t : Tenant) → is_pair (instr P t).op ≡ true → (x : Stop) → computed P t ≡ Stops x → ⊥
pair_goes_on P t pair x e =
    let m = pair_makes (instr P t).op t.half (operand_value t.first) (operand_value t.second) (instr P t).number pair in
    let k = ap (λ k. outcome_by k (instr P t) t.half t.pc (operand_value t.first) (operand_value t.second)
    (length P.bytes)) (pair_computes (instr P t).op pair) in
    let no : Value m.value ≡ Stops x = sym (k ∙ ap as_value m.is) ∙ e in
    cc

-- the second half of an instruction whose first half waits

abbrev the_state : List ℕ → List ℕ → ℕ → ℕ → State
the_state r m p k = record { registers = r; memory = m; pc = p; count = suc k }

below_differs : (r : ℕ) → read_by true r ≢ lo
below_differs r = go (ltb r 32) refl
  where
    go : (b : Bool) → ltb r 32 ≡ b → cond b r 0 ≢ lo
    go true e same = let less = ltb-true r 32 e in omega (arith, less, same)
    go false e same = omega (arith, same)

-- a register other than LO
other_read : (regs : List ℕ) (r v : ℕ) → r ≢ lo → slice_index (write regs lo v) r ≡ slice_index regs r
other_read [] zero v ne = refl
other_read (x ∷ xs) zero v ne = refl
other_read regs (suc r) v ne = read_other regs lo r v (λ e. ne (sym e))

module _ (P : Program) (ts : List Tenant) (t : Tenant) (sound : IsSound P ts) (h : AllByRecursion IsSettled ts)
    (own : IsOwn P ts t) (placed : IsInPlace P ts t) (high : t.half ≡ High) (w : Waits P ts) where
  abbrev f : Tenant
  f = w.first

  f_path : on_path f ≡ true
  f_path = retired_on f w.retired

  fp : IsInPlace P w.before f
  fp = w.own.placed f_path

  same_index : f.index ≡ t.index
  same_index =
      let e : address f.index ≡ address t.index = sym w.own.own.place ∙ sym w.pc ∙ sym placed.pc ∙ own.place in
      omega (arith, e)

  same_instr : instr P f ≡ instr P t
  same_instr = ap (instr_of P) same_index

  f_low : f.half ≡ Low
  f_low = first_low P f w.is

  pub is_pair_here : is_pair (instr P t).op ≡ true
  is_pair_here =
      ap (λ i. is_pair i.op) (sym same_instr) ∙ and_left (is_pair (instr P f).op) (is_low f.half) w.is

  t_computes : kind_of P t ≡ Computes
  t_computes = pair_computes (instr P t).op is_pair_here

  f_computes : kind_of P f ≡ Computes
  f_computes = pair_computes (instr P f).op (and_left (is_pair (instr P f).op) (is_low f.half) w.is)

  abbrev i : Instr
  i = instr P t

  abbrev c : State
  c = committed P ts

  -- both halves read what the instruction reads

  read_here : (r : ℕ) → slice_index (ahead P ts).registers (read_by (is_pair i.op) r) ≡ slice_index c.registers (read_by (is_pair i.op) r)
  read_here r =
      ap (λ s. slice_index s.registers (read_by (is_pair i.op) r)) w.ahead_is
      ∙ ap (λ d. slice_index (write c.registers d (unwrap_or f.made 0)) (read_by (is_pair i.op) r)) f_target
      ∙ ap (λ b. slice_index (write c.registers lo (unwrap_or f.made 0)) (read_by b r)) is_pair_here
      ∙ other_read c.registers (read_by true r) (unwrap_or f.made 0) (below_differs r)
      ∙ sym (ap (λ b. slice_index c.registers (read_by b r)) is_pair_here)
    where
      f_target : destination_of P f ≡ lo
      f_target =
          ap (λ k. destination_by k (target_of (instr P f) f.half)) f_computes
          ∙ ap (λ j. target_by (is_pair j.op) f.half j.target) same_instr
          ∙ ap (λ b. target_by b f.half i.target) is_pair_here
          ∙ ap pair_target f_low

  read_before : (r : ℕ) → slice_index (ahead P w.before).registers r ≡ slice_index c.registers r
  read_before r = ap (λ s. slice_index s.registers r) (w.level ∙ sym w.kept)

  t_needs : Needs (kind_of P t) t.first.value t.second.value → IsThere t.first.value × IsThere t.second.value
  t_needs n = subst (λ k. Needs k t.first.value t.second.value) t_computes n

  f_needs : IsThere f.first.value × IsThere f.second.value
  f_needs = subst (λ k. Needs k f.first.value f.second.value) f_computes (needs_of P f f.fate w.own.own.fate (fp.can w.retired))

  t_first : IsThere t.first.value → slice_index c.registers (first_of i) ≡ operand_value t.first
  t_first x = sym (read_here i.first) ∙ first_read P ts t sound h own placed x

  t_second : IsThere t.second.value → slice_index c.registers (second_of i) ≡ operand_value t.second
  t_second x = sym (read_here i.second) ∙ second_read P ts t sound h own placed x

  f_first : slice_index c.registers (first_of i) ≡ operand_value f.first
  f_first =
      ap (λ j. slice_index c.registers (first_of j)) (sym same_instr) ∙ sym (read_before (first_of (instr P f)))
      ∙ first_read P w.before f w.sound w.settled w.own.own fp f_needs.0

  f_second : slice_index c.registers (second_of i) ≡ operand_value f.second
  f_second =
      ap (λ j. slice_index c.registers (second_of j)) (sym same_instr) ∙ sym (read_before (second_of (instr P f)))
      ∙ second_read P w.before f w.sound w.settled w.own.own fp f_needs.1

  abbrev half_here : Half → Outcome
  half_here x = outcome_of i x c.pc (slice_index c.registers (first_of i)) (slice_index c.registers (second_of i)) (length P.bytes)

  -- what the first half made
  f_done : (v : ℕ) × (computed P f ≡ Value v) × (f.made ≡ Some v)
  f_done = ⊎_elim
      (λ d. let e = subst (DoneIs P f d.0) f_computes d.2 in (d.0, e.0, e.1))
      (λ d. computes_not_stores (sym f_computes ∙ d.3))
      (retired_leaves P f w.before w.own w.retired w.commits_is)
    where
      computes_not_stores : Computes ≡ Stores → (v : ℕ) × (computed P f ≡ Value v) × (f.made ≡ Some v)
      computes_not_stores e = absurd (cc)

  low_here : half_here Low ≡ Value f_done.0
  low_here =
      same_pc_outcome Low c.pc f.pc (slice_index c.registers (first_of i)) (operand_value f.first) (slice_index c.registers (second_of i)) (operand_value f.second) f_first f_second
      ∙ ap (λ j. outcome_of j Low f.pc (operand_value f.first) (operand_value f.second) (length P.bytes)) (sym same_instr)
      ∙ ap (λ x. outcome_of (instr P f) x f.pc (operand_value f.first) (operand_value f.second) (length P.bytes)) (sym f_low)
      ∙ f_done.1
    where
      same_pc_outcome : (x : Half) (pc pc' a a' b b' : ℕ) → a ≡ a' → b ≡ b' → outcome_of i x pc a b (length P.bytes) ≡ outcome_of i x pc' a' b' (length P.bytes)
      same_pc_outcome x pc pc' a a' b b' e g =
          ap (λ k. outcome_by k i x pc a b (length P.bytes)) t_computes
          ∙ ap (λ z. outcome_by Computes i x pc' z b (length P.bytes)) e
          ∙ ap (λ z. outcome_by Computes i x pc' a' z (length P.bytes)) g
          ∙ sym (ap (λ k. outcome_by k i x pc' a' b' (length P.bytes)) t_computes)

  pub high_here : IsThere t.first.value × IsThere t.second.value → half_here High ≡ computed P t
  high_here n =
      ap (λ z. outcome_of i High z (slice_index c.registers (first_of i)) (slice_index c.registers (second_of i)) (length P.bytes)) (pc_same P ts t sound h own placed)
      ∙ ap (λ z. outcome_of i High t.pc z (slice_index c.registers (second_of i)) (length P.bytes)) (t_first n.0)
      ∙ ap (λ z. outcome_of i High t.pc (operand_value t.first) z (length P.bytes)) (t_second n.1)
      ∙ ap (λ x. outcome_of i x t.pc (operand_value t.first) (operand_value t.second) (length P.bytes)) (sym high)

  pub step_pair : (v : ℕ) → t.fate ≡ Done v → Needs (kind_of P t) t.first.value t.second.value →
      DoneIs P t v (kind_of P t) → step P (committed P ts) ≡ Goes (with_tenant P t (ahead P ts))
  step_pair v ef n d =
      let e = subst (DoneIs P t v) t_computes d in
      let value : half_here High ≡ Value v = high_here (t_needs n) ∙ e.0 in
      step_at P ts t sound h own placed
      ∙ ap (λ b. ran c i (outcome_if b i c.pc (slice_index c.registers (first_of i)) (slice_index c.registers (second_of i)) (length P.bytes))) is_pair_here
      ∙ ap (λ o. ran c i (paired o (half_here High))) low_here
      ∙ ap (λ o. ran c i (paired (Value f_done.0) o)) value
      ∙ ap Goes (same_state (write (write c.registers (destination i Low) f_done.0) (destination i High) v) _ c.memory _ (pc_plus_4 c.pc) _ c.count _ (registers e.1) memory next count)
    where
      same_state : (r r' m m' : List ℕ) (p p' k k' : ℕ) → r ≡ r' → m ≡ m' → p ≡ p' → k ≡ k' →
          the_state r m p k ≡ the_state r' m' p' k'
      same_state r r' m m' p p' k k' e1 e2 e3 e4 = λ j. record { registers = e1 j; memory = e2 j; pc = e3 j; count = suc (e4 j) }

      low_write : write c.registers (destination i Low) f_done.0 ≡ (ahead P ts).registers
      low_write =
          ap (λ x. write c.registers (destination i Low) x) (sym (ap (λ x. unwrap_or x 0) f_done.2))
          ∙ ap (λ j. write c.registers (destination j Low) (unwrap_or f.made 0)) (sym same_instr)
          ∙ ap (λ x. write c.registers (destination (instr P f) x) (unwrap_or f.made 0)) (sym f_low)
          ∙ sym (ap (λ s. s.registers) w.ahead_is)

      registers : t.made ≡ Some v → write (write c.registers (destination i Low) f_done.0) (destination i High) v ≡ (with_tenant P t (ahead P ts)).registers
      registers made =
          ap (λ r. write r (destination i High) v) low_write
          ∙ ap (λ x. write (ahead P ts).registers (destination i x) v) (sym high)
          ∙ ap (write (ahead P ts).registers (destination_of P t)) (sym (ap (λ x. unwrap_or x 0) made))

      memory : c.memory ≡ (with_tenant P t (ahead P ts)).memory
      memory = (same_rest P ts).0 ∙ sym (ap (λ o. with_stored o (ahead P ts).memory) (done_stores P t v ef))

      after_value : (o : Outcome) → computed P t ≡ o → o ≡ Value v → next_by (behind P t) o ≡ behind P t
      after_value o a b = ap (next_by (behind P t)) b

      next : pc_plus_4 c.pc ≡ computed_next P t
      next =
          ap pc_plus_4 (pc_same P ts t sound h own placed)
          ∙ sym (ap (λ x. behind_by (is_pair (instr P t).op && is_low x) t.pc) high ∙ ap (λ b. behind_by (b && false) t.pc) is_pair_here)
          ∙ sym (ap (next_by (behind P t)) (subst (DoneIs P t v) t_computes d).0)

      count : c.count ≡ (ahead P ts).count
      count = (same_rest P ts).2

  pub no_store : kind_of P t ≡ Stores → ⊥
  no_store e = let x = sym t_computes ∙ e in cc

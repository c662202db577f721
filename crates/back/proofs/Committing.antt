-- What a retired tenant commits is what its answer says.
use Rattle.std.proofs.Common.{◌≡◌, ◌+◌, ◌≤◌, ℕ, suc, true, false, cond, List, length, Some, unwrap_or, refl, sym, ap, ◌∙◌, subst}
use Rattle.instructions.specs.Instruction.{destination_by, is_low, is_pair, pair_target, pc_plus_4, target_by, target_of, width}
use Rattle.instructions.specs.Registers.{lo}
use Rattle.instructions.specs.Programs.{Program}
use Rattle.instructions.specs.declared.op.Kind.{Kind}
use Rattle.instructions.specs.declared.op.Kind.TheVariants.{Computes, Jumps, Links, Loads, Stores}
use Rattle.instructions.specs.declared.stop.Outcome.TheVariants.{Address}
use Rattle.inorder.specs.Committed.{ahead_by, commits, commits_by, with_first, with_stored, with_tenant}
use Rattle.inorder.specs.Machine.{State, store_bytes, write}
use Rattle.inorder.specs.Memory.{stored, stored_by}
use Rattle.inorder.specs.Steps.{made_at_end, retired}
use Rattle.inorder.specs.Tenants.{Addr, behind as behind_it, behind_by, Done, Retired, Tenant, computed, computed_next, destination_of, instr, is_first, kind_of, next_by}
use Rattle.inorder.proofs.Halves.{first_low}
use Rattle.inorder.proofs.InOrderStep.{address_in, pair_goes_on, reached_in, stored_done}
use Rattle.inorder.proofs.Pairs.{and_left, pair_computes}
use Rattle.inorder.proofs.Sound.{DoneIs, FateIs}
use Rattle.station.specs.declared.answers.Last.{Last}
use Rattle.station.specs.declared.answers.Last.TheVariants.{Done as WasDone, Stop as WasStop, Stored}
use Rattle.station.specs.Retirement.{EndsAs}
use Rattle.back.specs.Retirement.{StoreIsInside, goes_on_at, with_done, behind_last, with_store, value_written}

abbrev state_at : List ℕ → List ℕ → ℕ → ℕ → State
state_at registers memory pc count = record { registers = registers; memory = memory; pc = pc; count = count }

no_write : (xs : List ℕ) (r v w : ℕ) → r ≡ 0 → write xs r v ≡ write xs r w
no_write xs r v w e = ap (λ q. write xs q v) e ∙ sym (ap (λ q. write xs q w) e)

store_in : (P : Program) (t : Tenant) (a : ℕ) → kind_of P t ≡ Stores → computed P t ≡ Address a → a + width (instr P t).op ≤ length P.bytes
store_in P t a ek h =
    let h' = rw ek at h in
    reached_in _ _ _ a (address_in _ a h')

-- A tenant with which its instruction is whole

module _ (P : Program) (t : Tenant) (n : ℕ) (s : State) (pc : t.pc ≡ s.pc) (whole : is_first P t ≡ false) where
  abbrev gone : Tenant
  gone = retired t n

  made_done : (v : ℕ) → t.fate ≡ Done v → gone.made ≡ t.made
  made_done v e = ap (λ f. made_at_end f t.made n) e

  none_stored : (v : ℕ) → t.fate ≡ Done v → with_stored (stored P gone) s.memory ≡ s.memory
  none_stored v e = ap (λ o. with_stored o s.memory) (ap (λ f. stored_by true (kind_of P t) f (width (instr P t).op) t.second.value) e ∙
      stored_done true (kind_of P t) v (width (instr P t).op) t.second.value)

  -- after itself, in both
  behind : pc_plus_4 t.pc ≡ pc_plus_4 s.pc
  behind = ap pc_plus_4 pc

  after : behind_it P t ≡ pc_plus_4 s.pc
  after = ap (λ b. behind_by b t.pc) whole ∙ behind

  -- the same value, memory and next pc
  built : (v w : ℕ) (m m' : List ℕ) (x y : ℕ) → write s.registers (destination_of P t) v ≡ write s.registers (destination_of P t) w → m ≡ m' → x ≡ y
      → state_at (write s.registers (destination_of P t) v) m x (suc s.count) ≡ state_at (write s.registers (destination_of P t) w) m' y (suc s.count)
  built v w m m' x y ev em ex = λ i. state_at (ev i) (em i) (ex i) (suc s.count)

  same_write : (v w : ℕ) → v ≡ w → write s.registers (destination_of P t) v ≡ write s.registers (destination_of P t) w
  same_write v w e = ap (write s.registers (destination_of P t)) e

  abbrev written : ℕ → ℕ
  written v = value_written (kind_of P t) s.pc v

  abbrev goes : ℕ → ℕ
  goes v = goes_on_at (kind_of P t) s.pc v

  pub done_as : (v : ℕ) (k : Kind) → kind_of P t ≡ k → t.fate ≡ Done v → DoneIs P t v k → with_tenant P gone s ≡ with_done (instr P t) t.half v s
  done_as v Computes ek e d =
      let value : unwrap_or gone.made 0 ≡ written v = ap (λ m. unwrap_or m 0) (made_done v e ∙ d.1) ∙ sym (ap (λ q. value_written q s.pc v) ek) in
      let next : computed_next P t ≡ goes v = ap (next_by (behind_it P t)) d.0 ∙ (after ∙ sym (ap (λ q. goes_on_at q s.pc v) ek)) in
      built (unwrap_or gone.made 0) (written v) _ s.memory (computed_next P t) (goes v) (same_write _ _ value) (none_stored v e) next
  done_as v Jumps ek e d =
      let none : destination_of P t ≡ 0 = ap (λ q. destination_by q (target_of (instr P t) t.half)) ek in
      let next : computed_next P t ≡ goes v = ap (next_by (behind_it P t)) d.0 ∙ sym (ap (λ q. goes_on_at q s.pc v) ek) in
      built (unwrap_or gone.made 0) (written v) _ s.memory (computed_next P t) (goes v) (no_write s.registers (destination_of P t) (unwrap_or gone.made 0) (written v) none) (none_stored v e) next
  done_as v Links ek e d =
      let value : unwrap_or gone.made 0 ≡ written v = ap (λ m. unwrap_or m 0) (made_done v e ∙ d.2) ∙ (behind ∙ sym (ap (λ q. value_written q s.pc v) ek)) in
      let next : computed_next P t ≡ goes v = ap (next_by (behind_it P t)) d.0 ∙ sym (ap (λ q. goes_on_at q s.pc v) ek) in
      built (unwrap_or gone.made 0) (written v) _ s.memory (computed_next P t) (goes v) (same_write _ _ value) (none_stored v e) next
  done_as v Loads ek e d =
      let value : unwrap_or gone.made 0 ≡ written v = ap (λ m. unwrap_or m 0) (made_done v e ∙ d.1) ∙ sym (ap (λ q. value_written q s.pc v) ek) in
      let next : computed_next P t ≡ goes v = ap (next_by (behind_it P t)) d.0.1 ∙ (after ∙ sym (ap (λ q. goes_on_at q s.pc v) ek)) in
      built (unwrap_or gone.made 0) (written v) _ s.memory (computed_next P t) (goes v) (same_write _ _ value) (none_stored v e) next
  done_as v Stores ek e d = absurd d

  store_as : (a c : ℕ) → kind_of P t ≡ Stores → t.fate ≡ Addr a → t.second.value ≡ Some c → computed P t ≡ Address a → with_tenant P gone s ≡ with_store (instr P t) t.half a c s
  store_as a c ek e there h =
      let none : destination_of P t ≡ 0 = ap (λ q. destination_by q (target_of (instr P t) t.half)) ek in
      let put : with_stored (stored P gone) s.memory ≡ store_bytes s.memory a (width (instr P t).op) c = λ i. with_stored (stored_by true (ek i) (e i) (width (instr P t).op) (there i)) s.memory in
      built (unwrap_or gone.made 0) 0 _ _ (computed_next P t) (pc_plus_4 s.pc) (no_write s.registers (destination_of P t) (unwrap_or gone.made 0) 0 none) put (ap (next_by (behind_it P t)) h ∙ after)

  -- a stop commits nothing, any other what it was answered to be
  pub committed_as : (last : Last) → EndsAs P last t → FateIs P t t.fate → cond (commits gone) (with_tenant P gone s) s ≡ behind_last (instr P t) t.half last s
  committed_as (WasDone v) e f = ap (λ b. cond b (with_tenant P gone s) s) (ap (commits_by Retired) e) ∙ done_as v (kind_of P t) refl e (subst (FateIs P t) e f).0
  committed_as (Stored a c) e f = ap (λ b. cond b (with_tenant P gone s) s) (ap (commits_by Retired) e.1) ∙ store_as a c e.0 e.1 e.2 (subst (FateIs P t) e.1 f).1
  committed_as (WasStop c) e f = ap (λ b. cond b (with_tenant P gone s) s) (ap (commits_by Retired) e)

-- A first half

-- it is done with a value, and writes it to LO
abbrev pub IsDone : Last → Type 0
IsDone last = (v : ℕ) × (last ≡ WasDone v)

module _ (P : Program) (t : Tenant) (first : is_first P t ≡ true) where
  pair : is_pair (instr P t).op ≡ true
  pair = and_left (is_pair (instr P t).op) (is_low t.half) first

  computes : kind_of P t ≡ Computes
  computes = pair_computes (instr P t).op pair

  to_low : destination_of P t ≡ lo
  to_low =
      ap (λ k. destination_by k (target_of (instr P t) t.half)) computes
      ∙ (ap (λ b. target_by b t.half (instr P t).target) pair ∙ ap pair_target (first_low P t first))

  pub first_done : (last : Last) → EndsAs P last t → FateIs P t t.fate → IsDone last
  first_done (WasDone v) e f = (v, refl)
  first_done (Stored a c) e f = let x = sym computes ∙ e.0 in absurd (cc x)
  first_done (WasStop c) e f = absurd (pair_goes_on P t pair c (subst (FateIs P t) e f).1)

  pub first_as : (n v : ℕ) (s : State) → t.fate ≡ Done v → FateIs P t t.fate → with_first P (retired t n) s ≡ ahead_by (Some v) s
  first_as n v s e f =
      let d : DoneIs P t v Computes = subst (DoneIs P t v) computes (subst (FateIs P t) e f).0 in
      let made : unwrap_or (retired t n).made 0 ≡ v = ap (λ m. unwrap_or m 0) (ap (λ x. made_at_end x t.made n) e ∙ d.1) in
      λ i. record s { registers = write s.registers (to_low i) (made i) }

-- its store is inside the memory
pub inside_as : (P : Program) (t : Tenant) (last : Last) → EndsAs P last t → FateIs P t t.fate → StoreIsInside (length P.bytes) (instr P t) last
inside_as P t (WasDone v) e f = tt
inside_as P t (Stored a c) e f = store_in P t a e.0 (subst (FateIs P t) e.1 f).1
inside_as P t (WasStop c) e f = tt

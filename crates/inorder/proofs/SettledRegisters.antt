-- Where all tenants have left, the path's pc and registers are the committed ones.
use Rattle.std.proofs.Common.{◌≡◌, ◌≢◌, ◌⊎◌, ℕ, zero, suc, ◌<◌, ◌≤◌, Bool, true, false, cond, not, ◌&&◌, eqb, ltb, List, [], ◌∷◌, length, replicate, Option, Some, None, refl, sym, ap, ◌∙◌, subst, inl}
use Rattle.std.proofs.Common.{inr, ⊎_elim, arith, true≢false, eqb-true, false-eqb, ltb-true, ltb-false}
use Rattle.std.specs.List.{AllByRecursion}
use Rattle.std.specs.Prelude.{unwrap_or, slice_index}
use Rattle.std.proofs.lemmas.List.{length-replicate, get_or_past}
use Rattle.instructions.specs.Instruction.{width}
use Rattle.instructions.specs.Programs.{Program}
use Rattle.instructions.specs.declared.op.Kind.{Kind}
use Rattle.instructions.specs.declared.op.Kind.TheVariants.{Computes, Jumps, Links, Loads, Stores}
use Rattle.instructions.specs.declared.stop.Outcome.TheVariants.{Address}
use Rattle.inorder.specs.Committed.{ahead, commits, commits_by, committed, completes, with_retired, with_tenant, with_write}
use Rattle.inorder.specs.Machine.{State, write}
use Rattle.inorder.specs.Memory.{Stored, byte_after, byte_at, stored, stored_by}
use Rattle.inorder.specs.Steps.{CanRetire}
use Rattle.inorder.specs.Tenants.{Addr, Busy, Done, Fate, Guessed, IsThere, Live, Miss, Open, Retired, Squashed, Standing, Stopped, Tenant, behind, behind_by, computed, computed_next, destination_of, instr}
use Rattle.inorder.specs.Tenants.{is_first, kind_of, on_path, stands_on_path}
use Rattle.inorder.specs.Unit.{at, creator, front_pc, last_writer, value_of}
use Rattle.inorder.proofs.Basics.{eqb_self, last_writer_below, length_write, read_other, read_same, read_zero, value_of_more}
use Rattle.inorder.proofs.Pairs.{first_half_computes}
use Rattle.inorder.proofs.Sound.{DoneIs, FateIs, GoesOn, IsSettled, IsSound, IsSoundAt, SettledBy}

pub settled_cases : (st : Standing) (f : Fate) → SettledBy st f →
    (st ≡ Squashed) ⊎ ((st ≡ Retired) × (commits_by st f ≡ true))
settled_cases Live f h = absurd h
settled_cases Squashed f h = inl refl
settled_cases Retired Open h = inr (refl, refl)
settled_cases Retired (Busy c) h = inr (refl, refl)
settled_cases Retired (Addr c) h = inr (refl, refl)
settled_cases Retired (Done c) h = inr (refl, refl)
settled_cases Retired (Guessed c) h = inr (refl, refl)
settled_cases Retired (Miss c) h = inr (refl, refl)
settled_cases Retired (Stopped c) h = absurd h

-- What a tenant that retired and is no stop leaves

-- a retired tenant that is no stop is done, or a store with its data
abbrev pub Leaves : Program → List Tenant → Tenant → Type 0
Leaves P ts t =
    ((v : ℕ) × (t.fate ≡ Done v) × DoneIs P t v (kind_of P t)) ⊎ ((a : ℕ) × (t.fate ≡ Addr a) ×
    (computed P t ≡ Address a) × (kind_of P t ≡ Stores) × IsThere t.second.value)

pub leaves : (P : Program) (ts : List Tenant) (t : Tenant) (f : Fate) → t.fate ≡ f →
    commits_by Retired f ≡ true → FateIs P t f → CanRetire (kind_of P t) t.second.value f → Leaves P ts t
leaves P ts t Open e c s h = absurd h
leaves P ts t (Busy by) e c s h = absurd h
leaves P ts t (Addr a) e c s h = inr (a, e, s.1, h.0, h.1)
leaves P ts t (Done v) e c s h = inl (v, e, s.0)
leaves P ts t (Guessed x) e c s h = absurd h
leaves P ts t (Miss x) e c s h = absurd h
leaves P ts t (Stopped x) e c s h = absurd (true≢false (sym c))

-- its computed next pc is where the path goes on
pub next_done : (P : Program) (t : Tenant) (v : ℕ) (k : Kind) → kind_of P t ≡ k → GoesOn k (behind P t) t.next →
    DoneIs P t v k → computed_next P t ≡ t.next
next_done P t v Computes ek g d = rw d.0 (sym g)
next_done P t v Jumps ek g d = rw d.0 (sym d.1)
next_done P t v Links ek g d = rw d.0 (sym d.1)
next_done P t v Loads ek g d = rw d.0.1 (sym g)
next_done P t v Stores ek g d = absurd d

pub next_leaves : (P : Program) (ts : List Tenant) (t : Tenant) → GoesOn (kind_of P t) (behind P t) t.next →
    Leaves P ts t → computed_next P t ≡ t.next
next_leaves P ts t g l =
    ⊎_elim
    (λ d. next_done P t d.0 (kind_of P t) refl g d.2)
    (λ d. let g' : t.next ≡ behind P t = subst (λ k. GoesOn k (behind P t) t.next) d.3 g in rw d.2 (sym g'))
    l

-- The pc

pub ahead_if : (P : Program) (t : Tenant) (ts : List Tenant) (b : Bool) → commits t ≡ b →
    ahead P (t ∷ ts) ≡ cond b (with_retired (is_first P t) P t (ahead P ts)) (ahead P ts)
ahead_if P t ts b e = ap (λ x. cond x (with_retired (is_first P t) P t (ahead P ts)) (ahead P ts)) e

pub committed_if : (P : Program) (t : Tenant) (ts : List Tenant) (b : Bool) → completes P t ≡ b →
    committed P (t ∷ ts) ≡ cond b (with_tenant P t (ahead P ts)) (committed P ts)
committed_if P t ts b e = ap (λ x. cond x (with_tenant P t (ahead P ts)) (committed P ts)) e

-- a first half moves the registers alone
abbrev pub SameRest : State → State → Type 0
SameRest c a = (c.memory ≡ a.memory) × (c.pc ≡ a.pc) × (c.count ≡ a.count)

pub same_rest : (P : Program) (ts : List Tenant) → SameRest (committed P ts) (ahead P ts)
same_rest P [] = (refl, refl, refl)
same_rest P (t ∷ ts) = go (commits t) (is_first P t) (same_rest P ts)
  where
    go : (b f : Bool) → SameRest (committed P ts) (ahead P ts) →
        SameRest (cond (b && not f) (with_tenant P t (ahead P ts)) (committed P ts)) (cond b
        (with_retired f P t (ahead P ts)) (ahead P ts))
    go true true m = m
    go true false m = (refl, refl, refl)
    go false f m = m

pub ahead_pc : (P : Program) (ts : List Tenant) → IsSound P ts → AllByRecursion IsSettled ts →
    (ahead P ts).pc ≡ front_pc ts
ahead_pc P [] s h = refl
ahead_pc P (t ∷ ts) s h = go (settled_cases t.standing t.fate h.0) (ahead_pc P ts s.1 h.1)
  where
    first_next : is_first P t ≡ true → t.pc ≡ t.next
    first_next f =
        let k = first_half_computes (instr P t).op t.half f in
        let g : t.next ≡ behind P t = subst (λ k. GoesOn k (behind P t) t.next) k s.0.own.goes_on in
        sym (g ∙ ap (λ b. behind_by b t.pc) f)

    test : (f : Bool) → is_first P t ≡ f → on_path t ≡ true → computed_next P t ≡ t.next →
        (ahead P ts).pc ≡ front_pc ts → (with_retired f P t (ahead P ts)).pc ≡ t.next
    test true f on n more = more ∙ sym (s.0.placed on).pc ∙ first_next f
    test false f on n more = n

    go : (t.standing ≡ Squashed) ⊎ ((t.standing ≡ Retired) × (commits t ≡ true)) →
        (ahead P ts).pc ≡ front_pc ts → (ahead P (t ∷ ts)).pc ≡ front_pc (t ∷ ts)
    go (inl e) more = rw e more
    go (inr e) more =
        let on : on_path t ≡ true = rw e.0 refl in
        let c : commits_by Retired t.fate ≡ true = rw e.0 at e.1 in
        let l = leaves P ts t t.fate refl c s.0.own.fate ((s.0.placed on).can e.0) in
        let n = next_leaves P ts t s.0.own.goes_on l in
        ap (λ u. u.pc) (ahead_if P t ts true e.1)
        ∙ test (is_first P t) refl on n more
        ∙ sym (ap (λ b. cond b t.next (front_pc ts)) on)

pub committed_pc : (P : Program) (ts : List Tenant) → IsSound P ts → AllByRecursion IsSettled ts →
    (committed P ts).pc ≡ front_pc ts
committed_pc P ts s h = (same_rest P ts).1 ∙ ahead_pc P ts s h

-- Registers

pub half_registers : (b : Bool) (P : Program) (t : Tenant) (s : State) →
    (with_retired b P t s).registers ≡ with_write P t s.registers
half_registers true P t s = refl
half_registers false P t s = refl

pub ahead_registers : (P : Program) (t : Tenant) (ts : List Tenant) (b : Bool) → commits t ≡ b →
    (ahead P (t ∷ ts)).registers ≡ cond b (with_write P t (ahead P ts).registers) (ahead P ts).registers
ahead_registers P t ts b e = ap (λ u. u.registers) (ahead_if P t ts b e) ∙ go b
  where
    go : (b : Bool) → (cond b (with_retired (is_first P t) P t (ahead P ts)) (ahead P ts)).registers ≡ cond b
        (with_write P t (ahead P ts).registers) (ahead P ts).registers
    go true = half_registers (is_first P t) P t (ahead P ts)
    go false = refl

pub length_registers : (P : Program) (ts : List Tenant) → length (ahead P ts).registers ≡ 34
length_registers P [] = length-replicate {A = ℕ} 34 0
length_registers P (t ∷ ts) =
    ap (λ r. length r) (ahead_registers P t ts (commits t) refl) ∙ go (commits t) (length_registers P ts)
  where
    go : (b : Bool) → length (ahead P ts).registers ≡ 34 →
        length (cond b (with_write P t (ahead P ts).registers) (ahead P ts).registers) ≡ 34
    go true more = length_write (ahead P ts).registers (destination_of P t) (unwrap_or t.made 0) ∙ more
    go false more = more

pub register_zero : (P : Program) (ts : List Tenant) → slice_index (ahead P ts).registers 0 ≡ 0
register_zero P [] = refl
register_zero P (t ∷ ts) =
    ap (λ r. slice_index r 0) (ahead_registers P t ts (commits t) refl) ∙ go (commits t) (register_zero P ts)
  where
    go : (b : Bool) → slice_index (ahead P ts).registers 0 ≡ 0 →
        slice_index (cond b (with_write P t (ahead P ts).registers) (ahead P ts).registers) 0 ≡ 0
    go true more = read_zero (ahead P ts).registers (destination_of P t) (unwrap_or t.made 0) more
    go false more = more

-- a writer has made its value
pub made_done : (P : Program) (t : Tenant) (v r : ℕ) (k : Kind) → kind_of P t ≡ k → DoneIs P t v k →
    destination_of P t ≡ suc r → t.made ≡ Some (unwrap_or t.made 0)
made_done P t v r Computes ek d e = rw d.1 refl
made_done P t v r Jumps ek d e = let no : 0 ≡ suc r = rw ek at e in absurd (omega arith)
made_done P t v r Links ek d e = rw d.2 refl
made_done P t v r Loads ek d e = rw d.1 refl
made_done P t v r Stores ek d e = absurd d

pub made_leaves : (P : Program) (ts : List Tenant) (t : Tenant) (r : ℕ) → Leaves P ts t →
    destination_of P t ≡ suc r → t.made ≡ Some (unwrap_or t.made 0)
made_leaves P ts t r l e =
    ⊎_elim
    (λ d. made_done P t d.0 r (kind_of P t) refl d.2 e)
    (λ d. let no : 0 ≡ suc r = rw d.3 at e in absurd (omega arith))
    l

-- One more tenant

pub writer_if : (P : Program) (t : Tenant) (ts : List Tenant) (r : ℕ) (b : Bool) →
    (on_path t && eqb (destination_of P t) r) ≡ b →
    last_writer P (t ∷ ts) r ≡ cond b (Some (length ts)) (last_writer P ts r)
writer_if P t ts r b e = ap (λ x. cond x (Some (length ts)) (last_writer P ts r)) e

pub byte_if : (P : Program) (t : Tenant) (ts : List Tenant) (x : ℕ) (o : Option Stored) → stored P t ≡ o →
    byte_at P (t ∷ ts) x ≡ byte_after o x (byte_at P ts x)
byte_if P t ts x o e = ap (λ s. byte_after s x (byte_at P ts x)) e

pub squashed_off : (t : Tenant) → t.standing ≡ Squashed → on_path t ≡ false
squashed_off t e = ap stands_on_path e

pub retired_on : (t : Tenant) → t.standing ≡ Retired → on_path t ≡ true
retired_on t e = ap stands_on_path e

pub squashed_not : (t : Tenant) → t.standing ≡ Squashed → commits t ≡ false
squashed_not t e = ap (λ s. commits_by s t.fate) e

pub squashed_stores : (P : Program) (t : Tenant) → t.standing ≡ Squashed → stored P t ≡ None
squashed_stores P t e =
    ap (λ b. stored_by b (kind_of P t) t.fate (width (instr P t).op) t.second.value) (squashed_off t e)

-- what a retired tenant that commits leaves
pub retired_leaves : (P : Program) (t : Tenant) (ts : List Tenant) → IsSoundAt P ts t → t.standing ≡ Retired →
    commits t ≡ true → Leaves P ts t
retired_leaves P t ts s e c =
    leaves P ts t t.fate refl (ap (λ x. commits_by x t.fate) (sym e)
    ∙ c) s.own.fate ((s.placed (retired_on t e)).can e)

pub zeros : (n i : ℕ) → slice_index (replicate n 0) i ≡ 0
zeros zero i = refl
zeros (suc n) zero = refl
zeros (suc n) (suc i) = zeros n i

pub value_of_last : (t : Tenant) (ts : List Tenant) → value_of (t ∷ ts) (Some (length ts)) ≡ t.made
value_of_last t ts =
    ap (λ b. Rattle.inorder.specs.Unit.value_made (cond b (Some t) (at ts (length ts)))) (eqb_self (length ts))

-- the last writer of a register has made what a new tenant finds there
pub register_given : (P : Program) → (ts : List Tenant) → IsSound P ts → AllByRecursion IsSettled ts →
    (r : ℕ) → suc r < 34 →
    value_of ts (last_writer P ts (suc r)) ≡ Some (slice_index (ahead P ts).registers (suc r))
register_given P [] s h r lt = ap Some (sym (zeros 34 (suc r)))
register_given P (t ∷ ts) s h r lt = go (settled_cases t.standing t.fate h.0) (register_given P ts s.1 h.1 r lt)
  where
    regs : List ℕ
    regs = (ahead P ts).registers

    more_given : value_of (t ∷ ts) (last_writer P ts (suc r)) ≡ value_of ts (last_writer P ts (suc r))
    more_given = value_of_more t ts (last_writer P ts (suc r)) (last_writer_below P ts (suc r))

    read : List ℕ → Option ℕ
    read u = Some (slice_index u (suc r))

    test : (b : Bool) → eqb (destination_of P t) (suc r) ≡ b → (t.standing ≡ Retired) × (commits t ≡ true) →
        value_of ts (last_writer P ts (suc r)) ≡ Some (slice_index regs (suc r)) →
        value_of (t ∷ ts) (last_writer P (t ∷ ts) (suc r)) ≡ read (ahead P (t ∷ ts)).registers
    test true b e more =
        let l = retired_leaves P t ts s.0 e.0 e.1 in
        let same : destination_of P t ≡ suc r = eqb-true (destination_of P t) (suc r) b in
        let made = made_leaves P ts t r l same in
        let inside : suc r < length regs = omega (arith, length_registers P ts) in
        let hit : (on_path t && eqb (destination_of P t) (suc r)) ≡ true = ap (λ x. x && eqb
        (destination_of P t) (suc r)) (retired_on t e.0) ∙ b in
        ap (value_of (t ∷ ts)) (writer_if P t ts (suc r) true hit)
        ∙ value_of_last t ts
        ∙ made
        ∙ ap Some (sym (ap (λ q. slice_index (write regs q (unwrap_or t.made 0)) (suc r)) same
        ∙ read_same regs r (unwrap_or t.made 0) inside))
        ∙ sym (ap read (ahead_registers P t ts true e.1))
    test false b e more =
        let differ : destination_of P t ≢ suc r = false-eqb (destination_of P t) (suc r) (sym b) in
        let miss : (on_path t && eqb (destination_of P t) (suc r)) ≡ false = ap (λ x. x && eqb
        (destination_of P t) (suc r)) (retired_on t e.0) ∙ b in
        ap (value_of (t ∷ ts)) (writer_if P t ts (suc r) false miss)
        ∙ more_given
        ∙ more
        ∙ ap Some (sym (read_other regs (destination_of P t) r (unwrap_or t.made 0) differ))
        ∙ sym (ap read (ahead_registers P t ts true e.1))

    go : (t.standing ≡ Squashed) ⊎ ((t.standing ≡ Retired) × (commits t ≡ true)) →
        value_of ts (last_writer P ts (suc r)) ≡ Some (slice_index regs (suc r)) →
        value_of (t ∷ ts) (last_writer P (t ∷ ts) (suc r)) ≡ read (ahead P (t ∷ ts)).registers
    go (inl e) more =
        let miss : (on_path t && eqb (destination_of P t) (suc r)) ≡ false = ap (λ x. x && eqb
        (destination_of P t) (suc r)) (squashed_off t e) in
        ap (value_of (t ∷ ts)) (writer_if P t ts (suc r) false miss) ∙ more_given ∙ more
        ∙ sym (ap read (ahead_registers P t ts false (squashed_not t e)))
    go (inr e) more = test (eqb (destination_of P t) (suc r)) refl e more

-- what a source's creator makes is in its register
pub source_given : (P : Program) → (ts : List Tenant) → IsSound P ts → AllByRecursion IsSettled ts → (r : ℕ) →
    value_of ts (creator P ts r) ≡ Some (slice_index (ahead P ts).registers r)
source_given P ts s h zero = ap Some (sym (register_zero P ts))
source_given P ts s h (suc r) = go (ltb (suc r) 34) refl
  where
    go : (b : Bool) → ltb (suc r) 34 ≡ b →
        value_of ts (cond b (last_writer P ts (suc r)) None) ≡ Some (slice_index (ahead P ts).registers
        (suc r))
    go true e = register_given P ts s h r (ltb-true (suc r) 34 e)
    go false e =
        let past : length (ahead P ts).registers ≤ suc r = omega (
          arith,
          length_registers P ts,
          ltb-false (suc r) 34 e,
        ) in
        ap Some (sym (get_or_past (ahead P ts).registers (suc r) 0 past))

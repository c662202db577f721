-- Where all tenants have left, the path's bytes are those of the committed memory.
use Rattle.std.proofs.Common.{◌≡◌, ◌⊎◌, ℕ, ◌+◌, ◌-◌, ◌<◌, ◌≤◌, Bool, true, false, cond, ◌&&◌, leb, ltb, List, [], ◌∷◌, length, Option, Some, None, refl, sym, ap, ◌∙◌, subst, inl, inr, ⊎_elim, arith}
use Rattle.std.proofs.Common.{leb-true, ltb-true, leb-false, ltb-false}
use Rattle.std.specs.List.{AllByRecursion}
use Rattle.std.specs.Prelude.{unwrap_or, slice_index, option_map}
use Rattle.instructions.specs.Instruction.{width}
use Rattle.instructions.specs.Programs.{Program}
use Rattle.instructions.specs.declared.op.Kind.{Kind}
use Rattle.instructions.specs.declared.op.Kind.TheVariants.{Computes, Jumps, Links, Loads, Stores}
use Rattle.inorder.specs.Committed.{ahead, commits, committed, with_retired, with_stored}
use Rattle.inorder.specs.Machine.{State, store_bytes}
use Rattle.inorder.specs.Memory.{Stored, byte_after, byte_at, covers, stored, stored_by}
use Rattle.inorder.specs.Tenants.{Addr, Busy, Done, Fate, Guessed, IsThere, Miss, Open, Retired, Squashed, Stopped, Tenant, instr, is_first, kind_of, on_path}
use Rattle.lsq.specs.Bytes.{byte_of}
use Rattle.inorder.proofs.Basics.{length_put, put_in, put_out}
use Rattle.inorder.proofs.Pairs.{first_half_computes}
use Rattle.inorder.proofs.SettledRegisters.{Leaves, ahead_if, byte_if, same_rest, retired_leaves, settled_cases, squashed_not, squashed_stores}
use Rattle.inorder.proofs.Sound.{IsSettled, IsSound}

-- Memory

-- a first half stores nothing
pub half_memory : (b : Bool) (P : Program) (t : Tenant) (s : State) → is_first P t ≡ b →
    (with_retired b P t s).memory ≡ with_stored (stored P t) s.memory
half_memory false P t s e = refl
half_memory true P t s e = sym (ap (λ o. with_stored o s.memory) none)
  where
    no : (b : Bool) → stored_by b Computes t.fate (width (instr P t).op) t.second.value ≡ None
    no true = refl
    no false = refl

    none : stored P t ≡ None
    none =
        ap (λ k. stored_by (on_path t) k t.fate (width (instr P t).op) t.second.value)
        (first_half_computes (instr P t).op t.half e) ∙ no (on_path t)

pub ahead_memory : (P : Program) (t : Tenant) (ts : List Tenant) (b : Bool) → commits t ≡ b →
    (ahead P (t ∷ ts)).memory ≡ cond b (with_stored (stored P t) (ahead P ts).memory) (ahead P ts).memory
ahead_memory P t ts b e = ap (λ u. u.memory) (ahead_if P t ts b e) ∙ go b
  where
    go : (b : Bool) → (cond b (with_retired (is_first P t) P t (ahead P ts)) (ahead P ts)).memory ≡ cond b
        (with_stored (stored P t) (ahead P ts).memory) (ahead P ts).memory
    go true = half_memory (is_first P t) P t (ahead P ts) refl
    go false = refl

length_ahead : (P : Program) (ts : List Tenant) → length (ahead P ts).memory ≡ length P.bytes
length_ahead P [] = refl
length_ahead P (t ∷ ts) =
    ap (λ u. length u) (ahead_memory P t ts (commits t) refl) ∙ go (commits t) (length_ahead P ts)
  where
    kept : (o : Option Stored) (m : List ℕ) → length (with_stored o m) ≡ length m
    kept None m = refl
    kept (Some s) m = length_put m s.at s.width (unwrap_or s.content 0)

    go : (b : Bool) → length (ahead P ts).memory ≡ length P.bytes →
        length (cond b (with_stored (stored P t) (ahead P ts).memory) (ahead P ts).memory) ≡ length P.bytes
    go true more = kept (stored P t) (ahead P ts).memory ∙ more
    go false more = more

pub length_memory : (P : Program) (ts : List Tenant) → length (committed P ts).memory ≡ length P.bytes
length_memory P ts = ap (λ m. length m) (same_rest P ts).0 ∙ length_ahead P ts

-- a store that leaves has its data
abbrev pub HasContent : Option Stored → Type 0
HasContent None = Unit {0}
HasContent (Some s) = (d : ℕ) × (s.content ≡ Some d)

pub content_leaves : (P : Program) (ts : List Tenant) (t : Tenant) → Leaves P ts t → HasContent (stored P t)
content_leaves P ts t l =
    ⊎_elim
    (λ d. subst (λ f. HasContent (stored_by (on_path t) (kind_of P t) f (width (instr P t).op) t.second.value))
    (sym d.1) (done (on_path t) (kind_of P t) d.0))
    (λ d. addr (on_path t) (kind_of P t) t.fate d.4)
    l
  where
    done : (b : Bool) (k : Kind) (v : ℕ) →
        HasContent (stored_by b k (Done v) (width (instr P t).op) t.second.value)
    done true Stores v = tt
    done true Computes v = tt
    done true Jumps v = tt
    done true Links v = tt
    done true Loads v = tt
    done false k v = tt

    addr : (b : Bool) (k : Kind) (f : Fate) → IsThere t.second.value →
        HasContent (stored_by b k f (width (instr P t).op) t.second.value)
    addr true Stores (Addr a) h = h
    addr true Stores Open h = tt
    addr true Stores (Busy c) h = tt
    addr true Stores (Done c) h = tt
    addr true Stores (Guessed c) h = tt
    addr true Stores (Miss c) h = tt
    addr true Stores (Stopped c) h = tt
    addr true Computes f h = tt
    addr true Jumps f h = tt
    addr true Links f h = tt
    addr true Loads f h = tt
    addr false k f h = tt

-- a byte after a store
pub byte_stored : (o : Option Stored) (m : List ℕ) (x : ℕ) → HasContent o → x < length m →
    byte_after o x (Some (slice_index m x)) ≡ Some (slice_index (with_stored o m) x)
byte_stored None m x h l = refl
byte_stored (Some s) m x h l = go (leb s.at x) refl (ltb x (s.at + s.width)) refl
  where
    d : ℕ
    d = h.0

    Goal : Type 0
    Goal = byte_after (Some s) x (Some (slice_index m x)) ≡ Some (slice_index (with_stored (Some s) m) x)

    if_covers : (b : Bool) → covers s x ≡ b →
        byte_after (Some s) x (Some (slice_index m x)) ≡ cond b (option_map (byte_of (x - s.at)) s.content)
        (Some (slice_index m x))
    if_covers b e = ap (λ y. cond y (option_map (byte_of (x - s.at)) s.content) (Some (slice_index m x))) e

    outside : (x < s.at) ⊎ (s.at + s.width ≤ x) → covers s x ≡ false → Goal
    outside o e = if_covers false e ∙ ap Some (sym (put_out m s.at s.width (unwrap_or s.content 0) x o))

    go : (b : Bool) → leb s.at x ≡ b → (b' : Bool) → ltb x (s.at + s.width) ≡ b' → Goal
    go true e true e' =
        let low = leb-true s.at x e in
        let high = ltb-true x (s.at + s.width) e' in
        let here : s.at + (x - s.at) ≡ x = omega arith in
        let k : x - s.at < s.width = omega arith in
        let l' : s.at + (x - s.at) < length m = omega arith in
        if_covers true (ap (λ y. y && ltb x (s.at + s.width)) e ∙ e')
        ∙ ap (option_map (byte_of (x - s.at))) h.1
        ∙ ap Some (sym (put_in m s.at s.width d (x - s.at) k l'))
        ∙ ap (λ y. Some (slice_index (store_bytes m s.at s.width d) y)) here
        ∙ ap (λ c. Some (slice_index (store_bytes m s.at s.width (unwrap_or c 0)) x)) (sym h.1)
    go true e false e' =
        outside (inr (ltb-false x (s.at + s.width) e')) (ap (λ y. y && ltb x (s.at + s.width)) e ∙ e')
    go false e b' e' = outside (inl (leb-false s.at x e)) (ap (λ y. y && ltb x (s.at + s.width)) e)

byte_ahead : (P : Program) (ts : List Tenant) → IsSound P ts → AllByRecursion IsSettled ts → (x : ℕ) →
    x < length P.bytes → byte_at P ts x ≡ Some (slice_index (ahead P ts).memory x)
byte_ahead P [] s h x l = refl
byte_ahead P (t ∷ ts) s h x l = go (settled_cases t.standing t.fate h.0) (byte_ahead P ts s.1 h.1 x l)
  where
    read : List ℕ → Option ℕ
    read u = Some (slice_index u x)

    go : (t.standing ≡ Squashed) ⊎ ((t.standing ≡ Retired) × (commits t ≡ true)) →
        byte_at P ts x ≡ read (ahead P ts).memory → byte_at P (t ∷ ts) x ≡ read (ahead P (t ∷ ts)).memory
    go (inl e) more =
        byte_if P t ts x None (squashed_stores P t e) ∙ more
        ∙ sym (ap read (ahead_memory P t ts false (squashed_not t e)))
    go (inr e) more =
        let content = content_leaves P ts t (retired_leaves P t ts s.0 e.0 e.1) in
        let l' : x < length (ahead P ts).memory = omega (arith, length_ahead P ts) in
        ap (byte_after (stored P t) x) more
        ∙ byte_stored (stored P t) (ahead P ts).memory x content l'
        ∙ sym (ap read (ahead_memory P t ts true e.1))

pub byte_given : (P : Program) (ts : List Tenant) → IsSound P ts → AllByRecursion IsSettled ts → (x : ℕ) →
    x < length P.bytes → byte_at P ts x ≡ Some (slice_index (committed P ts).memory x)
byte_given P ts s h x l =
    byte_ahead P ts s h x l ∙ ap (λ m. Some (slice_index m x)) (sym (same_rest P ts).0)

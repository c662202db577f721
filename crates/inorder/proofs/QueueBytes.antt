-- The bytes that the live stores leave, by the queue of a unit.
use Rattle.std.proofs.Common.{◌≡◌, ◌⊎◌, ℕ, zero, suc, ◌+◌, ◌<◌, ◌≤◌, Bool, true, false, ◌&&◌, List, [], ◌∷◌, ◌++◌, map, length, Option, Some, None, refl, sym, ap, ◌∙◌, subst, inl, inr, arith}
use Rattle.std.proofs.Common.{true≢false}
use Rattle.std.specs.List.{AllByRecursion}
use Rattle.std.specs.Prelude.{slice_index, slice_get, IsSome}
use Rattle.std.proofs.lemmas.List.{map-append}
use Rattle.lsq.proofs.StoresLeft.{byte_left-append}
use Rattle.instructions.specs.Instruction.{is_access, width}
use Rattle.instructions.specs.Programs.{Program}
use Rattle.instructions.specs.declared.op.Kind.{Kind}
use Rattle.instructions.specs.declared.op.Kind.TheVariants.{Computes, Jumps, Links, Loads, Stores}
use Rattle.instructions.specs.declared.op.Op.{Op}
use Rattle.instructions.specs.declared.op.Op.TheVariants.{Lb}
use Rattle.instructions.specs.declared.stop.Outcome.{Outcome}
use Rattle.instructions.specs.declared.stop.Stop.{Stop}
use Rattle.lsq.specs.declared.entry.Entry.{Entry}
use Rattle.inorder.specs.Committed.{commits, commits_by, committed}
use Rattle.inorder.specs.Loads.{access_width, address_by, content_by, entry_in, entry_of, is_store, live_accesses, queue_of, with_access}
use Rattle.inorder.specs.Machine.{State}
use Rattle.inorder.specs.Memory.{byte_after, byte_at, stored, stored_by}
use Rattle.inorder.specs.Steps.{HasAddress}
use Rattle.inorder.specs.Tenants.{Addr, Busy, Done, Fate, Guessed, Live, Miss, Open, Retired, Squashed, Standing, Stopped, Tenant, computed, instr, is_live_access, kind_of, on_path, stands_live}
use Rattle.inorder.specs.Tenants.{stands_on_path}
use Rattle.lsq.specs.Bytes.{joined, little_endian_if_there}
use Rattle.lsq.specs.Entries.{bytes}
use Rattle.lsq.specs.LastStores.{byte_by, byte_left}
use Rattle.inorder.proofs.SettledMemory.{byte_given}
use Rattle.inorder.proofs.SettledRegisters.{byte_if, committed_if, retired_on, squashed_not, squashed_stores}
use Rattle.inorder.proofs.Commits.{not_complete}
use Rattle.inorder.proofs.Sound.{IsSettled, IsSound, SettledBy}

-- Lists

pub get_end : {X : Type 0} → (xs : List X) (y : X) (more : List X) →
    slice_get ((xs ++ y ∷ []) ++ more) (length xs) ≡ Some y
get_end [] y more = refl
get_end (x ∷ xs) y more = get_end xs y more

pub get_front : {X : Type 0} → (xs more : List X) (k : ℕ) (z : X) → slice_get xs k ≡ Some z →
    slice_get (xs ++ more) k ≡ Some z
get_front [] more k z e = absurd (cc)
get_front (x ∷ xs) more zero z e = e
get_front (x ∷ xs) more (suc k) z e = get_front xs more k z e

pub get_last : {X : Type 0} → (xs : List X) (y z : X) (k : ℕ) → slice_get (xs ++ y ∷ []) k ≡ Some z →
    (slice_get xs k ≡ Some z) ⊎ (y ≡ z)
get_last [] y z zero e = inr (cc)
get_last [] y z (suc k) e = absurd (cc)
get_last (x ∷ xs) y z zero e = inl e
get_last (x ∷ xs) y z (suc k) e = get_last xs y z k e

pub all_append : {X : Type 0} → (Q : X → Type 0) (xs ys : List X) → AllByRecursion Q (xs ++ ys) →
    AllByRecursion Q xs × AllByRecursion Q ys
all_append Q [] ys h = (tt, h)
all_append Q (x ∷ xs) ys h = let r = all_append Q xs ys h.1 in ((h.0, r.0), r.1)

-- Widths

pub same_width : (op : Op) → bytes (access_width op) ≡ width op
same_width Lb = refl
same_width op = refl

-- A live store is known by its entry

pub store_is : (k : Kind) → is_store k ≡ true → k ≡ Stores
store_is Stores e = refl
store_is Computes e = absurd (true≢false (sym e))
store_is Jumps e = absurd (true≢false (sym e))
store_is Links e = absurd (true≢false (sym e))
store_is Loads e = absurd (true≢false (sym e))

pub store_accesses : (k : Kind) → k ≡ Stores → is_access k ≡ true
store_accesses k e = ap is_access e

pub addressed : (f : Fate) (o : Outcome) → IsSome (address_by Stores f o) → (a : ℕ) × (f ≡ Addr a)
addressed (Addr a) o h = (a, refl)
addressed Open o h = absurd (true≢false (sym h))
addressed (Busy c) o h = absurd (true≢false (sym h))
addressed (Done c) o h = absurd (true≢false (sym h))
addressed (Guessed c) o h = absurd (true≢false (sym h))
addressed (Miss c) o h = absurd (true≢false (sym h))
addressed (Stopped c) o h = absurd (true≢false (sym h))

-- with the queue's addresses, each live store has its own
pub known : (P : Program) (ts : List Tenant) →
    AllByRecursion Rattle.lsq.specs.LastStores.EntryHasAddress (queue_of P ts) → AllByRecursion (HasAddress P) ts
known P [] h = tt
known P (t ∷ ts) h =
    let parts_of = all_append Rattle.lsq.specs.LastStores.EntryHasAddress (queue_of P ts) (map entry_in
    (own (is_live_access P t))) (subst (AllByRecursion Rattle.lsq.specs.LastStores.EntryHasAddress)
    (map-append entry_in (live_accesses P ts) (own (is_live_access P t))) h) in
    (here parts_of.1, known P ts parts_of.0)
  where
    own : Bool → List (ℕ × Entry)
    own b = with_access b (length ts, entry_of P t)

    here : AllByRecursion Rattle.lsq.specs.LastStores.EntryHasAddress (map entry_in (own (is_live_access P t))) →
        HasAddress P t
    here q live k =
        let on : is_live_access P t ≡ true = ap (λ b. b && is_access (kind_of P t)) (ap stands_live live)
        ∙ store_accesses (kind_of P t) k in
        let e = subst (λ b. AllByRecursion Rattle.lsq.specs.LastStores.EntryHasAddress
        (map entry_in (own b))) on q in
        let some = e.0 (ap is_store k) in
        addressed t.fate (computed P t) (subst (λ x. IsSome (address_by x t.fate (computed P t))) k some)

-- Bytes

-- what a live tenant leaves of a byte
pub left_by : (k : Kind) (f : Fate) (o : Outcome) (v : ℕ) (d : Option ℕ) (x : ℕ) (q : Option ℕ) →
    byte_after (stored_by true k f v d) x q ≡ byte_by (is_store k) (address_by k f o) v (content_by k d) x q
left_by Stores (Addr a) o v d x q = refl
left_by Stores Open o v d x q = refl
left_by Stores (Busy c) o v d x q = refl
left_by Stores (Done c) o v d x q = refl
left_by Stores (Guessed c) o v d x q = refl
left_by Stores (Miss c) o v d x q = refl
left_by Stores (Stopped c) o v d x q = refl
left_by Computes f o v d x q = refl
left_by Jumps f o v d x q = refl
left_by Links f o v d x q = refl
left_by Loads f o v d x q = refl

-- one that is no access stores nothing
pub no_access : (k : Kind) (f : Fate) (v : ℕ) (d : Option ℕ) → is_access k ≡ false →
    stored_by true k f v d ≡ None
no_access Stores f v d e = absurd (true≢false e)
no_access Loads f v d e = refl
no_access Computes f v d e = refl
no_access Jumps f v d e = refl
no_access Links f v d e = refl

pub stop_stores : (b : Bool) (k : Kind) (c : Stop) (w : ℕ) (d : Option ℕ) → stored_by b k (Stopped c) w d ≡ None
stop_stores true Stores c w d = refl
stop_stores true Computes c w d = refl
stop_stores true Jumps c w d = refl
stop_stores true Links c w d = refl
stop_stores true Loads c w d = refl
stop_stores false k c w d = refl

-- with nobody live, nobody is in the queue
pub none_live : (P : Program) (ts : List Tenant) → AllByRecursion IsSettled ts → live_accesses P ts ≡ []
none_live P [] h = refl
none_live P (t ∷ ts) h =
    ap (λ es. es ++ with_access (is_live_access P t) (length ts, entry_of P t)) (none_live P ts h.1)
    ∙ go t.standing t.fate h.0
  where
    go : (s : Standing) (f : Fate) → SettledBy s f →
        with_access (stands_live s && is_access (kind_of P t)) (length ts, entry_of P t) ≡ []
    go Live f s = absurd s
    go Retired f s = refl
    go Squashed f s = refl

-- the queue with one more tenant
pub queue_more : (P : Program) (t : Tenant) (ts : List Tenant) (b : Bool) → is_live_access P t ≡ b →
    queue_of P (t ∷ ts) ≡ queue_of P ts ++ map entry_in (with_access b (length ts, entry_of P t))
queue_more P t ts b e =
    map-append entry_in (live_accesses P ts) (with_access (is_live_access P t) (length ts, entry_of P t))
    ∙ ap (λ c. queue_of P ts ++ map entry_in (with_access c (length ts, entry_of P t))) e

-- a byte inside the memory is what the queue leaves of the committed one
pub byte_left_live : (P : Program) (ts : List Tenant) → IsSound P ts → (x : ℕ) → x < length P.bytes →
    byte_at P ts x ≡ byte_left (queue_of P ts) x (Some (slice_index (committed P ts).memory x))
byte_left_live P [] s x l = refl
byte_left_live P (t ∷ ts) s x l = go t.standing refl (byte_left_live P ts s.1 x l)
  where
    read : State → Option ℕ
    read u = Some (slice_index u.memory x)

    Goal : Type 0
    Goal = byte_at P (t ∷ ts) x ≡ byte_left (queue_of P (t ∷ ts)) x (read (committed P (t ∷ ts)))

    -- nothing of it in the queue, and nothing stored
    off : commits t ≡ false → stored P t ≡ None → is_live_access P t ≡ false →
        byte_at P ts x ≡ byte_left (queue_of P ts) x (read (committed P ts)) → Goal
    off c st q more =
        byte_if P t ts x None st
        ∙ more
        ∙ ap (byte_left (queue_of P ts) x) (ap read (sym (committed_if P t ts false (not_complete P t c))))
        ∙ sym (ap (λ es. byte_left es x (read (committed P (t ∷ ts)))) (queue_more P t ts false q)
        ∙ byte_left-append (queue_of P ts) [] x _)

    live : t.standing ≡ Live → byte_at P ts x ≡ byte_left (queue_of P ts) x (read (committed P ts)) → Goal
    live e more = by_access (is_access (kind_of P t)) refl
      where
        not : commits t ≡ false
        not = ap (λ y. commits_by y t.fate) e

        on : stored P t ≡ stored_by true (kind_of P t) t.fate (width (instr P t).op) t.second.value
        on = ap (λ y. stored_by (stands_on_path y) (kind_of P t) t.fate (width (instr P t).op) t.second.value) e

        by_access : (b : Bool) → is_access (kind_of P t) ≡ b → Goal
        by_access true a =
            let q : is_live_access P t ≡ true = ap (λ y. stands_live y && is_access (kind_of P t)) e ∙ a in
            byte_if P t ts x _ on
            ∙ left_by (kind_of P t) t.fate (computed P t) (width (instr P t).op) t.second.value x
            (byte_at P ts x)
            ∙ ap (λ v. byte_by (is_store (kind_of P t)) (address_by (kind_of P t) t.fate (computed P t)) v
            (content_by (kind_of P t) t.second.value) x (byte_at P ts x)) (sym (same_width (instr P t).op))
            ∙ ap (λ y. Rattle.lsq.specs.LastStores.byte_by_entry (entry_of P t) x y) (more
            ∙ ap (byte_left (queue_of P ts) x) (ap read (sym (committed_if P t ts false (not_complete P t not)))))
            ∙ sym (ap (λ es. byte_left es x (read (committed P (t ∷ ts)))) (queue_more P t ts true q)
            ∙ byte_left-append (queue_of P ts) (entry_of P t ∷ []) x _)
        by_access false a =
            off not (on ∙ no_access (kind_of P t) t.fate (width (instr P t).op) t.second.value a) (ap
            (λ y. stands_live y && is_access (kind_of P t)) e ∙ a) more

    -- one that has retired, and so has everybody before it
    settled_one : t.standing ≡ Retired → (f : Fate) → t.fate ≡ f → SettledBy Retired f →
        AllByRecursion IsSettled ts → Goal
    settled_one e f ef h tail =
        let all : AllByRecursion IsSettled (t ∷ ts) = (
          subst (λ st. SettledBy st t.fate) (sym e)
              (subst (SettledBy Retired) (sym ef) h),
          tail,
        ) in
        byte_given P (t ∷ ts) s all x l
        ∙ sym (ap (λ es. byte_left (map entry_in es) x (read (committed P (t ∷ ts))))
        (none_live P (t ∷ ts) all))

    go : (st : Standing) → t.standing ≡ st →
        byte_at P ts x ≡ byte_left (queue_of P ts) x (read (committed P ts)) → Goal
    go Live e more = live e more
    go Squashed e more =
        off (squashed_not t e) (squashed_stores P t e) (ap
        (λ y. stands_live y && is_access (kind_of P t)) e) more
    go Retired e more = by_fate t.fate refl
      where
        tail : AllByRecursion IsSettled ts
        tail = (s.0.placed (retired_on t e)).settled e

        by_fate : (f : Fate) → t.fate ≡ f → Goal
        by_fate Open ef = settled_one e Open ef tt tail
        by_fate (Busy c) ef = settled_one e (Busy c) ef tt tail
        by_fate (Addr c) ef = settled_one e (Addr c) ef tt tail
        by_fate (Done c) ef = settled_one e (Done c) ef tt tail
        by_fate (Guessed c) ef = settled_one e (Guessed c) ef tt tail
        by_fate (Miss c) ef = settled_one e (Miss c) ef tt tail
        by_fate (Stopped c) ef =
            off (ap (λ y. commits_by y t.fate) e ∙ ap (commits_by Retired) ef)
            (ap (λ f. stored_by (on_path t) (kind_of P t) f (width (instr P t).op) t.second.value) ef
            ∙ stop_stores (on_path t) (kind_of P t) c (width (instr P t).op) t.second.value)
            (ap (λ y. stands_live y && is_access (kind_of P t)) e)
            more

-- the same bytes are the same number
pub same_number : (g h : ℕ → Option ℕ) (a w : ℕ) → ((x : ℕ) → a ≤ x → x < a + w → g x ≡ h x) →
    little_endian_if_there g a w ≡ little_endian_if_there h a w
same_number g h a zero e = refl
same_number g h a (suc w) e =
    let here = e a (omega arith) (omega arith) in
    let rest = same_number g h (a + 1) w (λ x l m. e x (omega arith) (omega arith)) in
    ap (λ b. joined b (little_endian_if_there g (a + 1) w)) here ∙ ap (joined (h a)) rest

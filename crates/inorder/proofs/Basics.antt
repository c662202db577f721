-- Positions, bytes and registers.
use Rattle.std.proofs.Common.{◌≡◌, ◌≢◌, ◌⊎◌, ℕ, zero, suc, ◌+◌, ◌-◌, ◌*◌, ◌/◌, ◌%◌, ◌<◌, ◌≤◌, Bool, true, false, cond, ◌&&◌, eqb, List, [], ◌∷◌, ◌++◌, length, set, Option, Some, None, refl, sym, ap}
use Rattle.std.proofs.Common.{◌∙◌, inl, inr, ⊎_elim, arith, length-set, get_or-set_other, get_or-set_same, eq-eqb, ne_eqb}
use Rattle.std.specs.Prelude.{slice_index}
use Rattle.std.proofs.lemmas.Option.{slice_get-get_or}
use Rattle.instructions.specs.Programs.{Program, address, instr_at, instr_of}
use Rattle.inorder.specs.Machine.{store_bytes, write}
use Rattle.inorder.specs.Tenants.{Tenant, destination_of, on_path}
use Rattle.inorder.specs.Unit.{at, last_writer, older, replaced, value_of, younger}
use Rattle.lsq.specs.Bytes.{byte_of, joined, little_endian, little_endian_if_there}

pub eqb_self : (n : ℕ) → eqb n n ≡ true
eqb_self n = eq-eqb n n refl

pub eqb_less : (p n : ℕ) → p < n → eqb p n ≡ false
eqb_less p n h = let ne : p ≢ n = omega arith in ne_eqb p n ne

-- Positions

pub split_at : (U : List Tenant) (p : ℕ) (t : Tenant) → at U p ≡ Some t → U ≡ younger U p ++ t ∷ older U p
split_at [] p t h = absurd (cc)
split_at (u ∷ us) p t h = go (eqb p (length us)) refl (split_at us p t)
  where
    go : (b : Bool) → eqb p (length us) ≡ b → (at us p ≡ Some t → us ≡ younger us p ++ t ∷ older us p) →
        u ∷ us ≡ younger (u ∷ us) p ++ t ∷ older (u ∷ us) p
    go true e more = let same : u ≡ t = cc (rw e at h) in rw e (ap (λ x. x ∷ us) same)
    go false e more = rw e (ap (λ xs. u ∷ xs) (more (rw e at h)))

pub replaced_split : (U : List Tenant) (p : ℕ) (t u : Tenant) → at U p ≡ Some t →
    replaced U p u ≡ younger U p ++ u ∷ older U p
replaced_split [] p t u h = absurd (cc)
replaced_split (x ∷ us) p t u h = go (eqb p (length us)) refl (replaced_split us p t u)
  where
    go : (b : Bool) → eqb p (length us) ≡ b →
        (at us p ≡ Some t → replaced us p u ≡ younger us p ++ u ∷ older us p) →
        replaced (x ∷ us) p u ≡ younger (x ∷ us) p ++ u ∷ older (x ∷ us) p
    go true e more = rw e refl
    go false e more = rw e (ap (λ xs. x ∷ xs) (more (rw e at h)))

-- a position below a length
abbrev pub Below : Option ℕ → ℕ → Type 0
Below None n = Unit {0}
Below (Some p) n = p < n

pub below_more' : (c : Option ℕ) (n : ℕ) → Below c n → Below c (suc n)
below_more' None n h = tt
below_more' (Some p) n h = omega arith

pub value_of_more : (t : Tenant) (ts : List Tenant) (c : Option ℕ) → Below c (length ts) →
    value_of (t ∷ ts) c ≡ value_of ts c
value_of_more t ts None h = refl
value_of_more t ts (Some p) h = let e = eqb_less p (length ts) h in rw e refl

pub last_writer_below : (P : Program) (ts : List Tenant) (r : ℕ) → Below (last_writer P ts r) (length ts)
last_writer_below P [] r = tt
last_writer_below P (t ∷ ts) r = go (on_path t && eqb (destination_of P t) r) (last_writer_below P ts r)
  where
    go : (b : Bool) → Below (last_writer P ts r) (length ts) →
        Below (cond b (Some (length ts)) (last_writer P ts r)) (suc (length ts))
    go true h = omega arith
    go false h = below_more' (last_writer P ts r) (length ts) h

-- Registers

pub length_write : (xs : List ℕ) (r v : ℕ) → length (write xs r v) ≡ length xs
length_write xs zero v = refl
length_write xs (suc r) v = length-set xs (suc r) v

pub read_same : (xs : List ℕ) (r v : ℕ) → suc r < length xs → slice_index (write xs (suc r) v) (suc r) ≡ v
read_same xs r v h = get_or-set_same xs (suc r) v 0 h

pub read_other : (xs : List ℕ) (q r v : ℕ) → q ≢ suc r →
    slice_index (write xs q v) (suc r) ≡ slice_index xs (suc r)
read_other xs zero r v h = refl
read_other xs (suc q) r v h =
    let ne : suc r ≢ suc q = λ e. h (sym e) in get_or-set_other xs (suc q) (suc r) v 0 ne

pub read_zero : (xs : List ℕ) (q v : ℕ) → slice_index xs 0 ≡ 0 → slice_index (write xs q v) 0 ≡ 0
read_zero xs zero v h = h
read_zero xs (suc q) v h = let ne : 0 ≢ suc q = omega arith in get_or-set_other xs (suc q) 0 v 0 ne ∙ h

-- Memory

pub length_put : (m : List ℕ) (a w v : ℕ) → length (store_bytes m a w v) ≡ length m
length_put m a zero v = refl
length_put m a (suc w) v = length_put (set m a (v % 256)) (a + 1) w (v / 256) ∙ length-set m a (v % 256)

pub put_out : (m : List ℕ) (a w v x : ℕ) → (x < a) ⊎ (a + w ≤ x) →
    slice_index (store_bytes m a w v) x ≡ slice_index m x
put_out m a zero v x h = refl
put_out m a (suc w) v x h =
    let out : (x < a + 1) ⊎ (a + 1 + w ≤ x) = ⊎_elim (λ l. inl (omega arith)) (λ l. inr (omega arith)) h in
    let ne : x ≢ a = ⊎_elim (λ l. omega arith) (λ l. omega arith) h in
    put_out (set m a (v % 256)) (a + 1) w (v / 256) x out ∙ get_or-set_other m a x (v % 256) 0 ne

pub put_in : (m : List ℕ) (a w v k : ℕ) → k < w → a + k < length m →
    slice_index (store_bytes m a w v) (a + k) ≡ byte_of k v
put_in m a zero v k h l = absurd (omega arith)
put_in m a (suc w) v zero h l =
    let here : a + 0 ≡ a = omega arith in
    let low : (a < a + 1) ⊎ (a + 1 + w ≤ a) = inl (omega arith) in
    let lt : a < length m = omega arith in
    ap (slice_index (store_bytes m a (suc w) v)) here ∙ put_out (set m a (v % 256)) (a + 1) w (v / 256) a low
    ∙ get_or-set_same m a (v % 256) 0 lt
put_in m a (suc w) v (suc k) h l =
    let here : a + suc k ≡ a + 1 + k = omega arith in
    let lk : k < w = omega arith in
    let lt : a + 1 + k < length (set m a (v % 256)) = omega (arith, length-set m a (v % 256)) in
    ap (slice_index (store_bytes m a (suc w) v)) here ∙ put_in (set m a (v % 256)) (a + 1) w (v / 256) k lk lt

-- bytes that are all there make the number
pub number_there : (g : ℕ → Option ℕ) (f : ℕ → ℕ) (a w : ℕ) →
    ((x : ℕ) → a ≤ x → x < a + w → g x ≡ Some (f x)) → little_endian_if_there g a w ≡ Some (little_endian f a w)
number_there g f a zero h = refl
number_there g f a (suc w) h =
    let here = h a (omega arith) (omega arith) in
    let rest = number_there g f (a + 1) w (λ x l m. h x (omega arith) (omega arith)) in
    rw (here, rest) refl

-- bytes that stay keep the number
pub number_stays : (g g' : ℕ → Option ℕ) (a w n : ℕ) → ((x b : ℕ) → g x ≡ Some b → g' x ≡ Some b) →
    little_endian_if_there g a w ≡ Some n → little_endian_if_there g' a w ≡ Some n
number_stays g g' a zero n h e = e
number_stays g g' a (suc w) n h e =
    go (g a) (little_endian_if_there g (a + 1) w) refl refl (λ m. number_stays g g' (a + 1) w m h)
  where
    go : (o q : Option ℕ) → g a ≡ o → little_endian_if_there g (a + 1) w ≡ q →
        ((m : ℕ) → little_endian_if_there g (a + 1) w ≡ Some m →
        little_endian_if_there g' (a + 1) w ≡ Some m) → little_endian_if_there g' a (suc w) ≡ Some n
    go None q x y more = let no : joined None q ≡ Some n = rw x at e in absurd (cc)
    go (Some b) None x y more = let no : joined (Some b) None ≡ Some n = rw (x, y) at e in absurd (cc)
    go (Some b) (Some m) x y more =
        let yes : Some (b + 256 * m) ≡ Some n = rw (x, y) at e in
        let here = h a b x in
        let rest = more m y in
        rw (here, rest) yes

-- Fetching

pub fetched_at : (P : Program) (k : ℕ) → k < length P.code → instr_at P (address k) ≡ Some (instr_of P k)
unfolding instr_at
fetched_at P k h =
    let e : (0x00400000 + 4 * k - 0x00400000) / 4 ≡ k = omega arith in
    rw e (rw (eqb_self (address k)) (slice_get-get_or P.code k _ h))

-- A unit stays sound where one of its tenants grows.
use Rattle.std.proofs.Common.{◌≡◌, ℕ, suc, ◌-◌, Bool, true, false, cond, ◌&&◌, eqb, List, [], ◌∷◌, ◌++◌, length, Option, Some, None, refl, sym, ap, ◌∙◌, subst, true≢false}
use Rattle.std.specs.List.{AllByRecursion}
use Rattle.std.specs.Prelude.{option_map}
use Rattle.instructions.specs.Instruction.{destination, first_of, is_first_half, second_of, width}
use Rattle.instructions.specs.Programs.{Program, instr_of}
use Rattle.instructions.specs.declared.instr.Instr.{Instr}
use Rattle.instructions.specs.declared.op.Kind.{Kind}
use Rattle.instructions.specs.declared.op.Kind.TheVariants.{Computes, Jumps, Links, Loads, Stores}
use Rattle.instructions.specs.declared.stop.Outcome.{Outcome}
use Rattle.inorder.specs.Memory.{Stored, byte_after, byte_at, covers, lacks_address, lacks_address_by, raw_at, stored, sure_byte_at, sure_raw_at}
use Rattle.inorder.specs.Steps.{HasAddress}
use Rattle.inorder.specs.Tenants.{Addr, Busy, Done, Fate, Guessed, IsNotLive, Live, Miss, Open, Retired, Squashed, Standing, Stopped, Tenant, destination_of, instr, is_first, kind_of, on_path, stands_on_path}
use Rattle.inorder.specs.Unit.{at, can_be_written, creator, front_half, front_pc, half_after, last_writer, value_made, value_of}
use Rattle.lsq.specs.Bytes.{byte_of}
use Rattle.inorder.proofs.Basics.{number_stays}
use Rattle.inorder.proofs.Sound.{HasRead, HasSureRead, IsInPlace, IsOwn, IsSettled, IsSound, IsSoundAt, LoadIs, SettledBy}

-- a store stays, and may get its data
abbrev pub StoredGrows : Option Stored → Option Stored → Type 0
StoredGrows None None = Unit {0}
StoredGrows (Some s) (Some s') =
    (s'.at ≡ s.at) × (s'.width ≡ s.width) × ((d : ℕ) → s.content ≡ Some d → s'.content ≡ Some d)
StoredGrows _ _ = ⊥

abbrev pub MadeGrows : Tenant → Tenant → Type 0
MadeGrows t t' = (v : ℕ) → t.made ≡ Some v → t'.made ≡ Some v

-- what the tenants after it rest on
pub record Grows (P : Program) (t t' : Tenant) : Type 0 where
  pub index : t'.index ≡ t.index
  pub half : t'.half ≡ t.half
  pub next : t'.next ≡ t.next
  pub path : on_path t' ≡ on_path t
  pub made : MadeGrows t t'
  pub address : HasAddress P t → HasAddress P t'
  pub stores : HasAddress P t → StoredGrows (stored P t) (stored P t')
  pub settled : IsSettled t → IsSettled t'

-- Lists with one tenant changed

pub all_grows : (Q : Tenant → Type 0) (t t' : Tenant) (ts ys : List Tenant) → (Q t → Q t') →
    AllByRecursion Q (ys ++ t ∷ ts) → AllByRecursion Q (ys ++ t' ∷ ts)
all_grows Q t t' ts [] f h = (f h.0, h.1)
all_grows Q t t' ts (y ∷ ys) f h = (h.0, all_grows Q t t' ts ys f h.1)

pub all_mid : (Q : Tenant → Type 0) (t : Tenant) (ts ys : List Tenant) → AllByRecursion Q (ys ++ t ∷ ts) → Q t
all_mid Q t ts [] h = h.0
all_mid Q t ts (y ∷ ys) h = all_mid Q t ts ys h.1

pub same_length : (t t' : Tenant) (ts ys : List Tenant) → length (ys ++ t ∷ ts) ≡ length (ys ++ t' ∷ ts)
same_length t t' ts [] = refl
same_length t t' ts (y ∷ ys) = ap suc (same_length t t' ts ys)

made_at_grows : (t t' : Tenant) (ts ys : List Tenant) → MadeGrows t t' → (p v : ℕ) →
    value_made (at (ys ++ t ∷ ts) p) ≡ Some v → value_made (at (ys ++ t' ∷ ts) p) ≡ Some v
made_at_grows t t' ts [] g p v e = go (eqb p (length ts)) e
  where
    go : (b : Bool) → value_made (cond b (Some t) (at ts p)) ≡ Some v →
        value_made (cond b (Some t') (at ts p)) ≡ Some v
    go true h = g v h
    go false h = h
made_at_grows t t' ts (y ∷ ys) g p v e =
    go (eqb p (length (ys ++ t' ∷ ts))) (made_at_grows t t' ts ys g p v) (subst
    (λ n. value_made (cond (eqb p n) (Some y) (at (ys ++ t ∷ ts) p)) ≡ Some v) (same_length t t' ts ys) e)
  where
    go : (b : Bool) → (value_made (at (ys ++ t ∷ ts) p) ≡ Some v → value_made (at (ys ++ t' ∷ ts) p) ≡ Some v) →
        value_made (cond b (Some y) (at (ys ++ t ∷ ts) p)) ≡ Some v →
        value_made (cond b (Some y) (at (ys ++ t' ∷ ts) p)) ≡ Some v
    go true more h = h
    go false more h = more h

pub value_of_grows : (t t' : Tenant) (ts ys : List Tenant) → MadeGrows t t' → (c : Option ℕ) (v : ℕ) →
    value_of (ys ++ t ∷ ts) c ≡ Some v → value_of (ys ++ t' ∷ ts) c ≡ Some v
value_of_grows t t' ts ys g None v e = e
value_of_grows t t' ts ys g (Some p) v e = made_at_grows t t' ts ys g p v e

writer_grows : (P : Program) (t t' : Tenant) (ts ys : List Tenant) (r : ℕ) → t'.index ≡ t.index →
    t'.half ≡ t.half → on_path t' ≡ on_path t → last_writer P (ys ++ t' ∷ ts) r ≡ last_writer P (ys ++ t ∷ ts) r
writer_grows P t t' ts [] r e h f =
    ap (λ b. cond (b && eqb (destination (instr P t') t'.half) r) (Some (length ts)) (last_writer P ts r)) f
    ∙ ap (λ k. cond (on_path t && eqb (destination (instr_of P k) t'.half) r) (Some (length ts)) (last_writer P ts r)) e
    ∙ ap (λ k. cond (on_path t && eqb (destination (instr P t) k) r) (Some (length ts)) (last_writer P ts r)) h
writer_grows P t t' ts (y ∷ ys) r e h f =
    ap (λ n. cond (on_path y && eqb (destination_of P y) r) (Some n) (last_writer P (ys ++ t' ∷ ts) r))
    (sym (same_length t t' ts ys))
    ∙ ap (cond (on_path y && eqb (destination_of P y) r) (Some (length (ys ++ t ∷ ts))))
    (writer_grows P t t' ts ys r e h f)

pub creator_grows : (P : Program) (t t' : Tenant) (ts ys : List Tenant) (r : ℕ) → t'.index ≡ t.index →
    t'.half ≡ t.half → on_path t' ≡ on_path t → creator P (ys ++ t' ∷ ts) r ≡ creator P (ys ++ t ∷ ts) r
creator_grows P t t' ts ys r e h f = ap (λ c. cond (can_be_written r) c None) (writer_grows P t t' ts ys r e h f)

pub half_grows : (P : Program) (t t' : Tenant) (ts ys : List Tenant) → t'.index ≡ t.index → t'.half ≡ t.half →
    on_path t' ≡ on_path t → front_half P (ys ++ t' ∷ ts) ≡ front_half P (ys ++ t ∷ ts)
half_grows P t t' ts [] e h f =
    ap (λ b. cond b (half_after (is_first P t')) (front_half P ts)) f
    ∙ ap (λ k. cond (on_path t) (half_after (is_first_half (instr_of P k).op t'.half)) (front_half P ts)) e
    ∙ ap (λ k. cond (on_path t) (half_after (is_first_half (instr P t).op k)) (front_half P ts)) h
half_grows P t t' ts (y ∷ ys) e h f = ap (cond (on_path y) (half_after (is_first P y))) (half_grows P t t' ts ys e h f)

pub front_grows : (t t' : Tenant) (ts ys : List Tenant) → t'.next ≡ t.next → on_path t' ≡ on_path t →
    front_pc (ys ++ t' ∷ ts) ≡ front_pc (ys ++ t ∷ ts)
front_grows t t' ts [] e f =
    ap (λ b. cond b t'.next (front_pc ts)) f ∙ ap (λ n. cond (on_path t) n (front_pc ts)) e
front_grows t t' ts (y ∷ ys) e f = ap (cond (on_path y) y.next) (front_grows t t' ts ys e f)

-- bytes
byte_over : (o : Option Stored) (x b : ℕ) (q q' : Option ℕ) → (q ≡ Some b → q' ≡ Some b) →
    byte_after o x q ≡ Some b → byte_after o x q' ≡ Some b
byte_over None x b q q' f h = f h
byte_over (Some s) x b q q' f h = go (covers s x) h
  where
    go : (y : Bool) → cond y (option_map (byte_of (x - s.at)) s.content) q ≡ Some b →
        cond y (option_map (byte_of (x - s.at)) s.content) q' ≡ Some b
    go true e = e
    go false e = f e

mapped_grows : (f : ℕ → ℕ) (c c' : Option ℕ) (b : ℕ) → ((d : ℕ) → c ≡ Some d → c' ≡ Some d) →
    option_map f c ≡ Some b → option_map f c' ≡ Some b
mapped_grows f None c' b g h = absurd (cc)
mapped_grows f (Some d) c' b g h = ap (option_map f) (g d refl) ∙ h

byte_under : (o o' : Option Stored) (x b : ℕ) (q : Option ℕ) → StoredGrows o o' → byte_after o x q ≡ Some b →
    byte_after o' x q ≡ Some b
byte_under None None x b q g h = h
byte_under None (Some s') x b q g h = absurd g
byte_under (Some s) None x b q g h = absurd g
byte_under (Some s) (Some s') x b q g h =
    ap (λ y. cond y (option_map (byte_of (x - s'.at)) s'.content) q) same_covers
    ∙ ap (λ n. cond (covers s x) (option_map (byte_of (x - n)) s'.content) q) g.0
    ∙ go (covers s x) h
  where
    same_covers : covers s' x ≡ covers s x
    same_covers =
        ap (λ n. covers (record { at = n; width = s'.width; content = s'.content }) x) g.0
        ∙ ap (λ n. covers (record { at = s.at; width = n; content = s'.content }) x) g.1

    go : (y : Bool) → cond y (option_map (byte_of (x - s.at)) s.content) q ≡ Some b →
        cond y (option_map (byte_of (x - s.at)) s'.content) q ≡ Some b
    go true e = mapped_grows (byte_of (x - s.at)) s.content s'.content b g.2 e
    go false e = e

byte_grows : (P : Program) (t t' : Tenant) (ts ys : List Tenant) (x b : ℕ) →
    StoredGrows (stored P t) (stored P t') → byte_at P (ys ++ t ∷ ts) x ≡ Some b →
    byte_at P (ys ++ t' ∷ ts) x ≡ Some b
byte_grows P t t' ts [] x b g h = byte_under (stored P t) (stored P t') x b (byte_at P ts x) g h
byte_grows P t t' ts (y ∷ ys) x b g h =
    byte_over (stored P y) x b (byte_at P (ys ++ t ∷ ts) x) (byte_at P (ys ++ t' ∷ ts) x)
    (byte_grows P t t' ts ys x b g) h

-- bytes that no store can still change

not_lacking : (P : Program) (t : Tenant) → HasAddress P t → lacks_address P t ≡ false
not_lacking P t h = go t.standing (kind_of P t) t.fate refl refl refl
  where
    go : (st : Standing) (k : Kind) (f : Fate) → t.standing ≡ st → kind_of P t ≡ k → t.fate ≡ f → lacks_address_by st k f ≡ false
    go Live Stores (Addr a) e ek ef = refl
    go Live Stores Open e ek ef = let x = (h e ek).1 in absurd (cc)
    go Live Stores (Busy c) e ek ef = let x = (h e ek).1 in absurd (cc)
    go Live Stores (Done c) e ek ef = let x = (h e ek).1 in absurd (cc)
    go Live Stores (Miss c) e ek ef = let x = (h e ek).1 in absurd (cc)
    go Live Stores (Stopped c) e ek ef = let x = (h e ek).1 in absurd (cc)
    go Live Stores (Guessed c) e ek ef = let x = (h e ek).1 in absurd (cc)
    go Live Computes f e ek ef = refl
    go Live Jumps f e ek ef = refl
    go Live Links f e ek ef = refl
    go Live Loads f e ek ef = refl
    go Retired k f e ek ef = refl
    go Squashed k f e ek ef = refl

has_from : (P : Program) (t : Tenant) → lacks_address P t ≡ false → HasAddress P t
has_from P t l live store = go t.fate refl (sym (λ i. lacks_address_by (live i) (store i) t.fate) ∙ l)
  where
    go : (f : Fate) → t.fate ≡ f → lacks_address_by Live Stores f ≡ false → (a : ℕ) × (t.fate ≡ Addr a)
    go (Addr a) e h = (a, e)
    go Open e h = absurd (true≢false h)
    go (Busy c) e h = absurd (true≢false h)
    go (Done c) e h = absurd (true≢false h)
    go (Miss c) e h = absurd (true≢false h)
    go (Stopped c) e h = absurd (true≢false h)
    go (Guessed c) e h = absurd (true≢false h)

-- where each older live store has its address, none can still change it
sure_known : (P : Program) (ts : List Tenant) (x b : ℕ) → AllByRecursion (HasAddress P) ts → byte_at P ts x ≡ Some b →
    sure_byte_at P ts x ≡ Some b
sure_known P [] x b k h = h
sure_known P (t ∷ ts) x b k h =
    ap (λ l. cond l None (byte_after (stored P t) x (sure_byte_at P ts x))) (not_lacking P t k.0)
    ∙ byte_over (stored P t) x b (byte_at P ts x) (sure_byte_at P ts x) (sure_known P ts x b k.1) h

pub sure_raw : (P : Program) (ts : List Tenant) (i : Instr) (a n : ℕ) → AllByRecursion (HasAddress P) ts →
    raw_at P ts i a ≡ Some n → sure_raw_at P ts i a ≡ Some n
sure_raw P ts i a n k h =
    number_stays (byte_at P ts) (sure_byte_at P ts) a (width i.op) n (λ x b. sure_known P ts x b k) h

sure_is : (P : Program) (ts : List Tenant) (x b : ℕ) → sure_byte_at P ts x ≡ Some b → byte_at P ts x ≡ Some b
sure_is P [] x b h = h
sure_is P (t ∷ ts) x b h = go (lacks_address P t) (sure_is P ts x b) h
  where
    go : (l : Bool) → (sure_byte_at P ts x ≡ Some b → byte_at P ts x ≡ Some b) →
        cond l None (byte_after (stored P t) x (sure_byte_at P ts x)) ≡ Some b →
        byte_after (stored P t) x (byte_at P ts x) ≡ Some b
    go true more e = absurd (cc)
    go false more e = byte_over (stored P t) x b (sure_byte_at P ts x) (byte_at P ts x) more e

-- they are the bytes that the older stores leave
pub raw_sure : (P : Program) (ts : List Tenant) (i : Instr) (a n : ℕ) → sure_raw_at P ts i a ≡ Some n →
    raw_at P ts i a ≡ Some n
raw_sure P ts i a n h =
    number_stays (sure_byte_at P ts) (byte_at P ts) a (width i.op) n (λ x b. sure_is P ts x b) h

-- and they stay
sure_grows : (P : Program) (t t' : Tenant) (ts ys : List Tenant) (x b : ℕ) → Grows P t t' →
    sure_byte_at P (ys ++ t ∷ ts) x ≡ Some b → sure_byte_at P (ys ++ t' ∷ ts) x ≡ Some b
sure_grows P t t' ts [] x b g h = go (lacks_address P t) refl h
  where
    go : (l : Bool) → lacks_address P t ≡ l → cond l None (byte_after (stored P t) x (sure_byte_at P ts x)) ≡ Some b →
        sure_byte_at P (t' ∷ ts) x ≡ Some b
    go true q e = absurd (cc)
    go false q e =
        let has = has_from P t q in
        ap (λ l. cond l None (byte_after (stored P t') x (sure_byte_at P ts x))) (not_lacking P t' (g.address has))
        ∙ byte_under (stored P t) (stored P t') x b (sure_byte_at P ts x) (g.stores has) e
sure_grows P t t' ts (y ∷ ys) x b g h = go (lacks_address P y) (sure_grows P t t' ts ys x b g) h
  where
    go : (l : Bool) → (sure_byte_at P (ys ++ t ∷ ts) x ≡ Some b → sure_byte_at P (ys ++ t' ∷ ts) x ≡ Some b) →
        cond l None (byte_after (stored P y) x (sure_byte_at P (ys ++ t ∷ ts) x)) ≡ Some b →
        cond l None (byte_after (stored P y) x (sure_byte_at P (ys ++ t' ∷ ts) x)) ≡ Some b
    go true more e = absurd (cc)
    go false more e =
        byte_over (stored P y) x b (sure_byte_at P (ys ++ t ∷ ts) x) (sure_byte_at P (ys ++ t' ∷ ts) x) more e

sure_read_grows : (P : Program) (t t' : Tenant) (ts ys : List Tenant) (i : Instr) (o : Outcome) (v : ℕ) →
    Grows P t t' → HasSureRead P (ys ++ t ∷ ts) i o v → HasSureRead P (ys ++ t' ∷ ts) i o v
sure_read_grows P t t' ts ys i o v g r =
    record {
      a = r.a;
      n = r.n;
      computes = r.computes;
      sure =
          number_stays (sure_byte_at P (ys ++ t ∷ ts)) (sure_byte_at P (ys ++ t' ∷ ts)) r.a (width i.op) r.n
          (λ x b. sure_grows P t t' ts ys x b g) r.sure;
      value = r.value;
    }

-- a load
pub read_grows : (P : Program) (t t' : Tenant) (ts ys : List Tenant) (i : Instr) (o : Outcome) (v : ℕ) →
    Grows P t t' → HasRead P (ys ++ t ∷ ts) i o v → HasRead P (ys ++ t' ∷ ts) i o v
read_grows P t t' ts ys i o v g r =
    let s = g.stores (all_mid (HasAddress P) t ts ys r.addresses) in
    record {
      a = r.a;
      n = r.n;
      computes = r.computes;
      raw =
          number_stays (byte_at P (ys ++ t ∷ ts)) (byte_at P (ys ++ t' ∷ ts)) r.a (width i.op) r.n
          (λ x b. byte_grows P t t' ts ys x b s) r.raw;
      value = r.value;
      addresses = all_grows (HasAddress P) t t' ts ys g.address r.addresses;
    }

load_grows : (P : Program) (t t' : Tenant) (ts ys : List Tenant) (i : Instr) (o : Outcome) (k : Kind)
    (f : Fate) → Grows P t t' → LoadIs P (ys ++ t ∷ ts) i o k f → LoadIs P (ys ++ t' ∷ ts) i o k f
load_grows P t t' ts ys i o Loads (Done v) g l = sure_read_grows P t t' ts ys i o v g l
load_grows P t t' ts ys i o Loads Open g l = tt
load_grows P t t' ts ys i o Loads (Busy c) g l = tt
load_grows P t t' ts ys i o Loads (Addr c) g l = tt
load_grows P t t' ts ys i o Loads (Guessed c) g l = tt
load_grows P t t' ts ys i o Loads (Miss c) g l = tt
load_grows P t t' ts ys i o Loads (Stopped c) g l = tt
load_grows P t t' ts ys i o Computes f g l = tt
load_grows P t t' ts ys i o Jumps f g l = tt
load_grows P t t' ts ys i o Links f g l = tt
load_grows P t t' ts ys i o Stores f g l = tt

-- a younger tenant
own_grows : (P : Program) (t t' : Tenant) (ts ys : List Tenant) (y : Tenant) → MadeGrows t t' →
    IsOwn P (ys ++ t ∷ ts) y → IsOwn P (ys ++ t' ∷ ts) y
own_grows P t t' ts ys y g o =
    record {
      first = λ v e. value_of_grows t t' ts ys g y.first.creator v (o.first v e);
      second = λ v e. value_of_grows t t' ts ys g y.second.creator v (o.second v e);
      place = o.place;
      inside = o.inside;
      goes_on = o.goes_on;
      fate = o.fate;
    }

placed_grows : (P : Program) (t t' : Tenant) (ts ys : List Tenant) (y : Tenant) → Grows P t t' →
    IsInPlace P (ys ++ t ∷ ts) y → IsInPlace P (ys ++ t' ∷ ts) y
placed_grows P t t' ts ys y g o =
    record {
      first = o.first ∙ sym (creator_grows P t t' ts ys (first_of (instr P y)) g.index g.half g.path);
      second = o.second ∙ sym (creator_grows P t t' ts ys (second_of (instr P y)) g.index g.half g.path);
      pc = o.pc ∙ sym (front_grows t t' ts ys g.next g.path);
      half = o.half ∙ sym (half_grows P t t' ts ys g.index g.half g.path);
      load = load_grows P t t' ts ys (instr P y) _ (kind_of P y) y.fate g o.load;
      settled = λ e. all_grows IsSettled t t' ts ys g.settled (o.settled e);
      can = o.can;
    }

-- a tenant grows
pub grow_sound : (P : Program) (t t' : Tenant) (ts ys : List Tenant) → Grows P t t' → IsSoundAt P ts t' →
    IsSound P (ys ++ t ∷ ts) → IsSound P (ys ++ t' ∷ ts)
grow_sound P t t' ts [] g new s = (new, s.1)
grow_sound P t t' ts (y ∷ ys) g new s = (
  record {
    own = own_grows P t t' ts ys y g.made s.0.own;
    placed = λ e. placed_grows P t t' ts ys y g (s.0.placed e);
  },
  grow_sound P t t' ts ys g new s.1,
)

-- the youngest live tenant changes, or leaves the path
pub end_sound : (P : Program) (t t' : Tenant) (ts ys : List Tenant) → MadeGrows t t' → t.standing ≡ Live →
    AllByRecursion IsNotLive ys → IsSoundAt P ts t' → IsSound P (ys ++ t ∷ ts) → IsSound P (ys ++ t' ∷ ts)
end_sound P t t' ts [] g live last new s = (new, s.1)
end_sound P t t' ts (y ∷ ys) g live last new s = (
  record { own = own_grows P t t' ts ys y g s.0.own; placed = λ e. absurd (off y.standing refl e) },
  end_sound P t t' ts ys g live last.1 new s.1,
)
  where
    off : (st : Standing) → y.standing ≡ st → on_path y ≡ true → ⊥
    off Live e on = last.0 e
    off Squashed e on = true≢false (sym on ∙ ap stands_on_path e)
    off Retired e on =
        let h = all_mid IsSettled t ts ys ((s.0.placed on).settled e) in
        subst (λ x. SettledBy x t.fate) live h

-- the tenant itself
pub sound_mid : (P : Program) (t : Tenant) (ts ys : List Tenant) → IsSound P (ys ++ t ∷ ts) → IsSoundAt P ts t
sound_mid P t ts [] s = s.0
sound_mid P t ts (y ∷ ys) s = sound_mid P t ts ys s.1

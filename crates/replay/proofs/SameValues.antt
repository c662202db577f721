-- What two sound units know that differ in their sources alone: values that both have are the same ones, and where each
-- delivery was made, all that the other one has is there.
use Rattle.std.proofs.Common.{◌≡◌, ℕ, zero, suc, ◌+◌, Bool, true, false, cond, ◌&&◌, List, [], ◌∷◌, Option, Some, None, refl, sym, ap, ◌∙◌, subst}
use Rattle.std.specs.Prelude.{nat_le, nat_lt, option_map, unwrap_or}
use Rattle.instructions.specs.Instruction.{width}
use Rattle.instructions.specs.Operations.{outcome_by, outcome_of}
use Rattle.instructions.specs.Programs.{Program}
use Rattle.instructions.specs.declared.instr.Instr.{Instr}
use Rattle.instructions.specs.declared.op.Half.{Half}
use Rattle.instructions.specs.declared.op.Kind.{Kind}
use Rattle.instructions.specs.declared.op.Kind.TheVariants.{Computes, Jumps, Links, Loads, Stores}
use Rattle.inorder.specs.declared.history.Source.{Source}
use Rattle.inorder.specs.declared.history.Source.TheVariants.{First, Second}
use Rattle.inorder.specs.Memory.{byte_after, byte_at, lacks_address, lacks_address_by, raw_at, stored, stored_by, sure_byte_at, sure_raw_at}
use Rattle.inorder.specs.Tenants.{Addr, Busy, Done, Fate, Guessed, IsThere, Miss, Open, Stopped, Tenant, computed, instr, kind_of, missing_of, on_path, operand, operand_value}
use Rattle.inorder.specs.Unit.{creator, value_of}
use Rattle.lsq.specs.Bytes.{byte_of, joined, little_endian_if_there}
use Rattle.inorder.proofs.OneCaller.Alike.{AreAlike, IsAlike, alike_value}
use Rattle.inorder.proofs.Sound.{IsSound, IsSoundAt, Needs, ValueIs}
use Rattle.replay.specs.Bytes.{byte_by, byte_more}
use Rattle.replay.specs.Lets.{source_of}
use Rattle.replay.proofs.Quiet.{AreDelivered, IsDelivered}
use Rattle.replay.proofs.SameShape.{same_creator, same_instr, same_kind, same_path}
use Rattle.replay.proofs.Sure.{by_more}

-- Relations of what two units know

-- values that both know are the same
abbrev pub Agrees : Option ℕ → Option ℕ → Type 0
Agrees a b = (v w : ℕ) → a ≡ Some v → b ≡ Some w → v ≡ w

-- what the first one knows, the second one knows
abbrev pub Grows : Option ℕ → Option ℕ → Type 0
Grows a b = (v : ℕ) → a ≡ Some v → b ≡ Some v

-- a relation that bytes and numbers of several bytes keep
pub record IsCarried (R : Option ℕ → Option ℕ → Type 0) : Type 0 where
  pub none : R None None
  pub some : (n : ℕ) → R (Some n) (Some n)
  pub mapped : (f : ℕ → ℕ) (a b : Option ℕ) → R a b → R (option_map f a) (option_map f b)
  pub both : (a b c d : Option ℕ) → R a b → R c d → R (joined a c) (joined b d)

agrees_mapped : (f : ℕ → ℕ) (a b : Option ℕ) → Agrees a b → Agrees (option_map f a) (option_map f b)
agrees_mapped f None b g v w x y = absurd (cc)
agrees_mapped f (Some n) None g v w x y = absurd (cc)
agrees_mapped f (Some n) (Some m) g v w x y =
    let is : f n ≡ v = cc in
    let also : f m ≡ w = cc in
    sym is ∙ ap f (g n m refl refl) ∙ also

agrees_both : (a b c d : Option ℕ) → Agrees a b → Agrees c d → Agrees (joined a c) (joined b d)
agrees_both None b c d g h v w x y = absurd (cc)
agrees_both (Some n) b None d g h v w x y = absurd (cc)
agrees_both (Some n) None (Some m) d g h v w x y = absurd (cc)
agrees_both (Some n) (Some k) (Some m) None g h v w x y = absurd (cc)
agrees_both (Some n) (Some k) (Some m) (Some l) g h v w x y =
    let low : n ≡ k = g n k refl refl in
    let high : m ≡ l = h m l refl refl in
    let one : joined (Some n) (Some m) ≡ joined (Some k) (Some l) = ap (λ i. joined (Some i) (Some m)) low ∙ ap (λ i. joined (Some k) (Some i)) high in
    let two : Some v ≡ Some w = sym x ∙ one ∙ y in
    cc

pub agrees : IsCarried Agrees
agrees = record {
  none = λ v w x y. absurd (cc);
  some = λ n v w x y. cc;
  mapped = agrees_mapped;
  both = agrees_both;
}

grows_mapped : (f : ℕ → ℕ) (a b : Option ℕ) → Grows a b → Grows (option_map f a) (option_map f b)
grows_mapped f None b g v x = absurd (cc)
grows_mapped f (Some n) b g v x = ap (option_map f) (g n refl) ∙ x

grows_both : (a b c d : Option ℕ) → Grows a b → Grows c d → Grows (joined a c) (joined b d)
grows_both None b c d g h v x = absurd (cc)
grows_both (Some n) b None d g h v x = absurd (cc)
grows_both (Some n) b (Some m) d g h v x = ap (λ o. joined o d) (g n refl) ∙ ap (joined (Some n)) (h m refl) ∙ x

pub grows : IsCarried Grows
grows = record {
  none = λ v x. x;
  some = λ n v x. x;
  mapped = grows_mapped;
  both = grows_both;
}

-- Sources

-- the same tenant of two units, on the path, with those before it
pub record ArePlaced (P : Program) (ts us : List Tenant) (t u : Tenant) : Type 0 where
  pub before : AreAlike ts us
  pub alike : IsAlike t u
  pub left : IsSoundAt P ts t
  pub right : IsSoundAt P us u
  pub path : on_path t ≡ true

value_is : (P : Program) (ts : List Tenant) (t : Tenant) (k : Source) → IsSoundAt P ts t → ValueIs ts (operand k t)
value_is P ts t First s = s.own.first
value_is P ts t Second s = s.own.second

made_by : (P : Program) (ts : List Tenant) (t : Tenant) (k : Source) → IsSoundAt P ts t → on_path t ≡ true →
    (operand k t).creator ≡ creator P ts (source_of k (instr P t))
made_by P ts t First s on = (s.placed on).first
made_by P ts t Second s on = (s.placed on).second

same_maker : (P : Program) (ts us : List Tenant) (t u : Tenant) (k : Source) → ArePlaced P ts us t u →
    (operand k u).creator ≡ (operand k t).creator
same_maker P ts us t u k p =
    made_by P us u k p.right (same_path t u p.alike ∙ p.path)
    ∙ same_creator P ts us (source_of k (instr P u)) p.before
    ∙ ap (λ i. creator P ts (source_of k i)) (same_instr P t u p.alike)
    ∙ sym (made_by P ts t k p.left p.path)

-- what the creator of a source has made in both
same_made : (P : Program) (ts us : List Tenant) (t u : Tenant) (k : Source) → ArePlaced P ts us t u →
    value_of us (operand k u).creator ≡ value_of ts (operand k t).creator
same_made P ts us t u k p =
    ap (value_of us) (same_maker P ts us t u k p) ∙ alike_value ts us p.before (operand k t).creator

pub source_agrees : (P : Program) (ts us : List Tenant) (t u : Tenant) (k : Source) → ArePlaced P ts us t u →
    Agrees (operand k t).value (operand k u).value
source_agrees P ts us t u k p v w x y =
    let one = value_is P ts t k p.left v x in
    let two = value_is P us u k p.right w y in
    let both : Some v ≡ Some w = sym one ∙ sym (same_made P ts us t u k p) ∙ two in
    cc

pub source_grows : (P : Program) (ts us : List Tenant) (t u : Tenant) (k : Source) → ArePlaced P ts us t u →
    IsDelivered us (operand k u) → Grows (operand k t).value (operand k u).value
source_grows P ts us t u k p due v x =
    let there = due v (same_made P ts us t u k p ∙ value_is P ts t k p.left v x) in
    there.1 ∙ ap Some (sym (source_agrees P ts us t u k p v there.0 x there.1))

-- What a claim needs

missing_first : (k : Kind) (b : Option ℕ) → missing_of k None b ≡ None → ⊥
missing_first k b e = absurd (cc)

missing_second : (k : Kind) (v : ℕ) (d : Option ℕ) → missing_of k (Some v) None ≡ None → missing_of k (Some v) d ≡ None
missing_second k v None e = e
missing_second k v (Some w) e = refl

pub missing_grows : (k : Kind) (a b c d : Option ℕ) → Grows a c → Grows b d → missing_of k a b ≡ None → missing_of k c d ≡ None
missing_grows k None b c d g h e = absurd (missing_first k b e)
missing_grows k (Some v) None c d g h e =
    subst (λ o. missing_of k o d ≡ None) (sym (g v refl)) (missing_second k v d e)
missing_grows k (Some v) (Some w) c d g h e =
    subst (λ o. missing_of k o d ≡ None) (sym (g v refl)) (ap (missing_of k (Some v)) (h w refl))

pub needed : (k : Kind) (a b : Option ℕ) → missing_of k a b ≡ None → Needs k a b
needed k None b e = absurd (cc)
needed Computes (Some v) None e = absurd (cc)
needed Jumps (Some v) None e = absurd (cc)
needed Links (Some v) None e = absurd (cc)
needed Loads (Some v) None e = absurd (cc)
needed Stores (Some v) None e = (v, refl)
needed Computes (Some v) (Some w) e = ((v, refl), (w, refl))
needed Jumps (Some v) (Some w) e = ((v, refl), (w, refl))
needed Links (Some v) (Some w) e = ((v, refl), (w, refl))
needed Loads (Some v) (Some w) e = ((v, refl), (w, refl))
needed Stores (Some v) (Some w) e = (v, refl)

-- Outcomes

same_value : (a b : Option ℕ) → IsThere a → IsThere b → Agrees a b → unwrap_or b 0 ≡ unwrap_or a 0
same_value a b x y g =
    ap (λ o. unwrap_or o 0) y.1 ∙ sym (g x.0 y.0 x.1 y.1) ∙ ap (λ o. unwrap_or o 0) (sym x.1)

both_values : (f : ℕ → ℕ → Rattle.instructions.specs.declared.stop.Outcome.Outcome) (a b c d : Option ℕ) →
    IsThere a × IsThere b → IsThere c × IsThere d → Agrees a c → Agrees b d →
    f (unwrap_or c 0) (unwrap_or d 0) ≡ f (unwrap_or a 0) (unwrap_or b 0)
both_values f a b c d x y g h =
    ap (λ n. f n (unwrap_or d 0)) (same_value a c x.0 y.0 g) ∙ ap (f (unwrap_or a 0)) (same_value b d x.1 y.1 h)

outcome_same : (k : Kind) (i : Instr) (half : Half) (pc size : ℕ) (a b c d : Option ℕ) → Needs k a b → Needs k c d →
    Agrees a c → Agrees b d →
    outcome_by k i half pc (unwrap_or c 0) (unwrap_or d 0) size ≡ outcome_by k i half pc (unwrap_or a 0) (unwrap_or b 0) size
outcome_same Computes i half pc size a b c d x y g h = both_values (λ n m. outcome_by Computes i half pc n m size) a b c d x y g h
outcome_same Jumps i half pc size a b c d x y g h = both_values (λ n m. outcome_by Jumps i half pc n m size) a b c d x y g h
outcome_same Links i half pc size a b c d x y g h = both_values (λ n m. outcome_by Links i half pc n m size) a b c d x y g h
outcome_same Loads i half pc size a b c d x y g h = both_values (λ n m. outcome_by Loads i half pc n m size) a b c d x y g h
outcome_same Stores i half pc size a b c d x y g h =
    ap (λ n. outcome_by Stores i half pc n 0 size) (same_value a c x y g)

pub same_outcome : (P : Program) (ts us : List Tenant) (t u : Tenant) → ArePlaced P ts us t u →
    Needs (kind_of P t) t.first.value t.second.value → Needs (kind_of P u) u.first.value u.second.value →
    computed P u ≡ computed P t
same_outcome P ts us t u p x y =
    let a = operand_value u.first in
    let b = operand_value u.second in
    let size = Rattle.std.proofs.Common.length P.bytes in
    ap (λ i. outcome_of i u.half u.pc a b size) (same_instr P t u p.alike)
    ∙ ap (λ h. outcome_of (instr P t) h u.pc a b size) p.alike.half
    ∙ ap (λ n. outcome_of (instr P t) t.half n a b size) p.alike.pc
    ∙ outcome_same (kind_of P t) (instr P t) t.half t.pc size t.first.value t.second.value u.first.value u.second.value x
    (subst (λ k. Needs k u.first.value u.second.value) (same_kind P t u p.alike) y)
    (source_agrees P ts us t u First p) (source_agrees P ts us t u Second p)

-- Bytes

-- the data of the stores of the path, one by one
abbrev pub AreRelated : (Option ℕ → Option ℕ → Type 0) → List Tenant → List Tenant → Type 0
AreRelated R [] us = Unit {0}
AreRelated R (t ∷ ts) [] = Unit {0}
AreRelated R (t ∷ ts) (u ∷ us) = (on_path t ≡ true → R t.second.value u.second.value) × AreRelated R ts us

covered : (R : Option ℕ → Option ℕ → Type 0) (b : Bool) (f : ℕ → ℕ) (d e x y : Option ℕ) → IsCarried R → R d e → R x y →
    R (cond b (option_map f d) x) (cond b (option_map f e) y)
covered R true f d e x y c both before = c.mapped f d e both
covered R false f d e x y c both before = before

after_store : (R : Option ℕ → Option ℕ → Type 0) (on : Bool) (k : Kind) (f : Fate) (w at : ℕ) (d e x y : Option ℕ) →
    IsCarried R → (on ≡ true → R d e) → R x y →
    R (byte_after (stored_by on k f w d) at x) (byte_after (stored_by on k f w e) at y)
after_store R false k f w at d e x y c both before = before
after_store R true Computes f w at d e x y c both before = before
after_store R true Jumps f w at d e x y c both before = before
after_store R true Links f w at d e x y c both before = before
after_store R true Loads f w at d e x y c both before = before
after_store R true Stores Open w at d e x y c both before = before
after_store R true Stores (Busy by) w at d e x y c both before = before
after_store R true Stores (Addr a) w at d e x y c both before =
    covered R (nat_le a at && nat_lt at (a + w)) (byte_of (Rattle.std.proofs.Common.◌-◌ at a)) d e x y c (both refl) before
after_store R true Stores (Done v) w at d e x y c both before = before
after_store R true Stores (Miss v) w at d e x y c both before = before
after_store R true Stores (Stopped s) w at d e x y c both before = before
after_store R true Stores (Guessed v) w at d e x y c both before = before

same_stored : (P : Program) (t u : Tenant) → IsAlike t u →
    stored P u ≡ stored_by (on_path t) (kind_of P t) t.fate (width (instr P t).op) u.second.value
same_stored P t u a =
    ap (λ b. stored_by b (kind_of P u) u.fate (width (instr P u).op) u.second.value) (same_path t u a)
    ∙ ap (λ k. stored_by (on_path t) k u.fate (width (instr P u).op) u.second.value) (same_kind P t u a)
    ∙ ap (λ f. stored_by (on_path t) (kind_of P t) f (width (instr P u).op) u.second.value) a.fate
    ∙ ap (λ i. stored_by (on_path t) (kind_of P t) t.fate (width i.op) u.second.value) (same_instr P t u a)

same_lacks : (P : Program) (t u : Tenant) → IsAlike t u → lacks_address P u ≡ lacks_address P t
same_lacks P t u a =
    ap (λ s. lacks_address_by s (kind_of P u) u.fate) a.standing
    ∙ ap (λ k. lacks_address_by t.standing k u.fate) (same_kind P t u a)
    ∙ ap (lacks_address_by t.standing (kind_of P t)) a.fate

byte_more_related : (R : Option ℕ → Option ℕ → Type 0) (sure : Bool) (P : Program) (t u : Tenant) (x : ℕ) (a b : Option ℕ) → IsCarried R →
    IsAlike t u → (on_path t ≡ true → R t.second.value u.second.value) → R a b →
    R (byte_more sure P t x a) (byte_more sure P u x b)
byte_more_related R sure P t u x a b c alike content before =
    subst (λ l. R (byte_more sure P t x a) (cond (sure && l) None (byte_after (stored P u) x b))) (sym (same_lacks P t u alike))
    (go (sure && lacks_address P t))
  where
    after : R (byte_after (stored P t) x a) (byte_after (stored P u) x b)
    after =
        subst (λ s. R (byte_after (stored P t) x a) (byte_after s x b)) (sym (same_stored P t u alike))
        (after_store R (on_path t) (kind_of P t) t.fate (width (instr P t).op) x t.second.value u.second.value a b c content before)

    go : (l : Bool) → R (cond l None (byte_after (stored P t) x a)) (cond l None (byte_after (stored P u) x b))
    go true = c.none
    go false = after

byte_related : (R : Option ℕ → Option ℕ → Type 0) (sure : Bool) (P : Program) (ts us : List Tenant) (x : ℕ) → IsCarried R →
    AreAlike ts us → AreRelated R ts us → R (byte_by sure P ts x) (byte_by sure P us x)
byte_related R true P [] [] x c a r = c.some _
byte_related R false P [] [] x c a r = c.some _
byte_related R sure P [] (u ∷ us) x c a r = absurd a
byte_related R sure P (t ∷ ts) [] x c a r = absurd a
byte_related R sure P (t ∷ ts) (u ∷ us) x c a r =
    subst (R (byte_by sure P (t ∷ ts) x)) (by_more sure P u us x)
    (subst (λ o. R o (byte_more sure P u x (byte_by sure P us x))) (by_more sure P t ts x)
    (byte_more_related R sure P t u x (byte_by sure P ts x) (byte_by sure P us x) c a.0 r.0
    (byte_related R sure P ts us x c a.1 r.1)))

word_related : (R : Option ℕ → Option ℕ → Type 0) (f g : ℕ → Option ℕ) (at w : ℕ) → IsCarried R → ((x : ℕ) → R (f x) (g x)) →
    R (little_endian_if_there f at w) (little_endian_if_there g at w)
word_related R f g at zero c each = c.some 0
word_related R f g at (suc w) c each =
    c.both (f at) (g at) (little_endian_if_there f (at + 1) w) (little_endian_if_there g (at + 1) w) (each at)
    (word_related R f g (at + 1) w c each)

pub raw_related : (R : Option ℕ → Option ℕ → Type 0) (P : Program) (ts us : List Tenant) (i : Instr) (at : ℕ) → IsCarried R →
    AreAlike ts us → AreRelated R ts us → R (raw_at P ts i at) (raw_at P us i at)
raw_related R P ts us i at c a r =
    word_related R (byte_at P ts) (byte_at P us) at (width i.op) c (λ x. byte_related R false P ts us x c a r)

pub sure_related : (R : Option ℕ → Option ℕ → Type 0) (P : Program) (ts us : List Tenant) (i : Instr) (at : ℕ) → IsCarried R →
    AreAlike ts us → AreRelated R ts us → R (sure_raw_at P ts i at) (sure_raw_at P us i at)
sure_related R P ts us i at c a r =
    word_related R (sure_byte_at P ts) (sure_byte_at P us) at (width i.op) c (λ x. byte_related R true P ts us x c a r)

pub all_agree : (P : Program) (ts us : List Tenant) → AreAlike ts us → IsSound P ts → IsSound P us → AreRelated Agrees ts us
all_agree P [] us a s z = tt
all_agree P (t ∷ ts) [] a s z = tt
all_agree P (t ∷ ts) (u ∷ us) a s z = (
  λ on. source_agrees P ts us t u Second (record { before = a.1; alike = a.0; left = s.0; right = z.0; path = on }),
  all_agree P ts us a.1 s.1 z.1,
)

pub all_grow : (P : Program) (ts us : List Tenant) → AreAlike ts us → IsSound P ts → IsSound P us → AreDelivered us →
    AreRelated Grows ts us
all_grow P [] us a s z d = tt
all_grow P (t ∷ ts) [] a s z d = tt
all_grow P (t ∷ ts) (u ∷ us) a s z d = (
  λ on. source_grows P ts us t u Second (record { before = a.1; alike = a.0; left = s.0; right = z.0; path = on }) d.0.1,
  all_grow P ts us a.1 s.1 z.1 d.1,
)

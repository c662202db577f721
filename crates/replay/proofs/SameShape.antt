-- What two units share whose tenants differ in their sources alone: counts, where the path goes on, and who makes a source.
use Rattle.std.proofs.Common.{◌≡◌, ◌≢◌, ℕ, zero, suc, ◌+◌, ◌<◌, ◌%◌, Bool, true, false, cond, ◌&&◌, eqb, List, [], ◌∷◌, length, Option, Some, None, refl, sym, ap, ◌∙◌, subst}
use Rattle.std.specs.List.{AllByRecursion}
use Rattle.std.specs.Prelude.{IfSome, nat_lt}
use Rattle.instructions.specs.Instruction.{destination, first_of, fixed_next, is_access, is_first_half, kind, second_of}
use Rattle.instructions.specs.Programs.{Program, instr_of}
use Rattle.inorder.specs.declared.history.Supply.{Supply}
use Rattle.inorder.specs.declared.history.Supply.TheVariants.{From, Known}
use Rattle.inorder.specs.Steps.{MayComeFrom, MayLet, MaySupply, new_tenant}
use Rattle.inorder.specs.Tenants.{Tenant, destination_of, instr, is_first, is_live, is_live_access, kind_of, on_path, stands_live, stands_on_path}
use Rattle.inorder.specs.Unit.{Sizes, UpdateUnit, at, can_be_written, creator, front_half, front_pc, half_after, how_many, is_old, last_writer, newest_of, next_station, older, recent, replaced, younger}
use Rattle.inorder.proofs.OneCaller.Alike.{AreAlike, IsAlike, alike_both, alike_length, alike_self, alike_value}

-- One tenant

pub same_path : (t u : Tenant) → IsAlike t u → on_path u ≡ on_path t
same_path t u a = ap stands_on_path a.standing

pub same_instr : (P : Program) (t u : Tenant) → IsAlike t u → instr P u ≡ instr P t
same_instr P t u a = ap (instr_of P) a.index

pub same_kind : (P : Program) (t u : Tenant) → IsAlike t u → kind_of P u ≡ kind_of P t
same_kind P t u a = ap (λ n. kind (instr_of P n).op) a.index

same_first : (P : Program) (t u : Tenant) → IsAlike t u → is_first P u ≡ is_first P t
same_first P t u a =
    ap (λ n. is_first_half (instr_of P n).op u.half) a.index ∙ ap (is_first_half (instr P t).op) a.half

same_destination : (P : Program) (t u : Tenant) → IsAlike t u → destination_of P u ≡ destination_of P t
same_destination P t u a =
    ap (λ n. destination (instr_of P n) u.half) a.index ∙ ap (destination (instr P t)) a.half

same_live : (t u : Tenant) → IsAlike t u → is_live u ≡ is_live t
same_live t u a = ap stands_live a.standing

same_access : (P : Program) (t u : Tenant) → IsAlike t u → is_live_access P u ≡ is_live_access P t
same_access P t u a =
    ap (λ b. b && is_access (kind_of P u)) (same_live t u a)
    ∙ ap (λ k. is_live t && is_access k) (same_kind P t u a)

alike_back : (t u : Tenant) → IsAlike t u → IsAlike u t
alike_back t u a = record {
  station = sym a.station;
  index = sym a.index;
  half = sym a.half;
  pc = sym a.pc;
  predicted = sym a.predicted;
  next = sym a.next;
  made = sym a.made;
  fate = sym a.fate;
  standing = sym a.standing;
}

-- Lists

pub are_self : (ts : List Tenant) → AreAlike ts ts
are_self [] = tt
are_self (t ∷ ts) = (alike_self t, are_self ts)

pub are_back : (ts us : List Tenant) → AreAlike ts us → AreAlike us ts
are_back [] [] a = tt
are_back [] (u ∷ us) a = absurd a
are_back (t ∷ ts) [] a = absurd a
are_back (t ∷ ts) (u ∷ us) a = (alike_back t u a.0, are_back ts us a.1)

pub are_both : (ts us vs : List Tenant) → AreAlike ts us → AreAlike us vs → AreAlike ts vs
are_both [] [] vs a b = b
are_both [] (u ∷ us) vs a b = absurd a
are_both (t ∷ ts) [] vs a b = absurd a
are_both (t ∷ ts) (u ∷ us) [] a b = absurd b
are_both (t ∷ ts) (u ∷ us) (v ∷ vs) a b = (alike_both t u v a.0 b.0, are_both ts us vs a.1 b.1)

pub same_all : (Q : Tenant → Type 0) (ts us : List Tenant) → ((t u : Tenant) → IsAlike t u → Q t → Q u) → AreAlike ts us →
    AllByRecursion Q ts → AllByRecursion Q us
same_all Q [] [] moves a all = tt
same_all Q [] (u ∷ us) moves a all = absurd a
same_all Q (t ∷ ts) [] moves a all = absurd a
same_all Q (t ∷ ts) (u ∷ us) moves a all = (moves t u a.0 all.0, same_all Q ts us moves a.1 all.1)

same_count : (test : Tenant → Bool) (ts us : List Tenant) → ((t u : Tenant) → IsAlike t u → test u ≡ test t) → AreAlike ts us →
    how_many test us ≡ how_many test ts
same_count test [] [] same a = refl
same_count test [] (u ∷ us) same a = absurd a
same_count test (t ∷ ts) [] same a = absurd a
same_count test (t ∷ ts) (u ∷ us) same a =
    ap (λ b. cond b (suc (how_many test us)) (how_many test us)) (same t u a.0)
    ∙ ap (λ n. cond (test t) (suc n) n) (same_count test ts us same a.1)

same_front_pc : (ts us : List Tenant) → AreAlike ts us → front_pc us ≡ front_pc ts
same_front_pc [] [] a = refl
same_front_pc [] (u ∷ us) a = absurd a
same_front_pc (t ∷ ts) [] a = absurd a
same_front_pc (t ∷ ts) (u ∷ us) a =
    ap (λ b. cond b u.next (front_pc us)) (same_path t u a.0)
    ∙ ap (λ n. cond (on_path t) n (front_pc us)) a.0.next
    ∙ ap (λ n. cond (on_path t) t.next n) (same_front_pc ts us a.1)

same_front_half : (P : Program) (ts us : List Tenant) → AreAlike ts us → front_half P us ≡ front_half P ts
same_front_half P [] [] a = refl
same_front_half P [] (u ∷ us) a = absurd a
same_front_half P (t ∷ ts) [] a = absurd a
same_front_half P (t ∷ ts) (u ∷ us) a =
    ap (λ b. cond b (half_after (is_first P u)) (front_half P us)) (same_path t u a.0)
    ∙ ap (λ f. cond (on_path t) (half_after f) (front_half P us)) (same_first P t u a.0)
    ∙ ap (λ h. cond (on_path t) (half_after (is_first P t)) h) (same_front_half P ts us a.1)

same_writer : (P : Program) (ts us : List Tenant) (r : ℕ) → AreAlike ts us → last_writer P us r ≡ last_writer P ts r
same_writer P [] [] r a = refl
same_writer P [] (u ∷ us) r a = absurd a
same_writer P (t ∷ ts) [] r a = absurd a
same_writer P (t ∷ ts) (u ∷ us) r a =
    ap (λ b. cond (b && eqb (destination_of P u) r) (Some (length us)) (last_writer P us r)) (same_path t u a.0)
    ∙ ap (λ d. cond (on_path t && eqb d r) (Some (length us)) (last_writer P us r)) (same_destination P t u a.0)
    ∙ ap (λ n. cond (on_path t && eqb (destination_of P t) r) (Some n) (last_writer P us r)) (alike_length ts us a.1)
    ∙ ap (λ c. cond (on_path t && eqb (destination_of P t) r) (Some (length ts)) c) (same_writer P ts us r a.1)

pub same_creator : (P : Program) (ts us : List Tenant) (r : ℕ) → AreAlike ts us → creator P us r ≡ creator P ts r
same_creator P ts us r a = ap (λ c. cond (can_be_written r) c None) (same_writer P ts us r a)

same_newest : (n : ℕ) (ts us : List Tenant) → AreAlike ts us → AreAlike (newest_of n ts) (newest_of n us)
same_newest zero ts us a = tt
same_newest (suc n) [] [] a = tt
same_newest (suc n) [] (u ∷ us) a = absurd a
same_newest (suc n) (t ∷ ts) [] a = absurd a
same_newest (suc n) (t ∷ ts) (u ∷ us) a = (a.0, same_newest n ts us a.1)

-- Positions

-- who is at a position of both, and who is before and after it
pub record Found (found : Option Tenant) (ts us ys zs : List Tenant) (t : Tenant) : Type 0 where
  pub tenant : Tenant
  pub is : found ≡ Some tenant
  pub alike : IsAlike t tenant
  pub before : AreAlike ts us
  pub after : AreAlike ys zs

abbrev pub FoundAt : List Tenant → List Tenant → ℕ → Tenant → Type 0
FoundAt ts us p t = Found (at us p) (older ts p) (older us p) (younger ts p) (younger us p) t

pub found_at : (ts us : List Tenant) (p : ℕ) (t : Tenant) → AreAlike ts us → at ts p ≡ Some t → FoundAt ts us p t
found_at [] [] p t a e = absurd (cc)
found_at [] (y ∷ us) p t a e = absurd a
found_at (x ∷ ts) [] p t a e = absurd a
found_at (x ∷ ts) (y ∷ us) p t a e =
    go (eqb p (length ts)) (eqb p (length us)) (ap (eqb p) (sym (alike_length ts us a.1))) e (found_at ts us p t a.1)
  where
    go : (b c : Bool) → b ≡ c → cond b (Some x) (at ts p) ≡ Some t → (at ts p ≡ Some t → FoundAt ts us p t) →
        Found (cond c (Some y) (at us p)) (cond b ts (older ts p)) (cond c us (older us p))
        (cond b [] (x ∷ younger ts p)) (cond c [] (y ∷ younger us p)) t
    go true true q here more =
        let is : x ≡ t = cc in
        record { tenant = y; is = refl; alike = subst (λ z. IsAlike z y) is a.0; before = a.1; after = tt }
    go false false q here more =
        let f = more here in
        record { tenant = f.tenant; is = f.is; alike = f.alike; before = f.before; after = (a.0, f.after) }
    go true false q here more = absurd (cc)
    go false true q here more = absurd (cc)

pub same_replaced : (ts us : List Tenant) (p : ℕ) (t u : Tenant) → AreAlike ts us → IsAlike t u →
    AreAlike (replaced ts p t) (replaced us p u)
same_replaced [] [] p t u a new = tt
same_replaced [] (y ∷ us) p t u a new = absurd a
same_replaced (x ∷ ts) [] p t u a new = absurd a
same_replaced (x ∷ ts) (y ∷ us) p t u a new =
    go (eqb p (length ts)) (eqb p (length us)) (ap (eqb p) (sym (alike_length ts us a.1))) (same_replaced ts us p t u a.1 new)
  where
    go : (b c : Bool) → b ≡ c → AreAlike (replaced ts p t) (replaced us p u) →
        AreAlike (cond b (t ∷ ts) (x ∷ replaced ts p t)) (cond c (u ∷ us) (y ∷ replaced us p u))
    go true true q more = (new, a.1)
    go false false q more = (a.0, more)
    go true false q more = absurd (cc)
    go false true q more = absurd (cc)

-- a tenant that changes in its sources alone
pub same_put : (ts : List Tenant) (p : ℕ) (t u : Tenant) → at ts p ≡ Some t → IsAlike t u → AreAlike ts (replaced ts p u)
same_put [] p t u e new = tt
same_put (x ∷ ts) p t u e new = go (eqb p (length ts)) e (same_put ts p t u)
  where
    go : (b : Bool) → cond b (Some x) (at ts p) ≡ Some t → (at ts p ≡ Some t → IsAlike t u → AreAlike ts (replaced ts p u)) →
        AreAlike (x ∷ ts) (cond b (u ∷ ts) (x ∷ replaced ts p u))
    go true here more = let is : x ≡ t = cc in (subst (λ z. IsAlike z u) (sym is) new, are_self ts)
    go false here more = (alike_self x, more here new)

-- Units

-- units whose tenants differ in their sources alone
pub record AreTwins (U V : UpdateUnit) : Type 0 where
  pub tenants : AreAlike U.tenants V.tenants
  pub fresh : V.fresh ≡ U.fresh

same_recent : (U V : UpdateUnit) → AreTwins U V → AreAlike (recent U) (recent V)
same_recent U V w =
    subst (λ n. AreAlike (recent U) (newest_of n V.tenants)) (sym w.fresh) (same_newest U.fresh U.tenants V.tenants w.tenants)

same_station : (C : Sizes) (U V : UpdateUnit) → AreTwins U V → next_station C (recent V) ≡ next_station C (recent U)
same_station C U V w = ap (λ n. n % C.ring) (same_count on_path (recent U) (recent V) same_path (same_recent U V w))

same_old : (U V : UpdateUnit) (p : ℕ) → AreTwins U V → is_old V p ≡ is_old U p
same_old U V p w =
    ap (λ n. nat_lt (p + n) (length V.tenants)) w.fresh
    ∙ ap (nat_lt (p + U.fresh)) (alike_length U.tenants V.tenants w.tenants)

come_from : (P : Program) (U V : UpdateUnit) (station : ℕ) (c : Option ℕ) → AreTwins U V → MayComeFrom P U station c →
    MayComeFrom P V station c
come_from P U V station c w m =
    let f = found_at U.tenants V.tenants m.p m.tenant w.tenants m.is in
    record {
      p = m.p;
      tenant = f.tenant;
      creates = m.creates;
      is = f.is;
      waits = λ e. m.waits (sym (same_kind P m.tenant f.tenant f.alike) ∙ e);
      other = λ e. m.other (sym f.alike.station ∙ e);
      last =
          subst (λ s. AllByRecursion (λ u. u.station ≢ s) (younger V.tenants m.p)) (sym f.alike.station)
          (same_all (λ u. u.station ≢ m.tenant.station) (younger U.tenants m.p) (younger V.tenants m.p)
          (λ t u a n e. n (sym a.station ∙ e)) f.after m.last);
      new = same_old U V m.p w ∙ m.new;
    }

supplies : (P : Program) (U V : UpdateUnit) (station : ℕ) (c : Option ℕ) (how : Supply) → AreTwins U V →
    MaySupply P U station c how → MaySupply P V station c how
supplies P U V station c (Known v) w m = alike_value U.tenants V.tenants w.tenants c ∙ m
supplies P U V station c From w m = come_from P U V station c w m

supplied : (P : Program) (C : Sizes) (U V : UpdateUnit) (r : ℕ) (how : Supply) → AreTwins U V →
    MaySupply P U (next_station C (recent U)) (creator P U.tenants r) how →
    MaySupply P V (next_station C (recent V)) (creator P V.tenants r) how
supplied P C U V r how w m =
    subst (λ s. MaySupply P V s (creator P V.tenants r) how) (sym (same_station C U V w))
    (subst (λ c. MaySupply P V (next_station C (recent U)) c how) (sym (same_creator P U.tenants V.tenants r w.tenants))
    (supplies P U V (next_station C (recent U)) (creator P U.tenants r) how w m))

-- an instruction that may be let in the one may be let in the other
pub let_in_both : (P : Program) (C : Sizes) (U V : UpdateUnit) (index predicted : ℕ) (first second : Supply) → AreTwins U V →
    MayLet P C U index predicted first second → MayLet P C V index predicted first second
let_in_both P C U V index predicted first second w m =
    let pc = same_front_pc U.tenants V.tenants w.tenants in
    let half = same_front_half P U.tenants V.tenants w.tenants in
    record {
      room = subst (λ n. n < C.ring) (sym (same_count is_live U.tenants V.tenants same_live w.tenants)) m.room;
      queue = λ e.
          subst (λ n. n < C.queue) (sym (same_count (is_live_access P) U.tenants V.tenants (same_access P) w.tenants)) (m.queue e);
      is_there = m.is_there;
      pc = pc ∙ m.pc;
      small = m.small;
      predicts =
          subst (λ x. IfSome (fixed_next (instr_of P index) (front_half P V.tenants) x) (λ y. predicted ≡ y)) (sym pc)
          (subst (λ h. IfSome (fixed_next (instr_of P index) h (front_pc U.tenants)) (λ y. predicted ≡ y)) (sym half) m.predicts);
      first_is = supplied P C U V (first_of (instr_of P index)) first w m.first_is;
      second_is = supplied P C U V (second_of (instr_of P index)) second w m.second_is;
    }

-- and adds a tenant that differs in its sources alone, however they are supplied
pub new_in_both : (P : Program) (C : Sizes) (U V : UpdateUnit) (index predicted : ℕ) (first second third fourth : Supply) →
    AreTwins U V → IsAlike (new_tenant P C U index predicted first second) (new_tenant P C V index predicted third fourth)
new_in_both P C U V index predicted first second third fourth w =
    let pc = same_front_pc U.tenants V.tenants w.tenants in
    record {
      station = same_station C U V w;
      index = refl;
      half = same_front_half P U.tenants V.tenants w.tenants;
      pc = pc;
      predicted = refl;
      next = refl;
      made = ap (Rattle.inorder.specs.Tenants.made_at_let (kind (instr_of P index).op)) pc;
      fate = refl;
      standing = refl;
    }

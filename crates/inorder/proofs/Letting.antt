-- A tenant that may be let may still be let, and is the same, after the steps of other callers.
use Rattle.std.proofs.Common.{ltb, ⊎_elim, ◌≡◌, ◌≢◌, ℕ, suc, ◌+◌, ◌%◌, ◌≤◌, Bool, true, false, cond, ◌&&◌, eqb, List, [], ◌∷◌, ◌++◌, length, Option, Some, refl, sym, ap, ◌∙◌, subst, arith}
use Rattle.std.specs.List.{AllByRecursion}
use Rattle.std.specs.Prelude.{IfSome}
use Rattle.instructions.specs.Instruction.{first_of, fixed_next, is_access, kind, second_of}
use Rattle.instructions.specs.declared.op.Half.{Half}
use Rattle.instructions.specs.Programs.{Program, instr_of}
use Rattle.inorder.specs.declared.history.Act.{Act}
use Rattle.inorder.specs.declared.history.Act.TheVariants.{Claim, Deliver, Finish, Link, Load, Mend, Retire, Speculate, Squash}
use Rattle.inorder.specs.declared.history.Step.{Step}
use Rattle.inorder.specs.declared.history.Step.TheVariants.{Let, On, Renew}
use Rattle.inorder.specs.declared.history.Supply.{Supply}
use Rattle.inorder.specs.declared.history.Supply.TheVariants.{From, Known}
use Rattle.inorder.specs.Legal.{Allowed, May, MayAct, applied, change_at, changed}
use Rattle.inorder.specs.Steps.{MayLet, MaySupply, let_operand, new_tenant}
use Rattle.inorder.specs.Tenants.{Live, Open, Retired, Squashed, Standing, Tenant, computed, is_live, kind_of, made_at_let, on_path, stands_live}
use Rattle.inorder.specs.Unit.{Sizes, UpdateUnit, at, creator, front_half, front_pc, how_many, next_station, next_tag, older, recent, younger}
use Rattle.inorder.proofs.Basics.{split_at}
use Rattle.inorder.proofs.Grows.{Grows, creator_grows, front_grows, half_grows, same_length, sound_mid, value_of_grows}
use Rattle.inorder.proofs.Kept.{claim_grows, deliver_grows, finish_grows, load_may_grow, parts, retire_grows}
use Rattle.inorder.proofs.Moves.{Forward, changed_goes, goes_at}
use Rattle.inorder.proofs.Tags.{IsNewPlace, IsOldPlace, cut}
use Rattle.inorder.proofs.Sound.{IsSound, IsSoundAt}

-- the acts of others than the front
abbrev pub IsBesidesAct : Act → Type 0
IsBesidesAct (Deliver k) = Unit {0}
IsBesidesAct Claim = Unit {0}
IsBesidesAct Finish = Unit {0}
IsBesidesAct Load = Unit {0}
IsBesidesAct (Retire n) = Unit {0}
IsBesidesAct _ = ⊥

abbrev pub IsBesides : Step → Type 0
IsBesides (On p act) = IsBesidesAct act
IsBesides _ = ⊥

pub besides_grows : (P : Program) (by : ℕ) (act : Act) (ys : List Tenant) (t : Tenant) (ts : List Tenant) → IsBesidesAct act → May P by act ys t ts → IsSoundAt P ts t →
    Grows P t (changed P by act t ts)
besides_grows P by (Link k) ys t ts b m q = absurd b
besides_grows P by (Deliver k) ys t ts b m q = deliver_grows P ts t k m
besides_grows P by Claim ys t ts b m q = claim_grows P t by m
besides_grows P by Finish ys t ts b m q = finish_grows P ts t by (computed P t) refl m q
besides_grows P by Load ys t ts b m q = load_may_grow P ts t m q
besides_grows P by (Retire n) ys t ts b m q = retire_grows P ts t n m q
besides_grows P by Squash ys t ts b m q = absurd b
besides_grows P by (Speculate s) ys t ts b m q = absurd b
besides_grows P by Mend ys t ts b m q = absurd b

pub how_many_same : (f : Tenant → Bool) (t t' : Tenant) (ts ys : List Tenant) → f t' ≡ f t → how_many f (ys ++ t' ∷ ts) ≡ how_many f (ys ++ t ∷ ts)
how_many_same f t t' ts [] e = ap (λ b. cond b (suc (how_many f ts)) (how_many f ts)) e
how_many_same f t t' ts (y ∷ ys) e = ap (λ n. cond (f y) (suc n) n) (how_many_same f t t' ts ys e)

pub how_many_fewer : (f : Tenant → Bool) (t t' : Tenant) (ts ys : List Tenant) → (f t' ≡ true → f t ≡ true) → how_many f (ys ++ t' ∷ ts) ≤ how_many f (ys ++ t ∷ ts)
how_many_fewer f t t' ts [] h = go (f t') (f t) h
  where
    go : (a b : Bool) → (a ≡ true → b ≡ true) → cond a (suc (how_many f ts)) (how_many f ts) ≤ cond b (suc (how_many f ts)) (how_many f ts)
    go true b g = subst (λ x. suc (how_many f ts) ≤ cond x (suc (how_many f ts)) (how_many f ts)) (sym (g refl)) (omega arith)
    go false true g = omega arith
    go false false g = omega arith
how_many_fewer f t t' ts (y ∷ ys) h = go (f y) (how_many_fewer f t t' ts ys h)
  where
    go : (b : Bool) → how_many f (ys ++ t' ∷ ts) ≤ how_many f (ys ++ t ∷ ts) → cond b (suc (how_many f (ys ++ t' ∷ ts))) (how_many f (ys ++ t' ∷ ts)) ≤ cond b (suc (how_many f (ys ++ t ∷ ts)))
        (how_many f (ys ++ t ∷ ts))
    go true m = omega arith
    go false m = m

-- the stations of younger tenants
younger_same : (x p : ℕ) (t t' : Tenant) (ts ys : List Tenant) → t'.station ≡ t.station → AllByRecursion (λ u. u.station ≢ x) (younger (ys ++ t ∷ ts) p) →
    AllByRecursion (λ u. u.station ≢ x) (younger (ys ++ t' ∷ ts) p)
younger_same x p t t' ts [] e h = go (eqb p (length ts)) h
  where
    go : (b : Bool) → AllByRecursion (λ u. u.station ≢ x) (cond b [] (t ∷ younger ts p)) → AllByRecursion (λ u. u.station ≢ x) (cond b [] (t' ∷ younger ts p))
    go true m = tt
    go false m = ((λ z. m.0 (sym e ∙ z)), m.1)
younger_same x p t t' ts (y ∷ ys) e h =
    go (eqb p (length (ys ++ t' ∷ ts))) (younger_same x p t t' ts ys e) (subst (λ n. AllByRecursion (λ u. u.station ≢ x) (cond (eqb p n) [] (y ∷ younger (ys ++ t ∷ ts) p))) (same_length t t' ts ys) h)
  where
    go : (b : Bool) → (AllByRecursion (λ u. u.station ≢ x) (younger (ys ++ t ∷ ts) p) → AllByRecursion (λ u. u.station ≢ x) (younger (ys ++ t' ∷ ts) p)) →
        AllByRecursion (λ u. u.station ≢ x) (cond b [] (y ∷ younger (ys ++ t ∷ ts) p)) → AllByRecursion (λ u. u.station ≢ x) (cond b [] (y ∷ younger (ys ++ t' ∷ ts) p))
    go true more m = tt
    go false more m = (m.0, more m.1)

live_access : (P : Program) (t t' : Tenant) → t'.index ≡ t.index → (t'.standing ≡ Live → t.standing ≡ Live) → is_live t' && is_access (kind_of P t') ≡ true →
    is_live t && is_access (kind_of P t) ≡ true
live_access P t t' index live h = go t'.standing refl h
  where
    go : (st : Standing) → t'.standing ≡ st → is_live t' && is_access (kind_of P t') ≡ true → is_live t && is_access (kind_of P t) ≡ true
    go Live e m =
        ap (λ z. stands_live z && is_access (kind_of P t)) (live e)
        ∙ (ap (λ k. is_access (kind (instr_of P k).op)) (sym index) ∙ (sym (ap (λ z. stands_live z && is_access (kind_of P t')) e) ∙ m))
    go Retired e m = let no : false ≡ true = sym (ap (λ z. stands_live z && is_access (kind_of P t')) e) ∙ m in absurd (cc)
    go Squashed e m = let no : false ≡ true = sym (ap (λ z. stands_live z && is_access (kind_of P t')) e) ∙ m in absurd (cc)

live_only : (t t' : Tenant) → (t'.standing ≡ Live → t.standing ≡ Live) → is_live t' ≡ true → is_live t ≡ true
live_only t t' live h = go t'.standing refl h
  where
    go : (st : Standing) → t'.standing ≡ st → is_live t' ≡ true → is_live t ≡ true
    go Live e m = ap stands_live (live e)
    go Retired e m = let no : false ≡ true = sym (ap stands_live e) ∙ m in absurd (cc)
    go Squashed e m = let no : false ≡ true = sym (ap stands_live e) ∙ m in absurd (cc)

module _ (P : Program) (C : Sizes) (n : ℕ) (t t' : Tenant) (ts ys : List Tenant) (g : Grows P t t') (place : t'.station ≡ t.station) (live : t'.standing ≡ Live → t.standing ≡ Live) where
  abbrev us : List Tenant
  us = ys ++ t ∷ ts

  abbrev vs : List Tenant
  vs = ys ++ t' ∷ ts

  abbrev U : UpdateUnit
  U = record { tenants = us; fresh = n }

  abbrev V : UpdateUnit
  V = record { tenants = vs; fresh = n }

  same_count : (f : Tenant → Bool) → f t' ≡ f t → how_many f (recent V) ≡ how_many f (recent U)
  same_count f e = ⊎_elim
      (λ (old : IsOldPlace n ys ts). ap (how_many f) (old.same t' t))
      (λ (new : IsNewPlace n ys ts). ap (how_many f) (new.is t') ∙ how_many_same f t t' new.zs ys e ∙ sym (ap (how_many f) (new.is t)))
      (cut n ys ts)

  same_station : next_station C (recent V) ≡ next_station C (recent U)
  same_station = ap (λ z. z % C.ring) (same_count on_path g.path)

  same_tag : next_tag C (recent V) ≡ next_tag C (recent U)
  same_tag = ap (λ s. C.first_tag + how_many (λ u. eqb u.station s) (recent V)) same_station ∙ ap (λ z. C.first_tag + z)
      (same_count (λ u. eqb u.station (next_station C (recent U))) (ap (λ z. eqb z (next_station C (recent U))) place))

  same_pc : front_pc vs ≡ front_pc us
  same_pc = front_grows t t' ts ys g.next g.path

  same_half : front_half P vs ≡ front_half P us
  same_half = half_grows P t t' ts ys g.index g.half g.path

  same_creator : (r : ℕ) → creator P vs r ≡ creator P us r
  same_creator r = creator_grows P t t' ts ys r g.index g.half g.path

  same_new : (index predicted : ℕ) (first second : Supply) → new_tenant P C V index predicted first second ≡ new_tenant P C U index predicted first second
  same_new index predicted first second =
      let i = instr_of P index in
      λ j. record {
        station = same_station j;
        tag = same_tag j;
        index = index;
        half = same_half j;
        pc = same_pc j;
        predicted = predicted;
        next = predicted;
        first = let_operand (same_creator (first_of i) j) first;
        second = let_operand (same_creator (second_of i) j) second;
        made = made_at_let (kind i.op) (same_pc j);
        fate = Open;
        standing = Live;
      }

  -- each tenant keeps its station and its instruction
  pub record Stays (q : ℕ) (u : Tenant) : Type 0 where
    pub tenant : Tenant
    pub is : at vs q ≡ Some tenant
    pub station : tenant.station ≡ u.station
    pub index : tenant.index ≡ u.index

  may_supply : (s : ℕ) (c : Option ℕ) (supply : Supply) → ((q : ℕ) (u : Tenant) → at us q ≡ Some u → Stays q u) → MaySupply P U s c supply → MaySupply P V s c supply
  may_supply s c (Known v) goes h = value_of_grows t t' ts ys g.made c v h
  may_supply s c From goes h =
      let m = goes h.p h.tenant h.is in
      record {
        p = h.p;
        tenant = m.tenant;
        creates = h.creates;
        is = m.is;
        waits = λ e. h.waits (ap (λ k. kind (instr_of P k).op) (sym m.index) ∙ e);
        other = λ e. h.other (sym m.station ∙ e);
        last = subst (λ x. AllByRecursion (λ u. u.station ≢ x) (younger vs h.p)) (sym m.station) (younger_same h.tenant.station h.p t t' ts ys place h.last);
        new = subst (λ l. ltb (h.p + n) l ≡ false) (same_length t t' ts ys) h.new;
      }

  let_stays : ((q : ℕ) (u : Tenant) → at us q ≡ Some u → Stays q u) → (index predicted : ℕ) (first second : Supply) → MayLet P C U index predicted first second →
      MayLet P C V index predicted first second
  let_stays goes index predicted first second m =
      let i = instr_of P index in
      let fewer = how_many_fewer is_live t t' ts ys (live_only t t' live) in
      let fewer' = how_many_fewer (λ u. is_live u && is_access (kind_of P u)) t t' ts ys (live_access P t t' g.index live) in
      record {
        room = omega (arith, m.room);
        queue = λ a. let q = m.queue a in omega arith;
        is_there = m.is_there;
        pc = same_pc ∙ m.pc;
        small = m.small;
        predicts = subst (λ (x : Half × ℕ). IfSome (fixed_next i x.0 x.1) (λ z. predicted ≡ z)) (λ j. (sym same_half j, sym same_pc j)) m.predicts;
        first_is = subst (λ (z : ℕ × Option ℕ). MaySupply P V z.0 z.1 first) (λ j. (sym same_station j, sym (same_creator (first_of i)) j))
            (may_supply (next_station C (recent U)) (creator P us (first_of i)) first goes m.first_is);
        second_is = subst (λ (z : ℕ × Option ℕ). MaySupply P V z.0 z.1 second) (λ j. (sym same_station j, sym (same_creator (second_of i)) j))
            (may_supply (next_station C (recent U)) (creator P us (second_of i)) second goes m.second_is);
      }

-- What stays of a let: that it is allowed, and the tenant
pub record LetStays (P : Program) (C : Sizes) (U V : UpdateUnit) (index predicted : ℕ) (first second : Supply) : Type 0 where
  pub may : MayLet P C V index predicted first second
  pub new : new_tenant P C V index predicted first second ≡ new_tenant P C U index predicted first second
  pub tag : next_tag C (recent V) ≡ next_tag C (recent U)

stays_at : (P : Program) (C : Sizes) (U : UpdateUnit) (by p : ℕ) (act : Act) → IsBesidesAct act → MayAct P U.tenants by p act → IsSound P U.tenants → (index predicted : ℕ) (first second : Supply) →
    MayLet P C U index predicted first second
    → LetStays P C U (applied P C U by (On p act)) index predicted first second
stays_at P C U by p act b a sound index predicted first second m =
    let us = U.tenants in
    let t = a.tenant in
    let t' = changed P by act t (older us p) in
    let split = split_at us p t a.is in
    let own = sound_mid P t (older us p) (younger us p) (subst (IsSound P) split sound) in
    let g = besides_grows P by act (younger us p) t (older us p) b a.may own in
    let move = changed_goes P by p act (younger us p) t (older us p) a.may own in
    let put = parts P us by p act t a.is in
    let m' = subst (λ z. MayLet P C (record { tenants = z; fresh = U.fresh }) index predicted first second) split m in
    let go : (q : ℕ) (u : Tenant) → at (younger us p ++ t ∷ older us p) q ≡ Some u → Stays P C U.fresh t t' (older us p) (younger us p) g move.station move.live q u =
    λ q u h. let x : Forward by (On p act) (change_at P us by p act (at us p)) q u = goes_at P us by p act a sound q u (ap (λ z. at z q) split ∙ h) in
    record { tenant = x.tenant; is = ap (λ z. at z q) (sym put) ∙ x.is; station = x.goes.station; index = x.goes.index } in
    let stay = let_stays P C U.fresh t t' (older us p) (younger us p) g move.station move.live go index predicted first second m' in
    let same = same_new P C U.fresh t t' (older us p) (younger us p) g move.station move.live index predicted first second in
    let tag = same_tag P C U.fresh t t' (older us p) (younger us p) g move.station move.live in
    subst (λ (z : List Tenant × List Tenant). LetStays P C (record { tenants = z.0; fresh = U.fresh }) (record { tenants = z.1; fresh = U.fresh }) index predicted first second)
    (λ j. (sym split j, sym put j)) (record { may = stay; new = same; tag = tag })

pub let_lasts : (P : Program) (C : Sizes) (U : UpdateUnit) (by : ℕ) (s : Step) → IsBesides s → Allowed P C U by s → IsSound P U.tenants → (index predicted : ℕ) (first second : Supply) →
    MayLet P C U index predicted first second → LetStays P C U (applied P C U by s) index predicted first second
let_lasts P C U by (Let i p f n) b a sound index predicted first second m = absurd b
let_lasts P C U by (On p act) b a sound index predicted first second m = stays_at P C U by p act b a sound index predicted first second m
let_lasts P C U by Renew b a sound index predicted first second m = absurd b

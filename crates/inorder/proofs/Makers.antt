-- What the creator of a source that comes from it is, and when it has made its value.
use Rattle.std.proofs.Common.{◌≡◌, ◌≢◌, ◌⊎◌, ℕ, zero, suc, ◌<◌, Bool, true, false, cond, ◌&&◌, eqb, List, [], ◌∷◌, length, Option, Some, None, refl, sym, ap, ◌∙◌, subst, inl, ⊎_elim, arith, eqb-true}
use Rattle.std.proofs.Common.{true≢false}
use Rattle.std.specs.Prelude.{is_none}
use Rattle.std.proofs.lemmas.Option.{same_Some}
use Rattle.instructions.specs.Instruction.{first_of, second_of, target_of, destination_by, kind}
use Rattle.instructions.specs.Programs.{Program, instr_of}
use Rattle.instructions.specs.declared.op.Kind.{Kind}
use Rattle.instructions.specs.declared.op.Kind.TheVariants.{Computes, Jumps, Links, Loads, Stores}
use Rattle.instructions.specs.declared.stop.Outcome.{Outcome}
use Rattle.instructions.specs.declared.stop.Outcome.TheVariants.{Pair, Address, Next, Stop as Stops, Value}
use Rattle.instructions.specs.declared.stop.Stop.{Stop}
use Rattle.inorder.specs.declared.history.Act.{Act}
use Rattle.inorder.specs.declared.history.Act.TheVariants.{Claim, Deliver, Finish, Link, Load, Mend, Retire, Speculate, Squash}
use Rattle.inorder.specs.declared.history.Source.{Source}
use Rattle.inorder.specs.declared.history.Source.TheVariants.{First, Second}
use Rattle.inorder.specs.declared.history.Step.{Step}
use Rattle.inorder.specs.declared.history.Step.TheVariants.{Let, On, Renew}
use Rattle.inorder.specs.declared.history.Supply.{Supply}
use Rattle.inorder.specs.declared.history.Supply.TheVariants.{From, Known}
use Rattle.inorder.specs.Legal.{Allowed, AreAllowed, May, Taken, applied, changed, reached}
use Rattle.inorder.specs.StationWords.{left_value}
use Rattle.inorder.specs.Steps.{CanRetire, MaySupply, finished, let_operand, linked, made_at_end, mended_as, new_tenant}
use Rattle.inorder.specs.Tenants.{Addr, AtLet, Busy, Done, Fate, Guessed, IsThere, Linked, Live, Miss, Open, Retired, Stopped, Tenant, Unlinked, computed, destination_of, instr, kind_of, made_at_let, on_path}
use Rattle.inorder.specs.Tenants.{operand, stands_on_path}
use Rattle.inorder.specs.Unit.{Sizes, UpdateUnit, at, can_be_written, creator, last_writer, value_made, next_station, older, recent, value_of, younger}
use Rattle.inorder.proofs.Basics.{Below, eqb_less, last_writer_below, split_at}
use Rattle.inorder.proofs.Creators.{are_older, at_cases}
use Rattle.inorder.proofs.Ends.{Acted, at_older, exact}
use Rattle.inorder.proofs.Grows.{sound_mid}
use Rattle.inorder.proofs.Kept.{sound}
use Rattle.inorder.proofs.Moves.{Backward, IsActed, IsLeft, IsNoLink, IsNoLinkAct, at_changed, came, goes}
use Rattle.inorder.proofs.Positions.{at_below, at_more, at_new}
use Rattle.inorder.proofs.Serving.{linked_way, not_linked, other_way, source_same}
use Rattle.inorder.proofs.Sound.{DoneBy, FateBy, IsSound, IsSoundAt}
use Rattle.inorder.proofs.Stations.{finished_station, mended_station}
use Rattle.inorder.specs.declared.history.Speculation.TheVariants.{Confirm, Flush, Guess}

-- A source that was not known at the let has a creator, which links nothing

pub record HasMaker (P : Program) (us : List Tenant) (c : Option ℕ) : Type 0 where
  pub q : ℕ
  pub tenant : Tenant
  pub creates : c ≡ Some q
  pub is : at us q ≡ Some tenant
  pub waits : kind_of P tenant ≢ Links

abbrev pub HaveMakers : Program → List Tenant → Type 0
HaveMakers P us = (r : ℕ) (t : Tenant) (k : Source) → at us r ≡ Some t → (operand k t).way ≢ AtLet → HasMaker P us (operand k t).creator

let_maker : (P : Program) (U : UpdateUnit) (s : ℕ) (c : Option ℕ) (supply : Supply) → MaySupply P U s c supply → (let_operand c supply).way ≢ AtLet →
    HasMaker P U.tenants (let_operand c supply).creator
let_maker P U s c (Known v) m ne = absurd (ne refl)
let_maker P U s c From m ne = record { q = m.p; tenant = m.tenant; creates = m.creates; is = m.is; waits = m.waits }

more_maker : (P : Program) (n : Tenant) (us : List Tenant) (c : Option ℕ) → HasMaker P us c → HasMaker P (n ∷ us) c
more_maker P n us c m = record { q = m.q; tenant = m.tenant; creates = m.creates; is = at_more n us m.q m.tenant m.is; waits = m.waits }

-- a source that is not known at the let was not before
not_at_let : (P : Program) (by : ℕ) (act : Act) (ys : List Tenant) (t : Tenant) (ts : List Tenant) (k : Source) → May P by act ys t ts → (operand k t).way ≡ AtLet →
    (operand k (changed P by act t ts)).way ≡ AtLet
not_at_let P by (Link First) ys t ts First m e = let w = m.way in absurd (cc)
not_at_let P by (Link First) ys t ts Second m e = e
not_at_let P by (Link Second) ys t ts First m e = e
not_at_let P by (Link Second) ys t ts Second m e = let w = m.way in absurd (cc)
not_at_let P by (Deliver First) ys t ts First m e = e
not_at_let P by (Deliver First) ys t ts Second m e = e
not_at_let P by (Deliver Second) ys t ts First m e = e
not_at_let P by (Deliver Second) ys t ts Second m e = e
not_at_let P by Claim ys t ts First m e = e
not_at_let P by Claim ys t ts Second m e = e
not_at_let P by Finish ys t ts k m e = go (computed P t) k e
  where
    go : (o : Outcome) (k : Source) → (operand k t).way ≡ AtLet → (operand k (finished t o)).way ≡ AtLet
    go (Value v) First e = e
    go (Value v) Second e = e
    go (Next v) First e = e
    go (Next v) Second e = e
    go (Address v) First e = e
    go (Address v) Second e = e
    go (Stops v) First e = e
    go (Stops v) Second e = e
    go (Pair v h) First e = e
    go (Pair v h) Second e = e
not_at_let P by Load ys t ts First m e = e
not_at_let P by Load ys t ts Second m e = e
not_at_let P by (Retire n) ys t ts First m e = e
not_at_let P by (Retire n) ys t ts Second m e = e
not_at_let P by Squash ys t ts First m e = e
not_at_let P by Squash ys t ts Second m e = e
not_at_let P by (Speculate (Guess v)) ys t ts First m e = e
not_at_let P by (Speculate (Guess v)) ys t ts Second m e = e
not_at_let P by (Speculate Confirm) ys t ts First m e = e
not_at_let P by (Speculate Confirm) ys t ts Second m e = e
not_at_let P by (Speculate Flush) ys t ts First m e = e
not_at_let P by (Speculate Flush) ys t ts Second m e = e
not_at_let P by Mend ys t ts First m e = ap (λ f. (mended_as t f).first.way) m.fate ∙ e
not_at_let P by Mend ys t ts Second m e = ap (λ f. (mended_as t f).second.way) m.fate ∙ e

makers_kept : (P : Program) (C : Sizes) (U : UpdateUnit) (by : ℕ) (s : Step) → Allowed P C U by s → IsSound P U.tenants → HaveMakers P U.tenants → HaveMakers P (applied P C U by s).tenants
makers_kept P C U by (Let index predicted first second) a ok all r t k is ne = ⊎_elim
    (λ old. more_maker P n U.tenants (operand k t).creator (all r t k old ne))
    (λ (new : (r ≡ length U.tenants) × (n ≡ t)). more_maker P n U.tenants (operand k t).creator
    (subst (λ (z : Tenant). HasMaker P U.tenants (operand k z).creator) new.1 (mine k (λ e. ne (ap (λ z. (operand k z).way) (sym new.1) ∙ e)))))
    (at_cases n U.tenants r t is)
  where
    n : Tenant
    n = new_tenant P C U index predicted first second

    mine : (k : Source) → (operand k n).way ≢ AtLet → HasMaker P U.tenants (operand k n).creator
    mine First ne = let_maker P U (next_station C (recent U)) (creator P U.tenants (first_of (instr_of P index))) first a.first_is ne
    mine Second ne = let_maker P U (next_station C (recent U)) (creator P U.tenants (second_of (instr_of P index))) second a.second_is ne
makers_kept P C U by (On p act) a ok all r t k is ne =
    let V = applied P C U by (On p act) in
    let was = came P C U by p act a ok r t is in
    let before : (operand k was.tenant).way ≢ AtLet = λ e. ne (⊎_elim
    (λ (same : at V.tenants r ≡ Some was.tenant). ap (λ z. (operand k z).way) (same_Some t was.tenant (sym is ∙ same)) ∙ e)
    (λ (z : Acted P U by (On p act) V.tenants r was.tenant). ap (λ z. (operand k z).way) (same_Some t (changed P by z.act was.tenant (older U.tenants r)) (sym is ∙ z.now)) ∙
    not_at_let P by z.act (younger U.tenants r) was.tenant (older U.tenants r) k z.may e)
    (exact P C U by (On p act) a r was.tenant was.is)) in
    let m = all r was.tenant k was.is before in
    let g = goes P C U by (On p act) a ok m.q m.tenant m.is in
    record { q = m.q; tenant = g.tenant; creates = was.goes.creator k ∙ m.creates; is = g.is; waits = λ e. m.waits (ap (λ i. kind (instr_of P i).op) (sym g.goes.index) ∙ e) }
makers_kept P C U by Renew a ok all r t k is ne = all r t k is ne

pub have_makers : (P : Program) (C : Sizes) (ss : List Taken) → AreAllowed P C ss → HaveMakers P (reached P C ss).tenants
have_makers P C [] a r t k is ne = absurd (cc is)
have_makers P C (s ∷ ss) a r t k is ne = makers_kept P C (reached P C ss) s.by s.step a.1 (sound P C ss a.0) (have_makers P C ss a.0) r t k is ne

-- A creator of a tenant of the path is of the path, and writes a register

pub record IsWriter (P : Program) (t : Tenant) : Type 0 where
  pub path : on_path t ≡ true
  pub writes : destination_of P t ≢ 0

both_true : (a b : Bool) → a && b ≡ true → (a ≡ true) × (b ≡ true)
both_true true true e = (refl, refl)
both_true true false e = absurd (cc e)
both_true false b e = absurd (cc e)

last_is_writer : (P : Program) (ts : List Tenant) (r q : ℕ) (u : Tenant) → r ≢ 0 → last_writer P ts r ≡ Some q → at ts q ≡ Some u → IsWriter P u
last_is_writer P [] r q u ne e is = absurd (cc is)
last_is_writer P (t ∷ ts) r q u ne e is = go (on_path t && eqb (destination_of P t) r) refl (last_is_writer P ts r q u ne)
  where
    go : (b : Bool) → (on_path t && eqb (destination_of P t) r) ≡ b → (last_writer P ts r ≡ Some q → at ts q ≡ Some u → IsWriter P u) → IsWriter P u
    go true f more =
        let here : length ts ≡ q = same_Some (length ts) q (ap (λ b. cond b (Some (length ts)) (last_writer P ts r)) (sym f) ∙ e) in
        let same : t ≡ u = same_Some t u (sym (at_new t ts) ∙ (ap (at (t ∷ ts)) here ∙ is)) in
        let both = both_true (on_path t) (eqb (destination_of P t) r) f in
        subst (IsWriter P) same (record { path = both.0; writes = λ z. ne (sym (eqb-true (destination_of P t) r both.1) ∙ z) })
    go false f more =
        let e' : last_writer P ts r ≡ Some q = ap (λ b. cond b (Some (length ts)) (last_writer P ts r)) (sym f) ∙ e in
        let below = last_writer_below P ts r in
        let small : q < length ts = subst (λ z. Below z (length ts)) e' below in
        more e' (ap (λ b. cond b (Some t) (at ts q)) (sym (eqb_less q (length ts) small)) ∙ is)

creator_is_writer : (P : Program) (ts : List Tenant) (r q : ℕ) (u : Tenant) → creator P ts r ≡ Some q → at ts q ≡ Some u → IsWriter P u
creator_is_writer P ts zero q u e is = absurd (none e)
  where
    none : None ≡ Some q → ⊥
    none e = cc e
creator_is_writer P ts (suc r) q u e is = go (can_be_written (suc r)) refl
  where
    go : (b : Bool) → can_be_written (suc r) ≡ b → IsWriter P u
    go true f = last_is_writer P ts (suc r) q u (λ z. absurd (omega arith)) (ap (λ b. cond b (last_writer P ts (suc r)) None) (sym f) ∙ e) is
    go false f = absurd (none (ap (λ b. cond b (last_writer P ts (suc r)) None) (sym f) ∙ e))
      where
        none : None ≡ Some q → ⊥
        none e = cc e

pub path_maker : (P : Program) (us : List Tenant) → IsSound P us → (r : ℕ) (t : Tenant) (k : Source) (q : ℕ) (u : Tenant) → at us r ≡ Some t → on_path t ≡ true → (operand k t).creator ≡ Some q →
    at (older us r) q ≡ Some u → IsWriter P u
path_maker P us ok r t k q u is on from there =
    let s = sound_mid P t (older us r) (younger us r) (subst (IsSound P) (split_at us r t is) ok) in
    let placed = s.placed on in
    go k from placed.first placed.second
  where
    go : (k : Source) → (operand k t).creator ≡ Some q → t.first.creator ≡ creator P (older us r) (first_of (instr P t)) →
        t.second.creator ≡ creator P (older us r) (second_of (instr P t)) → IsWriter P u
    go First e a b = creator_is_writer P (older us r) (first_of (instr P t)) q u (sym a ∙ e) there
    go Second e a b = creator_is_writer P (older us r) (second_of (instr P t)) q u (sym b ∙ e) there

-- A stop that has retired has what it took as made

abbrev pub StopsMade : List Tenant → Type 0
StopsMade us = (p : ℕ) (t : Tenant) (c : Stop) → at us p ≡ Some t → t.standing ≡ Retired → t.fate ≡ Stopped c → IsThere t.made

stop_made : (P : Program) (by : ℕ) (act : Act) (ys : List Tenant) (t : Tenant) (ts : List Tenant) (c : Stop) → May P by act ys t ts → (t.standing ≡ Retired → t.fate ≡ Stopped c → IsThere t.made)
    → (changed P by act t ts).standing ≡ Retired → (changed P by act t ts).fate ≡ Stopped c → IsThere (changed P by act t ts).made
stop_made P by (Link First) ys t ts c m h e f = h e f
stop_made P by (Link Second) ys t ts c m h e f = h e f
stop_made P by (Deliver First) ys t ts c m h e f = h e f
stop_made P by (Deliver Second) ys t ts c m h e f = h e f
stop_made P by Claim ys t ts c m h e f = let l = m.live in absurd (cc)
stop_made P by Finish ys t ts c m h e f = let l : t.standing ≡ Retired = sym (finished_station t (computed P t)).1 ∙ e in let k = m.live in absurd (cc)
stop_made P by Load ys t ts c m h e f = let l = m.live in absurd (cc)
stop_made P by (Retire n) ys t ts c m h e f = (n, ap (λ z. made_at_end z t.made n) f)
stop_made P by Squash ys t ts c m h e f = absurd (cc e)
stop_made P by (Speculate (Guess v)) ys t ts c m h e f = let l = m.live in absurd (cc)
stop_made P by (Speculate Confirm) ys t ts c m h e f = let l = m.live in absurd (cc)
stop_made P by (Speculate Flush) ys t ts c m h e f = absurd (cc e)
stop_made P by Mend ys t ts c m h e f = let l : t.standing ≡ Retired = sym (mended_station t t.fate).1 ∙ e in let k = m.live in absurd (cc)

stops_kept : (P : Program) (C : Sizes) (U : UpdateUnit) (by : ℕ) (s : Step) → Allowed P C U by s → IsSound P U.tenants → StopsMade U.tenants → StopsMade (applied P C U by s).tenants
stops_kept P C U by (Let index predicted first second) a ok all p t c is e f = ⊎_elim
    (λ old. all p t c old e f)
    (λ (new : (p ≡ length U.tenants) × (new_tenant P C U index predicted first second ≡ t)). let live = ap (λ (z : Tenant). z.standing) new.1 in absurd (apart (live ∙ e)))
    (at_cases (new_tenant P C U index predicted first second) U.tenants p t is)
  where
    apart : Live ≡ Retired → ⊥
    apart e = cc e
stops_kept P C U by (On r act) a ok all p t c is e f =
    let V = applied P C U by (On r act) in
    let was = came P C U by r act a ok p t is in ⊎_elim
    (λ (same : at V.tenants p ≡ Some was.tenant). let one : was.tenant ≡ t = same_Some was.tenant t (sym same ∙ is) in
    subst (λ (z : Tenant). z.standing ≡ Retired → z.fate ≡ Stopped c → IsThere z.made) one (all p was.tenant c was.is) e f)
    (λ (z : Acted P U by (On r act) V.tenants p was.tenant).
    let one : changed P by z.act was.tenant (older U.tenants p) ≡ t = same_Some (changed P by z.act was.tenant (older U.tenants p)) t (sym z.now ∙ is) in
    subst (λ (x : Tenant). x.standing ≡ Retired → x.fate ≡ Stopped c → IsThere x.made) one (stop_made P by z.act (younger U.tenants p) was.tenant (older U.tenants p) c z.may
    (all p was.tenant c was.is)) e f)
    (exact P C U by (On r act) a p was.tenant was.is)
stops_kept P C U by Renew a ok all p t c is e f = all p t c is e f

pub stops_made : (P : Program) (C : Sizes) (ss : List Taken) → AreAllowed P C ss → StopsMade (reached P C ss).tenants
stops_made P C [] a p t c is e f = absurd (cc is)
stops_made P C (s ∷ ss) a p t c is e f = stops_kept P C (reached P C ss) s.by s.step a.1 (sound P C ss a.0) (stops_made P C ss a.0) p t c is e f

-- What a maker that writes a register, and links nothing, has made, by its fate

-- live and not done: nothing. Else, unless it was squashed: what it leaves
abbrev pub Unmade : Fate → Type 0
Unmade (Done v) = ⊥
Unmade (Guessed v) = ⊥
Unmade _ = Unit {0}

module _ (P : Program) (us : List Tenant) (ok : IsSound P us) (q : ℕ) (u : Tenant) (is : at us q ≡ Some u) (waits : kind_of P u ≢ Links) (writer : IsWriter P u) where
  own_sound : IsSoundAt P (older us q) u
  own_sound = sound_mid P u (older us q) (younger us q) (subst (IsSound P) (split_at us q u is) ok)

  not_jumps : kind_of P u ≢ Jumps
  not_jumps e = writer.writes (ap (λ k. destination_by k (target_of (instr P u) u.half)) e)

  not_stores : kind_of P u ≢ Stores
  not_stores e = writer.writes (ap (λ k. destination_by k (target_of (instr P u) u.half)) e)

  none_at_let : (k : Kind) → k ≢ Links → (pc : ℕ) → made_at_let k pc ≡ None
  none_at_let Computes ne pc = refl
  none_at_let Jumps ne pc = refl
  none_at_let Links ne pc = absurd (ne refl)
  none_at_let Loads ne pc = refl
  none_at_let Stores ne pc = refl

  by_done : (k : Kind) (v : ℕ) → k ≢ Jumps → k ≢ Links → k ≢ Stores → DoneBy (computed P u) u.pc u.next u.made v k → u.made ≡ Some v
  by_done Computes v a b c d = d.1
  by_done Jumps v a b c d = absurd (a refl)
  by_done Links v a b c d = absurd (b refl)
  by_done Loads v a b c d = d.1
  by_done Stores v a b c d = absurd (c refl)

  pub made_when_done : (v : ℕ) → u.fate ≡ Done v → u.made ≡ Some v
  made_when_done v e = by_done (kind_of P u) v not_jumps waits not_stores (subst (λ f. FateBy (kind_of P u) (computed P u) u.pc u.predicted u.next u.made u.first.value u.second.value u.standing f) e
      own_sound.own.fate).0

  pub unmade_before : (f : Fate) → u.fate ≡ f → Unmade f → u.standing ≡ Live → u.made ≡ None
  unmade_before f e un live = go f un (subst (λ f. FateBy (kind_of P u) (computed P u) u.pc u.predicted u.next u.made u.first.value u.second.value u.standing f) e own_sound.own.fate)
    where
      go : (f : Fate) → Unmade f → FateBy (kind_of P u) (computed P u) u.pc u.predicted u.next u.made u.first.value u.second.value u.standing f → u.made ≡ None
      go Open un h = h.0 ∙ none_at_let (kind_of P u) waits u.pc
      go (Busy by) un h = h.0 ∙ none_at_let (kind_of P u) waits u.pc
      go (Addr a) un h = h.0
      go (Done v) un h = absurd un
      go (Guessed v) un h = absurd un
      go (Miss x) un h = h.0 ∙ none_at_let (kind_of P u) waits u.pc
      go (Stopped c) un h = h.0 (λ r. let x = sym live ∙ r in cc x)

  -- one that has retired leaves what it made
  pub left_when_retired : ((c : Stop) → u.fate ≡ Stopped c → IsThere u.made) → u.standing ≡ Retired → (v : ℕ) × (left_value u.fate u.made ≡ Some v) × (u.made ≡ Some v)
  left_when_retired stops gone =
      let placed = own_sound.placed (ap stands_on_path gone) in
      go u.fate refl (placed.can gone)
    where
      go : (f : Fate) → u.fate ≡ f → CanRetire (kind_of P u) u.second.value u.fate → (v : ℕ) × (left_value u.fate u.made ≡ Some v) × (u.made ≡ Some v)
      go (Done v) e c = (v, ap (λ f. left_value f u.made) e, made_when_done v e)
      go (Stopped x) e c = let m = stops x e in (m.0, ap (λ f. left_value f u.made) e ∙ m.1, m.1)
      go Open e c = absurd (subst (CanRetire (kind_of P u) u.second.value) e c)
      go (Busy by) e c = absurd (subst (CanRetire (kind_of P u) u.second.value) e c)
      go (Addr a) e c = absurd (not_stores (subst (CanRetire (kind_of P u) u.second.value) e c).0)
      go (Guessed v) e c = absurd (subst (CanRetire (kind_of P u) u.second.value) e c)
      go (Miss x) e c = absurd (subst (CanRetire (kind_of P u) u.second.value) e c)

-- A link that came too late: the creator has made its value

pub record IsLate (us : List Tenant) (c : Option ℕ) : Type 0 where
  pub q : ℕ
  pub value : ℕ
  pub tenant : Tenant
  pub creates : c ≡ Some q
  pub is : at us q ≡ Some tenant
  pub made : tenant.made ≡ Some value

abbrev pub AreLate : List Tenant → Type 0
AreLate us = (r : ℕ) (t : Tenant) (k : Source) → at us r ≡ Some t → (operand k t).way ≡ Linked false → IsLate us (operand k t).creator

late_by_link : (us : List Tenant) (c : Option ℕ) (q : ℕ) (u : Tenant) → c ≡ Some q → at us q ≡ Some u → is_none u.made ≡ false → IsLate us c
late_by_link us c q u e is late = go u.made refl late
  where
    go : (o : Option ℕ) → u.made ≡ o → is_none o ≡ false → IsLate us c
    go None f l = absurd (true≢false l)
    go (Some v) f l = record { q = q; value = v; tenant = u; creates = e; is = is; made = f }

late_kept : (P : Program) (C : Sizes) (ss : List Taken) (by : ℕ) (s : Step) → AreAllowed P C ss → Allowed P C (reached P C ss) by s → AreLate (reached P C ss).tenants →
    AreLate (applied P C (reached P C ss) by s).tenants
late_kept P C ss by (Let index predicted first second) are a all r t k is late = ⊎_elim
    (λ old. let x = all r t k old late in record {
      q = x.q;
      value = x.value;
      tenant = x.tenant;
      creates = x.creates;
      is = at_more (new_tenant P C U index predicted first second) U.tenants x.q x.tenant x.is;
      made = x.made;
    })
    (λ (new : (r ≡ length U.tenants) × (new_tenant P C U index predicted first second ≡ t)). absurd (not_linked P C U index predicted first second k false (ap (λ z. (operand k z).way) new.1 ∙ late)))
    (at_cases (new_tenant P C U index predicted first second) U.tenants r t is)
  where
    U : UpdateUnit
    U = reached P C ss
late_kept P C ss by (On p act) are a all r t k is late = ⊎_elim
    (λ (x : IsLate us (operand k was.tenant).creator). moved x (was.goes.creator k ∙ x.creates))
    (λ x. x)
    (go act refl)
  where
    U : UpdateUnit
    U = reached P C ss

    us : List Tenant
    us = (reached P C ss).tenants

    ok : IsSound P (reached P C ss).tenants
    ok = sound P C ss are

    was : Backward by (On p act) (reached P C ss).tenants r t
    was = came P C (reached P C ss) by p act a (sound P C ss are) r t is

    V : List Tenant
    V = (applied P C (reached P C ss) by (On p act)).tenants

    moved : (x : IsLate us (operand k was.tenant).creator) → (operand k t).creator ≡ Some x.q → IsLate V (operand k t).creator
    moved x e =
        let g = goes P C (reached P C ss) by (On p act) a (sound P C ss are) x.q x.tenant x.is in
        record { q = x.q; value = x.value; tenant = g.tenant; creates = e; is = g.is; made = g.goes.made x.value x.made }

    plain : IsNoLink (On p act) → IsLate us (operand k was.tenant).creator
    plain n = all r was.tenant k was.is (sym (was.goes.way n k) ∙ late)

    by_link : (j : Source) → act ≡ Link j → IsLate us (operand k was.tenant).creator
    by_link j e = ⊎_elim
        (λ (z : IsActed P us by p act a.tenant r was.tenant).
        let same : t ≡ linked (older us p) a.tenant j = same_Some t (linked (older us p) a.tenant j) (sym is ∙ (z.now ∙ ap (λ x. Some (changed P by x a.tenant (older us p))) e)) in ⊎_elim
        (λ (kj : k ≡ j).
        let unlinked : (operand k a.tenant).way ≡ Unlinked = ap (λ x. (operand x a.tenant).way) kj ∙ (subst (λ x. May P by x (younger us p) a.tenant (older us p)) e a.may).way in
        let m = have_makers P C ss are p a.tenant k a.is (λ w. let x = sym unlinked ∙ w in cc x) in
        let low = are_older P C ss are p a.tenant k m.q a.is m.creates in
        let there = at_older us p m.q m.tenant (at_below us p a.tenant a.is) low m.is in
        let worth : value_of (older us p) (operand k a.tenant).creator ≡ m.tenant.made = ap (value_of (older us p)) m.creates ∙ ap value_made there in
        let way : (operand k t).way ≡ Linked (is_none (value_of (older us p) (operand k a.tenant).creator)) =
        ap (λ x. (operand k x).way) same ∙ (ap (λ x. (operand k (linked (older us p) a.tenant x)).way) (sym kj) ∙ linked_way (older us p) k a.tenant) in
        let is_late : is_none m.tenant.made ≡ false = sym (ap is_none worth) ∙ same_bool (is_none (value_of (older us p) (operand k a.tenant).creator)) false (sym way ∙ late) in
        late_by_link us (operand k was.tenant).creator m.q m.tenant (ap (λ x. (operand k x).creator) z.tenant ∙ m.creates) m.is is_late)
        (λ (ne : k ≢ j). all r was.tenant k was.is (ap (λ x. (operand k x).way) z.tenant ∙ (sym (other_way (older us p) k j a.tenant ne) ∙ (ap (λ x. (operand k x).way) (sym same) ∙ late))))
        (source_same k j))
        (λ (z : IsLeft P us by p act r was.tenant).
        let same : t ≡ was.tenant = same_Some t was.tenant (sym is ∙ z.now) in
        all r was.tenant k was.is (ap (λ x. (operand k x).way) (sym same) ∙ late))
        (at_changed P us by p act a.tenant a.is r was.tenant was.is)
      where
        same_bool : (x y : Bool) → Linked x ≡ Linked y → x ≡ y
        same_bool x y e = cc e

    Plain : Act → Type 0
    Plain x = IsNoLinkAct x

    go : (x : Act) → act ≡ x → IsLate us (operand k was.tenant).creator ⊎ IsLate V (operand k t).creator
    go (Link j) e = inl (by_link j e)
    go (Deliver j) e = inl (plain (subst Plain (sym e) tt))
    go Claim e = inl (plain (subst Plain (sym e) tt))
    go Finish e = inl (plain (subst Plain (sym e) tt))
    go Load e = inl (plain (subst Plain (sym e) tt))
    go (Retire n) e = inl (plain (subst Plain (sym e) tt))
    go Squash e = inl (plain (subst Plain (sym e) tt))
    go (Speculate s) e = inl (plain (subst Plain (sym e) tt))
    go Mend e = inl (plain (subst Plain (sym e) tt))
late_kept P C ss by Renew are a all r t k is late = all r t k is late

pub are_late : (P : Program) (C : Sizes) (ss : List Taken) → AreAllowed P C ss → AreLate (reached P C ss).tenants
are_late P C [] a r t k is late = absurd (cc is)
are_late P C (s ∷ ss) a r t k is late = late_kept P C ss s.by s.step a.0 a.1 (are_late P C ss a.0) r t k is late

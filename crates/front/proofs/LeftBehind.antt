-- What a recovery leaves of the path: the tenants up to the miss, which goes on where it was mended to.
use Rattle.std.proofs.Common.{◌≡◌, ◌≢◌, ℕ, ◌<◌, true, false, cond, ◌&&◌, eqb, List, [], ◌∷◌, ◌++◌, map, length, Some, None, refl, sym, ap, ◌∙◌, subst, append_assoc}
use mathlib.Core.Logic.{dite}
use native.Mathlib.Decide.{ℕ_discrete}
use Rattle.std.specs.List.{AllByRecursion}
use Rattle.instructions.specs.Programs.{Program}
use Rattle.instructions.specs.declared.op.Half.TheVariants.{Low}
use Rattle.inorder.specs.declared.history.Act.TheVariants.{Mend}
use Rattle.inorder.specs.declared.history.Entry.{Entry}
use Rattle.inorder.specs.declared.history.Event.{Event}
use Rattle.inorder.specs.declared.history.Event.TheVariants.{Does, Marks, Refuses}
use Rattle.inorder.specs.declared.history.Step.TheVariants.{Let, On, Renew}
use Rattle.inorder.specs.History.{IsLegal, MayAdd, entry, front, own, unit_of}
use Rattle.inorder.specs.Legal.{MayAct}
use Rattle.inorder.specs.Steps.{mended, mended_as, squashed}
use Rattle.inorder.specs.Tenants.{Miss, Tenant, destination_of, is_first, on_path, stands_on_path}
use Rattle.inorder.specs.Unit.{Sizes, UpdateUnit, can_be_written, creator, front_half, front_pc, half_after, last_writer, older, younger}
use Rattle.inorder.proofs.Basics.{split_at}
use Rattle.inorder.proofs.Fated.{follows_from}
use Rattle.inorder.proofs.Grows.{creator_grows, sound_mid}
use Rattle.inorder.proofs.Histories.{legal_before, own-append, own_else, own_here, unit_sound}
use Rattle.inorder.proofs.Kept.{parts}
use Rattle.inorder.proofs.Moves.{length_changed}
use Rattle.inorder.proofs.Positions.{at_below}
use Rattle.inorder.proofs.Sound.{IsSound}
use Rattle.station.proofs.Paths.{path_more}
use Rattle.station.proofs.Splitting.{cut_back, last_event}
use Rattle.station.proofs.Squashing.{IsOff, off_path}
use Rattle.front.specs.Mended.{RecoveriesLeave, up_to}
use Rattle.front.specs.Recoveries.{squash_event}
use Rattle.front.proofs.Jumps.{no_first_half}
use Rattle.front.proofs.UpTo.{IsLiveAt, same_up_to, up_to_is}

-- The front alone lets: where it has let nobody, nobody was let

abbrev IsNoLet : Event → Type 0
IsNoLet (Does (Let index predicted first second)) = ⊥
IsNoLet _ = Unit {0}

module _ (P : Program) (C : Sizes) where
  same_width : (h : List Entry) (by : ℕ) (x : Event) → MayAdd P C h by x → IsNoLet x → length (unit_of P C (entry by x ∷ h)).tenants ≡ length (unit_of P C h).tenants
  same_width h by (Does (Let index predicted first second)) may other = absurd other
  same_width h by (Does Renew) may other = refl
  same_width h by (Does (On p act)) may other = length_changed P (unit_of P C h).tenants by p act may.1.tenant may.1.is
  same_width h by (Refuses r) may other = refl
  same_width h by (Marks k) may other = refl

  others_let_none : (h : List Entry) (by : ℕ) (x : Event) → MayAdd P C h by x → by ≢ front → IsNoLet x
  others_let_none h by (Does (Let index predicted first second)) may ne = absurd (ne may.0.0)
  others_let_none h by (Does Renew) may ne = tt
  others_let_none h by (Does (On p act)) may ne = tt
  others_let_none h by (Refuses r) may ne = tt
  others_let_none h by (Marks k) may ne = tt

  nobody_let : (more old : List Entry) (es : List Event) → IsLegal P C (more ++ old) → own front more ≡ map (entry front) es → AllByRecursion IsNoLet es →
      length (unit_of P C (more ++ old)).tenants ≡ length (unit_of P C old).tenants
  nobody_let [] old es legal mine other = refl
  nobody_let (e ∷ more) old es legal mine other = dite (ℕ_discrete e.by front)
      (λ is. its es (sym (own_here front e more is) ∙ mine) other (λ xs m o. nobody_let more old xs legal.0 m o))
      (λ ne. same_width (more ++ old) e.by e.event legal.1 (others_let_none (more ++ old) e.by e.event legal.1 ne)
      ∙ nobody_let more old es legal.0 (sym (own_else front e more ne) ∙ mine) other)
    where
      nothing : {X : Type 0} (a : Entry) (us : List Entry) → a ∷ us ≡ [] → X
      nothing a us q = absurd (cc q)

      first : (a b : Entry) (us vs : List Entry) → a ∷ us ≡ b ∷ vs → a ≡ b
      first a b us vs q = cc q

      others : (a b : Entry) (us vs : List Entry) → a ∷ us ≡ b ∷ vs → us ≡ vs
      others a b us vs q = cc q

      its : (es : List Event) → e ∷ own front more ≡ map (entry front) es → AllByRecursion IsNoLet es →
          ((xs : List Event) → own front more ≡ map (entry front) xs → AllByRecursion IsNoLet xs → length (unit_of P C (more ++ old)).tenants ≡ length (unit_of P C old).tenants) →
          length (unit_of P C (e ∷ (more ++ old))).tenants ≡ length (unit_of P C old).tenants
      its [] f other before = nothing e (own front more) f
      its (x ∷ xs) f other before =
          let same : e ≡ entry front x = first e (entry front x) (own front more) (map (entry front) xs) f in
          let rest : own front more ≡ map (entry front) xs = others e (entry front x) (own front more) (map (entry front) xs) f in
          same_width (more ++ old) e.by e.event legal.1 (subst IsNoLet (sym (ap (λ (z : Entry). z.event) same)) other.0) ∙ before xs rest other.1

  squashes_let_none : (ps : List ℕ) → AllByRecursion IsNoLet (map squash_event ps)
  squashes_let_none [] = tt
  squashes_let_none (p ∷ ps) = (tt, squashes_let_none ps)

-- A path that ends with a tenant after which all have left it

pc_off : (ys zs : List Tenant) → AllByRecursion IsOff ys → front_pc (ys ++ zs) ≡ front_pc zs
pc_off [] zs h = refl
pc_off (y ∷ ys) zs h = ap (λ b. cond b y.next (front_pc (ys ++ zs))) h.0 ∙ pc_off ys zs h.1

half_off : (P : Program) (ys zs : List Tenant) → AllByRecursion IsOff ys → front_half P (ys ++ zs) ≡ front_half P zs
half_off P [] zs h = refl
half_off P (y ∷ ys) zs h = ap (λ b. cond b (half_after (is_first P y)) (front_half P (ys ++ zs))) h.0 ∙ half_off P ys zs h.1

writer_off : (P : Program) (ys zs : List Tenant) (r : ℕ) → AllByRecursion IsOff ys → last_writer P (ys ++ zs) r ≡ last_writer P zs r
writer_off P [] zs r h = refl
writer_off P (y ∷ ys) zs r h =
    ap (λ b. cond (b && eqb (destination_of P y) r) (Some (length (ys ++ zs))) (last_writer P (ys ++ zs) r)) h.0 ∙ writer_off P ys zs r h.1

creator_off : (P : Program) (ys zs : List Tenant) (r : ℕ) → AllByRecursion IsOff ys → creator P (ys ++ zs) r ≡ creator P zs r
creator_off P ys zs r h = ap (λ c. cond (can_be_written r) c None) (writer_off P ys zs r h)

-- A mend, and what was before and after it
pub recoveries_leave : RecoveriesLeave
recoveries_leave P C old new station squashed m =
    let p = m.p in
    let l = last_event P C front old new (Does (On p Mend)) (map squash_event m.squashes) m.adds in
    let here : IsLegal P C (entry front (Does (On p Mend)) ∷ l.point) = legal_before P C l.after (entry front (Does (On p Mend)) ∷ l.point) l.legal in
    let W : UpdateUnit = unit_of P C l.point in
    let us = W.tenants in
    let a : MayAct P us front p Mend = here.1.1 in
    let t = a.tenant in
    let ts = older us p in
    let ys = younger us p in
    let x = a.may.x in
    let ok : IsSound P us = unit_sound P C l.point here.0 in
    let split : us ≡ ys ++ t ∷ ts = split_at us p t a.is in
    let stands = sound_mid P t ts ys (subst (IsSound P) split ok) in
    let off : AllByRecursion IsOff ys = off_path P t ts ys a.may.live a.may.youngest (subst (IsSound P) split ok) in
    let t' = mended t in
    let V : UpdateUnit = unit_of P C (entry front (Does (On p Mend)) ∷ l.point) in
    let put : V.tenants ≡ ys ++ t' ∷ ts = parts P us front p Mend t a.is in
    let made_is : mended_as t t.fate ≡ mended_as t (Miss x) = ap (mended_as t) a.may.fate in
    let path' : on_path t' ≡ on_path t = ap (λ (z : Tenant). on_path z) made_is in
    let on : on_path t' ≡ true = path' ∙ ap stands_on_path a.may.live in
    let computes = (follows_from P ts t stands.own).fate.miss x a.may.fate in
    let whole : is_first P t' ≡ false = ap (λ (z : Tenant). is_first P z) made_is ∙ no_first_half P t x computes in
    let pc : front_pc V.tenants ≡ x =
    ap (λ (z : List Tenant). front_pc z) put
    ∙ (pc_off ys (t' ∷ ts) off
    ∙ (ap (λ b. cond b t'.next (front_pc ts)) on ∙ ap (λ (z : Tenant). z.next) made_is)) in
    let half : front_half P V.tenants ≡ Low =
    ap (λ (z : List Tenant). front_half P z) put
    ∙ (half_off P ys (t' ∷ ts) off
    ∙ (ap (λ b. cond b (half_after (is_first P t')) (front_half P ts)) on ∙ ap half_after whole)) in
    let live : IsLiveAt W p = record { tenant = t; is = a.is; fact = a.may.live } in
    let after = path_more P C l.after (entry front (Does (On p Mend)) ∷ l.point) l.legal l.none in
    let more = l.before.begins.more in
    let is : l.point ≡ more ++ old = l.before.begins.is in
    let legal = subst (IsLegal P C) is here.0 in
    let es = map squash_event m.squashes in
    let mine : own front more ++ own front old ≡ map (entry front) es ++ own front old = sym (own-append front more old) ∙ (ap (own front) (sym is) ∙ l.before.mine) in
    let wide = nobody_let P C more old es legal (cut_back (own front more) (map (entry front) es) (own front old) mine) (squashes_let_none P C m.squashes) in
    let room = subst (λ n. p < n) (ap (λ (h : List Entry). length (unit_of P C h).tenants) is ∙ wide) (at_below us p t a.is) in
    record {
      next = x;
      point = l.point;
      since = l.before.begins;
      until = record { more = l.after ++ entry front (Does (On p Mend)) ∷ []; is = l.is ∙ sym (append_assoc l.after (entry front (Does (On p Mend)) ∷ []) l.point) };
      miss = record { tenant = t; is = a.is; fact = record { live = a.may.live; fate = a.may.fate } };
      pc = ap (λ (h : List Entry). front_pc (unit_of P C h).tenants) l.is ∙ (after.pc ∙ pc);
      half = ap (λ (h : List Entry). front_half P (unit_of P C h).tenants) l.is ∙ (after.half ∙ half);
      creators = λ r.
          ap (λ (h : List Entry). creator P (unit_of P C h).tenants r) l.is
          ∙ (after.creators r
          ∙ (ap (λ (z : List Tenant). creator P z r) put
          ∙ (creator_off P ys (t' ∷ ts) r off
          ∙ (creator_grows P t t' ts [] r (ap (λ (z : Tenant). z.index) made_is) (ap (λ (z : Tenant). z.half) made_is) path'
          ∙ (ap (λ (z : List Tenant). creator P z r) (sym (up_to_is us p t a.is))
          ∙ (ap (λ (h : List Entry). creator P (up_to (unit_of P C h).tenants p) r) is
          ∙ same_up_to P C p more old legal room (subst (λ (h : List Entry). IsLiveAt (unit_of P C h) p) is live) r))))));
    }

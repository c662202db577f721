-- How the steps move the operands of the stations.
use Rattle.std.proofs.Common.{◌≡◌, ◌≢◌, ◌⊎◌, ℕ, ◌<◌, Bool, true, false, cond, eqb, List, [], ◌∷◌, ◌++◌, length, Option, Some, refl, sym, ap, ◌∙◌, subst, ⊎_elim, arith, length-append, suc, ◌+◌}
use Rattle.std.proofs.Common.{ltb-true, ltb-false}
use Rattle.instructions.specs.Programs.{Program}
use Rattle.instructions.specs.declared.stop.Outcome.{Outcome}
use Rattle.instructions.specs.declared.stop.Outcome.TheVariants.{Pair, Address, Next, Stop as Stops, Value}
use Rattle.inorder.specs.declared.history.Act.{Act}
use Rattle.inorder.specs.declared.history.Act.TheVariants.{Claim, Deliver, Finish, Link, Load, Mend, Retire, Speculate, Squash}
use Rattle.inorder.specs.declared.history.Source.{Source}
use Rattle.inorder.specs.declared.history.Source.TheVariants.{First, Second}
use Rattle.inorder.specs.declared.history.Step.TheVariants.{Let, On}
use Rattle.inorder.specs.declared.history.Supply.{Supply}
use Rattle.inorder.specs.declared.history.Supply.TheVariants.{From, Known}
use Rattle.inorder.specs.Legal.{Allowed, Taken, applied, changed, reached}
use Rattle.inorder.specs.OperandWords.{let_word, KeepsOperands, MovesOperands, OperandsFollow, operand_word, operand_word_of, supply_for}
use Rattle.inorder.specs.StationWords.{last_of}
use Rattle.inorder.specs.Steps.{delivered, finished, mended_as, new_tenant}
use Rattle.inorder.specs.Tenants.{Addr, Busy, Done, Fate, Guessed, Miss, Open, Stopped, Tenant, computed, operand}
use Rattle.inorder.specs.Unit.{is_old, newest_of, Sizes, UpdateUnit, at, next_station, next_tag, older, recent, value_of, younger}
use Rattle.inorder.proofs.Basics.{eqb_less, eqb_self, split_at}
use Rattle.inorder.proofs.QueuePlaces.{older_length}
use Rattle.inorder.proofs.Kept.{parts}
use Rattle.inorder.proofs.Tags.{IsNewPlace, IsOldPlace, cut, AreTagged, higher, same_place, tagged}
use Rattle.inorder.specs.declared.history.Speculation.TheVariants.{Confirm, Flush, Guess}

-- The last tenant of a station, as seen by a function of it
seen_same : {X : Type 0} (g : Option Tenant → X) (t u : Tenant) (ts ys : List Tenant) (s : ℕ) →
    u.station ≡ t.station → g (Some u) ≡ g (Some t) →
    g (last_of (ys ++ u ∷ ts) s) ≡ g (last_of (ys ++ t ∷ ts) s)
seen_same g t u ts [] s e f = ap (λ q. g (cond (eqb q s) (Some u) (last_of ts s))) e ∙ go (eqb t.station s)
  where
    go : (b : Bool) → g (cond b (Some u) (last_of ts s)) ≡ g (cond b (Some t) (last_of ts s))
    go true = f
    go false = refl
seen_same g t u ts (y ∷ ys) s e f = go (eqb y.station s) (seen_same g t u ts ys s e f)
  where
    go : (b : Bool) → g (last_of (ys ++ u ∷ ts) s) ≡ g (last_of (ys ++ t ∷ ts) s) →
        g (cond b (Some y) (last_of (ys ++ u ∷ ts) s)) ≡ g (cond b (Some y) (last_of (ys ++ t ∷ ts) s))
    go true h = refl
    go false h = h

-- the tenant between ys and ts
mid_at : (t : Tenant) (ts ys : List Tenant) → at (ys ++ t ∷ ts) (length ts) ≡ Some t
mid_at t ts [] = ap (λ b. cond b (Some t) (at ts (length ts))) (eqb_self (length ts))
mid_at t ts (y ∷ ys) =
    let less : length ts < length (ys ++ t ∷ ts) = omega (arith, length-append ys (t ∷ ts)) in
    ap (λ b. cond b (Some y) (at (ys ++ t ∷ ts) (length ts))) (eqb_less (length ts)
    (length (ys ++ t ∷ ts)) less) ∙ mid_at t ts ys

-- where t is the last, another in its place is the last
last_here : (C : Sizes) (t u : Tenant) (ts ys : List Tenant) → u.station ≡ t.station →
    AreTagged C (ys ++ t ∷ ts) → last_of (ys ++ t ∷ ts) t.station ≡ Some t →
    last_of (ys ++ u ∷ ts) t.station ≡ Some u
last_here C t u ts [] e tags h =
    ap (λ b. cond b (Some u) (last_of ts t.station)) (ap (λ q. eqb q t.station) e ∙ eqb_self t.station)
last_here C t u ts (y ∷ ys) e tags h = go (eqb y.station t.station) refl (last_here C t u ts ys e tags.1)
  where
    head : (b : Bool) → eqb y.station t.station ≡ b →
        cond b (Some y) (last_of (ys ++ t ∷ ts) t.station) ≡ Some t
    head b g = ap (λ x. cond x (Some y) (last_of (ys ++ t ∷ ts) t.station)) (sym g) ∙ h

    go : (b : Bool) → eqb y.station t.station ≡ b →
        (last_of (ys ++ t ∷ ts) t.station ≡ Some t → last_of (ys ++ u ∷ ts) t.station ≡ Some u) →
        last_of (y ∷ (ys ++ u ∷ ts)) t.station ≡ Some u
    go true g rest =
        let is : y ≡ t = cc (head true g) in
        let low = higher C y t (ys ++ t ∷ ts) (length ts) tags (mid_at t ts ys) (ap (λ z. z.station) is) in
        let tag : y.tag ≡ t.tag = ap (λ z. z.tag) is in
        absurd (omega arith)
    go false g rest = ap (λ x. cond x (Some y) (last_of (ys ++ u ∷ ts) t.station)) g ∙ rest (head false g)

-- where it is not, nothing changes
last_not : (t u : Tenant) (ts ys : List Tenant) (s : ℕ) → u.station ≡ t.station →
    last_of (ys ++ t ∷ ts) s ≢ Some t → last_of (ys ++ u ∷ ts) s ≡ last_of (ys ++ t ∷ ts) s
last_not t u ts [] s e h = ap (λ q. cond (eqb q s) (Some u) (last_of ts s)) e ∙ go (eqb t.station s) h
  where
    go : (b : Bool) → cond b (Some t) (last_of ts s) ≢ Some t →
        cond b (Some u) (last_of ts s) ≡ cond b (Some t) (last_of ts s)
    go true n = absurd (n refl)
    go false n = refl
last_not t u ts (y ∷ ys) s e h = go (eqb y.station s) h (last_not t u ts ys s e)
  where
    go : (b : Bool) → cond b (Some y) (last_of (ys ++ t ∷ ts) s) ≢ Some t →
        (last_of (ys ++ t ∷ ts) s ≢ Some t → last_of (ys ++ u ∷ ts) s ≡ last_of (ys ++ t ∷ ts) s) →
        cond b (Some y) (last_of (ys ++ u ∷ ts) s) ≡ cond b (Some y) (last_of (ys ++ t ∷ ts) s)
    go true n rest = refl
    go false n rest = rest n

-- what a delivery leaves of the tenant
given_operand : (ts : List Tenant) (t : Tenant) (k : Source) →
    operand_word_of k (Some (delivered ts t k)) ≡ Some
    (record { tag = t.tag; value = value_of ts (operand k t).creator })
given_operand ts t First = refl
given_operand ts t Second = refl

other_operand : (ts : List Tenant) (t : Tenant) (j k : Source) → j ≢ k →
    operand_word_of j (Some (delivered ts t k)) ≡ operand_word_of j (Some t)
other_operand ts t First First h = absurd (h refl)
other_operand ts t First Second h = refl
other_operand ts t Second First h = refl
other_operand ts t Second Second h = absurd (h refl)

-- what the other acts leave
kept_operand : (P : Program) (by : ℕ) (act : Act) (t : Tenant) (ts : List Tenant) (j : Source) →
    KeepsOperands act → operand_word_of j (Some (changed P by act t ts)) ≡ operand_word_of j (Some t)
kept_operand P by (Deliver w) t ts j k = absurd k
kept_operand P by (Link First) t ts First k = refl
kept_operand P by (Link First) t ts Second k = refl
kept_operand P by (Link Second) t ts First k = refl
kept_operand P by (Link Second) t ts Second k = refl
kept_operand P by Claim t ts First k = refl
kept_operand P by Claim t ts Second k = refl
kept_operand P by Finish t ts j k = go (computed P t) j
  where
    go : (o : Outcome) (j : Source) → operand_word_of j (Some (finished t o)) ≡ operand_word_of j (Some t)
    go (Value v) First = refl
    go (Value v) Second = refl
    go (Next v) First = refl
    go (Next v) Second = refl
    go (Address v) First = refl
    go (Address v) Second = refl
    go (Stops v) First = refl
    go (Stops v) Second = refl
    go (Pair v h) First = refl
    go (Pair v h) Second = refl
kept_operand P by Load t ts First k = refl
kept_operand P by Load t ts Second k = refl
kept_operand P by (Retire n) t ts First k = refl
kept_operand P by (Retire n) t ts Second k = refl
kept_operand P by Squash t ts First k = refl
kept_operand P by Squash t ts Second k = refl
kept_operand P by (Speculate (Guess v)) t ts First k = refl
kept_operand P by (Speculate (Guess v)) t ts Second k = refl
kept_operand P by (Speculate Confirm) t ts First k = refl
kept_operand P by (Speculate Confirm) t ts Second k = refl
kept_operand P by (Speculate Flush) t ts First k = refl
kept_operand P by (Speculate Flush) t ts Second k = refl
kept_operand P by Mend t ts j k = go t.fate j
  where
    go : (f : Fate) (j : Source) → operand_word_of j (Some (mended_as t f)) ≡ operand_word_of j (Some t)
    go Open j = refl
    go (Busy v) j = refl
    go (Addr v) j = refl
    go (Done v) j = refl
    go (Miss v) First = refl
    go (Miss v) Second = refl
    go (Guessed v) j = refl
    go (Stopped v) j = refl

module _ (P : Program) (C : Sizes) (U : UpdateUnit) (by : ℕ) (tags : AreTagged C (recent U)) where
  -- what a let gives
  let_operands : (index predicted : ℕ) (first second : Supply) (k : Source) →
      operand_word_of k (Some (new_tenant P C U index predicted first second)) ≡ Some
      (let_word (next_tag C (recent U)) (supply_for k first second))
  let_operands index predicted (Known v) second First = refl
  let_operands index predicted From second First = refl
  let_operands index predicted first (Known v) Second = refl
  let_operands index predicted first From Second = refl

  after_let : (index predicted : ℕ) (first second : Supply) (s : ℕ) (k : Source) →
      operand_word (recent (applied P C U by (Let index predicted first second))) s k ≡ cond (eqb
      (next_station C (recent U)) s) (Some
      (let_word (next_tag C (recent U)) (supply_for k first second))) (operand_word
      (recent U) s k)
  after_let index predicted first second s k = go (eqb (next_station C (recent U)) s)
    where
      go : (b : Bool) →
          operand_word_of k (cond b (Some (new_tenant P C U index predicted first second))
          (last_of (recent U) s)) ≡ cond b (Some
          (let_word (next_tag C (recent U)) (supply_for k first second))) (operand_word
          (recent U) s k)
      go true = let_operands index predicted first second k
      go false = refl

  -- the place of a tenant in the list
  wide : (p : ℕ) (t : Tenant) → at U.tenants p ≡ Some t → length U.tenants ≡ suc (length (younger U.tenants p) + p)
  wide p t e =
      let split = ap (λ z. length z) (split_at U.tenants p t e) in
      let all = length-append (younger U.tenants p) (t ∷ older U.tenants p) in
      let own = older_length U.tenants p t e in
      omega (arith, split, all, own)

  new_place : (p : ℕ) (t : Tenant) → at U.tenants p ≡ Some t → is_old U p ≡ false →
      IsNewPlace U.fresh (younger U.tenants p) (older U.tenants p)
  new_place p t e new = ⊎_elim
      (λ (old : IsOldPlace U.fresh (younger U.tenants p) (older U.tenants p)).
      let w = wide p t e in
      let f = old.few in
      let no = ltb-false (p + U.fresh) (length U.tenants) new in
      absurd (omega (arith, w, f, no)))
      (λ n. n)
      (cut U.fresh (younger U.tenants p) (older U.tenants p))

  old_place : (p : ℕ) (t : Tenant) → at U.tenants p ≡ Some t → is_old U p ≡ true →
      IsOldPlace U.fresh (younger U.tenants p) (older U.tenants p)
  old_place p t e old = ⊎_elim
      (λ o. o)
      (λ (new : IsNewPlace U.fresh (younger U.tenants p) (older U.tenants p)).
      let w = wide p t e in
      let f = new.many in
      let no = ltb-true (p + U.fresh) (length U.tenants) old in
      absurd (omega (arith, w, f, no)))
      (cut U.fresh (younger U.tenants p) (older U.tenants p))

  to_last : (p : ℕ) (k : Source) (t : Tenant) → at U.tenants p ≡ Some t → is_old U p ≡ false →
      last_of (recent U) t.station ≡ Some t →
      operand_word (recent (applied P C U by (On p (Deliver k)))) t.station k ≡ Some
      (record { tag = t.tag; value = value_of (older U.tenants p) (operand k t).creator })
  to_last p k t e new h =
      let ts = U.tenants in
      let n = new_place p t e new in
      let now = ap (newest_of U.fresh) (split_at ts p t e) ∙ n.is t in
      let u = delivered (older ts p) t k in
      let same = (same_place P by (Deliver k) t (older ts p)).0 in
      let last = last_here C t u n.zs (younger ts p) same (subst (AreTagged C) now tags) (ap
      (λ W. last_of W t.station) (sym now) ∙ h) in
      ap (λ W. operand_word (newest_of U.fresh W) t.station k) (parts P ts by p (Deliver k) t e)
      ∙ ap (λ W. operand_word W t.station k) (n.is u) ∙ ap (operand_word_of k) last
      ∙ given_operand (older ts p) t k

  -- another tenant at the place of t
  moved : (p : ℕ) (act : Act) (t : Tenant) (s : ℕ) (j : Source) → at U.tenants p ≡ Some t →
      ((zs : List Tenant) → newest_of U.fresh U.tenants ≡ younger U.tenants p ++ t ∷ zs →
      operand_word (younger U.tenants p ++ changed P by act t (older U.tenants p) ∷ zs) s j ≡ operand_word (younger U.tenants p ++ t ∷ zs) s j) →
      operand_word (recent (applied P C U by (On p act))) s j ≡ operand_word (recent U) s j
  moved p act t s j e f =
      let ts = U.tenants in
      let u = changed P by act t (older ts p) in
      let split = ap (newest_of U.fresh) (split_at ts p t e) in
      ap (λ W. operand_word (newest_of U.fresh W) s j) (parts P ts by p act t e)
      ∙ ⊎_elim
      (λ (old : IsOldPlace U.fresh (younger ts p) (older ts p)). ap (λ W. operand_word W s j) (old.same u t))
      (λ (n : IsNewPlace U.fresh (younger ts p) (older ts p)).
      ap (λ W. operand_word W s j) (n.is u) ∙ f n.zs (split ∙ n.is t) ∙ sym (ap (λ W. operand_word W s j) (n.is t)))
      (cut U.fresh (younger ts p) (older ts p))
      ∙ ap (λ W. operand_word W s j) (sym split)

  elsewhere : (p : ℕ) (k : Source) (t : Tenant) (s : ℕ) (j : Source) → at U.tenants p ≡ Some t →
      (is_old U p ≡ true) ⊎ (last_of (recent U) s ≢ Some t) ⊎ (j ≢ k) →
      operand_word (recent (applied P C U by (On p (Deliver k)))) s j ≡ operand_word (recent U) s j
  elsewhere p k t s j e h = ⊎_elim
      (λ o. let old = old_place p t e o in
      ap (λ W. operand_word (newest_of U.fresh W) s j) (parts P U.tenants by p (Deliver k) t e)
      ∙ ap (λ W. operand_word W s j) (old.same (delivered (older U.tenants p) t k) t ∙ sym (ap (newest_of U.fresh) (split_at U.tenants p t e))))
      (λ (h' : (last_of (recent U) s ≢ Some t) ⊎ (j ≢ k)). moved p (Deliver k) t s j e (λ zs now.
      let same = (same_place P by (Deliver k) t (older U.tenants p)).0 in
      ⊎_elim
      (λ ne. ap (operand_word_of j) (last_not t (delivered (older U.tenants p) t k) zs (younger U.tenants p) s same (λ x. ne (ap (λ W. last_of W s) now ∙ x))))
      (λ ne. seen_same (operand_word_of j) t (delivered (older U.tenants p) t k) zs (younger U.tenants p) s same (other_operand (older U.tenants p) t j k ne))
      h'))
      h

  operands_kept : (p : ℕ) (act : Act) (s : ℕ) (j : Source) → KeepsOperands act → Allowed P C U by (On p act) →
      operand_word (recent (applied P C U by (On p act))) s j ≡ operand_word (recent U) s j
  operands_kept p act s j k a =
      let t = a.tenant in
      moved p act t s j a.is (λ zs now.
      seen_same (operand_word_of j) t (changed P by act t (older U.tenants p)) zs (younger U.tenants p) s
      (same_place P by act t (older U.tenants p)).0 (kept_operand P by act t (older U.tenants p) j k))

  moves_operands : MovesOperands P C U by
  moves_operands =
      record {
        after_let = after_let;
        to_last = λ p k t a. to_last p k t;
        elsewhere = λ p k t s j a. elsewhere p k t s j;
        kept = operands_kept;
      }

pub operands_follow : (P : Program) (C : Sizes) (history : List Taken) (by : ℕ) → OperandsFollow P C history by
operands_follow P C history by a = moves_operands P C (reached P C history) by (tagged P C history a)

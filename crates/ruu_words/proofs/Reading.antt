-- Loads of info words and of operand words.
use Rattle.std.proofs.Common.{◌≡◌, ◌≢◌, ℕ, ◌+◌, Bool, true, false, cond, eqb, List, [], ◌∷◌, ◌++◌, length, Option, Some, None, refl, sym, ap, ◌∙◌, subst, inl, inr, arith, ne_eqb, eq-eqb, true≢false}
use mathlib.Core.Logic.{dite}
use native.Mathlib.Decide.{ℕ_discrete}
use Rattle.std.specs.List.{AllByRecursion}
use Rattle.std.proofs.lemmas.Option.{same_Some}
use Rattle.instructions.specs.Instruction.{kind}
use Rattle.instructions.specs.Programs.{Program, instr_of}
use Rattle.inorder.specs.declared.history.Entry.{Entry}
use Rattle.inorder.specs.declared.history.Refusal.TheVariants.{Moved, Waiting}
use Rattle.inorder.specs.declared.history.Source.{Source}
use Rattle.inorder.specs.declared.history.Source.TheVariants.{First, Second}
use Rattle.inorder.specs.declared.history.Step.{Step}
use Rattle.inorder.specs.declared.history.Supply.{Supply}
use Rattle.inorder.specs.History.{IsLegal, IsUnit, WasOpen, taken_of, unit_of}
use Rattle.inorder.specs.Legal.{AreAllowed}
use Rattle.inorder.specs.OperandWords.{operand_word, operand_word_of}
use Rattle.inorder.specs.StationWords.{last_of}
use Rattle.inorder.specs.Steps.{MayLet, new_tenant}
use Rattle.inorder.specs.Tenants.{IsThere, Live, Tenant, is_live, kind_of, missing, missing_of, needs, operand}
use Rattle.inorder.specs.Unit.{Sizes, UpdateUnit, at, is_old, older, recent, younger}
use Rattle.inorder.proofs.Basics.{split_at}
use Rattle.inorder.proofs.Grows.{all_mid}
use Rattle.inorder.proofs.Moves.{Goes}
use Rattle.inorder.proofs.Positions.{at_more}
use Rattle.inorder.proofs.Recent.{live_is_recent, recent_at}
use Rattle.inorder.proofs.Stations.{AreApart, IsElsewhere, all_elsewhere, fewer_newest, settling, settling_newest, stands}
use Rattle.inorder.proofs.StationsShown.{last_live}
use Rattle.inorder.proofs.Tags.{AreTagged, names_one, passed, tagged}
use Rattle.ruu_words.specs.declared.place.Place.TheVariants.{Info, Operand}
use Rattle.ruu_words.specs.declared.rule.Draft.{Draft}
use Rattle.ruu_words.specs.declared.rule.Draft.TheVariants.{Nothing, Of}
use Rattle.ruu_words.specs.declared.rule.Role.TheVariants.{Worker}
use Rattle.ruu_words.specs.declared.rule.View.{View}
use Rattle.ruu_words.specs.Content.{IsDraft, IsInfo, IsOperand, IsOperandOf, has_operand, info_unit, operand_unit, with_new}
use Rattle.ruu_words.specs.Fields.{state_of, tag_of, word_value}
use Rattle.ruu_words.specs.Kinds.{IsClosed, IsTenant, ReadsInfo, ReadsSource}
use Rattle.ruu_words.specs.Views.{IsCaller}
use Rattle.ruu_words.proofs.Building.{looks, tells}
use Rattle.ruu_words.specs.Plans.{Plans}
use Rattle.inorder.proofs.Histories.{allowed_steps, unit_sound}
use Rattle.ruu_words.proofs.StationWords.{find_last}
use Rattle.ruu_words.proofs.Stays.{tenant_stays, was_open_stays, with_fact}

pub has_last : (U : List Tenant) (p : ℕ) (t : Tenant) → at U p ≡ Some t → last_of U t.station ≢ None
has_last [] p t h = λ e. cc h
has_last (u ∷ us) p t h = go (eqb p (length us)) refl (eqb u.station t.station) refl (has_last us p t)
  where
    go : (b : Bool) → eqb p (length us) ≡ b → (b' : Bool) → eqb u.station t.station ≡ b' → (at us p ≡ Some t → last_of us t.station ≢ None) → last_of (u ∷ us) t.station ≢ None
    go b e true f more = λ z. let x : Some u ≡ None = ap (λ y. cond y (Some u) (last_of us t.station)) (sym f) ∙ z in cc x
    go true e false f more =
        let is : Some u ≡ Some t = ap (λ y. cond y (Some u) (at us p)) (sym e) ∙ h in
        let same : u ≡ t = cc is in
        let on : eqb u.station t.station ≡ true = eq-eqb u.station t.station (ap (λ x. x.station) same) in
        absurd (true≢false (sym on ∙ f))
    go false e false f more = λ z. more (ap (λ y. cond y (Some u) (at us p)) (sym e) ∙ h) (ap (λ y. cond y (Some u) (last_of us t.station)) (sym f) ∙ z)

module _ (P : Program) (C : Sizes) (h : List Entry) (legal : IsLegal P C h) where
  abbrev U : UpdateUnit
  U = unit_of P C h

  abbrev us : List Tenant
  us = U.tenants

  allowed : AreAllowed P C (taken_of h)
  allowed = allowed_steps P C h legal

  -- a live tenant is the last of its station
  pub last_is : (p : ℕ) (t : Tenant) → at us p ≡ Some t → t.standing ≡ Live → last_of (recent U) t.station ≡ Some t
  last_is p t is live =
      let x = recent_at U p t is (live_is_recent P C h legal p t is live) in
      let ws = recent U in
      let split = split_at ws x.r t x.is in
      ap (λ z. last_of z t.station) split ∙ last_live t t (older ws x.r) (younger ws x.r) live refl (subst AreApart split (stands P C (taken_of h) allowed).apart)

  -- and no tenant in progress is of its station
  draft_apart : (index predicted : ℕ) (first second : Supply) → MayLet P C U index predicted first second → (p : ℕ) (t : Tenant) → at us p ≡ Some t → t.standing ≡ Live →
      t.station ≢ (new_tenant P C U index predicted first second).station
  draft_apart index predicted first second may p t is live =
      let n : Tenant = new_tenant P C U index predicted first second in
      let x = recent_at U p t is (live_is_recent P C h legal p t is live) in
      let ws = recent U in
      let few = fewer_newest is_live U.fresh us in
      let room = may.room in
      let all = all_elsewhere P C n ws [] ws refl refl (omega (arith, few, room)) (settling_newest U.fresh us (settling P us (unit_sound P C h legal)))
      (stands P C (taken_of h) allowed).placed in
      all_mid (IsElsewhere n) t (older ws x.r) (younger ws x.r) (subst (AllByRecursion (IsElsewhere n)) (split_at ws x.r t x.is) all) live

  with_draft : (index predicted : ℕ) (first second : Supply) → MayLet P C U index predicted first second → (p : ℕ) (t : Tenant) → at us p ≡ Some t → t.standing ≡ Live →
      last_of (new_tenant P C U index predicted first second ∷ recent U) t.station ≡ Some t
  with_draft index predicted first second may p t is live =
      let n : Tenant = new_tenant P C U index predicted first second in
      let off = ne_eqb n.station t.station (λ e. draft_apart index predicted first second may p t is live (sym e)) in
      ap (λ b. cond b (Some n) (last_of (recent U) t.station)) off ∙ last_is p t is live

  -- the last tenant of the unit that info or operand words follow
  info_last : (d : Draft) → IsDraft P C U d → (p : ℕ) (t : Tenant) → at us p ≡ Some t → t.standing ≡ Live → last_of (recent (info_unit P C U d)) t.station ≡ Some t
  info_last Nothing draft p t is live = last_is p t is live
  info_last (Of stage index predicted first second) draft p t is live = with_draft index predicted first second draft.0 p t is live

  pub operand_last : (d : Draft) (k : Source) → IsDraft P C U d → (p : ℕ) (t : Tenant) → at us p ≡ Some t → t.standing ≡ Live → last_of (recent (operand_unit P C U d k)) t.station ≡ Some t
  operand_last Nothing k draft p t is live = last_is p t is live
  operand_last (Of stage index predicted first second) k draft p t is live = go (has_operand stage k)
    where
      go : (b : Bool) → last_of (recent (cond b (with_new P C U index predicted first second) U)) t.station ≡ Some t
      go true = with_draft index predicted first second draft.0 p t is live
      go false = last_is p t is live

  -- a recent tenant of the unit among others
  pub record IsAmong (W : List Tenant) (p : ℕ) (t : Tenant) : Type 0 where
    pub r : ℕ
    pub is : at W r ≡ Some t
    pub position : p ≡ r + length (passed U.fresh us)

  -- its tenants are tagged, and the recent ones of the unit are among them
  pub record Among (W : List Tenant) : Type 0 where
    pub tagged_all : AreTagged C W
    pub there : (p : ℕ) (t : Tenant) → at us p ≡ Some t → is_old U p ≡ false → IsAmong W p t

  of_recent : (p : ℕ) (t : Tenant) → at us p ≡ Some t → is_old U p ≡ false → IsAmong (recent U) p t
  of_recent p t e new = let x = recent_at U p t e new in record { r = x.r; is = x.is; position = x.position }

  pub among : (d : Draft) (k : Source) → Among (recent (operand_unit P C U d k))
  among Nothing k = record { tagged_all = tagged P C (taken_of h) allowed; there = of_recent }
  among (Of stage index predicted first second) k = go (has_operand stage k)
    where
      go : (b : Bool) → Among (recent (cond b (with_new P C U index predicted first second) U))
      go true = record {
        tagged_all = (refl, tagged P C (taken_of h) allowed);
        there = λ p t e new. let x = of_recent p t e new in record { r = x.r; is = at_more (new_tenant P C U index predicted first second) (recent U) x.r t x.is; position = x.position };
      }
      go false = record { tagged_all = tagged P C (taken_of h) allowed; there = of_recent }

  -- an operand word with the tag of a tenant of the station is that tenant's
  pub its_operand : (W : List Tenant) → Among W → (s : ℕ) (k : Source) (n : ℕ) → IsOperand (operand_word W s k) n → (p : ℕ) (t : Tenant) → at us p ≡ Some t → is_old U p ≡ false → t.station ≡ s →
      t.tag ≡ tag_of n → IsOperandOf (record { tag = t.tag; value = (operand k t).value }) n
  its_operand W a s k n word p t is new station_is tag_is = go (last_of W s) refl word
    where
      go : (o : Option Tenant) → last_of W s ≡ o → IsOperand (operand_word_of k o) n → IsOperandOf (record { tag = t.tag; value = (operand k t).value }) n
      go None e w = let x = a.there p t is new in absurd (has_last W x.r t x.is (ap (last_of W) station_is ∙ e))
      go (Some l) e w =
          let f = find_last W s l e in
          let x = a.there p t is new in
          let same : x.r ≡ f.0 = names_one C W x.r f.0 t l a.tagged_all x.is f.1 (station_is ∙ sym f.2) (tag_is ∙ w.tag) in
          let one : l ≡ t = same_Some l t (sym f.1 ∙ (ap (at W) (sym same) ∙ x.is)) in
          subst (λ x. IsOperandOf (record { tag = x.tag; value = (operand k x).value }) n) one w

  -- with another tag, the tenant is not live
  pub not_live : (d : Draft) → IsDraft P C U d → (s : ℕ) (k : Source) (n : ℕ) → IsOperand (operand_word (recent (operand_unit P C U d k)) s k) n → (p : ℕ) (t : Tenant) → at us p ≡ Some t →
      t.station ≡ s → t.tag ≢ tag_of n → t.standing ≢ Live
  not_live d draft s k n word p t is station_is ne live =
      let last = operand_last d k draft p t is live in
      let w : IsOperand (operand_word_of k (Some t)) n = subst (λ o. IsOperand (operand_word_of k o) n) (ap (last_of (recent (operand_unit P C U d k))) (sym station_is) ∙ last) word in
      ne (sym w.tag)

-- a source whose word is not 2 waits
pub waits : (g : ℕ) (value : Option ℕ) (n : ℕ) → IsOperandOf (record { tag = g; value = value }) n → state_of n ≢ 2 → value ≡ None
waits g None n w ne = refl
waits g (Some v) n w ne = absurd (ne w.state)

pub delivered : (g : ℕ) (value : Option ℕ) (n : ℕ) → IsOperandOf (record { tag = g; value = value }) n → state_of n ≡ 2 → value ≡ Some (word_value n)
delivered g None n w e = let s = w.state in absurd (omega arith)
delivered g (Some v) n w e = ap Some (sym w.value)

-- what a claim has to know of the sources before source k
abbrev pub IsNext : Program → Source → Tenant → Type 0
IsNext P First t = Unit {0}
IsNext P Second t = (needs (kind_of P t) Second ≡ true) × IsThere t.first.value

pub next_stays : (P : Program) (k : Source) (by : ℕ) (step : Step) (t t' : Tenant) → Goes by step t t' → IsNext P k t → IsNext P k t'
next_stays P First by step t t' m n = tt
next_stays P Second by step t t' m n =
    (ap (λ i. needs (kind (instr_of P i).op) Second) m.index ∙ n.0, (n.1.0, m.value First n.1.0 n.1.1))

least : (P : Program) (k : Source) (t : Tenant) → IsNext P k t → (operand k t).value ≡ None → missing P t ≡ Some k
least P First t n e = ap (λ z. missing_of (kind_of P t) z t.second.value) e
least P Second t n e =
    ap (λ z. missing_of (kind_of P t) z t.second.value) n.1.1
    ∙ (ap (λ z. missing_of (kind_of P t) (Some n.1.0) z) e ∙ ap (λ b. cond b (Some Second) None) n.0)

module _ (P : Program) (C : Sizes) where
  pub info_read_plan : (id : ℕ) (v : View) (s : ℕ) → Plans P C id v (Info s) (λ n. n) (ReadsInfo P C s)
  info_read_plan id v s between d legal same apart caller mine draft n small content =
      let h : List Entry = between ++ v.seen in
      looks P C id h d legal draft (Info s) n content (ReadsInfo P C s n)
      (record { none = refl; its = λ p t is e live. subst (λ o. IsInfo o n) (ap (last_of (recent (info_unit P C (unit_of P C h) d))) (sym e) ∙ info_last P C h legal d draft p t is live) content })

  pub source_plan : (id : ℕ) (v : View) (s g p : ℕ) (k : Source) → v.role ≡ Worker → IsTenant (unit_of P C v.seen) p s g (IsNext P k) → WasOpen P C v.seen p →
      Plans P C id v (Operand s k) (λ n. n) (ReadsSource P C s g k)
  source_plan id v s g p k role ready before between d legal same apart caller mine draft n small content =
      let h : List Entry = between ++ v.seen in
      let worker : IsUnit id = subst (λ r. IsCaller r id) role caller in
      let now = tenant_stays P C p s g (IsNext P k) (next_stays P k) between v.seen legal same ready in
      let t = now.tenant in
      let was = was_open_stays P C between v.seen p before in
      dite (ℕ_discrete (tag_of n) g)
      (λ tag.
      let w = its_operand P C h legal (recent (operand_unit P C (unit_of P C h) d k)) (among P C h legal d k) s k n content p t now.is now.new now.station_is (now.tag_is ∙ sym tag) in
      dite (ℕ_discrete (state_of n) 2)
      (λ there. looks P C id h d legal draft (Operand s k) n content (ReadsSource P C s g k n)
      (inl (
        tag,
        there,
        record {
          p = p;
          tenant = with_fact _ now (delivered t.tag (operand k t).value n w there);
          added = refl;
        },
      )))
      (λ not. let waiting = least P k t now.fact (waits t.tag (operand k t).value n w not) in
      tells P C id h d legal draft (Operand s k) n (Waiting p k) (worker, was, record { tenant = t; is = now.is; fact = waiting }) content (ReadsSource P C s g k n)
      (inr (inl (tag, not, record { p = p; tenant = with_fact _ now waiting; added = refl })))))
      (λ ne.
      let left = not_live P C h legal d draft s k n content p t now.is now.station_is (λ e. ne (sym e ∙ now.tag_is)) in
      let closed : IsClosed t = λ o. left o.live in
      tells P C id h d legal draft (Operand s k) n (Moved p) (worker, was, record { tenant = t; is = now.is; fact = closed }) content (ReadsSource P C s g k n)
      (inr (inr (ne, record { p = p; tenant = with_fact IsClosed now closed; added = refl }))))

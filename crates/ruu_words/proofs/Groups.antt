-- How the words of each group follow a step.
use Rattle.std.proofs.Common.{◌≡◌, ◌⊎◌, ℕ, suc, ◌<◌, Bool, true, false, cond, eqb, List, [], ◌∷◌, ◌++◌, Some, sym, ◌∙◌, subst, inl, inr, ⊎_elim}
use Rattle.instructions.specs.Programs.{Program}
use Rattle.inorder.specs.declared.history.Act.{Act}
use Rattle.inorder.specs.declared.history.Source.{Source}
use Rattle.inorder.specs.declared.history.Step.{Step}
use Rattle.inorder.specs.declared.history.Step.TheVariants.{On}
use Rattle.inorder.specs.Legal.{Allowed, MayAct, applied, change_at, changed}
use Rattle.inorder.specs.OperandWords.{operand_word, operand_word_of}
use Rattle.inorder.specs.Replies.{last_tag}
use Rattle.inorder.specs.StationWords.{last_of}
use Rattle.inorder.specs.Steps.{new_tenant}
use Rattle.inorder.specs.Tenants.{Linked, Tenant, operand}
use Rattle.inorder.specs.Unit.{Sizes, UpdateUnit, at, newest_of, older, recent, younger}
use Rattle.inorder.proofs.Basics.{split_at}
use Rattle.inorder.proofs.Grows.{sound_mid}
use Rattle.inorder.proofs.Kept.{parts}
use Rattle.inorder.proofs.Letting.{IsBesides, let_lasts}
use Rattle.inorder.proofs.Moves.{Goes, IsNoLink, changed_goes, came, goes}
use Rattle.inorder.proofs.Recent.{old_kept}
use Rattle.inorder.proofs.Sound.{IsSound}
use Rattle.inorder.proofs.Tags.{IsNewPlace, IsOldPlace, cut}
use Rattle.ruu_words.specs.declared.rule.Draft.{Draft}
use Rattle.ruu_words.specs.declared.rule.Draft.TheVariants.{Nothing, Of}
use Rattle.ruu_words.specs.Content.{IsDraft, IsInfo, IsInfoOf, IsLinkWord, IsLinked, IsOperand, NamesLink, has_operand, info_unit, operand_unit}
use Rattle.ruu_words.specs.Fields.{pack_link}

-- The let in progress

-- the tenant in progress is the same
abbrev pub SameDraft : Program → Sizes → UpdateUnit → UpdateUnit → Draft → Type 0
SameDraft P C U V Nothing = Unit {0}
SameDraft P C U V (Of stage index predicted first second) = new_tenant P C V index predicted first second ≡ new_tenant P C U index predicted first second

-- nothing is in progress, or others than the front step
abbrev pub MayStep : Draft → Step → Type 0
MayStep d s = (d ≡ Nothing) ⊎ IsBesides s

pub draft_stays : (P : Program) (C : Sizes) (U : UpdateUnit) (by : ℕ) (s : Step) (d : Draft) → MayStep d s →
    Allowed P C U by s → IsSound P U.tenants → IsDraft P C U d →
    IsDraft P C (applied P C U by s) d × SameDraft P C U (applied P C U by s) d
draft_stays P C U by s Nothing b a ok h = (tt, tt)
draft_stays P C U by s (Of stage index predicted first second) b a ok h = ⊎_elim
    (λ e. absurd (cc))
    (λ besides. let l = let_lasts P C U by s besides a ok index predicted first second h.0 in let tag = l.tag in ((l.may, subst (λ n. n < last_tag) (sym tag) h.1), l.new))
    b

-- Info words

info_drafted : (P : Program) (C : Sizes) (U V : UpdateUnit) (x n : ℕ) →
    (IsInfo (last_of (recent U) x) n → IsInfo (last_of (recent V) x) n) → (d : Draft) → SameDraft P C U V d →
    IsInfo (last_of (recent (info_unit P C U d)) x) n → IsInfo (last_of (recent (info_unit P C V d)) x) n
info_drafted P C U V x n keep Nothing same c = keep c
info_drafted P C U V x n keep (Of stage index predicted first second) same c =
    let t : Tenant = new_tenant P C U index predicted first second in
    subst (λ (z : Tenant). IsInfo (last_of (z ∷ recent V) x) n) (sym same) (go t (eqb t.station x) c)
  where
    go : (t : Tenant) (b : Bool) → IsInfo (cond b (Some t) (last_of (recent U) x)) n → IsInfo (cond b (Some t) (last_of (recent V) x)) n
    go t true i = i
    go t false i = keep i

-- the last tenant of a station, where one tenant changes
info_last : (t u : Tenant) (ts ys : List Tenant) (x n : ℕ) → u.station ≡ t.station → (IsInfoOf t n → IsInfoOf u n) → IsInfo (last_of (ys ++ t ∷ ts) x) n → IsInfo (last_of (ys ++ u ∷ ts) x) n
info_last t u ts [] x n e f c = subst (λ z. IsInfo (cond (eqb z x) (Some u) (last_of ts x)) n) (sym e) (go (eqb t.station x) c)
  where
    go : (b : Bool) → IsInfo (cond b (Some t) (last_of ts x)) n → IsInfo (cond b (Some u) (last_of ts x)) n
    go true i = f i
    go false i = i
info_last t u ts (y ∷ ys) x n e f c = go (eqb y.station x) (info_last t u ts ys x n e f) c
  where
    go : (b : Bool) → (IsInfo (last_of (ys ++ t ∷ ts) x) n → IsInfo (last_of (ys ++ u ∷ ts) x) n) →
        IsInfo (cond b (Some y) (last_of (ys ++ t ∷ ts) x)) n →
        IsInfo (cond b (Some y) (last_of (ys ++ u ∷ ts) x)) n
    go true more i = i
    go false more i = more i

info_at : (P : Program) (m : ℕ) (ts : List Tenant) (by p : ℕ) (act : Act) (a : MayAct P ts by p act) →
    IsSound P ts → (x n : ℕ) → IsInfo (last_of (newest_of m ts) x) n →
    IsInfo (last_of (newest_of m (change_at P ts by p act (at ts p))) x) n
info_at P m ts by p act a ok x n c =
    let t = a.tenant in
    let split = split_at ts p t a.is in
    let move = changed_goes P by p act (younger ts p) t (older ts p) a.may (sound_mid P t (older ts p) (younger ts p) (subst (IsSound P) split ok)) in
    let u = changed P by act t (older ts p) in
    let was = subst (λ z. IsInfo (last_of (newest_of m z) x) n) split c in
    subst (λ z. IsInfo (last_of (newest_of m z) x) n) (sym (parts P ts by p act t a.is)) (⊎_elim
    (λ (old : IsOldPlace m (younger ts p) (older ts p)). subst (λ z. IsInfo (last_of z x) n) (old.same t u) was)
    (λ (new : IsNewPlace m (younger ts p) (older ts p)). subst (λ z. IsInfo (last_of z x) n) (sym (new.is u))
    (info_last t u new.zs (younger ts p) x n move.station
    (λ i. record { half = i.half ∙ sym move.half; index = i.index ∙ sym move.index; predicted = i.predicted ∙ sym move.predicted })
    (subst (λ z. IsInfo (last_of z x) n) (new.is t) was)))
    (cut m (younger ts p) (older ts p)))

pub info_stays : (P : Program) (C : Sizes) (U : UpdateUnit) (by p : ℕ) (act : Act) →
    Allowed P C U by (On p act) → IsSound P U.tenants → (d : Draft) →
    SameDraft P C U (applied P C U by (On p act)) d → (x n : ℕ)
    → IsInfo (last_of (recent (info_unit P C U d)) x) n → IsInfo (last_of (recent (info_unit P C (applied P C U by (On p act)) d)) x) n
info_stays P C U by p act may ok d same x n c = info_drafted P C U (applied P C U by (On p act)) x n (info_at P U.fresh U.tenants by p act may ok x n) d same c

-- Operand words

-- the unit with one more tenant
abbrev with_one : UpdateUnit → Tenant → UpdateUnit
with_one U t = record { tenants = t ∷ U.tenants; fresh = suc U.fresh }

pub operand_drafted : (P : Program) (C : Sizes) (U V : UpdateUnit) (x : ℕ) (k : Source) (n : ℕ) → operand_word (recent V) x k ≡ operand_word (recent U) x k → (d : Draft) → SameDraft P C U V d
    → IsOperand (operand_word (recent (operand_unit P C U d k)) x k) n → IsOperand (operand_word (recent (operand_unit P C V d k)) x k) n
operand_drafted P C U V x k n keep Nothing same c = subst (λ z. IsOperand z n) (sym keep) c
operand_drafted P C U V x k n keep (Of stage index predicted first second) same c =
    let t : Tenant = new_tenant P C U index predicted first second in
    subst (λ (z : Tenant). IsOperand (operand_word (recent (cond (has_operand stage k) (with_one V z) V)) x k) n) (sym same) (go t (has_operand stage k) c)
  where
    mid : (t : Tenant) (b : Bool) → IsOperand (operand_word_of k (cond b (Some t) (last_of (recent U) x))) n → IsOperand (operand_word_of k (cond b (Some t) (last_of (recent V) x))) n
    mid t true i = i
    mid t false i = subst (λ z. IsOperand z n) (sym keep) i

    go : (t : Tenant) (b : Bool) → IsOperand (operand_word (recent (cond b (with_one U t) U)) x k) n → IsOperand (operand_word (recent (cond b (with_one V t) V)) x k) n
    go t true i = mid t (eqb t.station x) i
    go t false i = subst (λ z. IsOperand z n) (sym keep) i

-- Link words

-- a source that is linked afterwards was linked before
abbrev pub WasLinked : Program → Sizes → UpdateUnit → ℕ → ℕ → Act → (p c : ℕ) → Source → Type 0
WasLinked P C U by a act p c k =
    (q r : ℕ) (producer consumer consumer' : Tenant) → at U.tenants r ≡ Some consumer → IsLinked (applied P C U by (On a act)).tenants q r k producer consumer' → Goes by (On a act) consumer consumer'
    → producer.station ≡ p → consumer'.station ≡ c → (b : Bool) × ((operand k consumer).way ≡ Linked b)

pub link_stays : (P : Program) (C : Sizes) (U : UpdateUnit) (by a : ℕ) (act : Act) → Allowed P C U by (On a act) → IsSound P U.tenants → (p c : ℕ) (k : Source) (n : ℕ)
    → WasLinked P C U by a act p c k → IsLinkWord U p c k n → IsLinkWord (applied P C U by (On a act)) p c k n
link_stays P C U by a act may ok p c k n back l = record {
  names = ⊎_elim (λ e. inl e) (λ (z : NamesLink U p c k n).
      let i = z.is in
      let x = goes P C U by (On a act) may ok z.q z.producer i.producer_is in
      let y = goes P C U by (On a act) may ok z.r z.consumer i.consumer_is in
      inr (record {
        q = z.q;
        r = z.r;
        producer = x.tenant;
        consumer = y.tenant;
        is = record { producer_is = x.is; consumer_is = y.is; in_time = i.in_time; way = y.goes.linked k i.in_time i.way; creator = y.goes.creator k ∙ i.creator };
        producer_new = old_kept P C U by (On a act) (λ e. cc e) may z.q ∙ z.producer_new;
        consumer_new = old_kept P C U by (On a act) (λ e. cc e) may z.r ∙ z.consumer_new;
        at_p = x.goes.station ∙ z.at_p;
        at_c = y.goes.station ∙ z.at_c;
        word = z.word ∙ (λ j. pack_link (sym x.goes.tag j) (sym y.goes.tag j));
      }))
      l.names;
  stands = λ q r producer consumer i live e f.
      let x = came P C U by a act may ok q producer i.producer_is in
      let y = came P C U by a act may ok r consumer i.consumer_is in
      let was = back q r producer y.tenant consumer y.is i y.goes e f in
      let was_linked : IsLinked U.tenants q r k x.tenant y.tenant = record {
        producer_is = x.is;
        consumer_is = y.is;
        in_time = was.0;
        way = was.1;
        creator = sym (y.goes.creator k) ∙ i.creator;
      } in
      l.stands q r x.tenant y.tenant was_linked (y.goes.live live) (sym x.goes.station ∙ e) (sym y.goes.station ∙ f) ∙ (λ j. pack_link (sym x.goes.tag j) (sym y.goes.tag j));
}

pub link_other : (P : Program) (C : Sizes) (U : UpdateUnit) (by a : ℕ) (act : Act) → IsNoLink (On a act) →
    Allowed P C U by (On a act) → IsSound P U.tenants → (p c : ℕ) (k : Source) (n : ℕ) →
    IsLinkWord U p c k n → IsLinkWord (applied P C U by (On a act)) p c k n
link_other P C U by a act plain may ok p c k n l = link_stays P C U by a act may ok p c k n (λ q r producer consumer consumer' is i move e f. (i.in_time, sym (move.way plain k) ∙ i.way)) l

-- Tenants that differ in what was delivered to them alone.
use Rattle.std.proofs.Common.{◌≡◌, ℕ, suc, Bool, true, false, cond, eqb, List, [], ◌∷◌, ◌++◌, length, Option, Some, None, refl, sym, ap, ◌∙◌, subst, arith, length-append}
use Rattle.std.specs.List.{AllByRecursion}
use Rattle.inorder.specs.Steps.{IsNoRetiredStop}
use Rattle.inorder.specs.Tenants.{Operand, Tenant}
use Rattle.inorder.specs.Unit.{at, value_made, value_of}
use Rattle.inorder.specs.Quiescent.{AreQuiescent, IsNotBusy, SourceIsQuiescent}

pub record IsAlike (t u : Tenant) : Type 0 where
  pub station : u.station ≡ t.station
  pub index : u.index ≡ t.index
  pub half : u.half ≡ t.half
  pub pc : u.pc ≡ t.pc
  pub predicted : u.predicted ≡ t.predicted
  pub next : u.next ≡ t.next
  pub made : u.made ≡ t.made
  pub fate : u.fate ≡ t.fate
  pub standing : u.standing ≡ t.standing

pub alike_self : (t : Tenant) → IsAlike t t
alike_self t = record { station = refl; index = refl; half = refl; pc = refl; predicted = refl; next = refl; made = refl; fate = refl; standing = refl }

pub alike_both : (t u v : Tenant) → IsAlike t u → IsAlike u v → IsAlike t v
alike_both t u v a b =
    record {
      station = b.station ∙ a.station;
      index = b.index ∙ a.index;
      half = b.half ∙ a.half;
      pc = b.pc ∙ a.pc;
      predicted = b.predicted ∙ a.predicted;
      next = b.next ∙ a.next;
      made = b.made ∙ a.made;
      fate = b.fate ∙ a.fate;
      standing = b.standing ∙ a.standing;
    }

-- two lists, tenant by tenant
abbrev pub AreAlike : List Tenant → List Tenant → Type 0
AreAlike [] [] = Unit {0}
AreAlike [] (u ∷ us) = ⊥
AreAlike (t ∷ ts) [] = ⊥
AreAlike (t ∷ ts) (u ∷ us) = IsAlike t u × AreAlike ts us

pub alike_length : (ts us : List Tenant) → AreAlike ts us → length us ≡ length ts
alike_length [] [] a = refl
alike_length [] (u ∷ us) a = absurd a
alike_length (t ∷ ts) [] a = absurd a
alike_length (t ∷ ts) (u ∷ us) a = ap suc (alike_length ts us a.1)

alike_made : (ts us : List Tenant) → AreAlike ts us → (p : ℕ) → value_made (at us p) ≡ value_made (at ts p)
alike_made [] [] a p = refl
alike_made [] (u ∷ us) a p = absurd a
alike_made (t ∷ ts) [] a p = absurd a
alike_made (t ∷ ts) (u ∷ us) a p = go (eqb p (length us)) (eqb p (length ts)) (ap (eqb p) (alike_length ts us a.1)) (alike_made ts us a.1 p)
  where
    go : (b c : Bool) → b ≡ c → value_made (at us p) ≡ value_made (at ts p) → value_made (cond b (Some u) (at us p)) ≡ value_made (cond c (Some t) (at ts p))
    go true true q m = a.0.made
    go false false q m = m
    go true false q m = absurd (cc)
    go false true q m = absurd (cc)

pub alike_value : (ts us : List Tenant) → AreAlike ts us → (c : Option ℕ) → value_of us c ≡ value_of ts c
alike_value ts us a None = refl
alike_value ts us a (Some p) = alike_made ts us a p

pub still_alike : (ts us : List Tenant) → AreAlike ts us → (o : Operand) → SourceIsQuiescent ts o → SourceIsQuiescent us o
still_alike ts us a o h = record { value = h.value ∙ sym (alike_value ts us a o.creator); way = h.way }

pub stops_alike : (ts us : List Tenant) → AreAlike ts us → AllByRecursion IsNoRetiredStop ts → AllByRecursion IsNoRetiredStop us
stops_alike [] [] a h = tt
stops_alike [] (u ∷ us) a h = absurd a
stops_alike (t ∷ ts) [] a h = absurd a
stops_alike (t ∷ ts) (u ∷ us) a h = ((λ e c q. h.0 (sym a.0.standing ∙ e) c (sym a.0.fate ∙ q)), stops_alike ts us a.1 h.1)

-- One tenant changes and has made what it had

made_put : (ys : List Tenant) (t u : Tenant) (ts : List Tenant) → u.made ≡ t.made → (p : ℕ) → value_made (at (ys ++ u ∷ ts) p) ≡ value_made (at (ys ++ t ∷ ts) p)
made_put [] t u ts e p = go (eqb p (length ts))
  where
    go : (b : Bool) → value_made (cond b (Some u) (at ts p)) ≡ value_made (cond b (Some t) (at ts p))
    go true = e
    go false = refl
made_put (y ∷ ys) t u ts e p = go (eqb p (length (ys ++ u ∷ ts))) (eqb p (length (ys ++ t ∷ ts))) (ap (eqb p) same) (made_put ys t u ts e p)
  where
    same : length (ys ++ u ∷ ts) ≡ length (ys ++ t ∷ ts)
    same = omega (arith, length-append ys (u ∷ ts), length-append ys (t ∷ ts))

    go : (a b : Bool) → a ≡ b → value_made (at (ys ++ u ∷ ts) p) ≡ value_made (at (ys ++ t ∷ ts) p) →
        value_made (cond a (Some y) (at (ys ++ u ∷ ts) p)) ≡ value_made (cond b (Some y) (at (ys ++ t ∷ ts) p))
    go true true q m = refl
    go false false q m = m
    go true false q m = absurd (cc)
    go false true q m = absurd (cc)

value_put : (ys : List Tenant) (t u : Tenant) (ts : List Tenant) → u.made ≡ t.made → (c : Option ℕ) → value_of (ys ++ u ∷ ts) c ≡ value_of (ys ++ t ∷ ts) c
value_put ys t u ts e None = refl
value_put ys t u ts e (Some p) = made_put ys t u ts e p

pub still_put : (ys : List Tenant) (t u : Tenant) (ts : List Tenant) → u.made ≡ t.made → u.first ≡ t.first → u.second ≡ t.second → IsNotBusy u.fate → AreQuiescent (ys ++ t ∷ ts) → AreQuiescent (ys ++ u ∷ ts)
still_put [] t u ts m f g n h = ((subst (SourceIsQuiescent ts) (sym f) h.0.0, subst (SourceIsQuiescent ts) (sym g) h.0.1, n), h.1)
still_put (y ∷ ys) t u ts m f g n h = (
  (
    record { value = h.0.0.value ∙ sym (value_put ys t u ts m y.first.creator); way = h.0.0.way },
    record { value = h.0.1.value ∙ sym (value_put ys t u ts m y.second.creator); way = h.0.1.way },
    h.0.2,
  ),
  still_put ys t u ts m f g n h.1,
)

pub stops_put : (ys : List Tenant) (t u : Tenant) (ts : List Tenant) → IsNoRetiredStop u → AllByRecursion IsNoRetiredStop (ys ++ t ∷ ts) → AllByRecursion IsNoRetiredStop (ys ++ u ∷ ts)
stops_put [] t u ts n h = (n, h.1)
stops_put (y ∷ ys) t u ts n h = (h.0, stops_put ys t u ts n h.1)

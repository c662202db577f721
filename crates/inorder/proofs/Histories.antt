-- On histories: their moments, the entries of one caller, and what stays.
use Rattle.std.proofs.Common.{◌≡◌, ◌≢◌, ℕ, ◌≤◌, cond, List, [], ◌∷◌, ◌++◌, map, length, sym, refl, ap, ◌∙◌, subst, arith, append_assoc, length-append, eq-eqb, ne_eqb}
use mathlib.Core.Logic.{dite}
use native.Mathlib.Decide.{ℕ_discrete}
use Rattle.instructions.specs.Programs.{Program}
use Rattle.inorder.specs.declared.history.Entry.{Entry}
use Rattle.inorder.specs.declared.history.Event.{Event}
use Rattle.inorder.specs.declared.history.Event.TheVariants.{Does, Marks, Refuses}
use Rattle.inorder.specs.declared.history.Step.{Step}
use Rattle.inorder.specs.declared.history.Step.TheVariants.{Let, On, Renew}
use Rattle.inorder.specs.History.{IsLegal, IsTheirs, MayAdd, entry, front, own, renewals, renewed_by, taken_of, unit_of, with_event}
use Rattle.instructions.specs.Histories.{StartsWith}
use Rattle.inorder.specs.OneHistory.{Adds}
use Rattle.inorder.specs.Legal.{Allowed, AreAllowed, applied}
use Rattle.inorder.specs.Unit.{Sizes, UpdateUnit}
use Rattle.inorder.proofs.Kept.{sound}
use Rattle.inorder.proofs.Sound.{IsSound}

-- Renewals

renewed_more : (x : Event) (n : ℕ) → n ≤ renewed_by x n
renewed_more (Does (Let index predicted first second)) n = omega arith
renewed_more (Does (On p act)) n = omega arith
renewed_more (Does Renew) n = omega arith
renewed_more (Refuses r) n = omega arith
renewed_more (Marks m) n = omega arith

-- a longer history has no fewer
pub renewals_more : (more seen : List Entry) → renewals seen ≤ renewals (more ++ seen)
renewals_more [] seen = omega arith
renewals_more (e ∷ more) seen = let a = renewals_more more seen in let b = renewed_more e.event (renewals (more ++ seen)) in omega (arith, a, b)

pub starts_more : (new old : List Entry) → StartsWith new old → renewals old ≤ renewals new
starts_more new old s = subst (λ z. renewals old ≤ renewals z) (sym s.is) (renewals_more s.more old)

-- where none was added, none was in between
pub none_between : (later more seen : List Entry) → renewals (later ++ (more ++ seen)) ≡ renewals seen → renewals (more ++ seen) ≡ renewals seen
none_between later more seen same = let a = renewals_more later (more ++ seen) in let b = renewals_more more seen in omega (arith, same, a, b)

pub none_to : (new mid old : List Entry) → StartsWith new mid → StartsWith mid old → renewals new ≡ renewals old → renewals mid ≡ renewals old
none_to new mid old s t same = let a = starts_more new mid s in let b = starts_more mid old t in omega (arith, same, a, b)

pub none_from : (new mid old : List Entry) → StartsWith new mid → StartsWith mid old → renewals new ≡ renewals old → renewals new ≡ renewals mid
none_from new mid old s t same = let a = starts_more new mid s in let b = starts_more mid old t in omega (arith, same, a, b)

-- only the front renews
pub only_front_renews : (C : Sizes) (U : UpdateUnit) (by : ℕ) → IsTheirs C U by Renew → by ≢ front → ⊥
only_front_renews C U by h other = other h

-- The entries of one caller

pub own_here : (by : ℕ) (e : Entry) (es : List Entry) → e.by ≡ by → own by (e ∷ es) ≡ e ∷ own by es
own_here by e es h = ap (λ b. cond b (e ∷ own by es) (own by es)) (eq-eqb e.by by h)

pub own_else : (by : ℕ) (e : Entry) (es : List Entry) → e.by ≢ by → own by (e ∷ es) ≡ own by es
own_else by e es h = ap (λ b. cond b (e ∷ own by es) (own by es)) (ne_eqb e.by by h)

pub own-append : (by : ℕ) (xs ys : List Entry) → own by (xs ++ ys) ≡ own by xs ++ own by ys
own-append by [] ys = refl
own-append by (x ∷ xs) ys = dite (ℕ_discrete x.by by)
    (λ h. own_here by x (xs ++ ys) h ∙ (ap (λ z. x ∷ z) (own-append by xs ys) ∙ ap (λ z. z ++ own by ys) (sym (own_here by x xs h))))
    (λ h. own_else by x (xs ++ ys) h ∙ (own-append by xs ys ∙ ap (λ z. z ++ own by ys) (sym (own_else by x xs h))))

pub own_of_other : (by other : ℕ) (es : List Event) → other ≢ by → own by (map (entry other) es) ≡ []
own_of_other by other [] h = refl
own_of_other by other (e ∷ es) h = own_else by (entry other e) (map (entry other) es) h ∙ own_of_other by other es h

pub no_length : (l : List Entry) → length l ≡ 0 → l ≡ []
no_length [] e = refl
no_length (x ∷ xs) e = absurd (omega arith)

-- where the caller's entries were all there before, none is in what came after
pub own_none : (by : ℕ) (more seen : List Entry) → own by (more ++ seen) ≡ own by seen → own by more ≡ []
own_none by more seen e = let s = ap (λ l. length l) (sym (own-append by more seen) ∙ e) in let n = length-append (own by more) (own by seen) in no_length (own by more) (omega arith)

-- Two calls in a row are one
pub adds_on : (P : Program) (C : Sizes) (by : ℕ) (old mid new : List Entry) (es fs : List Event) → Adds P C by old mid es → Adds P C by mid new fs → Adds P C by old new (fs ++ es)
adds_on P C by old mid new es fs a b = record {
  begins = record { more = b.begins.more ++ a.begins.more; is = b.begins.is ∙ (ap (λ z. b.begins.more ++ z) a.begins.is ∙ sym (append_assoc b.begins.more a.begins.more old)) };
  legal = b.legal;
  one_table = b.one_table ∙ a.one_table;
  mine = b.mine ∙ (ap (λ z. map (entry by) fs ++ z) a.mine ∙ (sym (append_assoc (map (entry by) fs) (map (entry by) es) (own by old)) ∙ ap (λ z. z ++ own by old) (sym (map_append fs es))));
}
  where
    map_append : (xs ys : List Event) → map (entry by) (xs ++ ys) ≡ map (entry by) xs ++ map (entry by) ys
    map_append [] ys = refl
    map_append (x ∷ xs) ys = ap (λ z. entry by x ∷ z) (map_append xs ys)

-- What stays

module _ (P : Program) (C : Sizes) where
  pub legal_before : (more seen : List Entry) → IsLegal P C (more ++ seen) → IsLegal P C seen
  legal_before [] seen l = l
  legal_before (e ∷ more) seen l = legal_before more seen l.0

  -- the steps of a legal history are allowed
  pub allowed_steps : (h : List Entry) → IsLegal P C h → AreAllowed P C (taken_of h)
  allowed_steps [] l = tt
  allowed_steps (e ∷ h) l = go e.event (allowed_steps h l.0) l.1
    where
      go : (x : Event) → AreAllowed P C (taken_of h) → MayAdd P C h e.by x → AreAllowed P C (with_event e.by x (taken_of h))
      go (Does s) a m = (a, m.1)
      go (Refuses r) a m = a
      go (Marks k) a m = a

  pub unit_sound : (h : List Entry) → IsLegal P C h → IsSound P (unit_of P C h).tenants
  unit_sound h legal = sound P C (taken_of h) (allowed_steps h legal)

  -- what each allowed entry keeps is true after all of them
  pub lasts : (Q : List Entry → Type 0) → ((h : List Entry) (e : Entry) → IsLegal P C h → Q h → MayAdd P C h e.by e.event → Q (e ∷ h)) → (more seen : List Entry) → IsLegal P C (more ++ seen) →
      Q seen → Q (more ++ seen)
  lasts Q keeps [] seen l q = q
  lasts Q keeps (e ∷ more) seen l q = keeps (more ++ seen) e l.0 (lasts Q keeps more seen l.0 q) l.1

  -- the same of the entries of other callers
  pub lasts_apart : (by : ℕ) (Q : List Entry → Type 0) → ((h : List Entry) (e : Entry) → IsLegal P C h → Q h → MayAdd P C h e.by e.event → e.by ≢ by → Q (e ∷ h))
      → (more seen : List Entry) → IsLegal P C (more ++ seen) → own by more ≡ [] → Q seen → Q (more ++ seen)
  lasts_apart by Q keeps [] seen l none q = q
  lasts_apart by Q keeps (e ∷ more) seen l none q = dite (ℕ_discrete e.by by)
      (λ h. let n = ap (λ z. length z) (sym (own_here by e more h) ∙ none) in absurd (omega arith))
      (λ h. keeps (more ++ seen) e l.0 (lasts_apart by Q keeps more seen l.0 (sym (own_else by e more h) ∙ none) q) l.1 h)

  -- the same of a fact about the unit, which each step keeps
  pub unit_lasts : (Q : UpdateUnit → Type 0) → ((U : UpdateUnit) (by : ℕ) (s : Step) → Allowed P C U by s → IsSound P U.tenants → Q U → Q (applied P C U by s))
      → (more seen : List Entry) → IsLegal P C (more ++ seen) → Q (unit_of P C seen) → Q (unit_of P C (more ++ seen))
  unit_lasts Q keeps more seen legal q = lasts (λ h. Q (unit_of P C h)) (λ h e l x may. go h e.by e.event l may x) more seen legal q
    where
      go : (h : List Entry) (by : ℕ) (x : Event) → IsLegal P C h → MayAdd P C h by x → Q (unit_of P C h) → Q (unit_of P C (entry by x ∷ h))
      go h by (Does s) l may q = keeps (unit_of P C h) by s may.1 (unit_sound h l) q
      go h by (Refuses r) l may q = q
      go h by (Marks k) l may q = q

  -- or each step of another caller
  pub unit_lasts_apart : (id : ℕ) (Q : UpdateUnit → Type 0)
      → ((U : UpdateUnit) (by : ℕ) (s : Step) → by ≢ id → IsTheirs C U by s → Allowed P C U by s → IsSound P U.tenants → Q U → Q (applied P C U by s))
      → (more seen : List Entry) → IsLegal P C (more ++ seen) → own id more ≡ [] → Q (unit_of P C seen) → Q (unit_of P C (more ++ seen))
  unit_lasts_apart id Q keeps more seen legal none q = lasts_apart id (λ h. Q (unit_of P C h)) (λ h e l x may other. go h e.by e.event l may other x) more seen legal none q
    where
      go : (h : List Entry) (by : ℕ) (x : Event) → IsLegal P C h → MayAdd P C h by x → by ≢ id → Q (unit_of P C h) → Q (unit_of P C (entry by x ∷ h))
      go h by (Does s) l may other q = keeps (unit_of P C h) by s other may.0 may.1 (unit_sound h l) q
      go h by (Refuses r) l may other q = q
      go h by (Marks k) l may other q = q

  -- the front's own entries tell how many renewals there were
  pub renewals_own : (h : List Entry) → IsLegal P C h → renewals h ≡ renewals (own front h)
  renewals_own [] legal = refl
  renewals_own (e ∷ h) legal = dite (ℕ_discrete e.by front)
      (λ is. ap (renewed_by e.event) (renewals_own h legal.0) ∙ sym (ap renewals (own_here front e h is)))
      (λ other. go e.by e.event legal.1 other ∙ (renewals_own h legal.0 ∙ sym (ap renewals (own_else front e h other))))
    where
      go : (by : ℕ) (x : Event) → MayAdd P C h by x → by ≢ front → renewed_by x (renewals h) ≡ renewals h
      go by (Does (Let index predicted first second)) may other = refl
      go by (Does (On p act)) may other = refl
      go by (Does Renew) may other = absurd (only_front_renews C (unit_of P C h) by may.0 other)
      go by (Refuses r) may other = refl
      go by (Marks m) may other = refl

  pub same_fronts : (h g : List Entry) → IsLegal P C h → IsLegal P C g → own front h ≡ own front g → renewals h ≡ renewals g
  same_fronts h g legal legal' same = renewals_own h legal ∙ (ap renewals same ∙ sym (renewals_own g legal'))

  -- where the front adds nothing, nothing is renewed
  pub none_renewed : (more seen : List Entry) → IsLegal P C (more ++ seen) → own front more ≡ [] → renewals (more ++ seen) ≡ renewals seen
  none_renewed more seen legal none = same_fronts (more ++ seen) seen legal (legal_before more seen legal) (own-append front more seen ∙ ap (λ z. z ++ own front seen) none)

  -- or, where nothing is renewed, each other step of another caller
  pub unit_lasts_here : (id : ℕ) (Q : UpdateUnit → Type 0)
      → ((U : UpdateUnit) (by : ℕ) (s : Step) → by ≢ id → s ≢ Renew → IsTheirs C U by s → Allowed P C U by s → IsSound P U.tenants → Q U → Q (applied P C U by s))
      → (more seen : List Entry) → IsLegal P C (more ++ seen) → renewals (more ++ seen) ≡ renewals seen → own id more ≡ [] → Q (unit_of P C seen) → Q (unit_of P C (more ++ seen))
  unit_lasts_here id Q keeps [] seen legal same none q = q
  unit_lasts_here id Q keeps (e ∷ more) seen legal same none q = dite (ℕ_discrete e.by id)
      (λ h. let n = ap (λ z. length z) (sym (own_here id e more h) ∙ none) in absurd (omega arith))
      (λ h. go e.by e.event legal.1 h same (λ s. unit_lasts_here id Q keeps more seen legal.0 s (sym (own_else id e more h) ∙ none) q))
    where
      U : UpdateUnit
      U = unit_of P C (more ++ seen)

      go : (by : ℕ) (x : Event) → MayAdd P C (more ++ seen) by x → by ≢ id → renewed_by x (renewals (more ++ seen)) ≡ renewals seen → (renewals (more ++ seen) ≡ renewals seen → Q U) →
          Q (unit_of P C (entry by x ∷ (more ++ seen)))
      go by (Does (Let index predicted first second)) may other s q = keeps U by (Let index predicted first second) other (λ e. cc e) may.0 may.1 (unit_sound (more ++ seen) legal.0) (q s)
      go by (Does (On p act)) may other s q = keeps U by (On p act) other (λ e. cc e) may.0 may.1 (unit_sound (more ++ seen) legal.0) (q s)
      go by (Does Renew) may other s q = let a = renewals_more more seen in absurd (omega (arith, s, a))
      go by (Refuses r) may other s q = q s
      go by (Marks m) may other s q = q s

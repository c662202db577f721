-- What a call has added, taken apart: its last event, what others added after it, and what was before.
use Rattle.std.proofs.Common.{◌≡◌, ℕ, List, [], ◌∷◌, ◌++◌, map, length, refl, sym, ap, ◌∙◌, subst, append_assoc, arith, length-append}
use mathlib.Core.Logic.{dite}
use native.Mathlib.Decide.{ℕ_discrete}
use Rattle.instructions.specs.Programs.{Program}
use Rattle.inorder.specs.declared.history.Entry.{Entry}
use Rattle.inorder.specs.declared.history.Event.{Event}
use Rattle.inorder.specs.History.{IsLegal, entry, own, renewals}
use Rattle.instructions.specs.Histories.{StartsWith}
use Rattle.inorder.specs.OneHistory.{Adds}
use Rattle.inorder.specs.Unit.{Sizes}
use Rattle.inorder.proofs.Histories.{legal_before, none_from, none_to, own-append, own_else, own_here}

pub no_more : (xs ys : List Entry) → xs ++ ys ≡ ys → xs ≡ []
no_more [] ys e = refl
no_more (x ∷ xs) ys e = let n = ap (λ z. length z) e in let m = length-append xs ys in absurd (omega arith)

pub cut_back : (xs ys zs : List Entry) → xs ++ zs ≡ ys ++ zs → xs ≡ ys
cut_back [] ys zs e = sym (no_more ys zs (sym e))
cut_back (x ∷ xs) [] zs e = no_more (x ∷ xs) zs e
cut_back (x ∷ xs) (y ∷ ys) zs e = λ i. head_of x y (xs ++ zs) (ys ++ zs) e i ∷ cut_back xs ys zs (tail_of x y (xs ++ zs) (ys ++ zs) e) i
  where
    head_of : (a b : Entry) (us vs : List Entry) → a ∷ us ≡ b ∷ vs → a ≡ b
    head_of a b us vs e = cc e

    tail_of : (a b : Entry) (us vs : List Entry) → a ∷ us ≡ b ∷ vs → us ≡ vs
    tail_of a b us vs e = cc e

-- the last own entry of these
record LastOwn (by : ℕ) (more : List Entry) (e : Entry) (es : List Entry) : Type 0 where
  pub after : List Entry
  pub rest : List Entry
  pub is : more ≡ after ++ e ∷ rest
  pub none : own by after ≡ []
  pub before : own by rest ≡ es

last_own : (by : ℕ) (more : List Entry) (e : Entry) (es : List Entry) → own by more ≡ e ∷ es → LastOwn by more e es
last_own by [] e es h = absurd (cc h)
last_own by (x ∷ more) e es h = dite (ℕ_discrete x.by by)
    (λ mine. let both : x ∷ own by more ≡ e ∷ es = sym (own_here by x more mine) ∙ h in record {
      after = [];
      rest = more;
      is = ap (λ z. z ∷ more) (first x e (own by more) es both);
      none = refl;
      before = others x e (own by more) es both;
    })
    (λ not. let l = last_own by more e es (sym (own_else by x more not) ∙ h) in record {
      after = x ∷ l.after;
      rest = l.rest;
      is = ap (λ z. x ∷ z) l.is;
      none = own_else by x l.after not ∙ l.none;
      before = l.before;
    })
  where
    first : (a b : Entry) (us vs : List Entry) → a ∷ us ≡ b ∷ vs → a ≡ b
    first a b us vs e = cc e

    others : (a b : Entry) (us vs : List Entry) → a ∷ us ≡ b ∷ vs → us ≡ vs
    others a b us vs e = cc e

module _ (P : Program) (C : Sizes) where
  -- the history up to the last own event, with that event's entry and with what others added after it
  pub record LastEvent (by : ℕ) (old new : List Entry) (e : Event) (es : List Event) : Type 0 where
    pub point : List Entry
    pub after : List Entry
    pub is : new ≡ after ++ entry by e ∷ point
    pub none : own by after ≡ []
    pub legal : IsLegal P C (after ++ entry by e ∷ point)
    pub since : renewals new ≡ renewals (entry by e ∷ point)
    pub before : Adds P C by old point es

  pub last_event : (by : ℕ) (old new : List Entry) (e : Event) (es : List Event) → Adds P C by old new (e ∷ es) → LastEvent by old new e es
  last_event by old new e es a =
      let more = a.begins.more in
      let mine : own by more ++ own by old ≡ (entry by e ∷ map (entry by) es) ++ own by old = sym (own-append by more old) ∙ (ap (own by) (sym a.begins.is) ∙ a.mine) in
      let l = last_own by more (entry by e) (map (entry by) es) (cut_back (own by more) (entry by e ∷ map (entry by) es) (own by old) mine) in
      let point = l.rest ++ old in
      let is : new ≡ l.after ++ entry by e ∷ point = a.begins.is ∙ (ap (λ z. z ++ old) l.is ∙ append_assoc l.after (entry by e ∷ l.rest) old) in
      let legal : IsLegal P C (l.after ++ entry by e ∷ point) = subst (IsLegal P C) is a.legal in
      let last : StartsWith new (entry by e ∷ point) = record { more = l.after; is = is } in
      let first : StartsWith (entry by e ∷ point) old = record { more = entry by e ∷ l.rest; is = refl } in
      let until : StartsWith new point = record { more = l.after ++ entry by e ∷ []; is = is ∙ sym (append_assoc l.after (entry by e ∷ []) point) } in
      record {
        point = point;
        after = l.after;
        is = is;
        none = l.none;
        legal = legal;
        since = none_from new (entry by e ∷ point) old last first a.one_table;
        before = record {
          begins = record { more = l.rest; is = refl };
          legal = (legal_before P C l.after (entry by e ∷ point) legal).0;
          one_table = none_to new point old until (record { more = l.rest; is = refl }) a.one_table;
          mine = own-append by l.rest old ∙ ap (λ z. z ++ own by old) l.before;
        };
      }

-- Each move keeps the rule.
use Rattle.std.proofs.Common.{◌≡◌, ◌≢◌, ℕ, zero, suc, ◌<◌, ◌≤◌, ◌==◌, Bool, true, false, cond, List, [], ◌∷◌, ◌++◌, length, set, sym, refl, ap, ◌∙◌, ◌⊎◌, inl, inr, subst, ⊎_elim, append_assoc, arith}
use Rattle.std.proofs.Common.{length-append}
use Rattle.std.proofs.lemmas.Bool.{eq-eqb, ne_eqb}
use Rattle.std.proofs.lemmas.List.{length-set}
use Rattle.std.proofs.lemmas.List.Elements.{All-append}
use Rattle.std.specs.Prelude.{All}
use mathlib.Core.Option.{some, some-ne-none, some-injective}
use lib.ListN.{get_elem?}
use Rattle.crossbeam_queue.specs.Fifo.{Admits, Learns, Pops, Pushes}
use Rattle.crossbeam_queue.proofs.Lists.{at_set}
use Rattle.hints.specs.declared.deals.Deal.{Deal}
use Rattle.hints.specs.Hinted.{Hinted, ThreadKnows, Move, by_thread, deal, hints_of, putting, taking}

abbrev keep : Bool → ℕ → List ℕ → List ℕ
keep b x xs = cond b (x ∷ xs) xs

mine : (t x : ℕ) (ms : List Move) → by_thread t (ms ++ record { by = t; hint = x } ∷ []) ≡ by_thread t ms ++ x ∷ []
mine t x [] = ap (λ b. keep b x []) (eq-eqb t t refl)
mine t x (m ∷ ms) = ap (keep (m.by == t) m.hint) (mine t x ms) ∙ kept (m.by == t) m.hint (by_thread t ms)
  where
    kept : (b : Bool) (y : ℕ) (ys : List ℕ) → keep b y (ys ++ x ∷ []) ≡ keep b y ys ++ x ∷ []
    kept true y ys = refl
    kept false y ys = refl

others : (t other x : ℕ) (ms : List Move) → t ≢ other → by_thread other (ms ++ record { by = t; hint = x } ∷ []) ≡ by_thread other ms
others t other x [] apart = ap (λ b. keep b x []) (ne_eqb t other apart)
others t other x (m ∷ ms) apart = ap (keep (m.by == other) m.hint) (others t other x ms apart)

hints_snoc : (ms : List Move) (t x : ℕ) → hints_of (ms ++ record { by = t; hint = x } ∷ []) ≡ hints_of ms ++ x ∷ []
hints_snoc [] t x = refl
hints_snoc (m ∷ ms) t x = ap (λ l. m.hint ∷ l) (hints_snoc ms t x)

at_inside : (views : List Deal) (t : ℕ) (v : Deal) → get_elem? views t ≡ some v → t < length views
at_inside [] t v e = absurd (some-ne-none v (sym e))
at_inside (u ∷ us) zero v e = omega arith
at_inside (u ∷ us) (suc t) v e = let h = at_inside us t v e in omega arith

apart_of : (views : List Deal) (t j : ℕ) (v : Deal) → get_elem? views t ≡ some v → length views ≤ j → t ≢ j
apart_of views t j v at far e = let h = at_inside views t v at in absurd (omega arith)

-- the last view is the new one, at the end
at_end : (l : List Deal) (a b : Deal) (j : ℕ) → get_elem? (l ++ a ∷ []) j ≡ some b → (get_elem? l j ≡ some b) ⊎ ((j ≡ length l) × (a ≡ b))
at_end [] a b zero e = inr (refl, some-injective a b e)
at_end [] a b (suc j) e = absurd (some-ne-none b (sym e))
at_end (x ∷ xs) a b zero e = inl e
at_end (x ∷ xs) a b (suc j) e = ⊎_elim (λ h. inl h) (λ (t : (j ≡ length xs) × (a ≡ b)). inr (ap suc t.0, t.1)) (at_end xs a b j e)

set_knows : (puts takes : List Move) (views : List Deal) (t : ℕ) (w : Deal) → ThreadKnows puts takes t w
    → ((j : ℕ) (u : Deal) → j ≢ t → get_elem? views j ≡ some u → ThreadKnows puts takes j u)
    → (j : ℕ) (u : Deal) → get_elem? (set views t w) j ≡ some u → ThreadKnows puts takes j u
set_knows puts takes views t w own rest j u e =
    ⊎_elim (λ (h : (j ≡ t) × (w ≡ u)). subst (λ (y : ℕ × Deal). ThreadKnows puts takes y.0 y.1) (λ i. (sym h.0 i, h.1 i)) own)
    (λ (h : (j ≢ t) × (get_elem? views j ≡ some u)). rest j u h.0 h.1) (at_set views t j w u e)

pub begins : (n : ℕ) → Hinted n [] (deal [] [] ∷ [])
begins n = record {
  puts = [];
  takes = [];
  in_order = refl;
  stations = λ k d low. absurd (omega arith);
  knows = one;
  nobody_else = λ t far. record { put = refl; taken = refl };
}
  where
    one : (t : ℕ) (v : Deal) → get_elem? (deal [] [] ∷ []) t ≡ some v → ThreadKnows [] [] t v
    one zero v e = record { put = ap (λ (u : Deal). u.put) (sym (some-injective _ _ e)); taken = ap (λ (u : Deal). u.taken) (sym (some-injective _ _ e)) }
    one (suc t) v e = absurd (some-ne-none v (sym e))

pub admits : (n : ℕ) → Admits (Hinted n) (deal [] [])
admits n items views h = record {
  puts = h.puts;
  takes = h.takes;
  in_order = h.in_order;
  stations = h.stations;
  knows = λ j u e. ⊎_elim (λ was. h.knows j u was)
      (λ (t : (j ≡ length views) × (deal [] [] ≡ u)). subst (λ z. ThreadKnows h.puts h.takes j z) t.1 (h.nobody_else j (let e' = t.0 in omega arith)))
      (at_end views (deal [] []) u j e);
  nobody_else = λ j far. h.nobody_else j (let long = length-append views (deal [] [] ∷ []) in omega arith);
}

pub pushes : (n room t : ℕ) (v : Deal) (x : ℕ) → x < n → Pushes (Hinted n) room t v x (λ w. w ≡ putting x v)
pushes n room t v x low items views _ h at =
    let w = putting x v in
    let puts = h.puts ++ record { by = t; hint = x } ∷ [] in
    let own = h.knows t v at in (
      w,
      record {
        puts = puts;
        takes = h.takes;
        in_order = hints_snoc h.puts t x ∙ ap (λ l. l ++ x ∷ []) h.in_order ∙ append_assoc (hints_of h.takes) items (x ∷ []);
        stations = All-append (λ y. y < n) items (x ∷ []) h.stations (one n x low);
        knows = set_knows puts h.takes views t w (record { put = ap (λ l. l ++ x ∷ []) own.put ∙ sym (mine t x h.puts); taken = own.taken })
            (λ j u other e. let was = h.knows j u e in record { put = was.put ∙ sym (others t j x h.puts (λ same. other (sym same))); taken = was.taken });
        nobody_else = λ j far. let out : length views ≤ j = (let l = length-set views t w in omega arith) in let none = h.nobody_else j out in
            record { put = none.put ∙ sym (others t j x h.puts (apart_of views t j v at out)); taken = none.taken };
      },
      refl,
    )
  where
    one : (n x : ℕ) → x < n → All (λ y. y < n) (x ∷ [])
    one n x low zero d k = low
    one n x low (suc i) d k = absurd (omega arith)

pub takes : (n t : ℕ) (v : Deal) → Pops (Hinted n) t v (λ x w. (x < n) × (w ≡ taking x v))
takes n t v x items views h at =
    let w = taking x v in
    let gone = h.takes ++ record { by = t; hint = x } ∷ [] in
    let own = h.knows t v at in (
      w,
      record {
        puts = h.puts;
        takes = gone;
        in_order = h.in_order ∙ sym (append_assoc (hints_of h.takes) (x ∷ []) items) ∙ ap (λ l. l ++ items) (sym (hints_snoc h.takes t x));
        stations = λ k d low. h.stations (suc k) d (omega arith);
        knows = set_knows h.puts gone views t w (record { put = own.put; taken = ap (λ l. l ++ x ∷ []) own.taken ∙ sym (mine t x h.takes) })
            (λ j u other e. let was = h.knows j u e in record { put = was.put; taken = was.taken ∙ sym (others t j x h.takes (λ same. other (sym same))) });
        nobody_else = λ j far. let out : length views ≤ j = (let l = length-set views t w in omega arith) in let none = h.nobody_else j out in
            record { put = none.put; taken = none.taken ∙ sym (others t j x h.takes (apart_of views t j v at out)) };
      },
      (h.stations 0 x (omega arith), refl),
    )

-- of a full or an empty queue nothing is kept
pub learns : (n t : ℕ) (v : Deal) → Learns (Hinted n) t v (λ _. Unit {0})
learns n t v items views h at = tt

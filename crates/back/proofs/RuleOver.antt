-- What the rule for loads says over the live loads and stores, by what is known of each.
use Rattle.std.proofs.Common.{◌≡◌, ℕ, suc, ◌<◌, Bool, true, false, cond, List, [], ◌∷◌, ◌++◌, map, length, Some, None, refl, sym, ap, ◌∙◌, ⊎_elim, arith, append_assoc}
use Rattle.std.specs.Prelude.{slice_get}
use Rattle.instructions.specs.Instruction.{width}
use Rattle.instructions.specs.Programs.{Program}
use Rattle.instructions.specs.declared.op.Kind.TheVariants.{Loads}
use Rattle.lsq.specs.declared.answer.Answer.TheVariants.{Blocked, Forward, Memory}
use Rattle.lsq.specs.declared.entry.Entry.{Entry}
use Rattle.lsq.specs.Entries.{bytes}
use Rattle.lsq.specs.LoadRule.{answer, answer_over, by_lacking, by_overlap, forwarded, lacks_address, or_older, overlaps, taken_from, youngest}
use Rattle.lsq.proofs.Youngest.{this_one, youngest_from-snoc}
use Rattle.inorder.specs.Loads.{entry_in, entry_of, live_accesses, place_of, queue_of, with_access}
use Rattle.inorder.specs.Tenants.{Addr, Live, Tenant, instr, is_live_access, kind_of}
use Rattle.inorder.specs.Unit.{at, older, younger}
use Rattle.inorder.proofs.Basics.{split_at}
use Rattle.inorder.proofs.Creators.{at_cases}
use Rattle.inorder.proofs.Loads.{answers}
use Rattle.inorder.proofs.Positions.{at_below, at_more, at_new}
use Rattle.inorder.proofs.QueueBytes.{get_end, get_front}
use Rattle.inorder.proofs.QueuePlaces.{starts_of}
use Rattle.inorder.proofs.Sound.{IsSound}

count : (xs : List (ℕ × Entry)) → length (map entry_in xs) ≡ length xs
count [] = refl
count (x ∷ xs) = ap suc (count xs)

-- one tenant more
pub grown : (P : Program) (T : Entry → Bool) (t : Tenant) (ts : List Tenant) → is_live_access P t ≡ true
    → youngest T (queue_of P (t ∷ ts)) ≡ or_older (this_one T (length (queue_of P ts)) (entry_of P t)) (youngest T (queue_of P ts))
grown P T t ts b =
    ap (λ c. youngest T (map entry_in (live_accesses P ts ++ with_access c (length ts, entry_of P t)))) b
    ∙ (ap (youngest T) (map_end (live_accesses P ts) (length ts, entry_of P t))
    ∙ youngest_from-snoc T (queue_of P ts) (entry_of P t) 0 (length (queue_of P ts)) (omega arith))
  where
    map_end : (xs : List (ℕ × Entry)) (y : ℕ × Entry) → map entry_in (xs ++ y ∷ []) ≡ map entry_in xs ++ entry_in y ∷ []
    map_end [] y = refl
    map_end (x ∷ xs) y = ap (λ zs. entry_in x ∷ zs) (map_end xs y)

pub same : (P : Program) (T : Entry → Bool) (t : Tenant) (ts : List Tenant) → is_live_access P t ≡ false → youngest T (queue_of P (t ∷ ts)) ≡ youngest T (queue_of P ts)
same P T t ts b = ap (λ c. youngest T (map entry_in (live_accesses P ts ++ with_access c (length ts, entry_of P t)))) b ∙ ap (λ xs. youngest T (map entry_in xs)) (no_more (live_accesses P ts))
  where
    no_more : (xs : List (ℕ × Entry)) → xs ++ [] ≡ xs
    no_more [] = refl
    no_more (x ∷ xs) = ap (λ zs. x ∷ zs) (no_more xs)

-- no live access passes the test
pub none_in : (P : Program) (T : Entry → Bool) (ts : List Tenant) → ((q : ℕ) (u : Tenant) → at ts q ≡ Some u → is_live_access P u ≡ true → T (entry_of P u) ≡ false) → youngest T (queue_of P ts) ≡ None
none_in P T [] h = refl
none_in P T (t ∷ ts) h = go (is_live_access P t) refl (none_in P T ts (λ q u is. h q u (at_more t ts q u is)))
  where
    go : (b : Bool) → is_live_access P t ≡ b → youngest T (queue_of P ts) ≡ None → youngest T (queue_of P (t ∷ ts)) ≡ None
    go true b e = grown P T t ts b ∙ ((λ i. or_older (cond (h (length ts) t (at_new t ts) b i) (Some (length (queue_of P ts), entry_of P t)) None) (e i)))
    go false b e = same P T t ts b ∙ e

-- the youngest live access that passes the test
pub record FoundIn (P : Program) (T : Entry → Bool) (ts : List Tenant) (q : ℕ) (u : Tenant) : Type 0 where
  pub place : ℕ
  pub is : youngest T (queue_of P ts) ≡ Some (place, entry_of P u)
  pub there : slice_get (live_accesses P ts) place ≡ Some (q, entry_of P u)

pub found_in : (P : Program) (T : Entry → Bool) (ts : List Tenant) (q : ℕ) (u : Tenant) → at ts q ≡ Some u → is_live_access P u ≡ true → T (entry_of P u) ≡ true
    → ((r : ℕ) (v : Tenant) → q < r → at ts r ≡ Some v → is_live_access P v ≡ true → T (entry_of P v) ≡ false) → FoundIn P T ts q u
found_in P T [] q u is b e h = absurd (cc)
found_in P T (t ∷ ts) q u is b e h = ⊎_elim
    (λ (old : at ts q ≡ Some u). deeper (is_live_access P t) refl old (found_in P T ts q u old b e (λ r v lt at_r. h r v lt (at_more t ts r v at_r))))
    (λ (new : (q ≡ length ts) × (t ≡ u)). here new.0 new.1)
    (at_cases t ts q u is)
  where
    deeper : (c : Bool) → is_live_access P t ≡ c → at ts q ≡ Some u → FoundIn P T ts q u → FoundIn P T (t ∷ ts) q u
    deeper true c old f =
        let fails = h (length ts) t (at_below ts q u old) (at_new t ts) c in
        record {
          place = f.place;
          is = grown P T t ts c ∙ (λ i. or_older (cond (fails i) (Some (length (queue_of P ts), entry_of P t)) None) (f.is i));
          there = ap (λ z. slice_get (live_accesses P ts ++ with_access z (length ts, entry_of P t)) f.place) c ∙
              get_front (live_accesses P ts) ((length ts, entry_of P t) ∷ []) f.place (q, entry_of P u) f.there;
        }
    deeper false c old f = record {
      place = f.place;
      is = same P T t ts c ∙ f.is;
      there = ap (λ z. slice_get (live_accesses P ts ++ with_access z (length ts, entry_of P t)) f.place) c ∙ get_front (live_accesses P ts) [] f.place (q, entry_of P u) f.there;
    }

    here : q ≡ length ts → t ≡ u → FoundIn P T (t ∷ ts) q u
    here eq et =
        let c : is_live_access P t ≡ true = ap (is_live_access P) et ∙ b in
        let passes : T (entry_of P t) ≡ true = ap (λ x. T (entry_of P x)) et ∙ e in
        record {
          place = length (live_accesses P ts);
          is = grown P T t ts c ∙ (λ i. or_older (cond (passes i) (Some (count (live_accesses P ts) i, entry_of P (et i))) None) (youngest T (queue_of P ts)));
          there = ap (λ z. slice_get (live_accesses P ts ++ with_access z (length ts, entry_of P t)) (length (live_accesses P ts))) c
              ∙ (ap (λ es. slice_get es (length (live_accesses P ts))) (sym (no_more (live_accesses P ts ++ (length ts, entry_of P t) ∷ [])))
              ∙ (get_end (live_accesses P ts) (length ts, entry_of P t) [] ∙ (λ i. Some (sym eq i, entry_of P (et i)))));
        }
      where
        no_more : (xs : List (ℕ × Entry)) → xs ++ [] ≡ xs
        no_more [] = refl
        no_more (x ∷ xs) = ap (λ zs. x ∷ zs) (no_more xs)

-- The answer to a load

module _ (P : Program) (us : List Tenant) (p : ℕ) (t : Tenant) (a : ℕ) (ok : IsSound P us) (is : at us p ≡ Some t) (live : t.standing ≡ Live) (ek : kind_of P t ≡ Loads) (ef : t.fate ≡ Addr a) where
  abbrev before : List Tenant
  before = older us p

  abbrev w : ℕ
  w = width (instr P t).op

  over_is : answer (queue_of P us) (place_of P us p) ≡ answer_over (queue_of P before) a w
  over_is = answers P us p t a ok is live ek ef

  pub blocked_lacking : (q : ℕ) (u : Tenant) → (f : FoundIn P lacks_address before q u) → answer (queue_of P us) (place_of P us p) ≡ Blocked f.place
  blocked_lacking q u f = over_is ∙ ap (λ o. by_lacking o (queue_of P before) a w) f.is

  module _ (known : youngest lacks_address (queue_of P before) ≡ None) where
    by_known : answer (queue_of P us) (place_of P us p) ≡ by_overlap (youngest (overlaps a w) (queue_of P before)) a w
    by_known = over_is ∙ ap (λ o. by_lacking o (queue_of P before) a w) known

    pub memory_answer : youngest (overlaps a w) (queue_of P before) ≡ None → answer (queue_of P us) (place_of P us p) ≡ Memory
    memory_answer e = by_known ∙ ap (λ o. by_overlap o a w) e

    module _ (q : ℕ) (u : Tenant) (f : FoundIn P (overlaps a w) before q u) where
      by_found : answer (queue_of P us) (place_of P us p) ≡ forwarded f.place (taken_from (entry_of P u).address (bytes (entry_of P u).width) (entry_of P u).content a w)
      by_found = by_known ∙ ap (λ o. by_overlap o a w) f.is

      pub forward_answer : (raw : ℕ) → taken_from (entry_of P u).address (bytes (entry_of P u).width) (entry_of P u).content a w ≡ Some raw → answer (queue_of P us) (place_of P us p) ≡ Forward raw
      forward_answer raw e = by_found ∙ ap (forwarded f.place) e

      pub blocked_answer : taken_from (entry_of P u).address (bytes (entry_of P u).width) (entry_of P u).content a w ≡ None → answer (queue_of P us) (place_of P us p) ≡ Blocked f.place
      blocked_answer e = by_found ∙ ap (forwarded f.place) e

  -- a place of the older part is one of the whole
  pub whole_place : (T : Entry → Bool) (q : ℕ) (u : Tenant) → (f : FoundIn P T before q u) → slice_get (live_accesses P us) f.place ≡ Some (q, entry_of P u)
  whole_place T q u f =
      let split = split_at us p t is in
      let s = starts_of P before (younger us p ++ t ∷ []) in
      ap (λ xs. slice_get (live_accesses P xs) f.place) (split ∙ sym (append_assoc (younger us p) (t ∷ []) before))
      ∙ (ap (λ es. slice_get es f.place) s.is ∙ get_front (live_accesses P before) s.more f.place (q, entry_of P u) f.there)

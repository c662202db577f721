-- The rule for loads gives what the last older stores leave.
use Rattle.std.proofs.Common.{◌≡◌, ◌⊎◌, ℕ, ◌+◌, ◌-◌, ◌<◌, ◌≤◌, ◌^◌, Bool, true, false, cond, ◌&&◌, leb, List, ◌∷◌, ◌++◌, length, Option, Some, None, refl, sym, ap, ◌∙◌, subst, inl, inr, arith}
use Rattle.std.proofs.Common.{true≢false, leb-true, length-append}
use Rattle.std.proofs.Math.Seq.{get_or-append_seam}
use Rattle.std.proofs.lemmas.Option.{slice_get-get_or}
use Rattle.std.specs.List.{slice_get, AllByRecursion}
use Rattle.std.specs.Option.{is_none, IsNone}
use Rattle.lsq.specs.declared.entry.Entry.{Entry}
use Rattle.lsq.specs.declared.answer.Answer.TheVariants.{Forward, Memory, Blocked}
use Rattle.lsq.specs.Bytes.{byte_of, little_endian}
use Rattle.lsq.specs.Entries.{bytes}
use Rattle.lsq.specs.LoadRule.{has_all_of, lacks_address, overlaps, taken_from, forwarded, by_overlap, by_lacking, youngest, answer_over}
use Rattle.lsq.specs.LastStores.{byte_by_entry, byte_left, CannotGive, EntryHasAddress, ReadsStores, ReadsMemory, WaitsFor}
use Rattle.lsq.proofs.Youngest.{FoundIs, SplitsAt, none_behind, youngest_is}
use Rattle.lsq.proofs.LittleEndian.{byte_of-fits, little_endian-fits, byte_of-little_endian, if_there-some, if_there-same}
use Rattle.lsq.proofs.StoresLeft.{all_known, byte_left-append, left_alone, left_by}

-- a store that has its address and data, and covers the load
record Covering (address content : Option ℕ) (v a w raw : ℕ) : Type 0 where
  base : ℕ
  data_is : ℕ
  at_base : address ≡ Some base
  has_data : content ≡ Some data_is
  low : base ≤ a
  high : a + w ≤ base + v
  is : little_endian (λ x. byte_of (x - base) data_is) a w ≡ raw

taken_is_some : (address content : Option ℕ) (v a w raw : ℕ) → taken_from address v content a w ≡ Some raw
    → Covering address content v a w raw
taken_is_some None content v a w raw h = absurd (cc)
taken_is_some (Some b) None v a w raw h = absurd (cc)
taken_is_some (Some b) (Some d) v a w raw h = go (leb b a) refl (leb (a + w) (b + v)) refl
  where
    Got : Bool → Type 0
    Got y = cond y (Some (little_endian (λ x. byte_of (x - b) d) a w)) None ≡ Some raw

    nothing : Got false → ⊥
    nothing q = cc

    some_is : Got true → little_endian (λ x. byte_of (x - b) d) a w ≡ raw
    some_is q = cc

    go : (y : Bool) → leb b a ≡ y → (z : Bool) → leb (a + w) (b + v) ≡ z → Covering (Some b) (Some d) v a w raw
    go true i true j = record {
      base = b;
      data_is = d;
      at_base = refl;
      has_data = refl;
      low = leb-true b a i;
      high = leb-true (a + w) (b + v) j;
      is = some_is (subst Got (ap (λ q. q && leb (a + w) (b + v)) i ∙ j) h);
    }
    go true i false j = absurd (nothing (subst Got (ap (λ q. q && leb (a + w) (b + v)) i ∙ j) h))
    go false i z j = absurd (nothing (subst Got (ap (λ q. q && leb (a + w) (b + v)) i) h))

-- a store that gives a load nothing has no data, or not all bytes of the load
taken_is_none : (address content : Option ℕ) (v a w : ℕ) → taken_from address v content a w ≡ None
    → IsNone content ⊎ ((b : ℕ) → address ≡ Some b → has_all_of b v a w ≡ false)
taken_is_none None content v a w h = inr (λ b e. absurd (cc e))
taken_is_none (Some b) None v a w h = inl refl
taken_is_none (Some b) (Some d) v a w h = inr (λ c e. let same : b ≡ c = cc e in subst lacks same (go (has_all_of b v a w) refl h))
  where
    lacks : ℕ → Type 0
    lacks c = has_all_of c v a w ≡ false

    go : (y : Bool) → has_all_of b v a w ≡ y
        → cond y (Some (little_endian (λ x. byte_of (x - b) d) a w)) None ≡ None → lacks b
    go true i q = absurd (cc q)
    go false i q = i

-- the three answers of the youngest overlapping store
forwarded_is : (place raw : ℕ) (o : Option ℕ) → forwarded place o ≡ Forward raw → o ≡ Some raw
forwarded_is place raw None h = absurd (cc)
forwarded_is place raw (Some r) h = let e : r ≡ raw = cc in ap Some e

blocked_is : (place p : ℕ) (o : Option ℕ) → forwarded place o ≡ Blocked p → (place ≡ p) × (o ≡ None)
blocked_is place p None h = (cc, refl)
blocked_is place p (Some r) h = absurd (cc)

not_memory : (place : ℕ) (o : Option ℕ) → forwarded place o ≡ Memory → ⊥
not_memory place None h = cc
not_memory place (Some r) h = cc

first_true : (x y : Bool) → (x && y) ≡ true → x ≡ true
first_true true y h = refl
first_true false y h = h

none_is : (x : Bool) (o : Option ℕ) → (x && is_none o) ≡ true → IsNone o
none_is true None h = refl
none_is true (Some b) h = absurd (true≢false (sym h))
none_is false o h = absurd (true≢false (sym h))

-- the entry between two parts of a list
pub at_seam : (xs ys : List Entry) (e : Entry) (n : ℕ) → n ≡ 0 + length xs → slice_get (xs ++ e ∷ ys) n ≡ Some e
at_seam xs ys e n h =
    let here : n ≡ length xs = omega arith in
    let inside : length xs < length (xs ++ e ∷ ys) = omega (arith, length-append xs (e ∷ ys)) in
    ap (slice_get (xs ++ e ∷ ys)) here ∙ slice_get-get_or (xs ++ e ∷ ys) (length xs) e inside
    ∙ ap Some (get_or-append_seam xs e ys e)

module _ (older : List Entry) (a w : ℕ) where
  placed : (test : Entry → Bool) (found : ℕ × Entry) → SplitsAt test 0 older found.0 found.1
      → slice_get older found.0 ≡ Some found.1
  placed test found s = ap (λ es. slice_get es found.0) s.parts ∙ at_seam s.older s.younger found.1 found.0 s.place_is

  -- the youngest overlapping store decides each byte that it covers
  left_at : (found : ℕ × Entry) (s : SplitsAt (overlaps a w) 0 older found.0 found.1) (k : ℕ) → k < w
      → (before : Option ℕ)
      → byte_left older (a + k) before ≡ byte_by_entry found.1 (a + k) (byte_left s.older (a + k) before)
  left_at found s k l before =
      ap (λ es. byte_left es (a + k) before) s.parts
      ∙ byte_left-append s.older (found.1 ∷ s.younger) (a + k) before
      ∙ left_alone a w (a + k) (omega arith) (omega arith) s.younger s.none_younger _

  store_bytes : (found : ℕ × Entry) → SplitsAt (overlaps a w) 0 older found.0 found.1 → (raw : ℕ)
      → (t : Covering found.1.address found.1.content (bytes found.1.width) a w raw) → (k : ℕ) → k < w
      → (before : Option ℕ) → byte_left older (a + k) before ≡ Some (byte_of (a + k - t.base) t.data_is)
  store_bytes found s raw t k l before =
      let is_store = first_true found.1.store _ s.passes in
      let above : t.base ≤ a + k = omega (arith, t.low) in
      let below : a + k < t.base + bytes found.1.width = omega (arith, t.high) in
      left_at found s k l before
      ∙ left_by found.1.store found.1.address (bytes found.1.width) found.1.content (a + k) t.base t.data_is _
      is_store t.at_base t.has_data above below

  reads_stores : (raw : ℕ) (found : ℕ × Entry) → AllByRecursion EntryHasAddress older
      → SplitsAt (overlaps a w) 0 older found.0 found.1
      → Covering found.1.address found.1.content (bytes found.1.width) a w raw → ReadsStores older a w raw
  reads_stores raw found known s t = record {
    known = known;
    bytes = λ k l before. store_bytes found s raw t k l before
        ∙ ap Some (sym (byte_of-little_endian f a w k fits l) ∙ ap (byte_of k) t.is);
    number = λ before. if_there-some _ f a w (λ k l. store_bytes found s raw t k l (before (a + k))) ∙ ap Some t.is;
    fits = subst (λ n. n < 256 ^ w) t.is (little_endian-fits f a w fits);
  }
    where
      f : ℕ → ℕ
      f = λ x. byte_of (x - t.base) t.data_is

      fits : (x : ℕ) → f x < 256
      fits x = byte_of-fits (x - t.base) t.data_is

  -- the cases of the rule
  forward_over : (raw : ℕ) (o : Option (ℕ × Entry)) → AllByRecursion EntryHasAddress older
      → FoundIs (overlaps a w) 0 older o → by_overlap o a w ≡ Forward raw → ReadsStores older a w raw
  forward_over raw None known n h = absurd (cc)
  forward_over raw (Some found) known s h =
      reads_stores raw found known s (taken_is_some _ _ _ a w raw (forwarded_is found.0 raw _ h))

  forward_by : (raw : ℕ) (o : Option (ℕ × Entry)) → FoundIs lacks_address 0 older o
      → by_lacking o older a w ≡ Forward raw → ReadsStores older a w raw
  forward_by raw None n h =
      forward_over raw (youngest (overlaps a w) older) (all_known older n) (youngest_is (overlaps a w) older 0) h
  forward_by raw (Some found) s h = absurd (cc)

  pub forward_is : (raw : ℕ) → answer_over older a w ≡ Forward raw → ReadsStores older a w raw
  forward_is raw h = forward_by raw (youngest lacks_address older) (youngest_is lacks_address older 0) h

  memory_over : (o : Option (ℕ × Entry)) → AllByRecursion EntryHasAddress older → FoundIs (overlaps a w) 0 older o
      → by_overlap o a w ≡ Memory → ReadsMemory older a w
  memory_over None known n h = record {
    known = known;
    bytes = same;
    number = λ before. if_there-same _ before a w (λ k l. same k l (before (a + k)));
  }
    where
      same : (k : ℕ) → k < w → (before : Option ℕ) → byte_left older (a + k) before ≡ before
      same k l before = left_alone a w (a + k) (omega arith) (omega arith) older n before
  memory_over (Some found) known s h = absurd (not_memory found.0 _ h)

  memory_by : (o : Option (ℕ × Entry)) → FoundIs lacks_address 0 older o → by_lacking o older a w ≡ Memory
      → ReadsMemory older a w
  memory_by None n h =
      memory_over (youngest (overlaps a w) older) (all_known older n) (youngest_is (overlaps a w) older 0) h
  memory_by (Some found) s h = absurd (cc)

  pub memory_is : answer_over older a w ≡ Memory → ReadsMemory older a w
  memory_is h = memory_by (youngest lacks_address older) (youngest_is lacks_address older 0) h

  waits : (test : Entry → Bool) (found : ℕ × Entry) (p : ℕ) → SplitsAt test 0 older found.0 found.1
      → found.0 ≡ p → found.1.store ≡ true → (IsNone found.1.address ⊎ CannotGive older a w p found.1)
      → WaitsFor older a w p
  waits test found p s e store why =
      record { entry = found.1; there = ap (slice_get older) (sym e) ∙ placed test found s; store = store; why = why }

  cannot_give : (found : ℕ × Entry) (p : ℕ) → AllByRecursion EntryHasAddress older
      → SplitsAt (overlaps a w) 0 older found.0 found.1 → found.0 ≡ p
      → taken_from found.1.address (bytes found.1.width) found.1.content a w ≡ None
      → CannotGive older a w p found.1
  cannot_give found p known s e nothing = record {
    known = known;
    meets = s.passes;
    youngest = λ k other less h. none_behind (overlaps a w) s.older s.younger found.1 k other s.none_younger
        (omega (arith, less, e, s.place_is)) (sym (ap (λ es. slice_get es k) s.parts) ∙ h);
    lacks = taken_is_none found.1.address found.1.content (bytes found.1.width) a w nothing;
  }

  blocked_over : (p : ℕ) (o : Option (ℕ × Entry)) → AllByRecursion EntryHasAddress older
      → FoundIs (overlaps a w) 0 older o → by_overlap o a w ≡ Blocked p → WaitsFor older a w p
  blocked_over p None known n h = absurd (cc)
  blocked_over p (Some found) known s h =
      let b = blocked_is found.0 p _ h in
      waits (overlaps a w) found p s b.0 (first_true found.1.store _ s.passes)
      (inr (cannot_give found p known s b.0 b.1))

  blocked_by : (p : ℕ) (o : Option (ℕ × Entry)) → FoundIs lacks_address 0 older o
      → by_lacking o older a w ≡ Blocked p → WaitsFor older a w p
  blocked_by p None n h =
      blocked_over p (youngest (overlaps a w) older) (all_known older n) (youngest_is (overlaps a w) older 0) h
  blocked_by p (Some found) s h =
      let same : found.0 ≡ p = cc in
      waits lacks_address found p s same (first_true found.1.store _ s.passes) (inl (none_is found.1.store _ s.passes))

  pub blocked_is_right : (p : ℕ) → answer_over older a w ≡ Blocked p → WaitsFor older a w p
  blocked_is_right p h = blocked_by p (youngest lacks_address older) (youngest_is lacks_address older 0) h

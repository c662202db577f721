-- What the stores of a list leave at one byte of a load.
use Rattle.std.proofs.Common.{◌≡◌, ℕ, ◌+◌, ◌-◌, ◌<◌, ◌≤◌, Bool, true, false, cond, ◌&&◌, ltb, leb, List, [], ◌∷◌, ◌++◌, Option, Some, None, option_map, refl, sym, ap, ◌∙◌, arith, true≢false, ltb-true}
use Rattle.std.proofs.Common.{leb-true, lt-ltb, le-leb}
use Rattle.std.specs.List.{AllByRecursion}
use Rattle.std.specs.Option.{IsSome, is_none}
use Rattle.lsq.specs.declared.entry.Entry.{Entry}
use Rattle.lsq.specs.Bytes.{byte_of}
use Rattle.lsq.specs.Entries.{bytes}
use Rattle.lsq.specs.LoadRule.{lacks_address, overlaps, meets}
use Rattle.lsq.specs.LastStores.{byte_by, byte_by_entry, byte_left, EntryHasAddress}
use Rattle.lsq.proofs.Youngest.{NonePasses}

-- where no store lacks its address, each has it
has_by : (store : Bool) (address : Option ℕ) → (store && is_none address) ≡ false → store ≡ true → IsSome address
has_by true (Some b) h t = refl
has_by true None h t = absurd (true≢false h)
has_by false a h t = absurd (true≢false (sym t))

pub all_known : (es : List Entry) → NonePasses lacks_address es → AllByRecursion EntryHasAddress es
all_known [] n = tt
all_known (e ∷ es) n = (has_by e.store e.address n.0, all_known es n.1)

-- one list after another
pub byte_left-append : (xs ys : List Entry) (x : ℕ) (before : Option ℕ)
    → byte_left (xs ++ ys) x before ≡ byte_left ys x (byte_left xs x before)
byte_left-append [] ys x before = refl
byte_left-append (e ∷ xs) ys x before = byte_left-append xs ys x (byte_by_entry e x before)

-- a byte of a load lies in no range that does not meet the load
not_over : (b v a w x : ℕ) → a ≤ x → x < a + w → meets (Some b) v a w ≡ false → (leb b x && ltb x (b + v)) ≡ false
not_over b v a w x l m h = go (leb b x) refl (ltb x (b + v)) refl
  where
    both : b ≤ x → x < b + v → ⊥
    both p q =
        let first : ltb b (a + w) ≡ true = lt-ltb b (a + w) (omega arith) in
        let second : ltb a (b + v) ≡ true = lt-ltb a (b + v) (omega arith) in
        true≢false (sym (ap (λ y. y && ltb a (b + v)) first ∙ second) ∙ h)

    go : (y : Bool) → leb b x ≡ y → (z : Bool) → ltb x (b + v) ≡ z → (leb b x && ltb x (b + v)) ≡ false
    go true e true f = absurd (both (leb-true b x e) (ltb-true x (b + v) f))
    go true e false f = ap (λ y. y && ltb x (b + v)) e ∙ f
    go false e z f = ap (λ y. y && ltb x (b + v)) e

module _ (a w x : ℕ) (low : a ≤ x) (high : x < a + w) where
  alone_by : (store : Bool) (address : Option ℕ) (v : ℕ) (content before : Option ℕ)
      → (store && meets address v a w) ≡ false → byte_by store address v content x before ≡ before
  alone_by true (Some b) v content before h =
      ap (λ y. cond y (option_map (byte_of (x - b)) content) before) (not_over b v a w x low high h)
  alone_by true None v content before h = refl
  alone_by false address v content before h = refl

  -- stores that do not overlap a load leave its bytes alone
  pub left_alone : (es : List Entry) → NonePasses (overlaps a w) es → (before : Option ℕ)
      → byte_left es x before ≡ before
  left_alone [] n before = refl
  left_alone (e ∷ es) n before =
      ap (byte_left es x) (alone_by e.store e.address (bytes e.width) e.content before n.0) ∙ left_alone es n.1 before

-- a store over a byte, with its data, leaves its own byte
pub left_by : (store : Bool) (address : Option ℕ) (v : ℕ) (content : Option ℕ) (x b d : ℕ) (before : Option ℕ)
    → store ≡ true → address ≡ Some b → content ≡ Some d → b ≤ x → x < b + v
    → byte_by store address v content x before ≡ Some (byte_of (x - b) d)
left_by store address v content x b d before es ea ec l m =
    ap (λ s. byte_by s address v content x before) es
    ∙ ap (λ o. byte_by true o v content x before) ea
    ∙ ap (λ o. byte_by true (Some b) v o x before) ec
    ∙ ap (λ y. cond y (Some (byte_of (x - b) d)) before)
    (ap (λ y. y && ltb x (b + v)) (le-leb b x l) ∙ lt-ltb x (b + v) m)

-- What the code takes from a store is the bytes of the load.
use Rattle.std.proofs.Common.{◌≡◌, ℕ, ◌+◌, ◌-◌, ◌*◌, ◌/◌, ◌%◌, ◌^◌, ◌≤◌, Bool, true, cond, ◌&&◌, leb, Option, Some, None, sym, ap, ◌∙◌, le-leb}
use Rattle.lsq.specs.Bytes.{byte_of, little_endian}
use Rattle.lsq.specs.LoadRule.{has_all_of, taken_from}
use Rattle.lsq.proofs.LittleEndian.{little_endian-from}

covers_is : (b v a w : ℕ) → b ≤ a → a + w ≤ b + v → has_all_of b v a w ≡ true
covers_is b v a w h l = ap (λ (x : Bool). x && leb (a + w) (b + v)) (le-leb b a h) ∙ le-leb (a + w) (b + v) l

pub taken_is : (address content : Option ℕ) (b d v a w : ℕ) → address ≡ Some b → content ≡ Some d → b ≤ a
    → a + w ≤ b + v → Some (d / 2 ^ (8 * (a - b)) % 256 ^ w) ≡ taken_from address v content a w
taken_is address content b d v a w ea ec h l =
    sym
    (ap (λ (o : Option ℕ). taken_from o v content a w) ea ∙ ap (λ (o : Option ℕ). taken_from (Some b) v o a w) ec
    ∙ ap (λ (x : Bool). cond x (Some (little_endian (λ y. byte_of (y - b) d) a w)) None) (covers_is b v a w h l)
    ∙ ap Some (little_endian-from b a w d h))

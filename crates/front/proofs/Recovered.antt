-- A recovery as a whole.
use Rattle.std.proofs.Common.{◌≡◌, ℕ, zero, suc, ◌+◌, ◌<◌, List, [], ◌∷◌, ◌++◌, length, map, take, Some, sym, ap, subst, arith, length-append}
use Rattle.std.specs.Prelude.{slice_get}
use Rattle.instructions.specs.Programs.{Program}
use Rattle.inorder.specs.declared.history.Act.TheVariants.{Mend}
use Rattle.inorder.specs.declared.history.Entry.{Entry}
use Rattle.inorder.specs.declared.history.Event.TheVariants.{Does}
use Rattle.inorder.specs.declared.history.Step.TheVariants.{On}
use Rattle.inorder.specs.History.{IsLegal, front, unit_of}
use Rattle.inorder.specs.OneHistory.{Adds}
use Rattle.inorder.specs.Unit.{Sizes}
use Rattle.inorder.proofs.Histories.{adds_on}
use Rattle.ruu_words.specs.Kinds.{IsNamed}
use Rattle.ruu_words.proofs.Stays.{named_of}
use Rattle.station.specs.Recovery.{IsMended as IsMendedThere, SeesMiss, SeesWrongPath, WasSquashed}
use Rattle.front.specs.declared.path.base_state.Base.{Base}
use Rattle.front.specs.declared.path.record.Record.{Record}
use Rattle.front.specs.declared.recovery.Missed.{Missed}
use Rattle.front.specs.Knows.{FrontKnows}
use Rattle.front.specs.Path.{YoungestGoesOn, rested_at}
use Rattle.front.specs.Recoveries.{IsCut, NoOlderMiss, MissIsMended, IsMissAt, squash_event}
use Rattle.front.proofs.RecoveredTable.{mend_table, squash_table}
use Rattle.front.proofs.Recovering.{mend_step, squash_step}
use Rattle.front.proofs.YoungestRecord.{last_position, may_mend, may_squash}
use Rattle.front.specs.CreateTable.{HasTable, IsRestored}
use Rattle.front.specs.declared.path.counted.Table.{Table}

-- Lists

pub last_at_end : (xs : List Record) (i : ℕ) (x : Record) → slice_get xs i ≡ Some x → length xs ≡ i + 1 → xs ≡ take i xs ++ x ∷ []
last_at_end [] i x e n = absurd (cc e)
last_at_end (y ∷ []) zero x e n = let same : y ≡ x = cc e in ap (λ z. z ∷ []) same
last_at_end (y ∷ z ∷ xs) zero x e n = absurd (omega arith)
last_at_end (y ∷ xs) (suc i) x e n = ap (λ z. y ∷ z) (last_at_end xs i x e (omega arith))

pub get_before : (xs : List Record) (y : Record) (i : ℕ) (x : Record) → i < length xs → slice_get (xs ++ y ∷ []) i ≡ Some x → slice_get xs i ≡ Some x
get_before [] y i x lt e = absurd (omega arith)
get_before (z ∷ xs) y zero x lt e = e
get_before (z ∷ xs) y (suc i) x lt e = get_before xs y i x (omega arith) e

module _ (P : Program) (C : Sizes) where
  -- the youngest may be squashed
  pub squash_allowed : (h : List Entry) → IsLegal P C h → (rest : List Record) (one : Record) (base : Base) → FrontKnows P C (unit_of P C h) (rest ++ one ∷ []) base → (m : Missed)
      → IsMissAt P C h (rest ++ one ∷ []) m → m.at + 1 < length (rest ++ one ∷ []) → SeesWrongPath P C h
  squash_allowed h legal rest one base k m i lt =
      let long = length-append rest (one ∷ []) in
      let here = get_before rest one m.at i.one (omega (arith, long, lt)) i.here in
      let can = may_squash P C h legal rest one base k m.at i.one m.next i.miss.p here i.miss.tenant in
      record { p = _; can = can }

  pub record CutOne (old new : List Entry) (rest : List Record) (base : Base) (m : Missed) : Type 0 where
    pub p : ℕ
    pub adds : Adds P C front old new (squash_event p ∷ [])
    pub knows : FrontKnows P C (unit_of P C new) rest base
    pub miss : IsMissAt P C new rest m

  -- after it
  pub squash_done : (old new : List Entry) (rest : List Record) (one : Record) (base : Base) → FrontKnows P C (unit_of P C old) (rest ++ one ∷ []) base → (m : Missed)
      → IsMissAt P C old (rest ++ one ∷ []) m → m.at + 1 < length (rest ++ one ∷ []) → (station tag : ℕ) → WasSquashed P C front station tag old new → CutOne old new rest base m
  squash_done old new rest one base k m i lt station tag s =
      let long = length-append rest (one ∷ []) in
      let here = get_before rest one m.at i.one (omega (arith, long, lt)) i.here in
      let z = squash_step P C old new rest one base k s.p s.adds m.at i.one m.next i.miss.p here i.miss.tenant in
      record {
        p = s.p;
        adds = s.adds;
        knows = z.knows;
        miss = record { one = i.one; here = here; station = i.station; small = i.small; miss = record { p = i.miss.p; tenant = z.miss } };
      }

  pub cut_more : (old mid new : List Entry) (n n' : ℕ) → IsCut P C old mid n → (p : ℕ) → Adds P C front mid new (squash_event p ∷ []) → n' ≡ n + 1 → IsCut P C old new n'
  cut_more old mid new n n' c p adds e = record {
    squashes = p ∷ c.squashes;
    count = omega (arith, c.count, e);
    adds = adds_on P C front old mid new (map squash_event c.squashes) (squash_event p ∷ []) c.adds adds;
  }

  pub squash_table_done : (old new : List Entry) (rest : List Record) (one : Record) (base : Base) → FrontKnows P C (unit_of P C old) (rest ++ one ∷ []) base → (station tag : ℕ)
      → WasSquashed P C front station tag old new → (T T' : Table) → HasTable P (unit_of P C old) (rested_at base) T → IsRestored T T' station → HasTable P (unit_of P C new) (rested_at base) T'
  squash_table_done old new rest one base k station tag s T T' table r = squash_table P C old new rest one base k s.p s.adds station tag s.named T T' table r

  -- the youngest is the miss: it may be mended
  pub mend_allowed : (h : List Entry) → IsLegal P C h → (records : List Record) (base : Base) → FrontKnows P C (unit_of P C h) records base → (m : Missed) → IsMissAt P C h records m
      → length records ≡ m.at + 1 → SeesMiss P C h m.station
  mend_allowed h legal records base k m i n =
      let rest : List Record = take m.at records in
      let are : records ≡ rest ++ i.one ∷ [] = last_at_end records m.at i.one i.here n in
      let k' : FrontKnows P C (unit_of P C h) (rest ++ i.one ∷ []) base = subst (λ z. FrontKnows P C (unit_of P C h) z base) are k in
      let can = may_mend P C h legal rest i.one base k' m.next i.miss.p i.miss.tenant in
      let same = last_position P C h legal rest i.one base k' m.next i.miss.p i.miss.tenant in
      let t = i.miss.tenant in
      record {
        tag = i.one.tag;
        next = m.next;
        miss = record {
          p = _;
          named = subst (λ (z : ℕ × ℕ). IsNamed (unit_of P C h) z.0 z.1 i.one.tag) (λ j. (same j, sym i.station j)) (named_of i.miss.tenant);
          can = can;
        };
      }

  pub record Mended (begin new : List Entry) (records : List Record) (base : Base) (m : Missed) (squashed : ℕ) : Type 0 where
    pub knows : (records' : List Record) → YoungestGoesOn m.next records records' → FrontKnows P C (unit_of P C new) records' base
    pub is : MissIsMended P C begin new m.station squashed

  pub mend_done : (begin old new : List Entry) (records : List Record) (base : Base) → FrontKnows P C (unit_of P C old) records base → (m : Missed) → (i : IsMissAt P C old records m)
      → length records ≡ m.at + 1 → NoOlderMiss (unit_of P C begin) i.miss.p → (squashed : ℕ) → IsCut P C begin old squashed → IsMendedThere P C front m.station old new
      → Mended begin new records base m squashed
  mend_done begin old new records base k m i n first squashed cut s =
      let rest : List Record = take m.at records in
      let are : records ≡ rest ++ i.one ∷ [] = last_at_end records m.at i.one i.here n in
      let k' : FrontKnows P C (unit_of P C old) (rest ++ i.one ∷ []) base = subst (λ z. FrontKnows P C (unit_of P C old) z base) are k in
      let z = mend_step P C old new rest i.one base k' s.p s.adds m.next i.miss.p i.miss.tenant in
      let same = z.same i.miss.p i.miss.tenant in
      record {
        knows = λ records' goes. subst (λ y. FrontKnows P C (unit_of P C new) y base) (sym (goes rest i.one are)) z.knows;
        is = record {
          p = s.p;
          tag = i.one.tag;
          named = subst (λ y. IsNamed (unit_of P C new) s.p y i.one.tag) (sym i.station) z.named;
          first = subst (NoOlderMiss (unit_of P C begin)) same first;
          squashes = cut.squashes;
          count = cut.count;
          adds = adds_on P C front begin old new (map squash_event cut.squashes) (Does (On s.p Mend) ∷ []) cut.adds s.adds;
        };
      }

  pub mend_table_done : (old new : List Entry) (records : List Record) (base : Base) → FrontKnows P C (unit_of P C old) records base → (m : Missed) → (i : IsMissAt P C old records m)
      → length records ≡ m.at + 1 → IsMendedThere P C front m.station old new → (T : Table) → HasTable P (unit_of P C old) (rested_at base) T → HasTable P (unit_of P C new) (rested_at base) T
  mend_table_done old new records base k m i n s T table =
      let rest : List Record = take m.at records in
      let are : records ≡ rest ++ i.one ∷ [] = last_at_end records m.at i.one i.here n in
      let k' : FrontKnows P C (unit_of P C old) (rest ++ i.one ∷ []) base = subst (λ z. FrontKnows P C (unit_of P C old) z base) are k in
      mend_table P C old new rest i.one base k' s.p s.adds m.next i.miss.p i.miss.tenant T table

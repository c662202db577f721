-- The words of the table along the example of two stations.
use Rattle.std.proofs.Common.{◌≡◌, ℕ, zero, suc, Bool, List, [], ◌∷◌, length, Some, inl, inr, refl, sym, ◌∙◌, subst, true, arith, slice_index}
use Rattle.instructions.specs.Operations.{checked_address, computed_by, jump_target, loaded}
use Rattle.instructions.specs.Programs.{instr_at}
use Rattle.inorder.specs.declared.history.Source.{Source}
use Rattle.inorder.specs.declared.history.Source.TheVariants.{First, Second}
use Rattle.inorder.specs.History.{unit_of}
use Rattle.inorder.specs.Tenants.{Linked, Live, Tenant, operand}
use Rattle.inorder.specs.Unit.{Sizes, UpdateUnit, at}
use Rattle.inorder.proofs.Runs.Examples.{at_let_not_linked, known, two_stations}
use Rattle.inorder.proofs.Positions.{all_at}
use Rattle.inorder.proofs.Runs.SharedRun.{adds, made, relet}
use Rattle.ruu_words.specs.declared.place.Place.{Place}
use Rattle.ruu_words.specs.declared.place.Place.TheVariants.{Info, Link, Operand, Station}
use Rattle.ruu_words.specs.declared.rule.Draft.TheVariants.{Nothing}
use Rattle.ruu_words.specs.Content.{Content, IsLinkWord, IsLinked, NamesLink}
use Rattle.instructions.specs.declared.op.Half.TheVariants.{Low}
use Rattle.ruu_words.specs.Fields.{pack, pack_info, pack_link}
use Rattle.ruu_words.specs.Places.{IsPlace, index, words_for}

-- Five words: a station that was let again, one that is done with 5, one whose tags are spent, a link of two
-- first tenants, and the info of the second instruction
word_open : pack 2 1 0 ≡ 0x0000002100000000
word_open = refl

word_done : pack 1 4 5 ≡ 0x0000001400000005
word_done = refl

word_spent : pack 0xfffffff 0 0 ≡ 0xfffffff000000000
word_spent = refl

word_link : pack_link 1 1 ≡ 0x0000001000000100
word_link = refl

word_info : pack_info Low 1 0x00400008 ≡ 0x0000000100400008
word_info = refl

-- The words once the first tenant is done with 5, and before it is delivered
abbrev words_made : List ℕ
words_made =
    0x0000001400000005 ∷ 0x0000001100000000 ∷
    0x0000000000400004 ∷ 0x0000000100400008 ∷
    0x0000001200000000 ∷ 0x0000001200000000 ∷ 0x0000001100000000 ∷ 0x0000001100000000 ∷
    0 ∷ 0 ∷ 0x0000001000000100 ∷ 0x0000001000000100 ∷
    0 ∷ 0 ∷ 0 ∷ 0 ∷ []

abbrev unit_made : UpdateUnit
unit_made = unit_of adds two_stations made

abbrev tenants_made : List Tenant
tenants_made = unit_made.tenants

as_many : length words_made ≡ words_for 2
as_many = refl

-- Every tag is 1, and every link is one of the second tenant to the first

abbrev PointsBack : Tenant → Source → Type 0
PointsBack t k =
    (b : Bool) → (operand k t).way ≡ Linked b → (t.station ≡ 1) × ((operand k t).creator ≡ Some 0)

tag_is_1 : (p : ℕ) (t : Tenant) → at tenants_made p ≡ Some t → t.tag ≡ 1
unfolding instr_at computed_by jump_target checked_address loaded
tag_is_1 = all_at (λ t. t.tag ≡ 1) tenants_made (refl, (refl, tt))

all_point_back : (p : ℕ) (t : Tenant) → at tenants_made p ≡ Some t → PointsBack t First × PointsBack t Second
unfolding instr_at computed_by jump_target checked_address loaded
all_point_back = all_at (λ t. PointsBack t First × PointsBack t Second) tenants_made (
  ((λ b e. (refl, refl)), (λ b e. (refl, refl))),
  (((λ b e. absurd (at_let_not_linked e)), (λ b e. absurd (at_let_not_linked e))), tt),
)

point_back : (p : ℕ) (t : Tenant) (k : Source) → at tenants_made p ≡ Some t → PointsBack t k
point_back p t First is = (all_point_back p t is).0
point_back p t Second is = (all_point_back p t is).1

first_at_0 : (t : Tenant) → at tenants_made 0 ≡ Some t → t.station ≡ 0
unfolding instr_at computed_by jump_target checked_address loaded
first_at_0 t is = known (λ u. u.station ≡ 0) _ _ t refl is refl

from_0_to_1 : (q r : ℕ) (k : Source) (producer consumer : Tenant) → IsLinked tenants_made q r k producer consumer →
    (producer.station ≡ 0) × (consumer.station ≡ 1)
from_0_to_1 q r k producer consumer is =
    let back = point_back r consumer k is.consumer_is is.in_time is.way in
    let same : q ≡ 0 = cc (sym is.creator ∙ back.1) in
    (first_at_0 producer (subst (λ n. at tenants_made n ≡ Some producer) same is.producer_is), back.0)

-- The second tenant stands where the links say, and each of its sources is linked
linked_1_1 : (k : Source) → IsLinkWord unit_made 0 1 k 0x0000001000000100
unfolding instr_at computed_by jump_target checked_address loaded
linked_1_1 k = record { names = inr (named k); stands = stands }
  where
    named : (k : Source) → NamesLink unit_made 0 1 k 0x0000001000000100
    named First =
        record {
          q = 0;
          r = 1;
          producer = _;
          consumer = _;
          is = record { producer_is = refl; consumer_is = refl; in_time = true; way = refl; creator = refl };
          producer_new = refl;
          consumer_new = refl;
          at_p = refl;
          at_c = refl;
          word = refl;
        }
    named Second =
        record {
          q = 0;
          r = 1;
          producer = _;
          consumer = _;
          is = record { producer_is = refl; consumer_is = refl; in_time = true; way = refl; creator = refl };
          producer_new = refl;
          consumer_new = refl;
          at_p = refl;
          at_c = refl;
          word = refl;
        }

    stands : (q r : ℕ) (producer consumer : Tenant) → IsLinked tenants_made q r k producer consumer →
        consumer.standing ≡ Live → producer.station ≡ 0 → consumer.station ≡ 1 →
        0x0000001000000100 ≡ pack_link producer.tag consumer.tag
    stands q r producer consumer is live at_p at_c =
        let p = tag_is_1 q producer is.producer_is in
        let c = tag_is_1 r consumer is.consumer_is in
        omega arith

unlinked : (p c : ℕ) (k : Source) → ¬ ((p ≡ 0) × (c ≡ 1)) → IsLinkWord unit_made p c k 0
unlinked p c k other =
    record {
      names = inl refl;
      stands = λ q r producer consumer is live at_p at_c.
          let both = from_0_to_1 q r k producer consumer is in
          absurd (other (sym at_p ∙ both.0, sym at_c ∙ both.1));
    }

-- Each word of the table
table_made : (x : Place) → IsPlace 2 x → Content adds two_stations (unit_of adds two_stations made) Nothing x (slice_index words_made (index 2 x))
unfolding instr_at computed_by jump_target checked_address loaded
table_made (Station zero) h = record { tag = refl; state = refl; value = refl }
table_made (Station (suc zero)) h = record { tag = refl; state = refl; value = refl }
table_made (Station (suc (suc s))) h = absurd (omega arith)
table_made (Info zero) h = record { half = refl; index = refl; predicted = refl }
table_made (Info (suc zero)) h = record { half = refl; index = refl; predicted = refl }
table_made (Info (suc (suc s))) h = absurd (omega arith)
table_made (Operand zero First) h = record { tag = refl; state = refl; value = refl }
table_made (Operand zero Second) h = record { tag = refl; state = refl; value = refl }
table_made (Operand (suc zero) First) h = record { tag = refl; state = refl; value = refl }
table_made (Operand (suc zero) Second) h = record { tag = refl; state = refl; value = refl }
table_made (Operand (suc (suc s)) k) h = absurd (omega arith)
table_made (Link zero zero First) h = unlinked 0 0 First (λ e. let c = e.1 in absurd (omega arith))
table_made (Link zero zero Second) h = unlinked 0 0 Second (λ e. let c = e.1 in absurd (omega arith))
table_made (Link zero (suc zero) First) h = linked_1_1 First
table_made (Link zero (suc zero) Second) h = linked_1_1 Second
table_made (Link (suc zero) zero First) h = unlinked 1 0 First (λ e. let p = e.0 in absurd (omega arith))
table_made (Link (suc zero) zero Second) h = unlinked 1 0 Second (λ e. let p = e.0 in absurd (omega arith))
table_made (Link (suc zero) (suc zero) First) h = unlinked 1 1 First (λ e. let p = e.0 in absurd (omega arith))
table_made (Link (suc zero) (suc zero) Second) h = unlinked 1 1 Second (λ e. let p = e.0 in absurd (omega arith))
table_made (Link (suc (suc p)) c k) h = let less = h.0 in absurd (omega arith)
table_made (Link zero (suc (suc c)) k) h = let less = h.1 in absurd (omega arith)
table_made (Link (suc zero) (suc (suc c)) k) h = let less = h.1 in absurd (omega arith)

-- Later the first station is open again, with the next tag. The words of the links to its first tenant stand
-- on, and name one that has left
station_relet : Content adds two_stations (unit_of adds two_stations relet) Nothing (Station 0) 0x0000002100000000
unfolding instr_at computed_by jump_target checked_address loaded
station_relet = record { tag = refl; state = refl; value = refl }

-- A station whose tags are spent from the start
abbrev last_tags : Sizes
last_tags = record { ring = 2; queue = 2; first_tag = 0xfffffff }

station_spent : Content adds last_tags (unit_of adds last_tags []) Nothing (Station 0) 0xfffffff000000000
station_spent = record { tag = refl; state = refl; value = refl }

-- A let with its questions.
use Rattle.std.proofs.Common.{◌≡◌, ℕ, ◌<◌, List, [], ◌∷◌, ◌++◌, length, sym, ap, ◌∙◌, subst, append_assoc}
use Rattle.instructions.specs.Instruction.{first_of, second_of}
use Rattle.instructions.specs.Programs.{Program}
use Rattle.inorder.specs.declared.history.Entry.{Entry}
use Rattle.inorder.specs.declared.history.Source.TheVariants.{First, Second}
use Rattle.inorder.specs.History.{entry, front, renewals, unit_of}
use Rattle.inorder.specs.OneHistory.{Adds}
use Rattle.inorder.specs.Unit.{Sizes, next_tag, recent}
use Rattle.inorder.proofs.Histories.{adds_on}
use Rattle.ruu_words.specs.Kinds.{IsNamed}
use Rattle.ruu_words.proofs.Stays.{named_on, named_stays}
use Rattle.station.specs.declared.answers.Supply.{Supply}
use Rattle.station.specs.Letting.{let_of, supply_of}
use Rattle.front.specs.declared.path.base_state.Base.{Base}
use Rattle.front.specs.declared.fetch.Fetched.{Fetched}
use Rattle.front.specs.declared.path.record.Record.{Record}
use Rattle.front.specs.Knows.{FrontKnows}
use Rattle.front.specs.Path.{record_for, rested_at}
use Rattle.front.specs.Questions.{Asks, IsDispatched, MayAskFor}
use Rattle.front.specs.CreateTable.{HasTable, IsEntered}
use Rattle.front.specs.declared.path.counted.Table.{Table}
use Rattle.front.proofs.Questioned.{HasAsked, has_asked, may_ask, second_still}
use Rattle.station.proofs.Splitting.{LastEvent}
use Rattle.front.proofs.Dispatching.{first_pends, half_there, knows_behind, l, named_new, pc_there, place, second_pends, table_behind, tag_there}
use Rattle.front.proofs.DispatchFacts.{DispatchFacts, small_creator, tenant_of}

module _ {P : Program} {C : Sizes} {old : List Entry} {records : List Record} {base : Base} {f : Fetched} {predicted index : ℕ} {first second : Supply}
    (d : DispatchFacts P C old records base f predicted index first second)
    {by tag : ℕ} {new : List Entry} (by_is : by ≡ front) (history : Adds P C by old new (let_of (tenant_of f predicted index first second) ∷ []))
    (tag_is : tag ≡ next_tag C (recent (unit_of P C old))) where
  adds : Adds P C front old new (let_of (tenant_of f predicted index first second) ∷ [])
  adds = subst (λ i. Adds P C i old new (let_of (tenant_of f predicted index first second) ∷ [])) by_is history

  abbrev let_entry : Entry
  let_entry = entry front (let_of (tenant_of f predicted index first second))

  abbrev here : LastEvent P C front old new (let_of (tenant_of f predicted index first second)) []
  here = l d new adds tag tag_is

  abbrev p : ℕ
  p = length (unit_of P C here.point).tenants

  abbrev behind : List Record
  behind = records ++ record_for f tag predicted ∷ []

  pub may_ask_first : MayAskFor P C new f.station tag First first
  may_ask_first = may_ask P C new f.station tag First first _ (small_creator d (first_of f.instr) d.first_small first d.first_is)
      (λ a g e. let pends = first_pends d new adds tag tag_is a g e in (pends.q, pends.pending))

  -- its place in the unit, after its let
  named_after : IsNamed (unit_of P C new) p f.station tag
  named_after =
      subst (λ z. IsNamed (unit_of P C z) p f.station tag) (sym here.is) (named_stays P C p f.station tag here.after (let_entry ∷ here.point) here.legal
      (sym (ap renewals here.is) ∙ here.since) (named_new d new adds tag tag_is))

  -- after the first question
  module _ (mid : List Entry) (asks_first : Asks P C new mid f.station tag First first) where
    pub may_ask_second : MayAskFor P C mid f.station tag Second second
    may_ask_second = may_ask P C mid f.station tag Second second _ (small_creator d (second_of f.instr) d.second_small second d.second_is)
        (λ a g e. let pends = second_pends d new adds tag tag_is a g e in (pends.q, second_still P C new mid f.station tag first asks_first _ pends.q a g pends.pending))

    one : HasAsked P C new mid p First first
    one = has_asked P C new mid adds.legal p f.station tag First first named_after asks_first

    named_mid : IsNamed (unit_of P C mid) p f.station tag
    named_mid = named_on P C front p f.station tag one.events new mid one.adds named_after

    -- after both
    module _ (end : List Entry) (asks_second : Asks P C mid end f.station tag Second second) where
      two : HasAsked P C mid end p Second second
      two = has_asked P C mid end one.adds.legal p f.station tag Second second named_mid asks_second

      pub knows_end : FrontKnows P C (unit_of P C end) behind base
      knows_end = two.knows behind base (one.knows behind base (knows_behind d new adds tag tag_is))

      pub table_end : (T T' : Table) → HasTable P (unit_of P C old) (rested_at base) T → f.station < 32 → IsEntered T T' (record_for f tag predicted) →
          HasTable P (unit_of P C end) (rested_at base) T'
      table_end T T' table inside entered =
          two.table (rested_at base) T' (one.table (rested_at base) T' (table_behind d new adds tag tag_is T T' table inside entered))

      pub dispatched : IsDispatched P C old end f predicted tag
      dispatched = record {
        lets = record {
          index = index;
          first = supply_of first;
          second = supply_of second;
          point = here.point;
          before = here.before;
          behind = record {
            more = two.adds.begins.more ++ (one.adds.begins.more ++ here.after);
            is =
                two.adds.begins.is
                ∙ (ap (λ z. two.adds.begins.more ++ z) (one.adds.begins.is ∙ (ap (λ z. one.adds.begins.more ++ z) here.is ∙
                sym (append_assoc one.adds.begins.more here.after (let_entry ∷ here.point))))
                ∙ sym (append_assoc two.adds.begins.more (one.adds.begins.more ++ here.after) (let_entry ∷ here.point)));
          };
          station_is = place d new adds tag tag_is;
          tag_is = tag_there d new adds tag tag_is;
          pc_is = pc_there d new adds tag tag_is;
          first_asked = one.events;
          second_asked = two.events;
          asks_first = one.asks;
          asks_second = two.asks;
          adds = adds_on P C front old mid end (one.events ++ let_of (tenant_of f predicted index first second) ∷ []) two.events
              (adds_on P C front old new mid (let_of (tenant_of f predicted index first second) ∷ []) one.events adds one.adds) two.adds;
        };
        instr = d.its.is;
        half = sym (half_there d new adds tag tag_is);
      }

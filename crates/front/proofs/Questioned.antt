-- The questions after a let, one after another.
use Rattle.std.proofs.Common.{◌≡◌, ℕ, ◌<◌, List, [], refl, sym, subst}
use Rattle.instructions.specs.Programs.{Program}
use Rattle.inorder.specs.declared.history.Entry.{Entry}
use Rattle.inorder.specs.declared.history.Event.{Event}
use Rattle.inorder.specs.declared.history.Source.{Source}
use Rattle.inorder.specs.declared.history.Source.TheVariants.{First, Second}
use Rattle.inorder.specs.History.{IsLegal, front, unit_of}
use Rattle.inorder.specs.OneHistory.{Adds}
use Rattle.inorder.specs.Unit.{Sizes}
use Rattle.ruu_words.specs.Kinds.{IsNamed}
use Rattle.ruu_words.proofs.Stays.{named_on, one_named}
use Rattle.station.specs.declared.answers.Supply.{Supply}
use Rattle.station.specs.declared.answers.Supply.TheVariants.{From, Known}
use Rattle.station.specs.Asking.{IsQuestion}
use Rattle.station.specs.Letting.{supply_of}
use Rattle.front.specs.declared.path.base_state.Base.{Base}
use Rattle.front.specs.declared.path.record.Record.{Record}
use Rattle.front.specs.Knows.{FrontKnows}
use Rattle.front.specs.CreateTable.{HasTable}
use Rattle.front.specs.declared.path.counted.Table.{Table}
use Rattle.front.proofs.TableStays.{question_leaves_table, table_stable}
use Rattle.front.specs.Questions.{Asks, MayAskFor}
use Rattle.front.specs.Turns.{IsAskedFor}
use Rattle.front.proofs.Pending.{IsPending, first_leaves, pending_stable, question_leaves}
use Rattle.front.proofs.Splitting.{stays_under}
use Rattle.front.proofs.Stays.{knows_stable}

module _ (P : Program) (C : Sizes) where
  -- it may be asked for
  pub may_ask : (h : List Entry) (station tag : ℕ) (k : Source) (s : Supply) (r : ℕ) →
      ((a g : ℕ) → s ≡ From a g → a < C.ring) →
      ((a g : ℕ) → s ≡ From a g → (q : ℕ) × IsPending k r q station tag a g (unit_of P C h)) →
      MayAskFor P C h station tag k s
  may_ask h station tag k (Known v) r small p = tt
  may_ask h station tag k (From a g) r small p =
      let x = p a g refl in
      (small a g refl, record { r = r; q = x.0; asks = x.1.asks; last = x.1.last; creator = x.1.creator; creator_last = x.1.creator_last })

  pub record HasAsked (old new : List Entry) (r : ℕ) (k : Source) (s : Supply) : Type 0 where
    pub events : List Event
    pub asks : IsAskedFor r k (supply_of s) events
    pub adds : Adds P C front old new events
    pub knows : (records : List Record) (base : Base) → FrontKnows P C (unit_of P C old) records base → FrontKnows P C (unit_of P C new) records base
    pub table : (told : ℕ) (T : Table) → HasTable P (unit_of P C old) told T → HasTable P (unit_of P C new) told T

  pub has_asked : (old new : List Entry) → IsLegal P C old → (r station tag : ℕ) (k : Source) (s : Supply) →
      IsNamed (unit_of P C old) r station tag → Asks P C old new station tag k s →
      HasAsked old new r k s
  has_asked old new legal r station tag k (Known v) i e = record {
    events = [];
    asks = refl;
    adds = subst (λ h. Adds P C front old h []) (sym e) (record { begins = record { more = []; is = refl }; legal = legal; one_table = refl; mine = refl });
    knows = λ records base x. subst (λ h. FrontKnows P C (unit_of P C h) records base) (sym e) x;
    table = λ told T x. subst (λ h. HasTable P (unit_of P C h) told T) (sym e) x;
  }
  has_asked old new legal r station tag k (From a g) i w =
      let now = named_on P C front r station tag w.events old new w.adds i in
      let same = one_named P C new w.adds.legal w.r r station tag w.named now in
      record {
        events = w.events;
        asks = subst (λ z. IsQuestion z k w.events) same w.question;
        adds = w.adds;
        knows = λ records base x. stays_under P C (λ U. FrontKnows P C U records base) (knows_stable P C records base) w.events (question_leaves P C records base w.r k w.events w.question) old new
            w.adds x;
        table = λ told T x. stays_under P C (λ U. HasTable P U told T) (table_stable P C told T) w.events (question_leaves_table P C told T w.r k w.events w.question) old new w.adds x;
      }

  -- the question for source 1 leaves source 2
  pub second_still : (old new : List Entry) (station tag : ℕ) (s : Supply) →
      Asks P C old new station tag First s → (r q a g : ℕ) →
      IsPending Second r q station tag a g (unit_of P C old) →
      IsPending Second r q station tag a g (unit_of P C new)
  second_still old new station tag (Known v) e r q a g i = subst (λ h. IsPending Second r q station tag a g (unit_of P C h)) (sym e) i
  second_still old new station tag (From b c) w r q a g i =
      stays_under P C (IsPending Second r q station tag a g) (pending_stable P C r q station tag a g Second) w.events (first_leaves P C r q station tag a g w.r w.events w.question) old new w.adds i

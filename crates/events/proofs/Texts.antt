-- The events of a text's lines, of which the first ones are judged.
use Rattle.std.proofs.Common.{◌≡◌, ◌≢◌, ◌==◌, ℕ, suc, ◌+◌, Bool, true, false, List, [], ◌∷◌, ◌++◌, length, Option, Some, None, Result, Ok, Err, if◌then◌else◌, refl, sym, ap, ◌∙◌, subst, arith}
use Rattle.std.specs.Io.BufRead.{drop_through, take_through}
use Rattle.events.specs.declared.event.Event.{Event}
use Rattle.events.specs.declared.event.Issue.{Issue}
use Rattle.events.specs.declared.item.Item.{Item}
use Rattle.events.specs.declared.unread.Unread.{Unread as Reason}
use Rattle.events.specs.Items.{events_of}
use Rattle.events.specs.Lines.{event_in}
use Rattle.events.specs.Text.{AreRead, SaysBefore, lines_of, onto_line}

-- Lines

first_or_more : (found : Bool) (byte : ℕ) (text : List ℕ) → (text ≢ [] → lines_of text ≡ take_through 10 text ∷ lines_of (drop_through 10 text)) →
    (if found then (byte ∷ []) ∷ lines_of text else onto_line byte (lines_of text)) ≡
    (if found then byte ∷ [] else byte ∷ take_through 10 text) ∷ lines_of (if found then text else drop_through 10 text)
first_or_more true byte text rest = refl
first_or_more false byte [] rest = refl
first_or_more false byte (x ∷ xs) rest = ap (onto_line byte) (rest (λ e. cc e))

pub first_line : (text : List ℕ) → text ≢ [] → lines_of text ≡ take_through 10 text ∷ lines_of (drop_through 10 text)
first_line [] some = absurd (some refl)
first_line (byte ∷ text) some = first_or_more (byte == 10) byte text (first_line text)

-- The events of lines with their numbers, from n + 1 on

abbrev pub ItemsBefore : ℕ → Result (Option Event) Reason → (others items : List Item) → Type 0
ItemsBefore n (Ok None) others items = items ≡ others
ItemsBefore n (Ok (Some event)) others items = items ≡ record { line = n; cycle = None; event = event } ∷ others
ItemsBefore n (Err why) others items = ⊥

abbrev pub AreItems : Issue → ℕ → List (List ℕ) → List Item → Type 0
AreItems meant n [] items = items ≡ []
AreItems meant n (line ∷ lines) items =
    (others : List Item) × AreItems meant (suc n) lines others × ItemsBefore (suc n) (event_in meant line) others items

before_more : (n : ℕ) (r : Result (Option Event) Reason) (others items more : List Item) → ItemsBefore n r others items → ItemsBefore n r (others ++ more) (items ++ more)
before_more n (Ok None) others items more b = ap (λ xs. xs ++ more) b
before_more n (Ok (Some event)) others items more b = ap (λ xs. xs ++ more) b
before_more n (Err why) others items more b = b

pub one_more_line : (meant : Issue) (n k : ℕ) (lines : List (List ℕ)) (line : List ℕ) (items more : List Item) → k ≡ n + length lines →
    AreItems meant n lines items → ItemsBefore (k + 1) (event_in meant line) [] more → AreItems meant n (lines ++ line ∷ []) (items ++ more)
one_more_line meant n k [] line items more counts are b =
    let all : items ++ more ≡ more = ap (λ xs. xs ++ more) are in (
      [],
      refl,
      subst (λ xs. ItemsBefore (suc n) (event_in meant line) [] xs) (sym all)
          (subst (λ m. ItemsBefore m (event_in meant line) [] more) (grind (arith, counts)) b),
    )
one_more_line meant n k (l ∷ ls) line items more counts are b = (
  are.0 ++ more,
  one_more_line meant (suc n) k ls line are.0 more (grind (arith, counts)) are.1 b,
  before_more (suc n) (event_in meant l) are.0 items more are.2,
)

says_before : (n : ℕ) (r : Result (Option Event) Reason) (others items : List Item) → ItemsBefore n r others items → SaysBefore r (events_of others) (events_of items)
says_before n (Ok None) others items b = ap events_of b
says_before n (Ok (Some event)) others items b = ap events_of b
says_before n (Err why) others items b = b

pub are_read : (meant : Issue) (n : ℕ) (lines : List (List ℕ)) (items : List Item) → AreItems meant n lines items → AreRead meant lines (events_of items)
are_read meant n [] items are = ap events_of are
are_read meant n (line ∷ lines) items are =
    (events_of are.0, are_read meant (suc n) lines are.0 are.1, says_before (suc n) (event_in meant line) are.0 items are.2)

-- an item among those of lines, and its line
pub record IsAmong (meant : Issue) (n : ℕ) (lines : List (List ℕ)) (items : List Item) (item : Item) : Type 0 where
  pub before : List (List ℕ)
  pub line : List ℕ
  pub after : List (List ℕ)
  pub are : lines ≡ before ++ line ∷ after
  pub counts : item.line ≡ n + length before + 1
  pub says : event_in meant line ≡ Ok (Some item.event)
  pub read : AreRead meant before (events_of items)

one_of_none : (items : List Item) (item : Item) (after : List Item) → [] ≡ items ++ item ∷ after → ⊥
one_of_none [] item after e = cc e
one_of_none (i ∷ is) item after e = cc e

first_same : (x y : Item) (xs ys : List Item) → x ∷ xs ≡ y ∷ ys → (x ≡ y) × (xs ≡ ys)
first_same x y xs ys e = (cc e, cc e)

among_more : (meant : Issue) (n : ℕ) (line : List ℕ) (lines : List (List ℕ)) (items more : List Item) (item : Item) →
    IsAmong meant (suc n) lines items item → SaysBefore (event_in meant line) (events_of items) (events_of more) → IsAmong meant n (line ∷ lines) more item
among_more meant n line lines items more item p says = record {
  before = line ∷ p.before;
  line = p.line;
  after = p.after;
  are = ap (λ ls. line ∷ ls) p.are;
  counts = p.counts ∙ omega arith;
  says = p.says;
  read = (events_of items, p.read, says);
}

-- the first line has it, or the lines after that
among_first : (meant : Issue) (n : ℕ) (line : List ℕ) (lines : List (List ℕ)) (others all items : List Item) (item : Item) (after : List Item)
    (r : Result (Option Event) Reason) → event_in meant line ≡ r → ItemsBefore (suc n) r others all → all ≡ items ++ item ∷ after →
    ((xs : List Item) → others ≡ xs ++ item ∷ after → IsAmong meant (suc n) lines xs item) → IsAmong meant n (line ∷ lines) items item
among_first meant n line lines others all items item after (Ok None) is b e rest =
    among_more meant n line lines items items item (rest items (sym b ∙ e))
    (subst (λ r. SaysBefore r (events_of items) (events_of items)) (sym is) refl)
among_first meant n line lines others all [] item after (Ok (Some event)) is b e rest =
    let p = first_same (record { line = suc n; cycle = None; event = event }) item others after (sym b ∙ e) in
    record {
      before = [];
      line = line;
      after = lines;
      are = refl;
      counts = sym (ap (λ (i : Item). i.line) p.0) ∙ omega arith;
      says = is ∙ ap (λ (i : Item). Ok (Some i.event)) p.0;
      read = refl;
    }
among_first meant n line lines others all (x ∷ xs) item after (Ok (Some event)) is b e rest =
    let p = first_same (record { line = suc n; cycle = None; event = event }) x others (xs ++ item ∷ after) (sym b ∙ e) in
    among_more meant n line lines xs (x ∷ xs) item (rest xs p.1)
    (subst (λ r. SaysBefore r (events_of xs) (events_of (x ∷ xs))) (sym is) (ap (λ (i : Item). i.event ∷ events_of xs) (sym p.0)))
among_first meant n line lines others all items item after (Err why) is b e rest = absurd b

pub is_among : (meant : Issue) (n : ℕ) (lines : List (List ℕ)) (all items : List Item) (item : Item) (after : List Item) →
    AreItems meant n lines all → all ≡ items ++ item ∷ after → IsAmong meant n lines items item
is_among meant n [] all items item after are e = absurd (one_of_none items item after (sym are ∙ e))
is_among meant n (line ∷ lines) all items item after are e =
    among_first meant n line lines are.0 all items item after (event_in meant line) refl are.2 e
    (λ xs same. is_among meant (suc n) lines are.0 xs item after are.1 same)

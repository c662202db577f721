-- A verdict on a text, of which some lines were read.
use Rattle.std.proofs.Common.{◌≡◌, ℕ, ◌+◌, List, [], ◌∷◌, ◌++◌, length, Option, Some, None, Result, Ok, Err, IfSome, refl, sym, ap, ◌∙◌, subst, ⊎_elim, append_assoc, append-nil, length-append, arith}
use Rattle.std.specs.Io.BufRead.{drop_through}
use Rattle.std.specs.Io.KnownBytes.{IsAtEnd}
use Rattle.replay.specs.declared.unit.Unit.{Unit as Held}
use Rattle.events.specs.declared.event.Event.{Event}
use Rattle.events.specs.declared.event.Issue.{Issue}
use Rattle.events.specs.declared.item.Item.{Item}
use Rattle.events.specs.declared.log_judge.LogJudge.{LogJudge}
use Rattle.events.specs.declared.text.Said.TheVariants as saying
use Rattle.events.specs.declared.unread.Unread.{Unread as Reason}
use Rattle.events.specs.declared.verdict.Refused.{Refused as Refusal}
use Rattle.events.specs.declared.verdict.Verdict.{Verdict}
use Rattle.events.specs.declared.verdict.Verdict.TheVariants.{Legal, Refused, Unread}
use Rattle.events.specs.Items.{IsClosed, IsRefusedAmong, Judges, events_of}
use Rattle.events.specs.Lines.{event_in}
use Rattle.events.specs.Logs.{AreTaken}
use Rattle.events.specs.Text.{AreLegal, IsFirst, IsLineRead, IsRefused, IsVerdict, Reads, lines_of, said}
use Rattle.events.proofs.InTurn.{refused_late, taken_both}
use Rattle.events.proofs.Texts.{AreItems, ItemsBefore, are_read, first_line, is_among, one_more_line}

-- the first n lines of a text were read; of their events the first ones are taken in turn from u to w, and the others wait
pub record IsBegun (meant : Issue) (text : List ℕ) (left : Option (List ℕ)) (n : ℕ) (u w : Held) (waiting : List Item) : Type 0 where
  pub rest : List ℕ
  pub known : left ≡ Some rest
  pub lines : List (List ℕ)
  pub are : lines_of text ≡ lines ++ lines_of rest
  pub counts : length lines ≡ n
  pub items : List Item
  pub read : AreItems meant 0 lines items
  pub judged : List Item
  pub order : items ≡ judged ++ waiting
  pub taken : AreTaken u (events_of judged) w

abbrev pub HasBegun : Issue → (from left : Option (List ℕ)) → ℕ → (u w : Held) → List Item → Type 0
HasBegun meant from left n u w waiting = IfSome from (λ text. IsBegun meant text left n u w waiting)

on_some : (from : Option (List ℕ)) (P Q : List ℕ → Type 0) → ((text : List ℕ) → P text → Q text) → IfSome from P → IfSome from Q
on_some None P Q f p = p
on_some (Some text) P Q f p = f text p

pub begins : (meant : Issue) (from : Option (List ℕ)) (u w : Held) (waiting : List Item) → w ≡ u → waiting ≡ [] → HasBegun meant from from 0 u w waiting
begins meant None u w waiting same none = tt
begins meant (Some text) u w waiting same none = record {
  rest = text;
  known = refl;
  lines = [];
  are = refl;
  counts = refl;
  items = [];
  read = refl;
  judged = [];
  order = sym none;
  taken = same;
}

-- What one more line says

first_of : (from : Option (List ℕ)) (rest line : List ℕ) (left : Option (List ℕ)) → from ≡ Some rest → IsLineRead from line left → IsFirst rest line left
first_of from rest line left known read = subst (λ f. IfSome f (λ text. IsFirst text line left)) known read

event_said : (n : ℕ) (r : Result (Option Event) Reason) (item : Item) → saying.Event item ≡ said n r → ItemsBefore n r [] (item ∷ [])
event_said n (Ok None) item e = absurd (cc e)
event_said n (Ok (Some event)) item e = ap (λ i. i ∷ []) (cc e)
event_said n (Err why) item e = absurd (cc e)

nothing_said : (n : ℕ) (r : Result (Option Event) Reason) → saying.Nothing ≡ said n r → ItemsBefore n r [] []
nothing_said n (Ok None) e = refl
nothing_said n (Ok (Some event)) e = absurd (cc e)
nothing_said n (Err why) e = absurd (cc e)

unread_said : (n m : ℕ) (r : Result (Option Event) Reason) (why : Reason) → saying.Unread m why ≡ said n r → (m ≡ n) × (r ≡ Err why)
unread_said n m (Ok None) why e = absurd (cc e)
unread_said n m (Ok (Some event)) why e = absurd (cc e)
unread_said n m (Err reason) why e = (cc e, ap Err (cc e))

read_one : (meant : Issue) (text : List ℕ) (from left : Option (List ℕ)) (n : ℕ) (u w : Held) (waiting more : List Item) (line : List ℕ) →
    IsBegun meant text from n u w waiting → IsLineRead from line left → ItemsBefore (n + 1) (event_in meant line) [] more →
    IsBegun meant text left (n + 1) u w (waiting ++ more)
read_one meant text from left n u w waiting more line b read says =
    let first = first_of from b.rest line left b.known read in
    let rest : lines_of b.rest ≡ line ∷ lines_of (drop_through 10 b.rest) =
    first_line b.rest first.some ∙ ap (λ l. l ∷ lines_of (drop_through 10 b.rest)) (sym first.is) in
    record {
      rest = drop_through 10 b.rest;
      known = first.leaves;
      lines = b.lines ++ line ∷ [];
      are = b.are ∙ ap (λ ls. b.lines ++ ls) rest ∙ sym (append_assoc b.lines (line ∷ []) (lines_of (drop_through 10 b.rest)));
      counts = length-append b.lines (line ∷ []) ∙ ap (λ k. k + 1) b.counts;
      items = b.items ++ more;
      read = one_more_line meant 0 n b.lines line b.items more (grind (arith, b.counts)) b.read says;
      judged = b.judged;
      order = ap (λ xs. xs ++ more) b.order ∙ append_assoc b.judged waiting more;
      taken = b.taken;
    }

pub event_read : (meant : Issue) (from at left : Option (List ℕ)) (n : ℕ) (u w : Held) (waiting : List Item) (item : Item) →
    HasBegun meant from at n u w waiting → Reads meant (n + 1) at (saying.Event item) left → HasBegun meant from left (n + 1) u w (waiting ++ item ∷ [])
event_read meant from at left n u w waiting item b r =
    on_some from (λ text. IsBegun meant text at n u w waiting) (λ text. IsBegun meant text left (n + 1) u w (waiting ++ item ∷ []))
    (λ text c. read_one meant text at left n u w waiting (item ∷ []) r.line c r.read (event_said (n + 1) (event_in meant r.line) item r.says)) b

pub nothing_read : (meant : Issue) (from at left : Option (List ℕ)) (n : ℕ) (u w : Held) (waiting : List Item) →
    HasBegun meant from at n u w waiting → Reads meant (n + 1) at saying.Nothing left → HasBegun meant from left (n + 1) u w waiting
nothing_read meant from at left n u w waiting b r =
    on_some from (λ text. IsBegun meant text at n u w waiting) (λ text. IsBegun meant text left (n + 1) u w waiting)
    (λ text c. subst (λ xs. IsBegun meant text left (n + 1) u w xs) (append-nil waiting)
    (read_one meant text at left n u w waiting [] r.line c r.read (nothing_said (n + 1) (event_in meant r.line) r.says))) b

-- more of the events are judged
pub judged_more : (meant : Issue) (from left : Option (List ℕ)) (n : ℕ) (u : Held) (told : List Item) (a b : LogJudge) →
    HasBegun meant from left n u a.judge.unit (a.waiting.items ++ told) → Judges a told b → HasBegun meant from left n u b.judge.unit b.waiting.items
judged_more meant from left n u told a b h j =
    on_some from (λ text. IsBegun meant text left n u a.judge.unit (a.waiting.items ++ told)) (λ text. IsBegun meant text left n u b.judge.unit b.waiting.items)
    (λ text c. record {
      rest = c.rest;
      known = c.known;
      lines = c.lines;
      are = c.are;
      counts = c.counts;
      items = c.items;
      read = c.read;
      judged = c.judged ++ j.judged;
      order = c.order ∙ ap (λ xs. c.judged ++ xs) j.are ∙ sym (append_assoc c.judged j.judged b.waiting.items);
      taken = taken_both u a.judge.unit b.judge.unit c.judged j.judged c.taken j.taken;
    }) h

-- Verdicts

legal_lines : (meant : Issue) (text : List ℕ) (left : Option (List ℕ)) (n : ℕ) (u w v : Held) (waiting : List Item) →
    (b : IsBegun meant text left n u w waiting) → AreTaken w (events_of waiting) v → AreLegal meant u b.lines v
legal_lines meant text left n u w v waiting b taken = record {
  events = events_of b.items;
  say = are_read meant 0 b.lines b.items b.read;
  taken = subst (λ xs. AreTaken u (events_of xs) v) (sym b.order) (taken_both u w v b.judged waiting b.taken taken);
}

refused_in : (meant : Issue) (text : List ℕ) (left : Option (List ℕ)) (n : ℕ) (u w v : Held) (waiting : List Item) (refused : Refusal) →
    IsBegun meant text left n u w waiting → IsRefusedAmong w waiting refused v → IsRefused meant u text refused v
refused_in meant text left n u w v waiting refused b r =
    let all = refused_late u w v b.judged waiting refused b.taken r in
    let p = is_among meant 0 b.lines b.items all.before refused.item all.after b.read (b.order ∙ all.are) in
    record {
      before = p.before;
      line = p.line;
      is = record {
        after = p.after ++ lines_of b.rest;
        are = b.are ∙ ap (λ ls. ls ++ lines_of b.rest) p.are ∙ append_assoc p.before (p.line ∷ p.after) (lines_of b.rest);
        counts = grind (arith, p.counts);
      };
      says = p.says;
      at = all.at;
      legal = record { events = events_of all.before; say = p.read; taken = all.taken };
      refuses = all.refuses;
    }

at_end : (left : Option (List ℕ)) (rest : List ℕ) → left ≡ Some rest → IsAtEnd left → rest ≡ []
at_end left rest known end = subst IsAtEnd known end

pub refused_verdict : (meant : Issue) (from left : Option (List ℕ)) (n : ℕ) (u w v : Held) (waiting : List Item) (refused : Refusal) →
    HasBegun meant from left n u w waiting → IsRefusedAmong w waiting refused v → IfSome from (λ text. IsVerdict meant u text (Refused refused) v)
refused_verdict meant from left n u w v waiting refused b r =
    on_some from (λ text. IsBegun meant text left n u w waiting) (λ text. IsVerdict meant u text (Refused refused) v)
    (λ text c. refused_in meant text left n u w v waiting refused c r) b

-- the verdict once what has waited is judged: the one that closes the log, or that an event is refused
closed : (meant : Issue) (text : List ℕ) (left : Option (List ℕ)) (n : ℕ) (u : Held) (a b : LogJudge) (verdict answer : Verdict) →
    IsBegun meant text left n u a.judge.unit a.waiting.items → IsClosed a verdict b answer →
    (AreTaken a.judge.unit (events_of a.waiting.items) b.judge.unit → IsVerdict meant u text verdict b.judge.unit) →
    IsVerdict meant u text answer b.judge.unit
closed meant text left n u a b verdict answer begun c so =
    ⊎_elim (λ d. subst (λ x. IsVerdict meant u text x b.judge.unit) (sym d.0) (so d.1))
    (λ d. subst (λ x. IsVerdict meant u text x b.judge.unit) (sym d.1)
    (refused_in meant text left n u a.judge.unit b.judge.unit a.waiting.items d.0 begun d.2)) c

pub legal_verdict : (meant : Issue) (from left : Option (List ℕ)) (n : ℕ) (u : Held) (a b : LogJudge) (answer : Verdict) →
    HasBegun meant from left n u a.judge.unit a.waiting.items → IsAtEnd left → IsClosed a Legal b answer →
    IfSome from (λ text. IsVerdict meant u text answer b.judge.unit)
legal_verdict meant from left n u a b answer h end c =
    on_some from (λ text. IsBegun meant text left n u a.judge.unit a.waiting.items) (λ text. IsVerdict meant u text answer b.judge.unit)
    (λ text begun. closed meant text left n u a b Legal answer begun c (λ taken.
    subst (λ ls. AreLegal meant u ls b.judge.unit)
    (sym (begun.are ∙ ap (λ r. begun.lines ++ lines_of r) (at_end left begun.rest begun.known end) ∙ append-nil begun.lines))
    (legal_lines meant text left n u a.judge.unit b.judge.unit a.waiting.items begun taken))) h

pub unread_verdict : (meant : Issue) (from at left : Option (List ℕ)) (n m : ℕ) (why : Reason) (u : Held) (a b : LogJudge) (answer : Verdict) →
    HasBegun meant from at n u a.judge.unit a.waiting.items → Reads meant (n + 1) at (saying.Unread m why) left → IsClosed a (Unread m why) b answer →
    IfSome from (λ text. IsVerdict meant u text answer b.judge.unit)
unread_verdict meant from at left n m why u a b answer h r c =
    on_some from (λ text. IsBegun meant text at n u a.judge.unit a.waiting.items) (λ text. IsVerdict meant u text answer b.judge.unit)
    (λ text begun. closed meant text at n u a b (Unread m why) answer begun c (λ taken.
    let first = first_of at begun.rest r.line left begun.known r.read in
    let says = unread_said (n + 1) m (event_in meant r.line) why r.says in
    record {
      before = begun.lines;
      line = r.line;
      is = record {
        after = lines_of (drop_through 10 begun.rest);
        are = begun.are ∙ ap (λ ls. begun.lines ++ ls)
            (first_line begun.rest first.some ∙ ap (λ l. l ∷ lines_of (drop_through 10 begun.rest)) (sym first.is));
        counts = says.0 ∙ ap (λ k. k + 1) (sym begun.counts);
      };
      unread = says.1;
      legal = legal_lines meant text at n u a.judge.unit b.judge.unit a.waiting.items begun taken;
    })) h

pub verdict_is : (meant : Issue) (from : Option (List ℕ)) (u : Held) (answer verdict : Verdict) (a b : LogJudge) → answer ≡ verdict → a ≡ b →
    IfSome from (λ text. IsVerdict meant u text verdict b.judge.unit) → IfSome from (λ text. IsVerdict meant u text answer a.judge.unit)
verdict_is meant from u answer verdict a b is same v =
    subst (λ (j : LogJudge). IfSome from (λ text. IsVerdict meant u text answer j.judge.unit)) (sym same)
    (subst (λ x. IfSome from (λ text. IsVerdict meant u text x b.judge.unit)) (sym is) v)

-- Lines that are done again, and several times.
use Rattle.std.proofs.Common.{◌≡◌, inr, true, false, ℕ, ◌+◌, ◌<◌, List, [], ◌∷◌, ◌++◌, Result, Ok, Err, IfOk, arith, length, drop, get_or, refl, sym, ap, ◌∙◌, subst, add-one, append_assoc}
use Rattle.std.proofs.lemmas.List.{drop_more}
use Rattle.session.specs.declared.reading.Line.{Line}
use Rattle.session.specs.Texts.{HasAddedText}
use Rattle.session.specs.Lines.{is_undo}
use Rattle.session.specs.Sessions.{TheSession}
use Rattle.session.specs.Undoing.{ComesTo, HasRun, LineComesTo, LineIsDone, SaysOnce, UndoSays, nothing_text}

-- What the rest of some lines does is what all of them do
abbrev pub LeadsOn : (rest whole : List Line) → (here first : TheSession) → Type 0
LeadsOn rest whole here first = (last : TheSession) → HasRun rest here last → HasRun whole first last

pub one_more_run : (whole : List Line) (at : ℕ) (d : Line) (here next first : TheSession) (text : List ℕ) →
    at < length whole → LeadsOn (drop at whole) whole here first → LineIsDone here next 0 (get_or whole at d) text → LeadsOn (drop (at + 1) whole) whole next first
one_more_run whole at d here next first text within leads done = λ last runs.
    leads last (subst (λ (ls : List Line). HasRun ls here last) (sym (drop_more whole at d within)) (next, text, done, runs))

-- A line is done once more
pub one_more_time : (a b c : TheSession) (number n : ℕ) (line : Line) (before middle after : List ℕ) →
    HasAddedText (ComesTo n a b number line) before middle → HasAddedText (LineComesTo b c number line) middle after → HasAddedText (ComesTo (n + 1) a c number line) before after
one_more_time a b c number n line before middle after added more = record {
  text = added.text ++ more.text;
  fact = subst (λ k. ComesTo k a c number line (added.text ++ more.text)) (sym (add-one n)) (b, added.text, more.text, added.fact, more.fact, refl);
  written = more.written ∙ (ap (λ xs. xs ++ more.text) added.written ∙ append_assoc before added.text more.text);
}

-- A session without lines
without_lines : (s new : TheSession) → s.lines ≡ [] → new ≡ record s { lines = [] } → new ≡ s
without_lines s new none is = is ∙ (λ i. record s { lines = sym none i })

module _ {S E : Type 0} (bytes : S → List ℕ) where
  pub had_nothing : (r : Result S E) (old new : TheSession) (number : ℕ) → old.lines ≡ [] → new ≡ record old { lines = [] } →
      IfOk r (λ s. bytes s ≡ nothing_text number) → IfOk r (λ s. UndoSays old new number (bytes s))
  had_nothing (Ok s) old new number none is text = inr (record { none = none; same = without_lines old new none is; text_is = text })
  had_nothing (Err e) old new number none is text = tt

  pub as_undo : (r : Result S E) (old new : TheSession) (number : ℕ) (line : Line) → is_undo line ≡ true →
      IfOk r (λ s. UndoSays old new number (bytes s)) → IfOk r (λ s. LineComesTo old new number line (bytes s))
  as_undo (Ok s) old new number line is says = subst (λ b. SaysOnce b old new number line (bytes s)) (sym is) says
  as_undo (Err e) old new number line is says = tt

  pub as_done : (r : Result S E) (old new : TheSession) (number : ℕ) (line : Line) → is_undo line ≡ false →
      IfOk r (λ s. LineIsDone old new number line (bytes s)) → IfOk r (λ s. LineComesTo old new number line (bytes s))
  as_done (Ok s) old new number line is done = subst (λ b. SaysOnce b old new number line (bytes s)) (sym is) done
  as_done (Err e) old new number line is done = tt

-- A list without elements
pub no_items : {A : Type 0} (xs : List A) → length xs ≡ 0 → xs ≡ []
no_items [] e = refl
no_items (x ∷ xs) e = grind (arith, e)
